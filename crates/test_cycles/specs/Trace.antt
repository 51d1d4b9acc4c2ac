-- What a bus with a log is. The form is this project's own.
use Rattle.std.specs.Prelude.{ℕ, Bool, not, nat_eq, nat_lt, if◌then◌else◌, List, [], ◌∷◌, ◌++◌, length, Option, Some, None}
use Rattle.std.specs.Prelude.{slice_index, slice_set, true}
use Rattle.bus_cycles.specs.Buses.{Meaning}
use Rattle.bus_cycles.specs.declared.bus.Purpose.{Purpose}
use Rattle.bus_cycles.specs.declared.bus.Purpose.TheVariants.{Code, Pointer, Data, Discarded}
use Rattle.test_cycles.specs.declared.access.Access.{Access}
use Rattle.test_cycles.specs.declared.access.What.{What}
use Rattle.test_cycles.specs.declared.access.What.TheVariants as what

-- A memory of 65,536 bytes, one address from which nothing can be fetched, and the first eight accesses.
pub record Trace : Type 0 where
  pub memory : List ℕ
  pub outside : Option ℕ
  pub accesses : List Access

abbrev pub is_inside : Option ℕ → ℕ → Bool
is_inside None at = true
is_inside (Some outside) at = not (nat_eq outside at)

abbrev pub what_of : Purpose → What
what_of Code = what.Fetch
what_of Pointer = what.Pointer
what_of Data = what.Read
what_of Discarded = what.Discard

abbrev pub with_access : Trace → Access → Trace
with_access t a = if nat_lt (length t.accesses) 8 then record t { accesses = t.accesses ++ a ∷ [] } else t

abbrev pub trace_meaning : Meaning Trace
trace_meaning =
    record {
      holds_code = λ t at. is_inside t.outside at;
      read_value = λ t at. slice_index t.memory at;
      after_read = λ t purpose at. with_access t (record { what = what_of purpose; address = at; byte = slice_index t.memory at });
      after_write = λ t at v. with_access (record t { memory = slice_set t.memory at v }) (record { what = what.Write; address = at; byte = v });
    }
