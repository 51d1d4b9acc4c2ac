-- What a bus with a log is. The form is this project's own.
use Rattle.std.specs.Prelude.{ℕ, ◌+◌, ◌%◌, ◌^◌, nat_lt, if◌then◌else◌, List, [], ◌∷◌, ◌++◌, length}
use Rattle.std.specs.Prelude.{Some, slice_index, slice_set}
use Rattle.mos_cpu.specs.Buses.{Meaning}
use Rattle.test_manuals.specs.declared.event.Event.{Event}
use Rattle.test_manuals.specs.declared.event.Event.TheVariants.{Read, Write}

-- A memory of 65,536 bytes, the cycles that passed modulo 2 ^ 32, and the first eight accesses.
pub record Trace : Type 0 where
  pub memory : List ℕ
  pub clock : ℕ
  pub events : List Event

abbrev pub with_event : Trace → Event → Trace
with_event t e = if nat_lt (length t.events) 8 then record t { events = t.events ++ e ∷ [] } else t

abbrev pub trace_meaning : Meaning Trace
trace_meaning =
    record {
      passed = λ t n. record t { clock = (t.clock + n) % 2 ^ 32 };
      read_value = λ t at. slice_index t.memory at;
      after_read = λ t at. with_event t (Read t.clock at);
      after_write = λ t at v. with_event (record t { memory = slice_set t.memory at v }) (Write t.clock at v);
      peeked = λ t at. Some (slice_index t.memory at);
      peeked_zero = λ t at. slice_index t.memory at;
    }
