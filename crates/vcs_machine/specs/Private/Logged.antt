-- A bus that lists the data accesses, as far as it has room for them. This project's own.
use Rattle.std.specs.Prelude.{List, [], ◌∷◌, ◌++◌, length, nat_lt, if◌then◌else◌, true, false}
use Rattle.mos_cpu.specs.Buses.{Meaning}
use Rattle.vcs_machine.specs.declared.executed.DataAccess.{DataAccess}

pub record Logged (S : Type 0) : Type 0 where
  pub bus : S
  pub accesses : List DataAccess

abbrev pub with_access : List DataAccess → DataAccess → List DataAccess
with_access accesses access = if nat_lt (length accesses) 8 then accesses ++ access ∷ [] else accesses

unfoldable pub logging : {S : Type 0} → Meaning S → Meaning (Logged S)
logging m = record {
  passed = λ l n. record { bus = m.passed l.bus n; accesses = l.accesses };
  read_value = λ l at. m.read_value l.bus at;
  after_read = λ l at. record {
    bus = m.after_read l.bus at;
    accesses = with_access l.accesses (record { is_write = false; address = at; byte = m.read_value l.bus at });
  };
  after_write = λ l at v. record {
    bus = m.after_write l.bus at v;
    accesses = with_access l.accesses (record { is_write = true; address = at; byte = v });
  };
  peeked = λ l at. m.peeked l.bus at;
  peeked_zero = λ l at. m.peeked_zero l.bus at;
}
