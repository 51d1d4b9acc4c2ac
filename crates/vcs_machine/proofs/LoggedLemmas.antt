-- A bus that lists data accesses lists those of an instruction, with their bytes.
use Rattle.std.proofs.Common.{◌≡◌, ℕ, ◌+◌, ◌<◌, ◌≤◌, List, [], ◌∷◌, ◌++◌, length}
use Rattle.std.proofs.Common.{Result, Ok, Err, true, refl, sym, ap, ◌∙◌, arith, append_assoc, append-nil}
use Rattle.std.specs.Prelude.{fold, nat_lt}
use Rattle.std.proofs.lemmas.Bool.Decides.{nat_tests}
use Rattle.std.proofs.lemmas.List.{length-append}
use Rattle.mos_cpu.specs.Accesses.{accesses_of, instruction_cycles}
use Rattle.mos_cpu.specs.Buses.{Meaning, Respects}
use Rattle.mos_cpu.specs.Execution.{Progress, after_access, after_transfer, at_start, map_step, step_by}
use Rattle.mos_cpu.specs.Execution.{step_of}
use Rattle.mos_cpu.specs.Operands.{Instruction, instruction_at}
use Rattle.mos_cpu.specs.Registers.{Registers}
use Rattle.mos_cpu.specs.declared.access.Access.{Access}
use Rattle.mos_cpu.specs.declared.access.Transfer.{Transfer}
use Rattle.mos_cpu.specs.declared.access.Transfer.TheVariants.{Read}
use Rattle.mos_cpu.specs.declared.fault.CpuFault.{CpuFault}
use Rattle.mos_cpu.specs.declared.operation.Operation.{Operation}
use Rattle.mos_cpu.proofs.AccessLemmas.{accesses_of-most}
use Rattle.mos_cpu.proofs.AlongMaps.{decoded-along, step_of-along}
use Rattle.vcs_machine.specs.Instructions.{accesses_by, data_accesses, with_byte, with_bytes}
use Rattle.vcs_machine.specs.Private.Logged.{Logged, logging}
use Rattle.vcs_machine.specs.declared.executed.DataAccess.{DataAccess}

-- ---- what is listed
module _ {S : Type 0} (m : Meaning S) where
  -- The same without the list, and with it.
  abbrev pub plain : Progress (Logged S) → Progress S
  plain g = record { bus = g.bus.bus; cycle = g.cycle; bytes = g.bytes }

  abbrev listed : Progress S → List DataAccess → Progress (Logged S)
  listed g accesses = record { bus = record { bus = g.bus; accesses = accesses }; cycle = g.cycle; bytes = g.bytes }

  one : (o : Operation) (p : ℕ) (g : Progress (Logged S)) (cycle address : ℕ) (t : Transfer) → length g.bus.accesses < 8
      → after_transfer (logging m) o p g cycle address t
      ≡ listed (after_transfer m o p (plain g) cycle address t) (g.bus.accesses ++ with_byte m o p (plain g) cycle address t ∷ [])
  unfolding logging
  one o p g cycle address Read room = let fits : nat_lt (length g.bus.accesses) 8 ≡ true = grind (arith, nat_tests) in rw fits refl
  one o p g cycle address write room = let fits : nat_lt (length g.bus.accesses) 8 ≡ true = grind (arith, nat_tests) in rw fits refl

  all : (o : Operation) (p : ℕ) (g : Progress (Logged S)) (accesses : List Access) → length g.bus.accesses + length accesses ≤ 8
      → (fold (after_access (logging m) o p) g accesses).bus.accesses ≡ g.bus.accesses ++ with_bytes m o p (plain g) accesses
  all o p g [] room = sym (append-nil g.bus.accesses)
  all o p g (access ∷ more) room =
      let byte = with_byte m o p (plain g) access.cycle access.address access.transfer in
      let next = listed (after_access m o p (plain g) access) (g.bus.accesses ++ byte ∷ []) in
      let longer = length-append g.bus.accesses (byte ∷ []) in
      ap (λ (q : Progress (Logged S)). (fold (after_access (logging m) o p) q more).bus.accesses)
      (one o p g access.cycle access.address access.transfer (omega (arith, room)))
      ∙ all o p next more (omega (arith, room, longer))
      ∙ append_assoc g.bus.accesses (byte ∷ []) (with_bytes m o p (plain next) more)

  abbrev pub unlisted : S → Logged S
  unlisted s = record { bus = s; accesses = [] }

  pub logging-respects : Respects (logging m) m (λ l. l.bus)
  unfolding logging
  logging-respects = record {
    passed = λ l n. refl;
    read_value = λ l at. refl;
    after_read = λ l at. refl;
    after_write = λ l at v. refl;
    peeked = λ l at. refl;
    peeked_zero = λ l at. refl;
  }

  by_instruction : (r : Registers) (s : S) (d : Result Instruction CpuFault)
      → (step_by (logging m) r (unlisted s) d).bus.accesses ≡ accesses_by m r s d
  unfolding logging
  by_instruction r s (Err fault) = refl
  by_instruction r s (Ok i) =
      all i.row.operation r.p (at_start (unlisted s)) (accesses_of i r (instruction_cycles i r.p))
      (omega (arith, accesses_of-most i r (instruction_cycles i r.p)))

  -- The list after an instruction, if it was empty before.
  pub logged-accesses : (r : Registers) (s : S) → (step_of (logging m) r (unlisted s)).bus.accesses ≡ data_accesses m r s
  unfolding data_accesses
  logged-accesses r s =
      ap (λ (d : Result Instruction CpuFault). (step_by (logging m) r (unlisted s) d).bus.accesses)
      (sym (decoded-along (logging m) m (λ l. l.bus) logging-respects r (unlisted s)))
      ∙ by_instruction r s (instruction_at m s r)

  -- What an instruction answers and leaves on the bus below.
  pub logged-below : (r : Registers) (l : Logged S) → step_of m r l.bus ≡ map_step (λ l. l.bus) (step_of (logging m) r l)
  logged-below r l = step_of-along (logging m) m (λ l. l.bus) logging-respects r l
