-- Rounds of a loop that waits for the timer.
use Rattle.std.proofs.Common.{◌≡◌, ℕ, zero, suc, ◌+◌, ◌-◌, ◌*◌, ◌/◌, ◌%◌, ◌==◌, ◌<◌, ◌≤◌}
use Rattle.std.proofs.Common.{Bool, true, false, refl, ap, ◌∙◌, arith, not, add-zero}
use Rattle.std.specs.Prelude.{if◌then◌else◌, Err, Ok, Some, pos, ◌+ℤ◌}
use Rattle.std.proofs.lemmas.Bool.Decides.{nat_tests}
use Rattle.std.proofs.Math.Nat.{le-div_iff_mul-le}
use Rattle.std.proofs.lemmas.Int.{ints}
use Rattle.mos_cpu.specs.Accesses.{is_taken}
use Rattle.mos_cpu.specs.Arithmetic.{load_of}
use Rattle.mos_cpu.specs.Effects.{with_a, with_pc}
use Rattle.mos_cpu.specs.Execution.{step_of}
use Rattle.mos_cpu.specs.Numbers.{modulo, signed}
use Rattle.mos_cpu.specs.Opcodes.{row_of, row_with}
use Rattle.mos_cpu.specs.Private.OpcodeRuns.{IsBranch, IsReader, IsStepOf}
use Rattle.mos_cpu.specs.Registers.{Registers}
use Rattle.mos_cpu.specs.Status.{with_nz}
use Rattle.mos_cpu.specs.declared.addressing.Target.{Target}
use Rattle.mos_cpu.specs.declared.fault.CpuFault.{CpuFault}
use Rattle.mos_cpu.specs.declared.mode.Mode.TheVariants.{Absolute, Relative}
use Rattle.mos_cpu.specs.declared.operation.Operation.TheVariants.{Lda}
use Rattle.mos_cpu.proofs.OpcodeRunLemmas.{step_of-read, step_of-taken}
use Rattle.riot_map.specs.Bits.{has_bit}
use Rattle.riot_map.specs.Cart.{cart_byte}
use Rattle.riot_map.specs.Riot.{RiotState, after_cycles, riot_read}
use Rattle.riot_map.specs.Timer.{Countdown, cycles_above, intim}
use Rattle.riot_map.specs.declared.places.Place.TheVariants.{Io}
use Rattle.riot_map.proofs.RiotLemmas.{read-again, value-again}
use Rattle.riot_map.proofs.TimerLemmas.{ShowsAtLeast, shown-above}
use Rattle.vcs_machine.specs.Consoles.{Console, after_wait, frame_meaning_of, meaning_of, passed, read_at}
use Rattle.vcs_machine.specs.Consoles.{wait_cycles}
use Rattle.vcs_machine.specs.Frame.{Faulty, Machine, Went, overlong_cycles, stop_of, turn}
use Rattle.vcs_machine.specs.Private.Polls.{IsPoll, GoOn, after_load, goes_on, least_of, loaded_at, opcode_of}
use Rattle.vcs_machine.specs.Private.Polls.{operation_of}
use Rattle.vcs_machine.specs.declared.polls.Branch.{Branch}
use Rattle.vcs_machine.specs.declared.polls.Poll.{Poll}
use Rattle.vcs_machine.proofs.LagLemmas.{riot-add, sink-later, tia-later}
use Rattle.vcs_machine.proofs.OneStop.{stops-later}

-- ---- the status after a load
taken-told : (branch : Branch) (byte p : ℕ) → p < 256 → is_taken (operation_of branch) (with_nz byte p) ≡ goes_on branch byte
taken-told branch byte p h = grind arith

load-again : (byte before p : ℕ) → p < 256 → with_nz byte (with_nz before p) ≡ with_nz byte p
load-again byte before p h = grind (arith, nat_tests)

signed-byte : (byte p : ℕ) → p < 256 → with_nz byte p < 256
signed-byte byte p h = grind (arith, nat_tests)

-- ---- cycles that pass in two parts
pub passed-add : {S : Type 0} (drawn : S → ℕ → ℕ → ℕ → S) (c : Console S) (a b : ℕ) → passed drawn (passed drawn c a) b ≡ passed drawn c (a + b)
passed-add drawn c a b = rw (riot-add a b c.riot, tia-later a b c.tia, sink-later drawn a b c.tia c.sink) refl

-- ---- the two instructions of a round
branches : (branch : Branch) → IsBranch (operation_of branch)
branches branch = grind arith

loads : IsReader Lda
loads = record { used = refl; plain = refl; same = λ _ _ _ _. refl }

opcode_row : (branch : Branch) → row_of (opcode_of branch) ≡ Some (row_with (operation_of branch) Relative 2 false)
opcode_row branch = grind arith

back_by_five : (base : ℕ) → 5 ≤ base → base < 65536 → modulo (pos base +ℤ signed 0xFB) 65536 ≡ base - 5
back_by_five base h k = grind (arith, ints)

module _ {S : Type 0} (drawn : S → ℕ → ℕ → ℕ → S) (poll : Poll) (pc : ℕ) (c : Console S) (k : IsPoll c.cartridge c.bank pc poll) where
  -- The bytes of the loop are at hand.
  peeks : (address : ℕ) → pc - 3 ≤ address → address ≤ pc + 1 → (meaning_of drawn).peeked c address ≡ Some (cart_byte c.cartridge c.bank address)
  unfolding meaning_of
  peeks address least most = let high : address / 4096 % 2 ≡ 1 = omega (arith, k.high, k.first, k.last) in rw high refl

  branch_step : (r : Registers) → r.pc ≡ pc → is_taken (operation_of poll.branch) r.p ≡ true
      → IsStepOf (meaning_of drawn) r c (poll.cycles - 4) (with_pc r (pc - 3)) (passed drawn c (poll.cycles - 4))
  unfolding meaning_of
  branch_step r at taken =
      let next : (pc + 2) % 65536 ≡ pc + 2 = omega (arith, k.word, k.last) in
      let after : (pc + 1) % 65536 ≡ pc + 1 = omega (arith, k.word, k.last) in
      let back : modulo (pos (pc + 2) +ℤ signed 0xFB) 65536 ≡ pc - 3 =
      back_by_five (pc + 2) (omega (arith, k.first)) (omega (arith, k.word, k.last)) ∙ (omega arith) in
      let target : Target = record { address = pc - 3; crossed = not ((pc + 2) / 256 == (pc - 3) / 256); next = 0 } in
      step_of-taken (meaning_of drawn) r c (operation_of poll.branch) 0xFB target (poll.cycles - 4)
      (omega (arith, k.cycles)) (branches poll.branch)
      (rw (at, peeks pc (omega arith) (omega arith), k.branch, opcode_row poll.branch) refl)
      (rw (at, after, peeks (pc + 1) (omega arith) (omega arith), k.offset) refl)
      (rw (at, next, back) refl) taken

  load_step : (r : Registers) → r.pc ≡ pc - 3
      → (let bus = passed drawn c 4 in
      IsStepOf (meaning_of drawn) r c 4 (with_a (with_pc r pc) (load_of (riot_read bus.riot poll.register) r.p)) (read_at bus (Io poll.register)))
  unfolding meaning_of after_cycles
  load_step r at =
      let low : (pc - 3 + 1) % 65536 ≡ pc - 2 = omega (arith, k.word, k.first) in
      let top : (pc - 3 + 2) % 65536 ≡ pc - 1 = omega (arith, k.word, k.first) in
      let next : pc ≡ (pc - 3 + 3) % 65536 = omega (arith, k.word, k.first) in
      let address = cart_byte c.cartridge c.bank (pc - 2) + 256 * cart_byte c.cartridge c.bank (pc - 1) in
      let read = step_of-read (meaning_of drawn) r c Lda Absolute 4 false (record { address = address; crossed = false; next = pc }) 4 loads
      (rw (at, peeks (pc - 3) (omega arith) (omega arith), k.load) refl)
      (record {
        named = rw (at, low, top, peeks (pc - 2) (omega arith) (omega arith), peeks (pc - 1) (omega arith) (omega arith)) refl;
        next = rw at next;
      }) refl in
      rw k.place at read

-- ---- rounds
module _ {S : Type 0} (drawn : S → ℕ → ℕ → ℕ → S) where
  -- What the rounds of a loop begin with: nothing is asked for, the machine is at the branch, and
  -- the branch is taken.
  pub record IsAtBranch (poll : Poll) (m : Machine (Console S)) : Type 0 where
    pub loop : IsPoll m.bus.cartridge m.bus.bank m.registers.pc poll
    pub no_wait : m.bus.awaits_line ≡ false
    pub no_end : m.bus.ended ≡ false
    pub byte : m.registers.p < 256
    pub taken : is_taken (operation_of poll.branch) m.registers.p ≡ true

  -- An instruction with its wait, one that asks for none, and one that faults.
  pub waited_turn : (m : Machine (Console S)) (n : ℕ) (r : Registers) (bus : Console S)
      → (let step = step_of (meaning_of drawn) m.registers m.bus in Ok n ≡ step.answer → r ≡ step.registers → bus ≡ step.bus
      → turn (frame_meaning_of drawn) m ≡ Went (record { registers = r; bus = after_wait drawn bus; cycles = m.cycles + n + wait_cycles bus }))
  unfolding turn frame_meaning_of
  waited_turn m n r bus answer registers left = rw (← answer, ← registers, ← left) refl

  pub quiet_turn : (m : Machine (Console S)) (n : ℕ) (r : Registers) (bus : Console S)
      → (let step = step_of (meaning_of drawn) m.registers m.bus in Ok n ≡ step.answer → r ≡ step.registers → bus ≡ step.bus → bus.awaits_line ≡ false
      → turn (frame_meaning_of drawn) m ≡ Went (record { registers = r; bus = bus; cycles = m.cycles + n }))
  unfolding turn frame_meaning_of
  quiet_turn m n r bus answer registers left quiet = rw (← answer, ← registers, ← left, quiet, add-zero) refl

  pub faulty_turn : (m : Machine (Console S)) (fault : CpuFault) → Err fault ≡ (step_of (meaning_of drawn) m.registers m.bus).answer
      → turn (frame_meaning_of drawn) m ≡ Faulty fault
  unfolding turn frame_meaning_of
  faulty_turn m fault e = rw (← e) refl

  -- One round: its branch, then its load.
  round : (poll : Poll) (m : Machine (Console S)) → IsAtBranch poll m → m.cycles + poll.cycles ≤ overlong_cycles
      → stop_of (frame_meaning_of drawn) m ≡ stop_of (frame_meaning_of drawn) (after_load drawn poll.register poll.cycles m)
  unfolding frame_meaning_of
  round poll m at room =
      let sum = at.loop.cycles in
      let total : poll.cycles - 4 + 4 ≡ poll.cycles = omega (arith, sum) in
      let cycles : m.cycles + (poll.cycles - 4) + 4 ≡ m.cycles + poll.cycles = omega (arith, sum) in
      let mid : Machine (Console S) = record {
        registers = with_pc m.registers (m.registers.pc - 3);
        bus = passed drawn m.bus (poll.cycles - 4);
        cycles = m.cycles + (poll.cycles - 4);
      } in
      let early : m.cycles < overlong_cycles = omega (arith, sum, room) in
      let late : mid.cycles < overlong_cycles = omega (arith, sum, room) in
      let taken = branch_step drawn poll m.registers.pc m.bus at.loop m.registers refl at.taken in
      let loaded = load_step drawn poll m.registers.pc mid.bus at.loop mid.registers refl in
      let bus = passed-add drawn m.bus (poll.cycles - 4) 4 ∙ ap (λ (n : ℕ). passed drawn m.bus n) total in
      let gone = quiet_turn m (poll.cycles - 4) _ _ (rw taken refl) (rw taken refl) (rw taken refl) at.no_wait in
      let back = quiet_turn mid 4 _ _ (rw loaded refl) (rw loaded refl) (rw loaded refl) at.no_wait in
      stops-later (frame_meaning_of drawn) m mid early gone at.no_end
      ∙ stops-later (frame_meaning_of drawn) mid _ late back at.no_end
      ∙ (λ i. stop_of (frame_meaning_of drawn) (loaded_at m.registers poll.register (bus i) (cycles i)))

  -- A load after a load forgets what the first one gave.
  after_again : (register a b : ℕ) (m : Machine (Console S)) → has_bit register 2 ≡ true → m.registers.p < 256
      → after_load drawn register b (after_load drawn register a m) ≡ after_load drawn register (a + b) m
  after_again register a b m timer byte = grind (arith, value-again, read-again, riot-add, load-again, tia-later, sink-later)

  -- The machine after rounds that are passed at once: the frame stops as it would have stopped.
  pub rounds : (poll : Poll) (m : Machine (Console S)) → IsAtBranch poll m → (count : ℕ) → 0 < count → GoOn poll m.bus.riot count
      → m.cycles + poll.cycles * count ≤ overlong_cycles
      → stop_of (frame_meaning_of drawn) m ≡ stop_of (frame_meaning_of drawn) (after_load drawn poll.register (poll.cycles * count) m)
  rounds poll m at zero some on room = absurd (omega (arith, some))
  rounds poll m at (suc zero) some on room = let one : poll.cycles * 1 ≡ poll.cycles = omega arith in rw one (round poll m at (rw one at room))
  rounds poll m at (suc (suc more)) some on room =
      let n : ℕ = poll.cycles * suc more in
      let sum : n + poll.cycles ≡ poll.cycles * suc (suc more) = omega arith in
      let byte = riot_read (after_cycles n m.bus.riot) poll.register in
      let again = taken-told poll.branch byte m.registers.p at.byte ∙ on (suc more) (omega arith) (omega arith) in
      rounds poll m at (suc more) (omega arith) (λ k some few. on k some (omega arith)) (omega (arith, room))
      ∙ round poll (after_load drawn poll.register n m)
      (record { loop = at.loop; no_wait = at.no_wait; no_end = at.no_end; byte = signed-byte byte m.registers.p at.byte; taken = again })
      (omega (arith, room, sum))
      ∙ ap (stop_of (frame_meaning_of drawn))
      (after_again poll.register n poll.cycles m at.loop.timer at.byte ∙ ap (λ (k : ℕ). after_load drawn poll.register k m) sum)

-- ---- how many rounds surely go on
goes_on-between : (branch : Branch) (byte later : ℕ) → byte < 256 → goes_on branch byte ≡ true
    → least_of branch ≤ later → later ≤ byte → goes_on branch later ≡ true
goes_on-between branch byte later small e least most = grind arith

pub going : (poll : Poll) (riot : RiotState) → has_bit poll.register 2 ≡ true → 0 < poll.cycles → 0 < riot.timer.interval
    → riot_read riot poll.register < 256 → goes_on poll.branch (riot_read riot poll.register) ≡ true
    → GoOn poll riot (cycles_above (least_of poll.branch) riot.timer / poll.cycles + 1)
unfolding riot_read after_cycles
going poll riot timer some interval small e = λ k one few.
    let near : k ≤ cycles_above (least_of poll.branch) riot.timer / poll.cycles = omega (arith, few) in
    let most : poll.cycles * k ≤ cycles_above (least_of poll.branch) riot.timer = grind (arith, (le-div_iff_mul-le some).0 near) in
    let any : 0 < cycles_above (least_of poll.branch) riot.timer = grind arith in
    let shown = shown-above (least_of poll.branch) (poll.cycles * k) riot.timer interval any most in
    rw timer (by_register (has_bit poll.register 0) _ shown (rw timer at small) (rw timer at e))
  where
    by_register : (flag : Bool) (later : Countdown) → ShowsAtLeast (least_of poll.branch) riot.timer later
        → (if flag then (if riot.timer.flag then 128 else 0) else intim riot.timer) < 256
        → goes_on poll.branch (if flag then (if riot.timer.flag then 128 else 0) else intim riot.timer) ≡ true
        → goes_on poll.branch (if flag then (if later.flag then 128 else 0) else intim later) ≡ true
    by_register true later shown small e = rw shown.flag e
    by_register false later shown small e = goes_on-between poll.branch (intim riot.timer) (intim later) small e shown.least shown.most
