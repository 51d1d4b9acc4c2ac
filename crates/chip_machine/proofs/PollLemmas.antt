-- Rounds of a loop that waits for the timer.
use Rattle.std.proofs.Common.{◌≡◌, ◌∙◌, ℕ, zero, suc, ◌+◌, ◌-◌, ◌*◌, ◌/◌, ◌%◌, ◌<◌, ◌≤◌, Bool, true, false, None, Ok}
use Rattle.std.proofs.Common.{refl, ap, arith}
use Rattle.std.specs.Prelude.{min, pos, ◌+ℤ◌, ◌==◌, ◌&&◌, not, bit_and, if◌then◌else◌}
use Rattle.std.specs.Fn.{iterate}
use Rattle.std.specs.Int.Bits.{and_zero_r}
use Rattle.std.proofs.lemmas.Bool.{cond-false, eq-eqb}
use Rattle.std.proofs.lemmas.Bool.Decides.{nat_tests}
use Rattle.std.proofs.lemmas.Int.{ints}
use Rattle.record_table.specs.Bits.{has_bit}
use Rattle.mos_cpu.specs.Accesses.{is_taken}
use Rattle.mos_cpu.specs.Effects.{with_a, with_p, with_pc, with_x, with_y}
use Rattle.mos_cpu.specs.Execution.{Step}
use Rattle.mos_cpu.specs.Numbers.{modulo, signed}
use Rattle.mos_cpu.specs.Registers.{Registers}
use Rattle.mos_cpu.specs.Status.{has_flag, put_flag, with_nz}
use Rattle.mos_cpu.specs.declared.status.Flag.{Flag}
use Rattle.mos_cpu.specs.declared.status.Flag.TheVariants.{Carry, Negative, Overflow, Zero}
use Rattle.mos_cpu.proofs.StatusLemmas.{put_flag-given, put_flag-others, put_flag-swap}
use Rattle.bus_cycles.specs.Buses.{Meaning}
use Rattle.bus_cycles.specs.Execution.{step_of}
use Rattle.bus_cycles.specs.declared.bus.Purpose.{Purpose}
use Rattle.bus_cycles.specs.declared.bus.Purpose.TheVariants.{Code, Data, Discarded}
use Rattle.cart_board.specs.CartState.{CartState, after_byte}
use Rattle.cart_board.specs.Plain.{SelectsNothing, ShowsRom}
use Rattle.riot_chip.specs.Riot.{RiotState, riot_after_read, riot_read}
use Rattle.riot_chip.specs.Timer.{ShowsAtLeast, TimerState, after_step, timer_read}
use Rattle.riot_map.specs.Place.{place_of}
use Rattle.riot_map.specs.declared.places.Place.TheVariants.{Cart, Io}
use Rattle.tia_chip.specs.Clock.{after_clock}
use Rattle.tia_chip.proofs.ClocksLemmas.{iterate-add, sink-add}
use Rattle.chip_machine.specs.Consoles.{Console, after_cycle, at_read, byte_found, found_at, meaning_of, most_cycles, read_at, seen, selected}
use Rattle.chip_machine.specs.Frame.{Machine, Went, overlong_cycles, stop_of, turn}
use Rattle.chip_machine.specs.Private.Lag.{after_cycles}
use Rattle.chip_machine.specs.Private.Polls.{GoOn, GoesOnAt, IsPoll, after_look, after_reader, branch_opcode, goes_on}
use Rattle.chip_machine.specs.Private.Polls.{is_told, least_of, operation_of, reader_opcode}
use Rattle.chip_machine.specs.declared.polls.Branch.{Branch}
use Rattle.chip_machine.specs.declared.polls.Branch.TheVariants.{IfMinus, IfNotZero, IfPlus, IfZero}
use Rattle.chip_machine.specs.declared.polls.Poll.{Poll}
use Rattle.chip_machine.specs.declared.polls.Reader.{Reader}
use Rattle.chip_machine.specs.declared.polls.Reader.TheVariants.{Bit, Lda, Ldx, Ldy}
use Rattle.chip_machine.proofs.StopLemmas.{stops-later, turn-went}

-- ---- the accesses of a loop
module _ {S : Type 0} (drawn : S → ℕ → ℕ → ℕ → S) where
  -- a read of a byte of the program
  record IsCode (c : Console S) (at byte : ℕ) : Type 0 where
    pub holds : (meaning_of drawn).holds_code c at ≡ true
    pub value : (meaning_of drawn).read_value c at ≡ byte
    pub after : (purpose : Purpose) → (meaning_of drawn).after_read c purpose at ≡ record (after_cycles drawn 1 c) { byte = byte }

  here : (c : Console S) (at : ℕ) → c.is_stopped ≡ false → SelectsNothing c.cart at → at_read drawn c at ≡ after_cycles drawn 1 c
  here c at free plain =
      ap (λ (x : Console S). selected (after_cycle drawn x) at None) (cond-false c.is_stopped _ _ free)
      ∙ ap (λ (cart : CartState). record (after_cycles drawn 1 c) { cart = cart }) (plain.before None)

  code : (c : Console S) (at byte : ℕ) → c.is_stopped ≡ false → at / 4096 % 2 ≡ 1 → ShowsRom c.cart at byte → IsCode c at byte
  unfolding meaning_of
  code c at byte free high shown =
      let there : place_of at ≡ Cart at = rw high refl in
      let x = after_cycles drawn 1 c in
      let value : byte_found x at ≡ byte = rw there (shown.byte_is x.byte) in
      record {
        holds = rw (there, shown.rom) refl;
        value = ap (λ (y : Console S). byte_found y at) (here c at free shown.selects) ∙ value;
        after = λ purpose.
            ap (λ (y : Console S). seen (found_at y at) at (byte_found y at)) (here c at free shown.selects)
            ∙ ap (seen (found_at x at) at) value
            ∙ rw there
            (ap (λ (cart : CartState). record x { cart = after_byte cart at byte; byte = byte }) (shown.keeps x.byte)
            ∙ ap (λ (cart : CartState). record x { cart = cart; byte = byte }) (shown.selects.behind byte));
      }

  -- a read of the RIOT
  looked-at : (c : Console S) (at register : ℕ) → c.is_stopped ≡ false → place_of at ≡ Io register → SelectsNothing c.cart at
      → (let there = after_cycles drawn 1 c in
      ((meaning_of drawn).read_value c at ≡ riot_read there.riot register)
      × ((meaning_of drawn).after_read c Data at ≡ record (read_at there (Io register)) { byte = riot_read there.riot register }))
  unfolding meaning_of
  looked-at c at register free place plain =
      let x = after_cycles drawn 1 c in
      let value : byte_found x at ≡ riot_read x.riot register = rw place refl in (
        ap (λ (y : Console S). byte_found y at) (here c at free plain) ∙ value,
        ap (λ (y : Console S). seen (found_at y at) at (byte_found y at)) (here c at free plain)
            ∙ ap (seen (found_at x at) at) value
            ∙ rw place (ap (λ (cart : CartState). record (read_at x (Io register)) { cart = cart; byte = riot_read x.riot register })
            (plain.behind (riot_read x.riot register))),
      )

  -- ---- cycles in two parts
  pub passed-add : (a b : ℕ) (c : Console S) → after_cycles drawn b (after_cycles drawn a c) ≡ after_cycles drawn (a + b) c
  passed-add a b c =
      let clocks : 3 * (a + b) ≡ 3 * a + 3 * b = omega arith in
      let count : min (min (c.cycles + a) most_cycles + b) most_cycles ≡ min (c.cycles + (a + b)) most_cycles = omega arith in
      rw (clocks, iterate-add after_step a b c.riot.timer, iterate-add after_clock (3 * a) (3 * b) c.tia, sink-add drawn c.sink (3 * a) (3 * b) c.tia, count) refl

-- ---- the instructions of a loop
module _ {S : Type 0} (m : Meaning S) (r : Registers) (s s1 s2 s3 : S) (first : m.holds_code s r.pc ≡ true) (one : m.after_read s Code r.pc ≡ s1)
    (second : m.holds_code s1 ((r.pc + 1) % 65536) ≡ true) (two : m.after_read s1 Code ((r.pc + 1) % 65536) ≡ s2) where
  -- the branch, taken within its page
  branch-taken : (branch : Branch) (target : ℕ) → m.read_value s r.pc ≡ branch_opcode branch → m.read_value s1 ((r.pc + 1) % 65536) ≡ 0xFB
      → m.after_read s2 Discarded ((r.pc + 2) % 65536) ≡ s3 → is_taken (operation_of branch) r.p ≡ true
      → modulo (pos ((r.pc + 2) % 65536) +ℤ signed 0xFB) 65536 ≡ target → ((r.pc + 2) % 65536 / 256 == target / 256) ≡ true
      → step_of m r s ≡ record { answer = Ok 3; registers = with_pc r target; bus = s3 }
  branch-taken IfNotZero target opcode offset three taken back page =
      rw (first, opcode, one, second, offset, two, taken, back, page, three, taken, taken, back) refl
  branch-taken branch target opcode offset three taken back page =
      rw (first, opcode, one, second, offset, two, taken, back, page, three, taken, taken, back) refl

  -- the read of an absolute address
  reader-read : (reader : Reader) (s4 : S) (low high byte : ℕ) → m.read_value s r.pc ≡ reader_opcode reader
      → m.read_value s1 ((r.pc + 1) % 65536) ≡ low
      → m.holds_code s2 ((r.pc + 2) % 65536) ≡ true → m.read_value s2 ((r.pc + 2) % 65536) ≡ high → m.after_read s2 Code ((r.pc + 2) % 65536) ≡ s3
      → m.read_value s3 (low + 256 * high) ≡ byte → m.after_read s3 Data (low + 256 * high) ≡ s4
      → step_of m r s ≡ record { answer = Ok 4; registers = after_reader reader byte (with_pc r ((r.pc + 3) % 65536)); bus = s4 }
  reader-read Lda s4 low high byte opcode low_is third high_is three read four =
      rw (first, opcode, one, second, low_is, two, third, high_is, three, read, four) refl
  reader-read reader s4 low high byte opcode low_is third high_is three read four =
      rw (first, opcode, one, second, low_is, two, third, high_is, three, read, four) refl

back_by_five : (base : ℕ) → 5 ≤ base → base < 65536 → modulo (pos base +ℤ signed 0xFB) 65536 ≡ base - 5
back_by_five base h k = grind (arith, ints)

-- ---- what a read changes

flag-kept : (flag other : Bool) → flag ≡ false → (flag && other) ≡ flag
flag-kept false other e = refl
flag-kept true other e = absurd cc

-- Before zero a read of the timer changes nothing.
pub quiet-read : (register : ℕ) (r : RiotState) → has_bit register 2 ≡ true → r.timer.flag ≡ false → riot_after_read r register ≡ r
quiet-read register r timer clear = rw timer (by_register (has_bit register 0))
  where
    by_register : (flag : Bool)
        → record r { timer = (if flag then r.timer else record r.timer { flag = r.timer.flag && (r.timer.value == 255) }) } ≡ r
    by_register true = refl
    by_register false = ap (λ (flag : Bool). record r { timer = record r.timer { flag = flag } }) (flag-kept r.timer.flag _ clear)

-- A flag put again.
put-twice : (flag : Flag) (on before : Bool) (p : ℕ) → put_flag flag on (put_flag flag before p) ≡ put_flag flag on p
put-twice Carry on before p = grind (arith, nat_tests)
put-twice flag on before p = grind (arith, nat_tests)

-- N and Z, and N, V and Z, put again.
load-again : (byte before p : ℕ) → with_nz byte (with_nz before p) ≡ with_nz byte p
load-again byte before p =
    rw (put_flag-swap Zero Negative (byte == 0) (has_flag Negative before) _ (λ e. absurd cc), put-twice Negative, put-twice Zero) refl

abbrev nvz : Bool → Bool → Bool → ℕ → ℕ
nvz n v z p = put_flag Negative n (put_flag Overflow v (put_flag Zero z p))

test-again : (n v z n0 v0 z0 : Bool) (p : ℕ) → nvz n v z (nvz n0 v0 z0 p) ≡ nvz n v z p
test-again n v z n0 v0 z0 p =
    rw (
      put_flag-swap Zero Negative z n0 (put_flag Overflow v0 (put_flag Zero z0 p)) (λ e. absurd cc),
      put_flag-swap Zero Overflow z v0 (put_flag Zero z0 p) (λ e. absurd cc),
      put-twice Zero z z0 p,
      put_flag-swap Overflow Negative v n0 (put_flag Overflow v0 (put_flag Zero z p)) (λ e. absurd cc),
      put-twice Overflow v v0 (put_flag Zero z p),
      put-twice Negative n n0 (put_flag Overflow v (put_flag Zero z p)),
    ) refl

reader-pc : (reader : Reader) (byte : ℕ) (r : Registers) → (after_reader reader byte r).pc ≡ r.pc
reader-pc Lda byte r = refl
reader-pc reader byte r = refl

-- A read after a read forgets what the first one gave.
read-again : (reader : Reader) (byte before : ℕ) (r : Registers) → after_reader reader byte (after_reader reader before r) ≡ after_reader reader byte r
read-again Lda byte before r = ap (λ (p : ℕ). with_a r (record { value = byte; p = p })) (load-again byte before r.p)
read-again Ldx byte before r = ap (λ (p : ℕ). with_x r (record { value = byte; p = p })) (load-again byte before r.p)
read-again Ldy byte before r = ap (λ (p : ℕ). with_y r (record { value = byte; p = p })) (load-again byte before r.p)
read-again Bit byte before r = ap (with_p r) (test-again _ _ _ _ _ _ r.p)

-- The flags after a read.
read-n : (reader : Reader) (byte : ℕ) (r : Registers) → has_flag Negative (after_reader reader byte r).p ≡ has_flag Negative byte
read-n Lda byte r = put_flag-given Negative _ _
read-n reader byte r = put_flag-given Negative _ _

load-z : (byte p : ℕ) → has_flag Zero (with_nz byte p) ≡ (byte == 0)
load-z byte p = put_flag-others Negative Zero _ _ (λ e. absurd cc) ∙ put_flag-given Zero (byte == 0) p

test-z : (n v z : Bool) (p : ℕ) → has_flag Zero (nvz n v z p) ≡ z
test-z n v z p =
    put_flag-others Negative Zero n (put_flag Overflow v (put_flag Zero z p)) (λ e. absurd cc)
    ∙ put_flag-others Overflow Zero v (put_flag Zero z p) (λ e. absurd cc)
    ∙ put_flag-given Zero z p

read-none : (reader : Reader) (r : Registers) → has_flag Zero (after_reader reader 0 r).p ≡ true
read-none Lda r = load-z 0 r.p
read-none Ldx r = load-z 0 r.p
read-none Ldy r = load-z 0 r.p
read-none Bit r = test-z (has_flag Negative 0) (has_flag Overflow 0) (bit_and r.a 0 == 0) r.p ∙ rw (and_zero_r r.a) refl

not-true : (b : Bool) → not b ≡ true → b ≡ false
not-true false e = refl
not-true true e = absurd cc

read-some : (reader : Reader) (byte : ℕ) (r : Registers) → is_told reader IfNotZero ≡ true → not (byte == 0) ≡ true
    → has_flag Zero (after_reader reader byte r).p ≡ false
read-some Lda byte r told some = load-z byte r.p ∙ not-true _ some
read-some Ldx byte r told some = load-z byte r.p ∙ not-true _ some
read-some Ldy byte r told some = load-z byte r.p ∙ not-true _ some
read-some Bit byte r told some = absurd cc

-- Where a loop goes on its branch is taken.
taken-told : (reader : Reader) (branch : Branch) (byte : ℕ) (r : Registers) → is_told reader branch ≡ true → goes_on branch byte ≡ true
    → is_taken (operation_of branch) (after_reader reader byte r).p ≡ true
taken-told reader IfNotZero byte r told on = rw (read-some reader byte r told on) refl
taken-told reader IfZero byte r told on = let none : byte ≡ 0 = grind (arith, nat_tests) in rw none (read-none reader r)
taken-told reader IfPlus byte r told on = rw (read-n reader byte r) on
taken-told reader IfMinus byte r told on = rw (read-n reader byte r) on

-- ---- how long a loop goes on

-- A loop that goes on after a read of a byte does so after that of each from the least up to it.
between : (branch : Branch) (byte later : ℕ) → byte < 256 → goes_on branch byte ≡ true
    → least_of branch ≤ later → later ≤ byte → goes_on branch later ≡ true
between IfNotZero byte later small on least most = grind (arith, nat_tests)
between branch byte later small on least most = grind (arith, nat_tests)

-- While zero is ahead the value never rises.
step-falls : (t : TimerState) → (after_step t).flag ≡ false → (t.flag ≡ false) × ((after_step t).value ≤ t.value)
step-falls t ahead = grind (arith, nat_tests)

steps-fall : (n : ℕ) (t : TimerState) → (iterate after_step n t).flag ≡ false → (t.flag ≡ false) × ((iterate after_step n t).value ≤ t.value)
steps-fall zero t ahead = (ahead, omega arith)
steps-fall (suc n) t ahead =
    let later = steps-fall n (after_step t) ahead in
    let one = step-falls t later.0 in
    (one.0, omega (arith, one.1, later.1))

-- A loop that surely goes on now does so while INTIM shows the least of its bytes.
still : (poll : Poll) (t : TimerState) (n : ℕ) → t.flag ≡ false → timer_read t poll.register < 256
    → goes_on poll.branch (timer_read t poll.register) ≡ true
    → ShowsAtLeast (least_of poll.branch) (iterate after_step n t) → GoesOnAt poll (iterate after_step n t)
still poll t n ahead small on shown =
    let later = iterate after_step n t in
    record { ahead = shown.ahead; on = by_register (has_bit poll.register 0) small on }
  where
    by_register : (flag : Bool) → (if flag then (if t.flag then 128 else 0) else t.value) < 256
        → goes_on poll.branch (if flag then (if t.flag then 128 else 0) else t.value) ≡ true
        → (let later = iterate after_step n t in
        goes_on poll.branch (if flag then (if later.flag then 128 else 0) else later.value) ≡ true)
    by_register true small on = rw shown.ahead (rw ahead at on)
    by_register false small on =
        between poll.branch t.value (iterate after_step n t).value small on shown.shown (steps-fall n t shown.ahead).1

-- The same for what a timer is seen to show.
pub still-seen : (poll : Poll) (riot : RiotState) (cycles byte : ℕ) → has_bit poll.register 2 ≡ true → byte < 256 → 0 < cycles
    → ((n : ℕ) → n < cycles → ShowsAtLeast (least_of poll.branch) (iterate after_step n riot.timer))
    → byte ≡ riot_read riot poll.register → goes_on poll.branch byte ≡ true
    → (n : ℕ) → n < cycles → GoesOnAt poll (iterate after_step n riot.timer)
still-seen poll riot cycles byte timer small some shown byte_is on n few =
    let seen : byte ≡ timer_read riot.timer poll.register = byte_is ∙ rw timer refl in
    still poll riot.timer n (shown 0 some).ahead (rw seen at small) (rw seen at on) (shown n few)

module _ {S : Type 0} (drawn : S → ℕ → ℕ → ℕ → S) where
  -- What the rounds of a loop begin with: nothing is asked for, the machine is at the branch, and the
  -- branch is taken.
  pub record IsAtBranch (poll : Poll) (m : Machine S) : Type 0 where
    pub loop : IsPoll m.console.cart m.registers.pc poll
    pub no_stop : m.console.is_stopped ≡ false
    pub no_end : m.console.has_ended ≡ false
    pub taken : is_taken (operation_of poll.branch) m.registers.p ≡ true

  -- a console with a byte of the program read
  abbrev fetched : ℕ → Console S → Console S
  fetched byte c = record (after_cycles drawn 1 c) { byte = byte }

  fetched-again : (n before byte : ℕ) (c : Console S)
      → fetched byte (record (after_cycles drawn n c) { byte = before }) ≡ record (after_cycles drawn (n + 1) c) { byte = byte }
  fetched-again n before byte c = ap (λ (x : Console S). record x { byte = byte }) (passed-add drawn n 1 c)

  -- a machine after an instruction that leaves no stop
  went : (m : Machine S) (n : ℕ) (r : Registers) (c : Console S) → c.is_stopped ≡ false
      → step_of (meaning_of drawn) m.registers m.console ≡ record { answer = Ok n; registers = r; bus = c }
      → turn drawn m ≡ Went (record { registers = r; console = c })
  went m n r c free e =
      turn-went drawn m n r c (ap (λ (s : Step (Console S)). s.answer) e) (ap (λ (s : Step (Console S)). s.registers) e) (ap (λ (s : Step (Console S)). s.bus) e)
      ∙ ap (λ (x : Console S). Went (record { registers = r; console = x })) (cond-false c.is_stopped _ _ free)

  module _ (poll : Poll) (m : Machine S) (at : IsAtBranch poll m) where
    abbrev back : Machine S
    back = record {
      registers = with_pc m.registers (m.registers.pc - 3);
      console = fetched poll.after (fetched 0xFB (fetched (branch_opcode poll.branch) m.console));
    }

    branch-turn : turn drawn m ≡ Went back
    branch-turn =
        let c = m.console in
        let pc = m.registers.pc in
        let k = at.loop in
        let s1 = fetched (branch_opcode poll.branch) c in
        let s2 = fetched 0xFB s1 in
        let next : (pc + 1) % 65536 ≡ pc + 1 = omega (arith, k.word, k.last) in
        let after : (pc + 2) % 65536 ≡ pc + 2 = omega (arith, k.word, k.last) in
        let one = code drawn c pc (branch_opcode poll.branch) at.no_stop k.cartridge k.branch in
        let two = code drawn s1 (pc + 1) 0xFB at.no_stop (omega (arith, k.cartridge, k.last)) k.offset in
        let three = code drawn s2 (pc + 2) poll.after at.no_stop (omega (arith, k.cartridge, k.last)) k.after in
        let target : modulo (pos ((pc + 2) % 65536) +ℤ signed 0xFB) 65536 ≡ pc - 3 = rw after (back_by_five (pc + 2) (omega (arith, k.first)) (omega (arith, k.word, k.last)) ∙ (omega arith)) in
        let page : ((pc + 2) % 65536 / 256 == (pc - 3) / 256) ≡ true = rw after (eq-eqb _ _ (omega (arith, k.first, k.last))) in
        went m 3 back.registers back.console at.no_stop
        (branch-taken (meaning_of drawn) m.registers c s1 s2 back.console one.holds (one.after Code) (rw next two.holds) (rw next (two.after Code))
        poll.branch (pc - 3) one.value (rw next two.value) (rw after (three.after Discarded)) at.taken target page)

    abbrev looked : Machine S
    looked =
        let there = after_cycles drawn 1 (fetched poll.high (fetched poll.low (fetched (reader_opcode poll.reader) back.console))) in
        let byte = riot_read there.riot poll.register in
        record {
          registers = after_reader poll.reader byte (with_pc back.registers ((back.registers.pc + 3) % 65536));
          console = record (read_at there (Io poll.register)) { byte = byte };
        }

    look-turn : turn drawn back ≡ Went looked
    look-turn =
        let c = back.console in
        let pc = m.registers.pc in
        let k = at.loop in
        let s1 = fetched (reader_opcode poll.reader) c in
        let s2 = fetched poll.low s1 in
        let s3 = fetched poll.high s2 in
        let next : (pc - 3 + 1) % 65536 ≡ pc - 2 = omega (arith, k.word, k.first) in
        let after : (pc - 3 + 2) % 65536 ≡ pc - 1 = omega (arith, k.word, k.first) in
        let one = code drawn c (pc - 3) (reader_opcode poll.reader) at.no_stop (omega (arith, k.cartridge, k.first)) k.reader in
        let two = code drawn s1 (pc - 2) poll.low at.no_stop (omega (arith, k.cartridge, k.first)) k.low in
        let three = code drawn s2 (pc - 1) poll.high at.no_stop (omega (arith, k.cartridge, k.first)) k.high in
        let four = looked-at drawn s3 (poll.low + 256 * poll.high) poll.register at.no_stop k.place k.selects in
        let byte = riot_read (after_cycles drawn 1 s3).riot poll.register in
        went back 4 looked.registers looked.console at.no_stop
        (reader-read (meaning_of drawn) back.registers c s1 s2 s3 one.holds (one.after Code) (rw next two.holds) (rw next (two.after Code))
        poll.reader looked.console poll.low poll.high byte one.value (rw next two.value) (rw after three.holds) (rw after three.value) (rw after (three.after Code)) four.0 four.1)

    -- the machine that reads on this console, and goes on there
    abbrev looking : ℕ → Console S → Machine S
    looking pc c = record {
      registers = after_reader poll.reader (riot_read c.riot poll.register) (with_pc m.registers pc);
      console = record (read_at c (Io poll.register)) { byte = riot_read c.riot poll.register };
    }

    fetched-six : fetched poll.high (fetched poll.low (fetched (reader_opcode poll.reader) back.console)) ≡ record (after_cycles drawn 6 m.console) { byte = poll.high }
    fetched-six =
        let c = m.console in
        let two = fetched-again 1 (branch_opcode poll.branch) 0xFB c in
        let three = ap (fetched poll.after) two ∙ fetched-again 2 0xFB poll.after c in
        let four = ap (fetched (reader_opcode poll.reader)) three ∙ fetched-again 3 poll.after (reader_opcode poll.reader) c in
        let five = ap (fetched poll.low) four ∙ fetched-again 4 (reader_opcode poll.reader) poll.low c in
        ap (fetched poll.high) five ∙ fetched-again 5 poll.low poll.high c

    looked-same : looked ≡ after_look drawn poll 7 m
    looked-same =
        let pc : (m.registers.pc - 3 + 3) % 65536 ≡ m.registers.pc = omega (arith, at.loop.word, at.loop.first) in
        ap (λ (c : Console S). looking ((m.registers.pc - 3 + 3) % 65536) (after_cycles drawn 1 c)) fetched-six
        ∙ ap (looking ((m.registers.pc - 3 + 3) % 65536)) (passed-add drawn 6 1 m.console)
        ∙ ap (λ (k : ℕ). looking k (after_cycles drawn 7 m.console)) pc

    -- One round: its branch, then its read.
    round : m.console.cycles + 7 ≤ overlong_cycles → stop_of drawn m ≡ stop_of drawn (after_look drawn poll 7 m)
    round room =
        let early : m.console.cycles < overlong_cycles = omega arith in
        let late : back.console.cycles < overlong_cycles = omega arith in
        stops-later drawn m back early branch-turn at.no_end ∙ stops-later drawn back looked late look-turn at.no_end ∙ ap (stop_of drawn) looked-same

  -- A read after a read forgets what the first one gave, if that changed nothing.
  after-again : (poll : Poll) (a b : ℕ) (m : Machine S) → has_bit poll.register 2 ≡ true
      → (iterate after_step a m.console.riot.timer).flag ≡ false
      → after_look drawn poll b (after_look drawn poll a m) ≡ after_look drawn poll (a + b) m
  after-again poll a b m timer clear =
      let there = after_cycles drawn a m.console in
      let value = riot_read there.riot poll.register in
      let look : Registers → Console S → Machine S = λ (r : Registers) (c : Console S). record {
        registers = after_reader poll.reader (riot_read c.riot poll.register) r;
        console = record (read_at c (Io poll.register)) { byte = riot_read c.riot poll.register };
      } in
      ap (λ (riot : RiotState). look (after_reader poll.reader value m.registers) (after_cycles drawn b (record there { riot = riot; byte = value })))
      (quiet-read poll.register there.riot timer clear)
      ∙ ap (look (after_reader poll.reader value m.registers)) (passed-add drawn a b m.console)
      ∙ ap (λ (r : Registers). record (look m.registers (after_cycles drawn (a + b) m.console)) { registers = r })
      (read-again poll.reader (riot_read (after_cycles drawn (a + b) m.console).riot poll.register) value m.registers)

  -- The machine after rounds that are passed at once: the frame stops as it would have stopped.
  pub rounds : (poll : Poll) (m : Machine S) → IsAtBranch poll m → (count : ℕ) → 0 < count → GoOn poll m.console.riot count
      → m.console.cycles + 7 * count ≤ overlong_cycles
      → stop_of drawn m ≡ stop_of drawn (after_look drawn poll (7 * count) m)
  rounds poll m at zero some on room = absurd (omega (arith, some))
  rounds poll m at (suc zero) some on room = round poll m at room
  rounds poll m at (suc (suc more)) some on room =
      let k = at.loop in
      let n : ℕ = 7 * suc more in
      let sum : n + 7 ≡ 7 * suc (suc more) = omega arith in
      let there = after_cycles drawn n m.console in
      let quiet = on (suc more) (omega arith) (omega arith) in
      let goes : goes_on poll.branch (riot_read there.riot poll.register) ≡ true = rw k.timer quiet.on in
      rounds poll m at (suc more) (omega arith) (λ k some few. on k some (omega arith)) (omega (arith, room))
      ∙ round poll (after_look drawn poll n m)
      (record {
        loop = rw (reader-pc poll.reader (riot_read there.riot poll.register) m.registers) k;
        no_stop = at.no_stop;
        no_end = at.no_end;
        taken = taken-told poll.reader poll.branch (riot_read there.riot poll.register) m.registers k.told goes;
      })
      (omega (arith, room, sum))
      ∙ ap (stop_of drawn) (after-again poll n 7 m k.timer quiet.ahead ∙ ap (λ (k : ℕ). after_look drawn poll k m) sum)

  -- The same for what the rounds are seen to leave.
  pub rounds-left : (poll : Poll) (r left : Registers) (c after : Console S) (count ahead byte : ℕ) → IsAtBranch poll (record { registers = r; console = c })
      → 0 < count → count ≤ ahead → GoOn poll c.riot ahead → c.cycles + 7 * count ≤ overlong_cycles
      → byte ≡ riot_read (after_cycles drawn (7 * count) c).riot poll.register
      → after ≡ record (read_at (after_cycles drawn (7 * count) c) (Io poll.register)) { byte = byte }
      → left ≡ after_reader poll.reader byte r
      → stop_of drawn (record { registers = r; console = c }) ≡ stop_of drawn (record { registers = left; console = after })
  rounds-left poll r left c after count ahead byte at some most on room byte_is after_is left_is =
      rw (left_is, after_is, byte_is) (rounds poll (record { registers = r; console = c }) at count some (λ k some few. on k some (omega arith)) room)
