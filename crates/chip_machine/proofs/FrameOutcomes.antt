-- What a frame does, from how it stops on a console with a sink that keeps its pixels, or none.
use Rattle.std.proofs.Common.{◌≡◌, ℕ, ◌≤◌, true, List, refl, ap, sym, ◌∙◌, arith, length, take}
use Rattle.std.specs.Prelude.{replicate}
use Rattle.std.proofs.lemmas.List.{length-take, length-replicate}
use Rattle.cart_board.specs.CartState.{Cartridge, CartState}
use Rattle.mos_cpu.specs.Registers.{Registers}
use Rattle.mos_cpu.specs.declared.fault.CpuFault.{CpuFault}
use Rattle.riot_chip.specs.Riot.{RiotState, fields_of, riot_of}
use Rattle.tia_chip.specs.declared.state.TiaState.{TiaState}
use Rattle.tia_core.specs.declared.paint.NoPaint.{NoPaint}
use Rattle.mos_cpu.specs.declared.fault.CpuFault.TheVariants.{BadOpcode as BadOpcodeOfCpu, FetchOutside as FetchOutsideOfCpu}
use Rattle.vcs_machine.specs.Faults.{kind_of}
use Rattle.vcs_machine.specs.Inputs.{InputData, is_pressed}
use Rattle.vcs_machine.specs.Pictures.{Rows, with_pixel, blank}
use Rattle.vcs_machine.specs.declared.fault.FaultKind.{FaultKind}
use Rattle.vcs_machine.specs.declared.fault.FaultKind.TheVariants.{BadOpcode, FetchOutside, Overlong as TooLong}
use Rattle.chip_machine.specs.Consoles.{Console}
use Rattle.chip_machine.specs.Frame.{Machine, Stop, Ended, Overlong, Faulted, stop_of}
use Rattle.chip_machine.specs.Outcomes.{Failed, Played, PlaysOn, begun, frame_of, machine_of, outcome_of, riot_left, state_left, stop_with, tia_left}
use Rattle.chip_machine.specs.Pictures.{most_rows, rows_of}
use Rattle.chip_machine.specs.States.{StateData, cart_of, is_state}
use Rattle.chip_machine.proofs.RowLemmas.{rows-kept}
use Rattle.chip_machine.proofs.SettledFrame.{IsLawful, stop-lawful}
use Rattle.chip_machine.proofs.StateLemmas.{state_parts}
use Rattle.chip_machine.proofs.SinkLemmas.{stop_of-along, stop_on, machine_on}

-- ---- parts that are equal

abbrev machine : {S : Type 0} → Registers → Console S → Machine S
machine r c = record { registers = r; console = c }

-- a console that began with the parts of a state
pub started : {S : Type 0} (cartridge : Cartridge) (s : StateData) (i : InputData) (sink : S) (r : Registers) (console : Console S)
    (cart : CartState) (riot : RiotState) (tia : TiaState) → r ≡ s.fields.cpu → console ≡ begun cart riot tia i sink
    → cart ≡ cart_of cartridge s → riot ≡ riot_of s.fields.riot → tia ≡ s.fields.tia → machine r console ≡ machine_of cartridge s i sink
started cartridge s i sink r console cart riot tia a b c d e = rw (a, b, c, d, e) refl

abbrev left_of : Registers → RiotState → TiaState → CartState → StateData
left_of cpu riot tia cart = record { fields = record { cpu = cpu; riot = fields_of riot; tia = tia; banks = cart.banks }; ram = cart.ram }

pub left-same : {S : Type 0} (m : Machine S) (cpu : Registers) (riot : RiotState) (tia : TiaState) (cart : CartState) → cpu ≡ m.registers
    → riot ≡ riot_left m.console.riot → tia ≡ tia_left m.console.tia → cart ≡ m.console.cart → left_of cpu riot tia cart ≡ state_left m
left-same m cpu riot tia cart a b c d = rw (a, b, c, d) refl

-- what a frame that ends leaves of its TIA
pub frame-lawful : {S : Type 0} (drawn : S → ℕ → ℕ → ℕ → S) (cartridge : Cartridge) (s : StateData) (i : InputData) (sink : S) (end : Machine S)
    → is_state s.fields ≡ true → stop_of drawn (machine_of cartridge s i sink) ≡ Ended end → IsLawful (tia_left end.console.tia)
frame-lawful drawn cartridge s i sink end lawful ended =
    let parts = state_parts s.fields lawful in
    let begun : IsLawful s.fields.tia = record { lawful = parts.tia; settled = parts.settled; cycle = parts.aligned } in
    stop-lawful drawn (machine_of cartridge s i sink) end s.fields.tia (is_pressed 0 i) (is_pressed 1 i) begun refl refl ended

-- ---- stops

-- The stop of a processor's fault.
pub stop-kind : {S : Type 0} (fault : CpuFault) → Faulted fault ≡ stop_with {S = S} (kind_of fault)
stop-kind (BadOpcodeOfCpu opcode at) = refl
stop-kind (FetchOutsideOfCpu at) = refl

-- The outcome of a stop of this kind.
outcome-failed : (kind : FaultKind) → outcome_of (stop_with kind) ≡ Failed kind
outcome-failed (BadOpcode opcode at) = refl
outcome-failed (FetchOutside at) = refl
outcome-failed TooLong = refl

abbrev undrawn : NoPaint → ℕ → ℕ → ℕ → NoPaint
undrawn s line x colour = s

abbrev unseen : Stop Rows → Stop NoPaint
unseen = stop_on with_pixel undrawn (record {}) (λ line x colour. refl)

abbrev machine_unseen : Machine Rows → Machine NoPaint
machine_unseen = machine_on with_pixel undrawn (record {}) (λ line x colour. refl)

module _ (cartridge : Cartridge) (s : StateData) (i : InputData) where
  -- ---- with its picture

  pub failed : (kind : FaultKind) → stop_of with_pixel (machine_of cartridge s i (blank most_rows)) ≡ stop_with kind
      → frame_of cartridge s i ≡ Failed kind
  unfolding frame_of
  failed kind e = ap outcome_of e ∙ outcome-failed kind

  -- the rows of a picture are those that are drawn
  module _ (after : StateData) (sink : Rows) (cycles rows : ℕ) (h : PlaysOn with_pixel cartridge s i (blank most_rows) after sink cycles rows) where
    pub played : frame_of cartridge s i ≡ Played after (take rows sink) cycles
    unfolding frame_of
    played = rw (h.1, h.2, h.3, h.4, h.5) refl

    pub played-rows : rows ≡ length (take rows sink)
    played-rows =
        let row : List ℕ = replicate 160 0 in
        let begun : length (blank most_rows) ≡ most_rows = length-replicate most_rows row in
        let has = rows-kept most_rows (machine_of cartridge s i (blank most_rows)) h.0 begun refl h.1 in
        let few : rows_of h.0.console.tia ≤ most_rows = omega arith in
        let sinks = h.3 in
        let count = h.5 in
        let same : length sink ≡ most_rows = rw (← sinks) has in
        omega (arith, length-take rows sink, few, same, count)

  -- ---- without it

  abbrev here : Stop Rows
  here = stop_of with_pixel (machine_of cartridge s i (blank most_rows))

  along : stop_of undrawn (machine_of cartridge s i (record {})) ≡ unseen here
  along = stop_of-along with_pixel undrawn (record {}) (λ line x colour. refl) (machine_of cartridge s i (blank most_rows))

  failed_by : (kind : FaultKind) (stop : Stop Rows) → unseen stop ≡ stop_with kind → outcome_of stop ≡ Failed kind
  failed_by (BadOpcode opcode at) (Faulted fault) e = let same : fault ≡ BadOpcodeOfCpu opcode at = cc in ap (λ f. Failed (kind_of f)) same
  failed_by (FetchOutside at) (Faulted fault) e = let same : fault ≡ FetchOutsideOfCpu at = cc in ap (λ f. Failed (kind_of f)) same
  failed_by TooLong Overlong e = refl
  failed_by (BadOpcode opcode at) Overlong e = absurd cc
  failed_by (BadOpcode opcode at) (Ended m) e = absurd cc
  failed_by (FetchOutside at) Overlong e = absurd cc
  failed_by (FetchOutside at) (Ended m) e = absurd cc
  failed_by TooLong (Faulted fault) e = absurd cc
  failed_by TooLong (Ended m) e = absurd cc

  pub failed-unseen : (kind : FaultKind) → stop_of undrawn (machine_of cartridge s i (record {})) ≡ stop_with kind → frame_of cartridge s i ≡ Failed kind
  unfolding frame_of
  failed-unseen kind e = failed_by kind here (sym along ∙ e)

  -- it ends where the frame ends that draws
  ended_by : (there : Machine NoPaint) (stop : Stop Rows) → unseen stop ≡ Ended there
      → (m : Machine Rows) × (stop ≡ Ended m) × (machine_unseen m ≡ there)
  ended_by there (Ended m) e = let same : machine_unseen m ≡ there = cc in (m, refl, same)
  ended_by there Overlong e = absurd cc
  ended_by there (Faulted fault) e = absurd cc

  pub plays : (after : StateData) (sink : NoPaint) (cycles rows : ℕ) → PlaysOn undrawn cartridge s i (record {}) after sink cycles rows
      → (drawn : Rows) × PlaysOn with_pixel cartridge s i (blank most_rows) after drawn cycles rows
  plays after sink cycles rows h =
      let end = ended_by h.0 here (sym along ∙ h.1) in
      let left = ap (λ (x : Machine NoPaint). state_left x) end.2 ∙ h.2 in
      let cycles_are = ap (λ (x : Machine NoPaint). x.console.cycles) end.2 ∙ h.4 in
      let rows_are = ap (λ (x : Machine NoPaint). rows_of x.console.tia) end.2 ∙ h.5 in
      (end.0.console.sink, (end.0, end.1, left, refl, cycles_are, rows_are))
