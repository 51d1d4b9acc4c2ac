use Rattle.std.proofs.Common.{◌≡◌, ◌%◌, false, arith, sym}
use Rattle.std.specs.Prelude.{is_some}
use Rattle.tia_chip.proofs.Strides.{NoneBegins, player-passes, player-unlit}
use Rattle.tia_chip.proofs.player.Player.stride.Goals as goal

pub returns-clause-value : goal.returns-clause-value
returns-clause-value c =
    let p = c.args.self.now in
    let n = c.min-steps.result in
    let none : is_some p.copy ≡ false = cc in
    let free : NoneBegins (p.nusiz % 8) p.counter n = λ k l. c.steps_to_copy.ensures.none (p.nusiz % 8) k (omega arith) in
    rw c.counter_after-self.ensures.value (sym (player-passes n p none (omega arith) c.requires.range.counter free))

pub returns-clause-unlit : goal.returns-clause-unlit
returns-clause-unlit c =
    let p = c.args.self.now in
    let n = c.min-steps.result in
    let none : is_some p.copy ≡ false = cc in
    let free : NoneBegins (p.nusiz % 8) p.counter n = λ k l. c.steps_to_copy.ensures.none (p.nusiz % 8) k (omega arith) in
    λ k l. player-unlit n k p none c.requires.range.counter free l
