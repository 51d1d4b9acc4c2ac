use Rattle.std.proofs.Common.{◌≡◌, ◌+◌, false, arith, ap, sym}
use Rattle.std.specs.Prelude.{is_some}
use Rattle.tia_chip.proofs.Strides.{player-passes}
use Rattle.tia_chip.specs.Quiet.{counter_after}
use Rattle.tia_chip.specs.declared.player.Player.{Player}
use Rattle.tia_chip.proofs.player.Player.pass.Goals as goal

pub returns-then-is_bare_for-clause-value : goal.returns-then-is_bare_for-clause-value
returns-then-is_bare_for-clause-value c =
    let p = c.args.self.now in
    let n = c.args.count in
    let bare = c.is_bare_for.ensures in
    let holds = c.if-is_bare_for.true in
    let none : is_some p.copy ≡ false = ap is_some (bare.none holds) in
    let sum = bare.sum holds in
    let counter : p.counter + n ≡ counter_after n p.counter = omega arith in
    rw counter (sym (ap (λ (q : Player). record q { seen = false }) (player-passes n p none c.requires.some c.requires.range.counter (bare.begins holds))))
