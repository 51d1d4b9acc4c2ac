use Rattle.std.proofs.Common.{◌≡◌, ◌+◌, false, arith, ap, sym}
use Rattle.std.specs.Prelude.{is_some}
use Rattle.tia_chip.proofs.Strides.{missile-passes}
use Rattle.tia_chip.specs.Quiet.{counter_after}
use Rattle.tia_chip.specs.declared.missile.Missile.{Missile}
use Rattle.tia_chip.proofs.missile.Missile.pass.Goals as goal

pub returns-then-is_bare_for-clause-value : goal.returns-then-is_bare_for-clause-value
returns-then-is_bare_for-clause-value c =
    let m = c.args.self.now in
    let n = c.args.count in
    let bare = c.is_bare_for.ensures in
    let holds = c.if-is_bare_for.true in
    let none : is_some m.copy ≡ false = ap is_some (bare.none holds) in
    let sum = bare.sum holds in
    let counter : m.counter + n ≡ counter_after n m.counter = omega arith in
    rw counter (sym (ap (λ (q : Missile). record q { seen = false }) (missile-passes n c.args.nusiz c.args.clock m none c.requires.some c.requires.range.counter (bare.begins holds))))
