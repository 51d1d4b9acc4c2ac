use Rattle.std.proofs.Common.{◌∙◌, ap, false, sym}
use Rattle.tia_chip.proofs.LatchedLines.{objects-alike}
use Rattle.tia_chip.proofs.OwedLemmas.{made-moves}
use Rattle.tia_chip.proofs.OwedSteps.{owed-some}
use Rattle.tia_chip.specs.Ball.{ball_after_step}
use Rattle.tia_chip.specs.Missile.{missile_after_step}
use Rattle.tia_chip.specs.Motion.{any_moves}
use Rattle.tia_chip.specs.Player.{player_after_step}
use Rattle.tia_chip.specs.Private.Owed.{ball_seen, made_steps, missile_seen, player_seen}
use Rattle.tia_chip.proofs.owed.pass_objects.Goals as goal

made : goal.returns-clause-value
made c =
    let t = c.args.tia.now in
    let n = c.args.count in
    let some = c.requires.some in
    let s = made_steps n false t in
    objects-alike t c.pass.new.self s.player0 c.pass-2.new.self s.player1 c.pass-3.new.self s.missile0 c.pass-4.new.self s.missile1 c.pass-5.new.self s.ball
    (c.pass.ensures.value ∙ sym (owed-some player_after_step (player_seen false) n t.player0 some))
    (c.pass-2.ensures.value ∙ sym (owed-some player_after_step (player_seen false) n t.player1 some))
    (c.pass-3.ensures.value ∙ sym (owed-some (missile_after_step t.player0.nusiz 0) (missile_seen false) n t.missile0 some))
    (c.pass-4.ensures.value ∙ sym (owed-some (missile_after_step t.player1.nusiz 0) (missile_seen false) n t.missile1 some))
    (c.pass-5.ensures.value ∙ sym (owed-some (ball_after_step t.ctrlpf false) (ball_seen false) n t.ball some))

pub returns-clause-value : goal.returns-clause-value
returns-clause-value = made

pub returns-clause-still : goal.returns-clause-still
returns-clause-still c = ap any_moves (made c) ∙ (made-moves c.args.count false c.args.tia.now ∙ c.requires.still)
