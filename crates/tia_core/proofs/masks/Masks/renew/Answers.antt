use Rattle.std.proofs.Common.{refl}
use Rattle.tia_core.proofs.masks.Masks.renew.Goals as goal

pub returns-clause-shown : goal.returns-clause-shown
returns-clause-shown c = λ x h.
    rw (
      c.renew_player0.ensures x h,
      c.renew_player1.ensures x h,
      c.renew_missile0.ensures x h,
      c.renew_missile1.ensures x h,
      c.renew_ball.ensures x h,
      c.renew_playfield.ensures x h,
    ) refl
