use Rattle.std.proofs.Common.{refl}
use Rattle.std.proofs.lemmas.Result.{IfOk-weaker}
use Rattle.commands.proofs.make.no_inputs.Goals as goal

pub returns : goal.returns
returns c =
    IfOk-weaker c.refused_inputs.result _ _ (λ answer is. rw is (refl, (refl, (refl, refl)))) c.refused_inputs.ensures
