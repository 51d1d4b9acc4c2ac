use Rattle.std.proofs.Common.{sym, ◌∙◌}
use Rattle.std.proofs.lemmas.Result.{IfOk-weaker}
use Rattle.movie_report.proofs.InputTrialLemmas.{left_out_trials}
use Rattle.movie_report.proofs.input_trials.left_out.Goals as goal

pub returns-clause-first : goal.returns-clause-first
returns-clause-first c =
    let is = left_out_trials c.args.movie.now c.args.claimed.now c.args.state.now c.args.frame c.args.last c.requires.first c.requires.order c.requires.within
    c.requires.ran in
    IfOk-weaker c.first_of_two.result _ _ (λ first same. same ∙ sym is) c.first_of_two.ensures.first
