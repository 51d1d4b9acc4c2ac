use Rattle.std.proofs.Common.{◌+◌, ◌-◌, arith, sym, ◌∙◌}
use Rattle.std.proofs.lemmas.Result.{err_from_is_err_and}
use Rattle.movie_file.proofs.StateLemmas.{ram_is}
use Rattle.movie_report.proofs.InputTrialLemmas.{next_state, no_more}
use Rattle.movie_report.proofs.input_trials.after_frames.Goals as goal

pub loop-before-preserved : goal.loop-before-preserved
loop-before-preserved c =
    let before = c.loop-before.invariant in
    record {
      ran =
          next_state c.args.movie.now c.args.start.now c.loop-before.state c.args.from c.loop-before.before (omega arith) before.ran
          ∙ sym (rw c.in-Some.is at c.in_ok-next.ensures.state);
      cartridge = rw c.in-Some.is at c.in_ok-next.ensures.cartridge;
    }

pub returns-in-None-clause-state : goal.returns-in-None-clause-state
returns-in-None-clause-state c =
    let none =
    next_state c.args.movie.now c.args.start.now c.loop-before.state c.args.from c.loop-before.before (omega arith) c.loop-before.invariant.ran
    ∙ sym (rw c.in-None.is at c.in_ok-next.ensures.state) in
    sym (no_more c.args.movie.now c.args.start.now c.args.from (c.loop-before.before + 1 - c.args.from) (c.args.to - c.args.from) (omega arith) none)

pub returns-in_err-state-clause-memory : goal.returns-in_err-state-clause-memory
returns-in_err-state-clause-memory c =
    let p = err_from_is_err_and c.from_residual.result c.from_residual.ensures.1 in
    rw (p.1, ← ram_is _ _ c.requires.cartridge) c.in_err-state.ensures.memory
