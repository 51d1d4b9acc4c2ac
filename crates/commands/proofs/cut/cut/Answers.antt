use Rattle.std.proofs.Common.{◌≡◌, ◌∙◌, false, inl, inr, sym, true}
use Rattle.std.proofs.lemmas.Bool.{false≢true}
use Rattle.std.proofs.lemmas.Result.{IfOk-weaker}
use Rattle.std.specs.NonZero.{non_zero_u32_get}
use Rattle.movie_file.specs.Making.{counts_fit}
use Rattle.commands.specs.AskedFrames.{frames_asked}
use Rattle.commands.proofs.CutMovies.{genuine}
use Rattle.commands.proofs.cut.cut.Goals as goal

pub cut_movie-requires : goal.cut_movie-requires
cut_movie-requires g c = rw (← c.frames_asked.ensures.value) (sym c.do_counts_fit.ensures ∙ c.if-not-do_counts_fit.false)

pub returns-then-not-do_counts_fit : goal.returns-then-not-do_counts_fit
returns-then-not-do_counts_fit g c =
    let asked = frames_asked c.args.movie.now (non_zero_u32_get c.args.first) c.args.count in
    let other : counts_fit asked (non_zero_u32_get c.args.every) ≡ false =
    rw (← c.frames_asked.ensures.value, ← c.get-interval.ensures.value) (sym c.do_counts_fit.ensures ∙ c.if-not-do_counts_fit.true) in
    let hint = c.hint_of_part-hint in
    IfOk-weaker c.counts_refusal.result _ _ (λ told is. inr ((λ fits. false≢true (sym other ∙ fits)), hint.result, hint.ensures, is)) c.counts_refusal.ensures

pub returns-in-Ok : goal.returns-in-Ok
returns-in-Ok g c =
    let asked = frames_asked c.args.movie.now (non_zero_u32_get c.args.first) c.args.count in
    let fits : counts_fit asked (non_zero_u32_get c.args.every) ≡ true =
    rw (← c.frames_asked.ensures.value, ← c.get-interval.ensures.value) (sym c.do_counts_fit.ensures ∙ c.if-not-do_counts_fit.false) in
    let made = rw c.get-interval.ensures.value at c.in_ok-cut.ensures in
    let lawful = rw c.in-Ok.is at made.lawful in
    let cut = rw c.in-Ok.is at made.cut in
    IfOk-weaker c.of_cut.result _ _ (λ told is. inl (fits, inl (c.in-Ok.cut, lawful, cut, genuine _ _ _ _ _ cut, is))) c.of_cut.ensures

pub returns-in-Err : goal.returns-in-Err
returns-in-Err g c =
    let asked = frames_asked c.args.movie.now (non_zero_u32_get c.args.first) c.args.count in
    let fits : counts_fit asked (non_zero_u32_get c.args.every) ≡ true =
    rw (← c.frames_asked.ensures.value, ← c.get-interval.ensures.value) (sym c.do_counts_fit.ensures ∙ c.if-not-do_counts_fit.false) in
    let faults = rw c.in-Err.is at c.in_ok-cut.ensures.faults in
    IfOk-weaker c.of_line.result _ _ (λ told is. inl (fits, inr (c.in-Err.fault.frame, c.in-Err.fault.kind, faults, is))) c.of_line.ensures
