use Rattle.tia_core.proofs.PatternLemmas.{pattern-window}
use Rattle.tia_core.proofs.pattern.Pattern.window.Goals as goal

pub returns : goal.returns
returns c = λ k lt.
    rw (← c.self.view_is, c.from.ensures, c.from-2.ensures)
    (pattern-window c.self.inside.words c.args.first c.args.position k c.self.invariant c.requires.first c.requires.position lt)
