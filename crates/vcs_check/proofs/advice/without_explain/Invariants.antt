use Rattle.std.proofs.Common.{◌≡◌, take}
use Rattle.vcs_check.specs.Lines.{texts_of, without_explain}
use Rattle.vcs_check.proofs.advice.without_explain.Given as goal

abbrev pub invariant-loop-word : goal.invariant-loop-word
invariant-loop-word l = texts_of l.others.items ≡ without_explain (texts_of (take l.word-index l.words))
