use Rattle.std.proofs.Common.{◌≡◌, map, take}
use Rattle.terminal_text.specs.Names.{shown_text}
use Rattle.vcs_check.specs.Lines.{texts_of}
use Rattle.vcs_check.proofs.fault_of_shown.Given as goal

abbrev pub invariant-loop-word : goal.invariant-loop-word
invariant-loop-word l = texts_of l.shown.items ≡ map shown_text (texts_of (take l.word-index l.words))
