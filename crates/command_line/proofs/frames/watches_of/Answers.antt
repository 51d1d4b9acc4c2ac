use Rattle.std.proofs.Common.{codes, refl}
use Rattle.command_line.proofs.Addresses.{words_or}
use Rattle.command_line.proofs.frames.watches_of.Goals as goal

pub returns-in-Some-clause-ok : goal.returns-in-Some-clause-ok
returns-in-Some-clause-ok c =
    rw (words_or c.args.matches.now (codes "watch") c.get_strs.result _ _ c.get_strs.ensures c.unwrap_or-words.ensures refl) c.in-Some.ensures.some

pub returns-in_ok-told_words-in-None-clause-err : goal.returns-in_ok-told_words-in-None-clause-err
returns-in_ok-told_words-in-None-clause-err c =
    rw (words_or c.args.matches.now (codes "watch") c.get_strs.result _ _ c.get_strs.ensures c.unwrap_or-words.ensures refl)
    (λ has. c.in-None.ensures.none has.0 has.1 has.2, refl, c.in_ok-told_words-in-None.ensures)
