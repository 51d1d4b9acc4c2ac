use Rattle.std.proofs.Common.{◌∙◌, sym}
use Rattle.tia_chip.proofs.FieldParts.{dark-part, lit-part, no-part}
use Rattle.tia_chip.proofs.calm.playfield_part.Goals as goal
use Rattle.tia_chip.proofs.calm.playfield_part.Goals.{else-part-ne0-via-then-part-ne0+else-shown_playfield, else-part-ne0-via-else-part-ne0}

pub returns-then-shown_playfield : goal.returns-then-shown_playfield
returns-then-shown_playfield c = λ j.
    lit-part c.args.tia.now c.args.first c.args.pixels c.bits_from.result c.first_bits-part.result c.bits_at.result c.args.k c.args.count j
    c.requires.most c.requires.alike c.bits_from.ensures c.first_bits-part.ensures c.bits_at.ensures (sym c.shown_playfield.ensures ∙ c.if-shown_playfield.true)

pub returns-else-part-ne0 : goal.returns-else-part-ne0
returns-else-part-ne0 c = elim c.else-part-ne0.branch [
  | else-part-ne0-via-then-part-ne0+else-shown_playfield w ↦ λ j.
      dark-part c.args.tia.now c.args.first c.args.pixels c.args.k c.args.count j c.requires.alike (sym w.shown_playfield.ensures ∙ w.if-shown_playfield.false)
  | else-part-ne0-via-else-part-ne0 w ↦ λ j.
      no-part c.args.tia.now c.args.first c.args.pixels c.bits_from.result c.first_bits-part.result c.args.k c.args.count j
      c.bits_from.ensures c.first_bits-part.ensures w.if-part-ne0.false
]
