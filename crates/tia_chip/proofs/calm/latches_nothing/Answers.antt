use Rattle.std.proofs.Common.{◌∙◌, ◌≡◌, ℕ, ◌+◌, ◌-◌, ◌&&◌, Bool, true, false, ap, sym, bit_or}
use Rattle.std.proofs.lemmas.Bool.{cond-false, eqb-true, lt-ltb}
use Rattle.std.specs.Prelude.{nat_lt}
use Rattle.tia_chip.proofs.MeetLemmas.{dark-latched, within-latched}
use Rattle.tia_chip.specs.Bits.{has_bit}
use Rattle.tia_chip.specs.Private.Lines.{pairs_in, shown_playfield, union_of}
use Rattle.tia_chip.proofs.calm.latches_nothing.Goals as goal

pub returns : goal.returns
returns c = λ e k l.
    let t = c.args.tia.now in
    let lit = c.args.lit.now in
    let shown = shown_playfield t (t.clock - 68) (t.clock - 68 + k) in
    let field = c.playfield_in-playfield.result in
    let few : nat_lt k c.args.count ≡ true = lt-ltb k c.args.count l in
    let bit : has_bit field k ≡ (has_bit (union_of lit) k && shown) =
    c.playfield_in-playfield.ensures k ∙ (ap (λ (b : Bool). b && (has_bit c.union-pixels.result k && shown)) few ∙ ap (λ (n : ℕ). has_bit n k && shown) c.union-pixels.ensures)
    in
    let kept : bit_or t.collisions (pairs_in lit field) ≡ t.collisions =
    ap (bit_or t.collisions) (sym c.pairs.ensures.value) ∙ eqb-true (bit_or t.collisions c.pairs.result) t.collisions e
    in
    let open_now : has_bit t.vblank 1 ≡ false = sym c.has_bit.ensures ∙ c.if-has_bit.false in
    cond-false (has_bit t.vblank 1) _ _ open_now ∙ within-latched t.collisions lit field k shown bit kept

pub returns-then-pixels-eq0 : goal.returns-then-pixels-eq0
returns-then-pixels-eq0 c = λ e k l.
    let t = c.args.tia.now in
    let shown = shown_playfield t (t.clock - 68) (t.clock - 68 + k) in
    let none : union_of c.args.lit.now ≡ 0 = sym c.union-pixels.ensures ∙ c.if-pixels-eq0.true in
    dark-latched t.collisions (has_bit t.vblank 1) c.args.lit.now k shown none
