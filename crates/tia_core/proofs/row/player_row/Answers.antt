use Rattle.std.proofs.Common.{◌≡◌, ◌∙◌, ap, arith, ℕ}
use Rattle.std.proofs.lemmas.Bool.Decides.{nat_tests}
use Rattle.tia_core.specs.Bits.{has_bit}
use Rattle.tia_core.specs.Coverage.{width_of}
use Rattle.tia_core.proofs.Tables.{row_shows}
use Rattle.tia_core.proofs.MaskWordLemmas.{bit-above}
use Rattle.tia_core.proofs.row.player_row.Goals as goal

pub returns-in-5-clause-value : goal.returns-in-5-clause-value
returns-in-5-clause-value c = λ d.
    let row : c.from.result ≡ c.double_bits.result = c.from.ensures in
    let mode : c.args.mode ≡ 5 = c.in-5.is in
    rw mode (row_shows 16 c.args.reflected c.args.graphic c.player_dots-dots.result c.from.result d c.player_dots-dots.ensures
    (λ lt. omega arith) (λ lt. ap (λ (n : ℕ). has_bit n d) row ∙ c.double_bits.ensures d lt) (λ le. bit-above c.from.result 16 d (omega arith) le))

pub returns-in-7-clause-value : goal.returns-in-7-clause-value
returns-in-7-clause-value c = λ d.
    let mode : c.args.mode ≡ 7 = c.in-7.is in
    rw mode (row_shows 32 c.args.reflected c.args.graphic c.player_dots-dots.result c.quadruple_bits.result d c.player_dots-dots.ensures
    (λ lt. omega arith) (λ lt. c.quadruple_bits.ensures d lt) (λ le. bit-above c.quadruple_bits.result 32 d (omega arith) le))

pub returns-in_default-clause-value : goal.returns-in_default-clause-value
returns-in_default-clause-value c = λ d.
    let width : width_of c.args.mode ≡ 8 = grind (arith, nat_tests) in
    rw width (row_shows 8 c.args.reflected c.args.graphic c.player_dots-dots.result c.from-in_default.result d c.player_dots-dots.ensures
    (λ lt. omega arith) (λ lt. ap (λ (n : ℕ). has_bit n d) c.from-in_default.ensures
    ∙ ap (has_bit c.player_dots-dots.result) (omega arith))
    (λ le. bit-above c.from-in_default.result 8 d (omega arith) le))
