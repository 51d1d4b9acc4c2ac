use Rattle.std.proofs.Common.{◌≡◌, ℕ, suc, ◌-◌, ◌*◌, List, [], ◌∷◌, ◌++◌, codes, length, refl, ap, arith}
use Rattle.std.proofs.Output.{has_written_append, has_written_of_eq}
use Rattle.std.proofs.lemmas.List.Concat.{flat_map-cons}
use Rattle.std.specs.List.{flat_map}
use Rattle.vcs_machine.specs.Faults.{hex2}
use Rattle.trace_text.specs.Columns.{blanks}
use Rattle.trace_text.specs.TraceLines.{spaced}
use Rattle.trace_text.proofs.assembly.InstructionBytesDisplay.fmt.Goals as goal

abbrev after_blank : ℕ → List ℕ
after_blank byte = codes " " ++ hex2 byte

length-more : (more : List ℕ) → length (flat_map after_blank more) ≡ length more * 3
length-more [] = refl
length-more (byte ∷ more) =
    let later = length-more more in
    let step : length (flat_map after_blank (byte ∷ more)) ≡ suc (suc (suc (length (flat_map after_blank more)))) =
    ap length (flat_map-cons after_blank byte more) in
    omega (arith, step, later)

length-spaced : (bytes : List ℕ) → length (spaced bytes) ≡ length bytes * 3 - 1
length-spaced [] = refl
length-spaced (byte ∷ more) =
    let later = length-more more in
    let step : length (spaced (byte ∷ more)) ≡ suc (suc (length (flat_map after_blank more))) = refl in
    omega (arith, step, later)

pub returns-clause-writes : goal.returns-clause-writes
returns-clause-writes g c =
    λ plain ok.
    let bytes = c.args.self.now.0.now in
    let long = length-spaced bytes in
    let count : c.saturating_sub.result ≡ 8 - length (spaced bytes) =
    omega (arith, long, c.saturating_mul.ensures, c.saturating_sub-width.ensures, c.saturating_sub.ensures) in
    let first = c.in_ok-write_spaced.ensures plain refl in
    has_written_of_eq _ _ _ _ _ (ap (λ (n : ℕ). spaced bytes ++ blanks n) count)
    (has_written_append _ _ _ _ _ _ first (c.write_blanks.ensures first.plain ok))
