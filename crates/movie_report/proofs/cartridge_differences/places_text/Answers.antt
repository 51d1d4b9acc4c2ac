use Rattle.std.proofs.Common.{◌≡◌, ◌∙◌, List, ℕ, arith, drop, length, take}
use Rattle.movie_report.specs.CartridgeDifferences.{bytes_text, different_offsets}
use Rattle.movie_report.proofs.CartridgeDifferenceLemmas.{AreElements-bytes_text, first_four}
use Rattle.movie_report.proofs.cartridge_differences.places_text.Goals as goal
use Rattle.replay_plan.specs.declared.notation.Notation.TheVariants.{Json}

pub without_comma-elements-requires : goal.without_comma-elements-requires
without_comma-elements-requires c = rw (c.deref-in-Json.ensures, c.in_ok-bytes.ensures, c.in-Json.is) (AreElements-bytes_text _ _ _)

pub returns : goal.returns
returns c =
    let offsets : List ℕ = different_offsets c.args.rom.now c.args.cart.now in
    let items : c.in_ok-offsets.offsets.items ≡ offsets = c.in_ok-offsets.ensures.value in
    let count : c.len-count.result ≡ length offsets = rw (← items) (omega (arith, c.len-count.ensures, c.in_ok-offsets.offsets.ok.0)) in
    let shown : take c.min.result c.deref.result.now ≡ take 4 offsets =
    rw (c.deref.ensures.value, items) (first_four offsets c.min.result (omega (arith, c.min.ensures, count))) in
    let listed : c.deref-in-Json.result.now ≡ bytes_text Json c.args.rom.now c.args.cart.now (take 4 offsets) =
    c.deref-in-Json.ensures ∙ rw (c.in-Json.is, shown) at c.in_ok-bytes.ensures in
    let elements : c.without_comma-elements.result.now ≡ drop 1 (bytes_text Json c.args.rom.now c.args.cart.now (take 4 offsets)) =
    rw (← listed) c.without_comma-elements.ensures in
    rw (c.in-Json.is, ← elements, ← count) c.format-in-Json.ensures.ok
