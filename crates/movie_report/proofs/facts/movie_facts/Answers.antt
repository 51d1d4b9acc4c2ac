use Rattle.std.proofs.Common.{◌≡◌, ◌∙◌, ap, string_bytes}
use Rattle.hex.specs.Hex.{encode_lower}
use Rattle.sha2.specs.Sha256.{sha256}
use Rattle.movie_report.specs.Facts.{held_text, last_held}
use Rattle.movie_report.proofs.facts.movie_facts.Goals as goal

pub returns : goal.returns
returns c =
    let version : c.from-version.result ≡ c.args.movie.now.version = cc in
    let digest : c.deref.result.now ≡ encode_lower (sha256 c.args.bytes.now) = c.deref.ensures ∙ c.in_ok-sha256.ensures ∙ ap encode_lower c.digest.ensures in
    let held : string_bytes c.in_ok-held.held ≡ held_text c.args.notation (last_held 0 0 c.args.movie.now.inputs) =
    c.in_ok-held.ensures ∙ ap (held_text c.args.notation) c.last_held_frame.ensures in
    rw (← held, ← digest, ← version, ← c.frames-frames.ensures.value) c.format.ensures.ok
