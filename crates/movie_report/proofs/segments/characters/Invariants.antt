use Rattle.std.proofs.Common.{◌≡◌, map, string_bytes, take}
use Rattle.movie_report.specs.Segments.{character_of}
use Rattle.movie_report.proofs.segments.characters.Given as goal

abbrev pub invariant-loop-sign : goal.invariant-loop-sign
invariant-loop-sign l = string_bytes l.text ≡ map character_of (take l.sign-index l.signs)
