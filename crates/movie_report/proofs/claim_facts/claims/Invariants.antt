use Rattle.std.proofs.Common.{◌≡◌, ◌++◌, drop, string_bytes}
use Rattle.movie_report.specs.Claims.{claims_text}
use Rattle.movie_report.proofs.claim_facts.claims.Given as goal

abbrev pub invariant-loop-index : goal.invariant-loop-index
invariant-loop-index l =
    string_bytes l.text ++ claims_text l.notation l.movie.cartridge l.index (drop l.index l.movie.checkpoints)
    ≡ claims_text l.notation l.movie.cartridge 0 l.movie.checkpoints
