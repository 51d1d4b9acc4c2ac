use Rattle.movie_report.proofs.ClaimLemmas.{AreElements-values_text}
use Rattle.movie_report.proofs.claim_facts.claimed.Goals as goal

pub without_comma-members-requires : goal.without_comma-members-requires
without_comma-members-requires c = rw (c.deref-in-Json.ensures, c.in_ok-values.ensures, c.in-Json.is) (AreElements-values_text _ _)
