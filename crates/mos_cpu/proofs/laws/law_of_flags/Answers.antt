use Rattle.mos_cpu.proofs.StatusLemmas.{put_flag-given, put_flag-others}
use Rattle.mos_cpu.proofs.laws.law_of_flags.Goals as goal

pub returns-clause-given : goal.returns-clause-given
returns-clause-given c = λ flag on p. put_flag-given flag on p

pub returns-clause-others : goal.returns-clause-others
returns-clause-others c = λ flag other on p differ. put_flag-others flag other on p differ
