use Rattle.vcs_machine.proofs.LagLemmas.{riot-caught_up}
use Rattle.vcs_machine.proofs.devices.Devices.catch_up_riot_far_behind.Goals as goal

pub returns-then-self-gt-MOST_RIOT_LEFT-clause-riot : goal.returns-then-self-gt-MOST_RIOT_LEFT-clause-riot
returns-then-self-gt-MOST_RIOT_LEFT-clause-riot g c =
    rw c.catch_up_riot.ensures (riot-caught_up c.args.self.now.lag_left _)
