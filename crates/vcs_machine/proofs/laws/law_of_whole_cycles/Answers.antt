use Rattle.std.proofs.Common.{[]}
use Rattle.vcs_machine.specs.Consoles.{with_pixel_logged}
use Rattle.vcs_machine.specs.Outcomes.{machine_of}
use Rattle.vcs_machine.proofs.BeamLaws.{step-whole}
use Rattle.vcs_machine.proofs.StateLemmas.{clock_of, parts_of}
use Rattle.vcs_machine.proofs.laws.law_of_whole_cycles.Goals as goal

pub returns : goal.returns
returns c cartridge s i count m lawful e =
    step-whole with_pixel_logged count (machine_of cartridge s i []) m (clock_of s lawful, (parts_of s lawful).aligned) e
