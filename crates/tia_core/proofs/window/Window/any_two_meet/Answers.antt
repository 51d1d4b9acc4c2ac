use Rattle.std.proofs.Common.{◌∙◌, sym}
use Rattle.tia_core.proofs.Windows.{unset}
use Rattle.tia_core.proofs.window.Window.any_two_meet.Goals as goal

pub returns : goal.returns
returns c = λ e k there.
    sym (c.set_twice-twice.ensures k) ∙ unset c.set_twice-twice.result c.args.within k (c.overlap.ensures e) there
