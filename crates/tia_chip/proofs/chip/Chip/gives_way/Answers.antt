use Rattle.std.proofs.Common.{◌∙◌, ap, sym}
use Rattle.tia_chip.proofs.OwedLemmas.{made-written}
use Rattle.tia_chip.specs.Private.Late.{Written, gives_way, is_there, written_of}
use Rattle.tia_chip.specs.Private.Owed.{settled}
use Rattle.tia_chip.proofs.chip.Chip.gives_way.Goals as goal

pub returns-in-Some : goal.returns-in-Some
returns-in-Some c =
    let owed = c.self.inside.owed in
    let t = c.self.inside.state in
    let w = c.in-Some.waiting in
    rw (← c.self.view_is)
    (c.is_there.ensures
    ∙ (ap (λ (x : Written). is_there w.register w.value x) (sym (made-written owed.steps owed.looked t))
    ∙ sym (ap (λ o. gives_way o (written_of (settled owed t))) c.in-Some.is)))
