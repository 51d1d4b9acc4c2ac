use Rattle.std.proofs.Common.{◌∙◌, [], refl, sym, arith}
use Rattle.std.proofs.lemmas.List.{ext_get_or}
use Rattle.vcs_machine.proofs.pictures.Pictures.equals.Goals as goal

pub returns : goal.returns
returns c =
    let lengths = sym c.len.ensures ∙ c.if-len.false ∙ c.len-2.ensures in (
      λ yes. ext_get_or [] c.args.self.now c.args.other.now lengths
          (λ k less. let end = c.len-i-end.ensures in c.loop-i.invariant k (omega arith)),
      λ same. refl,
    )
