use Rattle.std.proofs.Common.{inl}
use Rattle.std.proofs.lemmas.Result.{IfOk-weaker}
use Rattle.vcs_check.proofs.LineLemmas.{mistake_told}
use Rattle.vcs_check.proofs.told_fault.Goals as goal

pub returns-then-all : goal.returns-then-all
returns-then-all c = IfOk-weaker c.advised_fault.result _ _ (λ told advised. inl advised) c.advised_fault.ensures

pub returns-in-Usage : goal.returns-in-Usage
returns-in-Usage c =
    IfOk-weaker c.fault_of_shown.result _ _ (λ told shown. mistake_told _ c.args.fault told c.in-Usage.kind c.in-Usage.text c.in-Usage.is shown) c.fault_of_shown.ensures
