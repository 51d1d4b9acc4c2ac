use Rattle.std.proofs.Common.{◌++◌, ◌∙◌, ap, List, ℕ}
use Rattle.std.proofs.lemmas.List.{append-nil}
use Rattle.chip_machine.proofs.RecordLaws.{put_after}
use Rattle.chip_machine.proofs.record.riot.riot_bytes.Goals as goal

pub returns : goal.returns
returns c =
    let ports = c.copy_from_slice-2.ensures.after ∙ c.port_bytes.ensures in
    put_after 128 9 _ _ _ c.copy_from_slice.ensures.len ∙ append-nil _
    ∙ ap (λ (w : List ℕ). w ++ c.copy_from_slice-2.new.self) c.copy_from_slice.ensures.after
    ∙ ap (λ (w : List ℕ). c.args.riot.now.ram ++ w) ports
