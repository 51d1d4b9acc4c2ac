use Rattle.std.proofs.Common.{◌∙◌, ap, length, refl, rules}
use Rattle.movie_file.specs.Record.{record_of}
use Rattle.movie_file.proofs.RecordLaws.{put_all, same_parts}
use Rattle.movie_file.proofs.record.write_state.Goals as goal

pub returns-clause-record : goal.returns-clause-record
unfolding record_of
returns-clause-record c =
    let cpu = c.copy_from_slice.ensures.after in
    let riot = c.copy_from_slice-2.ensures.after in
    let tia = c.copy_from_slice-3.ensures.after in
    put_all _ _ _ _ 0 _ (ap length cpu ∙ search rules) (ap length riot ∙ search rules) (ap length tia ∙ search rules) refl
    ∙ same_parts _ _ _ _ _ _ _ (cpu ∙ c.cpu_bytes.ensures) (riot ∙ c.riot_bytes.ensures) (tia ∙ c.tia_bytes.ensures)
    ∙ ap record_of c.fields-fields.ensures.value
