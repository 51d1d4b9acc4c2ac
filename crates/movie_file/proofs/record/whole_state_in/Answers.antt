use Rattle.std.proofs.Common.{refl}
use Rattle.std.proofs.lemmas.List.{drop-replicate}
use Rattle.movie_file.proofs.record.whole_state_in.Goals as goal

pub returns : goal.returns
returns c = rw (c.read_state.ensures.exact, c.copy_from_slice.ensures.after, drop-replicate, c.record_length.ensures.value) refl
