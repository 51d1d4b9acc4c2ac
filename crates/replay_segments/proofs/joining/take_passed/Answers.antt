use Rattle.std.proofs.Common.{refl, rules}
use Rattle.std.proofs.lemmas.Option.{slice_get_read, slice_get_within}
use Rattle.replay_segments.proofs.ListLemmas.{same_at}
use Rattle.replay_segments.proofs.TakeLemmas.{IsTaken-set}
use Rattle.replay_segments.proofs.joining.take_passed.Goals as goal

pub unreachable-requires : goal.unreachable-requires
unreachable-requires c = (rw c.as_slice.ensures.value at c.in_default.ensures.none) c.requires

pub index_mut-piece-requires : goal.index_mut-piece-requires
index_mut-piece-requires c = search (rules, slice_get_within)

pub take_pictures-requires : goal.take_pictures-requires
take_pictures-requires c = search (rules, slice_get_within, slice_get_read, same_at)

pub returns : goal.returns
returns c =
    let found = rw c.as_slice.ensures.value at c.in-Some.ensures.some in
    let within = slice_get_within c.args.pieces.now.items c.in-Some.i found.0 found.1 in
    let at = slice_get_read c.args.pieces.now.items _ c.in-Some.i c.index_mut-piece.result.now refl within c.index_mut-piece.ensures.value in
    IsTaken-set c.args.pieces.now.items c.args.number c.in-Some.i c.index_mut-piece.result.now c.take_pictures.new.self c.take_pictures.result found at
    c.take_pictures.ensures.pictures c.take_pictures.ensures.rest c.take_pictures.ensures.lawful
