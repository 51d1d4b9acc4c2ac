-- What a worker is given, and what it gives back, may go to another thread.
use mathlib.Core.List.{[], ◌∷◌}
use mir.Syntax.{Sym}
use denote.RattleType.{RattleType}
use denote.Param.Send.{IsSend, view_send, recorded_send, struct_send, sendable}
use denote.Struct.Declared.{shape}
use denote.Struct.Tuple.{TupleAt}
use Rattle.std.proofs.result.Result.TheSendSync as result
use Rattle.std.proofs.alloc.AllocError.TheSendSync as alloc_error
use Rattle.std.proofs.Crossing.{crosses}
use Rattle.replay_segments.specs.contracts.piece.Piece as Piece
use Rattle.replay_segments.specs.contracts.piece.Piece.TheInside as inside
use Rattle.replay_segments.proofs.verdict.Verdict.TheSendSync as verdict
use Rattle.replay_plan.proofs.keep.Keep.TheSendSync as keep
use Rattle.segment_desk.proofs.ticket.Ticket.TheSendSync as ticket
use Rattle.verify_pool.specs.contracts.hand.Hand as Hand

fields_send : IsSend inside.the_row
fields_send = recorded_send inside.the_field.row _ _ inside.the_type.to_one (struct_send (shape inside.the_type)
    (search crosses depth 20, (result.the_field_send _ _ verdict.the_send alloc_error.the_send, (search crosses depth 20, (search crosses depth 20, (keep.the_field_send, tt))))))

pub piece_send : IsSend Piece.the_row
piece_send = view_send inside.the_row _ _ _ _ fields_send

pub hand_send : IsSend Hand.the_row
hand_send =
    recorded_send Hand.the_field.row _ _ Hand.the_type.to_one (struct_send (shape Hand.the_type) (ticket.the_send, (search (crosses, piece_send) depth 20, tt)))

-- A closure over seven values may go where each of them may.
pub seven_send : (name : Sym) (A B C D E F G : RattleType) → IsSend A → IsSend B → IsSend C → IsSend D → IsSend E → IsSend F → IsSend G
    → IsSend (TupleAt name (A ∷ B ∷ C ∷ D ∷ E ∷ F ∷ G ∷ []))
seven_send name A B C D E F G a b c d e f g = search sendable depth 20
