-- What a crew is given, and what it gives back. This project's own.
use Rattle.std.specs.Prelude.{ℕ, ◌*◌, ◌<◌, ◌≤◌, ◌≡◌, true, List, [], ◌∷◌, All, length, sum_by}
use Rattle.std.specs.Prelude.{vec_capacity}
use Rattle.replay_segments.specs.Pieces.{Job}
use Rattle.verify_pool.specs.declared.hand.Hand.{Hand}
use Rattle.verify_pool.specs.WorkerPieces.{IsExact}
use Rattle.segment_desk.specs.Kept.{IsKnown}
use Rattle.segment_desk.specs.Views.{DeskView, IsOf}

-- A hand that has drawn nothing, with room for a piece of each segment.
pub record IsReady (desk : DeskView) (hand : Hand) : Type 0 where
  pub own : IsOf desk hand.ticket
  pub none_drawn : hand.ticket.part.drawn ≡ []
  pub empty : hand.pieces.items ≡ []
  pub room : desk.segments ≤ vec_capacity hand.pieces

-- The room of the first hand.
abbrev pub first_room : List Hand → ℕ
first_room [] = 0
first_room (hand ∷ hands) = vec_capacity hand.pieces

-- The shares of all hands together.
abbrev pub shares : List Hand → ℕ
shares hands = sum_by (λ (hand : Hand). hand.ticket.part.share) hands

-- Hands that have drawn nothing, at least one, each with room for its own pieces and the first with
-- room for those of all.
pub record AreReady (desk : DeskView) (hands : List Hand) : Type 0 where
  pub some : 0 < length hands
  pub each : All (IsReady desk) hands
  pub first : desk.segments * length hands ≤ first_room hands

-- A hand that stands for so many first tickets and has ended, with exactly the pieces of what was
-- drawn and not passed over.
pub record IsWorked (desk : DeskView) (job : Job) (share : ℕ) (hand : Hand) : Type 0 where
  pub own : IsOf desk hand.ticket
  pub known : IsKnown hand.ticket.part
  pub ended : hand.ticket.part.ended ≡ true
  pub share_is : hand.ticket.part.share ≡ share
  pub exact : IsExact job hand.ticket.part hand.pieces.items
