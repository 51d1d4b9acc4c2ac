-- Notes.
use Rattle.std.proofs.Common.{◌≡◌, ◌≢◌, ◌∙◌, ℕ, ◌-◌, ◌≤◌, List, [], ◌∷◌, ◌++◌, codes, length, arith, ap, sym, Option, Some, append-nil}
use Rattle.std.proofs.lemmas.Bool.Decides.{nat_tests}
use Rattle.std.proofs.lemmas.Grind.{flat_map-append}
use Rattle.std.specs.Fmt.{decimal}
use Rattle.movie_file.specs.declared.checkpoint.Checkpoint.{Checkpoint}
use Rattle.movie_file.specs.Movie.{MovieData}
use Rattle.movie_machine.specs.Carts.{board_of}
use Rattle.cart_board.specs.Board.{Row}
use Rattle.movie_report.specs.CheckpointFacts.{last_of}
use Rattle.movie_report.specs.Notes.{claim_notes, note_text, note_texts, notes_of, start_notes}
use Rattle.replay_plan.specs.declared.notation.Notation.{Notation}

-- The text of one note.
pub note_texts-one : (notation : Notation) (note : List ℕ) → note_texts notation (note ∷ []) ≡ note_text notation note
note_texts-one notation note = append-nil (note_text notation note)

-- The texts of the notes of a movie, which has this board.
pub note_texts-both : (notation : Notation) (m : MovieData) (board : Option Row) (start power first second both : List ℕ) → board ≡ board_of m.cartridge
    → first ≡ note_texts notation (start_notes board start power)
    → second ≡ note_texts notation (claim_notes (length m.inputs) (last_of m.checkpoints))
    → both ≡ first ++ second
    → both ≡ note_texts notation (notes_of m start power)
note_texts-both notation m board start power first second both is starts claims joined =
    let notes = start_notes (board_of m.cartridge) start power in
    let claim = claim_notes (length m.inputs) (last_of m.checkpoints) in
    let one : first ≡ note_texts notation notes = starts ∙ ap (λ (b : Option Row). note_texts notation (start_notes b start power)) is in
    let parts : first ++ second ≡ note_texts notation notes ++ note_texts notation claim = cc in
    joined ∙ parts ∙ sym (flat_map-append (note_text notation) notes claim)

-- The notes of a movie whose last checkpoint is this.
module _ (frames : ℕ) (c : Checkpoint) (le : c.frame ≤ frames) where
  pub claim_notes-none : frames - c.frame ≡ 0 → claim_notes frames (Some c) ≡ []
  claim_notes-none none = grind (arith, nat_tests)

  pub claim_notes-some : frames - c.frame ≢ 0
      → claim_notes frames (Some c) ≡ (decimal (frames - c.frame) ++ codes " frames after the last checkpoint") ∷ []
  claim_notes-some some = grind (arith, nat_tests)
