-- What a frame by the guide's rules answers, as a movie's.
use Rattle.std.proofs.Common.{◌≡◌, ◌∙◌, ℕ, List, Some, length, refl, ap, inl, inr}
use Rattle.std.specs.Prelude.{IsTrue}
use Rattle.std.proofs.lemmas.Bool.{cases_Bool}
use Rattle.refused.specs.declared.Refused.{Refused}
use Rattle.refused.specs.declared.Refused.TheVariants.{NoMemory, Of}
use Rattle.riot_map.specs.Cart.{has_banks}
use Rattle.tia_core.specs.Clock.{Pixel}
use Rattle.vcs_machine.specs.Consoles.{Console}
use Rattle.vcs_machine.specs.Frame.{Machine, Stop, machine_at}
use Rattle.vcs_machine.specs.Inputs.{InputData}
use Rattle.vcs_machine.specs.Outcomes.{Played as PlayedByGuide, Failed as FailedByGuide, FailsAs as FailsByGuide}
use Rattle.vcs_machine.specs.Outcomes.{Halts, cycles_of, left_by, frame_of as frame_of_guide}
use Rattle.vcs_machine.specs.Pictures.{Rows}
use Rattle.vcs_machine.specs.declared.fault.FaultKind.{FaultKind}
use Rattle.vcs_machine.specs.declared.fields.StateFields.{StateFields}
use Rattle.vcs_machine.proofs.BankLaws.{frame_of-bank}
use Rattle.vcs_machine.proofs.FrameOutcomes.{machine_at-halted}
use Rattle.movie_machine.specs.declared.cart.Cart.TheVariants.{Guide as GuideCart}
use Rattle.movie_machine.specs.declared.state.State.TheVariants.{Guide}
use Rattle.movie_machine.specs.Outcomes.{Played, Failed, frame_of, left_with}
use Rattle.movie_machine.specs.States.{is_of}

module _ (bytes : List ℕ) (s after : StateFields) (i : InputData) where
  pub ended : (rows : Rows) → frame_of_guide bytes s i ≡ PlayedByGuide after rows
      → (rows : Rows) × (cycles : ℕ) × (frame_of (GuideCart bytes) (Guide s) i ≡ Some (Played (Guide after) rows cycles))
  ended rows ends = (rows, cycles_of bytes s i, rw ends refl)

  halted-cycles : (kind : FaultKind) (cycles : ℕ) → Halts bytes s i kind after cycles → cycles_of bytes s i ≡ cycles
  unfolding cycles_of
  halted-cycles kind cycles h =
      ap (λ (stop : Stop (Console (List Pixel))). (machine_at stop).cycles) h.1 ∙ ap (λ (m : Machine (Console (List Pixel))). m.cycles) (machine_at-halted kind h.0)
      ∙ h.3

  pub halted : (kind : FaultKind) (cycles : ℕ) → frame_of_guide bytes s i ≡ FailedByGuide kind after → Halts bytes s i kind after cycles
      → frame_of (GuideCart bytes) (Guide s) i ≡ Some (Failed kind (left_with (Guide after) (Some cycles)))
  halted kind cycles fails h = rw (fails, halted-cycles kind cycles h) refl

  -- ---- the bank stays where there is one alone
  module _ (of : IsTrue (is_of (GuideCart bytes) (Guide s))) where
    of-left : left_by (frame_of_guide bytes s i) ≡ after → IsTrue (is_of (GuideCart bytes) (Guide after))
    of-left left = elim (cases_Bool (has_banks (length bytes))) [
      | inl banks ↦ rw banks refl
      | inr single ↦ rw (single, ← left, frame_of-bank bytes s i single) (rw single at of)
    ]

    pub of-played : (rows : Rows) → frame_of_guide bytes s i ≡ PlayedByGuide after rows → IsTrue (is_of (GuideCart bytes) (Guide after))
    of-played rows ends = of-left (ap left_by ends)

    pub of-failed : (kind : FaultKind) → frame_of_guide bytes s i ≡ FailedByGuide kind after → IsTrue (is_of (GuideCart bytes) (Guide after))
    of-failed kind fails = of-left (ap left_by fails)

    pub of-error : (error : Refused FaultKind) → FailsByGuide (frame_of_guide bytes s i) error after → (error ≡ NoMemory → after ≡ s)
        → IsTrue (is_of (GuideCart bytes) (Guide after))
    of-error (Of kind) fails kept = of-failed kind fails
    of-error NoMemory fails kept = rw (kept refl) of
