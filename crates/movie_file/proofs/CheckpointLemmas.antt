-- Checkpoints by look-ups.
use Rattle.std.proofs.Common.{◌≡◌, ℕ, zero, suc, ◌<◌, ◌≤◌, List, [], ◌∷◌, Some, subst}
use Rattle.std.proofs.Common.{arith}
use Rattle.std.specs.Prelude.{slice_get}
use Rattle.movie_file.specs.declared.checkpoint.Checkpoint.{Checkpoint}
use Rattle.movie_file.specs.Movie.{AreCheckpoints, IsStateOf}
use Rattle.movie_machine.specs.declared.cart.Cart.{Cart}

abbrev pub IsWithin : Cart → ℕ → ℕ → Checkpoint → Type 0
IsWithin cartridge last n c = (last < c.frame) × (c.frame ≤ n) × IsStateOf cartridge c.state

-- each is after the frame that they are counted from, and none after the last frame
pub checkpoint_in_range : (cartridge : Cart) (cs : List Checkpoint) (last n i : ℕ) (c : Checkpoint) → AreCheckpoints cartridge last n cs → slice_get cs i ≡ Some c
    → IsWithin cartridge last n c
checkpoint_in_range cartridge [] last n i c h e = absurd cc
checkpoint_in_range cartridge (d ∷ cs) last n zero c h e = let same : d ≡ c = cc in subst (IsWithin cartridge last n) same (h.0, h.1, h.2)
checkpoint_in_range cartridge (d ∷ cs) last n (suc i) c h e =
    let later = checkpoint_in_range cartridge cs d.frame n i c h.3 e in (omega (arith, h.0, later.0), later.1, later.2)

-- a later one has a greater frame
pub checkpoints_rise : (cartridge : Cart) (cs : List Checkpoint) (last n i j : ℕ) (c d : Checkpoint) → AreCheckpoints cartridge last n cs → i < j
    → slice_get cs i ≡ Some c → slice_get cs j ≡ Some d → c.frame < d.frame
checkpoints_rise cartridge [] last n i j c d h lt e f = absurd cc
checkpoints_rise cartridge (b ∷ cs) last n i zero c d h lt e f = absurd (omega arith)
checkpoints_rise cartridge (b ∷ cs) last n zero (suc j) c d h lt e f =
    let same : b ≡ c = cc in rw (← same) (checkpoint_in_range cartridge cs b.frame n j d h.3 f).0
checkpoints_rise cartridge (b ∷ cs) last n (suc i) (suc j) c d h lt e f = checkpoints_rise cartridge cs b.frame n i j c d h.3 (omega arith) e f
