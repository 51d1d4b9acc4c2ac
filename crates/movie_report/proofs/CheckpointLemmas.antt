-- The next checkpoint.
use Rattle.std.proofs.Common.{◌≡◌, ℕ, ◌+◌, ◌-◌, ◌<◌, Some, slice_get, drop, List}
use Rattle.movie_machine.specs.declared.cart.Cart.{Cart}
use Rattle.movie_file.specs.Movie.{AreCheckpoints}
use Rattle.movie_file.specs.declared.checkpoint.Checkpoint.{Checkpoint}
use Rattle.movie_report.proofs.ListLemmas.{drop_at}

-- It stands after the last one, and the others after it.
pub next_checkpoint : (cartridge : Cart) (last n : ℕ) (cs : List Checkpoint) (i : ℕ) (c : Checkpoint) → AreCheckpoints cartridge last n (drop i cs)
    → slice_get cs (i + 1 - 1) ≡ Some c → (last < c.frame) × AreCheckpoints cartridge c.frame n (drop (i + 1) cs)
next_checkpoint cartridge last n cs i c left here = let next = rw (drop_at cs i c here) at left in (next.0, next.3)
