use Rattle.std.proofs.Common.{◌≡◌, ◌++◌, take}
use Rattle.std.specs.List.{flat_map}
use Rattle.movie_file.specs.Spelling.{checkpoint_bytes}
use Rattle.movie_file.proofs.writing.put_checkpoints.Given as goal

abbrev pub invariant-loop-checkpoint : goal.invariant-loop-checkpoint
invariant-loop-checkpoint l = l.out.items ≡ l.fn.out.items ++ flat_map (checkpoint_bytes l.version l.cart) (take l.checkpoint-index l.checkpoints)
