use Rattle.std.proofs.Common.{sym, ◌∙◌}
use Rattle.named_files.proofs.Rooms.{room_if_written}
use Rattle.named_files.proofs.size_limit.Quota.has_room.Goals as goal

pub returns : goal.returns
returns g c = λ is. room_if_written c.write.result _ _ _ c.write.ensures.writes (sym c.is_ok.ensures.value ∙ is)
