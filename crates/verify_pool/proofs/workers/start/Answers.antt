use Rattle.std.proofs.Common.{rules}
use denote.Exit.{no}
use denote.Param.{param}
use denote.Param.Send.{arg_send, param_send, shr_send}
use Rattle.std.proofs.alloc.Global.TheSendSync as heap
use Rattle.movie_file.proofs.movie.Movie.TheSendSync as movie
use Rattle.replay_segments.proofs.cuts.Cuts.TheSendSync as cuts
use Rattle.replay_plan.proofs.keep.Keep.TheSendSync as keep
use Rattle.segment_desk.proofs.desk.Desk.TheSendSync as desk
use Rattle.verify_pool.proofs.Sent.{hand_send, seven_send}
use Rattle.verify_pool.proofs.workers.start.Lts as lts
use Rattle.verify_pool.proofs.workers.start.Goals as goal

pub spawn_with-started-requires-send-T : goal.spawn_with-started-requires-send-T
spawn_with-started-requires-send-T g c κs within = search (rules, hand_send) depth 20

pub spawn_with-started-requires-send-F : goal.spawn_with-started-requires-send-F
spawn_with-started-requires-send-F g c κs within = param_send 2 (lts.arg-4-2 g.row.E g.row.G g.E.laws g.G.laws g.G.Gate-dict g.G.Progress-dict κs)
    (arg_send _ no _ (seven_send _ _ _ _ _ _ _ _ heap.the_send (shr_send _ _ _ movie.the_sync)
    (shr_send _ _ _ cuts.the_sync) keep.the_send (shr_send _ _ _ desk.the_sync)
    (shr_send _ _ (param 1 g.row.G) (search rules)) hand_send))
