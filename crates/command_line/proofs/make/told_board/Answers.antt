use Rattle.std.proofs.lemmas.Result.{IfOk-weaker}
use Rattle.command_line.proofs.BoardTexts.{told-all, told-next}
use Rattle.command_line.proofs.make.told_board.Goals as goal

pub loop-board-preserved : goal.loop-board-preserved
loop-board-preserved c =
    told-next c.all-board-items.result.now c.loop-board.board-index _ _ _ _ c.loop-board-test.true c.loop-board.invariant
    c.in_ok-push_str.ensures.bytes c.in_ok-push_str-2.ensures.bytes

pub returns : goal.returns
returns c =
    IfOk-weaker c.format.result _ _
    (λ text is. told-all c.all-board-items.result.now _ _ c.args.word.now _ c.loop-board-test.false c.all-board-items.ensures c.loop-board.invariant is)
    c.format.ensures.ok
