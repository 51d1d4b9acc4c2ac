use Rattle.std.proofs.Common.{arith}
use Rattle.chip_machine.proofs.TiaNumberLemmas.{copies}
use Rattle.chip_machine.proofs.record.tia.copy_bytes.Goals as goal

pub overflow_cast-result : goal.overflow_cast-result
overflow_cast-result c = omega (arith, c.player_copy_number.ensures, (copies c.args.tia.now c.requires).player0)

pub overflow_cast-result-2 : goal.overflow_cast-result-2
overflow_cast-result-2 c = omega (arith, c.player_copy_number-2.ensures, (copies c.args.tia.now c.requires).player1)

pub overflow_cast-result-3 : goal.overflow_cast-result-3
overflow_cast-result-3 c = omega (arith, c.missile_copy_number.ensures, (copies c.args.tia.now c.requires).missile0)

pub overflow_cast-result-4 : goal.overflow_cast-result-4
overflow_cast-result-4 c = omega (arith, c.missile_copy_number-2.ensures, (copies c.args.tia.now c.requires).missile1)

pub overflow_cast-result-5 : goal.overflow_cast-result-5
overflow_cast-result-5 c = omega (arith, c.ball_copy_number.ensures, (copies c.args.tia.now c.requires).ball)
