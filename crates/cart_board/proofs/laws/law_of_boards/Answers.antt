use Rattle.cart_board.proofs.SoundLemmas.{board_is_sound, power_on_banks, select_keeps, byte_keeps, target_within}
use Rattle.cart_board.proofs.laws.law_of_boards.Goals as goal

pub returns-clause-power_on : goal.returns-clause-power_on
returns-clause-power_on c = λ row bytes is size. power_on_banks row bytes is

pub returns-clause-select : goal.returns-clause-select
returns-clause-select c = λ row bytes banks address written is size long are. select_keeps row bytes banks address written (board_is_sound row bytes is size) long are

pub returns-clause-byte : goal.returns-clause-byte
returns-clause-byte c = λ row bytes banks address byte is size long are. byte_keeps row bytes banks address byte (board_is_sound row bytes is size) long are

pub returns-clause-within : goal.returns-clause-within
returns-clause-within c = λ row bytes banks address is size are. target_within row bytes banks address (board_is_sound row bytes is size) are
