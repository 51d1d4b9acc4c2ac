use Rattle.std.proofs.Common.{refl}
use Rattle.commands.proofs.refusal.rom_refusal.Goals as goal

pub returns : goal.returns
returns c = (c.hint_of_rom-hint.result, c.hint_of_rom-hint.ensures, rw (c.with_remark.ensures, c.of_text.ensures, c.in_ok-text.ensures) refl)
