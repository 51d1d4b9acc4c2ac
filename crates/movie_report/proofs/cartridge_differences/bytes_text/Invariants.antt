use Rattle.std.proofs.Common.{◌≡◌, string_bytes, take}
use Rattle.movie_report.specs.CartridgeDifferences.{bytes_text}
use Rattle.movie_report.proofs.cartridge_differences.bytes_text.Given as goal

abbrev pub invariant-loop-offset : goal.invariant-loop-offset
invariant-loop-offset l = string_bytes l.text ≡ bytes_text l.notation l.rom l.cart (take l.offset-index l.offsets)
