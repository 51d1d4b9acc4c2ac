-- What a terminal or a log is given of a text from outside. This project's own, but for which
-- characters may go unseen: those that Unicode calls default ignorable (DerivedCoreProperties.txt).
use Rattle.std.specs.Prelude.{ℕ, Bool, not, ◌&&◌, ◌||◌, ◌==◌, nat_le, if◌then◌else◌, List}
use Rattle.std.specs.Char.{encode_utf8, is_control}
use Rattle.std.specs.Char.Escape.{escape_default}
use Rattle.std.specs.List.{flat_map}
use Rattle.std.specs.Str.{chars, encode_utf8_all}

-- From one character to another.
abbrev pub is_from : ℕ → ℕ → ℕ → Bool
is_from first last c = nat_le first c && nat_le c last

-- It may go unseen: marks of the direction, spaces and joiners without a width, fillers, variations.
abbrev pub is_ignorable : ℕ → Bool
is_ignorable c =
    c == 0xAD || c == 0x34F || c == 0x61C || is_from 0x115F 0x1160 c || is_from 0x17B4 0x17B5 c
    || is_from 0x180B 0x180F c || is_from 0x200B 0x200F c || is_from 0x202A 0x202E c || is_from 0x2060 0x206F c
    || c == 0x3164 || is_from 0xFE00 0xFE0F c || c == 0xFEFF || c == 0xFFA0 || is_from 0xFFF0 0xFFF8 c
    || is_from 0x1BCA0 0x1BCA3 c || is_from 0x1D173 0x1D17A c || is_from 0xE0000 0xE0FFF c

-- It ends a line or a paragraph, and is no control character.
abbrev pub is_line_end : ℕ → Bool
is_line_end c = c == 0x2028 || c == 0x2029

-- It is shown as it is: none of these, and no control character.
abbrev pub is_plain : ℕ → Bool
is_plain c = not (is_control c) && not (is_ignorable c) && not (is_line_end c)

-- What is written for a character: itself, or Rust's escape of it, as `\n` or `\u{1b}`.
abbrev pub shown_character : ℕ → List ℕ
shown_character c = if is_plain c then encode_utf8 c else encode_utf8_all (escape_default c)

-- What is written for a text.
abbrev pub shown_text : List ℕ → List ℕ
shown_text text = flat_map shown_character (chars text)
