-- How a word of a file is shown. This project's own, but for where bytes stop being UTF-8: Unicode, table 3-7.
use Rattle.std.specs.Prelude.{ℕ, ◌+◌, zero, suc, not, ◌&&◌, nat_lt, if◌then◌else◌, List, [], ◌++◌, codes, drop, length, take}
use Rattle.std.specs.Char.{encode_utf8, is_whitespace}
use Rattle.std.specs.Char.Escape.{escape_ascii, escape_default}
use Rattle.std.specs.List.{flat_map}
use Rattle.std.specs.Str.{chars, encode_utf8_all}
use Rattle.std.specs.Str.Lossy.{utf8_invalid_len, utf8_valid_len}
use Rattle.terminal_text.specs.Names.{is_plain}

-- What is written for a character: itself, or Rust's escape of it, as `\n` or `\u{a0}`, where it may go
-- unseen or looks like a space.
abbrev pub letter_text : ℕ → List ℕ
letter_text c = if is_plain c && not (is_whitespace c) then encode_utf8 c else encode_utf8_all (escape_default c)

-- For a text,
abbrev pub letters_text : List ℕ → List ℕ
letters_text text = flat_map letter_text (chars text)

-- for a byte of no text, as `\xff`,
abbrev pub escaped_byte : ℕ → List ℕ
escaped_byte byte = encode_utf8_all (escape_ascii byte)

-- and for such bytes.
abbrev pub escaped : List ℕ → List ℕ
escaped bytes = flat_map escaped_byte bytes

-- The text at the front of bytes, and the bytes after it that begin no character.
abbrev pub text_of : List ℕ → List ℕ
text_of bytes = take (utf8_valid_len bytes) bytes

abbrev pub no_text_of : List ℕ → List ℕ
no_text_of bytes = let rest = drop (utf8_valid_len bytes) bytes in take (utf8_invalid_len rest) rest

-- What is written for bytes, of which there are at most so many: for the text at the front, for the
-- bytes after it that begin no character, and so on.
abbrev pub pieces_text : ℕ → List ℕ → List ℕ
pieces_text zero bytes = []
pieces_text (suc most) bytes =
    letters_text (text_of bytes)
    ++ (escaped (no_text_of bytes) ++ pieces_text most (drop (length (text_of bytes) + length (no_text_of bytes)) bytes))

unfoldable pub shown_bytes : List ℕ → List ℕ
shown_bytes bytes = pieces_text (length bytes) bytes

-- For a word: for its first 40 bytes, and two dots if it has more.
abbrev pub word_text : List ℕ → List ℕ
word_text bytes = shown_bytes (take 40 bytes) ++ (if nat_lt 40 (length bytes) then codes ".." else [])
