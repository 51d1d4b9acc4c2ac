-- Where the bytes of a ROM that is expected aren't those of a cartridge. This project's own.
use Rattle.std.specs.Prelude.{ℕ, Bool, not, ◌==◌, List, [], ◌∷◌, ◌++◌, codes, length, slice_index, take, drop, Option, Some, None}
use Rattle.std.specs.Prelude.{◌/◌, ◌%◌, true, nat_lt, if◌then◌else◌}
use Rattle.std.specs.Fmt.{decimal, digits}
use Rattle.std.specs.List.{filter, flat_map, range_with_len}
use Rattle.std.specs.Str.{bytes_eq}
use Rattle.vcs_machine.specs.Faults.{hex2, hex4}
use Rattle.replay_plan.specs.declared.notation.Notation.{Notation}
use Rattle.replay_plan.specs.declared.notation.Notation.TheVariants.{Lines, Json}

-- Two lists of bytes differ at a place, counted from 0.
abbrev pub is_different_at : List ℕ → List ℕ → ℕ → Bool
is_different_at rom cartridge offset = not (slice_index rom offset == slice_index cartridge offset)

-- All places at which a ROM differs from a cartridge of its length, the lowest first.
unfoldable pub different_offsets : List ℕ → List ℕ → List ℕ
different_offsets rom cartridge = filter (is_different_at rom cartridge) (range_with_len 0 (length cartridge))

-- A place as at least four capital hexadecimal digits.
abbrev pub offset_text : ℕ → List ℕ
offset_text offset = if nat_lt offset 0x10000 then hex4 offset else digits 16 true (offset / 0x10000) ++ hex4 (offset % 0x10000)

-- What is said of a place: the byte that is expected there and the one that is found, in a line, or as
-- an element of an array after those before it.
abbrev pub byte_text : Notation → ℕ → ℕ → ℕ → List ℕ
byte_text Lines offset expected found =
    codes "cartridge " ++ (offset_text offset ++ (codes ": expected " ++ (hex2 expected ++ (codes ", found " ++ (hex2 found ++ 10 ∷ [])))))
byte_text Json offset expected found =
    codes ",{\"offset\":\"" ++ (offset_text offset ++ (codes "\",\"expected\":\"" ++ (hex2 expected
    ++ (codes "\",\"found\":\"" ++ (hex2 found ++ codes "\"}")))))

-- What is said of places, in their order.
abbrev pub bytes_text : Notation → List ℕ → List ℕ → List ℕ → List ℕ
bytes_text notation rom cartridge offsets = flat_map (λ offset. byte_text notation offset (slice_index rom offset) (slice_index cartridge offset)) offsets

-- How many places there are, and what is said of the first four.
abbrev pub places_text : Notation → List ℕ → List ℕ → List ℕ → List ℕ
places_text Lines rom cartridge offsets =
    codes "cartridge differs: " ++ (decimal (length offsets) ++ (codes " bytes" ++ (10 ∷ bytes_text Lines rom cartridge (take 4 offsets))))
places_text Json rom cartridge offsets =
    codes ",\"differing_bytes\":" ++ (decimal (length offsets) ++ (codes ",\"cartridge_differs\":["
    ++ (drop 1 (bytes_text Json rom cartridge (take 4 offsets)) ++ codes "]")))

-- Two lengths that differ.
abbrev pub lengths_text : Notation → ℕ → ℕ → List ℕ
lengths_text Lines expected found =
    codes "cartridge length: expected " ++ (decimal expected ++ (codes ", found " ++ (decimal found ++ 10 ∷ [])))
lengths_text Json expected found = codes ",\"expected_length\":" ++ decimal expected

-- In what a cartridge isn't the ROM that is expected, if one is: in its length, or else in its bytes.
abbrev pub cartridge_differences : Notation → Option (List ℕ) → List ℕ → List ℕ
cartridge_differences notation None cartridge = []
cartridge_differences notation (Some rom) cartridge =
    if bytes_eq rom cartridge then []
    else if length rom == length cartridge then places_text notation rom cartridge (different_offsets rom cartridge)
    else lengths_text notation (length rom) (length cartridge)
