-- The bytes of a picture: a Netpbm portable pixmap in its raw form, P6.
use Rattle.std.specs.Prelude.{ℕ, List, [], ◌∷◌, ◌++◌, length, codes}
use Rattle.std.specs.List.{flat_map}
use Rattle.std.specs.Fmt.{decimal}
use Rattle.vcs_machine.specs.Pictures.{Rows}
use Rattle.picture_file.specs.Palette.{rgb_of}

-- Three bytes for each pixel, from the left.
abbrev pub row_bytes : List ℕ → List ℕ
row_bytes row = flat_map rgb_of row

-- What stands before the pixels of so many rows: the format, the size and the greatest value.
abbrev pub header_bytes : ℕ → List ℕ
header_bytes rows = (codes "P6" ++ 10 ∷ codes "160 ") ++ (decimal rows ++ (10 ∷ codes "255" ++ 10 ∷ []))

-- Rows from the top.
abbrev pub picture_bytes : Rows → List ℕ
picture_bytes rows = header_bytes (length rows) ++ flat_map row_bytes rows

-- Several pictures follow one another with nothing between.
abbrev pub pictures_bytes : List Rows → List ℕ
pictures_bytes pictures = flat_map picture_bytes pictures
