-- What a file is by its first bytes. The bytes are those of RFC 1952 (gzip), of the specifications of
-- xz, Zstandard, PNG, GIF, JPEG (its marker SOI and the first byte of the next marker), 7z and RAR, of
-- APPNOTE.TXT (zip), of POSIX (tar, whose mark is at byte 257), and of what bzip2, MAME, BizHawk and
-- vcs_share write.
use Rattle.std.specs.Prelude.{ℕ, Bool, ◌==◌, ◌&&◌, ◌||◌, List, [], ◌∷◌, codes, drop}
use Rattle.std.specs.List.{starts_with}
use Rattle.movie_hints.specs.declared.look.Look.{Look}
use Rattle.movie_hints.specs.declared.look.Look.TheVariants.{Gzip, Xz, Zstd, Bzip2, SevenZip, Rar, BizHawkMovie}
use Rattle.movie_hints.specs.declared.look.Look.TheVariants.{Zip, Tar, Png, Gif, Jpeg, MameInputs, InputLog, SmallMagic, Stripped}

-- whether bytes have these at a place
abbrev pub has_at : List ℕ → ℕ → List ℕ → Bool
has_at bytes place wanted = starts_with (λ a b. a == b) (drop place bytes) wanted

-- whether the name of the first part of a zip file, whose length is at byte 26, is this
abbrev pub has_first_part : List ℕ → List ℕ → ℕ → Bool
has_first_part bytes name length = has_at bytes 26 (length ∷ 0 ∷ []) && has_at bytes 30 name

abbrev pub zip_mark : List ℕ
zip_mark = 0x50 ∷ 0x4B ∷ 0x03 ∷ 0x04 ∷ []

-- whether bytes begin as such files do
abbrev pub is_like : List ℕ → Look → Bool
is_like bytes Gzip = has_at bytes 0 (0x1F ∷ 0x8B ∷ [])
is_like bytes Xz = has_at bytes 0 (0xFD ∷ 0x37 ∷ 0x7A ∷ 0x58 ∷ 0x5A ∷ 0 ∷ [])
is_like bytes Zstd = has_at bytes 0 (0x28 ∷ 0xB5 ∷ 0x2F ∷ 0xFD ∷ [])
is_like bytes Bzip2 = has_at bytes 0 (codes "BZh")
is_like bytes SevenZip = has_at bytes 0 (0x37 ∷ 0x7A ∷ 0xBC ∷ 0xAF ∷ 0x27 ∷ 0x1C ∷ [])
is_like bytes Rar = has_at bytes 0 (0x52 ∷ 0x61 ∷ 0x72 ∷ 0x21 ∷ 0x1A ∷ 0x07 ∷ [])
is_like bytes BizHawkMovie =
    has_at bytes 0 zip_mark && (has_first_part bytes (codes "Header.txt") 10 || has_first_part bytes (codes "Input Log.txt") 13)
is_like bytes Zip = has_at bytes 0 zip_mark
is_like bytes Tar = has_at bytes 257 (codes "ustar")
is_like bytes Png = has_at bytes 0 (0x89 ∷ 0x50 ∷ 0x4E ∷ 0x47 ∷ 0x0D ∷ 0x0A ∷ 0x1A ∷ 0x0A ∷ [])
is_like bytes Gif = has_at bytes 0 (codes "GIF87a") || has_at bytes 0 (codes "GIF89a")
is_like bytes Jpeg = has_at bytes 0 (0xFF ∷ 0xD8 ∷ 0xFF ∷ [])
is_like bytes MameInputs = has_at bytes 0 (codes "MAMEINP")
is_like bytes InputLog = has_at bytes 0 (codes "[Input]") || has_at bytes 0 (codes "LogKey:")
is_like bytes SmallMagic =
    has_at bytes 0 (codes "a26m") || has_at bytes 0 (codes "a26M") || has_at bytes 0 (codes "A26m")
is_like bytes Stripped = has_at bytes 0 (codes "A26S")

-- the order in which they are looked for: a movie of BizHawk is a zip file
abbrev pub looks : List Look
looks =
    Gzip ∷ Xz ∷ Zstd ∷ Bzip2 ∷ SevenZip ∷ Rar ∷ BizHawkMovie ∷ Zip ∷ Tar ∷ Png ∷ Gif ∷ Jpeg ∷ MameInputs ∷ InputLog
    ∷ SmallMagic ∷ Stripped ∷ []
