-- The bytes of what a command writes to a file. This project's own.
use Rattle.std.specs.Prelude.{ℕ, List}
use Rattle.picture_file.specs.PictureBytes.{pictures_bytes}
use Rattle.commands.specs.declared.answer.Contents.{Contents}
use Rattle.commands.specs.declared.answer.Contents.TheVariants.{Bytes, Pictures}

abbrev pub contents_bytes : Contents → List ℕ
contents_bytes (Bytes bytes) = bytes.items
contents_bytes (Pictures pictures) = pictures_bytes pictures
