-- Bytes of a bank that are found by a mask. This project's own, for proofs alone.
use Rattle.std.specs.Prelude.{ℕ, ◌≡◌, ◌+◌, ◌%◌, ◌<◌, bit_and}

-- The address after this one is of the same bank, and its byte is the next.
pub record IsFollowed (mask address : ℕ) : Type 0 where
  pub next : bit_and (address + 1) mask ≡ bit_and address mask + 1
  pub inside : address % 4096 < 4095
