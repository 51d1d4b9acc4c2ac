-- The most that a plan asks for. This project's own.
use Rattle.std.specs.Prelude.{ℕ}

-- The most workers that judge a movie. Each but the first is a thread, and few hosts have more
-- processors.
abbrev pub most_workers : ℕ
most_workers = 64

-- The most frames whose pictures are kept: ten seconds of play at 60 frames a second. All of them
-- are in memory at once, and with 322 rows each they take 31 megabytes.
abbrev pub most_kept : ℕ
most_kept = 600

-- The most addresses of memory whose bytes are shown after a frame: a line for a person to read.
abbrev pub most_watches : ℕ
most_watches = 16

-- The first address of memory, 80. The last is FF.
abbrev pub first_address : ℕ
first_address = 128
