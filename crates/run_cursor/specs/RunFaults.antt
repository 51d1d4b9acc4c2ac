-- The faults of a movie's one unbroken run. This project's own.
use Rattle.std.specs.Prelude.{◌≡◌, ℕ, ◌+◌, ◌-◌, ◌<◌}
use Rattle.vcs_machine.specs.declared.fault.FaultKind.{FaultKind}
use Rattle.refused.specs.declared.Refused.{Refused}
use Rattle.refused.specs.declared.Refused.TheVariants.{NoMemory, Of}
use Rattle.movie_file.specs.Judgement.{FaultsAt}
use Rattle.movie_file.specs.Movie.{MovieData}
use Rattle.movie_machine.specs.Carts.{ram_length}
use Rattle.run_cursor.specs.Cursor.{CursorData, IsAt}
use Rattle.run_cursor.specs.declared.cursor.RunFault.{RunFault}

-- This one of the run's first `frames` frames, counted from 1, faults. It is the first, as there is no
-- state after a fault.
abbrev pub FaultsWithin : MovieData → ℕ → ℕ → FaultKind → Type 0
FaultsWithin m frames frame kind = (k : ℕ) × (k < frames) × (frame ≡ k + 1) × FaultsAt m m.start 0 k kind

-- Why frame k + 1 isn't played: it faults, or memory is refused.
abbrev pub FrameFails : MovieData → ℕ → Refused FaultKind → Type 0
FrameFails m k (Of kind) = FaultsAt m m.start 0 k kind
FrameFails m k NoMemory = Unit {0}

-- Why a cursor doesn't come to the end of the run's first `frames` frames: one faults, and it stays before
-- that; or the memory of the cartridge's RAM was refused, and it stays where it has come to.
abbrev pub RunFails : MovieData → ℕ → CursorData → Refused RunFault → Type 0
RunFails m frames c (Of fault) = FaultsWithin m frames fault.frame fault.kind × IsAt m (fault.frame - 1) c
RunFails m frames c NoMemory = (0 < ram_length m.cartridge) × ((k : ℕ) × (k < frames) × IsAt m k c)
