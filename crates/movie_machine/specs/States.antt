-- States between frames, each by the rules of one console. This project's own.
use Rattle.std.specs.Prelude.{ℕ, List, [], length, Bool, false, ◌==◌, ◌||◌}
use Rattle.mos_cpu.specs.Registers.{Registers}
use Rattle.chip_machine.specs.States.{is_of as is_of_by_chip, line_cycle_of as line_cycle_by_chip, state_at_power_on as power_on_by_chip}
use Rattle.riot_map.specs.Cart.{has_banks}
use Rattle.vcs_machine.specs.States.{line_cycle_of as line_cycle_by_guide, state_at_power_on as power_on_by_guide}
use Rattle.movie_machine.specs.declared.cart.Cart.{Cart}
use Rattle.movie_machine.specs.declared.cart.Cart.TheVariants.{Guide as GuideCart, Chip as ChipCart}
use Rattle.movie_machine.specs.declared.state.State.{State}
use Rattle.movie_machine.specs.declared.state.State.TheVariants.{Guide, Chip}

-- A state is one of a cartridge where the rules of both are the same and what is selected is there: by
-- the guide's rules a bank other than 0 only where the cartridge has banks, by the chip's rules the
-- numbers of its banks, with as much RAM as the board has.
abbrev pub is_of : Cart → State → Bool
is_of (GuideCart bytes) (Guide s) = has_banks (length bytes) || (s.bank == 0)
is_of (ChipCart cartridge) (Chip s) = is_of_by_chip cartridge s
is_of (GuideCart bytes) (Chip s) = false
is_of (ChipCart cartridge) (Guide s) = false

-- The RAM of its cartridge, which a state has beside its numbers.
abbrev pub ram_of : State → List ℕ
ram_of (Guide s) = []
ram_of (Chip s) = s.ram

-- The registers of its processor.
abbrev pub registers_of : State → Registers
registers_of (Guide s) = s.cpu
registers_of (Chip s) = s.fields.cpu

-- The 128 bytes of the RIOT's memory.
abbrev pub memory_of : State → List ℕ
memory_of (Guide s) = s.riot.ram
memory_of (Chip s) = s.fields.riot.ram

-- The beam's place in its scanline, in cycles.
abbrev pub line_cycle_of : State → ℕ
line_cycle_of (Guide s) = line_cycle_by_guide s
line_cycle_of (Chip s) = line_cycle_by_chip s

-- A console that was just switched on.
abbrev pub state_at_power_on : Cart → State
state_at_power_on (GuideCart bytes) = Guide (power_on_by_guide bytes)
state_at_power_on (ChipCart cartridge) = Chip (power_on_by_chip cartridge)
