-- Why a run from power-on is no movie. This project's own.
use Rattle.std.specs.Prelude.{◌<◌, List}
use Rattle.movie_machine.specs.Carts.{ram_length}
use Rattle.movie_machine.specs.declared.cart.Cart.{Cart}
use Rattle.vcs_machine.specs.Inputs.{InputData}
use Rattle.movie_file.specs.declared.error.MakeError.{MakeError}
use Rattle.movie_file.specs.declared.error.MakeError.TheVariants.{Fault, BadCounts}
use Rattle.refused.specs.declared.Refused.{Refused}
use Rattle.refused.specs.declared.Refused.TheVariants.{NoMemory, Of}
use Rattle.movie_file.specs.Making.{IsFirstFault}

-- the run from power-on has its first fault at this frame, or memory for the cartridge's RAM was refused
abbrev pub RunFails : Cart → List InputData → Refused MakeError → Type 0
RunFails cartridge inputs (Of (Fault frame kind)) = IsFirstFault cartridge inputs frame kind
RunFails cartridge inputs (Of BadCounts) = ⊥
RunFails cartridge inputs NoMemory = 0 < ram_length cartridge
