-- The errors of a run with which a part of it may end. This project's own.
use Rattle.commands.specs.declared.run_error.RunError.{RunError}
use Rattle.commands.specs.declared.run_error.RunError.TheVariants.{NoMemory, NoThread, ReadFault, TooLong, WriteFault}

-- Of reading an input,
abbrev pub IsOfReading : RunError → Type 0
IsOfReading ReadFault = Unit {0}
IsOfReading TooLong = Unit {0}
IsOfReading NoMemory = Unit {0}
IsOfReading other = ⊥

-- of judging a movie,
abbrev pub IsOfJudging : RunError → Type 0
IsOfJudging NoThread = Unit {0}
IsOfJudging NoMemory = Unit {0}
IsOfJudging other = ⊥

-- and of writing what a run shows.
abbrev pub IsOfWriting : RunError → Type 0
IsOfWriting WriteFault = Unit {0}
IsOfWriting NoMemory = Unit {0}
IsOfWriting other = ⊥
