-- The rows of the program's table, as the definitions have them. This project's own.
use Rattle.std.specs.Prelude.{map}
use Rattle.command_line.specs.Table as table
use Rattle.command_line.specs.declared.table.Argument.{Argument}
use Rattle.command_line.specs.declared.table.Kind.{Kind}
use Rattle.command_line.specs.declared.table.Kind.TheVariants.{NeededNumber, NeededWord, Number, Operand, RepeatedWord, Switch, Word}
use Rattle.command_line.specs.declared.table.Listed.{Listed}

abbrev pub kind_of : Kind → table.Kind
kind_of Operand = table.operand
kind_of Switch = table.switch
kind_of Word = table.word
kind_of NeededWord = table.needed_word
kind_of RepeatedWord = table.repeated_word
kind_of (Number least most default) = table.number least most default.now
kind_of (NeededNumber least most) = table.needed_number least most

-- What help says isn't part of the definitions.
abbrev pub argument_of : Argument → table.Argument
argument_of row = record { name = row.name.now; kind = kind_of row.kind }

abbrev pub listed_of : Listed → table.Listed
listed_of listed = record { name = listed.name.now; arguments = map (λ row. argument_of row) listed.arguments.now }
