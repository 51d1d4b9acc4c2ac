use Rattle.std.proofs.Common.{◌≡◌, ◌∙◌, [], Option, None, sym, ap, rules, slice_index}
use Rattle.std.proofs.Output.{has_written_of_eq}
use Rattle.mos_cpu.specs.Opcodes.{row_of}
use Rattle.mos_cpu.specs.declared.opcode_row.Row.{Row}
use Rattle.trace_text.specs.TraceLines.{code_text}
use Rattle.trace_text.proofs.line.CodeDisplay.fmt.Goals as goal

pub returns-in_default-clause-writes : goal.returns-in_default-clause-writes
returns-in_default-clause-writes g c =
    λ plain ok.
    let code = c.args.self.now.code.now in
    let none : row_of (slice_index code 0) ≡ None = rw c.at.ensures at (sym c.row.ensures ∙ c.in_default.is) in
    has_written_of_eq _ _ [] _ _ (ap (λ (row : Option Row). code_text c.args.self.now.pc code row) (sym none)) (search rules)
