use Rattle.std.proofs.Common.{rules, ◌++◌, codes, List, [], ap, ◌∙◌, ℕ, ◌-◌, ◌^◌, false}
use Rattle.std.proofs.Output.{has_written_of_eq}
use Rattle.std.specs.Fmt.{decimal, format_spec, padded_integral}
use Rattle.trace_text.specs.Columns.{right}
use Rattle.trace_text.proofs.ColumnLemmas.{right-padded}
use Rattle.trace_text.proofs.line.BeamDisplay.fmt.Goals as goal

pub returns-clause-writes : goal.returns-clause-writes
returns-clause-writes g c = λ plain ok. has_written_of_eq _ _ _ _ _
    (ap (λ (line : List ℕ). line
    ++ (codes " " ++ padded_integral (format_spec 32 3 0 2 (2 ^ 64 - 1)) false []
    (decimal c.args.self.now.cycle))) (right-padded 3 (decimal c.args.self.now.line))
    ∙ ap (λ (cycle : List ℕ). right 3 (decimal c.args.self.now.line) ++ (codes " " ++ cycle)) (right-padded 2 (decimal c.args.self.now.cycle)))
    (search rules)
