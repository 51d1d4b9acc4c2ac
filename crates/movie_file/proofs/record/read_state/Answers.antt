use Rattle.std.proofs.Common.{◌∙◌, sym, arith, rules}
use Rattle.movie_file.specs.Record.{recorded_state}
use Rattle.std.proofs.lemmas.Option.{cond_some}
use Rattle.movie_file.proofs.ByteLemmas.{unchosen}
use Rattle.movie_file.proofs.RecordLaws.{no_cpu, no_tia, state_found, state_of_parts, state_only}
use Rattle.movie_file.proofs.record.read_state.Goals as goal

pub returns-then-bytes-ne-STATE_LENGTH-clause-only : goal.returns-then-bytes-ne-STATE_LENGTH-clause-only
unfolding recorded_state
returns-then-bytes-ne-STATE_LENGTH-clause-only c = state_only c.args.bytes.now _ (search rules)

pub returns-in_err-cpu_in : goal.returns-in_err-cpu_in
returns-in_err-cpu_in c =
    let exact = c.from_residual.ensures ∙ sym (no_cpu c.args.bytes.now (unchosen _ _ (sym c.cpu_in.ensures ∙ c.in_err-cpu_in.was))) in
    record { exact = exact; found = state_found c.args.bytes.now _ (λ i. omega (arith, c.type_inv.bytes i)) exact; only = state_only _ _ exact }

pub returns-in_err-tia_in : goal.returns-in_err-tia_in
returns-in_err-tia_in c =
    let exact = c.from_residual-in_err-tia_in.ensures ∙ sym (no_tia c.args.bytes.now (unchosen _ _ (sym c.tia_in.ensures ∙ c.in_err-tia_in.was))) in
    record { exact = exact; found = state_found c.args.bytes.now _ (λ i. omega (arith, c.type_inv.bytes i)) exact; only = state_only _ _ exact }

pub returns : goal.returns
returns c =
    let cpu = cond_some _ _ _ (sym c.cpu_in.ensures ∙ c.in_ok-cpu_in.was) in
    let tia = cond_some _ _ _ (sym c.tia_in.ensures ∙ c.in_ok-tia_in.was) in
    let exact = state_of_parts c.args.bytes.now _ _ _ _ (omega arith) (sym cpu.1) c.riot_in.ensures (sym tia.1) c.from_fields.ensures in
    record { exact = exact; found = state_found c.args.bytes.now _ (λ i. omega (arith, c.type_inv.bytes i)) exact; only = state_only _ _ exact }
