use Rattle.std.proofs.Common.{ap, sym, ◌∙◌, ◌≡◌, arith}
use Rattle.segment_desk.specs.Desk.{fresh_part}
use Rattle.segment_desk.proofs.StepLemmas.{splits_seat}
use Rattle.segment_desk.proofs.desk.Desk.split.Goals as goal

pub split_seat-seat-requires : goal.split_seat-seat-requires
split_seat-seat-requires c = let two = c.self.invariant.0 in let is = c.ticket.view_is ∙ c.requires.fresh in
    let n : c.args.self.now.segments ≡ c.self.inside.table.shared.key.segments = ap (λ d. d.segments) (sym c.self.view_is) ∙ sym c.self.invariant.1 in
    let w : c.args.self.now.workers ≡ c.self.inside.table.shared.key.workers = ap (λ d. d.workers) (sym c.self.view_is) in (
      ap (λ t. t.desk) is ∙ sym (ap (λ d. d.id) c.self.view_is),
      omega arith,
      splits_seat _ _ _ c.args._share _ (ap (λ t. t.part) is ∙ (λ i. fresh_part (n i) (w i) c.args._share)) c.requires.share,
    )
