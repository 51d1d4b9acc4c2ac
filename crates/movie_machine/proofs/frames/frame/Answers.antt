use Rattle.std.proofs.Common.{Err, ap}
use Rattle.refused.specs.declared.Refused.{Refused}
use Rattle.vcs_machine.specs.declared.fault.FaultKind.{FaultKind}
use Rattle.movie_machine.proofs.FrameLemmas.{of-error, of-played}
use Rattle.movie_machine.proofs.frames.frame.Goals.{in-Guide-Guide+in_ok-timed-in-Guide-Guide, in-Chip-Chip}
use Rattle.movie_machine.proofs.frames.frame.Goals as goal

pub returns-in_err-timed-in-Guide-Guide-clause-cartridge : goal.returns-in_err-timed-in-Guide-Guide-clause-cartridge
returns-in_err-timed-in-Guide-Guide-clause-cartridge c =
    let cart = c.in-Guide-Guide.is-0 in
    let of = rw (cart, c.in-Guide-Guide.is-1) at c.requires in
    let fails = c.in_err-timed-in-Guide-Guide.ensures in
    rw cart (of-error _ _ _ _ of c.in_err-timed-in-Guide-Guide.field-0.0 fails.err (λ e. fails.refused (ap (λ (x : Refused FaultKind). Err x) e)))

pub returns-clause-cartridge : goal.returns-clause-cartridge
returns-clause-cartridge c = elim c.match-cart.branch [
  | in-Guide-Guide+in_ok-timed-in-Guide-Guide w ↦
      let cart = w.in-Guide-Guide.is-0 in
      let of = rw (cart, w.in-Guide-Guide.is-1) at c.requires in
      let played = w.in_ok-timed-in-Guide-Guide.ensures.ok in
      rw (w.state-is, cart) (of-played _ _ _ _ of played.0 played.1)
  | in-Chip-Chip w ↦ rw (w.state-is, w.in-Chip-Chip.is-0) w.frame.ensures.cartridge
]
