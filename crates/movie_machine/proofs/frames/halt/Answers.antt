use Rattle.std.proofs.Common.{refl}
use Rattle.movie_machine.proofs.FrameLemmas.{ended, halted, of-failed, of-played}
use Rattle.movie_machine.proofs.frames.halt.Goals.{in-Guide-Guide+in_ok-halt-in-Guide-Guide, in-Chip-Chip, in-Ok, in-Err-Of}
use Rattle.movie_machine.proofs.frames.halt.Goals as goal

pub returns-in_err-halt-in-Guide-Guide-clause-ended : goal.returns-in_err-halt-in-Guide-Guide-clause-ended
returns-in_err-halt-in-Guide-Guide-clause-ended c =
    let over = c.in_err-halt-in-Guide-Guide.ensures.ended in
    rw (c.from_residual.ensures, c.in-Guide-Guide.is-0, c.in-Guide-Guide.is-1) (ended _ _ _ _ over.0 over.1)

pub returns-in_err-halt-in-Guide-Guide-clause-cartridge : goal.returns-in_err-halt-in-Guide-Guide-clause-cartridge
returns-in_err-halt-in-Guide-Guide-clause-cartridge c =
    let of = rw (c.in-Guide-Guide.is-0, c.in-Guide-Guide.is-1) at c.requires in
    let over = c.in_err-halt-in-Guide-Guide.ensures.ended in
    rw c.in-Guide-Guide.is-0 (of-played _ _ _ _ of over.0 over.1)

pub returns-clause-failed : goal.returns-clause-failed
returns-clause-failed c = elim c.match-cart.branch [
  | in-Guide-Guide+in_ok-halt-in-Guide-Guide w ↦
      let stopped = w.in_ok-halt-in-Guide-Guide.ensures in
      rw (w.result-is, w.state-is, w.in-Guide-Guide.is-0, w.in-Guide-Guide.is-1) (halted _ _ _ _ _ _ stopped.failed stopped.halted)
  | in-Chip-Chip w ↦ elim w.match-frame.branch [
    | in-Ok v ↦ rw (w.result-is, v.result-is) tt
    | in-Err-Of v ↦
        let fails = rw v.in-Err-Of.field-0-is at v.in-Err-Of.ensures.err in
        rw (w.result-is, v.result-is, w.in-Chip-Chip.is-0, w.in-Chip-Chip.is-1, fails) refl
  ]
]

pub returns-clause-ended : goal.returns-clause-ended
returns-clause-ended c = elim c.match-cart.branch [
  | in-Guide-Guide+in_ok-halt-in-Guide-Guide w ↦ rw w.result-is tt
  | in-Chip-Chip w ↦ elim w.match-frame.branch [
    | in-Ok v ↦
        let played = v.in-Ok.ensures.ok in
        rw (w.result-is, v.result-is, w.state-is, w.in-Chip-Chip.is-0, w.in-Chip-Chip.is-1) (played.0, v.in-Ok.field-0.cycles, rw played.1 refl)
    | in-Err-Of v ↦ rw (w.result-is, v.result-is) tt
  ]
]

pub returns-clause-cartridge : goal.returns-clause-cartridge
returns-clause-cartridge c = elim c.match-cart.branch [
  | in-Guide-Guide+in_ok-halt-in-Guide-Guide w ↦
      let of = rw (w.in-Guide-Guide.is-0, w.in-Guide-Guide.is-1) at c.requires in
      let stopped = w.in_ok-halt-in-Guide-Guide.ensures in
      rw (w.state-is, w.in-Guide-Guide.is-0) (of-failed _ _ _ _ of _ stopped.failed)
  | in-Chip-Chip w ↦ rw (w.state-is, w.in-Chip-Chip.is-0) w.frame.ensures.cartridge
]
