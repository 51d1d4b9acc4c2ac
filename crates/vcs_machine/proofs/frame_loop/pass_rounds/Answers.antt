use Rattle.std.proofs.Common.{rules, ◌≡◌, ◌+◌, ◌-◌, ◌*◌, ◌/◌, ◌<◌, ◌≤◌, arith, true}
use Rattle.std.proofs.Math.Nat.{le-div_iff_mul-le}
use Rattle.mos_cpu.specs.Accesses.{is_taken}
use Rattle.mos_cpu.specs.Registers.{Registers}
use Rattle.vcs_machine.specs.Frame.{overlong_cycles}
use Rattle.vcs_machine.specs.Private.Polls.{GoOn, operation_of}
use Rattle.vcs_machine.specs.Private.BeamCycles.{beam_cycles, machine_since}
use Rattle.vcs_machine.proofs.PollLemmas.{IsAtBranch}
use Rattle.vcs_machine.proofs.BeamCycleLemmas.{passed-later, rounds-since}
use Rattle.vcs_machine.proofs.frame_loop.pass_rounds.Goals as goal
use Rattle.vcs_machine.proofs.frame_loop.pass_rounds.Goals.{then-ahead-room, else-ahead-room}

pub returns : goal.returns
returns g c =
    let poll = c.in-Some.poll in
    let count = c.if-ahead-room.count in
    let bus = c.args.console.now in
    let start = c.args.start in
    let r : Registers = record { a = c.cpu.inside.a; x = c.cpu.inside.x; y = c.cpu.inside.y; s = c.cpu.inside.s; p = c.cpu.inside.p; pc = c.cpu.inside.pc } in
    let taken : is_taken (operation_of poll.branch) c.cpu.inside.p ≡ true = search rules in
    let byte : c.cpu.inside.p < 256 = search rules in
    let at : IsAtBranch g.S.Paint.drawn poll (machine_since start r bus) =
    record { loop = c.in-Some.ensures; no_wait = c.requires.no_wait; no_end = c.requires.no_end; byte = byte; taken = taken } in
    let few : (count ≤ c.rounds_ahead-ahead.result) × (count ≤ (24320 - (c.beam_cycles.result - start)) / poll.cycles) = elim c.if-ahead-room.branch [
      | then-ahead-room w ↦ (omega arith, omega arith)
      | else-ahead-room w ↦ (omega arith, omega arith)
    ] in
    let cycles = c.in-Some.ensures.cycles in
    let some : 0 < poll.cycles = omega (arith, cycles) in
    let product : count * poll.cycles ≤ 24320 - (c.beam_cycles.result - start) = (le-div_iff_mul-le some).0 few.1 in
    let short : c.beam_cycles.result - start < 24320 = c.if-cycles-ge-TOO_MANY_CYCLES.false in
    let told = c.beam_cycles.ensures.cycles in
    let room : beam_cycles bus - start + poll.cycles * count ≤ overlong_cycles = omega (arith, product, short, told) in
    let on : GoOn poll bus.riot count = λ k pos less. (rw c.beam_cycles.ensures.bus at c.rounds_ahead-ahead.ensures.going) k pos (let near = few.0 in omega (arith, less, near)) in
    let last = rounds-since g.S.Paint.drawn start r bus poll count c.requires.begun at (omega (arith, c.if-count-eq0.false)) on room in
    let later = passed-later g.S.Paint.drawn start bus (poll.cycles * count) poll.register c.requires.begun room in
    record {
      stops = rw (c.load-loaded.ensures.result, c.load_after.ensures.byte, c.load_after.ensures.bus, c.rounds_ahead-ahead.ensures.bus, c.beam_cycles.ensures.bus, ← c.cpu.view_is) last;
      begun = rw (c.load_after.ensures.bus, c.rounds_ahead-ahead.ensures.bus, c.beam_cycles.ensures.bus) later.begun;
      later = rw (c.load_after.ensures.bus, c.rounds_ahead-ahead.ensures.bus, c.beam_cycles.ensures.bus) later.later;
    }
