use Rattle.std.proofs.Common.{◌≡◌, below_more, take, ◌/◌, ℕ, ◌+◌, length, refl, arith}
use Rattle.std.specs.Prelude.{IsTrue, vec_len}
use Rattle.std.proofs.lemmas.List.{take_all}
use Rattle.std.proofs.lemmas.List.Elements.{All-more, recursion_from_All}
use Rattle.vcs_machine.specs.Inputs.{is_input}
use Rattle.std.proofs.lemmas.Option.{slice_get_read}
use Rattle.movie_file.specs.Movie.{IsStateOf}
use Rattle.movie_file.proofs.MakingRuns.{Claims-next, has_room, counts_are, made_movie}
use Rattle.movie_file.proofs.RunLemmas.{faults-here, run-next}
use Rattle.movie_file.specs.Judgement.{IsSound}
use Rattle.movie_file.specs.Making.{bare}
use Rattle.movie_machine.specs.States.{state_at_power_on}
use Rattle.movie_file.proofs.making.checkpoints_of_run.Goals as goal

pub claim-requires-clause-room : goal.claim-requires-clause-room
claim-requires-clause-room g c = λ h.
    let fit = counts_are (length c.args.inputs.now) c.args.every c.requires.counts in
    let count : vec_len c.loop-i.checkpoints ≡ c.loop-i.i / c.args.every = omega (arith, c.loop-i.invariant.made.count, c.loop-i.checkpoints.ok.0) in
    has_room c.args.every c.loop-i.i (length c.args.inputs.now) _ _ fit.2 count c.loop-i-test.true c.loop-i.invariant.room h

pub returns-in-Some-clause-err : goal.returns-in-Some-clause-err
returns-in-Some-clause-err g c =
    let at = slice_get_read c.args.inputs.now (length c.args.inputs.now) c.loop-i.i c.index-inputs-i.result refl c.loop-i-test.true c.index-inputs-i.is in
    let m = bare c.args.cart.now c.args.inputs.now in
    let faults = faults-here m m.start 0 c.loop-i.i c.loop-i.i _ _ c.loop-i.invariant.ran (omega arith) at _ _ c.in-Some.ensures.failed in
    (c.loop-i.i, refl, c.loop-i.invariant.sound, faults)

pub loop-i-preserved : goal.loop-i-preserved
loop-i-preserved g c =
    let m = bare c.args.cart.now c.args.inputs.now in
    let i = c.loop-i.i in
    let input = c.index-inputs-i.result in
    let fit = counts_are (length c.args.inputs.now) c.args.every c.requires.counts in
    let at = slice_get_read c.args.inputs.now (length c.args.inputs.now) i input refl c.loop-i-test.true c.index-inputs-i.is in
    let ran = run-next m m.start 0 i i _ input c.loop-i.invariant.ran (omega arith) at _ _ _ c.in-None.ensures.ended.2 in
    let place : i + 1 ≡ 0 + (i + 1) = omega arith in
    record {
      made = Claims-next m 0 c.args.every i _ _ _ fit.2 c.loop-i.invariant.made (rw place at ran) c.in-Ok-claim.ensures.items
          (λ h. c.in-Ok-claim.ensures.lawful h c.args.cart.now c.halt.ensures.cartridge);
      cartridge = c.halt.ensures.cartridge;
      sound = below_more (λ (i : ℕ). IsSound m m.start 0 i) i c.loop-i.invariant.sound (c.halt.new.state, ran, λ j d e here. absurd cc);
      ran = ran;
      room = rw c.claim.ensures.capacity c.loop-i.invariant.room;
      inputs =
          All-more (λ i. IsTrue (is_input i)) c.args.inputs.now i input c.loop-i-test.true c.loop-i.invariant.inputs
          (rw c.index-inputs-i.is at c.halt.ensures.lawful);
    }

pub returns-clause-ok : goal.returns-clause-ok
returns-clause-ok g c =
    let inputs = c.args.inputs.now in
    let all : c.loop-i.i ≡ length inputs = omega arith in
    let whole : take c.loop-i.i inputs ≡ inputs = take_all c.loop-i.i inputs (omega arith) in
    let state : IsStateOf c.args.cart.now (state_at_power_on c.args.cart.now) = rw c.requires.start at (c.copy_state.ensures.lawful c.args.cart.now c.requires.cartridge) in
    made_movie c.args.cart.now inputs c.args.every c.loop-i.checkpoints.items c.requires.counts (rw all at c.loop-i.invariant.sound)
    (rw all at c.loop-i.invariant.made) state (recursion_from_All (λ i. IsTrue (is_input i)) inputs (rw whole at c.loop-i.invariant.inputs))
