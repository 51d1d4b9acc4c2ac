use Rattle.std.proofs.Common.{◌≡◌, ◌∙◌, below_more, ◌/◌, ℕ, ◌+◌, length, refl, arith}
use Rattle.std.specs.Prelude.{IsTrue, vec_len}
use Rattle.std.proofs.lemmas.List.Elements.{All-more}
use Rattle.std.proofs.lemmas.Option.{slice_get_read}
use Rattle.std.proofs.lemmas.Result.{err_from_is_err_and}
use Rattle.vcs_machine.specs.Inputs.{is_input}
use Rattle.movie_file.specs.Judgement.{IsSound}
use Rattle.movie_file.specs.Making.{bare}
use Rattle.movie_file.proofs.MakingRuns.{Claims-next, Claims-none, has_room, counts_are}
use Rattle.movie_file.proofs.RunLemmas.{faults-here, run-next}
use Rattle.movie_file.proofs.StateLemmas.{ram_is}
use Rattle.commands.proofs.make_run.run_of.Goals as goal

pub loop-i-init : goal.loop-i-init
loop-i-init g c = record {
  made = record {
    sound = λ i less. absurd (omega arith);
    ran = rw (c.in_ok-state.ensures.value, c.requires.start) refl;
    claims = rw c.requires.empty (Claims-none _ _ _);
    inputs_are = λ k d less. absurd (omega arith);
  };
  cartridge = rw c.in_ok-state.ensures.value c.requires.cartridge;
  room = c.requires.room;
  capacity = refl;
}

pub claim-requires-clause-room : goal.claim-requires-clause-room
claim-requires-clause-room g c = λ h.
    let fit = counts_are (length c.args.inputs.now) c.args.every c.requires.fits in
    let count : vec_len c.loop-i.checkpoints ≡ c.loop-i.i / c.args.every = omega (arith, c.loop-i.invariant.made.claims.count, c.loop-i.checkpoints.ok.0) in
    has_room c.args.every c.loop-i.i (length c.args.inputs.now) _ _ fit.2 count c.loop-i-test.true c.loop-i.invariant.room h

pub returns-in-Some-clause-faults : goal.returns-in-Some-clause-faults
returns-in-Some-clause-faults g c =
    let at = slice_get_read c.args.inputs.now (length c.args.inputs.now) c.loop-i.i c.index-inputs-i.result refl c.loop-i-test.true c.index-inputs-i.is in
    let m = bare c.args.cart.now c.args.inputs.now in
    let faults = faults-here m m.start 0 c.loop-i.i c.loop-i.i _ _ c.loop-i.invariant.made.ran (omega arith) at _ _ c.in-Some.ensures.failed in
    record {
      before = c.loop-i.i;
      frame_is = refl;
      within = c.loop-i-test.true;
      sound = c.loop-i.invariant.made.sound;
      fault = faults;
      claims = c.loop-i.invariant.made.claims;
      inputs_are =
          All-more (λ i. IsTrue (is_input i)) c.args.inputs.now c.loop-i.i c.index-inputs-i.result c.loop-i-test.true c.loop-i.invariant.made.inputs_are
          (rw c.index-inputs-i.is at c.halt.ensures.lawful);
    }

pub loop-i-preserved : goal.loop-i-preserved
loop-i-preserved g c =
    let m = bare c.args.cart.now c.args.inputs.now in
    let i = c.loop-i.i in
    let input = c.index-inputs-i.result in
    let fit = counts_are (length c.args.inputs.now) c.args.every c.requires.fits in
    let at = slice_get_read c.args.inputs.now (length c.args.inputs.now) i input refl c.loop-i-test.true c.index-inputs-i.is in
    let ran = run-next m m.start 0 i i _ input c.loop-i.invariant.made.ran (omega arith) at _ _ _ c.in-None.ensures.ended.2 in
    let place : i + 1 ≡ 0 + (i + 1) = omega arith in
    record {
      made = record {
        sound = below_more (λ (i : ℕ). IsSound m m.start 0 i) i c.loop-i.invariant.made.sound (c.halt.new.state, ran, λ j d e here. absurd cc);
        ran = ran;
        claims = Claims-next m 0 c.args.every i _ _ _ fit.2 c.loop-i.invariant.made.claims (rw place at ran) c.in_ok-claim-in-None.ensures.items
            (λ h. c.in_ok-claim-in-None.ensures.lawful h c.args.cart.now c.halt.ensures.cartridge);
        inputs_are =
            All-more (λ i. IsTrue (is_input i)) c.args.inputs.now i input c.loop-i-test.true c.loop-i.invariant.made.inputs_are
            (rw c.index-inputs-i.is at c.halt.ensures.lawful);
      };
      cartridge = c.halt.ensures.cartridge;
      room = rw c.in_ok-claim-in-None.ensures.capacity c.loop-i.invariant.room;
      capacity = c.in_ok-claim-in-None.ensures.capacity ∙ c.loop-i.invariant.capacity;
    }

pub returns-clause-ends : goal.returns-clause-ends
returns-clause-ends g c = λ none. let all : c.loop-i.i ≡ length c.args.inputs.now = omega arith in rw all at c.loop-i.invariant.made

pub returns-clause-lawful : goal.returns-clause-lawful
returns-clause-lawful g c = c.copy_state.ensures.lawful c.args.cart.now c.requires.cartridge

pub returns-in-Some-clause-lawful : goal.returns-in-Some-clause-lawful
returns-in-Some-clause-lawful g c = c.copy_state.ensures.lawful c.args.cart.now c.requires.cartridge

pub returns-in_err-claim-in-None-clause-memory : goal.returns-in_err-claim-in-None-clause-memory
returns-in_err-claim-in-None-clause-memory g c =
    let p = err_from_is_err_and c.from_residual-in_err-claim-in-None.result c.from_residual-in_err-claim-in-None.ensures.1 in
    rw (p.1, ← ram_is c.args.cart.now c.halt.new.state c.halt.ensures.cartridge) c.in_err-claim-in-None.ensures.memory
