use Rattle.std.proofs.Common.{◌<◌, length, arith}
use Rattle.std.proofs.lemmas.List.Elements.{All-push}
use Rattle.movie_report.proofs.CartridgeDifferenceLemmas.{with_place, without_place}
use Rattle.movie_report.proofs.cartridge_differences.different_offsets.Goals.{then-rom-offset+in_ok-push, else-rom-offset}
use Rattle.movie_report.proofs.cartridge_differences.different_offsets.Goals as goal

pub loop-offset-preserved : goal.loop-offset-preserved
loop-offset-preserved c =
    let before = c.loop-offset.invariant.value in
    elim c.if-rom-offset.branch [
      | then-rom-offset+in_ok-push w ↦
          let differ = w.if-rom-offset.true in
          rw (w.offsets-is, w.in_ok-push.ensures.items) (record {
            value = with_place c.args.rom.now c.args.cart.now _ c.loop-offset.offset before differ;
            within = All-push (λ offset. offset < length c.args.cart.now) _ _ c.loop-offset.invariant.within (omega (arith, c.loop-offset-test.true));
          })
      | else-rom-offset w ↦
          let same = w.if-rom-offset.false in
          rw w.offsets-is (record {
            value = without_place c.args.rom.now c.args.cart.now _ c.loop-offset.offset before same;
            within = c.loop-offset.invariant.within;
          })
    ]
