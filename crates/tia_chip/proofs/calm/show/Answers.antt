use Rattle.std.proofs.Common.{◌≡◌, ◌∙◌, ℕ, suc, ◌+◌, ◌-◌, ◌<◌, sym, ap, arith, if◌then◌else◌}
use Rattle.std.specs.Fn.{iterate}
use Rattle.tia_chip.specs.Clock.{after_clock, at_pixel}
use Rattle.tia_chip.specs.Clocks.{sink_after_clocks, with_pixel}
use Rattle.tia_chip.specs.Colour.{front_colour, is_black, layers_of}
use Rattle.tia_chip.specs.Objects.{lit_objects}
use Rattle.tia_chip.specs.Private.Lines.{line_at, line_past, lit_at}
use Rattle.tia_chip.specs.declared.line.Line.{Line}
use Rattle.tia_chip.specs.declared.objects.Objects.{Objects}
use Rattle.tia_chip.proofs.LineLemmas.{begun, line-on, lit-pixel, pixel-on, sink-last}
use Rattle.tia_chip.proofs.calm.show.Goals as goal

pub loop-k-preserved : goal.loop-k-preserved
loop-k-preserved g c =
    let t = c.args.tia.now in
    let n = c.loop-k.k in
    let x : ℕ = t.clock - 68 + n in
    let more : n + 1 ≡ suc n = omega arith in
    let less : t.clock + n < 228 = omega arith in
    let held = c.loop-k.invariant in
    let took : c.at-begun.result ≡ begun t n = c.at-begun.ensures ∙ ap (λ (l : Line). line_at t x l) held.value in
    let lit : c.objects-objects.result ≡ lit_objects (at_pixel (iterate after_clock n t)) =
    c.objects-objects.ensures ∙ (ap (λ (l : Line). lit_at c.args.lit.now n l.playfield) took ∙ lit-pixel t n c.args.count c.args.lit.now c.requires.calm less c.loop-k-test.true c.requires.lit)
    in
    let drawn = g.S.Paint.drawn in
    record {
      value = rw more (c.past-line.ensures.value
          ∙ (ap (λ (o : Objects). line_past t x o c.at-begun.result) lit
          ∙ (ap (λ (l : Line). line_past t x (lit_objects (at_pixel (iterate after_clock n t))) l) took ∙ sym (line-on t n c.requires.calm less))));
      sink = rw more (c.put.ensures
          ∙ (ap (λ (colour : ℕ). drawn c.loop-k.sink t.line x colour) c.colour.ensures
          ∙ (ap (λ (o : Objects). drawn c.loop-k.sink t.line x (if is_black t then 0 else front_colour (layers_of t o x) t.colubk)) lit
          ∙ (ap (λ s. drawn s t.line x (if is_black t then 0 else front_colour (layers_of t (lit_objects (at_pixel (iterate after_clock n t))) x) t.colubk)) held.sink
          ∙ (sym (ap (λ p. with_pixel drawn (sink_after_clocks drawn c.args.sink.now n t) p) (pixel-on t n c.requires.calm less))
          ∙ sym (sink-last drawn c.args.sink.now n t))))));
      range = c.past-line.ensures.range;
    }
