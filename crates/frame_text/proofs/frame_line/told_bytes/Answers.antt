use Rattle.std.proofs.Common.{◌≡◌, [], take, rules, string_bytes}
use Rattle.std.proofs.lemmas.List.{flat_map_more, take_more}
use Rattle.frame_text.specs.FrameLines.{byte_text}
use Rattle.frame_text.proofs.frame_line.told_bytes.Goals as goal

pub loop-watched-preserved : goal.loop-watched-preserved
loop-watched-preserved c =
    let f = byte_text c.args.notation c.args.state.now in
    let watched = c.watched-item.result in
    let part : string_bytes c.in_ok-part.part ≡ f watched = search rules in
    let next = take_more c.args.addresses.now c.loop-watched.watched-index watched c.loop-watched-test.true in
    rw (c.in_ok-push_str.ensures.bytes, c.loop-watched.invariant, c.deref.ensures, part, next, ← c.watched-item.is)
    (flat_map_more f [] (take c.loop-watched.watched-index c.args.addresses.now) watched)
