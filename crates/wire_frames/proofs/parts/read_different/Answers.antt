use Rattle.std.proofs.Common.{◌≡◌, ◌++◌, ◌∷◌, [], false, refl, sym, ◌∙◌}
use Rattle.topology.specs.Lists.{has}
use Rattle.wire_frames.specs.Formats.{many_at}
use Rattle.wire_frames.specs.Fields.{different}
use Rattle.wire_frames.proofs.Collecting.{reads_on}
use Rattle.wire_frames.proofs.Different.{different_read}
use Rattle.wire_frames.proofs.parts.read_different.Goals as goal

pub loop-preserved : goal.loop-preserved
loop-preserved c =
    let seen = c.loop.list.items in
    let node = c.in_ok-node.node in
    let new : has seen node ≡ false = rw (← c.deref.ensures.value) (sym c.contains.ensures.value ∙ c.if-contains.false) in
    rw c.in_ok-push.ensures.items
    (reads_on different seen c.args.count c.loop.counter seen (seen ++ node ∷ []) c.loop.fields c.node.new.self node (many_at different [] c.args.count c.args.fields.now)
    c.loop-test.true (different_read seen node c.loop.fields c.node.new.self c.in_ok-node.ensures new) refl c.loop.invariant)
