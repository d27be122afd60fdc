use Rattle.std.proofs.Common.{◌<◌, ◌++◌, ◌∷◌, [], take, length, sym, ◌∙◌, arith}
use Rattle.std.proofs.lemmas.List.{take_more_set, length-set}
use Rattle.wire_frames.specs.Formats.{skipped}
use Rattle.wire_frames.specs.Fields.{different}
use Rattle.wire_frames.proofs.Skipping.{goes_on}
use Rattle.wire_frames.proofs.Passing.{different_step}
use Rattle.wire_frames.proofs.parts.skip_different.Goals as goal

pub loop-i-preserved : goal.loop-i-preserved
loop-i-preserved c =
    let seen = take c.loop-i.i c.loop-i.seen in
    let node = c.in_ok-node.node in
    let inside : c.loop-i.i < length c.loop-i.seen = omega (arith, c.loop-i.invariant.0, c.requires, c.loop-i-test.true) in
    let step = different_step seen node c.loop-i.fields c.node.new.self c.in_ok-node.ensures (sym c.contains.ensures.value ∙ c.if-contains.false) in (
      length-set c.loop-i.seen c.loop-i.i node ∙ c.loop-i.invariant.0,
      rw (take_more_set c.loop-i.seen c.loop-i.i node inside)
          (goes_on different c.args.count c.loop-i.i seen (seen ++ node ∷ []) c.loop-i.fields c.node.new.self (skipped different [] c.args.count c.args.fields.now) c.loop-i-test.true step c.loop-i.invariant.1),
    )
