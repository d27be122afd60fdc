use Rattle.std.proofs.Common.{◌≡◌, length, subst, sym, ◌∙◌, map, filter_map}
use Rattle.std.proofs.lemmas.Iterator.Adapters.{YieldsList-from_vec}
use Rattle.std.proofs.lemmas.Iterator.Consumers.{YieldsList-turn}
use Rattle.node_core.specs.Outputs.{output_of}
use Rattle.route_node.specs.Frames.{telling}
use Rattle.route_node.specs.Told.{told}
use Rattle.route_node.specs.Writing.{Writes, Breaks}
use Rattle.route_node.proofs.Written.{handed_on, writes_more, breaks_more}
use Rattle.route_node.proofs.Replied.{turn_fits, one_more, told_more, told_all, left_behind}
use Rattle.route_node.proofs.replies.write_each.Goals as goal

pub write_reply-requires : goal.write_reply-requires
write_reply-requires g c =
    let iterator = c.into_iter-output-iterator.result in
    let items = c.args.outputs.items in
    let done = c.loop-output.yielded in
    let output = c.in-Some.output in
    let count : iterator.rest.len ≡ length items = c.into_iter-output-iterator.ensures.into_iter_gives.1 ∙ c.args.outputs.ok.0 in
    let turn =
    YieldsList-turn (YieldsList-from_vec {s = iterator} items c.into_iter-output-iterator.ensures.into_iter_gives.0 count) done c.loop-output.output-iterator c.loop-output.yielded_by
    c.next.result c.next.new.self output c.in-Some.is c.next.ensures.steps in
    turn_fits c.args.topology.now c.args.id c.args.outputs.items (length done) output c.requires turn.0 turn.1

pub loop-output-preserved : goal.loop-output-preserved
loop-output-preserved g c =
    let iterator = c.into_iter-output-iterator.result in
    let items = c.args.outputs.items in
    let done = c.loop-output.yielded in
    let output = c.in-Some.output in
    let count : iterator.rest.len ≡ length items = c.into_iter-output-iterator.ensures.into_iter_gives.1 ∙ c.args.outputs.ok.0 in
    let turn =
    YieldsList-turn (YieldsList-from_vec {s = iterator} items c.into_iter-output-iterator.ensures.into_iter_gives.0 count) done c.loop-output.output-iterator c.loop-output.yielded_by
    c.next.result c.next.new.self output c.in-Some.is c.next.ensures.steps in
    let link = g.L.Link.seen c.args.link.now in
    let mid = g.L.Link.seen c.loop-output.link in
    let link' = g.L.Link.seen c.write_reply.new.link in
    record {
      so_far = one_more c.args.outputs.items done output c.loop-output.invariant.so_far turn.0 turn.1;
      wrote = subst (λ frames. Writes frames link link') (told_more done output)
          (writes_more (filter_map telling (map output_of done)) (told (output_of output)) link mid link' c.loop-output.invariant.wrote c.in_ok-write_reply.ensures.ok);
    }

pub returns-in_err-write_reply-clause-err : goal.returns-in_err-write_reply-clause-err
returns-in_err-write_reply-clause-err g c =
    let iterator = c.into_iter-output-iterator.result in
    let items = c.args.outputs.items in
    let done = c.loop-output.yielded in
    let output = c.in-Some.output in
    let count : iterator.rest.len ≡ length items = c.into_iter-output-iterator.ensures.into_iter_gives.1 ∙ c.args.outputs.ok.0 in
    let turn =
    YieldsList-turn (YieldsList-from_vec {s = iterator} items c.into_iter-output-iterator.ensures.into_iter_gives.0 count) done c.loop-output.output-iterator c.loop-output.yielded_by
    c.next.result c.next.new.self output c.in-Some.is c.next.ensures.steps in
    let link = g.L.Link.seen c.args.link.now in
    let mid = g.L.Link.seen c.loop-output.link in
    let link' = g.L.Link.seen c.write_reply.new.link in
    handed_on c.from_residual.result _ (λ status. Breaks (filter_map telling (map output_of c.args.outputs.items)) link link' status) c.from_residual.ensures
    (λ status same.
    subst (λ s. Breaks (filter_map telling (map output_of c.args.outputs.items)) link link' s) (sym same)
    (breaks_more (filter_map telling (map output_of c.args.outputs.items)) (filter_map telling (map output_of done)) (told (output_of output)) (filter_map telling (map output_of (left_behind c.args.outputs.items done)))
    link mid link' c.in_err-write_reply.field-0.0 c.loop-output.invariant.wrote c.in_err-write_reply.ensures.err (told_all c.args.outputs.items done output c.loop-output.invariant.so_far turn.0 turn.1)))
