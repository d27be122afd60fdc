use Rattle.std.proofs.Common.{sym, ◌∙◌}
use Rattle.table_audit.proofs.Differing.{apart_more, same_key, seen_again, seen_more}
use Rattle.table_audit.proofs.checking.all_differ.Goals as goal

pub returns-then-contains : goal.returns-then-contains
returns-then-contains c =
    seen_again c.args.nodes.now c.loop-node.node-index c.node-item.result c.loop-node-test.true c.node-item.is
    (sym (c.loop-node.invariant.seen c.node-item.result) ∙ (sym c.contains.ensures ∙ c.if-contains.true))

pub loop-node-preserved : goal.loop-node-preserved
loop-node-preserved c = record {
  apart = apart_more c.args.nodes.now c.loop-node.node-index c.node-item.result c.loop-node-test.true c.node-item.is c.loop-node.invariant.apart
      (sym (c.loop-node.invariant.seen c.node-item.result) ∙ (sym c.contains.ensures ∙ c.if-contains.false));
  seen = λ n. seen_more c.args.nodes.now c.loop-node.node-index c.node-item.result n c.loop-node-test.true c.node-item.is _ _ _ (c.in_ok-insert.ensures.updates.0 n) (c.loop-node.invariant.seen n) (same_key c.node-item.result n);
}
