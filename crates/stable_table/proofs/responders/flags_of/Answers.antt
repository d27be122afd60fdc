use Rattle.std.proofs.Common.{◌+◌, suc, drop, ◌≡◌, ◌==◌, ◌||◌, sym, ◌∙◌, ap, arith}
use Rattle.topology.specs.Lists.{has}
use Rattle.stable_table.specs.Flags.{is_flagged}
use Rattle.stable_table.proofs.Keeping.{dropped}
use Rattle.stable_table.proofs.Flagging.{either_first, none_left}
use Rattle.stable_table.proofs.responders.flags_of.Goals as goal

pub loop-node-preserved : goal.loop-node-preserved
loop-node-preserved c = λ n.
    let i = c.loop-node.node-index in
    let nodes = c.args.nodes.now in
    let x = c.node-item.result in
    let step : i + 1 ≡ suc i = omega arith in
    rw step
    (ap (λ b. b || has (drop (suc i) nodes) n) (c.in_ok-flag.ensures n ∙ ap (λ m. m == n || is_flagged c.loop-node.flags.items n) c.number.ensures)
    ∙ (either_first (x == n) (is_flagged c.loop-node.flags.items n) (has (drop (suc i) nodes) n)
    ∙ (ap (λ l. is_flagged c.loop-node.flags.items n || has l n) (sym (dropped nodes i x (omega arith) c.node-item.is)) ∙ c.loop-node.invariant n)))

pub returns : goal.returns
returns c = λ n. none_left c.args.nodes.now c.loop-node.node-index n (is_flagged c.loop-node.flags.items n) (omega arith) (c.loop-node.invariant n)
