use Rattle.std.proofs.Common.{refl, sym, ◌∙◌, ap, ◌||◌, ◌==◌}
use Rattle.topology.specs.Lists.{has}
use Rattle.incomplete_closure.proofs.Tabled.{added_again, added_new, put_has}
use Rattle.incomplete_closure.proofs.session_table.SessionTable.add.Goals as goal

pub returns-then-has_node-clause-table : goal.returns-then-has_node-clause-table
returns-then-has_node-clause-table g c = λ before is. added_again before c.args.self.now c.args.report.now is (sym c.has_node.ensures ∙ c.if-has_node.true)

pub returns-clause-table : goal.returns-clause-table
returns-clause-table g c = λ before is.
    added_new before c.args.self.now (record { nodes = c.insert.new.self; rows = c.fill.new.self.rows }) c.args.report.now is
    (sym c.has_node.ensures ∙ c.if-has_node.false)
    (λ n.
    put_has _ (λ a b. refl) c.args.report.now.node c.fill.new.self.nodes.keys c.insert.new.self.keys c.in_ok-insert.ensures.updates.0 n
    ∙ ap (λ ks. c.args.report.now.node == n || has ks n) c.in_ok-fill.ensures.nodes)
    c.in_ok-fill.ensures.rows
