use Rattle.route_node.proofs.Copied.{path_copied}
use Rattle.route_node.proofs.reports.path_at.Goals as goal

pub returns : goal.returns
returns c = λ net u fit.
    path_copied net u c.args.prefix c.args.table.now.paths c.in-Some.nodes.now c.in_ok-list.list.items c.in_ok-new.field-0 fit c.in-Some.ensures c.in_ok-list.ensures.items c.in_ok-new.ensures.some c.in_ok-new.ensures.none
