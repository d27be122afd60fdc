use Rattle.std.proofs.Common.{arith, ◌∙◌}
use Rattle.route_node.proofs.Copied.{paths_more, paths_all}
use Rattle.route_node.proofs.reports.paths_of.Goals as goal

pub loop-place-preserved : goal.loop-place-preserved
loop-place-preserved c = λ u fit.
    paths_more c.args.topology.now u c.loop-place.place c.args.table.now.paths c.loop-place.list.items c.push.new.self.items c.in_ok-path_at.field-0 fit (omega arith)
    (c.loop-place.invariant u fit) (λ net v all. rw (← c.new.ensures) (c.in_ok-path_at.ensures net v all)) c.in_ok-push.ensures.items

pub returns : goal.returns
returns c = λ u fit.
    c.new-2.ensures ∙ paths_all c.args.topology.now u c.loop-place.place c.args.table.now.paths c.loop-place.list.items fit (omega arith) (c.loop-place.invariant u fit)
