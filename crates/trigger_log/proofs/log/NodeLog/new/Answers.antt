use Rattle.std.proofs.Common.{◌∙◌, [], refl, sym, ap, subst, map}
use Rattle.trigger_log.specs.Sessions.{AreRows}
use Rattle.trigger_log.proofs.Rows.{first}
use Rattle.trigger_log.proofs.Collected.{none_at_first}
use Rattle.trigger_log.proofs.AllMarks.{rows_first}
use Rattle.trigger_log.proofs.log.NodeLog.new.Goals as goal

pub returns-clause-stands : goal.returns-clause-stands
returns-clause-stands g c =
    let rules = g.P.Policy.rules c.args.policy in
    let net = c.args.topology.now in
    let u = c.args.node in
    record {
      routes = c.in_ok-routes.ensures;
      fitting = tt;
      lists = tt;
      node = refl;
      near = c.in_ok-new.ensures.near ∙ c.neighbours.ensures.neighbours;
      next = refl;
      kept = c.in_ok-new-3.ensures.stands c.args.policy net u;
      marks = subst (AreRows rules net u []) (sym (c.in_ok-new.ensures.rows ∙ ap (map first) c.neighbours.ensures.neighbours)) (rows_first rules net u);
      held = record { from = c.in_ok-new-2.ensures.from; rows = c.in_ok-new-2.ensures.rows ∙ sym (none_at_first rules net u) };
      chosen = c.in_ok-best.ensures c.args.policy u [] c.in_ok-routes.ensures;
    }
