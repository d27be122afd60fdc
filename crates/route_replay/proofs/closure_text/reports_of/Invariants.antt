use Rattle.std.proofs.Common.{◌≡◌, take, map}
use Rattle.std.specs.Rc.{rc_value}
use Rattle.incomplete_closure.specs.Seen.{reports_seen}
use Rattle.agreement_laws.specs.Decided.{told_reports}
use Rattle.route_replay.specs.Past.{past_of}
use Rattle.route_replay.proofs.closure_text.reports_of.Given as goal

-- the reports of the nodes so far are there
abbrev pub invariant-loop-id : goal.invariant-loop-id
invariant-loop-id g l =
    let rules = g.P.Policy.rules l.world.policy in
    reports_seen (map rc_value l.reports.items) ≡ told_reports rules l.world.net (past_of rules l.world) l.epoch (take l.id-index l.id-items)
