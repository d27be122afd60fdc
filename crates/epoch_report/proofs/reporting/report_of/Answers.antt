use Rattle.std.proofs.Common.{ap, refl}
use Rattle.topology.specs.declared.names.Trigger.{Trigger}
use Rattle.trigger_log.specs.Standing.{dropped_of}
use Rattle.epoch_report.proofs.Told.{report_is}
use Rattle.epoch_report.proofs.reporting.report_of.Goals as goal

pub returns : goal.returns
returns g c = λ policy net u h stands.
    let rules = g.P.Policy.rules policy in
    report_is rules net u c.args.epoch (dropped_of c.args.log.now) h c.entries.result.now c.sessions.result.now c.pending.result.now _
    (ap (λ (t : Trigger). t.node) (c.next_trigger.ensures policy net u h stands)) refl
    c.in_ok-rows_of.ensures c.in_ok-sessions_of.ensures c.in_ok-pending_of.ensures
    (record { entries = c.entries.ensures policy net u h stands; sessions = c.sessions.ensures policy net u h stands; pending = c.pending.ensures policy net u h stands })
