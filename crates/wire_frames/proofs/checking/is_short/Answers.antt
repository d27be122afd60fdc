use Rattle.std.proofs.Common.{sym}
use Rattle.std.proofs.lemmas.Bool.{le-leb}
use Rattle.wire_frames.proofs.Short.{short_unless_report, report_body, report_limit}
use Rattle.wire_frames.proofs.checking.is_short.Goals as goal

pub returns-in_default : goal.returns-in_default
returns-in_default c = λ fit. sym (le-leb _ _ (short_unless_report c.args.frame.now (λ n r e. c.in_default.not-Report n r e) fit))

pub returns-in-Report : goal.returns-in-Report
returns-in-Report c = λ fit. rw (c.in-Report.is, report_body c.in-Report.peer c.in-Report.report, report_limit c.in-Report.peer c.in-Report.report) c.report_is_short.ensures
