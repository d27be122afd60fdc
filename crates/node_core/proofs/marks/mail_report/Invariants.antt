use Rattle.std.proofs.Common.{◌≡◌, ◌++◌, map, take}
use Rattle.incomplete_closure.specs.Seen.{report_seen}
use Rattle.consolidator.specs.Messages.{Reports}
use Rattle.node_core.specs.Outputs.{Mail, output_of}
use Rattle.node_core.proofs.marks.mail_report.Given as goal

abbrev pub invariant-loop-to : goal.invariant-loop-to
invariant-loop-to l =
    map output_of l.outputs ≡ map output_of l.fn.outputs ++ map (λ to. Mail to (Reports (report_seen l.report.value))) (take l.to-index l.consolidators)
