use Rattle.std.proofs.Common.{◌≡◌, ◌++◌, map}
use Rattle.consolidator.specs.Seen.{mails_seen}
use Rattle.node_core.specs.Answering.{posts}
use Rattle.node_core.specs.Outputs.{output_of}
use Rattle.node_core.proofs.answers.mail_all.Given as goal

abbrev pub invariant-loop-mail : goal.invariant-loop-mail
invariant-loop-mail l = record { shown : map output_of l.outputs ≡ map output_of l.fn.outputs ++ posts (mails_seen l.yielded) }
