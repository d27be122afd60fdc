use Rattle.std.proofs.Common.{subst}
use Rattle.schedule_file.specs.Grammar.{IsRead}
use Rattle.schedule_file.specs.Ends.{SaysWhy}
use Rattle.schedule_file.proofs.parser.read.Goals as goal

pub returns-clause-ok : goal.returns-clause-ok
returns-clause-ok c =
    let took = c.in_default.ensures.ok in
    subst (λ b. IsRead b c.args.text.now c.take_lines.new.self.schedule) c.new-draft.ensures.behind (took.0, took.1, took.2.topology, took.2.lines)

pub returns-in-Err-clause-err : goal.returns-in-Err-clause-err
returns-in-Err-clause-err c = subst (λ b. SaysWhy b c.args.text.now c.in-Err.end) c.new-draft.ensures.behind c.in-Err.ensures.err
