use Rattle.std.proofs.Common.{refl}
use Rattle.std.specs.Prelude.{slice_range}
use Rattle.std.proofs.lemmas.Result.{IfErr-weaker}
use Rattle.text_lines.specs.Words.{words_of}
use Rattle.schedule_file.proofs.Steps.{words_refused, names_refused}
use Rattle.schedule_file.proofs.parser.Draft.take_line.Goals as goal

pub returns-in-Err-clause-err : goal.returns-in-Err-clause-err
returns-in-Err-clause-err c =
    let words = words_of (slice_range c.args.text.now c.args.line.start c.args.line.end) in
    words_refused c.args.self.now words c.in-Err.kind _ refl (c.in-Err.ensures.err words c.words_of-words.ensures)

pub returns-in-Ok-clause-err : goal.returns-in-Ok-clause-err
returns-in-Ok-clause-err c =
    let words = words_of (slice_range c.args.text.now c.args.line.start c.args.line.end) in
    IfErr-weaker c.take.result _ _ (λ why refuses.
    names_refused c.args.self.now words c.in-Ok.read why (c.in-Ok.ensures.ok words c.words_of-words.ensures) (c.in-Ok.ensures.stands words c.words_of-words.ensures) refuses) c.take.ensures.err
