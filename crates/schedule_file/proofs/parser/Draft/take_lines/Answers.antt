use Rattle.std.proofs.Common.{◌≡◌, [], ◌∷◌, length, map, refl, ap, ◌∙◌, subst, arith}
use Rattle.std.specs.Prelude.{slice_range, Some, IsTrue}
use Rattle.text_lines.specs.Lines.{left_of}
use Rattle.text_lines.specs.Words.{words_of}
use Rattle.text_lines.specs.Readings.{lines_left}
use Rattle.schedule_file.specs.Spelling.{words_by_line}
use Rattle.schedule_file.specs.Grammar.{allowed}
use Rattle.schedule_file.specs.Refusals.{refusal}
use Rattle.schedule_file.proofs.Readings.{starts, line_here, continues_more, bad_here, reads_all}
use Rattle.schedule_file.proofs.parser.Draft.take_lines.Goals as goal

pub loop-line-init : goal.loop-line-init
loop-line-init c = (
  ap (λ r. r.text) c.new-lines.ensures,
  [],
  c.requires.start,
  ap (λ r. r.given) c.new-lines.ensures,
  starts c.args.self.now.behind c.new-lines.result c.args.text.now c.new-lines.ensures,
  refl,
)

pub loop-line-preserved : goal.loop-line-preserved
loop-line-preserved c =
    let held = c.loop-line.invariant in
    let next = c.in-Some.ensures in
    let words = words_of (slice_range c.args.text.now c.in-Some.line.start c.in-Some.line.end) in
    let here = line_here c.args.self.now.behind held.1 c.loop-line.lines c.next.new.self c.args.text.now c.in-Some.line (words_by_line c.args.text.now) held.0 next.line next.left held.4 in
    let took = c.in-Ok.ensures.ok held.1 held.2 (next.line.number ∙ (omega (arith, held.3))) in
    let may = subst (λ b. IsTrue (allowed b held.1 took.0)) held.5 took.2 in (
      ap (λ r. r.text) next.given ∙ held.0,
      took.0 ∷ held.1,
      took.3,
      ap (λ r. r.given) next.given ∙ (omega (arith, held.3)),
      continues_more c.args.self.now.behind held.1 took.0 words (map (λ line. words_of (left_of line)) (lines_left c.next.new.self)) (words_by_line c.args.text.now) here took.1 may,
      c.in-Ok.ensures.behind ∙ held.5,
    )

pub returns-in-Err-Bad-clause-err : goal.returns-in-Err-Bad-clause-err
returns-in-Err-Bad-clause-err c =
    let held = c.loop-line.invariant in
    let next = c.in-Some.ensures in
    let words = words_of (slice_range c.args.text.now c.in-Some.line.start c.in-Some.line.end) in
    let here = line_here c.args.self.now.behind held.1 c.loop-line.lines c.next.new.self c.args.text.now c.in-Some.line (words_by_line c.args.text.now) held.0 next.line next.left held.4 in
    let refused = rw c.in-Err-Bad.field-0-is at c.in-Err-Bad.ensures.err in (
      length held.1,
      next.line.number ∙ (omega (arith, held.3)),
      rw c.in-Err-Bad.field-0-is (bad_here c.args.self.now.behind held.1 words (map (λ line. words_of (left_of line)) (lines_left c.next.new.self)) (words_by_line c.args.text.now) _ here
          (subst (λ b. refusal b held.1 words ≡ Some c.in-Err-Bad.kind) held.5 (refused held.1 held.2))),
    )

pub returns-clause-ok : goal.returns-clause-ok
returns-clause-ok c =
    let held = c.loop-line.invariant in
    (held.1, reads_all c.args.self.now.behind held.1 c.loop-line.lines c.args.text.now c.in_default.ensures.end held.4, held.2)
