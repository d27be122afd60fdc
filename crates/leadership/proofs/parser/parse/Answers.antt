use Rattle.std.proofs.Common.{◌≡◌, ◌++◌, suc, map, refl, sym, ap, ◌∙◌, subst, arith}
use Rattle.std.specs.Prelude.{slice_range, Some}
use Rattle.text_lines.specs.Lines.{left_of}
use Rattle.text_lines.specs.Words.{words_of}
use Rattle.text_lines.specs.Readings.{lines_left}
use Rattle.leadership.specs.Parsing.{before_of}
use Rattle.leadership.specs.Scripts.{directives_from, directives_of, fault, first_bad, first_bad_from}
use Rattle.leadership.proofs.Scripted.{words_here, declared_step, directives_step, bad_step, bad_here, declared_start, directives_start, bad_start, members_end}
use Rattle.leadership.proofs.parser.parse.Goals as goal

pub loop-line-init : goal.loop-line-init
loop-line-init c =
    let start = c.new-lines.ensures in
    record {
      same_text = ap (λ r. r.text) start;
      before = declared_start c.new-lines.result c.args.text.now start _ (ap (λ ns. record { members = ns; begun = _ }) c.empty.ensures);
      directives = directives_start c.new-lines.result c.args.text.now start c.new.result.items c.new.ensures.items;
      bad = bad_start c.new-lines.result c.args.text.now start _ (ap (λ ns. record { members = ns; begun = _ }) c.empty.ensures);
      apart = rw c.empty.ensures refl;
      known = rw c.new.ensures.items (λ i d lt. absurd (omega (arith, lt)));
    }

pub loop-line-preserved : goal.loop-line-preserved
loop-line-preserved c =
    let was = c.loop-line.invariant in
    let next = c.in-Some.ensures in
    let words = words_of (slice_range c.args.text.now c.in-Some.line.start c.in-Some.line.end) in
    let left = map (λ line. words_of (left_of line)) (lines_left c.loop-line.lines) in
    let rest = map (λ line. words_of (left_of line)) (lines_left c.next.new.self) in
    let here = words_here c.loop-line.lines c.next.new.self c.args.text.now c.in-Some.line was.same_text next.line next.left in
    let number : c.in-Some.line.number ≡ suc c.loop-line.lines.given = next.line.number ∙ (omega arith) in
    let took = c.in-Ok.ensures.ok in
    let given : c.next.new.self.given ≡ suc c.loop-line.lines.given = ap (λ r. r.given) next.given ∙ (omega arith) in
    record {
      same_text = ap (λ r. r.text) next.given ∙ was.same_text;
      before = declared_step (before_of c.loop-line.draft) (before_of c.take_line.new.self) words left rest _ here took.before was.before;
      directives = subst (λ n. c.take_line.new.self.directives.items ++ directives_from (suc n) rest ≡ directives_of c.args.text.now) (sym given)
          (directives_step c.loop-line.draft.directives.items c.take_line.new.self.directives.items (suc c.loop-line.lines.given) words left rest _ here (rw number at took.directives) was.directives);
      bad = subst (λ n. first_bad_from (suc n) (before_of c.take_line.new.self) rest ≡ first_bad c.args.text.now) (sym given)
          (bad_step (before_of c.loop-line.draft) (before_of c.take_line.new.self) (suc c.loop-line.lines.given) words left rest _ here took.before c.in-Ok.ensures.fine was.bad);
      apart = took.apart was.apart;
      known = took.known was.known;
    }

pub returns-in-Err-Bad-clause-err : goal.returns-in-Err-Bad-clause-err
returns-in-Err-Bad-clause-err c =
    let was = c.loop-line.invariant in
    let next = c.in-Some.ensures in
    let words = words_of (slice_range c.args.text.now c.in-Some.line.start c.in-Some.line.end) in
    let left = map (λ line. words_of (left_of line)) (lines_left c.loop-line.lines) in
    let rest = map (λ line. words_of (left_of line)) (lines_left c.next.new.self) in
    let here = words_here c.loop-line.lines c.next.new.self c.args.text.now c.in-Some.line was.same_text next.line next.left in
    let number : c.in-Some.line.number ≡ suc c.loop-line.lines.given = next.line.number ∙ (omega arith) in
    let bad : fault (before_of c.loop-line.draft) words ≡ Some c.in-Err-Bad.kind = rw c.in-Err-Bad.field-0-is at c.in-Err-Bad.ensures.err in
    rw (c.in-Err-Bad.field-0-is, number) (bad_here (before_of c.loop-line.draft) (suc c.loop-line.lines.given) words left rest _ c.in-Err-Bad.kind here bad was.bad)

pub returns-clause-members : goal.returns-clause-members
returns-clause-members c =
    members_end (before_of c.loop-line.draft) (map (λ line. words_of (left_of line)) (lines_left c.loop-line.lines)) c.args.text.now
    (ap (map (λ line. words_of (left_of line))) c.in_default.ensures.end) c.loop-line.invariant.before
