use Rattle.std.proofs.Common.{◌<◌, length, take, refl, ap, ◌∙◌, arith}
use Rattle.text_lines.specs.Lines.{lines_of}
use Rattle.text_lines.proofs.Cutting.{found_line, stands_behind, next_span, none_left, none_more}
use Rattle.text_lines.proofs.lines.Lines.next.Goals as goal

pub returns-then-self-clause-more : goal.returns-then-self-clause-more
returns-then-self-clause-more c =
    rw (← c.self.view_is) (
      λ e. absurd (let q : ⊥ = cc in q),
      λ more. absurd (none_more (lines_of c.self.inside.text.now) c.self.inside.given (none_left c.self.inside.text.now c.self.inside.at c.self.inside.given c.self.invariant c.if-self.true) more),
    )

pub invariant_of-self : goal.invariant_of-self
invariant_of-self c =
    let s = c.self.inside in
    let more : s.at < length s.text.now = omega (arith, c.self.invariant.inside) in
    let is = found_line s.text.now c.split_at.result.1.now s.at s.given c.unwrap_or-length.result c.first.result c.self.invariant more c.split_at.ensures.back c.first.ensures c.unwrap_or-length.ensures in
    stands_behind s.text.now s.at s.given c.unwrap_or-length.result c.min-self-inside.result c.self.invariant more is (omega arith)

pub returns-clause-more : goal.returns-clause-more
returns-clause-more c =
    let s = c.self.inside in
    let more : s.at < length s.text.now = omega (arith, c.self.invariant.inside) in
    let is = found_line s.text.now c.split_at.result.1.now s.at s.given c.unwrap_or-length.result c.first.result c.self.invariant more c.split_at.ensures.back c.first.ensures c.unwrap_or-length.ensures in
    rw (← c.self.view_is) (λ e. is.exists, λ more. refl)

pub returns-clause-line : goal.returns-clause-line
returns-clause-line c =
    let s = c.self.inside in
    let more : s.at < length s.text.now = omega (arith, c.self.invariant.inside) in
    let is = found_line s.text.now c.split_at.result.1.now s.at s.given c.unwrap_or-length.result c.first.result c.self.invariant more c.split_at.ensures.back c.first.ensures c.unwrap_or-length.ensures in
    let whole = c.split_at-2.ensures.front ∙ ap (take c.unwrap_or-length.result) c.split_at.ensures.back in
    rw (← c.self.view_is)
    (next_span s.text.now c.split_at-2.result.0.now s.at s.given c.unwrap_or-length.result c.left_length.result c.self.invariant more is whole c.left_length.ensures.within c.left_length.ensures.left)

pub returns-clause-left : goal.returns-clause-left
returns-clause-left c =
    let s = c.self.inside in
    let more : s.at < length s.text.now = omega (arith, c.self.invariant.inside) in
    let is = found_line s.text.now c.split_at.result.1.now s.at s.given c.unwrap_or-length.result c.first.result c.self.invariant more c.split_at.ensures.back c.first.ensures c.unwrap_or-length.ensures in
    rw (← c.self.view_is) is.left
