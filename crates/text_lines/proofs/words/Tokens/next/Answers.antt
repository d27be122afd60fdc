use Rattle.std.proofs.Common.{ap, ◌∙◌, sym, arith}
use Rattle.text_lines.specs.Words.{words_of}
use Rattle.text_lines.proofs.Runs.{found_word, no_word, rest_of, word_left}
use Rattle.text_lines.proofs.words.Tokens.next.Goals as goal

pub returns-in_default-clause-end : goal.returns-in_default-clause-end
returns-in_default-clause-end c =
    let s = c.self.inside in
    rw (← c.self.view_is)
    (ap words_of (rest_of s.text.now c.split_at.result.0.now c.split_at-2.result.1.now s.from s.end c.split_at.ensures.front c.split_at-2.ensures.back) ∙ no_word c.split_at-2.result.1.now (sym c.first_of_word.ensures ∙ c.in_default.is))

pub returns-clause-within : goal.returns-clause-within
returns-clause-within c =
    let s = c.self.inside in
    let rest = c.split_at-2.result.1.now in
    let is = found_word rest c.split_at-3.result.1.now c.in-Some.skipped c.unwrap_or.result c.first_separator.result (sym c.in-Some.ensures) c.split_at-3.ensures.back c.first_separator.ensures c.unwrap_or.ensures in
    rw (← c.self.view_is) record { behind = omega arith; filled = omega (arith, is.filled); before = omega (arith, is.within); inside = omega (arith, is.within) }

pub returns-clause-left : goal.returns-clause-left
returns-clause-left c =
    let s = c.self.inside in
    let rest = c.split_at-2.result.1.now in
    let is = found_word rest c.split_at-3.result.1.now c.in-Some.skipped c.unwrap_or.result c.first_separator.result (sym c.in-Some.ensures) c.split_at-3.ensures.back c.first_separator.ensures c.unwrap_or.ensures in
    rw (← c.self.view_is)
    (word_left s.text.now rest s.from s.end c.in-Some.skipped c.unwrap_or.result (rest_of s.text.now c.split_at.result.0.now rest s.from s.end c.split_at.ensures.front c.split_at-2.ensures.back) (omega (arith, is.within)) is)
