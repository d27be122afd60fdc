use Rattle.std.proofs.Common.{◌≡◌, ◌+◌, ◌≤◌, length}
use Rattle.std.specs.Prelude.{sum_by}
use Rattle.text_lines.specs.Lines.{lines_of, left_of, start_of}
use Rattle.text_lines.specs.Words.{words_of}
use Rattle.text_lines.specs.Readings.{lines_left}
use Rattle.text_calls.proofs.tests.lines.words_in_all.Given as goal

abbrev pub invariant-loop-line : goal.invariant-loop-line
invariant-loop-line l = record {
  same_text : l.lines.text ≡ l.text;
  total : l.count + sum_by (λ line. length (words_of (left_of line))) (lines_left l.lines) ≡ sum_by (λ line. length (words_of (left_of line))) (lines_of l.text);
  few : l.count ≤ start_of l.lines.text l.lines.given;
}

abbrev pub decreases-loop-line : goal.decreases-loop-line
decreases-loop-line l = length (lines_left l.lines)
