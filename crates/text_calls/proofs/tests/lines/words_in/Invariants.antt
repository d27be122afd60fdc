use Rattle.std.proofs.Common.{◌≡◌, ◌+◌, ◌≤◌, length, slice_range}
use Rattle.text_lines.specs.Words.{words_of}
use Rattle.text_lines.specs.Readings.{words_left}
use Rattle.text_calls.proofs.tests.lines.words_in.Given as goal

abbrev pub invariant-loop-token : goal.invariant-loop-token
invariant-loop-token l = record {
  same_text : l.tokens.text ≡ l.text;
  same_end : l.tokens.end ≡ l.fn.line.end;
  total : l.count + length (words_left l.tokens) ≡ length (words_of (slice_range l.text l.fn.line.start l.fn.line.end));
  few : l.count + l.fn.line.start ≤ l.tokens.from;
  within : l.tokens.from ≤ l.fn.line.end;
}

abbrev pub decreases-loop-token : goal.decreases-loop-token
decreases-loop-token l = length (words_left l.tokens)
