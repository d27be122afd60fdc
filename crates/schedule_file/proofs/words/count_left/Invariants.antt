use Rattle.std.proofs.Common.{◌≡◌, ◌+◌, ◌≤◌, length}
use Rattle.text_lines.specs.Readings.{words_left}
use Rattle.schedule_file.proofs.words.count_left.Given as goal

abbrev pub invariant-loop-token : goal.invariant-loop-token
invariant-loop-token l = record {
  same_end : l.tokens.end ≡ l.fn.tokens.end;
  total : l.count + length (words_left l.tokens) ≡ length (words_left l.fn.tokens);
  few : l.count + l.fn.tokens.from ≤ l.tokens.from;
  within : l.tokens.from ≤ l.tokens.end;
}

abbrev pub decreases-loop-token : goal.decreases-loop-token
decreases-loop-token l = length (words_left l.tokens)
