use Rattle.std.proofs.Common.{◌≡◌, ◌++◌, length, map, slice_range}
use Rattle.text_lines.specs.Words.{words_of}
use Rattle.text_lines.specs.Readings.{words_left}
use Rattle.text_calls.proofs.tests.lines.tokens_of.Given as goal

abbrev pub invariant-loop-token : goal.invariant-loop-token
invariant-loop-token l = record {
  same_text : l.rest.text ≡ l.text;
  total : map (λ token. slice_range l.text token.start token.end) l.tokens.items ++ words_left l.rest ≡ words_of (slice_range l.text l.fn.line.start l.fn.line.end);
}

abbrev pub decreases-loop-token : goal.decreases-loop-token
decreases-loop-token l = length (words_left l.rest)
