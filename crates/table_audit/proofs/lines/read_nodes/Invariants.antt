use Rattle.std.proofs.Common.{◌≡◌, length, ◌∷◌, []}
use Rattle.text_lines.specs.Readings.{words_left}
use Rattle.table_audit.specs.Reading.{nodes_behind}
use Rattle.table_audit.proofs.lines.read_nodes.Given as goal

abbrev pub invariant-loop-token : goal.invariant-loop-token
invariant-loop-token l = record {
  same_text : l.tokens.text ≡ l.text;
  path : nodes_behind l.nodes.items (words_left l.tokens) ≡ nodes_behind (l.fn.first ∷ []) (words_left l.initial.tokens);
}

abbrev pub decreases-loop-token : goal.decreases-loop-token
decreases-loop-token l = length (words_left l.tokens)
