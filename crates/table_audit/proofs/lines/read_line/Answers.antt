use Rattle.std.proofs.Common.{sym, ap, ap₂, ◌∙◌, ◌≡◌, Some, List, ℕ}
use Rattle.std.specs.Prelude.{option_map, slice_range}
use Rattle.text_lines.specs.Readings.{Cutting, words_left}
use Rattle.text_lines.specs.Words.{words_of}
use Rattle.table_audit.specs.Tables.{path_in}
use Rattle.table_audit.proofs.Saying.{row_read}
use Rattle.table_audit.proofs.lines.read_line.Goals as goal

pub returns : goal.returns
returns c =
    let words = words_of (slice_range c.args.text.now c.args.line.start c.args.line.end) in
    let start : words_left c.new-tokens.result ≡ words = ap (λ (t : Cutting). words_left t) c.new-tokens.ensures in
    rw (c.in-Ok.ensures.ok, c.in-Ok-epoch_of.ensures.ok, c.in-Ok-prefix_of.ensures.ok, c.new.ensures)
    (row_read c.args.line.number words c.next_word-first.result.now c.next_word-node.result.now c.next_word-epoch.result.now c.next_word-word.result.now (words_left c.next_word-word.new.tokens)
    (record {
      behind_first = words_left c.next_word-first.new.tokens;
      behind_node = words_left c.next_word-node.new.tokens;
      behind_epoch = words_left c.next_word-epoch.new.tokens;
      one = rw start at c.next_word-first.ensures.word;
      two = c.next_word-node.ensures.word;
      three = c.next_word-epoch.ensures.word;
      four = c.next_word-word.ensures.word;
      left_one = rw start at c.next_word-first.ensures.left;
      left_two = c.next_word-node.ensures.left;
      left_three = c.next_word-epoch.ensures.left;
      left_four = c.next_word-word.ensures.left;
    })
    (sym c.is_table.ensures ∙ c.if-not-is_table.false) c.in-Ok.ensures.fine (sym c.is_unpublished.ensures ∙ c.if-is_unpublished.false) c.in-Ok-epoch_of.ensures.fine
    c.in-Some.word.now c.in-Some.ensures.some c.in-Ok-prefix_of.ensures.fine c.in-Some-2.nodes.items
    (sym c.in_ok-nodes.ensures ∙ ap (option_map (λ nodes. nodes.items)) c.in-Some-2.is))
