use Rattle.std.proofs.Common.{sym, ◌∙◌}
use Rattle.text_lines.specs.Readings.{words_left}
use Rattle.table_audit.proofs.Saying.{path_read}
use Rattle.table_audit.proofs.lines.read_path.Goals as goal

pub returns : goal.returns
returns c =
    path_read (words_left c.args.tokens.now) c.next_word-first.result.now (words_left c.next_word-first.new.tokens) c.in-Ok.node _
    c.next_word-first.ensures.word c.next_word-first.ensures.left (sym c.is_none.ensures ∙ c.if-is_none.false)
    c.in-Ok.ensures.fine c.in-Ok.ensures.ok c.in_ok-nodes.ensures
