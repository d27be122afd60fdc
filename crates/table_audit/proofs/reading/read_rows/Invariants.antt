use Rattle.std.proofs.Common.{◌≡◌, suc, ◌++◌, length, map}
use Rattle.text_lines.specs.Lines.{left_of}
use Rattle.text_lines.specs.Words.{words_of}
use Rattle.text_lines.specs.Readings.{lines_left}
use Rattle.table_audit.specs.Tables.{first_misspelled, first_misspelled_from, rows_from, rows_of}
use Rattle.table_audit.proofs.reading.read_rows.Given as goal

abbrev pub invariant-loop-line : goal.invariant-loop-line
invariant-loop-line l = record {
  same_text : l.lines.text ≡ l.text;
  rows : l.rows.items ++ rows_from (suc l.lines.given) (map (λ line. words_of (left_of line)) (lines_left l.lines)) ≡ rows_of l.text;
  first : first_misspelled_from (suc l.lines.given) (map (λ line. words_of (left_of line)) (lines_left l.lines)) ≡ first_misspelled l.text;
}

abbrev pub decreases-loop-line : goal.decreases-loop-line
decreases-loop-line l = length (lines_left l.lines)
