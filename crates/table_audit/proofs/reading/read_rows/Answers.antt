use Rattle.std.proofs.Common.{ap}
use Rattle.table_audit.proofs.Saying.{first_start, rows_start}
use Rattle.table_audit.proofs.reading.read_rows.Goals as goal

pub loop-line-init : goal.loop-line-init
loop-line-init c = record {
  same_text = ap (λ r. r.text) c.new-lines.ensures;
  rows = rows_start c.new-lines.result c.args.text.now c.new-rows.result.items c.new-rows.ensures.items c.new-lines.ensures;
  first = first_start c.new-lines.result c.args.text.now c.new-lines.ensures;
}
