use Rattle.std.proofs.Common.{◌==◌, arith}
use Rattle.text_lines.proofs.Firsts.{first_within, first_or_length}
use Rattle.text_lines.proofs.Leaving.{left_with_return, left_as_it_is}
use Rattle.text_lines.proofs.lines.left_length.Goals as goal
use Rattle.text_lines.proofs.lines.left_length.Goals.{else-length-gt0-via-then-length-gt0+else-line-length-eq13, else-length-gt0-via-else-length-gt0}

pub bounds-line-length : goal.bounds-line-length
bounds-line-length c =
    omega (arith, first_within (λ b. b == 35) c.args.line.now, first_or_length (λ b. b == 35) c.args.line.now c.first.result c.unwrap_or-length.result c.first.ensures c.unwrap_or-length.ensures)

pub returns-then-line-length-eq13-clause-left : goal.returns-then-line-length-eq13-clause-left
returns-then-line-length-eq13-clause-left c =
    let at = first_or_length (λ b. b == 35) c.args.line.now c.first.result c.unwrap_or-length.result c.first.ensures c.unwrap_or-length.ensures in
    left_with_return c.args.line.now c.unwrap_or-length.result at c.if-length-gt0.true c.if-line-length-eq13.true

pub returns-clause-within : goal.returns-clause-within
returns-clause-within c =
    omega (arith, first_within (λ b. b == 35) c.args.line.now, first_or_length (λ b. b == 35) c.args.line.now c.first.result c.unwrap_or-length.result c.first.ensures c.unwrap_or-length.ensures)

pub returns-clause-left : goal.returns-clause-left
returns-clause-left c =
    let at = first_or_length (λ b. b == 35) c.args.line.now c.first.result c.unwrap_or-length.result c.first.ensures c.unwrap_or-length.ensures in
    left_as_it_is c.args.line.now c.unwrap_or-length.result at
    (elim c.else-length-gt0.branch [
      | else-length-gt0-via-then-length-gt0+else-line-length-eq13 w ↦ (λ some last. w.if-line-length-eq13.false last)
      | else-length-gt0-via-else-length-gt0 w ↦ (λ some last. omega arith)
    ])
