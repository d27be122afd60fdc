use Rattle.std.proofs.Common.{◌+◌, ◌<◌, length, arith, rules}
use Rattle.text_lines.proofs.Digits.{not_empty, no_zero_first, no_other_byte, front_no_more, spells_value, digit_more}
use Rattle.text_lines.proofs.numbers.read_number.Goals as goal
use Rattle.text_lines.proofs.numbers.read_number.Goals.{else-word-eq48-via-then-word-eq48+else-word-gt1, else-word-eq48-via-else-word-eq48}

pub returns-then-is_empty-clause-none : goal.returns-then-is_empty-clause-none
returns-then-is_empty-clause-none c = λ n within e. not_empty c.args.word.now n (omega arith) (search rules) e

pub returns-then-word-gt1-clause-none : goal.returns-then-word-gt1-clause-none
returns-then-word-gt1-clause-none c = λ n within e. no_zero_first c.args.word.now n (omega arith) (search rules) (search rules) e

pub returns-then-not-is_ascii_digit-clause-none : goal.returns-then-not-is_ascii_digit-clause-none
returns-then-not-is_ascii_digit-clause-none c =
    λ n within e. no_other_byte c.args.word.now n c.loop-byte.byte-index (omega arith) (omega arith) (search rules) e

pub returns-then-number-from-clause-none : goal.returns-then-number-from-clause-none
returns-then-number-from-clause-none c = λ n within e.
    let more = digit_more c.args.word.now c.loop-byte.byte-index c.loop-byte.number (omega arith) (search rules) c.loop-byte.invariant.digits c.loop-byte.invariant.value in
    let less = front_no_more c.args.word.now n (c.loop-byte.byte-index + 1) (omega arith) e in
    omega (arith, more.1)

pub loop-byte-preserved : goal.loop-byte-preserved
loop-byte-preserved c =
    let more = digit_more c.args.word.now c.loop-byte.byte-index c.loop-byte.number (omega arith) (search rules) c.loop-byte.invariant.digits c.loop-byte.invariant.value in
    record { digits = more.0; value = (search rules); within = omega arith }

pub returns-clause-some : goal.returns-clause-some
returns-clause-some c =
    let some : 0 < length c.args.word.now = search rules in
    spells_value c.args.word.now c.loop-byte.byte-index c.loop-byte.number (omega arith) c.loop-byte.invariant.digits c.loop-byte.invariant.value (omega arith) some
    (elim c.else-word-eq48.branch [ else-word-eq48-via-then-word-eq48+else-word-gt1 w ↦ (λ e. omega arith) | else-word-eq48-via-else-word-eq48 w ↦ (λ e. omega arith) ])
