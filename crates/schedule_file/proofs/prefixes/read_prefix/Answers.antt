use Rattle.std.proofs.Common.{◌/◌, ◌%◌, ◌^◌, ◌∙◌, sym, arith}
use Rattle.std.specs.Fmt.{decimal}
use Rattle.schedule_file.proofs.Addresses.{text_by_parts, from_second, from_third, from_fourth, reads_first, reads_second, reads_third, reads_fourth, spells_parts, reads_prefix, masked_by}
use Rattle.schedule_file.proofs.prefixes.read_prefix.Goals as goal

pub returns-in_err-a-clause-none : goal.returns-in_err-a-clause-none
returns-in_err-a-clause-none c = rw c.from_residual.ensures (λ p range e.
    c.in_err-a.ensures.none (p.bits / 2 ^ 24 % 256) (from_second p.bits p.len) (omega arith) (e ∙ text_by_parts p))

pub returns-in_err-b-clause-none : goal.returns-in_err-b-clause-none
returns-in_err-b-clause-none c = rw c.from_residual-in_err-b.ensures (λ p range e.
    let first = reads_first p c.args.word.now c.in_ok-a.a c.in_ok-a.word.now e c.in_ok-a.ensures.within c.in_ok-a.ensures.some in
    c.in_err-b.ensures.none (p.bits / 2 ^ 16 % 256) (from_third p.bits p.len) (omega arith) first.1)

pub returns-in_err-c-clause-none : goal.returns-in_err-c-clause-none
returns-in_err-c-clause-none c = rw c.from_residual-in_err-c.ensures (λ p range e.
    let first = reads_first p c.args.word.now c.in_ok-a.a c.in_ok-a.word.now e c.in_ok-a.ensures.within c.in_ok-a.ensures.some in
    let second = reads_second p c.in_ok-a.word.now c.in_ok-b.b c.in_ok-b.word.now first.1 c.in_ok-b.ensures.within c.in_ok-b.ensures.some in
    c.in_err-c.ensures.none (p.bits / 2 ^ 8 % 256) (from_fourth p.bits p.len) (omega arith) second.1)

pub returns-in_err-d-clause-none : goal.returns-in_err-d-clause-none
returns-in_err-d-clause-none c = rw c.from_residual-in_err-d.ensures (λ p range e.
    let first = reads_first p c.args.word.now c.in_ok-a.a c.in_ok-a.word.now e c.in_ok-a.ensures.within c.in_ok-a.ensures.some in
    let second = reads_second p c.in_ok-a.word.now c.in_ok-b.b c.in_ok-b.word.now first.1 c.in_ok-b.ensures.within c.in_ok-b.ensures.some in
    let third = reads_third p c.in_ok-b.word.now c.in_ok-c.c c.in_ok-c.word.now second.1 c.in_ok-c.ensures.within c.in_ok-c.ensures.some in
    c.in_err-d.ensures.none (p.bits % 256) (decimal p.len) (omega arith) third.1)

pub returns-in_err-len-clause-none : goal.returns-in_err-len-clause-none
returns-in_err-len-clause-none c = rw c.from_residual-in_err-len.ensures (λ p range e.
    let first = reads_first p c.args.word.now c.in_ok-a.a c.in_ok-a.word.now e c.in_ok-a.ensures.within c.in_ok-a.ensures.some in
    let second = reads_second p c.in_ok-a.word.now c.in_ok-b.b c.in_ok-b.word.now first.1 c.in_ok-b.ensures.within c.in_ok-b.ensures.some in
    let third = reads_third p c.in_ok-b.word.now c.in_ok-c.c c.in_ok-c.word.now second.1 c.in_ok-c.ensures.within c.in_ok-c.ensures.some in
    let fourth = reads_fourth p c.in_ok-c.word.now c.in_ok-d.d c.in_ok-d.word.now third.1 c.in_ok-d.ensures.within c.in_ok-d.ensures.some in
    c.in_err-len.ensures.none p.len range.1.short fourth.1)

pub returns-then-from-size-ne0-clause-none : goal.returns-then-from-size-ne0-clause-none
returns-then-from-size-ne0-clause-none c = λ p range e.
    let first = reads_first p c.args.word.now c.in_ok-a.a c.in_ok-a.word.now e c.in_ok-a.ensures.within c.in_ok-a.ensures.some in
    let second = reads_second p c.in_ok-a.word.now c.in_ok-b.b c.in_ok-b.word.now first.1 c.in_ok-b.ensures.within c.in_ok-b.ensures.some in
    let third = reads_third p c.in_ok-b.word.now c.in_ok-c.c c.in_ok-c.word.now second.1 c.in_ok-c.ensures.within c.in_ok-c.ensures.some in
    let fourth = reads_fourth p c.in_ok-c.word.now c.in_ok-d.d c.in_ok-d.word.now third.1 c.in_ok-d.ensures.within c.in_ok-d.ensures.some in
    let whole = reads_prefix p c.in_ok-a.a c.in_ok-b.b c.in_ok-c.c c.in_ok-d.d c.in_ok-len.field-0 range c.in_ok-len.ensures.within first.0 second.0 third.0 fourth.0 (sym c.in_ok-len.ensures.some ∙ fourth.1) in
    c.if-from-size-ne0.true (masked_by p c.from.result _ c.in_ok-len.field-0 range whole.0 whole.1 c.from.ensures)

pub returns-clause-some : goal.returns-clause-some
returns-clause-some c =
    spells_parts c.args.word.now c.in_ok-a.a c.in_ok-b.b c.in_ok-c.c c.in_ok-d.d c.in_ok-len.field-0 c.in_ok-a.word.now c.in_ok-b.word.now c.in_ok-c.word.now c.in_ok-d.word.now
    c.in_ok-a.ensures.within c.in_ok-b.ensures.within c.in_ok-c.ensures.within c.in_ok-d.ensures.within
    c.in_ok-a.ensures.some c.in_ok-b.ensures.some c.in_ok-c.ensures.some c.in_ok-d.ensures.some c.in_ok-len.ensures.some
