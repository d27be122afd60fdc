use Rattle.std.proofs.Common.{◌∙◌, refl, arith}
use Rattle.acceptor_journal.proofs.DiskCalls.{looks_from, looks_on, looked}
use Rattle.acceptor_journal.proofs.Heads.{ends_short, ends_shut, ends_cut, begins_here}
use Rattle.acceptor_journal.proofs.journal.length_at.Goals as goal

pub returns-in_err-size-clause-looks : goal.returns-in_err-size-clause-looks
returns-in_err-size-clause-looks g c = looks_from _ c.in_err-size.field-0.0 _ _ c.from_residual.ensures c.in_err-size.ensures.failed c.in_err-size.ensures.no_memory

pub returns-then-left-le5-clause-record : goal.returns-then-left-le5-clause-record
returns-then-left-le5-clause-record g c = ends_short _ _ _ _ c.in_ok-size.ensures.count c.saturating_sub-left.ensures c.if-left-le5.true

pub returns-then-left-le5-clause-looks : goal.returns-then-left-le5-clause-looks
returns-then-left-le5-clause-looks g c = looked _ _ _ c.in_ok-size.ensures.ok

pub returns-in_err-count-clause-looks : goal.returns-in_err-count-clause-looks
returns-in_err-count-clause-looks g c = looks_on _ c.in_err-count.field-0.0 _ _ _ c.in_ok-size.ensures.ok c.from_residual-in_err-count.ensures c.in_err-count.ensures.looks

pub returns-then-head-ne1-clause-record : goal.returns-then-head-ne1-clause-record
returns-then-head-ne1-clause-record g c =
    ends_shut _ _ _ _ c.in_ok-size.ensures.count c.saturating_sub-left.ensures _ _ (rw c.in_ok-size.ensures.ok at c.in_ok-count.ensures.bytes) c.if-count-lt5.false c.fill.ensures.size c.if-head-ne1.true

pub returns-then-head-ne1-clause-looks : goal.returns-then-head-ne1-clause-looks
returns-then-head-ne1-clause-looks g c = looked _ _ _ (c.in_ok-count.ensures.looks.ok refl ∙ c.in_ok-size.ensures.ok)

pub returns-then-left-from-clause-record : goal.returns-then-left-from-clause-record
returns-then-left-from-clause-record g c =
    ends_cut _ _ _ _ c.in_ok-size.ensures.count c.saturating_sub-left.ensures _ _ (rw c.in_ok-size.ensures.ok at c.in_ok-count.ensures.bytes) c.if-count-lt5.false c.fill.ensures.size
    c.from.result (c.from.ensures ∙ c.from_be_bytes-len.ensures) c.if-left-from.true c.if-left-le5.false

pub returns-then-left-from-clause-looks : goal.returns-then-left-from-clause-looks
returns-then-left-from-clause-looks g c = looked _ _ _ (c.in_ok-count.ensures.looks.ok refl ∙ c.in_ok-size.ensures.ok)

pub returns-clause-record : goal.returns-clause-record
returns-clause-record g c =
    begins_here _ _ _ _ c.in_ok-size.ensures.count c.saturating_sub-left.ensures _ _ (rw c.in_ok-size.ensures.ok at c.in_ok-count.ensures.bytes) c.if-count-lt5.false c.fill.ensures.size
    c.from_be_bytes-len.result c.from_be_bytes-len.ensures (omega (arith, c.from.ensures, c.if-left-from.false)) c.if-head-ne1.false

pub returns-clause-looks : goal.returns-clause-looks
returns-clause-looks g c = looked _ _ _ (c.in_ok-count.ensures.looks.ok refl ∙ c.in_ok-size.ensures.ok)
