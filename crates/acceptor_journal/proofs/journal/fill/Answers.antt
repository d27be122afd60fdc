use Rattle.std.proofs.Common.{◌∙◌, arith, refl}
use Rattle.acceptor_journal.proofs.Filling.{filled_more}
use Rattle.acceptor_journal.proofs.DiskCalls.{looked}
use Rattle.acceptor_journal.proofs.journal.fill.Goals as goal

pub returns-then-count-eq0-clause-looks : goal.returns-then-count-eq0-clause-looks
returns-then-count-eq0-clause-looks g c = looked _ _ _ (c.in_ok-count.ensures.looks.ok refl ∙ c.loop-done.invariant.same)

pub loop-done-preserved : goal.loop-done-preserved
loop-done-preserved g c =
    let went = c.loop-done.invariant in
    record {
      within = omega (arith, c.in_ok-count.ensures.bound, c.read_behind.ensures.size);
      size = c.read_behind.ensures.size ∙ went.size;
      same = c.in_ok-count.ensures.looks.ok refl ∙ went.same;
      filled = filled_more _ _ _ _ _ _ went.filled c.read_behind.ensures.front (rw went.same at c.in_ok-count.ensures.bytes);
    }

pub returns-clause-looks : goal.returns-clause-looks
returns-clause-looks g c = looked _ _ _ c.loop-done.invariant.same
