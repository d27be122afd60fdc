use Rattle.std.proofs.Common.{refl}
use Rattle.incomplete_closure.proofs.Collected.{put_collected}
use Rattle.incomplete_closure.proofs.collection.Collection.collect_if.Goals as goal

pub returns-in_ok-insert : goal.returns-in_ok-insert
returns-in_ok-insert c =
    rw (c.if-due.true, ← c.self.view_is)
    (put_collected _ (λ s t. refl) c.self.inside.set.keys c.insert.new.self.keys c.args.trigger c.in_ok-insert.field-0
    c.in_ok-insert.ensures.added c.in_ok-insert.ensures.unchanged c.in_ok-insert.ensures.keys)
