use Rattle.std.proofs.Common.{◌∙◌, ap, sym}
use Rattle.chronicle.specs.Logs.{log_of}
use Rattle.node_core.specs.declared.parts.NodeParts.{NodeParts}
use Rattle.node_core.proofs.Counting.{epochs_above, lists_above, entries_above, updates_above, none_above}
use Rattle.node_core.proofs.node.Node.limit.Goals as goal

pub returns-then-number-gt-MOST_EPOCHS-clause-some : goal.returns-then-number-gt-MOST_EPOCHS-clause-some
returns-then-number-gt-MOST_EPOCHS-clause-some g c policy net u past follows =
    let keeps = follows.keeps in
    epochs_above (g.P.Policy.rules policy) net u past c.number.result (c.number.ensures ∙ ((rw c.deref.ensures at c.epoch.ensures) net u keeps.acts keeps.snapshots ∙ keeps.alike.same_epoch))
    c.if-number-gt-MOST_EPOCHS.true

pub returns-then-has_long_list-clause-some : goal.returns-then-has_long_list-clause-some
returns-then-has_long_list-clause-some g c policy net u past follows =
    let keeps = follows.keeps in
    lists_above (g.P.Policy.rules policy) net u past c.number.result (c.number.ensures ∙ ((rw c.deref.ensures at c.epoch.ensures) net u keeps.acts keeps.snapshots ∙ keeps.alike.same_epoch))
    c.if-number-gt-MOST_EPOCHS.false (sym (c.has_long_list.ensures policy net u past follows) ∙ c.if-has_long_list.true)

pub returns-then-len-gt-MOST_ENTRIES-clause-some : goal.returns-then-len-gt-MOST_ENTRIES-clause-some
returns-then-len-gt-MOST_ENTRIES-clause-some g c policy net u past follows =
    let keeps = follows.keeps in
    entries_above (g.P.Policy.rules policy) net u past c.number.result (c.number.ensures ∙ ((rw c.deref.ensures at c.epoch.ensures) net u keeps.acts keeps.snapshots ∙ keeps.alike.same_epoch))
    follows.small (sym (c.has_long_list.ensures policy net u past follows) ∙ c.if-has_long_list.false) c.len.result ((rw c.deref-2.ensures at c.len.ensures) policy net u (log_of u past) keeps.log)
    c.if-number-gt-MOST_EPOCHS.false c.if-len-gt-MOST_ENTRIES.true

pub returns-then-deref-clause-some : goal.returns-then-deref-clause-some
returns-then-deref-clause-some g c policy net u past follows =
    let keeps = follows.keeps in
    updates_above (g.P.Policy.rules policy) net u past c.number.result (c.number.ensures ∙ ((rw c.deref.ensures at c.epoch.ensures) net u keeps.acts keeps.snapshots ∙ keeps.alike.same_epoch))
    follows.small (sym (c.has_long_list.ensures policy net u past follows) ∙ c.if-has_long_list.false) c.len.result ((rw c.deref-2.ensures at c.len.ensures) policy net u (log_of u past) keeps.log)
    c.if-number-gt-MOST_EPOCHS.false
    c.deref-3.result.now.counts.updates (ap (λ (k : NodeParts). k.counts.updates) c.deref-3.ensures ∙ keeps.counted.updates) c.if-len-gt-MOST_ENTRIES.false c.if-deref.true

pub returns-clause-none : goal.returns-clause-none
returns-clause-none g c policy net u past follows =
    let keeps = follows.keeps in
    none_above (g.P.Policy.rules policy) net u past c.number.result (c.number.ensures ∙ ((rw c.deref.ensures at c.epoch.ensures) net u keeps.acts keeps.snapshots ∙ keeps.alike.same_epoch))
    follows.small (sym (c.has_long_list.ensures policy net u past follows) ∙ c.if-has_long_list.false) c.len.result ((rw c.deref-2.ensures at c.len.ensures) policy net u (log_of u past) keeps.log)
    c.if-number-gt-MOST_EPOCHS.false
    c.deref-3.result.now.counts.updates (ap (λ (k : NodeParts). k.counts.updates) c.deref-3.ensures ∙ keeps.counted.updates) c.if-len-gt-MOST_ENTRIES.false c.if-deref.false
