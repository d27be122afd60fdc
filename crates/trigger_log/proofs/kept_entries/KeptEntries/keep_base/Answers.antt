use Rattle.std.proofs.Common.{refl}
use Rattle.trigger_log.specs.Entries.{reads}
use Rattle.trigger_log.proofs.Kept.{keeps_based, none_is}
use Rattle.trigger_log.proofs.kept_entries.KeptEntries.keep_base.Goals as goal

pub returns-in_ok-base-clause-kept : goal.returns-in_ok-base-clause-kept
returns-in_ok-base-clause-kept g c = λ policy net u h was live.
    keeps_based policy (g.P.Policy.rules policy) net u c.args.self.now _ h c.in_ok-base.base was (none_is c.args.self.now.base c.is_none.result c.is_none.ensures c.if-is_none.true) refl (c.in_ok-base.ensures policy net u (reads h) live) refl refl refl
