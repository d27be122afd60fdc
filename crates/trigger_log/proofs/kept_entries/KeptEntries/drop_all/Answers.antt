use Rattle.std.proofs.Common.{refl}
use Rattle.trigger_log.proofs.Kept.{keeps_none}
use Rattle.trigger_log.proofs.kept_entries.KeptEntries.drop_all.Goals as goal

pub returns-clause-kept : goal.returns-clause-kept
returns-clause-kept g c = λ policy net u h was.
    keeps_none policy (g.P.Policy.rules policy) net u c.args.self.now _ h was refl refl refl c.clear.ensures.items
