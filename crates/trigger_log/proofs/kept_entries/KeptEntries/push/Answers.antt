use Rattle.std.proofs.Common.{◌∷◌, ◌++◌, [], ◌∙◌, ap, refl}
use Rattle.trigger_log.proofs.Kept.{keeps_more}
use Rattle.trigger_log.proofs.kept_entries.KeptEntries.push.Goals as goal

pub returns-clause-kept : goal.returns-clause-kept
returns-clause-kept g c = λ policy net u h k was shows.
    keeps_more policy (g.P.Policy.rules policy) net u h k c.args.entry c.args.self.now _ was shows c.requires.based refl refl c.in_ok-next.ensures.next
    (c.push_reserved.ensures.items ∙ ap (λ l. l ++ c.args.entry ∷ []) c.make_room.ensures.items)
