use Rattle.std.proofs.Common.{◌≢◌, ◌∙◌, ◌++◌, ◌∷◌, [], ap}
use Rattle.topology.specs.declared.status.Status.TheVariants.{Done}
use Rattle.routing_commands.proofs.Noting.{noted_by}
use Rattle.routing_commands.proofs.notes.tell.Goals.{in-Done, in_default}
use Rattle.routing_commands.proofs.notes.tell.Goals as goal

pub returns-clause-noted : goal.returns-clause-noted
returns-clause-noted g c =
    let not_done : c.args.status.now ≢ Done = elim c.match-matches.branch [ in-Done w ↦ absurd (cc (c.if-matches.false, w.matches-is)) | in_default w ↦ w.in_default.not-Done ] in
    noted_by _ _ c.args.status.now _ c.write_all-told.result not_done
    (c.as_bytes.ensures.value ∙ (c.as_str.ensures.value ∙ (c.push_str.ensures.bytes ∙ ap (λ words. words ++ 10 ∷ []) c.words_of-line.ensures.words)))
    c.write_all-told.ensures.ok c.write_all-told.ensures.err c.write_all-told.ensures.cause c.write_all-told.ensures.same_room

pub returns-clause-silent : goal.returns-clause-silent
returns-clause-silent g c =
    let not_done : c.args.status.now ≢ Done = elim c.match-matches.branch [ in-Done w ↦ absurd (cc (c.if-matches.false, w.matches-is)) | in_default w ↦ w.in_default.not-Done ] in
    λ done. absurd (not_done done)
