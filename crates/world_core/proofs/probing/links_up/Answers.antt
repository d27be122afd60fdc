use Rattle.std.proofs.Common.{◌∙◌, ◌++◌, option_to_list, sym, ap}
use Rattle.std.proofs.lemmas.List.{append-nil}
use Rattle.world_core.proofs.Listed.{up_more, is_none}
use Rattle.world_core.proofs.probing.links_up.Goals as goal
use Rattle.world_core.proofs.probing.links_up.Goals.{in-Some+in_ok-push, in_default}

pub loop-place-preserved : goal.loop-place-preserved
loop-place-preserved c = record {
  so_far = λ past are. up_more past c.args.topology.now.links c.loop-place.place c.loop-place.up.items c.match-up_at.up.items c.up_at.result (c.loop-place.invariant.so_far past are) (c.up_at.ensures past are)
      (elim c.match-up_at.branch [
        | in-Some+in_ok-push w ↦ ap (λ v. v.items) w.up-is ∙ (w.in_ok-push.ensures.items ∙ ap (λ o. c.loop-place.up.items ++ option_to_list o) (sym w.in-Some.is))
        | in_default w ↦ ap (λ v. v.items) w.up-is ∙ (sym (append-nil c.loop-place.up.items) ∙ ap (λ o. c.loop-place.up.items ++ option_to_list o) (sym (is_none c.up_at.result w.in_default.not-Some)))
      ]);
}
