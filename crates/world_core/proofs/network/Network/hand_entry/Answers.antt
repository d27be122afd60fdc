use Rattle.std.proofs.Common.{ℕ, Bool, Some, [], ◌∷◌, ◌++◌, refl, sym, ◌∙◌, ap, subst, map, arith, length, append_assoc}
use Rattle.std.proofs.lemmas.List.{append-nil, map-append}
use Rattle.trigger_log.specs.Going.{going_of}
use Rattle.chronicle.specs.Facts.{Chronicle, happen}
use Rattle.node_core.specs.Entries.{first_of}
use Rattle.node_core.specs.Outputs.{Logged, Send}
use Rattle.node_core.proofs.Together.{entry_shown}
use Rattle.world_core.specs.Happening.{AreSending}
use Rattle.world_core.specs.Telling.{IsTold}
use Rattle.run_record.specs.Walks.{still_after}
use Rattle.world_core.proofs.Handing.{handed_next, happen_last, none_left, taken_one}
use Rattle.world_core.proofs.Returning.{still_last}
use Rattle.world_core.proofs.Shown.{handed_first, keeps_on, sends_with}
use Rattle.world_core.proofs.network.Network.hand_entry.Goals as goal

pub loop-out-init : goal.loop-out-init
loop-out-init g c = record {
  kept = c.in_ok-hand.ensures.kept;
  outputs = c.in_ok-hand.ensures.outputs;
  wanted = c.in_ok-hand.ensures.wanted;
  done = [];
  whole = sym c.from_vec-left.ensures.items;
  sent = λ away first past counts facts told shows was.
      handed_first c.args.self.now.topology.value c.args.node away first past counts c.args.self.now c.hand.new.self c.args.account.now c.hand.new.account facts (Logged c.args.index) told shows was
      (λ away past f. c.in_ok-hand.ensures.sending away first past counts f);
}

pub loop-out-smaller : goal.loop-out-smaller
loop-out-smaller g c =
    let one_less = ap length (taken_one c.loop-out.left.items c.pop_front.new.self.items c.pop_front.result c.in-Some.out c.in-Some.is c.pop_front.ensures.items) in
    omega (arith, one_less)

pub loop-out-preserved : goal.loop-out-preserved
loop-out-preserved g c =
    let so_far = c.loop-out.invariant.kept in
    let net = c.args.self.now.topology.value in
    let done = c.loop-out.invariant.done in
    let out = c.in-Some.out in
    let first_one = Logged c.args.index in
    let new = c.hand-in-Some.new.self in
    let told_new = c.hand-in-Some.new.account in
    record {
      kept = keeps_on c.args.self.now c.loop-out.self new so_far c.in_ok-hand-2.ensures.kept;
      outputs = c.in_ok-hand-2.ensures.outputs ∙ c.loop-out.invariant.outputs;
      wanted = c.in_ok-hand-2.ensures.wanted ∙ c.loop-out.invariant.wanted;
      done = done ++ out ∷ [];
      whole = c.loop-out.invariant.whole ∙ (ap (λ l. done ++ l) (taken_one c.loop-out.left.items c.pop_front.new.self.items c.pop_front.result out c.in-Some.is c.pop_front.ensures.items) ∙ sym (append_assoc done (out ∷ []) c.pop_front.new.self.items));
      sent = λ away first past counts facts told shows was.
          handed_next net past c.args.node (λ fs. AreSending (still_after fs away) first (happen past fs) counts c.loop-out.self c.loop-out.account)
          (λ fs. AreSending (still_after fs away) first (happen past fs) counts new told_new)
          facts (first_one ∷ map Send (map going_of done)) (first_one ∷ map Send (map going_of (done ++ out ∷ []))) (Send (going_of out)) told shows
          (ap (λ l. first_one ∷ l) (ap (map Send) (map-append going_of done (out ∷ [])) ∙ map-append Send (map going_of done) (going_of out ∷ [])))
          (λ fs some same. c.loop-out.invariant.sent away first past counts fs some same was)
          (λ fs f one same earlier.
          subst (λ (mid : Chronicle). AreSending (still_after (fs ++ f ∷ []) away) first mid counts new told_new) (sym (happen_last past fs f))
          (subst (λ (a : ℕ → Bool). AreSending a first (f ∷ happen past fs) counts new told_new) (sym (still_last fs f away))
          (c.in_ok-hand-2.ensures.sending (still_after fs away) first (happen past fs) counts f (subst (λ n. IsTold n c.args.node (happen past fs) f) (sym (ap (λ t. t.value) so_far.topology)) one) same earlier)));
    }

pub returns-clause-sending : goal.returns-clause-sending
returns-clause-sending g c away first past counts facts told shows was =
    let done = c.loop-out.invariant.done in
    let all = sym (c.loop-out.invariant.whole ∙ (ap (λ l. done ++ l) (none_left c.loop-out.left.items (c.in_default.ensures.items ∙ c.in_default.ensures.rest)) ∙ append-nil done)) in
    sends_with (still_after facts away) first (happen past facts) counts c.loop-out.self c.loop-out.account c.reuse.new.self
    (c.loop-out.invariant.sent away first past counts facts told
    (ap (λ l. Logged c.args.index ∷ map Send (map going_of l)) all ∙ (sym (entry_shown [] (first_of (Some c.args.index) c.args.sent.items) c.args.index c.args.sent.items refl) ∙ shows)) was)
