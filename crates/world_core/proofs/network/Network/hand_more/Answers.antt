use Rattle.std.proofs.Common.{ℕ, Bool, [], ◌∷◌, ◌++◌, refl, sym, ◌∙◌, ap, subst, map, arith, length, append_assoc}
use Rattle.std.proofs.lemmas.List.{append-nil, map-append}
use Rattle.chronicle.specs.Facts.{Chronicle, happen}
use Rattle.node_core.specs.Outputs.{output_of}
use Rattle.world_core.specs.Happening.{AreSending}
use Rattle.world_core.specs.Telling.{IsTold}
use Rattle.run_record.specs.Walks.{still_after}
use Rattle.world_core.proofs.Handing.{handed_next, happen_last, none_left, taken_one}
use Rattle.world_core.proofs.Returning.{still_last}
use Rattle.world_core.proofs.Shown.{keeps_on, sends_with}
use Rattle.world_core.proofs.network.Network.hand_more.Goals as goal

pub loop-output-init : goal.loop-output-init
loop-output-init g c = record {
  kept = record { policy = refl; topology = refl; nodes = refl; crashed = refl; triggers = refl };
  wanted = refl;
  done = [];
  whole = sym c.in_ok-outputs.ensures.taken ∙ sym c.from_vec-left.ensures.items;
  sent = λ away first past counts before was facts told shows.
      sends_with (still_after facts away) first (happen past facts) counts c.args.self.now c.args.account.now c.take_all.new.self
      (was facts told (sym (append-nil before) ∙ shows));
}

pub loop-output-smaller : goal.loop-output-smaller
loop-output-smaller g c =
    let one_less = ap length (taken_one c.loop-output.left.items c.pop_front.new.self.items c.pop_front.result c.in-Some.output c.in-Some.is c.pop_front.ensures.items) in
    omega (arith, one_less)

pub loop-output-preserved : goal.loop-output-preserved
loop-output-preserved g c =
    let so_far = c.loop-output.invariant.kept in
    let net = c.args.self.now.topology.value in
    let done = c.loop-output.invariant.done in
    let output = c.in-Some.output in
    record {
      kept = keeps_on c.args.self.now c.loop-output.self c.hand.new.self so_far c.in_ok-hand.ensures.kept;
      wanted = c.in_ok-hand.ensures.wanted ∙ c.loop-output.invariant.wanted;
      done = done ++ output ∷ [];
      whole = c.loop-output.invariant.whole ∙ (ap (λ l. done ++ l) (taken_one c.loop-output.left.items c.pop_front.new.self.items c.pop_front.result output c.in-Some.is c.pop_front.ensures.items) ∙ sym (append_assoc done (output ∷ []) c.pop_front.new.self.items));
      sent = λ away first past counts before was facts told shows.
          handed_next net past c.args.node (λ fs. AreSending (still_after fs away) first (happen past fs) counts c.loop-output.self c.loop-output.account)
          (λ fs. AreSending (still_after fs away) first (happen past fs) counts c.hand.new.self c.hand.new.account)
          facts (before ++ map output_of done) (before ++ map output_of (done ++ output ∷ [])) (output_of output) told shows
          (ap (λ l. before ++ l) (map-append output_of done (output ∷ []))
          ∙ sym (append_assoc before (map output_of done) (output_of output ∷ [])))
          (λ fs some same. c.loop-output.invariant.sent away first past counts before was fs some same)
          (λ fs f one same earlier.
          subst (λ (mid : Chronicle). AreSending (still_after (fs ++ f ∷ []) away) first mid counts c.hand.new.self c.hand.new.account) (sym (happen_last past fs f))
          (subst (λ (a : ℕ → Bool). AreSending a first (f ∷ happen past fs) counts c.hand.new.self c.hand.new.account) (sym (still_last fs f away))
          (c.in_ok-hand.ensures.sending (still_after fs away) first (happen past fs) counts f (subst (λ n. IsTold n c.args.node (happen past fs) f) (sym (ap (λ t. t.value) so_far.topology)) one) same earlier)));
    }

pub reuse_all-requires : goal.reuse_all-requires
reuse_all-requires g c =
    c.into_vec.ensures.items ∙ (sym c.in_default.ensures.items ∙ none_left c.loop-output.left.items (c.in_default.ensures.items ∙ c.in_default.ensures.rest))

pub returns-clause-sending : goal.returns-clause-sending
returns-clause-sending g c away first past counts before was facts told shows =
    let done = c.loop-output.invariant.done in
    let all = sym (c.loop-output.invariant.whole ∙ (ap (λ l. done ++ l) (none_left c.loop-output.left.items (c.in_default.ensures.items ∙ c.in_default.ensures.rest)) ∙ append-nil done)) in
    sends_with (still_after facts away) first (happen past facts) counts c.loop-output.self c.loop-output.account c.reuse_all.new.self
    (c.loop-output.invariant.sent away first past counts before was facts told (ap (λ l. before ++ map output_of l) all ∙ shows))
