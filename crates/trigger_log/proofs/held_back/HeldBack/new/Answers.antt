use Rattle.std.proofs.Common.{◌≡◌, Vec, Global, ℕ, ◌+◌, ◌<◌, Bool, true, false, cond, List, [], ◌∷◌, ◌++◌, length, get_or, take, filter, sym, ap, ◌∙◌}
use Rattle.std.proofs.lemmas.List.{append-nil}
use Rattle.std.proofs.lemmas.List.Elements.{filter_more}
use Rattle.topology.specs.declared.names.NodeId.{NodeId}
use Rattle.topology.specs.Net.{holds_back}
use Rattle.trigger_log.proofs.held_back.HeldBack.new.Goals.{then-holds+in_ok-push, else-holds}
use Rattle.trigger_log.proofs.held_back.HeldBack.new.Goals as goal

-- one more element: if it passes, it comes last
one_more : {X : Type 0} (p : X → Bool) (xs : List X) (i : ℕ) (x : X) (b : Bool) → i < length xs → x ≡ get_or xs i x → p x ≡ b → filter p (take i xs) ++ cond b (x ∷ []) [] ≡ filter p (take (i + 1) xs)
one_more p xs i x b inside is test =
    let before = filter p (take i xs) in
    sym (filter_more p xs i x inside ∙ ap (λ z. before ++ cond (p z) (z ∷ []) []) (sym is) ∙ ap (λ z. before ++ cond z (x ∷ []) []) test)

pub loop-nbr-preserved : goal.loop-nbr-preserved
loop-nbr-preserved c =
    let near = c.neighbours-near.result.now in
    let nbr = c.nbr-item.result in
    let p = holds_back c.args.topology.now c.args.node in
    let more = λ (b : Bool). one_more p near c.loop-nbr.nbr-index nbr b c.loop-nbr-test.true c.nbr-item.is in
    elim c.if-holds.branch [
      | then-holds+in_ok-push w ↦ ap (λ (v : Vec NodeId Global). v.items) w.from-is ∙ (w.in_ok-push.ensures.items ∙ ap (λ z. z ++ nbr ∷ []) c.loop-nbr.invariant) ∙ more true (sym c.holds.ensures ∙ w.if-holds.true)
      | else-holds w ↦ ap (λ (v : Vec NodeId Global). v.items) w.from-is ∙ c.loop-nbr.invariant ∙ sym (append-nil _) ∙ more false (sym c.holds.ensures ∙ w.if-holds.false)
    ]
