use Rattle.std.proofs.Common.{ℕ, ◌≡◌, ◌∙◌, ◌∷◌, [], true, refl, sym, ap, arith, List, length, ◌==◌}
use Rattle.topology.proofs.Tests.{same_is}
use Rattle.trigger_log.proofs.Collected.{holds_none, part_left}
use Rattle.trigger_log.proofs.held_changes.hold_back.Goals as goal

empty_is : (xs : List ℕ) → (length xs == 0) ≡ true → xs ≡ []
empty_is [] e = refl
empty_is (x ∷ xs) e = absurd (let same = same_is (length (x ∷ xs)) 0 e in omega arith)

pub returns-then-is_free : goal.returns-then-is_free
returns-then-is_free g c = record {
  kept = λ policy net u h k enters lists rows was. holds_none (g.P.Policy.rules policy) net u k h c.args.held.now (empty_is c.args.held.now.from.items (sym c.is_free.ensures ∙ c.if-is_free.true)) was;
}

pub returns : goal.returns
returns g c = record {
  kept = λ policy net u h k enters lists rows was.
      let rules = g.P.Policy.rules policy in
      let old = c.args.held.now in
      let new = c.let_go.new.held in
      let from = ap (λ v. v.items) c.let_go.ensures.from in
      c.in_ok-gather_all.ensures.kept policy net u h k enters lists rows
      (part_left rules net u h k enters.fitting old new c.args.turn.now.cause.now enters.cause from c.let_go.ensures.none c.let_go.ensures.some was);
}
