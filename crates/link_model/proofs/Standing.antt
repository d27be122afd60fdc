-- Links that stand for acts hold what is read from them.
use Rattle.std.proofs.Common.{ℕ, Bool, Result, Ok, Err, OnErr, true, false, ◌==◌, ◌&&◌, ◌||◌, List, [], ◌∷◌, ◌++◌, ◌≡◌, refl, sym, ◌∙◌, ap, arith, true≢false, if◌then◌else◌}
use Rattle.std.proofs.lemmas.Bool.Decides.{nat_tests}
use Rattle.topology.specs.declared.items.Item.{Item}
use Rattle.topology.specs.declared.links.LinkState.{LinkState}
use Rattle.topology.specs.declared.links.LinkState.TheVariants.{Up, Down}
use Rattle.topology.specs.LinkStates.{are_ends, failed, restored, carries, is_up}
use Rattle.topology.specs.Net.{Net, linked}
use Rattle.link_model.specs.declared.links.Links.{Links}
use Rattle.link_model.specs.Acts.{LinkActs, Push, Take, Fail, Restore}
use Rattle.link_model.specs.Readings.{state, channel_after, behind_front}
use Rattle.link_model.specs.Ways.{OneWay, emptied, after_push}
use Rattle.link_model.specs.Keeping.{Ways, Keeps, replaced}
use Rattle.link_model.specs.Standing.{StandsFor}
use Rattle.link_model.proofs.Acting.{same_link, empty_down}

abbrev pub one_way : LinkState → List Item → OneWay
one_way link items = record { state = link; items = items }

pub same_way : (kept : OneWay) (link : LinkState) (items : List Item) → kept.state ≡ link → kept.items ≡ items → kept ≡ one_way link items
same_way kept link items e f = ap (λ l. one_way l kept.items) e ∙ ap (one_way link) f

-- each way after the acts
abbrev pub ways_after : LinkActs → Ways
ways_after acts u w = record { state = state u w acts; items = channel_after u w acts }

pub keeps_of : (net : Net) (links : Links) (acts : LinkActs) → StandsFor net links acts → Keeps net links (ways_after acts)
keeps_of net links acts stands = record {
  valid = stands.valid;
  numbered = stands.numbered;
  each = λ way e kept at here.
      let is = stands.each way e kept at here in
      same_way kept (state e.from e.to acts) (channel_after e.from e.to acts) is.state is.items;
}

pub stands_of : (net : Net) (links : Links) (ways : Ways) (acts : LinkActs) → Keeps net links ways → ((u w : ℕ) → ways u w ≡ ways_after acts u w) → StandsFor net links acts
stands_of net links ways acts keeps same = record {
  valid = keeps.valid;
  numbered = keeps.numbered;
  each = λ way e kept at here.
      let is = keeps.each way e kept at here ∙ same e.from e.to in
      record { state = ap (λ (k : OneWay). k.state) is; items = ap (λ (k : OneWay). k.items) is };
}

-- ---- the links after each call

-- nothing is promised for nodes without a link
pub not_linked : (net : Net) (links : Links) (acts : LinkActs) (a b : ℕ) (C : Type 0) → StandsFor net links acts → linked net a b ≡ true → ((net : Net) (ways : Ways) → Keeps net links ways → linked net a b ≡ false) → C
not_linked net links acts a b C stands link none = absurd (true≢false (sym link ∙ none net (ways_after acts) (keeps_of net links acts stands)))

same_is : (a b : ℕ) → (a == b) ≡ true → a ≡ b
same_is a b e = grind (arith, nat_tests)

both_same : (a b c d : ℕ) → (a == c && b == d) ≡ true → (a ≡ c) × (b ≡ d)
both_same a b c d e = (grind (arith, nat_tests), grind (arith, nat_tests))

-- a push
more_at : (carried : Bool) (link : LinkState) (items : List Item) (item : Item)
    → (if carried then one_way link (items ++ item ∷ []) else one_way link items) ≡ one_way link (if carried then items ++ item ∷ [] else items)
more_at true link items item = refl
more_at false link items item = refl

pub pushed : (net : Net) (links : Links) (acts : LinkActs) (from to session : ℕ) (item : Item)
    → Keeps net links (replaced from to (after_push session item (ways_after acts from to)) (ways_after acts)) → StandsFor net links (Push from to session item ∷ acts)
pushed net links acts from to session item keeps = stands_of net links _ (Push from to session item ∷ acts) keeps (λ u w.
    (elim (from == u && to == w) as (λ t. (from == u && to == w) ≡ t
    → (if t then after_push session item (ways_after acts from to) else ways_after acts u w)
    ≡ one_way (state u w acts) (if t && carries (state u w acts) session then channel_after u w acts ++ item ∷ [] else channel_after u w acts)) [
      | true ↦ λ e. let is = both_same from to u w e in rw (is.0, is.1) (more_at (carries (state u w acts) session) (state u w acts) (channel_after u w acts) item)
      | false ↦ λ e. refl
    ]) refl)

-- a take
pub taken : (net : Net) (links : Links) (acts : LinkActs) (from to : ℕ)
    → Keeps net links (replaced from to (one_way (state from to acts) (behind_front (channel_after from to acts))) (ways_after acts)) → StandsFor net links (Take from to ∷ acts)
taken net links acts from to keeps = stands_of net links _ (Take from to ∷ acts) keeps (λ u w.
    (elim (from == u && to == w) as (λ t. (from == u && to == w) ≡ t
    → (if t then one_way (state from to acts) (behind_front (channel_after from to acts)) else ways_after acts u w)
    ≡ one_way (state u w acts) (if t then behind_front (channel_after u w acts) else channel_after u w acts)) [
      | true ↦ λ e. let is = both_same from to u w e in rw (is.0, is.1) refl
      | false ↦ λ e. refl
    ]) refl)

-- a failure and a restore: both directions are emptied, with the same state
twice_at : (there back : Bool) (d after link : LinkState) (items kept : List Item) → (there || back ≡ true → after ≡ d) → (there || back ≡ true → kept ≡ [])
    → (if back then emptied d else if there then emptied d else one_way link items) ≡ one_way (if there || back then after else link) (if there || back then kept else items)
twice_at true true d after link items kept e f = rw (e refl, f refl) refl
twice_at true false d after link items kept e f = rw (e refl, f refl) refl
twice_at false true d after link items kept e f = rw (e refl, f refl) refl
twice_at false false d after link items kept e f = refl

either_way : (t : Bool) (items : List Item) → (if t then items else items) ≡ items
either_way true items = refl
either_way false items = refl

ends_at : (u w a b : ℕ) → are_ends u w a b ≡ ((a == u && b == w) || (b == u && a == w))
ends_at u w a b = grind (arith, nat_tests)

-- the link of the two ends is that of a and b
at_ends : (u w a b : ℕ) (acts : LinkActs) → are_ends u w a b ≡ true → state u w acts ≡ state a b acts
at_ends u w a b acts e =
    (elim (a == u && b == w) as (λ t. (a == u && b == w) ≡ t → state u w acts ≡ state a b acts) [
      | true ↦ λ h. let is = both_same a b u w h in rw (is.0, is.1) refl
      | false ↦ λ h.
          let turned : (a == w && b == u) ≡ true = rw h at e in
          let is = both_same a b w u turned in
          rw (is.0, is.1) (same_link u w acts)
    ]) refl

module _ (net : Net) (links : Links) (acts : LinkActs) (a b : ℕ) (d : LinkState) (keeps : Keeps net links (replaced b a (emptied d) (replaced a b (emptied d) (ways_after acts)))) where
  -- the link was up
  pub failed_both : failed (state a b acts) ≡ d → StandsFor net links (Fail a b ∷ acts)
  failed_both same = stands_of net links _ (Fail a b ∷ acts) keeps (λ u w.
      let ends = ends_at u w a b in
      rw ends (twice_at (a == u && b == w) (b == u && a == w) d (failed (state u w acts)) (state u w acts) (channel_after u w acts) []
      (λ e. ap failed (at_ends u w a b acts (ends ∙ e)) ∙ same) (λ e. refl)))

  -- the link was down
  pub restored_both : restored (state a b acts) ≡ d → is_up (state a b acts) ≡ false → StandsFor net links (Restore a b ∷ acts)
  restored_both same down = stands_of net links _ (Restore a b ∷ acts) keeps (λ u w.
      let ends = ends_at u w a b in
      rw ends (twice_at (a == u && b == w) (b == u && a == w) d (restored (state u w acts)) (state u w acts) (channel_after u w acts) (channel_after u w acts)
      (λ e. ap restored (at_ends u w a b acts (ends ∙ e)) ∙ same) (λ e. empty_down u w acts (ap is_up (at_ends u w a b acts (ends ∙ e)) ∙ down))
      ∙ ap (one_way _) (either_way (a == u && b == w || b == u && a == w) (channel_after u w acts))))

-- ---- calls that change nothing

once_at : (t : Bool) (link after : LinkState) (items kept : List Item) → (t ≡ true → link ≡ after) → (t ≡ true → items ≡ kept)
    → one_way link items ≡ one_way (if t then after else link) (if t then kept else items)
once_at true link after items kept e f = ap (λ l. one_way l items) (e refl) ∙ ap (one_way after) (f refl)
once_at false link after items kept e f = refl

still_failed : (link : LinkState) → is_up link ≡ false → link ≡ failed link
still_failed (Up s) e = absurd (true≢false e)
still_failed (Down s) e = refl

still_restored : (link : LinkState) → is_up link ≡ true → link ≡ restored link
still_restored (Up s) e = refl
still_restored (Down s) e = absurd (true≢false (sym e))

-- the link was down already
pub not_failed : (net : Net) (links : Links) (acts : LinkActs) (a b : ℕ) → StandsFor net links acts → is_up (state a b acts) ≡ false → StandsFor net links (Fail a b ∷ acts)
not_failed net links acts a b stands down = stands_of net links (ways_after acts) (Fail a b ∷ acts) (keeps_of net links acts stands) (λ u w.
    once_at (are_ends u w a b) (state u w acts) (failed (state u w acts)) (channel_after u w acts) []
    (λ e. still_failed (state u w acts) (ap is_up (at_ends u w a b acts e) ∙ down)) (λ e. empty_down u w acts (ap is_up (at_ends u w a b acts e) ∙ down)))

-- the link was up already
pub not_restored : (net : Net) (links : Links) (acts : LinkActs) (a b : ℕ) → StandsFor net links acts → is_up (state a b acts) ≡ true → StandsFor net links (Restore a b ∷ acts)
not_restored net links acts a b stands up = stands_of net links (ways_after acts) (Restore a b ∷ acts) (keeps_of net links acts stands) (λ u w.
    once_at (are_ends u w a b) (state u w acts) (restored (state u w acts)) (channel_after u w acts) (channel_after u w acts)
    (λ e. still_restored (state u w acts) (ap is_up (at_ends u w a b acts e) ∙ up)) (λ e. refl)
    ∙ ap (one_way _) (either_way (are_ends u w a b) (channel_after u w acts)))

pub on_err : {T E : Type 0} (r : Result T E) (P : Type 0) → P → OnErr r P
on_err (Ok x) P p = tt
on_err (Err e) P p = p
