-- The newest session with a neighbour is the last of those ever held, and is held until it is closed.
use Rattle.std.proofs.Common.{ℕ, ◌<◌, true, false, cond, ◌==◌, ◌&&◌, Some, None, List, [], ◌∷◌, ◌++◌, ◌≡◌, ◌⊎◌, inl, inr, ⊎_elim, refl, sym, ◌∙◌, ap, subst, arith}
use Rattle.std.specs.Prelude.{if◌then◌else◌, is_none}
use Rattle.std.specs.List.{AllByRecursion}
use Rattle.std.proofs.lemmas.Bool.Decides.{nat_tests}
use Rattle.std.proofs.lemmas.List.{append-nil}
use Rattle.topology.specs.declared.names.Trigger.{Trigger}
use Rattle.topology.specs.declared.names.Scope.{Scope}
use Rattle.path_vector.specs.declared.causes.Cause.{Cause}
use Rattle.path_vector.specs.declared.causes.Cause.TheVariants.{Originate, Withdraw, Recv, Down, Up, Ready, Prefer, Flush}
use Rattle.path_vector.specs.History.{held, last, last_by}
use Rattle.trigger_log.specs.Entries.{Entry, reads, entry, closing}
use Rattle.trigger_log.specs.Fits.{CauseFits, Fits}
use Rattle.trigger_log.specs.Sessions.{ever, opens_by}
use Rattle.trigger_log.proofs.Holding.{fits_down, fits_up, held_is_last}
use Rattle.trigger_log.proofs.Closings.{closing_above}

-- the sessions ever held end with the newest, and the others are below it
pub record EndsEver (h : List Entry) (w : ℕ) : Type 0 where
  pub older : List ℕ
  pub is : ever h w ≡ older ++ last (reads h) w ∷ []
  pub below : AllByRecursion (λ s. s < last (reads h) w) older

below_push : (xs : List ℕ) (a b : ℕ) → AllByRecursion (λ s. s < a) xs → a < b → AllByRecursion (λ s. s < b) (xs ++ a ∷ [])
below_push [] a b all more = (more, tt)
below_push (x ∷ xs) a b all more = (let first = all.0 in omega arith, below_push xs a b all.1 more)

-- an entry opens a session above the newest, or leaves the newest
abbrev Moves : List Entry → Cause → ℕ → Type 0
Moves h cause w =
    ((opens_by cause w ≡ []) × (last_by cause w (last (reads h) w) ≡ last (reads h) w))
    ⊎ ((s : ℕ) × (opens_by cause w ≡ s ∷ []) × (last_by cause w (last (reads h) w) ≡ s) × (last (reads h) w < s))

moves : (h : List Entry) (scope : Scope) (cause : Cause) (w : ℕ) → CauseFits h scope cause → Moves h cause w
moves h scope Originate w f = inl (refl, refl)
moves h scope Withdraw w f = inl (refl, refl)
moves h scope (Recv v t seq path) w f = inl (refl, refl)
moves h scope (Ready v t) w f = inl (refl, refl)
moves h scope (Prefer v x) w f = inl (refl, refl)
moves h scope (Flush v) w f = inl (refl, refl)
moves h scope (Down v t) w f =
    let same = held_is_last (reads h) v t (fits_down h scope v t f) in
    (elim (v == w) as (λ b. (v == w) ≡ b → ((◌≡◌ {A = List ℕ} [] []) × (cond b t (last (reads h) w) ≡ last (reads h) w)) ⊎ ((s : ℕ) × (◌≡◌ {A = List ℕ} [] (s ∷ [])) × (cond b t (last (reads h) w) ≡ s) × (last (reads h) w < s))) [
      | true ↦ λ e. let is : v ≡ w = grind (arith, nat_tests) in inl (refl, subst (λ x. t ≡ last (reads h) x) is same)
      | false ↦ λ e. inl (refl, refl)
    ]) refl
moves h scope (Up v t) w f =
    (elim (v == w) as (λ b. (v == w) ≡ b → ((cond b (t ∷ []) [] ≡ []) × (cond b t (last (reads h) w) ≡ last (reads h) w))
    ⊎ ((s : ℕ) × (cond b (t ∷ []) [] ≡ s ∷ []) × (cond b t (last (reads h) w) ≡ s) × (last (reads h) w < s))) [
      | true ↦ λ e. let is : v ≡ w = grind (arith, nat_tests) in inr (t, refl, refl, subst (λ x. last (reads h) x < t) is (fits_up h scope v t f).1)
      | false ↦ λ e. inl (refl, refl)
    ]) refl

pub ends_ever : (h : List Entry) (w : ℕ) → Fits h → EndsEver h w
ends_ever [] w f = record { older = []; is = refl; below = tt }
ends_ever (k ∷ h) w f =
    let was = ends_ever h w f.1 in
    ⊎_elim
    (λ m. record {
      older = was.older;
      is = ap (λ l. ever h w ++ l) m.0 ∙ (append-nil (ever h w) ∙ (was.is ∙ ap (λ n. was.older ++ n ∷ []) (sym m.1)));
      below = subst (λ n. AllByRecursion (λ s. s < n) was.older) (sym m.1) was.below;
    })
    (λ m. record {
      older = ever h w;
      is = ap (λ l. ever h w ++ l) m.1 ∙ ap (λ n. ever h w ++ n ∷ []) (sym m.2);
      below = subst (λ n. AllByRecursion (λ s. s < n) (ever h w)) (sym m.2) (subst (λ l. AllByRecursion (λ s. s < m.0) l) (sym was.is) (below_push was.older (last (reads h) w) m.0 was.below m.3));
    })
    (moves h k.read.scope k.read.cause w f.0)

-- ---- the held session

abbrev HeldUntil : List Entry → ℕ → Type 0
HeldUntil h w = held (reads h) w ≡ (if is_none (closing h w (last (reads h) w)) then Some (last (reads h) w) else None)

same_number : (n : ℕ) → (n == n) ≡ true
same_number n = grind (arith, nat_tests)

held_step : (triggers : List Trigger) (scope : Scope) (cause : Cause) (h : List Entry) (w : ℕ) → Fits (entry triggers scope cause ∷ h) → HeldUntil h w → HeldUntil (entry triggers scope cause ∷ h) w
held_step triggers scope Originate h w f was = was
held_step triggers scope Withdraw h w f was = was
held_step triggers scope (Recv v t seq path) h w f was = was
held_step triggers scope (Ready v t) h w f was = was
held_step triggers scope (Prefer v x) h w f was = was
held_step triggers scope (Flush v) h w f was = was
held_step triggers scope (Up v t) h w f was =
    (elim (v == w) as (λ b. (v == w) ≡ b → cond b (Some t) (held (reads h) w)
    ≡ (if is_none (closing h w (cond b t (last (reads h) w))) then Some (cond b t (last (reads h) w)) else None)) [
      | true ↦ λ e.
          let is : v ≡ w = grind (arith, nat_tests) in
          let none = closing_above h w t f.1 (subst (λ x. last (reads h) x < t) is (fits_up h scope v t f.0).1) in
          rw none refl
      | false ↦ λ e. was
    ]) refl
held_step triggers scope (Down v t) h w f was =
    elim (v == w) as (λ b. cond b None (held (reads h) w)
    ≡ (if is_none (if b && (t == cond b t (last (reads h) w)) then Some triggers else closing h w (cond b t (last (reads h) w))) then Some (cond b t (last (reads h) w)) else None)) [
      | true ↦ rw (same_number t) refl
      | false ↦ was
    ]

-- the newest session is held where it is not closed
pub held_until : (h : List Entry) (w : ℕ) → Fits h → HeldUntil h w
held_until [] w f = refl
held_until (k ∷ h) w f = held_step k.triggers k.read.scope k.read.cause h w f (held_until h w f.1)
