-- What the rows of held-back updates say, and how one more entry changes them.
use Rattle.std.proofs.Common.{ℕ, Bool, true, false, cond, ◌==◌, ◌||◌, Option, Some, None, List, [], ◌∷◌, ◌≡◌, refl, sym, ◌∙◌, ap, subst, arith, filter, find, map, flat_map}
use Rattle.std.specs.Prelude.{if◌then◌else◌}
use Rattle.std.specs.Option.{option_or}
use Rattle.std.proofs.lemmas.Bool.Decides.{nat_tests}
use Rattle.std.proofs.lemmas.List.Folds.{find-append}
use Rattle.topology.specs.declared.names.Trigger.{Trigger}
use Rattle.topology.specs.declared.items.Pending.{Pending}
use Rattle.topology.specs.Lists.{has}
use Rattle.topology.specs.Triggers.{Ascend, union, all_of}
use Rattle.topology.specs.Net.{Net, neighbours, places, holds_back}
use Rattle.topology.proofs.Tests.{same_is, same_refl}
use Rattle.topology.proofs.Unions.{union_ascends}
use Rattle.path_vector.specs.Rules.{Rules}
use Rattle.path_vector.specs.History.{held}
use Rattle.path_vector.specs.Offers.{changed}
use Rattle.path_vector.proofs.Readiness.{ready_is_held}
use Rattle.trigger_log.specs.Entries.{Entry, reads}
use Rattle.trigger_log.specs.Pending.{empties, gathered, pending, is_some_trigger, is_pending, all_pending, pending_row, pending_to, pending_rows}
use Rattle.trigger_log.specs.Sending.{close_list}
use Rattle.trigger_log.specs.Fits.{Fits}
use Rattle.trigger_log.specs.HeldLists.{is_row, list_in, list_for}
use Rattle.trigger_log.proofs.Gathering.{gathered_ready, gathered_ascends}

-- ---- the lists ascend

all_ascends : (lists : List (List Trigger)) → Ascend (all_of lists)
all_ascends [] = tt
all_ascends (ts ∷ lists) = union_ascends ts (all_of lists) (all_ascends lists)

module _ (rules : Rules) (net : Net) (u : ℕ) where
  pub pending_ascends : (h : List Entry) (w p : ℕ) → Ascend (pending rules net u h w p)
  pending_ascends h w p = elim (holds_back net u w) as (λ b. Ascend (if b then gathered rules net u h w p else [])) [ true ↦ gathered_ascends rules net u h w p | false ↦ tt ]

  -- a close lists its triggers in ascending order
  pub close_ascends : (h : List Entry) (k : Entry) (w : ℕ) → Ascend (close_list rules net u h k w)
  unfolding all_pending
  close_ascends h k w = union_ascends k.triggers (all_pending rules net u h w) (all_ascends (map (pending rules net u h w) (places net)))

  -- ---- one more entry

  -- for a neighbour from which u holds back: a flush or the end of the session empties what is held back; where the
  -- offer changes, the entry's triggers are added; else all is as before
  pub pending_next : (k : Entry) (h : List Entry) (w p : ℕ) → holds_back net u w ≡ true
      → pending rules net u (k ∷ h) w p
      ≡ (if empties k.read.cause w then [] else if changed rules net u (k.read ∷ reads h) w p then union k.triggers (pending rules net u h w p) else pending rules net u h w p)
  unfolding gathered
  pending_next k h w p e = rw e refl

  -- ---- what the rows say

  -- a list that is not empty is found
  found_row : (h : List Entry) (w s p : ℕ) (ps : List ℕ) → list_in (find (is_row w p) (map (pending_row (pending rules net u h w) w s) (filter (is_pending rules net u h w) ps))) ≡ (if has ps p then pending rules net u h w p else [])
  found_row h w s p [] = refl
  found_row h w s p (q ∷ ps) = by (is_pending rules net u h w q) (q == p) refl refl (found_row h w s p ps)
    where
      -- a list that is empty
      none : (ts : List Trigger) → is_some_trigger ts ≡ false → ts ≡ []
      none [] e = refl
      none (t ∷ ts) e = absurd (cc e)

      empty : (b : Bool) → pending rules net u h w p ≡ [] → (if b then pending rules net u h w p else []) ≡ pending rules net u h w p
      empty true e = refl
      empty false e = sym e

      by : (some same : Bool) → is_pending rules net u h w q ≡ some → (q == p) ≡ same
          → list_in (find (is_row w p) (map (pending_row (pending rules net u h w) w s) (filter (is_pending rules net u h w) ps))) ≡ (if has ps p then pending rules net u h w p else [])
          → list_in (find (is_row w p) (map (pending_row (pending rules net u h w) w s) (cond (is_pending rules net u h w q) (q ∷ filter (is_pending rules net u h w) ps) (filter (is_pending rules net u h w) ps)))) ≡ (if q == p || has ps p then pending rules net u h w p else [])
      by true true e f later = rw (e, same_refl w, f) (ap (pending rules net u h w) (same_is q p f))
      by true false e f later = rw (e, same_refl w, f) later
      by false true e f later = rw (e, f) (later ∙ empty (has ps p) (subst (λ x. pending rules net u h w x ≡ []) (same_is q p f) (none (pending rules net u h w q) e)))
      by false false e f later = rw (e, f) later

  -- no row of another neighbour is one of w
  other_rows : (h : List Entry) (v w p : ℕ) (session : Option ℕ) → (v == w) ≡ false → find (is_row w p) (pending_to rules net u h v session) ≡ None
  other_rows h v w p None e = refl
  other_rows h v w p (Some s) e = over (filter (is_pending rules net u h v) (places net))
    where
      over : (ps : List ℕ) → find (is_row w p) (map (pending_row (pending rules net u h v) v s) ps) ≡ None
      over [] = refl
      over (q ∷ ps) = rw e (over ps)

  -- the rows of w, in the session that is held with it
  own_rows : (h : List Entry) (w p : ℕ) → Fits h → has (places net) p ≡ true → (session : Option ℕ) → held (reads h) w ≡ session → list_in (find (is_row w p) (pending_to rules net u h w session)) ≡ pending rules net u h w p
  own_rows h w p f known None none =
      (elim (holds_back net u w) as (λ b. [] ≡ (if b then gathered rules net u h w p else [])) [ true ↦ sym (none_gathered (gathered rules net u h w p) refl) | false ↦ refl ])
    where
      none_gathered : (ts : List Trigger) → gathered rules net u h w p ≡ ts → ts ≡ []
      none_gathered [] e = refl
      none_gathered (t ∷ ts) e =
          let one = gathered_ready rules net u h w p f (λ z. cc (z, e)) in
          absurd (cc (none, ready_is_held (reads h) w one.0 one.1))
  own_rows h w p f known (Some s) holds = found_row h w s p (places net) ∙ rw known refl

  -- the rows tell what is held back from a neighbour for a prefix of the network
  pub rows_tell : (h : List Entry) (w p : ℕ) → Fits h → has (neighbours net u) w ≡ true → has (places net) p ≡ true → list_for w p (pending_rows rules net u h) ≡ pending rules net u h w p
  unfolding pending_rows
  rows_tell h w p f near known = over (neighbours net u) near
    where
      first : (a b : Option Pending) → list_in a ≡ pending rules net u h w p → (list_in b ≡ pending rules net u h w p) → list_in (option_or a b) ≡ pending rules net u h w p
      first None b here later = later
      first (Some row) b here later = here

      last : (a : Option Pending) → list_in (option_or a None) ≡ list_in a
      last None = refl
      last (Some row) = refl

      over : (ws : List ℕ) → has ws w ≡ true → list_in (find (is_row w p) (flat_map (λ v. pending_to rules net u h v (held (reads h) v)) ws)) ≡ pending rules net u h w p
      over [] none = absurd (cc none)
      over (v ∷ ws) there =
          ap list_in (find-append (is_row w p) (pending_to rules net u h v (held (reads h) v)) (flat_map (λ v. pending_to rules net u h v (held (reads h) v)) ws))
          ∙ by (v == w) refl (has ws w) refl (over ws)
        where
          rest : Option Pending
          rest = find (is_row w p) (flat_map (λ v. pending_to rules net u h v (held (reads h) v)) ws)

          here : (v == w) ≡ true → list_in (find (is_row w p) (pending_to rules net u h v (held (reads h) v))) ≡ pending rules net u h w p
          here e = let same = same_is v w e in subst (λ x. list_in (find (is_row w p) (pending_to rules net u h x (held (reads h) x))) ≡ pending rules net u h w p) (sym same) (own_rows h w p f known (held (reads h) w) refl)

          gone : has ws w ≡ false → rest ≡ None
          gone off = none_of ws off
            where
              none_of : (vs : List ℕ) → has vs w ≡ false → find (is_row w p) (flat_map (λ v. pending_to rules net u h v (held (reads h) v)) vs) ≡ None
              none_of [] e = refl
              none_of (x ∷ vs) e =
                  find-append (is_row w p) (pending_to rules net u h x (held (reads h) x)) (flat_map (λ v. pending_to rules net u h v (held (reads h) v)) vs)
                  ∙ rw (other_rows h x w p (held (reads h) x) (grind (arith, nat_tests, e)), none_of vs (grind (arith, nat_tests, e))) refl

          by : (b : Bool) → (v == w) ≡ b → (c : Bool) → has ws w ≡ c → (has ws w ≡ true → list_in rest ≡ pending rules net u h w p)
              → list_in (option_or (find (is_row w p) (pending_to rules net u h v (held (reads h) v))) rest) ≡ pending rules net u h w p
          by true e true c later = first (find (is_row w p) (pending_to rules net u h v (held (reads h) v))) rest (here e) (later c)
          by true e false c later = rw (gone c) (last (find (is_row w p) (pending_to rules net u h v (held (reads h) v))) ∙ here e)
          by false e true c later = rw (other_rows h v w p (held (reads h) v) e) (later c)
          by false e false c later = absurd (cc (sym there ∙ neither (v == w) (has ws w) e c))
            where
              neither : (a b : Bool) → a ≡ false → b ≡ false → (a || b) ≡ false
              neither a b p q = rw (p, q) refl
