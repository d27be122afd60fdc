-- Tables by values without incomplete triggers: they do not depend on how many entries were dropped.
use Rattle.std.proofs.Common.{ℕ, suc, ◌==◌, arith, Bool, true, false, ◌&&◌, ◌||◌, not, nat_lt, Option, List, [], ◌∷◌, length, map, filter, option_and_then, ◌≡◌, refl, sym, ◌∙◌, ap, ap₂}
use Rattle.std.specs.Prelude.{if◌then◌else◌}
use Rattle.std.specs.List.{list_any}
use Rattle.std.proofs.lemmas.Bool.Decides.{nat_tests}
use Rattle.topology.specs.declared.names.Trigger.{Trigger}
use Rattle.topology.specs.Lists.{has}
use Rattle.topology.specs.Triggers.{lists}
use Rattle.topology.specs.Net.{Net, places}
use Rattle.path_vector.specs.Rules.{Rules}
use Rattle.path_vector.specs.History.{concerns}
use Rattle.path_vector.specs.Selection.{Choice, best, path_of}
use Rattle.path_vector.specs.Ranking.{by_rank}
use Rattle.trigger_log.specs.Dropping.{trimmed, may_go}
use Rattle.trigger_log.specs.Entries.{Entry, reads}
use Rattle.incomplete_closure.specs.declared.values.Value.{Value}
use Rattle.stable_table.specs.Tables.{all_responded, answered, View}
use Rattle.stable_table.specs.Trimming.{complete_after, trimmed_path, trimmed_table, trimmed_backups, trimmed_table_of}

-- a list that tests as empty
pub is_none : (ts : List Trigger) (b : Bool) → b ≡ (length ts == 0) → b ≡ true → ts ≡ []
is_none [] b is on = refl
is_none (t ∷ ts) b is on = let test : (suc (length ts) == 0) ≡ false = grind (arith, nat_tests) in absurd (cc (sym on ∙ (is ∙ test)))

-- values without incomplete triggers are equal if the same nodes responded
pub same_value : (a b : Value) → a.responding ≡ b.responding → a.incomplete ≡ [] → b.incomplete ≡ [] → a ≡ b
same_value a b responding here there = ap₂ (λ (r : List ℕ) (i : List Trigger). record { responding = r; incomplete = i }) responding (here ∙ sym there)

-- no trigger is listed where there is none
none_listed : (ts : List Trigger) → list_any (lists []) ts ≡ false
none_listed [] = refl
none_listed (t ∷ ts) = none_listed ts

-- so each entry may be dropped
all_go : (n : ℕ) (h : List Entry) (k : Entry) → may_go (lists []) n h k ≡ true
all_go n h k = ap (λ b. nat_lt (length h) n || not b) (none_listed k.triggers) ∙ or_true (nat_lt (length h) n)
  where
    or_true : (b : Bool) → (b || true) ≡ true
    or_true true = refl
    or_true false = refl

-- all entries that concern p are complete
all_complete : (n p : ℕ) (h : List Entry) → complete_after n (lists []) p h ≡ filter (λ (k : Entry). concerns p k.read.scope) h
all_complete n p [] = refl
all_complete n p (k ∷ h) =
    ap₂ (λ b xs. if concerns p k.read.scope && b then k ∷ xs else xs) (all_go n h k) (all_complete n p h) ∙ by (concerns p k.read.scope)
  where
    rest : List Entry
    rest = filter (λ (j : Entry). concerns p j.read.scope) h

    by : (b : Bool) → (if b && true then k ∷ rest else rest) ≡ (if b then k ∷ rest else rest)
    by true = refl
    by false = refl

-- whatever was dropped
pub same_complete : (incomplete : List Trigger) (n m p : ℕ) (h : List Entry) → incomplete ≡ [] → complete_after n (lists incomplete) p h ≡ complete_after m (lists incomplete) p h
same_complete incomplete n m p h none = rw none (all_complete n p h ∙ sym (all_complete m p h))

map_same : {A : Type 0} {f g : ℕ → A} → ((p : ℕ) → f p ≡ g p) → (ps : List ℕ) → map f ps ≡ map g ps
map_same same [] = refl
map_same same (p ∷ ps) = ap₂ (λ a l. a ∷ l) (same p) (map_same same ps)

module _ (rules : Rules) (net : Net) (u : ℕ) (value : Value) (n m : ℕ) (h : List Entry) (none : value.incomplete ≡ []) where
  same_path : (p : ℕ) → trimmed_path rules net u value (trimmed n h) p ≡ trimmed_path rules net u value (trimmed m h) p
  unfolding trimmed_path
  same_path p = ap (λ (ks : List Entry). option_and_then (answered value u) (path_of u (best rules net u (reads ks) p))) (same_complete value.incomplete n m p h none)

  same_backups : (p : ℕ) → trimmed_backups rules net u value (trimmed n h) p ≡ trimmed_backups rules net u value (trimmed m h) p
  unfolding trimmed_backups
  same_backups p =
      ap (λ (ks : List Entry). if has value.responding u then filter (all_responded value) (map (λ (c : Choice). c.path) (by_rank rules net u (reads ks) p)) else [])
      (same_complete value.incomplete n m p h none)

  -- the paths are the same, and so are the backups
  pub same_paths : trimmed_table rules net u value (trimmed n h) ≡ trimmed_table rules net u value (trimmed m h)
  unfolding trimmed_table
  same_paths = map_same same_path (places net)

  pub same_all_backups : map (trimmed_backups rules net u value (trimmed n h)) (places net) ≡ map (trimmed_backups rules net u value (trimmed m h)) (places net)
  same_all_backups = map_same same_backups (places net)

  -- the table of one epoch is that of any other by the same value and entries, except for the epoch
  pub is_again : (e : ℕ) (t : View) → t.value ≡ value → t.paths ≡ trimmed_table rules net u value (trimmed n h) → t.backups ≡ map (trimmed_backups rules net u value (trimmed n h)) (places net)
      → record t { epoch = e } ≡ trimmed_table_of rules net u e value (trimmed m h)
  is_again e t same paths backups =
      ap (λ (v : Value). record { epoch = e; value = v; paths = t.paths; backups = t.backups }) same
      ∙ ap₂ (λ (ps : List (Option (List ℕ))) (bs : List (List (List ℕ))). record { epoch = e; value = value; paths = ps; backups = bs }) (paths ∙ same_paths) (backups ∙ same_all_backups)
