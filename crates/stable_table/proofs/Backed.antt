-- The path of a row, by the first candidate and the backups.
use Rattle.std.proofs.Common.{ℕ, true, false, Option, Some, None, List, [], ◌∷◌, ◌≡◌, refl, sym, ◌∙◌, ap, subst, map, filter, option_and_then}
use Rattle.std.specs.Prelude.{slice_get}
use Rattle.topology.specs.Lists.{has}
use Rattle.topology.specs.Net.{Net}
use Rattle.path_vector.specs.Rules.{Rules}
use Rattle.path_vector.specs.History.{History, owns}
use Rattle.path_vector.specs.Selection.{Choice, best, best_by, path_of}
use Rattle.path_vector.specs.Ranking.{by_rank}
use Rattle.path_vector.proofs.Answering.{own_best}
use Rattle.path_vector.proofs.First.{best_by_rank}
use Rattle.incomplete_closure.specs.declared.values.Value.{Value}
use Rattle.stable_table.specs.Tables.{all_responded, answered}

abbrev paths : List Choice → List (List ℕ)
paths cs = map (λ (c : Choice). c.path) cs

-- the path of the route by the first candidate, if all its nodes responded
abbrev pub by_first : Value → ℕ → List Choice → Option (List ℕ)
by_first value u cs = option_and_then (answered value u) (path_of u (best_by false (slice_get cs 0)))

pub none_first : (value : Value) (u : ℕ) (cs : List Choice) → None ≡ slice_get cs 0 → None ≡ by_first value u cs
none_first value u cs e = rw (sym e) refl

pub silent_first : (value : Value) (u : ℕ) (cs : List Choice) (c : Choice) → Some c ≡ slice_get cs 0 → has value.responding u ≡ true → all_responded value c.path ≡ false → None ≡ by_first value u cs
silent_first value u cs c e own silent = rw (sym e, own, silent) refl

-- if the first candidate responded, its path is the first backup
pub backed_first : (value : Value) (cs : List Choice) (c : Choice) → Some c ≡ slice_get cs 0 → all_responded value c.path ≡ true
    → slice_get (filter (all_responded value) (paths cs)) 0 ≡ Some c.path
backed_first value [] c e on = absurd (cc e)
backed_first value (d ∷ cs) c e on =
    let same : c ≡ d = cc e in
    let here : all_responded value d.path ≡ true = subst (λ (z : Choice). all_responded value z.path ≡ true) same on in
    rw here (ap (λ (z : Choice). Some z.path) (sym same))

pub answered_first : (value : Value) (u : ℕ) (cs : List Choice) (c : Choice) → Some c ≡ slice_get cs 0 → has value.responding u ≡ true → all_responded value c.path ≡ true
    → slice_get (filter (all_responded value) (paths cs)) 0 ≡ by_first value u cs
answered_first value u cs c e own on = backed_first value cs c e on ∙ (rw (sym e, own, on) refl)

-- the path of the own node, which responded
pub own_path : (rules : Rules) (net : Net) (u : ℕ) (h : History) (p : ℕ) (value : Value) → owns h p ≡ true → has value.responding u ≡ true
    → option_and_then (answered value u) (path_of u (best rules net u h p)) ≡ Some (u ∷ [])
own_path rules net u h p value is own = rw (own_best rules net u h p is, own) refl

-- where the node does not own p, its best route goes by the first candidate by rank
pub goes_by_first : (rules : Rules) (net : Net) (u : ℕ) (h : History) (p : ℕ) (value : Value) (cs : List Choice) → owns h p ≡ false → cs ≡ by_rank rules net u h p
    → by_first value u cs ≡ option_and_then (answered value u) (path_of u (best rules net u h p))
goes_by_first rules net u h p value cs not_own is = rw (best_by_rank rules net u h p not_own, is) refl

-- a node that did not respond has no path
pub silent_path : (value : Value) (u : ℕ) (path : Option (List ℕ)) → has value.responding u ≡ false → None ≡ option_and_then (answered value u) path
silent_path value u None silent = refl
silent_path value u (Some path) silent = rw silent refl
