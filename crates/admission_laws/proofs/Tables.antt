-- The paths of a table fit.
use Rattle.std.proofs.Common.{ℕ, Bool, true, false, ◌&&◌, ◌==◌, Option, Some, None, List, [], ◌∷◌, map, length, ◌≡◌, refl, sym, subst, if◌then◌else◌, option_and_then, IfSome}
use Rattle.std.specs.List.{list_all, range_with_len}
use Rattle.std.proofs.lemmas.List.FromFn.{length-map-range_with_len}
use Rattle.topology.specs.Lists.{has}
use Rattle.topology.specs.Paths.{differ, IsPath}
use Rattle.topology.specs.declared.names.Trigger.{Trigger}
use Rattle.topology.specs.Triggers.{lists}
use Rattle.topology.specs.Net.{Net, places}
use Rattle.topology.proofs.Tests.{and_both, same_refl}
use Rattle.path_vector.specs.Rules.{Rules}
use Rattle.path_vector.specs.Selection.{best, path_of}
use Rattle.path_vector.specs.Simple.{BringsAll, BringsPaths, BringsPathsIn, AreIn, IsPathFrom}
use Rattle.path_vector.proofs.Simple.{best_path, best_in}
use Rattle.path_vector.specs.History.{concerns}
use Rattle.trigger_log.specs.Dropping.{Trimmed, may_go}
use Rattle.trigger_log.specs.Entries.{Entry, reads}
use Rattle.incomplete_closure.specs.declared.values.Value.{Value}
use Rattle.stable_table.specs.Tables.{all_responded, answered}
use Rattle.stable_table.specs.Trimming.{complete_after, trimmed_complete, trimmed_path, trimmed_table}
use Rattle.node_core.specs.Fits.{begins_with, path_fits}
use Rattle.message_fitting.specs.Names.{are_nodes}
use Rattle.admission_laws.specs.Handing.{table_fits}

-- ---- paths

-- a list of nodes in the network is a list of nodes
nodes_in : (net : Net) (ns : List ℕ) → AreIn net ns → are_nodes net ns ≡ true
nodes_in net [] inside = refl
nodes_in net (n ∷ ns) inside = and_both (has net.nodes n) (are_nodes net ns) inside.0 (nodes_in net ns inside.1)

-- a path that begins with u, repeats no node and stays in the network fits
pub path_of_fits : (net : Net) (u : ℕ) (path : Option (List ℕ)) → IfSome path (IsPathFrom u) → IfSome path (AreIn net) → path_fits net u path ≡ true
path_of_fits net u None from inside = refl
path_of_fits net u (Some path) from inside =
    let begins : begins_with u path ≡ true = subst (λ ns. begins_with u ns ≡ true) (sym from.own.1) (same_refl u) in
    and_both (begins_with u path) (differ path && are_nodes net path) begins
    (and_both (differ path) (are_nodes net path) from.simple.different (nodes_in net path inside))

-- if the updates of a log bring only paths of a kind, those of its complete entries do
some_bring : (IsKind : List ℕ → Type 0) (n : ℕ) (incomplete : Trigger → Bool) (p : ℕ) (h : List Entry) → BringsAll IsKind (reads h) → BringsAll IsKind (reads (complete_after n incomplete p h))
some_bring IsKind n incomplete p [] all = tt
some_bring IsKind n incomplete p (k ∷ h) all =
    elim (concerns p k.read.scope && may_go incomplete n h k) as (λ t. BringsAll IsKind (reads (if t then k ∷ complete_after n incomplete p h else complete_after n incomplete p h))) [
      | true ↦ (all.0, some_bring IsKind n incomplete p h all.1)
      | false ↦ some_bring IsKind n incomplete p h all.1
    ]

-- the path that is answered fits, if the best path does
answered_fits : (net : Net) (u : ℕ) (value : Value) (path : Option (List ℕ)) → path_fits net u path ≡ true → path_fits net u (option_and_then (answered value u) path) ≡ true
answered_fits net u value None fit = refl
answered_fits net u value (Some path) fit =
    elim (has value.responding u && all_responded value path) as (λ t. path_fits net u (if t then Some path else None) ≡ true) [ true ↦ fit | false ↦ refl ]

-- ---- tables

module _ (rules : Rules) (net : Net) (u : ℕ) (here : has net.nodes u ≡ true) (value : Value) (cut : Trimmed) (simple : BringsPaths (reads cut.entries)) (inside : BringsPathsIn net (reads cut.entries)) where
  -- the path of the table for a prefix fits
  one_path : (p : ℕ) → path_fits net u (trimmed_path rules net u value cut p) ≡ true
  unfolding trimmed_path
  one_path p =
      let h = reads (trimmed_complete value p cut) in
      answered_fits net u value (path_of u (best rules net u h p))
      (path_of_fits net u (path_of u (best rules net u h p))
      (best_path rules net u h p (some_bring IsPath cut.dropped (lists value.incomplete) p cut.entries simple))
      (best_in rules net u h p here (some_bring (AreIn net) cut.dropped (lists value.incomplete) p cut.entries inside)))

  -- the paths of the table for all prefixes fit
  all_paths : (ps : List ℕ) → list_all (path_fits net u) (map (trimmed_path rules net u value cut) ps) ≡ true
  all_paths [] = refl
  all_paths (p ∷ ps) =
      and_both (path_fits net u (trimmed_path rules net u value cut p)) (list_all (path_fits net u) (map (trimmed_path rules net u value cut) ps)) (one_path p) (all_paths ps)

  -- the table of u over this cut fits
  pub table_of_fits : table_fits net u (trimmed_table rules net u value cut) ≡ true
  unfolding trimmed_table places
  table_of_fits =
      let ps = range_with_len 0 (length net.prefixes) in
      let paths = map (trimmed_path rules net u value cut) ps in
      and_both (length paths == length net.prefixes) (list_all (path_fits net u) paths)
      (subst (λ n. (n == length net.prefixes) ≡ true) (sym (length-map-range_with_len (trimmed_path rules net u value cut) 0 (length net.prefixes))) (same_refl (length net.prefixes)))
      (all_paths ps)
