-- The newest table serves for an epoch whose cut is as long, by an equal value by which nothing is incomplete.
use Rattle.std.proofs.Common.{ℕ, nat_lt, true, false, Option, Some, None, List, [], ◌∷◌, ◌++◌, map, length, length-append, ◌≡◌, refl, sym, ◌∙◌, ap, subst, arith, option_map}
use Rattle.std.specs.Prelude.{if◌then◌else◌}
use Rattle.std.specs.List.{AllByRecursion}
use Rattle.topology.specs.Net.{Net, places}
use Rattle.path_vector.specs.Rules.{Rules}
use Rattle.trigger_log.specs.Dropping.{trimmed}
use Rattle.trigger_log.specs.Entries.{Entry}
use Rattle.incomplete_closure.specs.declared.values.Value.{Value}
use Rattle.stable_table.specs.Tables.{View}
use Rattle.stable_table.specs.Trimming.{trimmed_table, trimmed_backups, trimmed_table_of}
use Rattle.stable_table.specs.Published as tables
use Rattle.stable_table.specs.TwoTables.{epoch_of}
use Rattle.stable_table.proofs.Again.{is_again}
use Rattle.chronicle.specs.Facts.{Chronicle}
use Rattle.chronicle.specs.Logs.{log_of}
use Rattle.chronicle.specs.Epochs.{cut}
use Rattle.chronicle.specs.Drops.{dropped_below, table_cut}
use Rattle.chronicle.specs.Publications.{Publication, publications, newest}
use Rattle.chronicle.specs.Publications.{epoch_of as published_epoch}
use Rattle.node_core.specs.declared.agreement.Agreement.{Agreement}
use Rattle.node_core.specs.Agreeing.{Agrees, IsOver, IsByCut}
use Rattle.node_core.specs.Sharing.{ServesFor}
use Rattle.node_core.specs.Views.{backups_over, view_of, views}
use Rattle.node_core.proofs.Concluding.{since_cut}
use Rattle.node_core.proofs.Sighting.{its_view, newest_view}

-- what holds of all that was published holds of the newest
newest_among : (Holds : Publication → Type 0) (ts : List Publication) (q : Publication) → AllByRecursion Holds ts → tables.newest published_epoch ts ≡ Some q → Holds q
newest_among Holds [] q all is = absurd (cc is)
newest_among Holds (t ∷ ts) q all is = by (tables.newest published_epoch ts) (λ r same. newest_among Holds ts r all.1 same) is
  where
    by : (o : Option Publication) → ((r : Publication) → o ≡ Some r → Holds r) → Some (tables.newer published_epoch t o) ≡ Some q → Holds q
    by None others same = let here : t ≡ q = cc same in subst Holds here all.0
    by (Some s) others same =
        (elim (nat_lt t.epoch s.epoch) as (λ b. Some (if b then s else t) ≡ Some q → Holds q) [
          | true ↦ λ later. others q later
          | false ↦ λ first. let here : t ≡ q = cc first in subst Holds here all.0
        ]) same

-- the ends of one list are equal, where they are as long
same_ends : (a b c d : List Entry) → a ++ b ≡ c ++ d → length b ≡ length d → b ≡ d
same_ends [] b [] d whole long = whole
same_ends [] b (y ∷ c) d whole long =
    let more = ap (λ (l : List Entry). length l) whole in
    let parts = length-append c d in
    absurd (omega (arith, more, parts, long))
same_ends (x ∷ a) b [] d whole long =
    let more = ap (λ (l : List Entry). length l) whole in
    let parts = length-append a b in
    absurd (omega (arith, more, parts, long))
same_ends (x ∷ a) b (y ∷ c) d whole long = same_ends a b c d (cc whole) long

-- the newest table serves for it
pub newest_serves : (rules : Rules) (net : Net) (u : ℕ) (now : Chronicle) (kept : Agreement) (t : View) (value : Value) (count : ℕ) → Agrees rules net u kept now → Some t ≡ tables.newest epoch_of (views rules net u now)
    → t.value ≡ value → value.incomplete ≡ [] → Some count ≡ option_map length (cut u t.epoch now) → (newer entries : List Entry) → newer ++ entries ≡ log_of u now → count ≡ length entries
    → ServesFor rules net u value entries t
newest_serves rules net u now kept t value count agrees is same none cuts newer entries whole long e n =
    let found = its_view rules net u now (newest u now) t (is ∙ newest_view rules net u now) in
    let by = newest_among (IsByCut rules net u now) (publications u now) found.0 agrees.by_cuts found.1 in
    subst (λ (v : View). record v { epoch = e } ≡ trimmed_table_of rules net u e value (trimmed n entries)) (sym found.2)
    (serves found.0 (sym (ap (λ (v : View). v.value) found.2) ∙ same) by (cut u found.0.epoch now) refl (cuts ∙ ap (λ (v : View). option_map length (cut u v.epoch now)) found.2))
  where
    serves : (q : Publication) → q.value ≡ value → IsByCut rules net u now q → (o : Option (List Entry)) → cut u q.epoch now ≡ o → Some count ≡ option_map length (cut u q.epoch now)
        → record (view_of rules net u now q) { epoch = e } ≡ trimmed_table_of rules net u e value (trimmed n entries)
    serves q equal by None has counts = absurd (cc (counts ∙ ap (option_map length) has))
    serves q equal by (Some c) has counts =
        let number : Some count ≡ Some (length c) = counts ∙ ap (option_map length) has in
        let size : count ≡ length c = cc number in
        let since = since_cut u q.epoch now c has in
        let all : c ≡ entries = same_ends since.0 c newer entries (since.1 ∙ sym whole) (sym size ∙ long) in
        let k = dropped_below net u q.epoch now in
        let table : table_cut net u q.epoch now ≡ Some (trimmed k entries) = ap (option_map (trimmed k)) (has ∙ ap (λ l. Some l) all) in
        is_again rules net u value k n entries none e (view_of rules net u now q) equal
        (subst (λ (v : Value). q.paths ≡ trimmed_table rules net u v (trimmed k entries)) equal (subst (IsOver rules net u q) table by))
        (ap (backups_over rules net u q.value) table ∙ ap (λ (v : Value). map (trimmed_backups rules net u v (trimmed k entries)) (places net)) equal)
