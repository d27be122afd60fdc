-- Finding rows.
use Rattle.std.proofs.Common.{ℕ, ◌≡◌, ◌==◌, ◌&&◌, true, Some, None, List, map, refl, ◌∙◌, ap, arith}
use Rattle.std.specs.List.{Contains}
use Rattle.std.proofs.lemmas.List.{length-map, get_or-map}
use Rattle.std.proofs.lemmas.Bool.Decides.{nat_tests}
use Rattle.marker_snapshot.specs.declared.recording.Row.{Row}
use Rattle.topology.specs.Lists.{has}
use Rattle.topology.specs.Net.{Net, neighbours}
use Rattle.marker_snapshot.specs.Acts.{SnapshotActs}
use Rattle.marker_snapshot.specs.Cuts.{recorded_session}
use Rattle.marker_snapshot.specs.Keeping.{Kept}
use Rattle.marker_snapshot.specs.Standing.{HasRow, StandsFor}

pub both_same : (v s w t : ℕ) → (v == w && s == t) ≡ true → (v ≡ w) × (s ≡ t)
both_same v s w t e = (grind (arith, nat_tests), grind (arith, nat_tests))

contains_map : {X Y : Type 0} (f : X → Y) (xs : List X) (x : X) → Contains xs x → Contains (map f xs) (f x)
contains_map f xs x in' = (in'.0, rw (length-map xs f) in'.1, get_or-map f xs in'.0 x (f x) in'.1 ∙ ap f in'.2)

-- a change that keeps epochs and neighbours keeps which rows there are
pub has_map : (f : Row → Row) → ((row : Row) → (f row).epoch ≡ row.epoch) → ((row : Row) → (f row).nbr ≡ row.nbr)
    → (rows : List Row) (e v : ℕ) → HasRow rows e v → HasRow (map f rows) e v
has_map f epochs nbrs rows e v has = record {
  row = f has.row;
  among = contains_map f rows has.row has.among;
  of_epoch = epochs has.row ∙ has.of_epoch;
  of_nbr = nbrs has.row ∙ has.of_nbr;
}

-- if there is no row, no session was held
pub not_recorded : (net : Net) (u : ℕ) (kept : Kept) (acts : SnapshotActs) (e v : ℕ) → StandsFor net u kept acts → has (neighbours net u) v ≡ true
    → ((row : Row) → Contains kept.rows row → row.epoch ≡ e → row.nbr ≡ v → ⊥) → recorded_session e v acts ≡ None
not_recorded net u kept acts e v stands near none =
    (elim (recorded_session e v acts) as (λ o. recorded_session e v acts ≡ o → o ≡ None) [
      | None ↦ λ is. refl
      | Some s ↦ λ is. let old = stands.has_row e v s near is in absurd (none old.row old.among old.of_epoch old.of_nbr)
    ]) refl
