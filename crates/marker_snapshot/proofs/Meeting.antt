-- The snapshots after a mark.
use Rattle.std.proofs.Common.{ℕ, ◌≡◌, ◌&&◌, true, false, List, ◌∷◌, map, refl, if◌then◌else◌}
use Rattle.std.specs.Prelude.{nat_le}
use Rattle.std.specs.List.Sorted.{IsPermutation}
use Rattle.std.proofs.lemmas.List.Elements.{All-map, All-weaker}
use Rattle.std.proofs.lemmas.List.Sorted.{All-permutation, Contains-permutation}
use Rattle.topology.specs.Net.{Net}
use Rattle.marker_snapshot.specs.declared.recording.Row.{Row}
use Rattle.marker_snapshot.specs.Acts.{SnapshotActs, Meets}
use Rattle.marker_snapshot.specs.Cuts.{is_of}
use Rattle.marker_snapshot.specs.Rows.{ended, met}
use Rattle.marker_snapshot.specs.Keeping.{Kept}
use Rattle.marker_snapshot.specs.Standing.{IsRow, HasRow, StandsFor}
use Rattle.marker_snapshot.proofs.Held.{has_map}

row_met : (acts : SnapshotActs) (v s d : ℕ) (row : Row) → IsRow acts row → IsRow (Meets v s d ∷ acts) (met v s d row)
row_met acts v s d row is =
    (elim (is_of v s row.nbr row.recording.session && nat_le row.epoch d) as (λ b. (is_of v s row.nbr row.recording.session && nat_le row.epoch d) ≡ b
    → IsRow (Meets v s d ∷ acts) (if b then ended row else row)) [
      | true ↦ λ over. record { in_cut = is.in_cut; numbers = is.numbers; none_or_first = is.none_or_first; ended = rw over refl }
      | false ↦ λ going. record { in_cut = is.in_cut; numbers = is.numbers; none_or_first = is.none_or_first; ended = rw going is.ended }
    ]) refl

met_epoch : (v s d : ℕ) (row : Row) → (met v s d row).epoch ≡ row.epoch
met_epoch v s d row = elim (is_of v s row.nbr row.recording.session && nat_le row.epoch d) as (λ b. (if b then ended row else row).epoch ≡ row.epoch) [
  | true ↦ refl
  | false ↦ refl
]

met_nbr : (v s d : ℕ) (row : Row) → (met v s d row).nbr ≡ row.nbr
met_nbr v s d row = elim (is_of v s row.nbr row.recording.session && nat_le row.epoch d) as (λ b. (if b then ended row else row).nbr ≡ row.nbr) [
  | true ↦ refl
  | false ↦ refl
]

has_moved : (rows moved : List Row) → IsPermutation rows moved → (e v : ℕ) → HasRow rows e v → HasRow moved e v
has_moved rows moved same e v has = record {
  row = has.row;
  among = Contains-permutation rows moved has.row same has.among;
  of_epoch = has.of_epoch;
  of_nbr = has.of_nbr;
}

-- the snapshots stand for one more act
pub mark_stands : (net : Net) (u : ℕ) (kept : Kept) (acts : SnapshotActs) (v s d : ℕ) (rows : List Row) → StandsFor net u kept acts
    → IsPermutation (map (met v s d) kept.rows) rows → StandsFor net u (record { epoch = kept.epoch; cuts = kept.cuts; rows = rows }) (Meets v s d ∷ acts)
mark_stands net u kept acts v s d rows stands same = record {
  epoch = stands.epoch;
  newest = stands.newest;
  cuts = stands.cuts;
  has_cut = stands.has_cut;
  rows = All-permutation (IsRow (Meets v s d ∷ acts)) (map (met v s d) kept.rows) rows same
      (All-map (IsRow (Meets v s d ∷ acts)) (met v s d) kept.rows
      (All-weaker (IsRow acts) (λ row. IsRow (Meets v s d ∷ acts) (met v s d row)) (row_met acts v s d) kept.rows stands.rows));
  has_row = λ e w t near held. has_moved (map (met v s d) kept.rows) rows same e w
      (has_map (met v s d) (met_epoch v s d) (met_nbr v s d) kept.rows e w (stands.has_row e w t near held));
}
