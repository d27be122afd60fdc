-- The snapshots after an update.
use Rattle.std.proofs.Common.{ℕ, ◌≡◌, ◌<◌, ◌^◌, Bool, true, false, List, ◌∷◌, map, refl, ◌∙◌, if◌then◌else◌}
use Rattle.std.proofs.lemmas.List.Elements.{All-map, All-weaker}
use Rattle.topology.specs.Net.{Net}
use Rattle.marker_snapshot.specs.declared.recording.Row.{Row}
use Rattle.marker_snapshot.specs.Acts.{SnapshotActs, Hears}
use Rattle.marker_snapshot.specs.Cuts.{is_of, done, recorded, Continues, IsNext}
use Rattle.marker_snapshot.specs.Rows.{added, heard}
use Rattle.marker_snapshot.specs.Keeping.{Kept}
use Rattle.marker_snapshot.specs.Standing.{IsRow, StandsFor}
use Rattle.marker_snapshot.proofs.Ranges.{extended, extended_first}
use Rattle.marker_snapshot.proofs.Held.{both_same, has_map}

module _ (acts : SnapshotActs) (v s n : ℕ) where
  elsewhere : (row : Row) → IsRow acts row → is_of v s row.nbr row.recording.session ≡ false → IsRow (Hears v s n ∷ acts) row
  elsewhere row is other = record {
    in_cut = is.in_cut;
    numbers = rw other is.numbers;
    none_or_first = is.none_or_first;
    ended = is.ended;
  }

  too_late : (row : Row) → IsRow acts row → is_of v s row.nbr row.recording.session ≡ true → row.recording.done ≡ true → IsRow (Hears v s n ∷ acts) row
  too_late row is here over =
      let ended : done row.epoch row.nbr row.recording.session acts ≡ true = is.ended ∙ over in
      record {
        in_cut = is.in_cut;
        numbers = rw (here, ended) is.numbers;
        none_or_first = is.none_or_first;
        ended = is.ended;
      }

  more_numbers : (row : Row) → IsRow acts row → Continues acts v s n → n < 2 ^ 32 → is_of v s row.nbr row.recording.session ≡ true → row.recording.done ≡ false
      → IsRow (Hears v s n ∷ acts) (added false n row)
  more_numbers row is continues small here open' =
      let undone : done row.epoch row.nbr row.recording.session acts ≡ false = is.ended ∙ open' in
      let same = both_same v s row.nbr row.recording.session here in
      let each = rw (same.0, same.1) at continues.each in
      let next : IsNext n (recorded row.epoch row.nbr row.recording.session acts) = each row.epoch is.in_cut undone in
      record {
        in_cut = is.in_cut;
        numbers = rw (here, undone) (extended row.recording.first row.recording.count n (recorded row.epoch row.nbr row.recording.session acts) is.numbers is.none_or_first next continues.from_one small);
        none_or_first = extended_first row.recording.first row.recording.count n is.none_or_first continues.from_one;
        ended = undone;
      }

  row_heard : Continues acts v s n → n < 2 ^ 32 → (row : Row) → IsRow acts row → IsRow (Hears v s n ∷ acts) (heard v s n row)
  row_heard continues small row is =
      (elim (is_of v s row.nbr row.recording.session) as (λ b. is_of v s row.nbr row.recording.session ≡ b
      → IsRow (Hears v s n ∷ acts) (if b then added row.recording.done n row else row)) [
        | true ↦ λ here.
            (elim row.recording.done as (λ d. row.recording.done ≡ d → IsRow (Hears v s n ∷ acts) (added d n row)) [
              | true ↦ too_late row is here
              | false ↦ more_numbers row is continues small here
            ]) refl
        | false ↦ elsewhere row is
      ]) refl

added_epoch : (t : Bool) (n : ℕ) (row : Row) → (added t n row).epoch ≡ row.epoch
added_epoch true n row = refl
added_epoch false n row = refl

added_nbr : (t : Bool) (n : ℕ) (row : Row) → (added t n row).nbr ≡ row.nbr
added_nbr true n row = refl
added_nbr false n row = refl

heard_epoch : (v s n : ℕ) (row : Row) → (heard v s n row).epoch ≡ row.epoch
heard_epoch v s n row = elim (is_of v s row.nbr row.recording.session) as (λ b. (if b then added row.recording.done n row else row).epoch ≡ row.epoch) [
  | true ↦ added_epoch row.recording.done n row
  | false ↦ refl
]

heard_nbr : (v s n : ℕ) (row : Row) → (heard v s n row).nbr ≡ row.nbr
heard_nbr v s n row = elim (is_of v s row.nbr row.recording.session) as (λ b. (if b then added row.recording.done n row else row).nbr ≡ row.nbr) [
  | true ↦ added_nbr row.recording.done n row
  | false ↦ refl
]

-- the snapshots stand for one more act
pub update_stands : (net : Net) (u : ℕ) (kept : Kept) (acts : SnapshotActs) (v s n : ℕ) (rows : List Row) → StandsFor net u kept acts → Continues acts v s n → n < 2 ^ 32
    → rows ≡ map (heard v s n) kept.rows → StandsFor net u (record { epoch = kept.epoch; cuts = kept.cuts; rows = rows }) (Hears v s n ∷ acts)
update_stands net u kept acts v s n rows stands continues small is = record {
  epoch = stands.epoch;
  newest = stands.newest;
  cuts = stands.cuts;
  has_cut = stands.has_cut;
  rows = rw is (All-map (IsRow (Hears v s n ∷ acts)) (heard v s n) kept.rows
      (All-weaker (IsRow acts) (λ row. IsRow (Hears v s n ∷ acts) (heard v s n row)) (row_heard acts v s n continues small) kept.rows stands.rows));
  has_row = λ e w t near held. rw is (has_map (heard v s n) (heard_epoch v s n) (heard_nbr v s n) kept.rows e w (stands.has_row e w t near held));
}
