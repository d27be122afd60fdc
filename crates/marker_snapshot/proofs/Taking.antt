-- The snapshots after a cut.
use Rattle.std.proofs.Common.{ℕ, ◌≡◌, ◌≢◌, ◌<◌, ◌==◌, true, false, Option, Some, None, List, [], ◌∷◌, ◌++◌, ◌+◌, length, take, get_or, refl, sym, ◌∙◌, ap, subst, arith, inl, inr, true≢false, if◌then◌else◌}
use Rattle.std.specs.Prelude.{option_map, option_and_then}
use Rattle.std.specs.List.{All, Contains, flat_map}
use Rattle.std.proofs.lemmas.List.{take_more, flat_map_more}
use Rattle.std.proofs.lemmas.Bool.{ne_eqb, or_cases}
use Rattle.std.proofs.lemmas.List.Elements.{All-nil, All-cons, All-append, All-push, All-weaker, Contains-append_left, Contains-append_right, Contains-push}
use Rattle.topology.specs.Lists.{has}
use Rattle.topology.specs.Net.{Net, neighbours}
use Rattle.topology.proofs.Tests.{same_is, same_refl}
use Rattle.path_vector.specs.History.{held}
use Rattle.trigger_log.specs.Entries.{Entry, reads}
use Rattle.marker_snapshot.specs.declared.recording.Row.{Row}
use Rattle.marker_snapshot.specs.declared.recording.Cut.{Cut}
use Rattle.marker_snapshot.specs.Acts.{SnapshotActs, Takes}
use Rattle.marker_snapshot.specs.Cuts.{epoch_of, cut_of, recorded_session}
use Rattle.marker_snapshot.specs.Rows.{begun, begun_by}
use Rattle.marker_snapshot.specs.Keeping.{Kept}
use Rattle.marker_snapshot.specs.Standing.{IsRow, IsCut, HasRow, HasCut, StandsFor}

none_is_no_some : {A : Type 0} (o : Option A) (x : A) → o ≡ None → o ≡ Some x → ⊥
none_is_no_some o x e f = cc

module _ (d : ℕ) (h : List Entry) (acts : SnapshotActs) where
  -- the sessions that are held
  abbrev pub begun_with : ℕ → List Row
  begun_with v = begun_by d v (held (reads h) v)

  row_begun : (v s : ℕ) → held (reads h) v ≡ Some s → IsRow (Takes d h ∷ acts) (begun d v s)
  row_begun v s is = record {
    in_cut = rw (same_refl d) is;
    numbers = rw (same_refl d) refl;
    none_or_first = refl;
    ended = rw (same_refl d) refl;
  }

  one_begun : (v : ℕ) (o : Option ℕ) → held (reads h) v ≡ o → All (IsRow (Takes d h ∷ acts)) (begun_by d v o)
  one_begun v None e = All-nil (IsRow (Takes d h ∷ acts))
  one_begun v (Some s) e = All-cons (IsRow (Takes d h ∷ acts)) (begun d v s) [] (row_begun v s e) (All-nil (IsRow (Takes d h ∷ acts)))

  rows_begun : (vs : List ℕ) → All (IsRow (Takes d h ∷ acts)) (flat_map begun_with vs)
  rows_begun [] = All-nil (IsRow (Takes d h ∷ acts))
  rows_begun (v ∷ vs) = All-append (IsRow (Takes d h ∷ acts)) (begun_with v) (flat_map begun_with vs) (one_begun v (held (reads h) v) refl) (rows_begun vs)

  among_begun : (vs : List ℕ) (v s : ℕ) → has vs v ≡ true → held (reads h) v ≡ Some s → Contains (flat_map begun_with vs) (begun d v s)
  among_begun [] v s near is = absurd (true≢false (sym near))
  among_begun (w ∷ vs) v s near is = elim (or_cases (w == v) (has vs v) near) [
    | inl here ↦
        let same : w ≡ v = same_is w v here in
        let one : begun_with w ≡ begun d v s ∷ [] = rw (same, is) refl in
        Contains-append_left (begun_with w) (flat_map begun_with vs) (begun d v s) (rw one (Contains-push [] (begun d v s)))
    | inr there ↦ Contains-append_right (begun_with w) (flat_map begun_with vs) (begun d v s) (among_begun vs v s there is)
  ]

  module _ (newest : (e : ℕ) → epoch_of acts < e → cut_of e acts ≡ None) (above : epoch_of acts < d) where
    -- an epoch that already has a cut is another one
    is_other : (e : ℕ) → cut_of e acts ≢ None → (d == e) ≡ false
    is_other e some = ne_eqb d e (λ same. some (subst (λ x. cut_of x acts ≡ None) same (newest d above)))

    cut_kept : (cut : Cut) → IsCut acts cut → IsCut (Takes d h ∷ acts) cut
    cut_kept cut is =
        let other : (d == cut.epoch) ≡ false = is_other cut.epoch (λ none. none_is_no_some (option_map length (cut_of cut.epoch acts)) cut.entries (ap (option_map length) none) is) in
        rw other is

    row_kept : (row : Row) → IsRow acts row → IsRow (Takes d h ∷ acts) row
    row_kept row is =
        let other : (d == row.epoch) ≡ false = is_other row.epoch (λ none. none_is_no_some (recorded_session row.epoch row.nbr acts) row.recording.session (ap (option_and_then (λ c. held (reads c) row.nbr)) none) is.in_cut) in
        record {
          in_cut = rw other is.in_cut;
          numbers = rw other is.numbers;
          none_or_first = is.none_or_first;
          ended = rw other is.ended;
        }

abbrev pub cut_with : ℕ → ℕ → Cut
cut_with d n = record { epoch = d; entries = n }

abbrev pub new_cut : ℕ → List Entry → Cut
new_cut d h = cut_with d (length h)

module _ (net : Net) (u : ℕ) (kept : Kept) (acts : SnapshotActs) (d : ℕ) (h : List Entry) (stands : StandsFor net u kept acts) (above : epoch_of acts < d) where
  newest_of : (e : ℕ) → d < e → cut_of e (Takes d h ∷ acts) ≡ None
  newest_of e more = rw (ne_eqb d e (λ same. omega arith)) (stands.newest e (omega arith))

  cuts_of : All (IsCut (Takes d h ∷ acts)) (kept.cuts ++ new_cut d h ∷ [])
  cuts_of = All-push (IsCut (Takes d h ∷ acts)) kept.cuts (new_cut d h)
      (All-weaker (IsCut acts) (IsCut (Takes d h ∷ acts)) (cut_kept d h acts stands.newest above) kept.cuts stands.cuts)
      (rw (same_refl d) refl)

  has_cut_of : (e : ℕ) (entries : List Entry) → cut_of e (Takes d h ∷ acts) ≡ Some entries → HasCut (kept.cuts ++ new_cut d h ∷ []) e
  has_cut_of e entries is =
      (elim (d == e) as (λ b. (d == e) ≡ b → (if b then Some h else cut_of e acts) ≡ Some entries → HasCut (kept.cuts ++ new_cut d h ∷ []) e) [
        | true ↦ λ here is. record { cut = new_cut d h; among = Contains-push kept.cuts (new_cut d h); of_epoch = same_is d e here }
        | false ↦ λ other is.
            let old = stands.has_cut e entries is in
            record { cut = old.cut; among = Contains-append_left kept.cuts (new_cut d h ∷ []) old.cut old.among; of_epoch = old.of_epoch }
      ]) refl is

  rows_of : All (IsRow (Takes d h ∷ acts)) (kept.rows ++ flat_map (begun_with d h acts) (neighbours net u))
  rows_of = All-append (IsRow (Takes d h ∷ acts)) kept.rows (flat_map (begun_with d h acts) (neighbours net u))
      (All-weaker (IsRow acts) (IsRow (Takes d h ∷ acts)) (row_kept d h acts stands.newest above) kept.rows stands.rows)
      (rows_begun d h acts (neighbours net u))

  has_row_of : (e v s : ℕ) → has (neighbours net u) v ≡ true → recorded_session e v (Takes d h ∷ acts) ≡ Some s
      → HasRow (kept.rows ++ flat_map (begun_with d h acts) (neighbours net u)) e v
  has_row_of e v s near is =
      (elim (d == e) as (λ b. (d == e) ≡ b → option_and_then (λ c. held (reads c) v) (if b then Some h else cut_of e acts) ≡ Some s
      → HasRow (kept.rows ++ flat_map (begun_with d h acts) (neighbours net u)) e v) [
        | true ↦ λ here is. record {
          row = begun d v s;
          among = Contains-append_right kept.rows (flat_map (begun_with d h acts) (neighbours net u)) (begun d v s) (among_begun d h acts (neighbours net u) v s near is);
          of_epoch = same_is d e here;
          of_nbr = refl;
        }
        | false ↦ λ other is.
            let old = stands.has_row e v s near is in
            record {
              row = old.row;
              among = Contains-append_left kept.rows (flat_map (begun_with d h acts) (neighbours net u)) old.row old.among;
              of_epoch = old.of_epoch;
              of_nbr = old.of_nbr;
            }
      ]) refl is

  whole : StandsFor net u (record { epoch = d; cuts = kept.cuts ++ new_cut d h ∷ []; rows = kept.rows ++ flat_map (begun_with d h acts) (neighbours net u) }) (Takes d h ∷ acts)
  whole = record {
    epoch = refl;
    newest = newest_of;
    cuts = cuts_of;
    has_cut = has_cut_of;
    rows = rows_of;
    has_row = has_row_of;
  }

  -- the snapshots stand for one more act
  pub cut_stands : (cuts : List Cut) (rows : List Row) → cuts ≡ kept.cuts ++ new_cut d h ∷ [] → rows ≡ kept.rows ++ flat_map (begun_with d h acts) (neighbours net u)
      → StandsFor net u (record { epoch = d; cuts = cuts; rows = rows }) (Takes d h ∷ acts)
  cut_stands cuts rows cuts_are rows_are =
      subst (λ rs. StandsFor net u (record { epoch = d; cuts = cuts; rows = rs }) (Takes d h ∷ acts)) (sym rows_are)
      (subst (λ cs. StandsFor net u (record { epoch = d; cuts = cs; rows = kept.rows ++ flat_map (begun_with d h acts) (neighbours net u) }) (Takes d h ∷ acts)) (sym cuts_are) whole)

-- one more neighbour
pub one_more : (d : ℕ) (h : List Entry) (nodes : List ℕ) (i v : ℕ) (before rows after : List Row) (o : Option ℕ) → i < length nodes → v ≡ get_or nodes i v → o ≡ held (reads h) v
    → rows ≡ before ++ flat_map (λ v. begun_by d v (held (reads h) v)) (take i nodes) → after ≡ rows ++ begun_by d v o
    → after ≡ before ++ flat_map (λ v. begun_by d v (held (reads h) v)) (take (i + 1) nodes)
one_more d h nodes i v before rows after o inside is session so_far grown =
    let more : take (i + 1) nodes ≡ take i nodes ++ v ∷ [] = take_more nodes i v inside ∙ ap (λ x. take i nodes ++ x ∷ []) (sym is) in
    rw (grown, session, so_far, more) (flat_map_more (λ v. begun_by d v (held (reads h) v)) before (take i nodes) v)
