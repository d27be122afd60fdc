-- What a node reads of its tables for a packet.
use Rattle.std.proofs.Common.{ℕ, ◌<◌, Option, Some, None, List, [], map, length, ◌≡◌, refl, sym, ◌∙◌, ap, option_map, option_and_then, slice_get, arith}
use Rattle.std.specs.Prelude.{unwrap_or}
use Rattle.std.proofs.lemmas.List.FromFn.{get_or-map-range_with_len}
use Rattle.std.proofs.lemmas.Option.{unwrap_or-slice_get}
use Rattle.topology.specs.Net.{Net, places}
use Rattle.path_vector.specs.Rules.{Rules}
use Rattle.trigger_log.specs.Dropping.{Trimmed}
use Rattle.stable_table.specs.Tables.{View}
use Rattle.stable_table.specs.Trimming.{trimmed_backups}
use Rattle.stable_table.specs.Published as tables
use Rattle.stable_table.specs.TwoTables.{epoch_of}
use Rattle.stable_table.proofs.Published.{newest_map, kept_map}
use Rattle.chronicle.specs.Drops.{table_cut}
use Rattle.chronicle.specs.Facts.{Chronicle}
use Rattle.chronicle.specs.Publications.{Publication, publications, newest, kept, newest_epoch, newest_path, newest_backups, kept_path, path_in, backups_in}
use Rattle.chronicle.specs.Publications as published
use Rattle.node_core.specs.Views.{backups_over, view_of, views}

-- the backups of a prefix of the network stand at its place
backed : (f : ℕ → List (List ℕ)) (net : Net) (p : ℕ) → p < length net.prefixes → unwrap_or (slice_get (map f (places net)) p) [] ≡ f p
unfolding places
backed f net p inside = unwrap_or-slice_get (map f (places net)) p [] ∙ get_or-map-range_with_len f 0 (length net.prefixes) p p [] inside (omega arith)

-- a path of a table
abbrev pub path_at : ℕ → View → Option (List ℕ)
path_at p t = option_and_then (λ path. path) (slice_get t.paths p)

module _ (rules : Rules) (net : Net) (u : ℕ) (past : Chronicle) where
  -- no table where there was no publication
  no_view : (o : Option Publication) → None ≡ option_map (view_of rules net u past) o → o ≡ None
  no_view None q = refl
  no_view (Some t) q = absurd (cc q)

  -- a table is that of a publication
  pub its_view : (o : Option Publication) (t : View) → Some t ≡ option_map (view_of rules net u past) o → (q : Publication) × (o ≡ Some q) × (t ≡ view_of rules net u past q)
  its_view None t q = absurd (cc q)
  its_view (Some s) t q = (s, refl, cc q)

  -- ---- the table of an epoch that is kept

  module _ (e p : ℕ) where
    -- it is that of the publication
    kept_view : tables.kept epoch_of e (views rules net u past) ≡ option_map (view_of rules net u past) (kept u e past)
    kept_view = kept_map (view_of rules net u past) epoch_of published.epoch_of (λ t. refl) e (publications u past)

    -- no path where none is kept
    pub none_kept : None ≡ tables.kept epoch_of e (views rules net u past) → None ≡ kept_path u e p past
    none_kept is = sym (ap (option_and_then (path_in p)) (no_view (kept u e past) (is ∙ kept_view)))

    -- its path of p
    pub path_kept : (t : View) → Some t ≡ tables.kept epoch_of e (views rules net u past) → path_at p t ≡ kept_path u e p past
    path_kept t is =
        let q = its_view (kept u e past) t (is ∙ kept_view) in
        ap (path_at p) q.2 ∙ sym (ap (option_and_then (path_in p)) q.1)

  -- ---- the newest table

  -- it is that of the newest publication
  pub newest_view : tables.newest epoch_of (views rules net u past) ≡ option_map (view_of rules net u past) (newest u past)
  newest_view = newest_map (view_of rules net u past) epoch_of published.epoch_of (λ t. refl) (publications u past)

  module _ (none : None ≡ tables.newest epoch_of (views rules net u past)) where
    -- nothing was published
    nothing : newest u past ≡ None
    nothing = no_view (newest u past) (none ∙ newest_view)

    pub no_epoch : None ≡ newest_epoch u past
    no_epoch = sym (ap (option_map published.epoch_of) nothing)

    pub no_path : (p : ℕ) → None ≡ newest_path u p past
    no_path p = sym (ap (option_and_then (path_in p)) nothing)

    pub no_backups : (p : ℕ) → [] ≡ newest_backups rules net u p past
    no_backups p = sym (ap (backups_in rules net u p past) nothing)

  module _ (t : View) (some : Some t ≡ tables.newest epoch_of (views rules net u past)) where
    -- the publication that it is of
    found : (q : Publication) × (newest u past ≡ Some q) × (t ≡ view_of rules net u past q)
    found = its_view (newest u past) t (some ∙ newest_view)

    pub epoch_is : Some t.epoch ≡ newest_epoch u past
    epoch_is = ap (λ (v : View). Some v.epoch) found.2 ∙ sym (ap (option_map published.epoch_of) found.1)

    pub path_is : (p : ℕ) → path_at p t ≡ newest_path u p past
    path_is p = ap (path_at p) found.2 ∙ sym (ap (option_and_then (path_in p)) found.1)

    pub backups_are : (p : ℕ) → p < length net.prefixes → unwrap_or (slice_get t.backups p) [] ≡ newest_backups rules net u p past
    backups_are p inside =
        ap (λ (v : View). unwrap_or (slice_get v.backups p) []) found.2
        ∙ (over (table_cut net u (found.0).epoch past) ∙ sym (ap (backups_in rules net u p past) found.1))
      where
        over : (c : Option Trimmed) → unwrap_or (slice_get (backups_over rules net u (found.0).value c) p) [] ≡ published.backups_over rules net u p (found.0).value c
        over None = refl
        over (Some c) = backed (trimmed_backups rules net u (found.0).value c) net p inside
