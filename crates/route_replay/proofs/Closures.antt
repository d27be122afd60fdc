-- The reports of an epoch, put together.
use Rattle.std.proofs.Common.{ℕ, Bool, Option, Some, None, List, [], ◌∷◌, ◌++◌, map, filter, is_some, ◌≡◌, refl, sym, ◌∙◌, ap, subst, inl, inr, option_map}
use Rattle.std.specs.Prelude.{if◌then◌else◌}
use Rattle.std.specs.List.{cons_option}
use Rattle.std.specs.List.Sorted.{IsStrictlyIncreasing}
use Rattle.std.proofs.lemmas.List.Kept.{IsStrictlyIncreasing-filter}
use Rattle.topology.specs.Lists.{Among}
use Rattle.topology.specs.Net.{Net}
use Rattle.path_vector.specs.Rules.{Rules}
use Rattle.trigger_log.specs.Dropping.{Trimmed, trimmed}
use Rattle.trigger_log.specs.Entries.{Entry}
use Rattle.incomplete_closure.specs.declared.reports.Report.{Report as TheReport}
use Rattle.incomplete_closure.specs.Reports.{Report}
use Rattle.incomplete_closure.specs.Seen.{report_seen, reports_seen}
use Rattle.incomplete_closure.specs.Together.{OfOneEpoch, nodes_of}
use Rattle.epoch_report.specs.Trimming.{trimmed_report}
use Rattle.chronicle.specs.Facts.{Chronicle}
use Rattle.chronicle.specs.Epochs.{cut}
use Rattle.chronicle.specs.Drops.{dropped_then, reported_cut}
use Rattle.agreement_laws.specs.Decided.{told_reports}

-- ---- reports as definitions see them

-- their nodes are the same
nodes_seen : (list : List TheReport) → nodes_of list ≡ map (λ (r : Report). r.node) (reports_seen list)
nodes_seen [] = refl
nodes_seen (r ∷ rs) = ap (λ ns. r.node ∷ ns) (nodes_seen rs)

-- each of them is seen
seen_among : (r : TheReport) (list : List TheReport) → Among r list → Among (report_seen r) (reports_seen list)
seen_among r (x ∷ xs) (inl q) = inl (ap report_seen q)
seen_among r (x ∷ xs) (inr m) = inr (seen_among r xs m)
seen_among r [] m = absurd m

module _ (rules : Rules) (net : Net) (past : Chronicle) (e : ℕ) where
  -- the node has a cut
  abbrev cuts : ℕ → Bool
  cuts u = is_some (cut u e past)

  -- the report of a node is of the node and of the epoch
  of_node : (u : ℕ) (h : Trimmed) → (trimmed_report rules net u e h).node ≡ u
  unfolding trimmed_report
  of_node u h = refl

  of_epoch : (u : ℕ) (h : Trimmed) → (trimmed_report rules net u e h).epoch ≡ e
  unfolding trimmed_report
  of_epoch u h = refl

  -- those that have a cut have a report
  reporting : (nodes : List ℕ) → map (λ (r : Report). r.node) (told_reports rules net past e nodes) ≡ filter cuts nodes
  reporting [] = refl
  reporting (u ∷ us) = by (cut u e past) (reporting us)
    where
      by : (o : Option (List Entry)) → map (λ (r : Report). r.node) (told_reports rules net past e us) ≡ filter cuts us
          → map (λ (r : Report). r.node) (cons_option (option_map (trimmed_report rules net u e) (option_map (trimmed (dropped_then net u e past)) o)) (told_reports rules net past e us)) ≡ (if is_some o then u ∷ filter cuts us else filter cuts us)
      by None old = old
      by (Some h) old = ap (λ n. n ∷ map (λ (r : Report). r.node) (told_reports rules net past e us)) (of_node u (trimmed (dropped_then net u e past) h)) ∙ ap (λ ns. u ∷ ns) old

  -- each report is of the epoch
  each_epoch : (nodes : List ℕ) (r : Report) → Among r (told_reports rules net past e nodes) → r.epoch ≡ e
  each_epoch [] r m = absurd m
  each_epoch (u ∷ us) r m = by (cut u e past) (each_epoch us r) m
    where
      by : (o : Option (List Entry)) → (Among r (told_reports rules net past e us) → r.epoch ≡ e)
          → Among r (cons_option (option_map (trimmed_report rules net u e) (option_map (trimmed (dropped_then net u e past)) o)) (told_reports rules net past e us)) → r.epoch ≡ e
      by None old m = old m
      by (Some h) old (inl q) = sym (ap (λ (x : Report). x.epoch) q) ∙ of_epoch u (trimmed (dropped_then net u e past) h)
      by (Some h) old (inr m) = old m

  -- reports of nodes that ascend may be put together
  pub together : (nodes : List ℕ) (list : List TheReport) → IsStrictlyIncreasing nodes → reports_seen list ≡ told_reports rules net past e nodes → OfOneEpoch list
  together nodes list ascend are = record {
    epoch = λ a b in_a in_b.
        each_epoch nodes (report_seen a) (subst (Among (report_seen a)) are (seen_among a list in_a))
        ∙ sym (each_epoch nodes (report_seen b) (subst (Among (report_seen b)) are (seen_among b list in_b)));
    nodes = subst IsStrictlyIncreasing (sym (nodes_seen list ∙ (ap (map (λ (r : Report). r.node)) are ∙ reporting nodes))) (IsStrictlyIncreasing-filter cuts nodes ascend);
  }

  -- one node more
  pub reports_more : (nodes more : List ℕ) → told_reports rules net past e (nodes ++ more) ≡ told_reports rules net past e nodes ++ told_reports rules net past e more
  reports_more [] more = refl
  reports_more (u ∷ us) more = by (option_map (trimmed_report rules net u e) (reported_cut net u e past)) (reports_more us more)
    where
      by : (o : Option Report) → told_reports rules net past e (us ++ more) ≡ told_reports rules net past e us ++ told_reports rules net past e more
          → cons_option o (told_reports rules net past e (us ++ more)) ≡ cons_option o (told_reports rules net past e us) ++ told_reports rules net past e more
      by None old = old
      by (Some r) old = ap (λ rs. r ∷ rs) old
