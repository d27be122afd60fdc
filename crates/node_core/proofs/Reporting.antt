-- The reports that a node keeps are those of its cuts.
use Rattle.std.proofs.Common.{ℕ, Bool, true, false, Option, Some, None, List, [], ◌∷◌, ◌++◌, ◌==◌, ◌≡◌, refl, sym, ◌∙◌, ap, subst, find, arith, option_map}
use Rattle.std.specs.Prelude.{if◌then◌else◌}
use Rattle.std.specs.Option.{option_or}
use Rattle.std.proofs.lemmas.Bool.Decides.{nat_tests}
use Rattle.std.proofs.lemmas.List.Folds.{find-append}
use Rattle.topology.specs.Net.{Net}
use Rattle.path_vector.specs.Rules.{Rules}
use Rattle.trigger_log.specs.Dropping.{Trimmed}
use Rattle.incomplete_closure.specs.Reports.{Report}
use Rattle.epoch_report.specs.Trimming.{trimmed_report}
use Rattle.chronicle.specs.Facts.{Chronicle}
use Rattle.chronicle.specs.Drops.{reported_cut}
use Rattle.node_core.specs.Reports.{AreReports, is_of_epoch}

-- a node that took no cut keeps no report
pub no_reports : (rules : Rules) (net : Net) (u : ℕ) → AreReports rules net u [] []
no_reports rules net u e = refl

-- a report of e is found where it is looked for
abbrev if_same : ℕ → ℕ → Report → Option Report
if_same e d r = if e == d then Some r else None

-- the only report of a list
found_alone : (rules : Rules) (net : Net) (u e d : ℕ) (c : Trimmed) → find (is_of_epoch d) (trimmed_report rules net u e c ∷ []) ≡ if_same e d (trimmed_report rules net u e c)
unfolding trimmed_report
found_alone rules net u e d c = refl

-- what is there stays, or nothing is
or_none : (o : Option Report) → option_or o None ≡ o
or_none None = refl
or_none (Some r) = refl

-- one cut more, of an epoch that had none, and its report
pub one_report_more : (rules : Rules) (net : Net) (u : ℕ) (past now : Chronicle) (kept list : List Report) (e : ℕ) (c : Trimmed) → AreReports rules net u past kept → reported_cut net u e past ≡ None
    → ((d : ℕ) → reported_cut net u d now ≡ (if e == d then Some c else reported_cut net u d past))
    → list ≡ kept ++ trimmed_report rules net u e c ∷ [] → AreReports rules net u now list
one_report_more rules net u past now kept list e c are fresh cuts is d =
    ap (find (is_of_epoch d)) is
    ∙ (find-append (is_of_epoch d) kept (trimmed_report rules net u e c ∷ [])
    ∙ (ap (option_or (find (is_of_epoch d) kept)) (found_alone rules net u e d c)
    ∙ (by (e == d) refl ∙ ap (option_map (trimmed_report rules net u d)) (sym (cuts d)))))
  where
    by : (t : Bool) → (e == d) ≡ t → option_or (find (is_of_epoch d) kept) (if e == d then Some (trimmed_report rules net u e c) else None)
        ≡ option_map (trimmed_report rules net u d) (if e == d then Some c else reported_cut net u d past)
    by true q =
        let same : e ≡ d = grind (arith, nat_tests) in
        let none : find (is_of_epoch d) kept ≡ None = are d ∙ ap (option_map (trimmed_report rules net u d)) (subst (λ x. reported_cut net u x past ≡ None) same fresh) in
        rw (q, none) (ap (λ x. Some (trimmed_report rules net u x c)) same)
    by false q = rw q (or_none (find (is_of_epoch d) kept) ∙ are d)
