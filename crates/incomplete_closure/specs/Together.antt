-- Reports that can be combined: all of one epoch, one for each node.
use Rattle.std.specs.Prelude.{ℕ, ◌≡◌, List, map}
use Rattle.std.specs.List.Sorted.{IsStrictlyIncreasing}
use Rattle.topology.specs.Lists.{Among}
use Rattle.incomplete_closure.specs.declared.reports.Report.{Report}

-- the nodes of the reports, in their order
abbrev pub nodes_of : List Report → List ℕ
nodes_of reports = map (λ (r : Report). r.node) reports

-- all reports are of one epoch, and their nodes ascend without repeats
pub record OfOneEpoch (reports : List Report) : Type 0 where
  pub epoch : (a b : Report) → Among a reports → Among b reports → a.epoch ≡ b.epoch
  pub nodes : IsStrictlyIncreasing (nodes_of reports)
