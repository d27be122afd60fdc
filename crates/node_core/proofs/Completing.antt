-- Of which epoch a node may get both its cut and its decision.
use Rattle.std.proofs.Common.{ℕ, ◌<◌, true, false, ◌==◌, ◌||◌, ◌&&◌, ◌⊎◌, inl, inr, Option, Some, None, List, [], ◌∷◌, ◌≡◌, refl, sym, ◌∙◌, ap, ap₂, subst, arith}
use Rattle.std.specs.Prelude.{if◌then◌else◌, is_some}
use Rattle.std.proofs.lemmas.Bool.Decides.{nat_tests}
use Rattle.topology.specs.Lists.{has}
use Rattle.topology.specs.Net.{Net}
use Rattle.path_vector.specs.Rules.{Rules}
use Rattle.trigger_log.specs.Dropping.{Trimmed}
use Rattle.epoch_report.specs.Trimming.{trimmed_report}
use Rattle.incomplete_closure.specs.declared.values.Value.{Value}
use Rattle.consolidator.specs.Messages.{Reports}
use Rattle.chronicle.specs.Facts.{Fact, Chronicle, Raise, Mail}
use Rattle.chronicle.specs.Logs.{log_of}
use Rattle.chronicle.specs.Epochs.{epoch, raised, cut}
use Rattle.consolidator.specs.Readings.{known}
use Rattle.chronicle.specs.Control.{decision}
use Rattle.chronicle.specs.Steps.{Carried}
use Rattle.chronicle.proofs.Blocks.{same_number}
use Rattle.consolidator.specs.Facts as consolidator
use Rattle.consolidator.proofs.Beside.{known_beside, known_reported}
use Rattle.chronicle.specs.Control.{control}
use Rattle.node_core.specs.declared.duties.Duty.{Duty}
use Rattle.node_core.specs.declared.node.Node.{Node}
use Rattle.node_core.specs.Keeping.{Keeps}
use Rattle.node_core.specs.Answering.{MayComplete}
use Rattle.node_core.specs.Deciding.{MayDo, acted}
use Rattle.node_core.proofs.ByActs.{Quiet, acts_keep}

-- the decisions and the epochs of u are as they were
pub record Same (u : ℕ) (past now : Chronicle) : Type 0 where
  pub knows : (e : ℕ) → decision u e now ≡ decision u e past
  pub epochs : raised u now ≡ raised u past
  pub same_epoch : epoch u now ≡ epoch u past

-- its epoch rose by one cut
pub record Rose (u : ℕ) (past now : Chronicle) : Type 0 where
  pub knows : (e : ℕ) → decision u e now ≡ decision u e past
  pub epochs : raised u now ≡ epoch u now ∷ raised u past
  pub above : epoch u past < epoch u now

-- the one or the other
abbrev pub Once : ℕ → Chronicle → Chronicle → Type 0
Once u past now = Same u past now ⊎ Rose u past now

-- a fact that is none of agreement makes no decision known
quiet_knows : (u e : ℕ) (f : Fact) (past : Chronicle) → Quiet f → decision u e (f ∷ past) ≡ decision u e past
quiet_knows u e f past quiet =
    subst (λ g. known u e (g ∷ control past) ≡ known u e (control past)) (sym quiet.no_control) (known_beside (control past) u e consolidator.Other tt)

module _ (rules : Rules) (net : Net) (u : ℕ) (first : Chronicle) where
  -- nothing has changed so far
  quiet_same : (f : Fact) (past : Chronicle) → Quiet f → Same u first past → Same u first (f ∷ past)
  quiet_same f past quiet was = record {
    knows = λ e. quiet_knows u e f past quiet ∙ was.knows e;
    epochs = quiet.no_raise u (raised u past) ∙ was.epochs;
    same_epoch = quiet.no_epoch u (epoch u past) ∙ was.same_epoch;
  }

  -- the epoch rises
  rises : (e : ℕ) (past : Chronicle) → epoch u past < e → Same u first past → Once u first (Raise u e ∷ past)
  rises e past high was =
      let new : epoch u (Raise u e ∷ past) ≡ e = rw (same_number u) refl in
      let old = was.same_epoch in
      inr (record {
        knows = was.knows;
        epochs = ap (λ b. if b then e ∷ raised u past else raised u past) (same_number u) ∙ ap₂ (λ d ds. d ∷ ds) (sym new) was.epochs;
        above = omega (arith, new, old, high);
      })

  -- what comes after it changes nothing of that
  quiet_once : (f : Fact) (past : Chronicle) → Quiet f → Once u first past → Once u first (f ∷ past)
  quiet_once f past quiet (inl was) = inl (quiet_same f past quiet was)
  quiet_once f past quiet (inr was) =
      let still = quiet.no_epoch u (epoch u past) in
      inr (record {
        knows = λ e. quiet_knows u e f past quiet ∙ was.knows e;
        epochs = quiet.no_raise u (raised u past) ∙ (was.epochs ∙ ap (λ n. n ∷ raised u first) (sym still));
        above = let high = was.above in omega (arith, still, high);
      })

  -- nor do reports
  reported_once : (w e : ℕ) (c : Trimmed) (past : Chronicle) → Once u first past → Once u first (Mail u w (Reports (trimmed_report rules net u e c)) ∷ past)
  reported_once w e c past (inl was) =
      inl (record { knows = λ d. known_reported (control past) u d w (trimmed_report rules net u e c) ∙ was.knows d; epochs = was.epochs; same_epoch = was.same_epoch })
  reported_once w e c past (inr was) =
      inr (record { knows = λ d. known_reported (control past) u d w (trimmed_report rules net u e c) ∙ was.knows d; epochs = was.epochs; above = was.above })

  -- what the node does of its own accord, or over its links
  pub acted_once : (carried : Carried) (act : Duty) → MayDo net u first act → Once u first (acted rules net carried u first act)
  acted_once carried act may =
      acts_keep rules net u (Same u first) (Once u first)
      (record { before = quiet_same; nothing = λ now is. inl is; rises = rises; further = quiet_once; reports = reported_once })
      carried first act may (record { knows = λ e. refl; epochs = refl; same_epoch = refl })

-- ---- the epoch that may be complete

-- a node has a cut of the epochs to which it rose, and of no other
pub raised_cut : (u e : ℕ) (past : Chronicle) → has (raised u past) e ≡ is_some (cut u e past)
raised_cut u e [] = refl
raised_cut u e (Raise node d ∷ past) =
    elim (node == u) as (λ b. has (if b then d ∷ raised u past else raised u past) e ≡ is_some (if b && d == e then Some (log_of u past) else cut u e past)) [
      | true ↦ elim (d == e) as (λ b. (b || has (raised u past) e) ≡ is_some (if b then Some (log_of u past) else cut u e past)) [ true ↦ refl | false ↦ raised_cut u e past ]
      | false ↦ raised_cut u e past
    ]
raised_cut u e (f ∷ past) = raised_cut u e past

-- the epoch to which it rose, where the numbers differ
abbrev risen : ℕ → ℕ → Option ℕ
risen before now = if now == before then None else Some now

module _ (u : ℕ) (past now : Chronicle) (none : (e : ℕ) → epoch u past < e → cut u e past ≡ None) where
  -- no epoch
  same_complete : Same u past now → MayComplete u past now None
  same_complete same e = ap₂ (λ (r : List ℕ) (d : Option Value). has r e && is_some d) same.epochs (same.knows e)

  -- the one to which it rose
  rose_complete : Rose u past now → MayComplete u past now (Some (epoch u now))
  rose_complete rose = (
    ap (λ b. b && is_some (decision u (epoch u now) past)) (raised_cut u (epoch u now) past ∙ ap is_some (none (epoch u now) rose.above)),
    λ e other.
        ap₂ (λ (r : List ℕ) (d : Option Value). has r e && is_some d) rose.epochs (rose.knows e)
        ∙ ap (λ b. (b || has (raised u past) e) && is_some (decision u e past)) other,
  )

  -- as the numbers of the epochs tell it
  pub risen_completes : (before after : ℕ) → before ≡ epoch u past → after ≡ epoch u now → Once u past now → MayComplete u past now (if after == before then None else Some after)
  risen_completes before after was is (inl same) =
      let test : (after == before) ≡ true = let still = same.same_epoch in grind (arith, nat_tests, was, is, still) in
      subst (λ b. MayComplete u past now (if b then None else Some after)) (sym test) (same_complete same)
  risen_completes before after was is (inr rose) =
      let test : (after == before) ≡ false = let up = rose.above in grind (arith, nat_tests, was, is, up) in
      subst (λ b. MayComplete u past now (if b then None else Some after)) (sym test) (subst (λ n. MayComplete u past now (Some n)) (sym is) (rose_complete rose))

-- a node has no cut of a later epoch than its own
pub no_later_cut : {P : Type 0} (policy : P) (rules : Rules) (net : Net) (u : ℕ) (past : Chronicle) (node : Node P) → Keeps policy rules net u node past → (e : ℕ) → epoch u past < e → cut u e past ≡ None
no_later_cut policy rules net u past node keeps e high = sym (keeps.alike.same_cut e) ∙ keeps.snapshots.newest e (subst (λ n. n < e) (sym keeps.alike.same_epoch) high)
