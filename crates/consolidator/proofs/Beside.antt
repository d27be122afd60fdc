-- Facts of other nodes, and the reports that a node mails, leave the node's state as it is.
use Rattle.std.proofs.Common.{ℕ, true, false, ◌≡◌, ◌==◌, refl, sym, ap, subst, List, [], ◌∷◌, length, if◌then◌else◌}
use Rattle.topology.specs.Lists.{ascending}
use Rattle.topology.specs.Net.{Net}
use Rattle.paxos_core.specs.Facts as paxos
use Rattle.paxos_core.proofs.Beside.{acceptor_beside, proposer_beside, started_beside, proposed_beside, decision_beside}
use Rattle.paxos_core.proofs.Beside as others
use Rattle.incomplete_closure.specs.Reports.{Report}
use Rattle.incomplete_closure.specs.declared.values.Value.{Value}
use Rattle.consolidator.specs.declared.parts.Part.{Part}
use Rattle.consolidator.specs.Messages.{Reports, Agrees}
use Rattle.consolidator.specs.Facts.{Fact, Chronicle, Start, Mail, Heard, Crash, Other, fact_in, agreement}
use Rattle.consolidator.specs.Readings.{held_by, reports_held, known}
use Rattle.consolidator.specs.Beside.{IsBeside}
use Rattle.consolidator.specs.Keeping.{Kept, part_in}
use Rattle.consolidator.specs.Parts as part
use Rattle.consolidator.specs.Standing.{StandsFor}
use Rattle.consolidator.proofs.Parting.{goes_on, stands_other}

-- in the agreement of an epoch, too, the fact is not u's
fact_beside : (e u : ℕ) (f : Fact) → IsBeside u f → others.IsBeside u (fact_in e f)
fact_beside e u (Start node d b) q = elim (d == e) as (λ t. others.IsBeside {V = Value} u (if t then paxos.Start node b else paxos.Other)) [ true ↦ q | false ↦ tt ]
fact_beside e u (Mail from to (Reports report)) q = tt
fact_beside e u (Mail from to (Agrees d m)) q = elim (d == e) as (λ t. others.IsBeside {V = Value} u (if t then paxos.Mail from to m else paxos.Other)) [ true ↦ q | false ↦ tt ]
fact_beside e u (Heard node from (Reports report)) q = tt
fact_beside e u (Heard node from (Agrees d m)) q = elim (d == e) as (λ t. others.IsBeside {V = Value} u (if t then paxos.Heard node from m else paxos.Other)) [ true ↦ q | false ↦ tt ]
fact_beside e u (Crash node) q = q
fact_beside e u Other q = tt

-- the reports that u holds stay as they were
reports_beside : (past : Chronicle) (u e : ℕ) (f : Fact) → IsBeside u f → reports_held u e (f ∷ past) ≡ reports_held u e past
reports_beside past u e (Start node d b) q = refl
reports_beside past u e (Mail from to m) q = refl
reports_beside past u e (Heard node from m) q = ap (λ t. if t then held_by e m (reports_held u e past) else reports_held u e past) q
reports_beside past u e (Crash node) q = ap (λ t. if t then [] else reports_held u e past) q
reports_beside past u e Other q = refl

-- u's part in an agreement stays as it was
part_beside : (n : ℕ) (kept : Part) (past : paxos.Chronicle Value) (reports : List Report) (u : ℕ) (f : paxos.Fact Value) → others.IsBeside u f
    → part.StandsFor n kept past reports u → part.StandsFor n kept (f ∷ past) reports u
part_beside n kept past reports u f q h =
    goes_on n kept kept.acceptor kept.proposer (f ∷ past) past reports u
    (acceptor_beside kept.acceptor past u f q h.acceptor)
    (proposer_beside n kept.proposer past u f q h.proposer)
    (record { started = started_beside past u f q; proposed = λ b. proposed_beside past u b f q; decision = decision_beside past u f q }) refl h

-- a fact that is not u's leaves u's state
pub stands_beside : (net : Net) (kept : Kept) (past : Chronicle) (u : ℕ) (f : Fact) → IsBeside u f → StandsFor net kept past u → StandsFor net kept (f ∷ past) u
stands_beside net kept past u f q h =
    let n = length (ascending net.consolidators) in
    record {
      number = h.number;
      each = λ e.
          let p = part_in u e kept.parts in
          subst (λ (rs : List Report). part.StandsFor n p (agreement e (f ∷ past)) rs u) (sym (reports_beside past u e f q))
          (part_beside n p (agreement e past) (reports_held u e past) u (fact_in e f) (fact_beside e u f q) (h.each e));
    }

-- a report that u mails leaves u's state
pub stands_reported : (net : Net) (kept : Kept) (past : Chronicle) (u to : ℕ) (report : Report) → StandsFor net kept past u → StandsFor net kept (Mail u to (Reports report) ∷ past) u
stands_reported net kept past u to report h = record {
  number = h.number;
  each = λ e. stands_other (length (ascending net.consolidators)) (part_in u e kept.parts) (agreement e past) (reports_held u e past) u (h.each e);
}

-- the decision of an epoch that u knows stays as it was
pub known_beside : (past : Chronicle) (u e : ℕ) (f : Fact) → IsBeside u f → known u e (f ∷ past) ≡ known u e past
known_beside past u e f q = decision_beside (agreement e past) u (fact_in e f) (fact_beside e u f q)

-- it also stays when u mails a report
pub known_reported : (past : Chronicle) (u e to : ℕ) (report : Report) → known u e (Mail u to (Reports report) ∷ past) ≡ known u e past
known_reported past u e to report = refl
