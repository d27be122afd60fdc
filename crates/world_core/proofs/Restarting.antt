-- What a crash and a restart leave as it was.
use Rattle.std.proofs.Common.{ℕ, Bool, true, false, ◌==◌, None, List, [], ◌∷◌, ◌++◌, ◌≡◌, ◌≢◌, true≢false, refl, sym, ◌∙◌, subst}
use Rattle.std.specs.Prelude.{if◌then◌else◌}
use Rattle.topology.specs.declared.status.Reason.TheVariants as reason
use Rattle.topology.proofs.Tests.{same_not, same_refl}
use Rattle.topology.specs.Net.{Net}
use Rattle.path_vector.specs.Rules.{Rules}
use Rattle.paxos_core.specs.Readings.{open_ballot}
use Rattle.consolidator.specs.Facts.{agreement}
use Rattle.consolidator.specs.Readings.{reports_held}
use Rattle.chronicle.specs.declared.events.Event.{Event}
use Rattle.chronicle.specs.declared.events.Event.TheVariants.{Crash, Restart}
use Rattle.chronicle.specs.Control.{control}
use Rattle.chronicle.specs.Crashes.{crashed}
use Rattle.chronicle.specs.Facts.{Chronicle}
use Rattle.chronicle.specs.Facts as fact
use Rattle.chronicle.specs.Recordings.{recording}
use Rattle.chronicle.specs.Run.{after, chronicle_of, does, run, step}
use Rattle.chronicle.specs.Steps.{Goes, Idle}
use Rattle.world_core.specs.Restarts.{HasNoTallies, IsCrash, IsRestart, KeepsItsOwn, KeepsItsTallies, LosesTalliesAlone, StaysBut}
use Rattle.world_core.proofs.AfterSteps.{run-push}
use Rattle.world_core.proofs.Delivered.{one_more}

-- nothing happened
nothing : (net : Net) (past : Chronicle) (u : ℕ) → StaysBut net past past u
nothing net past u = record {
  own = λ v. record {
    log = refl;
    drops = refl;
    epochs = refl;
    cuts = λ e. refl;
    recordings = λ e w. refl;
    reports = λ e. refl;
    promises = λ e. refl;
    acceptances = λ e. refl;
    rounds = λ e. refl;
    decisions = λ e. refl;
    tables = refl;
  };
  tallies = λ v other. record { collected = λ e. refl; ballots = λ e. refl };
  crashes = λ v other. refl;
  links = λ a b. refl;
  channels = λ a b. refl;
  mails = refl;
  published = refl;
  walks = λ k. refl;
}

-- another node does not crash with u
apart : {T : Type 0} (v u : ℕ) (one other : T) → v ≢ u → (if u == v then one else other) ≡ other
apart v u one other differ = rw (same_not u v (λ same. differ (sym same))) refl

-- u crashed
at_crash : (net : Net) (past : Chronicle) (u : ℕ) → StaysBut net past (fact.Crash u ∷ past) u
unfolding recording
at_crash net past u = record {
  own = λ v. record {
    log = refl;
    drops = refl;
    epochs = refl;
    cuts = λ e. refl;
    recordings = λ e w. refl;
    reports = λ e. refl;
    promises = λ e. refl;
    acceptances = λ e. refl;
    rounds = λ e. refl;
    decisions = λ e. refl;
    tables = refl;
  };
  tallies = λ v other. record {
    collected = λ e. apart v u [] (reports_held v e (control past)) other;
    ballots = λ e. apart v u None (open_ballot (agreement e (control past)) v) other;
  };
  crashes = λ v other. apart v u true (crashed v past) other;
  links = λ a b. refl;
  channels = λ a b. refl;
  mails = refl;
  published = refl;
  walks = λ k. refl;
}

-- u came back
at_restart : (net : Net) (past : Chronicle) (u : ℕ) → StaysBut net past (fact.Restart u ∷ past) u
unfolding recording
at_restart net past u = record {
  own = λ v. record {
    log = refl;
    drops = refl;
    epochs = refl;
    cuts = λ e. refl;
    recordings = λ e w. refl;
    reports = λ e. refl;
    promises = λ e. refl;
    acceptances = λ e. refl;
    rounds = λ e. refl;
    decisions = λ e. refl;
    tables = refl;
  };
  tallies = λ v other. record { collected = λ e. refl; ballots = λ e. refl };
  crashes = λ v other. apart v u false (crashed v past) other;
  links = λ a b. refl;
  channels = λ a b. refl;
  mails = refl;
  published = refl;
  walks = λ k. refl;
}

-- what is said of a crash, of any chronicle that it leaves
record Crashed (net : Net) (past now : Chronicle) (u : ℕ) : Type 0 where
  stays : StaysBut net past now u
  stopped : crashed u now ≡ true
  lost : crashed u past ≡ false → HasNoTallies now u

-- and of a restart
record Returned (net : Net) (past now : Chronicle) (u : ℕ) : Type 0 where
  stays : StaysBut net past now u
  runs : crashed u now ≡ false
  tallies : KeepsItsTallies past now u

-- of a node that ran, or was crashed already
crashed_now : (rules : Rules) (net : Net) (past : Chronicle) (u : ℕ) → Crashed net past (after rules net past (Crash u)) u
unfolding after step does
crashed_now rules net past u =
    elim (crashed u past) as (λ t. crashed u past ≡ t → Crashed net past (chronicle_of past (if t then Idle reason.Crashed else Goes (fact.Crash u ∷ past))) u) [
      | true ↦ λ was. record {
        stays = nothing net past u;
        stopped = was;
        lost = λ ran. absurd (true≢false (sym was ∙ ran));
      }
      | false ↦ λ was. record {
        stays = at_crash net past u;
        stopped = rw (same_refl u) refl;
        lost = λ ran. record { collected = λ e. rw (same_refl u) refl; ballots = λ e. rw (same_refl u) refl };
      }
    ] refl

-- of a node that was crashed, or ran already
returned_now : (rules : Rules) (net : Net) (past : Chronicle) (u : ℕ) → Returned net past (after rules net past (Restart u)) u
unfolding after step does
returned_now rules net past u =
    elim (crashed u past) as (λ t. crashed u past ≡ t → Returned net past (chronicle_of past (if t then Goes (fact.Restart u ∷ past) else Idle reason.NotCrashed)) u) [
      | true ↦ λ was. record {
        stays = at_restart net past u;
        runs = rw (same_refl u) refl;
        tallies = record { collected = λ e. refl; ballots = λ e. refl };
      }
      | false ↦ λ was. record {
        stays = nothing net past u;
        runs = was;
        tallies = record { collected = λ e. refl; ballots = λ e. refl };
      }
    ] refl

module _ (rules : Rules) (net : Net) (events : List Event) (u : ℕ) where
  is_crash : IsCrash rules net events u
  is_crash =
      let there = subst (λ now. Crashed net (run rules net events) now u) (sym (run-push rules net events (Crash u))) (crashed_now rules net (run rules net events) u) in
      record { stays = there.stays; delivered = one_more rules net events (Crash u); stopped = there.stopped; lost = there.lost }

  is_restart : IsRestart rules net events u
  is_restart =
      let there = subst (λ now. Returned net (run rules net events) now u) (sym (run-push rules net events (Restart u))) (returned_now rules net (run rules net events) u) in
      record { stays = there.stays; delivered = one_more rules net events (Restart u); runs = there.runs; tallies = there.tallies }

-- whatever the event is
pub tallies_alone : (rules : Rules) (net : Net) (events : List Event) (event : Event) → LosesTalliesAlone rules net events event
tallies_alone rules net events event = record {
  crash = λ u _. is_crash rules net events u;
  restart = λ u _. is_restart rules net events u;
}
