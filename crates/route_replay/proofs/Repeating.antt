-- A task that is done at most so many times: what is left of it leads where the whole does.
use Rattle.std.proofs.Common.{◌≡◌, ℕ, zero, suc, ◌+◌, ◌-◌, ◌<◌, List, refl, sym, ap, ◌∙◌, arith}
use Rattle.chronicle.specs.declared.events.Event.{Event}
use Rattle.world_core.specs.View.{WorldView}
use Rattle.node_core.specs.declared.outputs.Stop.{Stop}
use Rattle.node_core.specs.declared.outputs.Stop.TheVariants as stop
use Rattle.route_replay.specs.Text.{Course, Leads}
use Rattle.route_replay.specs.Running.{Advances, StopsIn}

-- after so many times the world is that of the same network and policy, and what is left leads where the whole does
pub record LeadsOn {P : Type 0} (lead : ℕ → List Event → Course) (old now : WorldView P) (times done : ℕ) : Type 0 where
  pub same_policy : now.policy ≡ old.policy
  pub same_net : now.net ≡ old.net
  pub leads : lead (times - done) now.events ≡ lead times old.events

-- nothing is done yet
pub at_first : {P : Type 0} (lead : ℕ → List Event → Course) (old : WorldView P) (times : ℕ) → LeadsOn lead old old times 0
at_first lead old times =
    let whole : times - 0 ≡ times = omega arith in
    record { same_policy = refl; same_net = refl; leads = ap (λ n. lead n old.events) whole }

stops_as : (led other : Course) (why : Stop) → other ≡ led → StopsIn other why → StopsIn led why
stops_as led other stop.NoMemory same h = tt
stops_as led other (stop.Limit kind number) same h = sym same ∙ h

module _ {P : Type 0} (lead : ℕ → List Event → Course) (old now : WorldView P) (times done : ℕ) (was : LeadsOn lead old now times done) where
  -- all is done
  pub at_end : times - done ≡ zero → lead zero now.events ≡ Leads now.events → Advances old now (lead times old.events)
  at_end none ends = record {
    same_policy = was.same_policy;
    same_net = was.same_net;
    leads = sym was.leads ∙ (ap (λ n. lead n now.events) none ∙ ends);
  }

  module _ (more : done < times) where
    once_more : lead (suc (times - (done + 1))) now.events ≡ lead times old.events
    once_more = let left : suc (times - (done + 1)) ≡ times - done = omega (arith, more) in ap (λ n. lead n now.events) left ∙ was.leads

    -- it ends here
    pub ends_with : (next : WorldView P) → next.policy ≡ now.policy → next.net ≡ now.net → lead (suc (times - (done + 1))) now.events ≡ Leads next.events
        → Advances old next (lead times old.events)
    ends_with next policy net ends = record {
      same_policy = policy ∙ was.same_policy;
      same_net = net ∙ was.same_net;
      leads = sym once_more ∙ ends;
    }

    -- it was done once more
    pub goes_on : (next : WorldView P) → next.policy ≡ now.policy → next.net ≡ now.net → lead (suc (times - (done + 1))) now.events ≡ lead (times - (done + 1)) next.events
        → LeadsOn lead old next times (done + 1)
    goes_on next policy net goes = record {
      same_policy = policy ∙ was.same_policy;
      same_net = net ∙ was.same_net;
      leads = sym goes ∙ once_more;
    }

    -- a limit stops it
    pub stops_with : (why : Stop) → StopsIn (lead (suc (times - (done + 1))) now.events) why → StopsIn (lead times old.events) why
    stops_with why stops = stops_as (lead times old.events) (lead (suc (times - (done + 1))) now.events) why once_more stops
