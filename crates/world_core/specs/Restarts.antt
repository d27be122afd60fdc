-- The parts of a run that a crash and a restart keep, and those that a crash loses.
use Rattle.std.specs.Prelude.{ℕ, ◌≡◌, ◌≢◌, None, List, [], ◌∷◌, ◌++◌, true, false}
use Rattle.topology.specs.Net.{Net}
use Rattle.path_vector.specs.Rules.{Rules}
use Rattle.paxos_core.specs.Readings.{accepted, open_ballot, promised, started}
use Rattle.consolidator.specs.Facts.{agreement}
use Rattle.consolidator.specs.Readings.{reports_held}
use Rattle.chronicle.specs.declared.events.Event.{Event}
use Rattle.chronicle.specs.declared.events.Event.TheVariants.{Crash, Restart}
use Rattle.chronicle.specs.Channels.{channel}
use Rattle.chronicle.specs.Control.{control, decision, mailed}
use Rattle.chronicle.specs.Crashes.{crashed}
use Rattle.chronicle.specs.Deliveries.{deliveries}
use Rattle.chronicle.specs.Drops.{dropped, reported_cut}
use Rattle.chronicle.specs.Epochs.{cut, epoch}
use Rattle.chronicle.specs.Facts.{Chronicle}
use Rattle.chronicle.specs.Links.{link}
use Rattle.chronicle.specs.Logs.{log_of}
use Rattle.chronicle.specs.Publications.{publications}
use Rattle.chronicle.specs.Recordings.{recording}
use Rattle.chronicle.specs.Run.{run}
use Rattle.run_record.specs.Publications.{all_published}
use Rattle.run_record.specs.Walks.{walk_of}

-- node v keeps its log and the count of dropped entries, its epoch, its cuts and recordings, its reports, its promises,
-- acceptances and last started ballot in each agreement, the decisions that it knows, and its tables
pub record KeepsItsOwn (net : Net) (past now : Chronicle) (v : ℕ) : Type 0 where
  pub log : log_of v now ≡ log_of v past
  pub drops : dropped net v now ≡ dropped net v past
  pub epochs : epoch v now ≡ epoch v past
  pub cuts : (e : ℕ) → cut v e now ≡ cut v e past
  pub recordings : (e w : ℕ) → recording v e w now ≡ recording v e w past
  pub reports : (e : ℕ) → reported_cut net v e now ≡ reported_cut net v e past
  pub promises : (e : ℕ) → promised (agreement e (control now)) v ≡ promised (agreement e (control past)) v
  pub acceptances : (e : ℕ) → accepted (agreement e (control now)) v ≡ accepted (agreement e (control past)) v
  pub rounds : (e : ℕ) → started (agreement e (control now)) v ≡ started (agreement e (control past)) v
  pub decisions : (e : ℕ) → decision v e now ≡ decision v e past
  pub tables : publications v now ≡ publications v past

-- node v keeps what a crash loses: the reports that it collected for each epoch, and the ballot that it has open in
-- each agreement, for which it counts promises and acceptances
pub record KeepsItsTallies (past now : Chronicle) (v : ℕ) : Type 0 where
  pub collected : (e : ℕ) → reports_held v e (control now) ≡ reports_held v e (control past)
  pub ballots : (e : ℕ) → open_ballot (agreement e (control now)) v ≡ open_ballot (agreement e (control past)) v

-- node u has no collected reports, and no ballot open
pub record HasNoTallies (now : Chronicle) (u : ℕ) : Type 0 where
  pub collected : (e : ℕ) → reports_held u e (control now) ≡ []
  pub ballots : (e : ℕ) → open_ballot (agreement e (control now)) u ≡ None

-- everything is as it was, but whether node u is crashed, and its tallies
pub record StaysBut (net : Net) (past now : Chronicle) (u : ℕ) : Type 0 where
  pub own : (v : ℕ) → KeepsItsOwn net past now v
  pub tallies : (v : ℕ) → v ≢ u → KeepsItsTallies past now v
  pub crashes : (v : ℕ) → v ≢ u → crashed v now ≡ crashed v past
  pub links : (a b : ℕ) → link a b now ≡ link a b past
  pub channels : (a b : ℕ) → channel a b now ≡ channel a b past
  pub mails : mailed now ≡ mailed past
  pub published : all_published now ≡ all_published past
  pub walks : (k : ℕ) → walk_of k now ≡ walk_of k past

-- a crash stops its node, and the node loses its tallies if it ran; everything else is as it was, the counts of
-- deliveries too
pub record IsCrash (rules : Rules) (net : Net) (events : List Event) (u : ℕ) : Type 0 where
  pub stays : StaysBut net (run rules net events) (run rules net (events ++ Crash u ∷ [])) u
  pub delivered : (k : ℕ) → deliveries rules net (events ++ Crash u ∷ []) k ≡ deliveries rules net events k
  pub stopped : crashed u (run rules net (events ++ Crash u ∷ [])) ≡ true
  pub lost : crashed u (run rules net events) ≡ false → HasNoTallies (run rules net (events ++ Crash u ∷ [])) u

-- a restart brings its node back as it was
pub record IsRestart (rules : Rules) (net : Net) (events : List Event) (u : ℕ) : Type 0 where
  pub stays : StaysBut net (run rules net events) (run rules net (events ++ Restart u ∷ [])) u
  pub delivered : (k : ℕ) → deliveries rules net (events ++ Restart u ∷ []) k ≡ deliveries rules net events k
  pub runs : crashed u (run rules net (events ++ Restart u ∷ [])) ≡ false
  pub tallies : KeepsItsTallies (run rules net events) (run rules net (events ++ Restart u ∷ [])) u

-- what holds of the event, where it is a crash or a restart
pub record LosesTalliesAlone (rules : Rules) (net : Net) (events : List Event) (event : Event) : Type 0 where
  pub crash : (u : ℕ) → event ≡ Crash u → IsCrash rules net events u
  pub restart : (u : ℕ) → event ≡ Restart u → IsRestart rules net events u
