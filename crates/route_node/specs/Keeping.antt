-- What a process does with its journal.
use Rattle.std.specs.Prelude.{ℕ, ◌≡◌, Option, Some, None, List, Result, Ok, Err}
use Rattle.topology.specs.declared.status.Status.{Status}
use Rattle.topology.specs.declared.status.Status.TheVariants.{NoMemory, Limit, DiskFault}
use Rattle.topology.specs.declared.status.LimitKind.TheVariants.{Journal}
use Rattle.acceptor_journal.specs.Views.{DiskView}
use Rattle.acceptor_journal.specs.Journals.{Appends}
use Rattle.acceptor_journal.specs.declared.journal.JournalEnd.{JournalEnd}
use Rattle.acceptor_journal.specs.declared.journal.JournalEnd.TheVariants as journal
use Rattle.route_node.specs.declared.keeping.TheConstants.{MOST_JOURNAL}

-- the status of a run after a failed call of the journal
abbrev pub ended_by : JournalEnd → Status
ended_by journal.NoMemory = NoMemory
ended_by journal.Fault = DiskFault
ended_by journal.Full = Limit Journal MOST_JOURNAL

-- the journal after a call of it, or the status with which the run ends
abbrev pub kept_as : Result ℕ JournalEnd → Result (Option ℕ) Status
kept_as (Ok gate) = Ok (Some gate)
kept_as (Err end) = Err (ended_by end)

-- a frame of these bytes should be kept; without a journal nothing is done
abbrev pub KeptBy : Option ℕ → List ℕ → DiskView → Result (Option ℕ) Status → DiskView → Type 0
KeptBy None bytes old answer new = (answer ≡ Ok None) × (new ≡ old)
KeptBy (Some gate) bytes old answer new = (end : Result ℕ JournalEnd) × Appends gate bytes old end new × (answer ≡ kept_as end)
