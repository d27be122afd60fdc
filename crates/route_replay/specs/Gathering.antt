-- Text that is gathered in a page before it is written: what was written, and what is pending.
use Rattle.std.specs.Prelude.{ℕ, ◌≡◌, ◌≢◌, ◌-◌, List, ◌++◌, slice_get, IfSome}
use Rattle.std.specs.declared.alloc.Global.{Global}
use Rattle.std.specs.declared.string.String.{String}
use Rattle.std.specs.String.{string_bytes}
use Rattle.std.specs.Io.KnownBytes.{Appends}
use Rattle.topology.specs.Lists.{Begins}
use Rattle.topology.specs.declared.status.LimitKind.{LimitKind}
use Rattle.route_io.specs.Acts.{AddsPieces}
use Rattle.route_io.specs.Causes.{RoseIf, AppendsFront, StaysTold}
use Rattle.route_io.specs.Views.{SinkView}
use Rattle.route_replay.specs.declared.ends.RunEnd.{RunEnd}
use Rattle.route_replay.specs.declared.ends.RunEnd.TheVariants.{WriteFault, Limit}
use Rattle.route_replay.specs.declared.page.Page.{Page}

-- the line with this number, from 1, was added to a text
abbrev pub AddsLine : List (List ℕ) → ℕ → String Global → String Global → Type 0
AddsLine lines number old new = IfSome (slice_get lines (number - 1)) (λ words. string_bytes new ≡ string_bytes old ++ words)

-- a page, as promises see it: the sink that it leads to, and the text that is pending
pub record PageView : Type 0 where
  pub sink : SinkView
  pub pending : List ℕ

-- what a page shows, where the sink shows so much
abbrev pub page_view : {O : Type 0} → (O → SinkView) → Page (String Global) O → PageView
page_view seen page = record { sink = seen page.sink.now; pending = string_bytes page.text }

-- what was written since, and then what is pending, is what was pending before, and then the new text; and the writes were of
-- pieces of what was written
pub record Gathers (old new : PageView) (text : List ℕ) : Type 0 where
  pub wrote : (words : List ℕ) × Appends old.sink.held new.sink.held words × (words ++ new.pending ≡ old.pending ++ text)
  pub pieces : AddsPieces old.sink new.sink wrote.0 wrote.0
  pub stays : StaysTold old.sink.held new.sink.held
  pub same_room : new.sink.room ≡ old.sink.room
  pub quiet : new.sink.faults ≡ old.sink.faults

-- a front of the text was written before the end; where the sink failed it is not the whole; and each write was of a piece
-- of the text
pub record Breaks (sink sink' : SinkView) (text : List ℕ) (why : RunEnd) : Type 0 where
  pub front : (some : List ℕ) × Begins some text × Appends sink.held sink'.held some
  pub cut_off : why ≡ WriteFault → AppendsFront sink.held sink'.held text
  pub pieces : (taken : List ℕ) × AddsPieces sink sink' text taken
  pub no_limit : (kind : LimitKind) (number : ℕ) → why ≢ Limit kind number
  pub stays : StaysTold sink.held sink'.held
  pub same_room : sink'.room ≡ sink.room
  pub cause : RoseIf (why ≡ WriteFault) sink.faults sink'.faults
