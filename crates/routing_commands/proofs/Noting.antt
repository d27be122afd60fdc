-- What one write of the line leaves.
use Rattle.std.proofs.Common.{ℕ, ◌≡◌, ◌≢◌, Result, Ok, Err, OnOk, OnErr, inl, inr, List, [], ◌∷◌, ◌++◌, refl, ◌∙◌, subst}
use Rattle.std.specs.Io.KnownBytes.{Appends}
use Rattle.topology.specs.declared.status.Status.{Status}
use Rattle.topology.specs.declared.status.Status.TheVariants.{Done, Usage, NoMemory, BadSchedule, Limit, ReadFault, WriteFault, LinkFault, BadFrame, NoSuchNode, DiskFault, BadJournal, BadTables, Inconsistent}
use Rattle.route_io.specs.Causes.{HasCause, AppendsFront}
use Rattle.route_io.specs.Views.{SinkView}
use Rattle.routing_commands.specs.Notes.{Noted, note_words, note_line}

has_line : (status : Status) → status ≢ Done → note_words status ++ 10 ∷ [] ≡ note_line status
has_line Done not_done = absurd (not_done refl)
has_line Usage not_done = refl
has_line NoMemory not_done = refl
has_line (BadSchedule line kind) not_done = refl
has_line (Limit kind number) not_done = refl
has_line ReadFault not_done = refl
has_line WriteFault not_done = refl
has_line LinkFault not_done = refl
has_line (BadFrame offset fault) not_done = refl
has_line (NoSuchNode node) not_done = refl
has_line DiskFault not_done = refl
has_line (BadJournal offset fault) not_done = refl
has_line (BadTables line) not_done = refl
has_line (Inconsistent line kind) not_done = refl

-- the line was written, or a front of it
pub noted_by : {T E : Type 0} (notes notes' : SinkView) (status : Status) (line : List ℕ) (result : Result T E) → status ≢ Done → line ≡ note_words status ++ 10 ∷ []
    → OnOk result (Appends notes.held notes'.held line) → OnErr result (AppendsFront notes.held notes'.held line) → HasCause notes.faults notes'.faults result
    → notes'.room ≡ notes.room → Noted notes notes' status
noted_by notes notes' status line (Ok x) not_done is ok err cause room = record {
  told = inl (subst (Appends notes.held notes'.held) (is ∙ has_line status not_done) ok, cause.quiet);
  counts = cause.later;
  same_room = room;
}
noted_by notes notes' status line (Err x) not_done is ok err cause room = record {
  told = inr (subst (AppendsFront notes.held notes'.held) (is ∙ has_line status not_done) err, cause.failed);
  counts = cause.later;
  same_room = room;
}
