-- What reading a text says of files and of their first bad line.
use Rattle.std.proofs.Common.{ℕ, List, []}
use Rattle.std.specs.Prelude.{Result, Ok, Err, IfOk, IfErr, IsErr, IsErrAnd}
use Rattle.std.proofs.lemmas.Result.{err_from_is_err_and}
use Rattle.topology.specs.declared.status.BadKind.{BadKind}
use Rattle.schedule_file.specs.declared.lines.Line.{Line}
use Rattle.schedule_file.specs.declared.lines.Schedule.{Schedule}
use Rattle.schedule_file.specs.declared.parser.ParseEnd.{ParseEnd}
use Rattle.schedule_file.specs.declared.parser.ParseEnd.TheVariants.{NoMemory, Bad}
use Rattle.schedule_file.specs.declared.table.Part.{Part}
use Rattle.schedule_file.specs.Spelling.{words_by_line}
use Rattle.schedule_file.specs.Grammar.{ReadsIn, IsRead, IsFile, AreDirected}
use Rattle.schedule_file.specs.Refusals.{FirstBadIn}
use Rattle.schedule_file.specs.Ends.{SaysWhy, IsWantOfMemory, IsBadOrMemory}
use Rattle.schedule_file.proofs.Readings.{none_first, one_first_in}
use Rattle.schedule_file.proofs.Following.{file_follows}

-- a text that can be read is refused only for want of memory
pub for_memory : (behind : Part) (text : List ℕ) (why : ParseEnd) (lines : List Line) → SaysWhy behind text why → ReadsIn behind [] (words_by_line text) lines → IsWantOfMemory why
for_memory behind text NoMemory lines says reads = tt
for_memory behind text (Bad line kind) lines says reads = none_first behind text lines line kind reads says

pub refused_for_memory : {T : Type 0} (behind : Part) (text : List ℕ) (result : Result T ParseEnd) (lines : List Line) → IfErr result (SaysWhy behind text) → ReadsIn behind [] (words_by_line text) lines → IfErr result IsWantOfMemory
refused_for_memory behind text (Ok schedule) lines says reads = tt
refused_for_memory behind text (Err why) lines says reads = for_memory behind text why lines says reads

-- the first bad line is named
pub first_named : (T : Type 0) (behind : Part) (text : List ℕ) (why : ParseEnd) (line : ℕ) (kind : BadKind) → SaysWhy behind text why → FirstBadIn behind text line kind → IsBadOrMemory {T = T} line kind (Err why)
first_named T behind text NoMemory line kind says first = tt
first_named T behind text (Bad n k) line kind says first = one_first_in behind text n line k kind says first

pub named : (behind : Part) (text : List ℕ) (result : Result Schedule ParseEnd) (line : ℕ) (kind : BadKind) → IfOk result (IsRead behind text) → IfErr result (SaysWhy behind text) → FirstBadIn behind text line kind → IsBadOrMemory line kind result
named behind text (Ok schedule) line kind ok says first = none_first behind text ok.0 line kind ok.1 first
named behind text (Err why) line kind ok says first = first_named Schedule behind text why line kind says first

-- the directives name only what the network has
pub follows : (text : List ℕ) (result : Result Schedule ParseEnd) → IfOk result (IsFile text) → IfOk result (λ schedule. AreDirected schedule.topology schedule.lines.items)
follows text (Ok schedule) ok = file_follows text schedule ok
follows text (Err why) ok = tt

-- what holds of an error that `?` passes on
pub handed_all : {T E : Type 0} (r : Result T E) (Q : E → Type 0) (M : Result T E → Type 0) → IsErr r × IsErrAnd r Q → ((e : E) → Q e → M (Err e)) → M r
handed_all r Q M h step =
    let e = err_from_is_err_and r h.1 in
    rw e.1 (step e.0 e.2)
