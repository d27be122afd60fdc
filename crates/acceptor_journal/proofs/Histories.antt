-- What the calls of a journal keep, one after another.
use Rattle.std.proofs.Common.{ℕ, ◌+◌, ◌≤◌, ◌<◌, ◌^◌, ◌≡◌, inl, inr, true, false, Option, Some, None, List, [], ◌∷◌, ◌++◌, length, Result, Ok, Err, refl, sym, ap, ◌∙◌, subst, arith, option_map, length-append}
use Rattle.std.proofs.lemmas.Bool.{cases_lt}
use Rattle.route_io.specs.Causes.{StaysTold}
use Rattle.acceptor_journal.specs.Views.{DiskAct, Settled, DiskView}
use Rattle.acceptor_journal.specs.Images.{MayLeave, LeavesNow, LeftSince, LeavesOnly, ReadsAnImage, IsDurable}
use Rattle.acceptor_journal.specs.Disks.{opened}
use Rattle.acceptor_journal.specs.Records.{Back, place_behind}
use Rattle.acceptor_journal.specs.Places.{Place}
use Rattle.acceptor_journal.specs.Durable.{ReadUpTo}
use Rattle.acceptor_journal.specs.JournalFiles.{IsClosed, IsJournalOf}
use Rattle.acceptor_journal.specs.Journals.{KeepsTelling, Opens, Reads, Finishes, Appends, ButForGate, IsMidway, shut, with_record}
use Rattle.acceptor_journal.specs.Histories.{Call, Open, Next, Finish, Append, Crash, CrashIn, Stage, Closed, Reading, Appending, Transition, Keeps, IsHistory, KeepsRecords, CallsInARowAreAHistory, reader_of, keeper_of, restarted, disk_after, stage_after, with_given, given_so_far, kept, pending, further, or_else, under_way, calls}
use Rattle.acceptor_journal.specs.declared.journal.JournalEnd.{JournalEnd}
use Rattle.acceptor_journal.specs.declared.journal.JournalEnd.TheVariants.{NoMemory, Fault, Full}
use Rattle.acceptor_journal.specs.declared.journal.TheConstants.{MOST_JOURNAL_BYTES}
use Rattle.acceptor_journal.proofs.Closing.{durable_reads, durable_left, durable_synced}
use Rattle.acceptor_journal.proofs.Ended.{read_none, read_more, read_all, stays, shuts, gate_within, midway, appended, place_then}
use Rattle.acceptor_journal.proofs.Images.{settled_left, settled_stays}
use Rattle.acceptor_journal.proofs.Moments.{acts_told, left_now, one_act, no_act}
use Rattle.acceptor_journal.proofs.JournalFiles.{holds_kept, at_rest}

-- ---- what holds between two calls

-- a reader after the records that it gave
record HasRead (reader : Place) (view : DiskView) (given : List (List ℕ)) : Type 0 where
  file : List ℕ
  durable : IsDurable view file
  up_to : ReadUpTo reader.at given file
  ended : reader.ended ≡ true → Back file ≡ given

-- a journal at the closed gate after its records
record HasKept (gate : ℕ) (view : DiskView) (records : List (List ℕ)) (further : Option (List ℕ)) : Type 0 where
  file : List ℕ
  durable : IsDurable view file
  closed : IsClosed records file
  place : gate ≡ place_behind records
  none : further ≡ None

abbrev Holds : Stage → DiskView → List Call → Type 0
Holds Closed view past = Unit {0}
Holds (Reading reader) view past = HasRead reader view (given_so_far past)
Holds (Appending gate) view past = HasKept gate view (kept past) (pending past)

record Between (view : DiskView) (holder : Stage) (past : List Call) : Type 0 where
  acts : List DiskAct
  told : view.acts ≡ Some acts
  file : List ℕ
  content : view.content ≡ Some file
  reads : ReadsAnImage view
  images : (image : List ℕ) → LeavesNow view image → IsJournalOf (kept past) (pending past) image
  holds : Holds holder view past

-- and during a call
abbrev Within : Call → DiskView → DiskView → List Call → Type 0
Within call old new past = (image : List ℕ) → LeftSince old new image → IsJournalOf (kept past) (further call past) image

-- ---- what is told

content_told : (old new : Option (List ℕ)) (file : List ℕ) → StaysTold old new → old ≡ Some file → (now : List ℕ) × (new ≡ Some now)
content_told None new file stays is = absurd (cc is)
content_told (Some f) None file stays is = absurd stays
content_told (Some f) (Some g) file stays is = (g, refl)

-- a durable file is still durable if no other file could be left
pub durable_on : (old new : DiskView) (file : List ℕ) → IsDurable old file → LeavesOnly old new (LeavesNow old) → KeepsTelling old new → IsDurable new file
durable_on old new file durable moments telling =
    let acts = acts_told old new (LeavesNow old) durable.acts moments durable.told in
    let content = content_told old.content new.content file telling.told durable.content in
    let only : (image : List ℕ) → MayLeave acts.0 image → image ≡ file =
    λ image may. durable_left old file image durable (moments.each image (left_now old new (LeavesNow old) durable.acts moments durable.told image (acts.0, acts.1, may))) in
    let same : content.0 ≡ file = only content.0 (telling.reads (durable_reads old file durable) acts.0 content.0 acts.1 content.1) in
    record { acts = acts.0; told = acts.1; content = content.1 ∙ ap (λ (l : List ℕ). Some l) same; only = only }

-- ---- one more call

next_between : (P : List ℕ → Type 0) (old new : DiskView) (had has : Stage) (past : List Call) (call : Call) → Between old had past → LeavesOnly old new P → KeepsTelling old new
    → ((image : List ℕ) → LeavesNow new image → IsJournalOf (kept (call ∷ past)) (pending (call ∷ past)) image) → Holds has new (call ∷ past) → Between new has (call ∷ past)
next_between P old new had has past call b moments telling images holds =
    let acts = acts_told old new P b.acts moments b.told in
    let content = content_told old.content new.content b.file telling.told b.content in
    record { acts = acts.0; told = acts.1; file = content.0; content = content.1; reads = telling.reads b.reads; images = images; holds = holds }

-- what a crash may leave now is among what it might have left since
then_left : (P : List ℕ → Type 0) (old new : DiskView) (had : Stage) (past : List Call) → Between old had past → LeavesOnly old new P → (image : List ℕ) → LeavesNow new image → LeftSince old new image
then_left P old new had past b moments image left = left_now old new P b.acts moments b.told image left

-- ---- opening

open_holds : (name : List ℕ) (answer : Result Place JournalEnd) (old new : DiskView) (had : Stage) (past : List Call) → Between old had past → Opens name old answer new → Holds (reader_of answer) new (Open name answer ∷ past)
open_holds name (Err end) old new had past b o = tt
open_holds name (Ok reader) old new had past b o =
    let done = o.ok reader refl in
    let at : 0 ≡ reader.at = ap (λ (p : Place). p.at) (sym done.0) in
    let not_ended : reader.ended ≡ false = ap (λ (p : Place). p.ended) done.0 in
    record {
      file = b.file;
      durable = subst (λ v. IsDurable v b.file) (sym done.1) (durable_synced (opened name old) b.file _ b.content (ap (option_map _) b.told));
      up_to = subst (λ (n : ℕ). ReadUpTo n [] b.file) at (read_none b.file);
      ended = λ yes_ended. absurd (cc (not_ended, yes_ended));
    }

open_within : (name : List ℕ) (answer : Result Place JournalEnd) (old new : DiskView) (had : Stage) (past : List Call) → Between old had past → Opens name old answer new → Within (Open name answer) old new past
open_within name answer old new had past b o image left = b.images image ((o.moments b.reads).each image left)

open_step : (name : List ℕ) (answer : Result Place JournalEnd) (old new : DiskView) (had : Stage) (past : List Call) → Between old had past → Opens name old answer new → Between new (reader_of answer) (Open name answer ∷ past)
open_step name answer old new had past b o =
    let moments = o.moments b.reads in
    next_between (LeavesNow old) old new had (reader_of answer) past (Open name answer) b moments o.telling
    (λ image left. open_within name answer old new had past b o image (then_left (LeavesNow old) old new had past b moments image left)) (open_holds name answer old new had past b o)

-- ---- reading

read_holds : (reader next : Place) (answer : Result (Option (List ℕ)) JournalEnd) (old new : DiskView) (given : List (List ℕ)) → HasRead reader old given → Reads reader old answer next new → HasRead next new (with_given given answer)
read_holds reader next (Ok (Some bytes)) old new given h r =
    let gives = r.ok (Some bytes) refl h.file h.durable.content in
    let not_ended : next.ended ≡ false = ap (λ (p : Place). p.ended) gives.1 in
    record {
      file = h.file;
      durable = durable_on old new h.file h.durable (r.moments (durable_reads old h.file h.durable)) r.telling;
      up_to = read_more reader.at given h.file bytes next h.up_to gives;
      ended = λ yes_ended. absurd (cc (not_ended, yes_ended));
    }
read_holds reader next (Ok None) old new given h r =
    let gives = r.ok None refl h.file h.durable.content in
    let at : reader.at ≡ next.at = ap (λ (p : Place). p.at) (sym gives.1) in
    record {
      file = h.file;
      durable = durable_on old new h.file h.durable (r.moments (durable_reads old h.file h.durable)) r.telling;
      up_to = subst (λ (n : ℕ). ReadUpTo n given h.file) at h.up_to;
      ended = λ yes_ended. read_all reader.at given h.file next h.up_to gives;
    }
read_holds reader next (Err end) old new given h r =
    let same = r.unmoved refl in
    record {
      file = h.file;
      durable = durable_on old new h.file h.durable (r.moments (durable_reads old h.file h.durable)) r.telling;
      up_to = subst (λ (p : Place). ReadUpTo p.at given h.file) (sym same) h.up_to;
      ended = λ yes_ended. h.ended (ap (λ (p : Place). p.ended) (sym same) ∙ yes_ended);
    }

read_within : (reader next : Place) (answer : Result (Option (List ℕ)) JournalEnd) (old new : DiskView) (past : List Call) → Between old (Reading reader) past → Reads reader old answer next new → Within (Next answer) old new past
read_within reader next answer old new past b r image left = b.images image ((r.moments b.reads).each image left)

read_step : (reader next : Place) (answer : Result (Option (List ℕ)) JournalEnd) (old new : DiskView) (past : List Call) → Between old (Reading reader) past → Reads reader old answer next new → Between new (Reading next) (Next answer ∷ past)
read_step reader next answer old new past b r =
    let moments = r.moments b.reads in
    next_between (LeavesNow old) old new (Reading reader) (Reading next) past (Next answer) b moments r.telling
    (λ image left. read_within reader next answer old new past b r image (then_left (LeavesNow old) old new (Reading reader) past b moments image left))
    (read_holds reader next answer old new (given_so_far past) b.holds r)

-- ---- finishing

-- a durable file is one that may be left
stood_of : (view : DiskView) (holder : Stage) (past : List Call) → Between view holder past → (file : List ℕ) → IsDurable view file → IsJournalOf (kept past) (pending past) file
stood_of view holder past b file durable = b.images file (b.acts, b.told, b.reads b.acts file b.told durable.content)

module _ (reader : Place) (answer : Result ℕ JournalEnd) (old new : DiskView) (past : List Call) (b : Between old (Reading reader) past) (yes_ended : reader.ended ≡ true) (f : Finishes reader.at old answer new) where
  finish_inside : reader.at ≤ length (b.holds.file)
  finish_inside = omega (arith, b.holds.up_to.place, ap length b.holds.up_to.is, length-append b.holds.up_to.front b.holds.up_to.rest)

  finish_moments : LeavesOnly old new (ButForGate reader.at b.holds.file)
  finish_moments = f.moments b.holds.file b.holds.durable finish_inside

  finish_within : Within (Finish answer) old new past
  finish_within image left =
      stays reader.at (given_so_far past) b.holds.file b.holds.up_to (b.holds.ended yes_ended) (kept past) (pending past) (stood_of old (Reading reader) past b b.holds.file b.holds.durable) image
      (finish_moments.each image left)

  finish_closed : IsClosed (given_so_far past) (shut reader.at b.holds.file)
  finish_closed = shuts reader.at (given_so_far past) b.holds.file b.holds.up_to (b.holds.ended yes_ended) (kept past) (pending past) (stood_of old (Reading reader) past b b.holds.file b.holds.durable)

  finish_place : reader.at ≡ place_behind (given_so_far past)
  finish_place = b.holds.up_to.place ∙ b.holds.up_to.fronts.long

finish_step : (reader : Place) (answer : Result ℕ JournalEnd) (old new : DiskView) (past : List Call) → Between old (Reading reader) past → reader.ended ≡ true → Finishes reader.at old answer new → Between new (keeper_of answer) (Finish answer ∷ past)
finish_step reader (Ok gate) old new past b yes_ended f =
    let done = f.ok gate refl b.holds.file b.holds.durable (finish_inside reader (Ok gate) old new past b yes_ended f) in
    let closed = finish_closed reader (Ok gate) old new past b yes_ended f in
    next_between (ButForGate reader.at b.holds.file) old new (Reading reader) (Appending gate) past (Finish (Ok gate)) b (finish_moments reader (Ok gate) old new past b yes_ended f) f.telling
    (λ image left. inl (subst (IsClosed (given_so_far past)) (sym (durable_left new (shut reader.at b.holds.file) image done left)) closed))
    (record { file = shut reader.at b.holds.file; durable = done; closed = closed; place = f.place gate refl ∙ finish_place reader (Ok gate) old new past b yes_ended f; none = refl })
finish_step reader (Err end) old new past b yes_ended f =
    let moments = finish_moments reader (Err end) old new past b yes_ended f in
    next_between (ButForGate reader.at b.holds.file) old new (Reading reader) Closed past (Finish (Err end)) b moments f.telling
    (λ image left. finish_within reader (Err end) old new past b yes_ended f image (then_left (ButForGate reader.at b.holds.file) old new (Reading reader) past b moments image left)) tt

-- ---- appending

module _ (gate : ℕ) (bytes : List ℕ) (answer : Result ℕ JournalEnd) (old new : DiskView) (past : List Call) (b : Between old (Appending gate) past) (a : Appends gate bytes old answer new) where
  append_inside : length bytes < 2 ^ 32 → gate < length (b.holds.file)
  append_inside small = gate_within gate (kept past) bytes b.holds.file b.holds.closed b.holds.place small

  append_small : gate + (6 + length bytes) ≤ MOST_JOURNAL_BYTES → length bytes < 2 ^ 32
  append_small fits = omega (arith, fits)

  append_moments : gate + (6 + length bytes) ≤ MOST_JOURNAL_BYTES → LeavesOnly old new (IsMidway gate bytes b.holds.file)
  append_moments fits = a.moments b.holds.file b.holds.durable (append_inside (append_small fits))

  append_within : Within (Append bytes answer) old new past
  append_within image left = elim (cases_lt MOST_JOURNAL_BYTES (gate + (6 + length bytes))) [
    | inl beyond ↦
        let same : new ≡ old = a.full_same (a.full.1 beyond) in
        let only = no_act old old (LeavesNow old) refl (λ image left. left) in
        at_rest (kept past) (Some bytes) image
        (inl (subst (IsClosed (kept past)) (sym (durable_left old b.holds.file image b.holds.durable (only.each image (subst (λ v. LeftSince old v image) same left)))) b.holds.closed))
    | inr fits ↦ midway gate (kept past) bytes b.holds.file b.holds.closed b.holds.place (append_small fits) image ((append_moments fits).each image left)
  ]

append_step : (gate : ℕ) (bytes : List ℕ) (answer : Result ℕ JournalEnd) (old new : DiskView) (past : List Call) → Between old (Appending gate) past → Appends gate bytes old answer new → Between new (keeper_of answer) (Append bytes answer ∷ past)
append_step gate bytes (Ok next) old new past b a = elim (cases_lt MOST_JOURNAL_BYTES (gate + (6 + length bytes))) [
  | inl beyond ↦ absurd (cc (a.full.1 beyond))
  | inr fits ↦
      let small = append_small gate bytes (Ok next) old new past b a fits in
      let done = a.ok next refl b.holds.file b.holds.durable (append_inside gate bytes (Ok next) old new past b a small) in
      let closed = appended gate (kept past) bytes b.holds.file b.holds.closed b.holds.place small in
      next_between (IsMidway gate bytes b.holds.file) old new (Appending gate) (Appending next) past (Append bytes (Ok next)) b (append_moments gate bytes (Ok next) old new past b a fits) a.telling
      (λ image left. at_rest (kept past ++ bytes ∷ []) (pending past) image (inl (subst (IsClosed (kept past ++ bytes ∷ [])) (sym (durable_left new (with_record 1 gate bytes b.holds.file) image done left)) closed)))
      (record {
        file = with_record 1 gate bytes b.holds.file;
        durable = done;
        closed = closed;
        place = a.place next refl ∙ place_then gate (kept past) bytes b.holds.file b.holds.closed b.holds.place small;
        none = b.holds.none;
      })
]
append_step gate bytes (Err Full) old new past b a =
    let same : new ≡ old = a.full_same refl in
    let moments = no_act old new (LeavesNow old) (ap (λ (v : DiskView). v.acts) same) (λ image left. left) in
    next_between (LeavesNow old) old new (Appending gate) Closed past (Append bytes (Err Full)) b moments a.telling (λ image left. b.images image (subst (λ v. LeavesNow v image) same left)) tt
append_step gate bytes (Err Fault) old new past b a = elim (cases_lt MOST_JOURNAL_BYTES (gate + (6 + length bytes))) [
  | inl beyond ↦ absurd (cc (a.full.1 beyond))
  | inr fits ↦
      let moments = append_moments gate bytes (Err Fault) old new past b a fits in
      next_between (IsMidway gate bytes b.holds.file) old new (Appending gate) Closed past (Append bytes (Err Fault)) b moments a.telling
      (λ image left. append_within gate bytes (Err Fault) old new past b a image (then_left (IsMidway gate bytes b.holds.file) old new (Appending gate) past b moments image left)) tt
]
append_step gate bytes (Err NoMemory) old new past b a = elim (cases_lt MOST_JOURNAL_BYTES (gate + (6 + length bytes))) [
  | inl beyond ↦ absurd (cc (a.full.1 beyond))
  | inr fits ↦
      let moments = append_moments gate bytes (Err NoMemory) old new past b a fits in
      next_between (IsMidway gate bytes b.holds.file) old new (Appending gate) Closed past (Append bytes (Err NoMemory)) b moments a.telling
      (λ image left. append_within gate bytes (Err NoMemory) old new past b a image (then_left (IsMidway gate bytes b.holds.file) old new (Appending gate) past b moments image left)) tt
]

-- ---- a crash

-- during this call, the files that could be left before it are among those that may be left
still_left : (call : Call) (had : Stage) (old new : DiskView) (has : Stage) (past : List Call) → Between old had past → Keeps call had old new has → (image : List ℕ) → LeavesNow old image → IsJournalOf (kept past) (or_else (under_way call) (pending past)) image
still_left (Open name answer) had old new has past b keeps image left = b.images image left
still_left (Next answer) had old new has past b keeps image left = b.images image left
still_left (Finish answer) had old new has past b keeps image left = b.images image left
still_left (Append bytes answer) Closed old new has past b keeps image left = absurd keeps
still_left (Append bytes answer) (Reading reader) old new has past b keeps image left = absurd keeps
still_left (Append bytes answer) (Appending gate) old new has past b keeps image left =
    at_rest (kept past) (Some bytes) image (inl (subst (IsClosed (kept past)) (sym (durable_left old b.holds.file image b.holds.durable left)) b.holds.closed))
still_left (Crash other) had old new has past b keeps image left = b.images image left
still_left (CrashIn call other) had old new has past b keeps image left = still_left call had old keeps.0 keeps.1 past b keeps.2 image left

module _ (crash : Call) (shape : Option (List ℕ)) (image : List ℕ) (old : DiskView) (had : Stage) (past : List Call) (b : Between old had past)
    (left : IsJournalOf (kept past) shape image) (still : (other : List ℕ) → LeavesNow old other → IsJournalOf (kept past) shape other)
    (same : (other : List ℕ) → IsJournalOf (kept past) shape other → IsJournalOf (kept (crash ∷ past)) (pending (crash ∷ past)) other) where
  crash_leaves : (other : List ℕ) → LeavesNow (restarted image old) other → IsJournalOf (kept past) shape other
  crash_leaves other now =
      let acts : now.0 ≡ Settled image ∷ b.acts = cc (sym now.1 ∙ ap (option_map (λ before. Settled image ∷ before)) b.told) in
      subst (IsJournalOf (kept past) shape) (sym (settled_left image b.acts other (subst (λ l. MayLeave l other) acts now.2))) left

  crash_moments : LeavesOnly old (restarted image old) (IsJournalOf (kept past) shape)
  crash_moments = one_act old (restarted image old) (Settled image) (IsJournalOf (kept past) shape) refl still crash_leaves

  crash_telling : KeepsTelling old (restarted image old)
  crash_telling = record {
    reads = λ was acts file told content.
        let here : file ≡ image = cc content in
        let all : acts ≡ Settled image ∷ b.acts = cc (sym told ∙ ap (option_map (λ before. Settled image ∷ before)) b.told) in
        subst (λ l. MayLeave l file) (sym all) (subst (MayLeave (Settled image ∷ b.acts)) (sym here) (settled_stays image b.acts));
    told = subst (λ c. StaysTold c (Some image)) (sym b.content) tt;
  }

  crash_step : Between (restarted image old) Closed (crash ∷ past)
  crash_step =
      next_between (IsJournalOf (kept past) shape) old (restarted image old) had Closed past crash b crash_moments crash_telling (λ other now. same other (crash_leaves other now)) tt

-- ---- all calls

-- each call keeps what holds between two calls, and meanwhile leaves only files of the records
record Advances (call : Call) (old new : DiskView) (has : Stage) (past : List Call) : Type 0 where
  within : Within call old new past
  between : Between new has (call ∷ past)

each_step : (call : Call) (had : Stage) (old new : DiskView) (has : Stage) (past : List Call) → Between old had past → Keeps call had old new has → Advances call old new has past
each_step (Open name answer) had old new has past b keeps = record {
  within = open_within name answer old new had past b keeps.0;
  between = subst (λ (x : Stage). Between new x (Open name answer ∷ past)) (sym keeps.1) (open_step name answer old new had past b keeps.0);
}
each_step (Next answer) Closed old new has past b keeps = absurd keeps
each_step (Next answer) (Appending gate) old new has past b keeps = absurd keeps
each_step (Next answer) (Reading reader) old new Closed past b keeps = absurd keeps
each_step (Next answer) (Reading reader) old new (Appending gate) past b keeps = absurd keeps
each_step (Next answer) (Reading reader) old new (Reading next) past b keeps = record {
  within = read_within reader next answer old new past b keeps;
  between = read_step reader next answer old new past b keeps;
}
each_step (Finish answer) Closed old new has past b keeps = absurd keeps
each_step (Finish answer) (Appending gate) old new has past b keeps = absurd keeps
each_step (Finish answer) (Reading reader) old new has past b keeps = record {
  within = finish_within reader answer old new past b keeps.0 keeps.1;
  between = subst (λ (x : Stage). Between new x (Finish answer ∷ past)) (sym keeps.2) (finish_step reader answer old new past b keeps.0 keeps.1);
}
each_step (Append bytes answer) Closed old new has past b keeps = absurd keeps
each_step (Append bytes answer) (Reading reader) old new has past b keeps = absurd keeps
each_step (Append bytes answer) (Appending gate) old new has past b keeps = record {
  within = append_within gate bytes answer old new past b keeps.0;
  between = subst (λ (x : Stage). Between new x (Append bytes answer ∷ past)) (sym keeps.1) (append_step gate bytes answer old new past b keeps.0);
}
each_step (Crash image) had old new has past b keeps =
    let left = b.images image keeps.0 in
    record {
      within = λ other now. (crash_moments (Crash image) (pending past) image old had past b left b.images (λ other is. is)).each other (subst (λ v. LeftSince old v other) keeps.1 now);
      between = subst (λ (x : Stage). Between new x (Crash image ∷ past)) (sym keeps.2)
          (subst (λ v. Between v Closed (Crash image ∷ past)) (sym keeps.1) (crash_step (Crash image) (pending past) image old had past b left b.images (λ other is. is)));
    }
each_step (CrashIn call image) had old new has past b keeps =
    let shape = or_else (under_way call) (pending past) in
    let left = (each_step call had old keeps.0 keeps.1 past b keeps.2).within image keeps.3 in
    let still = still_left call had old keeps.0 keeps.1 past b keeps.2 in
    record {
      within = λ other now. (crash_moments (CrashIn call image) shape image old had past b left still (λ other is. is)).each other (subst (λ v. LeftSince old v other) keeps.4 now);
      between = subst (λ (x : Stage). Between new x (CrashIn call image ∷ past)) (sym keeps.5)
          (subst (λ v. Between v Closed (CrashIn call image ∷ past)) (sym keeps.4) (crash_step (CrashIn call image) shape image old had past b left still (λ other is. is)));
    }

between_all : (first : DiskView) (history : List Transition) → IsDurable first [] → IsHistory first history → Between (disk_after first history) (stage_after history) (calls history)
between_all first [] durable are = record {
  acts = durable.acts;
  told = durable.told;
  file = [];
  content = durable.content;
  reads = durable_reads first [] durable;
  images = λ image left. inr (record { none = refl; short = omega (arith, ap length (durable_left first [] image durable left)) });
  holds = tt;
}
between_all first (step ∷ earlier) durable are =
    let b = between_all first earlier durable are.3 in
    let here = subst (λ v. Between v step.had (calls earlier)) (sym are.1) (subst (λ (x : Stage). Between (disk_after first earlier) x (calls earlier)) (sym are.2) b) in
    (each_step step.call step.had step.old step.new step.has (calls earlier) here are.0).between

inside_all : (first : DiskView) (later earlier : List Transition) (step : Transition) → IsDurable first [] → IsHistory first (later ++ step ∷ earlier) → Within step.call step.old step.new (calls earlier)
inside_all first [] earlier step durable are =
    let b = between_all first earlier durable are.3 in
    let here = subst (λ v. Between v step.had (calls earlier)) (sym are.1) (subst (λ (x : Stage). Between (disk_after first earlier) x (calls earlier)) (sym are.2) b) in
    (each_step step.call step.had step.old step.new step.has (calls earlier) here are.0).within
inside_all first (newest ∷ later) earlier step durable are = inside_all first later earlier step durable are.3

pub keeps_records : (first : DiskView) (history : List Transition) → IsDurable first [] → IsHistory first history → KeepsRecords first history
keeps_records first history durable are = record {
  inside = λ later earlier step is image left.
      holds_kept (kept (calls earlier)) (further step.call (calls earlier)) image (inside_all first later earlier step durable (subst (IsHistory first) is are) image left);
  now = λ image left. holds_kept (kept (calls history)) (pending (calls history)) image ((between_all first history durable are).images image left);
}

-- ---- a history

pub calls_in_a_row : CallsInARowAreAHistory
calls_in_a_row name bytes d0 d1 d2 d3 d4 reader ended gate next o r f a = record {
  history =
      record { call = Append bytes (Ok next); old = d3; new = d4; had = Appending gate; has = Appending next }
      ∷ record { call = Finish (Ok gate); old = d2; new = d3; had = Reading ended; has = Appending gate }
      ∷ record { call = Next (Ok None); old = d1; new = d2; had = Reading reader; has = Reading ended }
      ∷ record { call = Open name (Ok reader); old = d0; new = d1; had = Closed; has = Reading reader }
      ∷ [];
  is = ((a, refl), refl, refl, ((ap (λ (p : Place). p.ended) (r.at_end refl), f, refl), refl, refl, (r, refl, refl, ((o, refl), refl, refl, tt))));
  ends = refl;
  keeps = refl;
}
