-- Frames that are kept in a journal.
use Rattle.std.proofs.Common.{ℕ, ◌+◌, ◌<◌, ◌≤◌, ◌≡◌, ◌⊎◌, inl, inr, ⊎_elim, true, false, Option, Some, None, List, [], ◌∷◌, ◌++◌, length, take, drop, option_map, Result, Ok, Err, refl, sym, ap, ◌∙◌, subst, append_assoc, arith}
use Rattle.std.specs.Prelude.{nat_lt, if◌then◌else◌}
use Rattle.std.proofs.lemmas.Bool.{cases_lt}
use Rattle.std.proofs.lemmas.Bool.Decides.{nat_tests}
use Rattle.std.proofs.lemmas.List.{append-nil, take_all, take-append-le}
use Rattle.topology.specs.declared.status.LimitKind.TheVariants.{Journal}
use Rattle.topology.specs.declared.status.Status.{Status}
use Rattle.route_io.proofs.Bytes.{told_same, told_on}
use Rattle.acceptor_journal.specs.Views.{DiskView}
use Rattle.acceptor_journal.specs.Images.{LeavesNow, LeavesOnly}
use Rattle.acceptor_journal.specs.JournalFiles.{HoldsKept, IsClosed, IsJournalFile}
use Rattle.acceptor_journal.specs.Journals.{Appends, KeepsTelling}
use Rattle.acceptor_journal.specs.Durable.{HasKept}
use Rattle.acceptor_journal.specs.Records.{Back, place_behind}
use Rattle.acceptor_journal.specs.declared.journal.JournalEnd.{JournalEnd}
use Rattle.acceptor_journal.proofs.Closing.{durable_left}
use Rattle.acceptor_journal.proofs.Durable.{each_append}
use Rattle.acceptor_journal.proofs.JournalFiles.{at_rest, closed_back, place_more}
use Rattle.acceptor_journal.proofs.Moments.{goes_on, started, weaker}
use Rattle.wire_frames.specs.declared.frames.Frame.{Frame}
use Rattle.wire_frames.specs.Frames.{spell}
use Rattle.route_node.specs.declared.keeping.TheConstants.{MOST_JOURNAL}
use Rattle.route_node.specs.Fronts.{Holds}
use Rattle.route_node.specs.Keeping.{KeptBy, kept_as}
use Rattle.route_node.specs.Running.{KeepsFrames}
use Rattle.route_node.specs.ServedKept.{AreInFront, HasKeptBehind, KeepsFront}
use Rattle.route_node.specs.Streams.{stream, journal_limit}
use Rattle.route_node.specs.Who.{Who, spellings}

-- ---- what a disk told before it tells after

pub telling_same : (old new : DiskView) → new ≡ old → KeepsTelling old new
telling_same old new same = subst (KeepsTelling old) (sym same) (record { reads = λ r. r; told = told_same old.content })

pub telling_both : (old mid new : DiskView) → KeepsTelling old mid → KeepsTelling mid new → KeepsTelling old new
telling_both old mid new first second = record { reads = λ r. second.reads (first.reads r); told = told_on old.content mid.content new.content first.told second.told }

-- ---- frames at the front

-- the earlier of some frames at the front
pub fewer : (who : Who) (incoming : Option (List ℕ)) (f : Frame) (frames : List Frame) → AreInFront who incoming (f ∷ frames) → AreInFront who incoming frames
fewer who incoming f frames front = record {
  in_front = λ bytes told. let all = front.in_front bytes told in (spell f ++ all.0, sym (append_assoc (stream frames) (spell f) all.0) ∙ all.1);
  taken = front.taken.3;
}

-- no frame
pub none_in_front : (who : Who) (incoming : Option (List ℕ)) → AreInFront who incoming []
none_in_front who incoming = record { in_front = λ bytes told. (bytes, refl); taken = tt }

-- a durable file has the kept records, and is one of a journal
rests : (gate : ℕ) (disk : DiskView) (records : List (List ℕ)) → HasKept gate disk records → (image : List ℕ) → LeavesNow disk image → (Back image ≡ records) × IsJournalFile image
rests gate disk records h image left =
    let here = durable_left disk h.file image h.durable left in
    let closed = subst (IsClosed records) (sym here) h.closed in
    (closed_back records image closed, record { records = records; further = None; shape = at_rest records None image (inl closed) })

-- the same, of a journal that has taken frames
pub rests_behind : (r : Option (List Frame)) (frames : List Frame) (disk : DiskView) (records : List (List ℕ)) → HasKeptBehind r frames disk records → (image : List ℕ) → LeavesNow disk image
    → (Back image ≡ records) × IsJournalFile image
rests_behind None frames disk records h image left = absurd h
rests_behind (Some first) frames disk records h image left = rests (place_behind (spellings (frames ++ first))) disk records h image left

-- nothing is kept yet
pub keeps_none : (who : Who) (incoming : Option (List ℕ)) (first : DiskView) (journal : Option ℕ) → journal ≡ option_map (λ records. place_behind (spellings records)) who.records → KeepsFrames who incoming first journal first []
keeps_none who incoming first journal has = record {
  has = has;
  moments = λ records h. started first (KeepsFront who incoming records)
      (λ image left.
      let there = rests_behind who.records [] first records h image left in
      record { frames = []; front = none_in_front who incoming; back = there.0 ∙ sym (append-nil records); journal = there.1 });
  kept = λ records h. subst (HasKeptBehind who.records [] first) (sym (append-nil records)) h;
  quiet = refl;
  telling = telling_same first first refl;
}

-- ---- one more frame

-- a record after others is after the frames of these and its own
pub deeper : (records : List (List ℕ)) (f : Frame) (frames : List Frame) → (records ++ spellings frames) ++ spell f ∷ [] ≡ records ++ spellings (f ∷ frames)
deeper records f frames = append_assoc records (spellings frames) (spell f ∷ [])

-- a file at a moment at which the frame was appended
pub moment_of : (who : Who) (incoming : Option (List ℕ)) (records : List (List ℕ)) (f : Frame) (frames : List Frame) → AreInFront who incoming (f ∷ frames)
    → (image : List ℕ) → HoldsKept (records ++ spellings frames) (Some (spell f)) image → KeepsFront who incoming records image
moment_of who incoming records f frames front image holds =
    ⊎_elim
    (λ (same : Back image ≡ records ++ spellings frames). record { frames = frames; front = fewer who incoming f frames front; back = same; journal = holds.journal })
    (λ (more : Back image ≡ (records ++ spellings frames) ++ spell f ∷ []). record { frames = f ∷ frames; front = front; back = more ∙ deeper records f frames; journal = holds.journal })
    holds.kept

-- the next gate
next_gate : (first : List Frame) (f : Frame) (frames : List Frame) → place_behind (spellings (frames ++ first)) + (5 + length (spell f)) ≡ place_behind (spellings ((f ∷ frames) ++ first))
next_gate first f frames = sym (place_more (spellings (frames ++ first)) (spell f))

-- how many bytes one more record may take
abbrev pub IsRoom : ℕ → Frame → Type 0
IsRoom gate f = gate + (6 + length (spell f)) ≤ MOST_JOURNAL

pub room_left : (first before : List Frame) (f : Frame) → IsRoom (place_behind (spellings (before ++ first))) f → journal_limit (Some first) before f ≡ None
room_left first before f fits =
    let test : nat_lt MOST_JOURNAL (place_behind (spellings (before ++ first)) + (6 + length (spell f))) ≡ false = grind (arith, nat_tests, fits) in
    ap (λ b. if b then Some (record { kind = Journal; number = MOST_JOURNAL }) else None) test

pub no_room : (first before : List Frame) (f : Frame) → MOST_JOURNAL < place_behind (spellings (before ++ first)) + (6 + length (spell f))
    → journal_limit (Some first) before f ≡ Some (record { kind = Journal; number = MOST_JOURNAL })
no_room first before f beyond =
    let test : nat_lt MOST_JOURNAL (place_behind (spellings (before ++ first)) + (6 + length (spell f))) ≡ true = grind (arith, nat_tests, beyond) in
    ap (λ b. if b then Some (record { kind = Journal; number = MOST_JOURNAL }) else None) test

-- the result of an append, for the journal of some frames
pub record Tried (first frames : List Frame) (f : Frame) (old : DiskView) (end : Result ℕ JournalEnd) (new : DiskView) : Type 0 where
  pub appends : Appends (place_behind (spellings (frames ++ first))) (spell f) old end new

-- answers when something should be kept
abbrev pub kept_now : Option ℕ → Result (Option ℕ) Status
kept_now next = Ok next

abbrev pub kept_not : Status → Result (Option ℕ) Status
kept_not status = Err status

-- a frame should be kept: without a journal nothing was done; with one it was appended
abbrev pub WasKept : Option (List Frame) → List Frame → Frame → DiskView → Result (Option ℕ) Status → DiskView → Type 0
WasKept r frames f old answer new =
    ((r ≡ None) × (answer ≡ kept_now None) × (new ≡ old)) ⊎ ((first : List Frame) × (r ≡ Some first) × (end : Result ℕ JournalEnd) × Tried first frames f old end new × (answer ≡ kept_as end))

pub what_was_kept : (r : Option (List Frame)) (frames : List Frame) (f : Frame) (now : Option ℕ) (old : DiskView) (answer : Result (Option ℕ) Status) (new : DiskView)
    → now ≡ option_map (λ records. place_behind (spellings (frames ++ records))) r → KeptBy now (spell f) old answer new → WasKept r frames f old answer new
what_was_kept None frames f now old answer new has kept =
    let both : KeptBy None (spell f) old answer new = subst (λ j. KeptBy j (spell f) old answer new) has kept in inl (refl, both.0, both.1)
what_was_kept (Some first) frames f now old answer new has kept =
    let all : KeptBy (Some (place_behind (spellings (frames ++ first)))) (spell f) old answer new = subst (λ j. KeptBy j (spell f) old answer new) has kept in
    inr (first, refl, all.0, record { appends = all.1 }, all.2)

module _ (who : Who) (incoming : Option (List ℕ)) (begun mid : DiskView) (now : Option ℕ) (frames : List Frame) (keeps : KeepsFrames who incoming begun now mid frames) (f : Frame) where
  -- the moments so far, and those of one append
  pub appended_moments : (first : List Frame) → who.records ≡ Some first → (end : Result ℕ JournalEnd) (new : DiskView) → Tried first frames f mid end new → AreInFront who incoming (f ∷ frames)
      → (records : List (List ℕ)) → HasKeptBehind who.records [] begun records → LeavesOnly begun new (KeepsFront who incoming records)
  appended_moments first is end new tried front records h =
      let there : HasKept (place_behind (spellings (frames ++ first))) mid (records ++ spellings frames) = subst (λ r. HasKeptBehind r frames mid (records ++ spellings frames)) is (keeps.kept records h) in
      goes_on begun mid new (KeepsFront who incoming records) (keeps.moments records h)
      (weaker mid new (HoldsKept (records ++ spellings frames) (Some (spell f))) (KeepsFront who incoming records) (moment_of who incoming records f frames front)
      (each_append (place_behind (spellings (frames ++ first))) (records ++ spellings frames) (spell f) mid new end tried.appends there).moments)

  -- it was appended
  appended : (first : List Frame) → who.records ≡ Some first → (gate : ℕ) (new : DiskView) → Tried first frames f mid (Ok gate) new → AreInFront who incoming (f ∷ frames)
      → KeepsFrames who incoming begun (Some gate) new (f ∷ frames)
  appended first is gate new tried front = record {
    has = ap Some (tried.appends.place gate refl ∙ next_gate first f frames) ∙ ap (option_map (λ records. place_behind (spellings ((f ∷ frames) ++ records)))) (sym is);
    moments = appended_moments first is (Ok gate) new tried front;
    kept = λ records h.
        let there : HasKept (place_behind (spellings (frames ++ first))) mid (records ++ spellings frames) = subst (λ r. HasKeptBehind r frames mid (records ++ spellings frames)) is (keeps.kept records h) in
        let done = (each_append (place_behind (spellings (frames ++ first))) (records ++ spellings frames) (spell f) mid new (Ok gate) tried.appends there).kept gate refl in
        subst (λ r. HasKeptBehind r (f ∷ frames) new (records ++ spellings (f ∷ frames))) (sym is)
        (subst (λ g. HasKept g new (records ++ spellings (f ∷ frames))) (tried.appends.place gate refl ∙ next_gate first f frames)
        (subst (HasKept gate new) (deeper records f frames) done));
    quiet = tried.appends.fault.quiet (λ e. absurd (cc e)) ∙ keeps.quiet;
    telling = telling_both begun mid new keeps.telling tried.appends.telling;
  }

  -- if it was kept, there was room, and it is kept after the others
  pub room_there : (next : Option ℕ) (new : DiskView) → KeptBy now (spell f) mid (Ok next) new → journal_limit who.records frames f ≡ None
  room_there next new kept = by_case (what_was_kept who.records frames f now mid (kept_now next) new keeps.has kept)
    where
      fits : (first : List Frame) (end : Result ℕ JournalEnd) → Tried first frames f mid end new → kept_now next ≡ kept_as end → IsRoom (place_behind (spellings (frames ++ first))) f
      fits first (Ok gate) tried same =
          ⊎_elim (λ (beyond : MOST_JOURNAL < place_behind (spellings (frames ++ first)) + (6 + length (spell f))). absurd (cc (tried.appends.full.1 beyond)))
          (λ (fit : place_behind (spellings (frames ++ first)) + (6 + length (spell f)) ≤ MOST_JOURNAL). fit)
          (cases_lt MOST_JOURNAL (place_behind (spellings (frames ++ first)) + (6 + length (spell f))))
      fits first (Err end) tried same = absurd (cc same)

      by_case : WasKept who.records frames f mid (kept_now next) new
          → journal_limit who.records frames f ≡ None
      by_case (inl (is, same, still)) = ap (λ r. journal_limit r frames f) is
      by_case (inr (first, is, end, tried, same)) = ap (λ r. journal_limit r frames f) is ∙ room_left first frames f (fits first end tried same)

  pub keeps_more : (next : Option ℕ) (new : DiskView) → KeptBy now (spell f) mid (Ok next) new → AreInFront who incoming (f ∷ frames) → KeepsFrames who incoming begun next new (f ∷ frames)
  keeps_more next new kept front = by_case (what_was_kept who.records frames f now mid (kept_now next) new keeps.has kept)
    where
      unkept : who.records ≡ None → next ≡ None → new ≡ mid → KeepsFrames who incoming begun next new (f ∷ frames)
      unkept is none same = record {
        has = none ∙ ap (option_map (λ records. place_behind (spellings ((f ∷ frames) ++ records)))) (sym is);
        moments = λ records h. absurd (subst (λ r. HasKeptBehind r [] begun records) is h);
        kept = λ records h. absurd (subst (λ r. HasKeptBehind r [] begun records) is h);
        quiet = ap (λ (d : DiskView). d.faults) same ∙ keeps.quiet;
        telling = telling_both begun mid new keeps.telling (telling_same mid new same);
      }

      with_journal : (first : List Frame) → who.records ≡ Some first → (end : Result ℕ JournalEnd) → Tried first frames f mid end new → kept_now next ≡ kept_as end → KeepsFrames who incoming begun next new (f ∷ frames)
      with_journal first is (Ok gate) tried same =
          let one : Some gate ≡ next = cc same in subst (λ j. KeepsFrames who incoming begun j new (f ∷ frames)) one (appended first is gate new tried front)
      with_journal first is (Err end) tried same = absurd (cc same)

      by_case : WasKept who.records frames f mid (kept_now next) new
          → KeepsFrames who incoming begun next new (f ∷ frames)
      by_case (inl (is, same, still)) = let none : next ≡ None = cc same in unkept is none still
      by_case (inr (first, is, end, tried, same)) = with_journal first is end tried same

-- ---- the bytes of a frame

-- the front of what was received has the bytes of the frame
front_is : (received : List ℕ) (f : Frame) (size : ℕ) → Holds received f size → take size received ≡ spell f
front_is received f size holds =
    let count = holds.size in
    ap (take size) holds.splits ∙ (take-append-le size (spell f) (drop size received) (omega (arith, count)) ∙ take_all size (spell f) (omega (arith, count)))

pub kept_frame : (received bytes : List ℕ) (f : Frame) (size : ℕ) (now : Option ℕ) (old : DiskView) (answer : Result (Option ℕ) Status) (new : DiskView) → Holds received f size → bytes ≡ received
    → KeptBy now (take size bytes) old answer new → KeptBy now (spell f) old answer new
kept_frame received bytes f size now old answer new holds same kept = subst (λ l. KeptBy now l old answer new) (ap (take size) same ∙ front_is received f size holds) kept
