-- How a node with a journal ends, from what it kept and how it ends over its link.
use Rattle.std.proofs.Common.{ℕ, ◌+◌, ◌<◌, ◌≤◌, ◌≡◌, ◌⊎◌, inl, inr, ⊎_elim, Option, Some, None, List, [], ◌∷◌, ◌++◌, length, Result, Ok, Err, IsErrOf, refl, sym, ap, ◌∙◌, subst, arith}
use Rattle.std.proofs.lemmas.Bool.{cases_lt}
use Rattle.topology.specs.declared.status.LimitKind.TheVariants.{Journal}
use Rattle.topology.specs.declared.status.Status.{Status}
use Rattle.topology.specs.declared.status.Status.TheVariants.{Limit, LinkFault, DiskFault}
use Rattle.route_io.specs.Causes.{Rose}
use Rattle.route_io.specs.Views.{LinkView}
use Rattle.acceptor_journal.specs.Views.{DiskView}
use Rattle.acceptor_journal.specs.JournalFiles.{HoldsKept}
use Rattle.acceptor_journal.specs.Durable.{HasKept}
use Rattle.acceptor_journal.specs.Records.{Back, place_behind}
use Rattle.acceptor_journal.specs.declared.journal.JournalEnd.{JournalEnd}
use Rattle.acceptor_journal.specs.declared.journal.JournalEnd.TheVariants as journal
use Rattle.acceptor_journal.proofs.Durable.{each_append}
use Rattle.acceptor_journal.proofs.Moments.{left_now}
use Rattle.wire_frames.specs.declared.frames.Frame.{Frame}
use Rattle.wire_frames.specs.Frames.{spell}
use Rattle.route_node.specs.declared.keeping.TheConstants.{MOST_JOURNAL}
use Rattle.route_node.specs.Keeping.{KeptBy, ended_by, kept_as}
use Rattle.route_node.specs.Running.{EndsServing, KeepsFrames}
use Rattle.route_node.specs.Served.{BreaksOff}
use Rattle.route_node.specs.ServedKept.{AreInFront, HasKeptBehind, MayBeAhead, ServedKept}
use Rattle.route_node.specs.Streams.{journal_limit}
use Rattle.route_node.specs.Who.{Who, spellings}
use Rattle.route_node.proofs.Journaled.{Tried, WasKept, appended_moments, deeper, kept_not, no_room, rests_behind, room_left, telling_both, what_was_kept}

-- the disk is as the last frame left its journal
pub served_at_rest : (who : Who) (first link : LinkView) (begun disk : DiskView) (now : Option ℕ) (frames : List Frame) (status : Status) → KeepsFrames who first.incoming begun now disk frames → EndsServing who first link frames status
    → (status ≡ DiskFault → ⊥) → ServedKept who first link begun disk status
served_at_rest who first link begun disk now frames status keeps ends quiet = record {
  served = ends.served;
  moments = keeps.moments;
  exit = λ records h. record {
    frames = frames;
    answered = ends.answered;
    kept = λ image left. inl (rests_behind who.records frames disk (records ++ spellings frames) (keeps.kept records h) image left).0;
  };
  disk_fault = record { later = let e = keeps.quiet in omega (arith, e); rose = λ e. absurd (quiet e); quiet = λ _. keeps.quiet };
  telling = keeps.telling;
}

-- what an end of the journal means for a run
ahead_of : (end : JournalEnd) → (end ≡ journal.Full → ⊥) → MayBeAhead (ended_by end)
ahead_of journal.NoMemory not_full = inl refl
ahead_of journal.Fault not_full = inr refl
ahead_of journal.Full not_full = absurd (not_full refl)

abbrev ended : JournalEnd → Result ℕ JournalEnd
ended end = Err end

is_fault : (end : JournalEnd) → ended_by end ≡ DiskFault → IsErrOf (ended end) journal.Fault
is_fault journal.NoMemory e = absurd (cc e)
is_fault journal.Fault e = refl
is_fault journal.Full e = absurd (cc e)

of_fault : (end : JournalEnd) → IsErrOf (ended end) journal.Fault → ended_by end ≡ DiskFault
of_fault journal.NoMemory e = absurd (cc e)
of_fault journal.Fault e = refl
of_fault journal.Full e = absurd (cc e)

not_link : (end : JournalEnd) → ended_by end ≡ LinkFault → ⊥
not_link journal.NoMemory e = cc e
not_link journal.Fault e = cc e
not_link journal.Full e = cc e

breaks : (records : List Frame) (end : JournalEnd) → (end ≡ journal.Full → ⊥) → BreaksOff (Some records) (ended_by end)
breaks records journal.NoMemory not_full = inl refl
breaks records journal.Fault not_full = inr (inr refl)
breaks records journal.Full not_full = absurd (not_full refl)

module _ (who : Who) (first link : LinkView) (begun mid : DiskView) (now : Option ℕ) (frames : List Frame) (keeps : KeepsFrames who first.incoming begun now mid frames) (f : Frame) where
  -- an append failed, and may have written the record or not
  served_torn : (with_records : List Frame) → who.records ≡ Some with_records → (end : JournalEnd) (new : DiskView) → Tried with_records frames f mid (Err end) new → (end ≡ journal.Full → ⊥) → AreInFront who first.incoming (f ∷ frames)
      → EndsServing who first link frames (ended_by end) → ServedKept who first link begun new (ended_by end)
  served_torn with_records is end new tried not_full front ends = record {
    served = ends.served;
    moments = appended_moments who first.incoming begun mid now frames keeps f with_records is (Err end) new tried front;
    exit = λ records h.
        let there : HasKept (place_behind (spellings (frames ++ with_records))) mid (records ++ spellings frames) = subst (λ r. HasKeptBehind r frames mid (records ++ spellings frames)) is (keeps.kept records h) in
        let moments = (each_append (place_behind (spellings (frames ++ with_records))) (records ++ spellings frames) (spell f) mid new (Err end) tried.appends there).moments in
        record {
          frames = frames;
          answered = ends.answered;
          kept = λ image left.
              let holds = moments.each image (left_now mid new (HoldsKept (records ++ spellings frames) (Some (spell f))) there.durable.acts moments there.durable.told image left) in
              ⊎_elim
              (λ (same : Back image ≡ records ++ spellings frames). inl same)
              (λ (more : Back image ≡ (records ++ spellings frames) ++ spell f ∷ []). inr (ahead_of end not_full, record { next = f; front = front; back = more ∙ deeper records f frames }))
              holds.kept;
        };
    disk_fault = record {
      later = subst (λ n. n ≤ new.faults) keeps.quiet tried.appends.fault.later;
      rose = λ e. subst (λ n. Rose n new.faults) keeps.quiet (tried.appends.fault.rose (is_fault end e));
      quiet = λ no. tried.appends.fault.quiet (λ e. no (of_fault end e)) ∙ keeps.quiet;
    };
    telling = telling_both begun mid new keeps.telling tried.appends.telling;
  }

  -- the frame was not kept
  pub served_unkept : (status : Status) (new : DiskView) → KeptBy now (spell f) mid (Err status) new
      → (BreaksOff who.records status → (status ≡ LinkFault → ⊥) → EndsServing who first link frames status)
      → (journal_limit who.records frames f ≡ Some (record { kind = Journal; number = MOST_JOURNAL }) → EndsServing who first link frames (Limit Journal MOST_JOURNAL))
      → (journal_limit who.records frames f ≡ None → AreInFront who first.incoming (f ∷ frames)) → ServedKept who first link begun new status
  served_unkept status new kept broken full front = by_case (what_was_kept who.records frames f now mid (kept_not status) new keeps.has kept)
    where
      by_end : (with_records : List Frame) → who.records ≡ Some with_records → (end : JournalEnd) → Tried with_records frames f mid (Err end) new → status ≡ ended_by end → (end ≡ journal.Full) ⊎ (end ≡ journal.Full → ⊥)
          → ServedKept who first link begun new status
      by_end with_records is end tried same (inl at_full) =
          let beyond = tried.appends.full.0 (ap ended at_full) in
          let still = tried.appends.full_same (ap ended at_full) in
          let limit = ap (λ r. journal_limit r frames f) is ∙ no_room with_records frames f beyond in
          subst (λ d. ServedKept who first link begun d status) (sym still)
          (subst (ServedKept who first link begun mid) (sym (same ∙ ap ended_by at_full)) (served_at_rest who first link begun mid now frames (Limit Journal MOST_JOURNAL) keeps (full limit) (λ e. cc e)))
      by_end with_records is end tried same (inr not_full) =
          let fits : place_behind (spellings (frames ++ with_records)) + (6 + length (spell f)) ≤ MOST_JOURNAL =
          ⊎_elim (λ (beyond : MOST_JOURNAL < place_behind (spellings (frames ++ with_records)) + (6 + length (spell f))). absurd (not_full (let e = tried.appends.full.1 beyond in cc e)))
          (λ (fit : place_behind (spellings (frames ++ with_records)) + (6 + length (spell f)) ≤ MOST_JOURNAL). fit)
          (cases_lt MOST_JOURNAL (place_behind (spellings (frames ++ with_records)) + (6 + length (spell f)))) in
          let room = ap (λ r. journal_limit r frames f) is ∙ room_left with_records frames f fits in
          let why : BreaksOff who.records (ended_by end) = subst (λ r. BreaksOff r (ended_by end)) (sym is) (breaks with_records end not_full) in
          let over : EndsServing who first link frames (ended_by end) = subst (EndsServing who first link frames) same (broken (subst (BreaksOff who.records) (sym same) why) (λ e. not_link end (sym same ∙ e))) in
          subst (ServedKept who first link begun new) (sym same) (served_torn with_records is end new tried not_full (front room) over)

      is_full : (end : JournalEnd) → (end ≡ journal.Full) ⊎ (end ≡ journal.Full → ⊥)
      is_full journal.NoMemory = inr (λ e. cc e)
      is_full journal.Fault = inr (λ e. cc e)
      is_full journal.Full = inl refl

      with_journal : (with_records : List Frame) → who.records ≡ Some with_records → (end : Result ℕ JournalEnd) → Tried with_records frames f mid end new → kept_not status ≡ kept_as end → ServedKept who first link begun new status
      with_journal with_records is (Ok gate) tried same = absurd (cc same)
      with_journal with_records is (Err end) tried same = let one : status ≡ ended_by end = cc same in by_end with_records is end tried one (is_full end)

      by_case : WasKept who.records frames f mid (kept_not status) new
          → ServedKept who first link begun new status
      by_case (inl (is, same, still)) = absurd (cc same)
      by_case (inr (with_records, is, end, tried, same)) = with_journal with_records is end tried same
