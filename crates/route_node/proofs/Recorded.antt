-- Reading back a journal, record by record.
use Rattle.std.proofs.Common.{ℕ, ◌+◌, ◌≤◌, ◌≡◌, ◌⊎◌, inl, inr, true, Option, Some, None, List, [], ◌∷◌, ◌++◌, length, drop, option_map, Result, Ok, Err, IsErr, IsErrAnd, IsErrOf, refl, sym, ap, ◌∙◌, subst, append_assoc, arith}
use Rattle.std.proofs.lemmas.List.{append-nil}
use Rattle.std.proofs.lemmas.Result.{err_from_is_err_and}
use Rattle.topology.specs.declared.frame_faults.FrameFault.{FrameFault}
use Rattle.topology.specs.declared.status.LimitKind.{LimitKind}
use Rattle.topology.specs.declared.status.Status.{Status}
use Rattle.topology.specs.declared.status.Status.TheVariants.{Done, Usage, NoMemory, BadSchedule, Limit, ReadFault, WriteFault, LinkFault, BadFrame, NoSuchNode, DiskFault, BadJournal, BadTables, Inconsistent}
use Rattle.topology.specs.Net.{Net}
use Rattle.topology.specs.Lists.{has}
use Rattle.path_vector.specs.GaoRexford.{gao_rexford}
use Rattle.path_vector.specs.declared.policy.GaoRexford.{GaoRexford}
use Rattle.route_io.specs.Causes.{Rose, RoseIf}
use Rattle.acceptor_journal.specs.Views.{DiskAct, Opened, Settled, Wrote, DiskView}
use Rattle.acceptor_journal.specs.Images.{IsDurable, LeavesOnly}
use Rattle.acceptor_journal.specs.Disks.{settled_by, synced, written}
use Rattle.acceptor_journal.specs.JournalFiles.{IsJournalFile}
use Rattle.acceptor_journal.specs.Places.{Place}
use Rattle.acceptor_journal.specs.Journals.{Opens, Reads, Finishes, KeepsTelling}
use Rattle.acceptor_journal.specs.Durable.{HasRead, HasKept, IsOrOneMore}
use Rattle.acceptor_journal.specs.Records.{Back, place_behind}
use Rattle.acceptor_journal.specs.declared.journal.JournalEnd.{JournalEnd}
use Rattle.acceptor_journal.specs.declared.journal.JournalEnd.TheVariants as journal
use Rattle.acceptor_journal.proofs.Closing.{durable_left}
use Rattle.acceptor_journal.proofs.Durable.{each_opening, each_reading, each_finish}
use Rattle.acceptor_journal.proofs.JournalFiles.{place_more}
use Rattle.acceptor_journal.proofs.Moments.{goes_on, started, weaker}
use Rattle.node_core.specs.Standing.{StandsFor}
use Rattle.node_core.specs.declared.node.Node.{Node}
use Rattle.admission_laws.specs.NodeRuns.{going_on}
use Rattle.wire_frames.specs.declared.frames.Frame.{Frame}
use Rattle.wire_frames.specs.Frames.{spell}
use Rattle.wire_frames.specs.Reading.{Found, Whole, Partial, Wrong, found}
use Rattle.route_node.specs.declared.restoring.Kept.{Kept}
use Rattle.route_node.specs.Frames.{brought}
use Rattle.route_node.specs.Keeping.{ended_by}
use Rattle.route_node.specs.Records.{AreRestored, ComesBack, EndsBack, EndsRecord, StopsIn, record_fault, status_back}
use Rattle.route_node.specs.Restored.{IsRestored, LeavesFile, OpensFirst, Restored, ends_restoring}
use Rattle.route_node.specs.Streams.{Ending, End, Refused, Stopped}
use Rattle.route_node.specs.Who.{Who, afresh, begun, run_over, spellings}
use Rattle.route_node.proofs.Journaled.{telling_both, telling_same}
use Rattle.route_node.proofs.Reread.{back_once}
use Rattle.route_node.proofs.Stopping.{limit_ends_back}

-- ---- the file

-- the records of these frames were read, and nothing else was done
pub record ReadSoFar (name : List ℕ) (old now : DiskView) (reader : Place) (frames : List Frame) : Type 0 where
  pub gate : reader.at ≡ place_behind (spellings frames)
  pub moments : (file : List ℕ) → IsDurable old file → LeavesOnly old now (λ image. image ≡ file)
  pub read : (file : List ℕ) → IsDurable old file → HasRead reader now file (spellings frames)
  pub content : now.content ≡ old.content
  pub up_to : (file : List ℕ) → old.content ≡ Some file → Back file ≡ spellings frames ++ Back (drop reader.at file)
  pub quiet : now.faults ≡ old.faults
  pub telling : KeepsTelling old now
  pub opens : OpensFirst name old now

settled_acts : (content : Option (List ℕ)) (name : List ℕ) (before : List DiskAct) (acts : Option (List DiskAct)) → acts ≡ Some before
    → (made : List DiskAct) × (option_map (settled_by content) (option_map (λ acts. Opened name ∷ acts) acts) ≡ Some (made ++ Opened name ∷ before))
settled_acts None name before acts told = ([], ap (λ a. option_map (settled_by None) (option_map (λ (acts : List DiskAct). Opened name ∷ acts) a)) told)
settled_acts (Some file) name before acts told = (Settled file ∷ [], ap (λ a. option_map (settled_by (Some file)) (option_map (λ (acts : List DiskAct). Opened name ∷ acts) a)) told)

-- a sync adds its act in front
settled_more : (content : Option (List ℕ)) (acts : List DiskAct) → (more : List DiskAct) × (settled_by content acts ≡ more ++ acts)
settled_more None acts = ([], refl)
settled_more (Some file) acts = (Settled file ∷ [], refl)

none_more : (acts : Option (List DiskAct)) → acts ≡ option_map (λ was. [] ++ was) acts
none_more None = refl
none_more (Some acts) = refl

module _ (name : List ℕ) (old : DiskView) where
  pub read_none : (reader : Place) (now : DiskView) → Opens name old (Ok reader) now → ReadSoFar name old now reader []
  read_none reader now o =
      let done = o.ok reader refl in
      let at : reader.at ≡ 0 = ap (λ (p : Place). p.at) done.0 in
      record {
        gate = at;
        moments = λ file durable. (each_opening name file old now (Ok reader) o durable).moments;
        read = λ file durable. (each_opening name file old now (Ok reader) o durable).reader reader refl;
        content = ap (λ (d : DiskView). d.content) done.1;
        up_to = λ file told. ap (λ n. Back (drop n file)) (sym at);
        quiet = ap (λ (d : DiskView). d.faults) done.1;
        telling = o.telling;
        opens = λ before told. let acts = settled_acts old.content name before old.acts told in (acts.0, ap (λ (d : DiskView). d.acts) done.1 ∙ acts.1);
      }

  module _ (mid : DiskView) (reader : Place) (frames : List Frame) (r : ReadSoFar name old mid reader frames) where
    -- what an unchanged disk tells
    told_still : (now : DiskView) → now ≡ mid → OpensFirst name old now
    told_still now same = λ before told. let known = r.opens before told in (known.0, ap (λ (d : DiskView). d.acts) same ∙ known.1)

    read_moments : (next : Place) (now : DiskView) (answer : Result (Option (List ℕ)) JournalEnd) → Reads reader mid answer next now → (file : List ℕ) → IsDurable old file → LeavesOnly old now (λ image. image ≡ file)
    read_moments next now answer reads file durable =
        goes_on old mid now (λ image. image ≡ file) (r.moments file durable) (each_reading reader next file (spellings frames) mid now answer reads (r.read file durable)).moments

    -- the next record, of this frame
    pub read_more : (f : Frame) (bytes : List ℕ) (next : Place) (now : DiskView) → bytes ≡ spell f → Reads reader mid (Ok (Some bytes)) next now → ReadSoFar name old now next (f ∷ frames)
    read_more f bytes next now is reads =
        let same = reads.same (Some bytes) refl in
        let forward = (reads.forward bytes refl).0 in
        record {
          gate = forward ∙ (ap (λ n. n + (5 + length bytes)) r.gate ∙ (ap (λ (l : List ℕ). place_behind (spellings frames) + (5 + length l)) is ∙ sym (place_more (spellings frames) (spell f))));
          moments = read_moments next now (Ok (Some bytes)) reads;
          read = λ file durable.
              subst (λ (l : List ℕ). HasRead next now file (spellings frames ++ l ∷ [])) is
              ((each_reading reader next file (spellings frames) mid now (Ok (Some bytes)) reads (r.read file durable)).more bytes refl);
          content = ap (λ (d : DiskView). d.content) same ∙ r.content;
          up_to = λ file told.
              let here = reads.ok (Some bytes) refl file (r.content ∙ told) in
              r.up_to file told ∙ (ap (λ (l : List (List ℕ)). spellings frames ++ l) (here.0 ∙ ap (λ (l : List ℕ). l ∷ Back (drop next.at file)) is)
              ∙ sym (append_assoc (spellings frames) (spell f ∷ []) (Back (drop next.at file))));
          quiet = ap (λ (d : DiskView). d.faults) same ∙ r.quiet;
          telling = telling_both old mid now r.telling reads.telling;
          opens = told_still now same;
        }

    -- these were all records
    pub read_all : (next : Place) (now : DiskView) → Reads reader mid (Ok None) next now → ReadSoFar name old now next frames
    read_all next now reads =
        let same = reads.same None refl in
        let at : next.at ≡ reader.at = ap (λ (p : Place). p.at) (reads.at_end refl) in
        record {
          gate = at ∙ r.gate;
          moments = read_moments next now (Ok None) reads;
          read = λ file durable. ((each_reading reader next file (spellings frames) mid now (Ok None) reads (r.read file durable)).all refl).0;
          content = ap (λ (d : DiskView). d.content) same ∙ r.content;
          up_to = λ file told. r.up_to file told ∙ ap (λ n. spellings frames ++ Back (drop n file)) (sym at);
          quiet = ap (λ (d : DiskView). d.faults) same ∙ r.quiet;
          telling = telling_both old mid now r.telling reads.telling;
          opens = told_still now same;
        }

    -- and no record is left
    pub read_whole : (next : Place) (now : DiskView) → Reads reader mid (Ok None) next now → (file : List ℕ) → old.content ≡ Some file → Back file ≡ spellings frames
    read_whole next now reads file told =
        let here = reads.ok None refl file (r.content ∙ told) in
        r.up_to file told ∙ (ap (λ (l : List (List ℕ)). spellings frames ++ l) here.0 ∙ append-nil (spellings frames))

-- a crash leaves an unchanged file as a file of its records
abbrev Promised : List ℕ → List ℕ → Type 0
Promised file image = IsOrOneMore (Back file) (Back image) × IsJournalFile image

promised : (file : List ℕ) (old now : DiskView) → IsJournalFile file → LeavesOnly old now (λ image. image ≡ file) → LeavesOnly old now (Promised file)
promised file old now journal moments =
    weaker old now (λ image. image ≡ file) (Promised file) (λ image same. (inl (ap Back same), subst IsJournalFile (sym same) journal)) moments

-- ---- how it ends

-- answers that are errors
abbrev failed : Status → Result Kept Status
failed status = Err status

abbrev ended : (T : Type 0) → JournalEnd → Result T JournalEnd
ended T end = Err end

-- every end of the journal but Full is want of memory or a fault of the disk
broken_by : (end : JournalEnd) → (end ≡ journal.Full → ⊥) → (ended_by end ≡ NoMemory) ⊎ (ended_by end ≡ DiskFault)
broken_by journal.NoMemory not_full = inl refl
broken_by journal.Fault not_full = inr refl
broken_by journal.Full not_full = absurd (not_full refl)

fault_of_end : (T : Type 0) (end : JournalEnd) → failed (ended_by end) ≡ failed DiskFault → IsErrOf (ended T end) journal.Fault
fault_of_end T journal.NoMemory e = absurd (cc e)
fault_of_end T journal.Fault e = refl
fault_of_end T journal.Full e = absurd (cc e)

end_of_fault : (T : Type 0) (end : JournalEnd) → IsErrOf (ended T end) journal.Fault → failed (ended_by end) ≡ failed DiskFault
end_of_fault T journal.NoMemory e = absurd (cc e)
end_of_fault T journal.Fault e = refl
end_of_fault T journal.Full e = absurd (cc e)

-- a call of the journal failed, after others that did not
rose_behind : (T : Type 0) (end : JournalEnd) (first mid now : ℕ) → mid ≡ first → RoseIf (IsErrOf (ended T end) journal.Fault) mid now → RoseIf (failed (ended_by end) ≡ failed DiskFault) first now
rose_behind T end first mid now same rose = record {
  later = subst (λ n. n ≤ now) same rose.later;
  rose = λ e. subst (λ n. Rose n now) same (rose.rose (fault_of_end T end e));
  quiet = λ no. rose.quiet (λ e. no (end_of_fault T end e)) ∙ same;
}

module _ (net : Net) (u : ℕ) (old : DiskView) where
  broken_formed : (status : Status) → (status ≡ NoMemory) ⊎ (status ≡ DiskFault) → ends_restoring status ≡ true
  broken_formed status (inl e) = ap ends_restoring e
  broken_formed status (inr e) = ap ends_restoring e

  not_broken : (status other : Status) → (status ≡ NoMemory) ⊎ (status ≡ DiskFault) → (NoMemory ≡ other → ⊥) → (DiskFault ≡ other → ⊥) → failed status ≡ failed other → ⊥
  not_broken status other (inl e) no_memory no_disk is = let same : status ≡ other = cc is in no_memory (sym e ∙ same)
  not_broken status other (inr e) no_memory no_disk is = let same : status ≡ other = cc is in no_disk (sym e ∙ same)

  why_broken : (status : Status) → (status ≡ NoMemory) ⊎ (status ≡ DiskFault) → (failed status ≡ failed NoMemory) ⊎ (failed status ≡ failed DiskFault)
  why_broken status (inl e) = inl (ap failed e)
  why_broken status (inr e) = inr (ap failed e)

  -- memory ran out, or a call of the disk failed
  pub restored_broken : (status : Status) (now : DiskView) → (status ≡ NoMemory) ⊎ (status ≡ DiskFault) → ((file : List ℕ) → IsDurable old file → IsJournalFile file → LeavesOnly old now (Promised file))
      → RoseIf (failed status ≡ failed DiskFault) old.faults now.faults → KeepsTelling old now → Restored net u old (Err status) now
  restored_broken status now why moments fault telling = record {
    formed = broken_formed status why;
    moments = moments;
    restored = λ kept is. absurd (cc is);
    back = λ kept is. absurd (cc is);
    kept = λ kept is. absurd (cc is);
    bad_journal = λ offset fault is. absurd (not_broken status (BadJournal offset fault) why (λ e. cc e) (λ e. cc e) is);
    limit = λ kind number is. absurd (not_broken status (Limit kind number) why (λ e. cc e) (λ e. cc e) is);
    disk_fault = fault;
    complete = λ file told frames ending comes. inr (why_broken status why);
    telling = telling;
  }

  -- before the file was opened
  pub restored_nothing : Restored net u old (Err NoMemory) old
  restored_nothing =
      restored_broken NoMemory old (inl refl)
      (λ file durable journal. promised file old old journal (started old (λ image. image ≡ file) (λ image left. durable_left old file image durable left)))
      (record { later = omega arith; rose = λ e. absurd (cc e); quiet = λ _. refl }) (telling_same old old refl)

  -- it could not be opened
  pub restored_unopened : (name : List ℕ) (end : JournalEnd) (now : DiskView) → Opens name old (Err end) now → Restored net u old (Err (ended_by end)) now
  restored_unopened name end now o =
      restored_broken (ended_by end) now (broken_by end (λ e. o.not_full (ap (ended Place) e)))
      (λ file durable journal. promised file old now journal (each_opening name file old now (Err end) o durable).moments)
      (rose_behind Place end old.faults old.faults now.faults refl o.fault) o.telling

  module _ (name : List ℕ) (mid : DiskView) (reader : Place) (frames : List Frame) (r : ReadSoFar name old mid reader frames) where
    -- or not read
    pub restored_unread : (end : JournalEnd) (next : Place) (now : DiskView) → Reads reader mid (Err end) next now → Restored net u old (Err (ended_by end)) now
    restored_unread end next now reads =
        restored_broken (ended_by end) now (broken_by end (λ e. reads.not_full (ap (ended (Option (List ℕ))) e)))
        (λ file durable journal. promised file old now journal (read_moments name old mid reader frames r next now (Err end) reads file durable))
        (rose_behind (Option (List ℕ)) end old.faults mid.faults now.faults r.quiet reads.fault) (telling_both old mid now r.telling reads.telling)

    finish_moments : (now : DiskView) (answer : Result ℕ JournalEnd) → Finishes reader.at mid answer now → reader.ended ≡ true → (file : List ℕ) → IsDurable old file → IsJournalFile file → LeavesOnly old now (Promised file)
    finish_moments now answer f at_end file durable journal =
        let read = r.read file durable in
        goes_on old mid now (Promised file) (promised file old mid journal (r.moments file durable))
        (subst (λ (l : List (List ℕ)). LeavesOnly mid now (λ image. IsOrOneMore l (Back image) × IsJournalFile image)) (sym (read.ended at_end))
        (each_finish reader file (spellings frames) mid now answer f read at_end journal).moments)

    -- or the gate could not be closed
    pub restored_unfinished : (end : JournalEnd) (now : DiskView) → Finishes reader.at mid (Err end) now → reader.ended ≡ true → Restored net u old (Err (ended_by end)) now
    restored_unfinished end now f at_end =
        restored_broken (ended_by end) now (broken_by end (λ e. f.not_full (ap (ended ℕ) e))) (finish_moments now (Err end) f at_end) (rose_behind ℕ end old.faults mid.faults now.faults r.quiet f.fault)
        (telling_both old mid now r.telling f.telling)

    -- ---- at a record

    module _ (taken : AreRestored (afresh gao_rexford net u) frames) (bytes : List ℕ) (next : Place) (now : DiskView) (reads : Reads reader mid (Ok (Some bytes)) next now) where
      read_on : (file : List ℕ) → old.content ≡ Some file → Back file ≡ spellings frames ++ bytes ∷ Back (drop next.at file)
      read_on file told = r.up_to file told ∙ ap (λ (l : List (List ℕ)). spellings frames ++ l) (reads.ok (Some bytes) refl file (r.content ∙ told)).0

      comes_back : (ending : Ending) → ((rest : List (List ℕ)) → EndsBack (afresh gao_rexford net u) frames (bytes ∷ rest) ending) → (file : List ℕ) → old.content ≡ Some file
          → ComesBack (afresh gao_rexford net u) (Back file) frames ending
      comes_back ending ends file told = record { rest = bytes ∷ Back (drop next.at file); in_front = read_on file told; taken = taken; ends = ends (Back (drop next.at file)) }

      leaves : LeavesFile old now
      leaves = record {
        moments = read_moments name old mid reader frames r next now (Ok (Some bytes)) reads;
        content = ap (λ (d : DiskView). d.content) (reads.same (Some bytes) refl) ∙ r.content;
      }

      unmoved : (file : List ℕ) → IsDurable old file → IsJournalFile file → LeavesOnly old now (Promised file)
      unmoved file durable journal = promised file old now journal (read_moments name old mid reader frames r next now (Ok (Some bytes)) reads file durable)

      still : now.faults ≡ old.faults
      still = ap (λ (d : DiskView). d.faults) (reads.same (Some bytes) refl) ∙ r.quiet

      -- every other reading of the records gives the same status
      one_status : (ending : Ending) → ((rest : List (List ℕ)) → EndsBack (afresh gao_rexford net u) frames (bytes ∷ rest) ending) → (file : List ℕ) → old.content ≡ Some file → (others : List Frame) (other : Ending)
          → ComesBack (afresh gao_rexford net u) (Back file) others other → status_back (place_behind (spellings frames)) ending ≡ status_back (place_behind (spellings others)) other
      one_status ending ends file told others other comes =
          let both = back_once (afresh gao_rexford net u) (Back file) frames others ending other (comes_back ending ends file told) comes in
          ap (status_back (place_behind (spellings frames))) both.1 ∙ ap (λ g. status_back (place_behind (spellings g)) other) both.0

      -- the record is refused
      pub restored_refused : (offset : ℕ) (fault : FrameFault) → offset ≡ reader.at → record_fault (afresh gao_rexford net u) frames bytes ≡ Some fault → Restored net u old (Err (BadJournal offset fault)) now
      restored_refused offset fault at refused = record {
        formed = refl;
        moments = unmoved;
        restored = λ kept is. absurd (cc is);
        back = λ kept is. absurd (cc is);
        kept = λ kept is. absurd (cc is);
        bad_journal = λ place named is.
            let places : offset ≡ place = cc is in
            let faults : fault ≡ named = cc is in
            (leaves, λ file told. (frames, comes_back (Refused named) (λ rest. refused ∙ ap Some faults) file told, sym places ∙ (at ∙ r.gate)));
        limit = λ kind number is. absurd (cc is);
        disk_fault = record { later = let e = still in omega (arith, e); rose = λ e. absurd (cc e); quiet = λ _. still };
        complete = λ file told others other comes.
            inl (ap (λ n. Some (BadJournal n fault)) (at ∙ r.gate) ∙ one_status (Refused fault) (λ rest. refused) file told others other comes);
        telling = telling_both old mid now r.telling reads.telling;
      }

      -- or exceeds a limit of the node
      pub restored_stopped : (kind : LimitKind) (number : ℕ) → StopsIn (afresh gao_rexford net u) frames (length bytes) (record { kind = kind; number = number }) (found bytes) → Restored net u old (Err (Limit kind number)) now
      restored_stopped kind number stops = record {
        formed = of_node (found bytes) stops;
        moments = unmoved;
        restored = λ kept is. absurd (cc is);
        back = λ kept is. absurd (cc is);
        kept = λ kept is. absurd (cc is);
        bad_journal = λ place named is. absurd (cc is);
        limit = λ other count is.
            let kinds : kind ≡ other = cc is in
            let numbers : number ≡ count = cc is in (
              leaves,
              λ file told. (
                frames,
                comes_back (Stopped (record { kind = other; number = count }))
                    (λ rest. subst (λ n. StopsIn (afresh gao_rexford net u) frames (length bytes) (record { kind = other; number = n }) (found bytes)) numbers
                    (subst (λ k. StopsIn (afresh gao_rexford net u) frames (length bytes) (record { kind = k; number = number }) (found bytes)) kinds stops)) file told,
              ),
            );
        disk_fault = record { later = let e = still in omega (arith, e); rose = λ e. absurd (cc e); quiet = λ _. still };
        complete = λ file told others other comes. inl (one_status (Stopped (record { kind = kind; number = number })) (λ rest. stops) file told others other comes);
        telling = telling_both old mid now r.telling reads.telling;
      }
        where
          of_node : (there : Found) → StopsIn (afresh gao_rexford net u) frames (length bytes) (record { kind = kind; number = number }) there → ends_restoring (Limit kind number) ≡ true
          of_node (Whole f n) stops = limit_ends_back (afresh gao_rexford net u) frames (brought f) (record { kind = kind; number = number }) stops.2
          of_node Partial stops = absurd stops
          of_node (Wrong wrong) stops = absurd stops

      -- whatever ends the reading there
      pub restored_at : (offset : ℕ) (status : Status) → offset ≡ reader.at → EndsRecord (afresh gao_rexford net u) frames offset bytes status → Restored net u old (Err status) now
      restored_at offset NoMemory at e =
          restored_broken NoMemory now (inl refl) unmoved (record { later = let e = still in omega (arith, e); rose = λ e. absurd (cc e); quiet = λ _. still }) (telling_both old mid now r.telling reads.telling)
      restored_at offset (BadJournal place fault) at e = restored_refused place fault (e.0 ∙ at) e.1
      restored_at offset (Limit kind number) at e = restored_stopped kind number e
      restored_at offset Done at e = absurd e
      restored_at offset Usage at e = absurd e
      restored_at offset (BadSchedule line kind) at e = absurd e
      restored_at offset ReadFault at e = absurd e
      restored_at offset WriteFault at e = absurd e
      restored_at offset LinkFault at e = absurd e
      restored_at offset (BadFrame place fault) at e = absurd e
      restored_at offset (NoSuchNode node) at e = absurd e
      restored_at offset DiskFault at e = absurd e
      restored_at offset (BadTables line) at e = absurd e
      restored_at offset (Inconsistent line kind) at e = absurd e

    -- ---- at the end

    -- the journal was read back completely
    pub restored_whole : (now : DiskView) (kept : Kept) → ((file : List ℕ) → old.content ≡ Some file → Back file ≡ spellings frames) → Finishes reader.at mid (Ok kept.journal) now → reader.ended ≡ true
        → has net.nodes u ≡ true → AreRestored (afresh gao_rexford net u) frames → StandsFor (record {}) gao_rexford net u kept.node (begun gao_rexford net u (Some frames)) → Restored net u old (Ok kept) now
    restored_whole now kept whole f at_end here taken stands = record {
      formed = tt;
      moments = finish_moments now (Ok kept.journal) f at_end;
      restored = λ other is. (frames, as_kept other (cc is));
      back = λ other is file told. (frames, record { rest = []; in_front = whole file told ∙ sym (append-nil (spellings frames)); taken = taken; ends = refl }, as_kept other (cc is));
      kept = λ other is file durable journal.
          let read = r.read file durable in
          let done = (each_finish reader file (spellings frames) mid now (Ok kept.journal) f read at_end journal).kept kept.journal refl in
          let same : kept ≡ other = cc is in
          subst (λ (k : Kept). HasKept k.journal now (Back file)) same (subst (HasKept kept.journal now) (sym (read.ended at_end)) done);
      bad_journal = λ place named is. absurd (cc is);
      limit = λ kind number is. absurd (cc is);
      disk_fault = record {
        later = subst (λ n. n ≤ now.faults) r.quiet f.fault.later;
        rose = λ e. absurd (cc e);
        quiet = λ _. f.fault.quiet (λ e. absurd (cc e)) ∙ r.quiet;
      };
      complete = λ file told others other comes.
          let both = back_once (afresh gao_rexford net u) (Back file) frames others End other (record { rest = []; in_front = whole file told ∙ sym (append-nil (spellings frames)); taken = taken; ends = refl }) comes in
          inl (ap (status_back (place_behind (spellings others))) both.1);
      telling = telling_both old mid now r.telling f.telling;
    }
      where
        is_restored : IsRestored net kept u frames
        is_restored = record { is_node = here; taken = taken; stands = stands; gate = f.place kept.journal refl ∙ r.gate }

        as_kept : (other : Kept) → kept ≡ other → IsRestored net other u frames
        as_kept other same = subst (λ (k : Kept). IsRestored net k u frames) same is_restored

    -- the file was opened first
    pub opens_first : (now : DiskView) (gate : ℕ) → Finishes reader.at mid (Ok gate) now → OpensFirst name old now
    opens_first now gate f before told = by_way (f.does gate refl)
      where
        known : (made : List DiskAct) × (mid.acts ≡ Some (made ++ Opened name ∷ before))
        known = r.opens before told

        synced_behind : (content : Option (List ℕ)) (written : List DiskAct) (acts : Option (List DiskAct)) → acts ≡ option_map (λ was. written ++ was) mid.acts
            → (made : List DiskAct) × (option_map (settled_by content) acts ≡ Some (made ++ Opened name ∷ before))
        synced_behind content written acts is =
            let whole : acts ≡ Some (written ++ (known.0 ++ Opened name ∷ before)) = is ∙ ap (option_map (λ was. written ++ was)) known.1 in
            let more = settled_more content (written ++ (known.0 ++ Opened name ∷ before)) in (
              more.0 ++ (written ++ known.0),
              ap (option_map (settled_by content)) whole ∙ ap Some (more.1 ∙ (ap (λ (l : List DiskAct). more.0 ++ l) (sym (append_assoc written known.0 (Opened name ∷ before)))
                  ∙ sym (append_assoc more.0 (written ++ known.0) (Opened name ∷ before)))),
            )

        by_way : (now ≡ synced mid) ⊎ (now ≡ synced (written reader.at (0 ∷ []) mid)) → (made : List DiskAct) × (now.acts ≡ Some (made ++ Opened name ∷ before))
        by_way (inl same) = let all = synced_behind mid.content [] mid.acts (none_more mid.acts) in (all.0, ap (λ (d : DiskView). d.acts) same ∙ all.1)
        by_way (inr same) =
            let disk = written reader.at (0 ∷ []) mid in
            let all = synced_behind disk.content (Wrote reader.at (0 ∷ []) ∷ []) disk.acts refl in
            (all.0, ap (λ (d : DiskView). d.acts) same ∙ all.1)

-- an error that `?` passes on
pub handed_back : (net : Net) (u : ℕ) (old now : DiskView) (status : Status) (r : Result Kept Status) → IsErr r × IsErrAnd r (λ e. e ≡ status) → Restored net u old (Err status) now → Restored net u old r now
handed_back net u old now status r h restored =
    let e = err_from_is_err_and r h.1 in
    subst (λ s. Restored net u old s now) (sym (e.1 ∙ ap failed e.2)) restored

-- the same of the bytes that were lent
pub record_as : (who : Who) (frames : List Frame) (offset : ℕ) (bytes lent : List ℕ) (status : Status) → lent ≡ bytes → EndsRecord who frames offset lent status → EndsRecord who frames offset bytes status
record_as who frames offset bytes lent status same ends = subst (λ l. EndsRecord who frames offset l status) same ends

-- before the first record the node has done nothing
pub stands_first : (net : Net) (u : ℕ) (node : Node GaoRexford) → StandsFor (record {}) gao_rexford net u node [] → StandsFor (record {}) gao_rexford net u node (run_over (afresh gao_rexford net u) [])
unfolding going_on
stands_first net u node stands = stands
