-- A node answers a frame.
use Rattle.std.proofs.Common.{ℕ, ◌+◌, ◌≡◌, ◌<◌, ◌≤◌, inl, inr, ◌⊎◌, true, Option, Some, None, List, ◌∷◌, ◌++◌, length, drop, refl, sym, ap, ◌∙◌, subst, append_assoc, arith}
use Rattle.std.specs.Prelude.{is_some, filter_map}
use Rattle.std.specs.Io.KnownBytes.{Appends, prepend_known}
use Rattle.std.proofs.lemmas.List.{length-append, length-drop}
use Rattle.topology.specs.declared.frame_faults.FrameFault.{FrameFault}
use Rattle.topology.specs.declared.status.Status.{Status}
use Rattle.topology.specs.declared.status.Status.TheVariants.{Done, Usage, NoMemory, BadSchedule, Limit, ReadFault, WriteFault, LinkFault, BadFrame, NoSuchNode, DiskFault, BadJournal, BadTables, Inconsistent}
use Rattle.topology.specs.Lists.{Begins}
use Rattle.route_io.specs.Causes.{Rose}
use Rattle.route_io.specs.Links.{LacksRoom, room_behind}
use Rattle.route_io.specs.Views.{LinkView}
use Rattle.route_io.proofs.Bytes.{appends_on, told_on}
use Rattle.route_io.proofs.Links.{room_before}
use Rattle.path_vector.specs.Rules.{Rules}
use Rattle.chronicle.specs.Inputs.{Input}
use Rattle.chronicle.specs.Run.{chronicle_of}
use Rattle.node_core.specs.NodeLimits.{Reached, node_limit}
use Rattle.node_core.specs.Outputs.{Answers}
use Rattle.node_core.specs.Standing.{StandsFor}
use Rattle.node_core.specs.declared.node.Node.{Node}
use Rattle.node_core.specs.declared.outputs.Outputs.{Outputs}
use Rattle.admission_laws.specs.NodeRuns.{gives}
use Rattle.wire_frames.specs.declared.frames.Frame.{Frame}
use Rattle.wire_frames.specs.Frames.{spell}
use Rattle.wire_frames.specs.Reading.{Whole, found}
use Rattle.wire_frames.proofs.Found.{spelled_found}
use Rattle.topology.specs.declared.limits.TheConstants.{MOST_FRAMES}
use Rattle.route_node.specs.declared.serving.Process.{Process}
use Rattle.route_node.specs.Frames.{telling}
use Rattle.route_node.specs.Fronts.{Holds, Admits, EndsFrame}
use Rattle.route_node.specs.Running.{Serving, Runs, ServesOn, IsWithin, EndsServing, left_of, who_at}
use Rattle.route_node.specs.Served.{ends_serving, status_of, BreaksOff, TooLongAnswers}
use Rattle.route_node.specs.ServedKept.{AreInFront}
use Rattle.route_node.specs.Streams.{stream, replies, out_of_turn, refusal, journal_limit, frame_limit, AreTaken, Ending, Refused, Stopped, found_fault, StopsAt, EndsAt, StreamComesTo}
use Rattle.route_node.specs.Told.{handed}
use Rattle.route_node.specs.Who.{run_over}
use Rattle.route_node.specs.Writing.{spelled, OneWriteEach, Writes, Breaks}
use Rattle.route_node.proofs.Ending.{by_link, by_memory, ends_by_break, ends_by_ending}
use Rattle.route_node.proofs.InTime.{told_behind, prompt_writes, grows_more, keeps_taken}
use Rattle.route_node.proofs.Stopping.{limit_ends}
use Rattle.route_node.proofs.Taking.{run_more, refusal_is, limit_first, limit_last, replies_more, since_more}
use Rattle.route_node.proofs.Told.{replies_spelled}
use Rattle.route_node.proofs.Waiting.{told_as, answered_as, prompt_as, ends_unwritten, ends_without_memory}
use Rattle.route_node.proofs.Written.{spelled_both, one_write_behind}

-- memory ran out, or a call of the link failed
broke : (records : Option (List Frame)) (status : Status) → (status ≡ NoMemory) ⊎ (status ≡ LinkFault) → BreaksOff records status
broke records status (inl e) = subst (BreaksOff records) (sym e) (by_memory records)
broke records status (inr e) = subst (BreaksOff records) (sym e) (by_link records)

-- the first part of what is written after it
begins_behind : (xs ys some : List ℕ) → Begins some ys → Begins (xs ++ some) (xs ++ ys)
begins_behind xs ys some begins = (begins.0, append_assoc xs some begins.0 ∙ ap (λ l. xs ++ l) begins.1)

-- an end at the replies is no fault of the disk
pub no_disk_fault_behind : (replies : List Frame) (old new : LinkView) (status : Status) → Breaks replies old new status → status ≡ DiskFault → ⊥
no_disk_fault_behind replies old new status breaks is = not_either breaks.why
  where
    not_either : (status ≡ NoMemory) ⊎ (status ≡ LinkFault) → ⊥
    not_either (inl e) = absurd (cc (sym e ∙ is))
    not_either (inr e) = absurd (cc (sym e ∙ is))

module _ {P : Type 0} (rules : Rules) (at : Serving P) (frames : List Frame) (process : Process P) (old : LinkView) (runs : Runs rules at process old frames)
    (frame : Frame) (size : ℕ) (holds : Holds process.received frame size) (i : Input) (admits : Admits at.net at.node frame i) where
  -- the rest of the bytes begins with the frame
  left_as : (t : List ℕ) → process.received ++ t ≡ spell frame ++ (drop size process.received ++ t)
  left_as t = ap (λ l. l ++ t) holds.splits ∙ append_assoc (spell frame) (drop size process.received) t

  whole : (more : List ℕ) → found (spell frame ++ more) ≡ Whole frame (length (spell frame))
  whole more = spelled_found frame more holds.fit

  same_fault : refusal (who_at rules at) frames frame ≡ out_of_turn (gives rules at.net at.node (run_over (who_at rules at) frames) i)
  same_fault = refusal_is (who_at rules at) frame frames i admits.brings admits.fit

  refused_front : (more : List ℕ) (fault : FrameFault) → refusal (who_at rules at) frames frame ≡ Some fault → EndsAt (who_at rules at) frames (spell frame ++ more) (Refused fault)
  unfolding spell
  refused_front more fault e = ap (found_fault (who_at rules at) frames) (whole more) ∙ e

  stopped_front : (more : List ℕ) (reached : Reached) → refusal (who_at rules at) frames frame ≡ None → frame_limit (who_at rules at) frames frame ≡ Some reached → EndsAt (who_at rules at) frames (spell frame ++ more) (Stopped reached)
  stopped_front more reached none limit = subst (StopsAt (who_at rules at) frames reached) (sym (whole more)) (none, limit)

  comes_to : (ending : Ending) → ((more : List ℕ) → EndsAt (who_at rules at) frames (spell frame ++ more) ending) → (bytes : List ℕ) → at.first.incoming ≡ Some bytes → StreamComesTo (who_at rules at) bytes frames ending
  comes_to ending ends bytes told =
      let known = told_as rules at frames process old old runs bytes told in
      record {
        rest = spell frame ++ (drop size process.received ++ known.0);
        in_front = known.2 ∙ ap (λ l. stream frames ++ l) (left_as known.0);
        taken = runs.taken;
        ends = ends (drop size process.received ++ known.0);
      }

  ends_here : (status : Status) (ending : Ending) → status ≡ status_of (length (stream frames)) ending → ends_serving (is_some at.records) status ≡ true → ((more : List ℕ) → EndsAt (who_at rules at) frames (spell frame ++ more) ending) → (status ≡ Done → ⊥) → EndsServing (who_at rules at) at.first old frames status
  ends_here status ending is formed ends never =
      ends_by_ending (who_at rules at) at.first old status frames runs.taken runs.grow runs.same_room runs.same_dialled (prompt_as rules at frames process old old runs refl) ending is formed (comes_to ending ends) (answered_as rules at frames process old old runs refl runs.one_write_each) runs.quiet (λ e. absurd (never e))

  -- the run ends at the frame
  pub ends_at_frame : (status : Status) → EndsFrame process.offset process.frames (out_of_turn (gives rules at.net at.node (run_over (who_at rules at) frames) i))
      (node_limit rules at.net at.node (gives rules at.net at.node (run_over (who_at rules at) frames) i)) status → EndsServing (who_at rules at) at.first old frames status
  ends_at_frame NoMemory e = ends_without_memory rules at frames process old old runs refl
  ends_at_frame (BadFrame offset fault) e =
      ends_here (BadFrame offset fault) (Refused fault) (ap (λ n. BadFrame n fault) (e.0 ∙ runs.offset)) refl (λ more. refused_front more fault (same_fault ∙ e.1)) (λ d. absurd (cc d))
  ends_at_frame (Limit what number) e =
      ends_here (Limit what number) (Stopped (record { kind = what; number = number })) refl
      (limit_ends (who_at rules at) frames frame (record { kind = what; number = number }) (limit_first (who_at rules at) frame frames i process.frames (record { kind = what; number = number }) admits.brings runs.count e.1))
      (λ more. stopped_front more (record { kind = what; number = number }) (same_fault ∙ e.0) (limit_first (who_at rules at) frame frames i process.frames (record { kind = what; number = number }) admits.brings runs.count e.1)) (λ d. absurd (cc d))
  ends_at_frame Done e = absurd e
  ends_at_frame Usage e = absurd e
  ends_at_frame (BadSchedule line kind) e = absurd e
  ends_at_frame ReadFault e = absurd e
  ends_at_frame WriteFault e = absurd e
  ends_at_frame LinkFault e = absurd e
  ends_at_frame (NoSuchNode node) e = absurd e
  ends_at_frame DiskFault e = absurd e
  ends_at_frame (BadJournal offset fault) e = absurd e
  ends_at_frame (BadTables line) e = absurd e
  ends_at_frame (Inconsistent line kind) e = absurd e

  -- which is no fault of the disk
  pub no_disk_fault_at : (status : Status) → EndsFrame process.offset process.frames (out_of_turn (gives rules at.net at.node (run_over (who_at rules at) frames) i))
      (node_limit rules at.net at.node (gives rules at.net at.node (run_over (who_at rules at) frames) i)) status → status ≡ DiskFault → ⊥
  no_disk_fault_at status e is =
      subst (EndsFrame process.offset process.frames (out_of_turn (gives rules at.net at.node (run_over (who_at rules at) frames) i))
      (node_limit rules at.net at.node (gives rules at.net at.node (run_over (who_at rules at) frames) i))) is e

  -- memory ran out for the journal, or a call of its disk failed, before anything was written
  pub ends_unkept : (status : Status) → BreaksOff at.records status → (status ≡ LinkFault → ⊥) → EndsServing (who_at rules at) at.first old frames status
  ends_unkept status why not_link =
      ends_unwritten rules at frames process old old runs status refl refl refl (prompt_as rules at frames process old old runs refl) why
      (record { later = let e = runs.quiet in omega (arith, e); rose = λ e. absurd (not_link e); quiet = λ _. runs.quiet }) (λ _ e. not_link e)

  -- ---- the node handled the frame's input

  module _ (node : Node P) (told : Outputs) (stands : StandsFor at.policy rules at.net at.node node (chronicle_of (run_over (who_at rules at) frames) (gives rules at.net at.node (run_over (who_at rules at) frames) i)))
      (answers' : Answers (run_over (who_at rules at) frames) (gives rules at.net at.node (run_over (who_at rules at) frames) i) told)
      (turn : out_of_turn (gives rules at.net at.node (run_over (who_at rules at) frames) i) ≡ None) (few : process.frames < MOST_FRAMES)
      (low : node_limit rules at.net at.node (gives rules at.net at.node (run_over (who_at rules at) frames) i) ≡ None) where
    limit_now : frame_limit (who_at rules at) frames frame ≡ journal_limit at.records frames frame
    limit_now = limit_last (who_at rules at) frame frames i admits.brings (let count = runs.count in omega (arith, few, count)) low

    -- the journal has no room for its record
    pub ends_full : (reached : Reached) → journal_limit at.records frames frame ≡ Some reached → EndsServing (who_at rules at) at.first old frames (Limit reached.kind reached.number)
    ends_full reached is =
        ends_here (Limit reached.kind reached.number) (Stopped reached) refl (limit_ends (who_at rules at) frames frame reached (limit_now ∙ is))
        (λ more. stopped_front more reached (same_fault ∙ turn) (limit_now ∙ is)) (λ d. absurd (cc d))

    module _ (room : journal_limit at.records frames frame ≡ None) where
      pub taken_now : AreTaken (who_at rules at) (frame ∷ frames)
      taken_now = (holds.fit, same_fault ∙ turn, limit_now ∙ room, runs.taken)

      replies_now : replies (who_at rules at) (frame ∷ frames) ≡ replies (who_at rules at) frames ++ filter_map telling (handed told)
      replies_now = replies_more (who_at rules at) frame frames i told admits.brings answers' runs.since

      spelled_now : spelled (replies (who_at rules at) (frame ∷ frames)) ≡ spelled (replies (who_at rules at) frames) ++ spelled (filter_map telling (handed told))
      spelled_now = ap spelled replies_now ∙ spelled_both (replies (who_at rules at) frames) (filter_map telling (handed told))

      -- the frames that were taken are at the front
      pub front_now : (bytes : List ℕ) → at.first.incoming ≡ Some bytes → (rest : List ℕ) × (bytes ≡ stream (frame ∷ frames) ++ rest)
      front_now bytes known =
          let seen = told_as rules at frames process old old runs bytes known in
          (drop size process.received ++ seen.0, seen.2 ∙ (ap (λ l. stream frames ++ l) (left_as seen.0) ∙ sym (append_assoc (stream frames) (spell frame) (drop size process.received ++ seen.0))))

      pub front_of_taken : AreInFront (who_at rules at) at.first.incoming (frame ∷ frames)
      front_of_taken = record { in_front = λ bytes known. let front = front_now bytes known in (front.0, sym front.1); taken = taken_now }

      -- if there is no room for the replies, there is none for all answers
      too_long : LacksRoom old (spelled (filter_map telling (handed told))) → TooLongAnswers (who_at rules at) at.first
      too_long lacks =
          let behind : room_behind at.first.room old.outgoing ≡ Some lacks.0 = ap (λ r. room_behind r old.outgoing) (sym runs.same_room) ∙ lacks.1 in
          let before = room_before at.first.room at.first.outgoing old.outgoing (spelled (replies (who_at rules at) frames)) lacks.0 runs.told runs.wrote behind in
          let within = before.2 in
          let short = lacks.2 in
          record {
            frames = frame ∷ frames;
            in_front = λ bytes known. let front = front_now bytes known in (front.0, sym front.1);
            taken = taken_now;
            left = before.0;
            room = before.1;
            longer = omega (arith, within, short, ap length spelled_now, length-append (spelled (replies (who_at rules at) frames)) (spelled (filter_map telling (handed told))));
          }

      -- the replies broke off
      pub ends_by_replies : (new : LinkView) (status : Status) → Breaks (filter_map telling (handed told)) old new status → EndsServing (who_at rules at) at.first new (frame ∷ frames) status
      ends_by_replies new status breaks =
          let later : old.faults ≤ new.faults = breaks.link_fault.later in
          ends_by_break (who_at rules at) at.first new status (frame ∷ frames) taken_now (grows_more (who_at rules at) frame frames (spelled (filter_map telling (handed told))) spelled_now runs.grow)
          (ap (λ (l : LinkView). l.room) breaks.others ∙ runs.same_room) (ap (λ (l : LinkView). l.dialled) breaks.others ∙ runs.same_dialled)
          (λ before told'.
          let known = runs.acts before told' in (
            breaks.acts.0 ++ known.0,
            told_behind old.acts new.acts breaks.acts.0 known.0 before breaks.acts.2 known.1,
            prompt_writes (who_at rules at) breaks.acts.0 known.0 breaks.acts.1 known.2.prompt,
          ))
          (broke at.records status breaks.why)
          (record {
            later = subst (λ n. n ≤ new.faults) runs.quiet later;
            rose = λ e. subst (λ n. Rose n new.faults) runs.quiet (breaks.link_fault.rose e);
            quiet = λ no. breaks.link_fault.quiet no ∙ runs.quiet;
          })
          (λ sure e. too_long (breaks.full (runs.same_sure ∙ sure) e))
          (λ bytes known. let front = front_now bytes known in (front.0, sym front.1))
          (replies_spelled (who_at rules at) (frame ∷ frames) runs.valid runs.is_node runs.restored taken_now)
          (spelled (replies (who_at rules at) frames) ++ breaks.some)
          (appends_on at.first.outgoing old.outgoing new.outgoing (spelled (replies (who_at rules at) frames)) breaks.some runs.wrote breaks.wrote)
          (subst (λ l. Begins (spelled (replies (who_at rules at) frames) ++ breaks.some) l) (sym spelled_now)
          (begins_behind (spelled (replies (who_at rules at) frames)) (spelled (filter_map telling (handed told))) breaks.some breaks.begins))
          (breaks.some, refl)

      bytes_then : (known : Option (List ℕ)) → prepend_known (stream (frame ∷ frames)) (prepend_known (drop size process.received) known) ≡ prepend_known (stream frames) (prepend_known process.received known)
      bytes_then None = refl
      bytes_then (Some t) = ap Some (append_assoc (stream frames) (spell frame) (drop size process.received ++ t) ∙ ap (λ l. stream frames ++ l) (sym (left_as t)))

      -- the frame was taken, and its replies were written
      pub goes_on_taken : IsWithin process → (new : LinkView) (received : List ℕ) (journal : Option ℕ) → received ≡ drop size process.received → Writes (filter_map telling (handed told)) old new
          → ServesOn rules at (record process { node = node; received = received; frames = process.frames + 1; offset = process.offset + size; journal = journal }) new (frame ∷ frames) (left_of process)
      goes_on_taken within new received journal is writes =
          let shorter = ap (λ (l : List ℕ). length l) is ∙ length-drop size process.received in
          let in_all = within.0 in
          record {
            runs = record {
              valid = runs.valid;
              is_node = runs.is_node;
              same_net = runs.same_net;
              same_id = runs.same_id;
              restored = runs.restored;
              stands = subst (λ c. StandsFor at.policy rules at.net at.node node c) (sym (run_more (who_at rules at) frame frames i admits.brings)) stands;
              taken = taken_now;
              count = let before = runs.count in omega (arith, before);
              offset = let before = runs.offset in let more = holds.size in omega (arith, before, more, length-append (stream frames) (spell frame));
              bytes =
                  ap (λ l. prepend_known (stream (frame ∷ frames)) (prepend_known l new.incoming)) is
                  ∙ (ap (λ k. prepend_known (stream (frame ∷ frames)) (prepend_known (drop size process.received) k)) (ap (λ (l : LinkView). l.incoming) writes.others)
                  ∙ (bytes_then old.incoming ∙ runs.bytes));
              wrote = subst (λ l. Appends at.first.outgoing new.outgoing l) (sym spelled_now)
                  (appends_on at.first.outgoing old.outgoing new.outgoing (spelled (replies (who_at rules at) frames)) (spelled (filter_map telling (handed told))) runs.wrote writes.wrote);
              told = told_on at.first.outgoing old.outgoing new.outgoing runs.told writes.told;
              one_write_each = subst (λ l. OneWriteEach l at.first new) (sym replies_now)
                  (one_write_behind (replies (who_at rules at) frames) (filter_map telling (handed told)) at.first old new runs.wrote runs.same_room runs.one_write_each writes.one_write_each);
              grow = grows_more (who_at rules at) frame frames (spelled (filter_map telling (handed told))) spelled_now runs.grow;
              since = (runs.since.0 ++ handed told, since_more (who_at rules at) frame frames i told admits.brings answers' runs.since);
              acts = λ before told'.
                  let known = runs.acts before told' in (
                    writes.acts.more ++ known.0,
                    told_behind old.acts new.acts writes.acts.more known.0 before writes.acts.behind known.1,
                    keeps_taken (who_at rules at) frames process.received known.0 known.2 frame received (spelled (filter_map telling (handed told))) writes.acts.more writes.acts.alone writes.acts.took
                        (holds.splits ∙ ap (λ l. spell frame ++ l) (sym is)) spelled_now,
                  );
              same_room = ap (λ (l : LinkView). l.room) writes.others ∙ runs.same_room;
              same_dialled = ap (λ (l : LinkView). l.dialled) writes.others ∙ runs.same_dialled;
              same_sure = ap (λ (l : LinkView). l.sure) writes.others ∙ runs.same_sure;
              quiet = writes.quiet ∙ runs.quiet;
            };
            within = (omega (arith, shorter, in_all), omega (arith, few));
            less = omega (arith, shorter, in_all, few);
          }
