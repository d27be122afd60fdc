-- A process that waits for more bytes.
use Rattle.std.proofs.Common.{ℕ, ◌≡◌, ◌<◌, ◌≤◌, true, false, Option, Some, None, List, [], ◌∷◌, ◌++◌, length, take, drop, Result, Ok, Err, refl, sym, ap, ◌∙◌, subst, arith}
use Rattle.std.specs.Prelude.{nat_lt, IfSome, OnOk, ◌↔◌, if◌then◌else◌}
use Rattle.std.specs.Int.{w32, from_be_bytes}
use Rattle.std.specs.Io.KnownBytes.{Appends, IsAtEnd, prepend_known}
use Rattle.std.proofs.lemmas.Bool.Decides.{nat_tests}
use Rattle.std.proofs.lemmas.List.{append-nil, length-append, length-drop}
use Rattle.topology.specs.declared.frame_faults.FrameKind.{FrameKind}
use Rattle.topology.specs.declared.frame_faults.FrameKind.TheVariants as fault
use Rattle.wire_frames.specs.declared.tags.Tag.{Tag}
use Rattle.wire_frames.specs.declared.frames.Frame.{Frame}
use Rattle.wire_frames.specs.Formats.{word_at}
use Rattle.wire_frames.specs.Frames.{tag_in, limit_of}
use Rattle.wire_frames.specs.Reading.{body_at, Found, Partial, Wrong, found_by, sized, behind_kind, of_kind, behind_version, is_version, found}
use Rattle.wire_frames.proofs.Found.{limit_small}
use Rattle.topology.specs.declared.frame_faults.FrameFault.TheVariants.{Truncated}
use Rattle.topology.specs.Lists.{Begins}
use Rattle.topology.specs.declared.status.Status.{Status}
use Rattle.topology.specs.declared.status.Status.TheVariants.{Done, NoMemory, LinkFault, BadFrame}
use Rattle.route_io.specs.Causes.{RoseIf, Rose, StaysTold}
use Rattle.route_io.specs.Links.{ahead, GrowsWithin, IsSure, OnlyReads}
use Rattle.route_io.specs.Acts.{ActsOnce, ReadsMore}
use Rattle.route_io.specs.Views.{StreamAct, Read, LinkView}
use Rattle.route_io.specs.declared.received.TheConstants.{PORTION}
use Rattle.route_io.specs.declared.received.Filled.{Filled}
use Rattle.route_io.specs.declared.received.Filled.TheVariants as filled
use Rattle.route_io.specs.declared.received.NotFilled.{NotFilled}
use Rattle.path_vector.specs.Rules.{Rules}
use Rattle.route_node.specs.declared.serving.Process.{Process}
use Rattle.route_node.specs.Prompt.{IsPrompt}
use Rattle.route_node.specs.Writing.{spelled, OneWriteEach}
use Rattle.route_node.specs.Streams.{stream, replies, answers, End, Refused, found_fault, EndsAt}
use Rattle.route_node.specs.Running.{Serving, Runs, ServesOn, IsWithin, EndsServing, left_of, who_at}
use Rattle.route_node.specs.Served.{Answered, BreaksOff}
use Rattle.route_node.proofs.Ending.{behind_all, by_link, by_memory, ends_by_break, ends_by_ending}
use Rattle.route_node.proofs.InTime.{told_once, one_write_read, prompt_wait, keeps_read}
use Rattle.route_node.proofs.Told.{replies_spelled}

-- ---- the beginning of a frame is no longer than a frame

not_partial : (n : ℕ) (r : Result Frame FrameKind) → found_by n r ≡ Partial → ⊥
not_partial n (Ok f) e = absurd (cc e)
not_partial n (Err k) e = absurd (cc e)

by_length : (limit n size : ℕ) (r : Result Frame FrameKind) (there : Found) → limit ≤ 1048576 → there ≡ (if nat_lt limit n then Wrong fault.Length else if nat_lt size n then Partial else found_by n r) → there ≡ Partial → size < 1048576
by_length limit n size r there small is e =
    (elim (nat_lt limit n) as (λ t. nat_lt limit n ≡ t → there ≡ (if t then Wrong fault.Length else if nat_lt size n then Partial else found_by n r) → size < 1048576) [
      | true ↦ λ long d. absurd (cc (e, d))
      | false ↦ λ within d. (elim (nat_lt size n) as (λ t. nat_lt size n ≡ t → there ≡ (if t then Partial else found_by n r) → size < 1048576) [
        | true ↦ λ short c. grind (arith, nat_tests, small, within, short)
        | false ↦ λ all c. absurd (not_partial n r (sym c ∙ e))
      ]) refl d
    ]) refl is

sized_short : (tag : Tag) (n : ℕ) (rest : List ℕ) → sized tag n rest ≡ Partial → length rest < 1048576
sized_short tag n rest e = by_length (limit_of tag) n (length rest) (body_at tag (take n rest)) (sized tag n rest) (limit_small tag) refl e

kind_short : (tag : Tag) (bytes : List ℕ) → behind_kind tag (word_at w32 bytes) ≡ Partial → length bytes < 1048580
kind_short tag bytes e =
    (elim (nat_lt (length bytes) 4) as (λ t. nat_lt (length bytes) 4 ≡ t → behind_kind tag (if t then Err fault.Length else Ok (from_be_bytes w32 (take 4 bytes), drop 4 bytes)) ≡ Partial → length bytes < 1048580) [
      | true ↦ λ short d. grind (arith, nat_tests, short)
      | false ↦ λ there d. let rest = sized_short tag (from_be_bytes w32 (take 4 bytes)) (drop 4 bytes) d in omega (arith, rest, length-drop 4 bytes)
    ]) refl e

of_kind_short : (tag : Option Tag) (bytes : List ℕ) → of_kind tag bytes ≡ Partial → length bytes < 1048580
of_kind_short None bytes e = absurd (cc e)
of_kind_short (Some tag) bytes e = kind_short tag bytes e

version_short : (v : ℕ) (bytes : List ℕ) → behind_version v bytes ≡ Partial → length bytes < 1048581
version_short v [] e = omega arith
version_short v (b ∷ bytes) e = let rest = of_kind_short (tag_in v b) bytes e in omega (arith, rest)

pub partial_short : (bytes : List ℕ) → found bytes ≡ Partial → length bytes < 1048582
unfolding found
partial_short [] e = omega arith
partial_short (v ∷ bytes) e =
    (elim (is_version v) as (λ t. (if t then behind_version v bytes else Wrong fault.Version) ≡ Partial → length (v ∷ bytes) < 1048582) [
      | true ↦ λ d. let rest = version_short v bytes d in omega (arith, rest)
      | false ↦ λ d. absurd (cc d)
    ]) e

-- ---- one more read

module _ {P : Type 0} (rules : Rules) (at : Serving P) (frames : List Frame) (process : Process P) (old new : LinkView) (runs : Runs rules at process old frames) where
  -- what is told of the bytes
  pub told_as : (bytes : List ℕ) → at.first.incoming ≡ Some bytes → (t : List ℕ) × (old.incoming ≡ Some t) × (bytes ≡ stream frames ++ (process.received ++ t))
  told_as bytes told = go old.incoming refl (runs.bytes ∙ told)
    where
      go : (known : Option (List ℕ)) → old.incoming ≡ known → prepend_known (stream frames) (prepend_known process.received old.incoming) ≡ Some bytes
          → (t : List ℕ) × (old.incoming ≡ Some t) × (bytes ≡ stream frames ++ (process.received ++ t))
      go None is e = let none = ap (λ k. prepend_known (stream frames) (prepend_known process.received k)) (sym is) ∙ e in absurd (cc none)
      go (Some t) is e =
          let some : Some (stream frames ++ (process.received ++ t)) ≡ Some bytes = ap (λ k. prepend_known (stream frames) (prepend_known process.received k)) (sym is) ∙ e in
          (t, is, cc some)

  -- the frames that were taken are at the front
  pub front_as : (bytes : List ℕ) → at.first.incoming ≡ Some bytes → Begins (stream frames) bytes
  front_as bytes told = let known = told_as bytes told in (process.received ++ known.0, sym known.2)

  -- nothing was written since: the run broke off with all answers written
  pub ends_unwritten : (status : Status) → new.outgoing ≡ old.outgoing → new.room ≡ old.room → new.dialled ≡ old.dialled
      → ((before : List StreamAct) → at.first.acts ≡ Some before → (since : List StreamAct) × (new.acts ≡ Some (since ++ before)) × IsPrompt (who_at rules at) since)
      → BreaksOff at.records status → RoseIf (status ≡ LinkFault) at.first.faults new.faults → (IsSure at.first → status ≡ LinkFault → ⊥) → EndsServing (who_at rules at) at.first new frames status
  ends_unwritten status same room dialled prompt why rose sure =
      ends_by_break (who_at rules at) at.first new status frames runs.taken runs.grow (room ∙ runs.same_room) (dialled ∙ runs.same_dialled) prompt why rose (λ is e. absurd (sure is e)) front_as
      (replies_spelled (who_at rules at) frames runs.valid runs.is_node runs.restored runs.taken) (answers (who_at rules at) frames)
      (subst (λ o. Appends at.first.outgoing o (answers (who_at rules at) frames)) (sym same) runs.wrote) ([], append-nil (answers (who_at rules at) frames))
      (behind_all (who_at rules at) at.first new status frames runs.taken runs.grow (room ∙ runs.same_room) (dialled ∙ runs.same_dialled) prompt)

  pub answered_as : new.outgoing ≡ old.outgoing → OneWriteEach (replies (who_at rules at) frames) at.first new → Answered (who_at rules at) frames at.first new
  answered_as same each = record {
    spelled = replies_spelled (who_at rules at) frames runs.valid runs.is_node runs.restored runs.taken;
    wrote = subst (λ o. Appends at.first.outgoing o (spelled (replies (who_at rules at) frames))) (sym same) runs.wrote;
    one_write_each = each;
  }

  -- no act was made since
  pub prompt_as : new.acts ≡ old.acts → (before : List StreamAct) → at.first.acts ≡ Some before → (since : List StreamAct) × (new.acts ≡ Some (since ++ before)) × IsPrompt (who_at rules at) since
  prompt_as same before told = let known = runs.acts before told in (known.0, same ∙ known.1, known.2.prompt)

  -- one read was made, when only the beginning of a frame was left
  pub prompt_read : found process.received ≡ Partial → (brought : Option (List ℕ)) → ActsOnce old new (Read brought) → (before : List StreamAct) → at.first.acts ≡ Some before
      → (since : List StreamAct) × (new.acts ≡ Some (since ++ before)) × IsPrompt (who_at rules at) since
  prompt_read partial brought once before told =
      let known = runs.acts before told in (
        Read brought ∷ known.0,
        told_once old.acts new.acts (Read brought) (known.0 ++ before) once known.1,
        prompt_wait (who_at rules at) frames process.received known.0 known.2 brought runs.grow runs.taken partial,
      )

  pub goes_on : IsWithin process → found process.received ≡ Partial → (received : List ℕ) → ahead received new ≡ ahead process.received old → GrowsWithin PORTION process.received received → length process.received < length received
      → ReadsMore process.received received old new → OnlyReads old new → new.faults ≡ old.faults → ServesOn rules at (record process { received = received }) new frames (left_of process)
  goes_on within partial received same grows longer reads others quiet =
      let short = partial_short process.received partial in
      let small = grows.2 in
      let size = ap (λ (l : List ℕ). length l) grows.1 ∙ length-append process.received grows.0 in
      record {
        runs = record {
          valid = runs.valid;
          is_node = runs.is_node;
          same_net = runs.same_net;
          same_id = runs.same_id;
          restored = runs.restored;
          stands = runs.stands;
          taken = runs.taken;
          count = runs.count;
          offset = runs.offset;
          bytes = ap (prepend_known (stream frames)) same ∙ runs.bytes;
          wrote = subst (λ o. Appends at.first.outgoing o (spelled (replies (who_at rules at) frames))) (sym (ap (λ (l : LinkView). l.outgoing) others)) runs.wrote;
          told = subst (λ o. StaysTold at.first.outgoing o) (sym (ap (λ (l : LinkView). l.outgoing) others)) runs.told;
          one_write_each = one_write_read at.first old new (replies (who_at rules at) frames) (Some reads.0) runs.one_write_each reads.2;
          grow = runs.grow;
          since = runs.since;
          acts = λ before told.
              let known = runs.acts before told in (
                Read (Some reads.0) ∷ known.0,
                told_once old.acts new.acts (Read (Some reads.0)) (known.0 ++ before) reads.2 known.1,
                keeps_read (who_at rules at) frames process.received known.0 known.2 reads.0 received reads.1 runs.grow runs.taken partial,
              );
          same_room = ap (λ (l : LinkView). l.room) others ∙ runs.same_room;
          same_dialled = ap (λ (l : LinkView). l.dialled) others ∙ runs.same_dialled;
          same_sure = ap (λ (l : LinkView). l.sure) others ∙ runs.same_sure;
          quiet = quiet ∙ runs.quiet;
        };
        within = (omega (arith, short, small, size), within.1);
        less = omega (arith, short, small, size, longer);
      }

  module _ (r : Result Filled NotFilled) (received : List ℕ) (is : r ≡ Ok filled.End) (grows : GrowsWithin PORTION process.received received) (more : (r ≡ Ok filled.More) ↔ (length process.received < length received)) where
    -- an end brings nothing
    pub same_received : received ≡ process.received
    same_received = go grows.0 grows.1
      where
        go : (m : List ℕ) → received ≡ process.received ++ m → received ≡ process.received
        go [] e = e ∙ append-nil process.received
        go (b ∷ m) e =
            let size = ap (λ (l : List ℕ). length l) e ∙ length-append process.received (b ∷ m) in
            let no : r ≡ Ok filled.More = more.1 (omega (arith, size)) in absurd (cc (sym is ∙ no))

    -- nothing is left to come
    pub nothing_left : IfSome old.incoming (λ t. OnOk r ((r ≡ Ok filled.End) ↔ (t ≡ []))) → (t : List ℕ) → old.incoming ≡ Some t → t ≡ []
    nothing_left end t some =
        let here : OnOk r ((r ≡ Ok filled.End) ↔ (t ≡ [])) = subst (λ k. IfSome k (λ t. OnOk r ((r ≡ Ok filled.End) ↔ (t ≡ [])))) some end in
        let both : (r ≡ Ok filled.End) ↔ (t ≡ []) = subst (λ q. OnOk q ((r ≡ Ok filled.End) ↔ (t ≡ []))) is here in both.0 is

    at_end : IfSome old.incoming (λ t. OnOk r ((r ≡ Ok filled.End) ↔ (t ≡ []))) → ahead received new ≡ ahead process.received old → received ≡ [] → IsAtEnd new.incoming
    at_end end same empty = go new.incoming refl old.incoming refl
      where
        whole : prepend_known [] new.incoming ≡ prepend_known [] old.incoming
        whole = subst (λ l. prepend_known l new.incoming ≡ prepend_known [] old.incoming) empty (subst (λ l. prepend_known received new.incoming ≡ prepend_known l old.incoming) (sym same_received ∙ empty) same)

        go : (a : Option (List ℕ)) → new.incoming ≡ a → (b : Option (List ℕ)) → old.incoming ≡ b → IsAtEnd new.incoming
        go None e b f = subst IsAtEnd (sym e) tt
        go (Some xs) e None f = let no : Some xs ≡ None = ap (prepend_known []) (sym e) ∙ (whole ∙ ap (prepend_known []) f) in absurd (cc no)
        go (Some xs) e (Some ys) f =
            let yes : Some xs ≡ Some ys = ap (prepend_known []) (sym e) ∙ (whole ∙ ap (prepend_known []) f) in
            let none : xs ≡ [] = let one : xs ≡ ys = cc yes in one ∙ nothing_left end ys f in
            subst IsAtEnd (sym e) none

    -- the end of the link between two frames
    pub ends_at_end : IfSome old.incoming (λ t. OnOk r ((r ≡ Ok filled.End) ↔ (t ≡ []))) → ahead received new ≡ ahead process.received old → received ≡ [] → found process.received ≡ Partial → ReadsMore process.received received old new → OnlyReads old new → new.faults ≡ old.faults
        → EndsServing (who_at rules at) at.first new frames Done
    ends_at_end end same empty partial reads others quiet =
        ends_by_ending (who_at rules at) at.first new Done frames runs.taken runs.grow (ap (λ (l : LinkView). l.room) others ∙ runs.same_room) (ap (λ (l : LinkView). l.dialled) others ∙ runs.same_dialled) (prompt_read partial (Some reads.0) reads.2) End refl refl
        (λ bytes told.
        let known = told_as bytes told in
        record {
          rest = [];
          in_front = known.2 ∙ ap (λ l. stream frames ++ l) (ap (λ l. l ++ known.0) (sym same_received ∙ empty) ∙ nothing_left end known.0 known.1);
          taken = runs.taken;
          ends = refl;
        })
        (answered_as (ap (λ (l : LinkView). l.outgoing) others) (one_write_read at.first old new (replies (who_at rules at) frames) (Some reads.0) runs.one_write_each reads.2)) (quiet ∙ runs.quiet) (λ _. at_end end same empty)

    truncated : (rest : List ℕ) → found rest ≡ Partial → (rest ≡ [] → ⊥) → EndsAt (who_at rules at) frames rest (Refused Truncated)
    truncated [] partial some = some refl
    truncated (b ∷ rest) partial some = ap (found_fault (who_at rules at) frames) partial

    -- the end of the link within a frame
    pub ends_within : IfSome old.incoming (λ t. OnOk r ((r ≡ Ok filled.End) ↔ (t ≡ []))) → found process.received ≡ Partial → (received ≡ [] → ⊥) → ReadsMore process.received received old new → OnlyReads old new → new.faults ≡ old.faults
        → EndsServing (who_at rules at) at.first new frames (BadFrame process.offset Truncated)
    ends_within end partial some reads others quiet =
        ends_by_ending (who_at rules at) at.first new (BadFrame process.offset Truncated) frames runs.taken runs.grow (ap (λ (l : LinkView). l.room) others ∙ runs.same_room) (ap (λ (l : LinkView). l.dialled) others ∙ runs.same_dialled) (prompt_read partial (Some reads.0) reads.2) (Refused Truncated) (ap (λ n. BadFrame n Truncated) runs.offset) refl
        (λ bytes told.
        let known = told_as bytes told in
        record {
          rest = process.received;
          in_front = known.2 ∙ ap (λ l. stream frames ++ l) (ap (λ l. process.received ++ l) (nothing_left end known.0 known.1) ∙ append-nil process.received);
          taken = runs.taken;
          ends = truncated process.received partial (λ none. some (same_received ∙ none));
        })
        (answered_as (ap (λ (l : LinkView). l.outgoing) others) (one_write_read at.first old new (replies (who_at rules at) frames) (Some reads.0) runs.one_write_each reads.2)) (quiet ∙ runs.quiet) (λ e. absurd (cc e))

  -- memory ran out before the link was read
  pub ends_without_memory : new ≡ old → EndsServing (who_at rules at) at.first new frames NoMemory
  ends_without_memory same =
      ends_unwritten NoMemory (ap (λ (l : LinkView). l.outgoing) same) (ap (λ (l : LinkView). l.room) same) (ap (λ (l : LinkView). l.dialled) same) (prompt_as (ap (λ (l : LinkView). l.acts) same)) (by_memory at.records)
      (record {
        later = let e = ap (λ (l : LinkView). l.faults) same ∙ runs.quiet in omega (arith, e);
        rose = λ e. absurd (cc e);
        quiet = λ _. ap (λ (l : LinkView). l.faults) same ∙ runs.quiet;
      })
      (λ _ e. cc e)

  -- a read failed
  pub ends_by_fault : found process.received ≡ Partial → OnlyReads old new → {failed : Type 0} → (failed → ActsOnce old new (Read None)) → (IsSure old → ¬ failed) → RoseIf failed old.faults new.faults → failed → EndsServing (who_at rules at) at.first new frames LinkFault
  ends_by_fault partial others once safe cause failed =
      ends_unwritten LinkFault (ap (λ (l : LinkView). l.outgoing) others) (ap (λ (l : LinkView). l.room) others) (ap (λ (l : LinkView). l.dialled) others) (prompt_read partial None (once failed)) (by_link at.records)
      (record {
        later = subst (λ n. n ≤ new.faults) runs.quiet cause.later;
        rose = λ _. subst (λ n. Rose n new.faults) runs.quiet (cause.rose failed);
        quiet = λ no. absurd (no refl);
      })
      (λ sure _. safe (runs.same_sure ∙ sure) failed)
