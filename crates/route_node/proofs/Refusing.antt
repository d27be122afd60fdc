-- Frames that are refused, and bytes that are no frame.
use Rattle.std.proofs.Common.{ℕ, ◌≡◌, ◌≤◌, true, false, Option, Some, None, List, [], ◌∷◌, ◌++◌, length, take, drop, Ok, Err, refl, sym, ap, ◌∙◌, subst, append_assoc, arith}
use Rattle.std.specs.Prelude.{nat_lt, if◌then◌else◌}
use Rattle.std.specs.Int.{w32, from_be_bytes}
use Rattle.std.proofs.lemmas.Bool.Decides.{nat_tests}
use Rattle.std.proofs.lemmas.List.{length-append, take-append-le, drop-append-le}
use Rattle.topology.specs.declared.frame_faults.FrameFault.{FrameFault}
use Rattle.topology.specs.declared.frame_faults.FrameKind.{FrameKind}
use Rattle.topology.specs.declared.frame_faults.FrameKind.TheVariants as fault
use Rattle.topology.specs.declared.status.Status.{Status}
use Rattle.topology.specs.declared.status.Status.TheVariants.{Done, Usage, NoMemory, BadSchedule, Limit, ReadFault, WriteFault, LinkFault, BadFrame, NoSuchNode, DiskFault, BadJournal, BadTables, Inconsistent}
use Rattle.topology.specs.Words.{fault_of}
use Rattle.route_io.specs.Views.{LinkView}
use Rattle.path_vector.specs.Rules.{Rules}
use Rattle.wire_frames.specs.declared.tags.Tag.{Tag}
use Rattle.wire_frames.specs.declared.frames.Frame.{Frame}
use Rattle.wire_frames.specs.Formats.{word_at}
use Rattle.wire_frames.specs.Frames.{tag_in, limit_of, spell}
use Rattle.wire_frames.specs.Reading.{body_at, Found, Whole, Partial, Wrong, found_by, sized, behind_kind, of_kind, behind_version, is_version, found}
use Rattle.wire_frames.proofs.Found.{spelled_found}
use Rattle.route_node.specs.declared.serving.Process.{Process}
use Rattle.route_node.specs.Fronts.{Holds, RefusesAt}
use Rattle.route_node.specs.Running.{Serving, Runs, EndsServing, who_at}
use Rattle.route_node.specs.Streams.{refusal, Refused, found_fault, EndsAt}
use Rattle.route_node.proofs.Ending.{ends_by_ending}
use Rattle.route_node.proofs.Waiting.{told_as, answered_as, prompt_as, ends_without_memory}

-- ---- a fault stays a fault, whatever follows

sized_stays : (tag : Tag) (n : ℕ) (bytes more : List ℕ) (k : FrameKind) → sized tag n bytes ≡ Wrong k → sized tag n (bytes ++ more) ≡ Wrong k
sized_stays tag n bytes more k e =
    (elim (nat_lt (limit_of tag) n) as (λ t. (if t then Wrong fault.Length else if nat_lt (length bytes) n then Partial else found_by n (body_at tag (take n bytes))) ≡ Wrong k
    → (if t then Wrong fault.Length else if nat_lt (length (bytes ++ more)) n then Partial else found_by n (body_at tag (take n (bytes ++ more)))) ≡ Wrong k) [
      | true ↦ λ d. d
      | false ↦ λ d. (elim (nat_lt (length bytes) n) as (λ t. nat_lt (length bytes) n ≡ t → (if t then Partial else found_by n (body_at tag (take n bytes))) ≡ Wrong k
          → (if nat_lt (length (bytes ++ more)) n then Partial else found_by n (body_at tag (take n (bytes ++ more)))) ≡ Wrong k) [
            | true ↦ λ short c. absurd (cc c)
            | false ↦ λ all c.
                let there : n ≤ length bytes = grind (arith, nat_tests, all) in
                let still : nat_lt (length (bytes ++ more)) n ≡ false = grind (arith, nat_tests, there, length-append bytes more) in
                ap (λ b. if b then Partial else found_by n (body_at tag (take n (bytes ++ more)))) still ∙ (ap (λ l. found_by n (body_at tag l)) (take-append-le n bytes more there) ∙ c)
          ]) refl d
    ]) e

kind_stays : (tag : Tag) (bytes more : List ℕ) (k : FrameKind) → behind_kind tag (word_at w32 bytes) ≡ Wrong k → behind_kind tag (word_at w32 (bytes ++ more)) ≡ Wrong k
kind_stays tag bytes more k e =
    (elim (nat_lt (length bytes) 4) as (λ t. nat_lt (length bytes) 4 ≡ t → behind_kind tag (if t then Err fault.Length else Ok (from_be_bytes w32 (take 4 bytes), drop 4 bytes)) ≡ Wrong k
    → behind_kind tag (word_at w32 (bytes ++ more)) ≡ Wrong k) [
      | true ↦ λ short d. absurd (cc d)
      | false ↦ λ all d.
          let there : 4 ≤ length bytes = grind (arith, nat_tests, all) in
          let still : nat_lt (length (bytes ++ more)) 4 ≡ false = grind (arith, nat_tests, there, length-append bytes more) in
          ap (λ b. behind_kind tag (if b then Err fault.Length else Ok (from_be_bytes w32 (take 4 (bytes ++ more)), drop 4 (bytes ++ more)))) still
          ∙ (ap (λ l. sized tag (from_be_bytes w32 l) (drop 4 (bytes ++ more))) (take-append-le 4 bytes more there)
          ∙ (ap (λ l. sized tag (from_be_bytes w32 (take 4 bytes)) l) (drop-append-le 4 bytes more there)
          ∙ sized_stays tag (from_be_bytes w32 (take 4 bytes)) (drop 4 bytes) more k d))
    ]) refl e

of_kind_stays : (tag : Option Tag) (bytes more : List ℕ) (k : FrameKind) → of_kind tag bytes ≡ Wrong k → of_kind tag (bytes ++ more) ≡ Wrong k
of_kind_stays None bytes more k e = e
of_kind_stays (Some tag) bytes more k e = kind_stays tag bytes more k e

version_stays : (v : ℕ) (bytes more : List ℕ) (k : FrameKind) → behind_version v bytes ≡ Wrong k → behind_version v (bytes ++ more) ≡ Wrong k
version_stays v [] more k e = absurd (cc e)
version_stays v (b ∷ bytes) more k e = of_kind_stays (tag_in v b) bytes more k e

pub wrong_stays : (bytes more : List ℕ) (k : FrameKind) → found bytes ≡ Wrong k → found (bytes ++ more) ≡ Wrong k
unfolding found
wrong_stays [] more k e = absurd (cc e)
wrong_stays (v ∷ bytes) more k e =
    (elim (is_version v) as (λ t. (if t then behind_version v bytes else Wrong fault.Version) ≡ Wrong k → (if t then behind_version v (bytes ++ more) else Wrong fault.Version) ≡ Wrong k) [
      | true ↦ λ d. version_stays v bytes more k d
      | false ↦ λ d. d
    ]) e

-- ---- the run ends at a refusal

module _ {P : Type 0} (rules : Rules) (at : Serving P) (frames : List Frame) (process : Process P) (old : LinkView) (runs : Runs rules at process old frames) where
  -- what is found at the front of the rest is refused with this fault
  refused_by : (fault : FrameFault) → ((t : List ℕ) → EndsAt (who_at rules at) frames (process.received ++ t) (Refused fault)) → EndsServing (who_at rules at) at.first old frames (BadFrame process.offset fault)
  refused_by fault ends =
      ends_by_ending (who_at rules at) at.first old (BadFrame process.offset fault) frames runs.taken runs.grow runs.same_room runs.same_dialled (prompt_as rules at frames process old old runs refl) (Refused fault) (ap (λ n. BadFrame n fault) runs.offset) refl
      (λ bytes told.
      let known = told_as rules at frames process old old runs bytes told in
      record { rest = process.received ++ known.0; in_front = known.2; taken = runs.taken; ends = ends known.0 })
      (answered_as rules at frames process old old runs refl runs.one_write_each) runs.quiet (λ e. absurd (cc e))

  ends_with : (rest : List ℕ) (there : Found) (fault : FrameFault) → found rest ≡ there → (rest ≡ [] → ⊥) → found_fault (who_at rules at) frames there ≡ Some fault → EndsAt (who_at rules at) frames rest (Refused fault)
  ends_with [] there fault is some e = some refl
  ends_with (b ∷ rest) there fault is some e = ap (found_fault (who_at rules at) frames) is ∙ e

  nothing_wrong : (k : FrameKind) (rest : List ℕ) → found rest ≡ Wrong k → rest ≡ [] → ⊥
  unfolding found
  nothing_wrong k [] e none = absurd (cc e)
  nothing_wrong k (b ∷ rest) e none = absurd (cc none)

  -- bytes that are no frame
  pub ends_wrong : (kind : FrameKind) → found process.received ≡ Wrong kind → EndsServing (who_at rules at) at.first old frames (BadFrame process.offset (fault_of kind))
  ends_wrong kind e =
      refused_by (fault_of kind)
      (λ t. ends_with (process.received ++ t) (Wrong kind) (fault_of kind) (wrong_stays process.received t kind e) (nothing_wrong kind (process.received ++ t) (wrong_stays process.received t kind e)) refl)

  spell_some : (f : Frame) (rest : List ℕ) → spell f ++ rest ≡ [] → ⊥
  unfolding spell
  spell_some f rest e = absurd (cc e)

  -- a frame that is refused
  pub ends_refused : (f : Frame) (n : ℕ) → Holds process.received f n → (status : Status) → RefusesAt process.offset (refusal (who_at rules at) frames f) status → EndsServing (who_at rules at) at.first old frames status
  ends_refused f n holds NoMemory e = ends_without_memory rules at frames process old old runs refl
  ends_refused f n holds (BadFrame offset fault) e =
      subst (λ o. EndsServing (who_at rules at) at.first old frames (BadFrame o fault)) (sym e.0)
      (refused_by fault
      (λ t.
      let whole : process.received ++ t ≡ spell f ++ (drop n process.received ++ t) = ap (λ l. l ++ t) holds.splits ∙ append_assoc (spell f) (drop n process.received) t in
      ends_with (process.received ++ t) (Whole f (length (spell f))) fault (ap found whole ∙ spelled_found f (drop n process.received ++ t) holds.fit)
      (λ none. spell_some f (drop n process.received ++ t) (sym whole ∙ none)) e.1))
  ends_refused f n holds (Limit kind number) e = absurd e
  ends_refused f n holds Done e = absurd e
  ends_refused f n holds Usage e = absurd e
  ends_refused f n holds (BadSchedule line kind) e = absurd e
  ends_refused f n holds ReadFault e = absurd e
  ends_refused f n holds WriteFault e = absurd e
  ends_refused f n holds LinkFault e = absurd e
  ends_refused f n holds (NoSuchNode node) e = absurd e
  ends_refused f n holds DiskFault e = absurd e
  ends_refused f n holds (BadJournal offset fault) e = absurd e
  ends_refused f n holds (BadTables line) e = absurd e
  ends_refused f n holds (Inconsistent line kind) e = absurd e

  -- which is no fault of the disk
  pub no_disk_fault : (f : Frame) (status : Status) → RefusesAt process.offset (refusal (who_at rules at) frames f) status → status ≡ DiskFault → ⊥
  no_disk_fault f status e is = subst (RefusesAt process.offset (refusal (who_at rules at) frames f)) is e
