-- A process takes one more frame.
use Rattle.std.proofs.Common.{ℕ, ◌*◌, ◌≡◌, ◌<◌, ◌≤◌, Bool, true, false, Option, Some, None, List, [], ◌∷◌, ◌++◌, length, drop, refl, sym, ap, ◌∙◌, subst, append_assoc, arith}
use Rattle.std.specs.Prelude.{nat_le, nat_lt, filter_map, if◌then◌else◌}
use Rattle.std.specs.Int.{w32, to_be_bytes}
use Rattle.std.specs.List.{list_all}
use Rattle.std.proofs.lemmas.Bool.Decides.{nat_tests}
use Rattle.std.proofs.lemmas.List.{append-nil, length-append}
use Rattle.std.proofs.lemmas.List.Elements.{filter_map-append}
use Rattle.topology.specs.declared.frame_faults.FrameFault.TheVariants as fault
use Rattle.topology.specs.declared.status.LimitKind.TheVariants.{Frames}
use Rattle.topology.specs.Lists.{has}
use Rattle.topology.specs.Net.{Net, IsValid}
use Rattle.topology.proofs.Tests.{and_right}
use Rattle.path_vector.specs.Rules.{Rules}
use Rattle.chronicle.specs.Facts.{Chronicle}
use Rattle.chronicle.specs.Inputs.{Input}
use Rattle.chronicle.specs.Run.{chronicle_of}
use Rattle.chronicle.specs.Steps.{Step, Idle, Goes}
use Rattle.node_core.specs.Fits.{fits}
use Rattle.node_core.specs.NodeLimits.{Reached, node_limit}
use Rattle.node_core.specs.Outputs.{Output, outputs, Answers}
use Rattle.node_core.specs.declared.outputs.Outputs.{Outputs}
use Rattle.node_core.specs.declared.outputs.Outputs.TheVariants.{Did, Idle as Declines}
use Rattle.admission_laws.specs.Handing.{output_fits}
use Rattle.admission_laws.specs.NodeRuns.{going_on, gives, AllAdmitted}
use Rattle.admission_laws.proofs.Handed.{all_fit, all_fit_again}
use Rattle.wire_frames.specs.declared.frames.Frame.{Frame}
use Rattle.wire_frames.specs.Frames.{spell, body, limit_of, tag_of, fields_fit}
use Rattle.wire_frames.specs.Frames.{fits as has_spelling}
use Rattle.wire_frames.proofs.Formats.{wide32}
use Rattle.wire_frames.proofs.Found.{limit_small}
use Rattle.topology.specs.declared.limits.TheConstants.{MOST_FRAMES}
use Rattle.route_node.specs.Frames.{brought, telling}
use Rattle.route_node.specs.Records.{AreRestored}
use Rattle.route_node.specs.Running.{AreBegun, HandsSince}
use Rattle.route_node.specs.Streams.{stream, replies, out_of_turn, input_refusal, refusal, input_limit, journal_limit, first_of_two, frame_limit, AreTaken}
use Rattle.route_node.specs.Told.{handed}
use Rattle.route_node.specs.Who.{Who, afresh, inputs, begun, begun_by, run_over}

-- ---- the inputs of frames

-- a frame that brings an input adds it
pub inputs_more : (f : Frame) (frames : List Frame) (i : Input) → brought f ≡ Some i → inputs (f ∷ frames) ≡ i ∷ inputs frames
inputs_more f frames i e = rw e refl

-- the outputs so far, and those of one more step
pub hands : (past : Chronicle) (step : Step) (told : Outputs) → Answers past step told → outputs past ++ handed told ≡ outputs (chronicle_of past step)
hands past (Idle why) (Declines reason) e = append-nil (outputs past)
hands past (Idle why) (Did list) e = absurd e
hands past (Goes now) (Declines reason) e = absurd e
hands past (Goes now) (Did list) e = e

pub all_right : {A : Type 0} (p : A → Bool) (xs ys : List A) → list_all p (xs ++ ys) ≡ true → list_all p ys ≡ true
all_right p [] ys e = e
all_right p (x ∷ xs) ys e = all_right p xs ys (and_right (p x) (list_all p (xs ++ ys)) e)

-- if the outputs begin with these, the later ones
pub behind : {A : Type 0} (xs ys all : List A) → all ≡ xs ++ ys → drop (length xs) all ≡ ys
behind [] ys all e = e
behind (x ∷ xs) ys [] e = absurd (cc e)
behind (x ∷ xs) ys (a ∷ all) e = let rest : all ≡ xs ++ ys = cc e in behind xs ys all rest

-- if neither of two limits is exceeded, the first of the two is none
pub neither : (o later : Option Reached) → first_of_two o later ≡ None → (o ≡ None) × (later ≡ None)
neither None later e = (refl, e)
neither (Some reached) later e = absurd (cc e)

pub first_is : (o later : Option Reached) (reached : Reached) → o ≡ Some reached → first_of_two o later ≡ Some reached
first_is o later reached e = ap (λ first. first_of_two first later) e

module _ (who : Who) where
  -- the run goes on by what the frame brings
  pub run_more : (f : Frame) (frames : List Frame) (i : Input) → brought f ≡ Some i
      → run_over who (f ∷ frames) ≡ chronicle_of (run_over who frames) (gives who.rules who.net who.node (run_over who frames) i)
  unfolding going_on
  run_more f frames i e = ap (going_on who.rules who.net who.node (begun_by who)) (inputs_more f frames i e)

  -- a frame that brings nothing is refused
  pub brings_some : (f : Frame) (frames : List Frame) → refusal who frames f ≡ None → (i : Input) × (brought f ≡ Some i)
  brings_some f frames none = go (brought f) refl none
    where
      go : (b : Option Input) → brought f ≡ b → input_refusal who.rules who.net who.node (run_over who frames) b ≡ None → (i : Input) × (brought f ≡ Some i)
      go None e off = absurd (cc off)
      go (Some i) e off = (i, e)

  pub refusal_is : (f : Frame) (frames : List Frame) (i : Input) → brought f ≡ Some i → fits who.net who.node i ≡ true
      → refusal who frames f ≡ out_of_turn (gives who.rules who.net who.node (run_over who frames) i)
  refusal_is f frames i e fit =
      ap (input_refusal who.rules who.net who.node (run_over who frames)) e
      ∙ ap (λ b. if b then out_of_turn (gives who.rules who.net who.node (run_over who frames) i) else Some fault.Name) fit

  pub fits_as : (f : Frame) (frames : List Frame) (i : Input) → brought f ≡ Some i → refusal who frames f ≡ None → fits who.net who.node i ≡ true
  fits_as f frames i e none =
      (elim (fits who.net who.node i) as (λ t. fits who.net who.node i ≡ t → (if t then out_of_turn (gives who.rules who.net who.node (run_over who frames) i) else Some fault.Name) ≡ None → t ≡ true) [
        | true ↦ λ d c. refl
        | false ↦ λ d c. absurd (cc c)
      ]) refl (sym (ap (input_refusal who.rules who.net who.node (run_over who frames)) e) ∙ none)

  -- the possible results of one more frame, by a test of their number
  pub limit_as : (f : Frame) (frames : List Frame) (i : Input) (count : ℕ) → brought f ≡ Some i → count ≡ length frames
      → frame_limit who frames f
      ≡ (if nat_lt count MOST_FRAMES then first_of_two (node_limit who.rules who.net who.node (gives who.rules who.net who.node (run_over who frames) i)) (journal_limit who.records frames f)
      else Some (record { kind = Frames; number = MOST_FRAMES }))
  limit_as f frames i count e is =
      ap (λ b. if nat_lt (length frames) MOST_FRAMES then first_of_two (input_limit who frames b) (journal_limit who.records frames f) else Some (record { kind = Frames; number = MOST_FRAMES })) e
      ∙ ap (λ n. if nat_lt n MOST_FRAMES then first_of_two (node_limit who.rules who.net who.node (gives who.rules who.net who.node (run_over who frames) i)) (journal_limit who.records frames f) else Some (record { kind = Frames; number = MOST_FRAMES })) (sym is)

  -- the limit on frames comes first, then those of the node
  pub limit_first : (f : Frame) (frames : List Frame) (i : Input) (count : ℕ) (reached : Reached) → brought f ≡ Some i → count ≡ length frames
      → (if nat_lt count MOST_FRAMES then node_limit who.rules who.net who.node (gives who.rules who.net who.node (run_over who frames) i) else Some (record { kind = Frames; number = MOST_FRAMES })) ≡ Some reached
      → frame_limit who frames f ≡ Some reached
  limit_first f frames i count reached e is stops =
      limit_as f frames i count e is
      ∙ (elim (nat_lt count MOST_FRAMES) as
      (λ t. (if t then node_limit who.rules who.net who.node (gives who.rules who.net who.node (run_over who frames) i) else Some (record { kind = Frames; number = MOST_FRAMES })) ≡ Some reached
      → (if t then first_of_two (node_limit who.rules who.net who.node (gives who.rules who.net who.node (run_over who frames) i)) (journal_limit who.records frames f) else Some (record { kind = Frames; number = MOST_FRAMES })) ≡ Some reached) [
        | true ↦ λ d. first_is (node_limit who.rules who.net who.node (gives who.rules who.net who.node (run_over who frames) i)) (journal_limit who.records frames f) reached d
        | false ↦ λ d. d
      ]) stops

  -- and last that on the bytes of the journal
  pub limit_last : (f : Frame) (frames : List Frame) (i : Input) → brought f ≡ Some i → length frames < MOST_FRAMES
      → node_limit who.rules who.net who.node (gives who.rules who.net who.node (run_over who frames) i) ≡ None → frame_limit who frames f ≡ journal_limit who.records frames f
  limit_last f frames i e few none =
      let test : nat_lt (length frames) MOST_FRAMES ≡ true = grind (arith, nat_tests, few) in
      limit_as f frames i (length frames) e refl
      ∙ (ap (λ b. if b then first_of_two (node_limit who.rules who.net who.node (gives who.rules who.net who.node (run_over who frames) i)) (journal_limit who.records frames f) else Some (record { kind = Frames; number = MOST_FRAMES })) test
      ∙ ap (λ o. first_of_two o (journal_limit who.records frames f)) none)

  -- no count of the node is above its number
  input_within : (f : Frame) (frames : List Frame) → frame_limit who frames f ≡ None → input_limit who frames (brought f) ≡ None
  input_within f frames none =
      (elim (nat_lt (length frames) MOST_FRAMES) as (λ t. (if t then first_of_two (input_limit who frames (brought f)) (journal_limit who.records frames f) else Some (record { kind = Frames; number = MOST_FRAMES })) ≡ None → input_limit who frames (brought f) ≡ None) [
        | true ↦ λ d. (neither (input_limit who frames (brought f)) (journal_limit who.records frames f) d).0
        | false ↦ λ d. absurd (cc d)
      ]) none

  -- one more input was admitted
  one_admitted : (f : Frame) (frames : List Frame) → refusal who frames f ≡ None → input_limit who frames (brought f) ≡ None
      → AllAdmitted who.rules who.net who.node (begun_by who) (inputs frames) → AllAdmitted who.rules who.net who.node (begun_by who) (inputs (f ∷ frames))
  one_admitted f frames none limit before =
      let some = brings_some f frames none in
      subst (AllAdmitted who.rules who.net who.node (begun_by who)) (sym (inputs_more f frames some.0 some.1))
      (fits_as f frames some.0 some.1 none, sym (ap (input_limit who frames) some.1) ∙ limit, before)

  -- each input was admitted
  pub all_admitted : (frames : List Frame) → AreTaken who frames → AllAdmitted who.rules who.net who.node (begun_by who) (inputs frames)
  all_admitted [] taken = tt
  all_admitted (f ∷ frames) (fit, none, limit, taken) = one_admitted f frames none (input_within f frames limit) (all_admitted frames taken)

  pub all_restored : (frames : List Frame) → AreRestored who frames → AllAdmitted who.rules who.net who.node (begun_by who) (inputs frames)
  all_restored [] taken = tt
  all_restored (f ∷ frames) (fit, none, limit, taken) = one_admitted f frames none limit (all_restored frames taken)

-- ---- what a step hands out

-- all that a node hands out is admitted, restarted or not
pub fits_since : (rules : Rules) (net : Net) (u : ℕ) (records : Option (List Frame)) → IsValid net → has net.nodes u ≡ true → AreBegun rules net u records → (is : List Input)
    → AllAdmitted rules net u (begun rules net u records) is → list_all (output_fits net u) (outputs (going_on rules net u (begun rules net u records) is)) ≡ true
fits_since rules net u None valid here restored is admitted = all_fit rules net u is valid here admitted
fits_since rules net u (Some frames) valid here restored is admitted =
    all_fit_again rules net u (inputs frames) is valid here (all_restored (afresh rules net u) frames restored) admitted

module _ (who : Who) where
  -- what is handed out is admitted
  pub handed_fits : IsValid who.net → has who.net.nodes who.node ≡ true → AreBegun who.rules who.net who.node who.records → (frames : List Frame) (i : Input) (told : Outputs) → AreTaken who frames → fits who.net who.node i ≡ true
      → node_limit who.rules who.net who.node (gives who.rules who.net who.node (run_over who frames) i) ≡ None
      → Answers (run_over who frames) (gives who.rules who.net who.node (run_over who frames) i) told → list_all (output_fits who.net who.node) (handed told) ≡ true
  unfolding going_on
  handed_fits valid here restored frames i told taken fit none answers' =
      all_right (output_fits who.net who.node) (outputs (run_over who frames)) (handed told)
      (subst (λ os. list_all (output_fits who.net who.node) os ≡ true) (sym (hands (run_over who frames) (gives who.rules who.net who.node (run_over who frames) i) told answers'))
      (fits_since who.rules who.net who.node who.records valid here restored (i ∷ inputs frames) (fit, none, all_admitted who frames taken)))

  -- one more frame, and the frames of what it made the node hand out
  pub since_more : (f : Frame) (frames : List Frame) (i : Input) (told : Outputs) → brought f ≡ Some i → Answers (run_over who frames) (gives who.rules who.net who.node (run_over who frames) i) told
      → (since : HandsSince who frames) → outputs (run_over who (f ∷ frames)) ≡ outputs (begun_by who) ++ (since.0 ++ handed told)
  since_more f frames i told e answers' since =
      ap outputs (run_more who f frames i e)
      ∙ (sym (hands (run_over who frames) (gives who.rules who.net who.node (run_over who frames) i) told answers')
      ∙ (ap (λ (l : List Output). l ++ handed told) since.1 ∙ append_assoc (outputs (begun_by who)) since.0 (handed told)))

  pub replies_are : (frames : List Frame) (since : List Output) → outputs (run_over who frames) ≡ outputs (begun_by who) ++ since → replies who frames ≡ filter_map telling since
  replies_are frames since is = ap (filter_map telling) (behind (outputs (begun_by who)) since (outputs (run_over who frames)) is)

  pub replies_more : (f : Frame) (frames : List Frame) (i : Input) (told : Outputs) → brought f ≡ Some i → Answers (run_over who frames) (gives who.rules who.net who.node (run_over who frames) i) told
      → HandsSince who frames → replies who (f ∷ frames) ≡ replies who frames ++ filter_map telling (handed told)
  replies_more f frames i told e answers' since =
      replies_are (f ∷ frames) (since.0 ++ handed told) (since_more f frames i told e answers' since)
      ∙ (filter_map-append telling since.0 (handed told) ∙ ap (λ (l : List Frame). l ++ filter_map telling (handed told)) (sym (replies_are frames since.0 since.1)))

  -- ---- how long a stream is

  spell_short : (f : Frame) → has_spelling f ≡ true → length (spell f) ≤ 1048582
  unfolding has_spelling spell
  spell_short f e =
      let small = limit_small (tag_of f) in
      let within : nat_le (length (body f)) (limit_of (tag_of f)) ≡ true = and_right (fields_fit f) (nat_le (length (body f)) (limit_of (tag_of f))) e in
      let short : length (body f) ≤ limit_of (tag_of f) = grind (arith, nat_tests, within) in
      omega (arith, length-append (to_be_bytes w32 (length (body f))) (body f), wide32.len (length (body f)), small, short)

  pub stream_short : (frames : List Frame) → AreTaken who frames → length (stream frames) ≤ 1048582 * length frames
  stream_short [] taken = omega arith
  stream_short (f ∷ frames) (fit, none, limit, taken) = omega (arith, length-append (stream frames) (spell f), spell_short f fit, stream_short frames taken)
