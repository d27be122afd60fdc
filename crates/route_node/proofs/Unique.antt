-- Reading bytes has only one result: which frames are taken from the front, and how the stream ends after them.
use Rattle.std.proofs.Common.{ℕ, ◌≡◌, true, Some, None, List, [], ◌∷◌, ◌++◌, length, refl, sym, ap, ◌∙◌, subst, append_assoc, inl, inr, ◌⊎◌}
use Rattle.std.proofs.lemmas.List.{append-nil, append_cancel_left}
use Rattle.topology.specs.declared.frame_faults.FrameFault.{FrameFault}
use Rattle.node_core.specs.NodeLimits.{Reached}
use Rattle.wire_frames.specs.declared.frames.Frame.{Frame}
use Rattle.wire_frames.specs.Frames.{spell}
use Rattle.wire_frames.specs.Frames.{fits as has_spelling}
use Rattle.wire_frames.specs.Reading.{Found, Whole, Partial, Wrong, found}
use Rattle.wire_frames.proofs.Found.{spelled_found}
use Rattle.route_node.specs.Who.{Who}
use Rattle.route_node.specs.Streams.{stream, refusal, frame_limit, AreTaken, Ending, End, Refused, Stopped, found_fault, StopsAt, EndsAt, StreamComesTo}

-- ---- streams

-- what follows frames comes after their spelling
pub stream_more : (more frames : List Frame) → stream (more ++ frames) ≡ stream frames ++ stream more
stream_more [] frames = sym (append-nil (stream frames))
stream_more (f ∷ more) frames = ap (λ (t : List ℕ). t ++ spell f) (stream_more more frames) ∙ append_assoc (stream frames) (stream more) (spell f)

-- a list is empty, or has an oldest element
pub oldest : (frames : List Frame) → (frames ≡ []) ⊎ ((x : Frame) × (newer : List Frame) × (frames ≡ newer ++ x ∷ []))
oldest [] = inl refl
oldest (f ∷ frames) = go (oldest frames)
  where
    go : (frames ≡ []) ⊎ ((x : Frame) × (newer : List Frame) × (frames ≡ newer ++ x ∷ [])) → (f ∷ frames ≡ []) ⊎ ((x : Frame) × (newer : List Frame) × (f ∷ frames ≡ newer ++ x ∷ []))
    go (inl e) = inr (f, [], ap (λ (l : List Frame). f ∷ l) e)
    go (inr (x, newer, e)) = inr (x, f ∷ newer, ap (λ (l : List Frame). f ∷ l) e)

-- the stream of frames with an oldest one begins with that
pub from_oldest : (newer : List Frame) (x : Frame) → stream (newer ++ x ∷ []) ≡ spell x ++ stream newer
from_oldest newer x = stream_more newer (x ∷ [])

-- ---- two readings of the same bytes

-- one more frame in front is found
pub in_front : (x : Frame) (rest : List ℕ) → has_spelling x ≡ true → found (spell x ++ rest) ≡ Whole x (length (spell x))
in_front x rest fit = spelled_found x rest fit

abbrev frame_in : Frame → Found → Frame
frame_in other (Whole f n) = f
frame_in other Partial = other
frame_in other (Wrong wrong) = other

pub same_frame : (f x : Frame) (rest more : List ℕ) → has_spelling f ≡ true → has_spelling x ≡ true → spell f ++ rest ≡ spell x ++ more → f ≡ x
same_frame f x rest more fit fits same = ap (frame_in f) (sym (in_front f rest fit) ∙ (ap found same ∙ in_front x more fits))

-- all have a spelling
abbrev pub AllSpelled : List Frame → Type 0
AllSpelled [] = Unit {0}
AllSpelled (f ∷ frames) = (has_spelling f ≡ true) × AllSpelled frames

-- the other list continues the first, and so do the bytes that are left
pub record Longer (frames others : List Frame) (rest left : List ℕ) : Type 0 where
  pub more : List Frame
  pub others_are : others ≡ more ++ frames
  pub rest_is : rest ≡ stream more ++ left

pub spelled_oldest : (newer : List Frame) (x : Frame) (frames : List Frame) → AllSpelled ((newer ++ x ∷ []) ++ frames) → has_spelling x ≡ true
spelled_oldest [] x frames all = all.0
spelled_oldest (f ∷ newer) x frames all = spelled_oldest newer x frames all.1

pub compare : (frames others : List Frame) (rest left : List ℕ) → AllSpelled frames → AllSpelled others → stream frames ++ rest ≡ stream others ++ left
    → Longer frames others rest left ⊎ Longer others frames left rest
compare [] others rest left all alls same = inl (record { more = others; others_are = sym (append-nil others); rest_is = same })
compare (f ∷ frames) others rest left all alls same =
    go (compare frames others (spell f ++ rest) left all.1 alls (sym (append_assoc (stream frames) (spell f) rest) ∙ same))
  where
    behind : (x : Frame) (newer : List Frame) → others ≡ (newer ++ x ∷ []) ++ frames → spell f ++ rest ≡ (spell x ++ stream newer) ++ left → Longer (f ∷ frames) others rest left
    behind x newer is next =
        let fit : has_spelling x ≡ true = spelled_oldest newer x frames (subst AllSpelled is alls) in
        let whole : spell f ++ rest ≡ spell x ++ (stream newer ++ left) = next ∙ append_assoc (spell x) (stream newer) left in
        let one : f ≡ x = same_frame f x rest (stream newer ++ left) all.0 fit whole in
        record {
          more = newer;
          others_are = is ∙ (append_assoc newer (x ∷ []) frames ∙ ap (λ y. newer ++ y ∷ frames) (sym one));
          rest_is = append_cancel_left (spell f) rest (stream newer ++ left) (whole ∙ ap (λ y. spell y ++ (stream newer ++ left)) (sym one));
        }

    split : (longer : Longer frames others (spell f ++ rest) left) → (longer.more ≡ []) ⊎ ((x : Frame) × (newer : List Frame) × (longer.more ≡ newer ++ x ∷ []))
        → Longer (f ∷ frames) others rest left ⊎ Longer others (f ∷ frames) left rest
    split longer (inl none) =
        inr (record {
          more = f ∷ [];
          others_are = ap (λ (l : List Frame). f ∷ l) (sym (longer.others_are ∙ ap (λ (l : List Frame). l ++ frames) none));
          rest_is = sym (longer.rest_is ∙ ap (λ (l : List Frame). stream l ++ left) none);
        })
    split longer (inr (x, newer, is)) =
        inl (behind x newer (longer.others_are ∙ ap (λ (l : List Frame). l ++ frames) is) (longer.rest_is ∙ ap (λ (t : List ℕ). t ++ left) (ap stream is ∙ from_oldest newer x)))

    go : Longer frames others (spell f ++ rest) left ⊎ Longer others frames left (spell f ++ rest) → Longer (f ∷ frames) others rest left ⊎ Longer others (f ∷ frames) left rest
    go (inl longer) = split longer (oldest longer.more)
    go (inr longer) =
        inr (record {
          more = f ∷ longer.more;
          others_are = ap (λ (l : List Frame). f ∷ l) longer.others_are;
          rest_is = longer.rest_is ∙ sym (append_assoc (stream longer.more) (spell f) rest);
        })

-- ---- how a stream ends

module _ (who : Who) where
  pub all_spelled : (frames : List Frame) → AreTaken who frames → AllSpelled frames
  all_spelled [] taken = tt
  all_spelled (f ∷ frames) (fit, not_refused, not_stopped, taken) = (fit, all_spelled frames taken)

  -- the oldest of the later frames was taken after those before it
  pub taken_oldest : (newer : List Frame) (x : Frame) (frames : List Frame) → AreTaken who ((newer ++ x ∷ []) ++ frames) → AreTaken who (x ∷ frames)
  taken_oldest [] x frames taken = taken
  taken_oldest (f ∷ newer) x frames (fit, not_refused, not_stopped, taken) = taken_oldest newer x frames taken

  fault_of_found : (frames : List Frame) (x : Frame) (n : ℕ) (there : Found) (fault : FrameFault) → there ≡ Whole x n → refusal who frames x ≡ None → found_fault who frames there ≡ Some fault → ⊥
  fault_of_found frames x n there fault is none some =
      let e : found_fault who frames there ≡ refusal who frames x = ap (found_fault who frames) is in absurd (cc (e, none, some))

  stop_of_found : (frames : List Frame) (x : Frame) (n : ℕ) (there : Found) (reached : Reached) → there ≡ Whole x n → frame_limit who frames x ≡ None → StopsAt who frames reached there → ⊥
  stop_of_found frames x n there reached is none stops =
      let here : StopsAt who frames reached (Whole x n) = subst (StopsAt who frames reached) is stops in
      let some = here.1 in absurd (cc (none, some))

  -- if a frame that is taken is at the front, the stream does not end
  no_end : (frames : List Frame) (x : Frame) (rest : List ℕ) (ending : Ending) → AreTaken who (x ∷ frames) → EndsAt who frames (spell x ++ rest) ending → ⊥
  unfolding spell
  no_end frames x rest End taken ends = absurd (cc ends)
  no_end frames x rest (Refused fault) (fit, none, limit, taken) ends =
      fault_of_found frames x (length (spell x)) (found (spell x ++ rest)) fault (in_front x rest fit) none ends
  no_end frames x rest (Stopped reached) (fit, none, limit, taken) ends =
      stop_of_found frames x (length (spell x)) (found (spell x ++ rest)) reached (in_front x rest fit) limit ends

  -- after the same frames it ends in only one way
  refused_or_stopped : (frames : List Frame) (fault : FrameFault) (reached : Reached) (there : Found) → found_fault who frames there ≡ Some fault → StopsAt who frames reached there → ⊥
  refused_or_stopped frames fault reached (Whole x n) some stops = let none = stops.0 in absurd (cc (none, some))
  refused_or_stopped frames fault reached Partial some stops = stops
  refused_or_stopped frames fault reached (Wrong wrong) some stops = stops

  one_stop : (frames : List Frame) (a b : Reached) (there : Found) → StopsAt who frames a there → StopsAt who frames b there → a ≡ b
  one_stop frames a b (Whole x n) first second = let one = first.1 in let two = second.1 in cc (one, two)
  one_stop frames a b Partial first second = absurd first
  one_stop frames a b (Wrong wrong) first second = absurd first

  no_stop_at_end : (frames : List Frame) (reached : Reached) → StopsAt who frames reached (found []) → ⊥
  unfolding found
  no_stop_at_end frames reached stops = stops

  one_ending : (frames : List Frame) (rest : List ℕ) (a b : Ending) → EndsAt who frames rest a → EndsAt who frames rest b → a ≡ b
  one_ending frames [] End End first second = refl
  one_ending frames [] End (Refused g) first second = absurd second
  one_ending frames [] End (Stopped r) first second = absurd (no_stop_at_end frames r second)
  one_ending frames [] (Refused g) b first second = absurd first
  one_ending frames [] (Stopped r) b first second = absurd (no_stop_at_end frames r first)
  one_ending frames (c ∷ rest) End b first second = absurd (cc first)
  one_ending frames (c ∷ rest) (Refused g) End first second = absurd (cc second)
  one_ending frames (c ∷ rest) (Refused g) (Refused h) first second = let same : Some g ≡ Some h = sym first ∙ second in cc same
  one_ending frames (c ∷ rest) (Refused g) (Stopped r) first second = absurd (refused_or_stopped frames g r (found (c ∷ rest)) first second)
  one_ending frames (c ∷ rest) (Stopped r) End first second = absurd (cc second)
  one_ending frames (c ∷ rest) (Stopped r) (Refused h) first second = absurd (refused_or_stopped frames h r (found (c ∷ rest)) second first)
  one_ending frames (c ∷ rest) (Stopped r) (Stopped q) first second = ap Stopped (one_stop frames r q (found (c ∷ rest)) first second)

  -- the longer reading is not longer
  not_longer : (frames others : List Frame) (rest left : List ℕ) (ending : Ending) → AreTaken who others → EndsAt who frames rest ending → Longer frames others rest left
      → (others ≡ frames) × (left ≡ rest)
  not_longer frames others rest left ending taken ends longer = go (oldest longer.more)
    where
      go : (longer.more ≡ []) ⊎ ((x : Frame) × (newer : List Frame) × (longer.more ≡ newer ++ x ∷ [])) → (others ≡ frames) × (left ≡ rest)
      go (inl none) = (longer.others_are ∙ ap (λ (l : List Frame). l ++ frames) none, sym (longer.rest_is ∙ ap (λ (l : List Frame). stream l ++ left) none))
      go (inr (x, newer, is)) =
          let next : AreTaken who (x ∷ frames) = taken_oldest newer x frames (subst (AreTaken who) (longer.others_are ∙ ap (λ (l : List Frame). l ++ frames) is) taken) in
          let whole : rest ≡ spell x ++ (stream newer ++ left) = longer.rest_is ∙ (ap (λ (t : List ℕ). t ++ left) (ap stream is ∙ from_oldest newer x) ∙ append_assoc (spell x) (stream newer) left) in
          absurd (no_end frames x (stream newer ++ left) ending next (subst (λ t. EndsAt who frames t ending) whole ends))

  -- reading bytes has only one result
  pub come_once : (bytes : List ℕ) (frames others : List Frame) (a b : Ending) → StreamComesTo who bytes frames a → StreamComesTo who bytes others b → (frames ≡ others) × (a ≡ b)
  come_once bytes frames others a b first second =
      go (compare frames others first.rest second.rest (all_spelled frames first.taken) (all_spelled others second.taken) (sym first.in_front ∙ second.in_front))
    where
      finish : others ≡ frames → second.rest ≡ first.rest → (frames ≡ others) × (a ≡ b)
      finish same left =
          (sym same, one_ending frames first.rest a b first.ends (subst (λ t. EndsAt who frames t b) left (subst (λ l. EndsAt who l second.rest b) same second.ends)))

      go : Longer frames others first.rest second.rest ⊎ Longer others frames second.rest first.rest → (frames ≡ others) × (a ≡ b)
      go (inl longer) = let both = not_longer frames others first.rest second.rest a second.taken first.ends longer in finish both.0 both.1
      go (inr longer) = let both = not_longer others frames second.rest first.rest b first.taken second.ends longer in finish (sym both.0) (sym both.1)
