-- Reading the records of a journal has only one result: which frames they are of, and how the reading ends after them.
use Rattle.std.proofs.Common.{ℕ, ◌≡◌, true, Some, None, List, [], ◌∷◌, ◌++◌, length, refl, sym, ap, ◌∙◌, subst, append_assoc, inl, inr, ◌⊎◌}
use Rattle.std.specs.Prelude.{if◌then◌else◌}
use Rattle.std.proofs.lemmas.List.{append-nil}
use Rattle.topology.proofs.Tests.{same_refl}
use Rattle.topology.specs.declared.frame_faults.FrameFault.{FrameFault}
use Rattle.topology.specs.declared.frame_faults.FrameFault.TheVariants.{Length}
use Rattle.node_core.specs.NodeLimits.{Reached}
use Rattle.wire_frames.specs.declared.frames.Frame.{Frame}
use Rattle.wire_frames.specs.Frames.{spell}
use Rattle.wire_frames.specs.Frames.{fits as has_spelling}
use Rattle.wire_frames.specs.Reading.{Found, Whole, Partial, Wrong, found}
use Rattle.wire_frames.proofs.Found.{spelled_found}
use Rattle.route_node.specs.Frames.{brought}
use Rattle.route_node.specs.Records.{AreRestored, ComesBack, EndsBack, StopsIn, fault_in}
use Rattle.route_node.specs.Streams.{input_limit, refusal, Ending, End, Refused, Stopped}
use Rattle.route_node.specs.Who.{Who, spellings}
use Rattle.route_node.proofs.Unique.{AllSpelled, oldest, same_frame, spelled_oldest}

-- ---- records of frames

-- what follows frames comes after their records
records_more : (more frames : List Frame) → spellings (more ++ frames) ≡ spellings frames ++ spellings more
records_more [] frames = sym (append-nil (spellings frames))
records_more (f ∷ more) frames = ap (λ (t : List (List ℕ)). t ++ spell f ∷ []) (records_more more frames) ∙ append_assoc (spellings frames) (spellings more) (spell f ∷ [])

-- the records of frames with an oldest one begin with its own
from_oldest : (newer : List Frame) (x : Frame) → spellings (newer ++ x ∷ []) ≡ spell x ∷ spellings newer
from_oldest newer x = records_more newer (x ∷ [])

-- ---- two readings of the same records

-- the other list continues the first, and so do the records that are left
record Longer (frames others : List Frame) (rest left : List (List ℕ)) : Type 0 where
  pub more : List Frame
  pub others_are : others ≡ more ++ frames
  pub rest_is : rest ≡ spellings more ++ left

spell_again : (f x : Frame) → has_spelling f ≡ true → has_spelling x ≡ true → spell f ≡ spell x → f ≡ x
spell_again f x fit fits same = same_frame f x [] [] fit fits (ap (λ (l : List ℕ). l ++ []) same)

compare : (frames others : List Frame) (rest left : List (List ℕ)) → AllSpelled frames → AllSpelled others → spellings frames ++ rest ≡ spellings others ++ left
    → Longer frames others rest left ⊎ Longer others frames left rest
compare [] others rest left all alls same = inl (record { more = others; others_are = sym (append-nil others); rest_is = same })
compare (f ∷ frames) others rest left all alls same =
    go (compare frames others (spell f ∷ rest) left all.1 alls (sym (append_assoc (spellings frames) (spell f ∷ []) rest) ∙ same))
  where
    behind : (x : Frame) (newer : List Frame) → others ≡ (newer ++ x ∷ []) ++ frames → spell f ∷ rest ≡ (spell x ∷ spellings newer) ++ left → Longer (f ∷ frames) others rest left
    behind x newer is next =
        let fit : has_spelling x ≡ true = spelled_oldest newer x frames (subst AllSpelled is alls) in
        let first : spell f ≡ spell x = cc next in
        let one : f ≡ x = spell_again f x all.0 fit first in
        record {
          more = newer;
          others_are = is ∙ (append_assoc newer (x ∷ []) frames ∙ ap (λ y. newer ++ y ∷ frames) (sym one));
          rest_is = cc next;
        }

    split : (longer : Longer frames others (spell f ∷ rest) left) → (longer.more ≡ []) ⊎ ((x : Frame) × (newer : List Frame) × (longer.more ≡ newer ++ x ∷ []))
        → Longer (f ∷ frames) others rest left ⊎ Longer others (f ∷ frames) left rest
    split longer (inl none) =
        inr (record {
          more = f ∷ [];
          others_are = ap (λ (l : List Frame). f ∷ l) (sym (longer.others_are ∙ ap (λ (l : List Frame). l ++ frames) none));
          rest_is = sym (longer.rest_is ∙ ap (λ (l : List Frame). spellings l ++ left) none);
        })
    split longer (inr (x, newer, is)) =
        inl (behind x newer (longer.others_are ∙ ap (λ (l : List Frame). l ++ frames) is) (longer.rest_is ∙ ap (λ (t : List (List ℕ)). t ++ left) (ap spellings is ∙ from_oldest newer x)))

    go : Longer frames others (spell f ∷ rest) left ⊎ Longer others frames left (spell f ∷ rest) → Longer (f ∷ frames) others rest left ⊎ Longer others (f ∷ frames) left rest
    go (inl longer) = split longer (oldest longer.more)
    go (inr longer) =
        inr (record {
          more = f ∷ longer.more;
          others_are = ap (λ (l : List Frame). f ∷ l) longer.others_are;
          rest_is = longer.rest_is ∙ sym (append_assoc (spellings longer.more) (spell f ∷ []) rest);
        })

-- ---- how a reading ends

module _ (who : Who) where
  all_spelled : (frames : List Frame) → AreRestored who frames → AllSpelled frames
  all_spelled [] taken = tt
  all_spelled (f ∷ frames) (fit, not_refused, not_stopped, taken) = (fit, all_spelled frames taken)

  -- the oldest of the later frames was taken after those before it
  taken_oldest : (newer : List Frame) (x : Frame) (frames : List Frame) → AreRestored who ((newer ++ x ∷ []) ++ frames) → AreRestored who (x ∷ frames)
  taken_oldest [] x frames taken = taken
  taken_oldest (f ∷ newer) x frames (fit, not_refused, not_stopped, taken) = taken_oldest newer x frames taken

  -- what is found in the record of a frame
  whole : (x : Frame) → has_spelling x ≡ true → found (spell x) ≡ Whole x (length (spell x))
  whole x fit = ap found (sym (append-nil (spell x))) ∙ spelled_found x [] fit

  no_fault : (frames : List Frame) (x : Frame) (there : Found) (fault : FrameFault) → there ≡ Whole x (length (spell x)) → refusal who frames x ≡ None → fault_in who frames (length (spell x)) there ≡ Some fault → ⊥
  no_fault frames x there fault is none some =
      let n = length (spell x) in
      let e : fault_in who frames n there ≡ refusal who frames x = ap (fault_in who frames n) is ∙ ap (λ b. if b then refusal who frames x else Some Length) (same_refl n) in
      absurd (cc (e, none, some))

  no_stop : (frames : List Frame) (x : Frame) (there : Found) (reached : Reached) → there ≡ Whole x (length (spell x)) → input_limit who frames (brought x) ≡ None → StopsIn who frames (length (spell x)) reached there → ⊥
  no_stop frames x there reached is none stops =
      let here : StopsIn who frames (length (spell x)) reached (Whole x (length (spell x))) = subst (StopsIn who frames (length (spell x)) reached) is stops in
      let some = here.2 in absurd (cc (none, some))

  -- if the record of a frame that is taken comes next, the reading does not end
  no_end : (frames : List Frame) (x : Frame) (rest : List (List ℕ)) (ending : Ending) → AreRestored who (x ∷ frames) → EndsBack who frames (spell x ∷ rest) ending → ⊥
  no_end frames x rest End taken ends = absurd (cc ends)
  no_end frames x rest (Refused fault) (fit, none, limit, taken) ends = no_fault frames x (found (spell x)) fault (whole x fit) none ends
  no_end frames x rest (Stopped reached) (fit, none, limit, taken) ends = no_stop frames x (found (spell x)) reached (whole x fit) limit ends

  refused_or_stopped : (frames : List Frame) (size : ℕ) (fault : FrameFault) (reached : Reached) (there : Found) → fault_in who frames size there ≡ Some fault → StopsIn who frames size reached there → ⊥
  refused_or_stopped frames size fault reached (Whole x n) some stops =
      let e : fault_in who frames size (Whole x n) ≡ refusal who frames x = ap (λ b. if b then refusal who frames x else Some Length) stops.0 in
      let none = stops.1 in absurd (cc (e, none, some))
  refused_or_stopped frames size fault reached Partial some stops = stops
  refused_or_stopped frames size fault reached (Wrong wrong) some stops = stops

  one_stop : (frames : List Frame) (size : ℕ) (a b : Reached) (there : Found) → StopsIn who frames size a there → StopsIn who frames size b there → a ≡ b
  one_stop frames size a b (Whole x n) first second = let one = first.2 in let two = second.2 in cc (one, two)
  one_stop frames size a b Partial first second = absurd first
  one_stop frames size a b (Wrong wrong) first second = absurd first

  one_ending : (frames : List Frame) (rest : List (List ℕ)) (a b : Ending) → EndsBack who frames rest a → EndsBack who frames rest b → a ≡ b
  one_ending frames [] End End first second = refl
  one_ending frames [] End (Refused g) first second = absurd second
  one_ending frames [] End (Stopped r) first second = absurd second
  one_ending frames [] (Refused g) b first second = absurd first
  one_ending frames [] (Stopped r) b first second = absurd first
  one_ending frames (c ∷ rest) End b first second = absurd (cc first)
  one_ending frames (c ∷ rest) (Refused g) End first second = absurd (cc second)
  one_ending frames (c ∷ rest) (Refused g) (Refused h) first second = let same : Some g ≡ Some h = sym first ∙ second in cc same
  one_ending frames (c ∷ rest) (Refused g) (Stopped r) first second = absurd (refused_or_stopped frames (length c) g r (found c) first second)
  one_ending frames (c ∷ rest) (Stopped r) End first second = absurd (cc second)
  one_ending frames (c ∷ rest) (Stopped r) (Refused h) first second = absurd (refused_or_stopped frames (length c) h r (found c) second first)
  one_ending frames (c ∷ rest) (Stopped r) (Stopped q) first second = ap Stopped (one_stop frames (length c) r q (found c) first second)

  -- the longer reading is not longer
  not_longer : (frames others : List Frame) (rest left : List (List ℕ)) (ending : Ending) → AreRestored who others → EndsBack who frames rest ending → Longer frames others rest left
      → (others ≡ frames) × (left ≡ rest)
  not_longer frames others rest left ending taken ends longer = go (oldest longer.more)
    where
      go : (longer.more ≡ []) ⊎ ((x : Frame) × (newer : List Frame) × (longer.more ≡ newer ++ x ∷ [])) → (others ≡ frames) × (left ≡ rest)
      go (inl none) = (longer.others_are ∙ ap (λ (l : List Frame). l ++ frames) none, sym (longer.rest_is ∙ ap (λ (l : List Frame). spellings l ++ left) none))
      go (inr (x, newer, is)) =
          let next : AreRestored who (x ∷ frames) = taken_oldest newer x frames (subst (AreRestored who) (longer.others_are ∙ ap (λ (l : List Frame). l ++ frames) is) taken) in
          let all : rest ≡ spell x ∷ (spellings newer ++ left) = longer.rest_is ∙ ap (λ (t : List (List ℕ)). t ++ left) (ap spellings is ∙ from_oldest newer x) in
          absurd (no_end frames x (spellings newer ++ left) ending next (subst (λ t. EndsBack who frames t ending) all ends))

  -- reading records has only one result
  pub back_once : (records : List (List ℕ)) (frames others : List Frame) (a b : Ending) → ComesBack who records frames a → ComesBack who records others b → (frames ≡ others) × (a ≡ b)
  back_once records frames others a b first second =
      go (compare frames others first.rest second.rest (all_spelled frames first.taken) (all_spelled others second.taken) (sym first.in_front ∙ second.in_front))
    where
      finish : others ≡ frames → second.rest ≡ first.rest → (frames ≡ others) × (a ≡ b)
      finish same left =
          (sym same, one_ending frames first.rest a b first.ends (subst (λ t. EndsBack who frames t b) left (subst (λ l. EndsBack who l second.rest b) same second.ends)))

      go : Longer frames others first.rest second.rest ⊎ Longer others frames second.rest first.rest → (frames ≡ others) × (a ≡ b)
      go (inl longer) = let both = not_longer frames others first.rest second.rest a second.taken first.ends longer in finish both.0 both.1
      go (inr longer) = let both = not_longer others frames second.rest first.rest b first.taken second.ends longer in finish (sym both.0) (sym both.1)
