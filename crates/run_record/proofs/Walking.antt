-- What a fact does to the packets that a world keeps.
use Rattle.std.proofs.Common.{ℕ, zero, suc, ◌<◌, ◌+◌, ◌==◌, Bool, true, false, not, cond, is_some, Option, Some, None, List, [], ◌∷◌, ◌++◌, ◌≡◌, refl, sym, ◌∙◌, ap, ap₂, subst, arith, find, get_or, length, length-set, map, option_map, reverse, set, slice_get, Bor}
use Rattle.std.specs.Prelude.{if◌then◌else◌, position}
use Rattle.std.specs.List.{list_any, position_or_len}
use Rattle.std.specs.Option.{option_copied}
use Rattle.std.proofs.lemmas.Bool.Decides.{nat_tests}
use Rattle.std.proofs.lemmas.Grind.{common_steps}
use Rattle.std.proofs.lemmas.List.{length-map, length_push, map-append, reverse-append}
use Rattle.std.proofs.lemmas.Option.{slice_get_read}
use Rattle.std.proofs.lemmas.List.Folds.{find_at, find-set}
use Rattle.topology.specs.Net.{Net}
use Rattle.epoch_packet.specs.declared.packets.Packet.{Packet}
use Rattle.epoch_packet.specs.declared.walks.End.{End as Ending}
use Rattle.epoch_packet.specs.declared.walks.Visit.{Visit as WalkStop}
use Rattle.chronicle.specs.Facts.{Chronicle, Visit, End}
use Rattle.chronicle.specs.Run.{does, hopped, stands_at}
use Rattle.chronicle.specs.Steps.{Idle}
use Rattle.chronicle.specs.declared.events.Event.TheVariants as event
use Rattle.path_vector.specs.Rules.{Rules}
use Rattle.topology.specs.declared.status.Reason.TheVariants.{NoSuchPacket, PacketEnded}
use Rattle.chronicle.specs.Walks.{Standing, standing, walk, ending, packets, packets_by, visit_of}
use Rattle.chronicle.proofs.Standings.{no_walk, stands}
use Rattle.chronicle.proofs.Visiting.{SameWalks}
use Rattle.run_record.specs.Walks.{AreWalks, AreWalksBut, IsPassing, JourneyView, MayGo, Takes, is_of, number_of, still}

-- ---- a packet among others

-- a test passes, or not, whichever side is named first
same_turned : (a b : ℕ) → (a == b) ≡ (b == a)
same_turned a b = grind (arith, nat_tests)

-- the first packet with the number stands at the place of the number
same_place : (k : ℕ) (js : List JourneyView) → position_or_len (λ n. k == n) (map number_of js) ≡ position_or_len (is_of k) js
same_place k [] = refl
same_place k (j ∷ js) = ap₂ (λ b n. cond (not b) (1 + n) 0) (same_turned k j.number) (same_place k js)

-- where no number is this one there is no such packet
none_listed : (k : ℕ) (js : List JourneyView) → list_any (λ n. k == n) (map number_of js) ≡ false → find (is_of k) js ≡ None
none_listed k [] off = refl
none_listed k (j ∷ js) off =
    let here : (j.number == k) ≡ false = grind (arith, nat_tests) in
    rw here (none_listed k js (grind (arith, nat_tests)))

-- where there is no such packet no number is this one
unlisted : (k : ℕ) (js : List JourneyView) → find (is_of k) js ≡ None → list_any (λ n. k == n) (map number_of js) ≡ false
unlisted k [] none = refl
unlisted k (j ∷ js) none =
    (elim (j.number == k) as (λ t. (j.number == k) ≡ t → cond t (Some j) (find (is_of k) js) ≡ None → list_any (λ n. k == n) (map number_of (j ∷ js)) ≡ false) [
      | true ↦ λ e is. absurd (cc is)
      | false ↦ λ e is.
          let rest = unlisted k js is in
          let off : (k == j.number) ≡ false = grind (arith, nat_tests) in
          rw (off, rest) refl
    ]) refl none

-- the place that is found is the first
place_is : (p : ℕ → Bool) (xs : List ℕ) (i : ℕ) → position p xs ≡ Some i → (position_or_len p xs ≡ i) × (i < length xs)
place_is p xs i e =
    let at : position_or_len p xs ≡ i = grind (arith, common_steps) in
    let inside : i < length xs = grind (arith, common_steps) in
    (at, inside)

-- a number that has a place is one of them
pub has_place : (p : ℕ → Bool) (xs : List ℕ) (i : ℕ) → position p xs ≡ Some i → true ≡ list_any p xs
has_place p xs i e = let at = place_is p xs i e in sym (any_below p xs (subst (λ n. n < length xs) (sym at.0) at.1))
  where
    any_below : (p : ℕ → Bool) (xs : List ℕ) → position_or_len p xs < length xs → list_any p xs ≡ true
    any_below p [] b = absurd (omega (arith, b))
    any_below p (x ∷ xs) b =
        (elim (p x) as (λ t. p x ≡ t → list_any p (x ∷ xs) ≡ true) [
          | true ↦ λ e. rw e refl
          | false ↦ λ e. let off : position_or_len p (x ∷ xs) ≡ 1 + position_or_len p xs = rw e refl in
              rw e (any_below p xs (omega (arith, b, off)))
        ]) refl

-- the first packet with the number is this one, at this place
pub record KeptAt (js : List JourneyView) (k i : ℕ) (x : JourneyView) : Type 0 where
  pub first : position_or_len (is_of k) js ≡ i
  pub below : i < length js
  pub here : slice_get js i ≡ Some x

-- it is the one that is found
pub found : (js : List JourneyView) (k i : ℕ) (x : JourneyView) → KeptAt js k i x → find (is_of k) js ≡ Some x
found js k i x kept = find_at (is_of k) js ∙ (ap (slice_get js) kept.first ∙ kept.here)

-- one that is found has the number
found_number : (js : List JourneyView) (k : ℕ) (x : JourneyView) → find (is_of k) js ≡ Some x → x.number ≡ k
found_number [] k x e = absurd (cc e)
found_number (y ∷ ys) k x e =
    (elim (is_of k y) as (λ t. is_of k y ≡ t → cond t (Some y) (find (is_of k) ys) ≡ Some x → x.number ≡ k) [
      | true ↦ λ is e. let same : y ≡ x = cc e in let own : y.number ≡ k = grind (arith, nat_tests) in ap number_of (sym same) ∙ own
      | false ↦ λ off e. found_number ys k x e
    ]) refl e

-- so does the one that is kept
pub has_number : (js : List JourneyView) (k i : ℕ) (x : JourneyView) → KeptAt js k i x → x.number ≡ k
has_number js k i x kept = found_number js k x (found js k i x kept)

module _ (numbers : List ℕ) (js : List JourneyView) (k : ℕ) (are : numbers ≡ map number_of js) where
  -- where the number has a place, a packet with it is kept there
  pub kept_at : (i : ℕ) (x : JourneyView) → position (λ n. k == n) numbers ≡ Some i → x ≡ get_or js i x → KeptAt js k i x
  kept_at i x found is =
      let at = place_is (λ n. k == n) (map number_of js) i (subst (λ ns. position (λ n. k == n) ns ≡ Some i) are found) in
      let below : i < length js = subst (λ n. i < n) (length-map js number_of) at.1 in
      record {
        first = sym (same_place k js) ∙ at.0;
        below = below;
        here = slice_get_read js (length js) i x refl below is;
      }

  -- where it has none, there is no such packet
  pub none_kept : list_any (λ n. k == n) numbers ≡ false → find (is_of k) js ≡ None
  none_kept off = none_listed k js (subst (λ ns. list_any (λ n. k == n) ns ≡ false) are off)

  -- where there is none, its number comes to the end
  pub number_enters : (y : JourneyView) → find (is_of k) js ≡ None → y.number ≡ k → (if list_any (λ n. k == n) numbers then numbers else numbers ++ k ∷ []) ≡ map number_of (js ++ y ∷ [])
  number_enters y new own =
      let off : list_any (λ n. k == n) numbers ≡ false = subst (λ ns. list_any (λ n. k == n) ns ≡ false) (sym are) (unlisted k js new) in
      ap (λ t. if t then numbers else numbers ++ k ∷ []) off
      ∙ (ap₂ (λ (ns : List ℕ) n. ns ++ n ∷ []) are (sym own) ∙ sym (map-append number_of js (y ∷ [])))

-- the numbers stay where one packet changes that keeps its own
pub numbers_stay : (js : List JourneyView) (i : ℕ) (x y : JourneyView) → slice_get js i ≡ Some x → y.number ≡ x.number → map number_of (set js i y) ≡ map number_of js
numbers_stay [] i x y at same = refl
numbers_stay (j ∷ js) zero x y at same =
    let is : j ≡ x = cc at in
    ap (λ n. n ∷ map number_of js) (same ∙ ap number_of (sym is))
numbers_stay (j ∷ js) (suc i) x y at same = ap (λ l. j.number ∷ l) (numbers_stay js i x y at same)

module _ (p : JourneyView → Bool) where
  -- another packet is found as before
  find_off : (js : List JourneyView) (i : ℕ) (x y : JourneyView) → slice_get js i ≡ Some x → p x ≡ false → p y ≡ false → find p (set js i y) ≡ find p js
  find_off [] i x y at old new = refl
  find_off (j ∷ js) zero x y at old new =
      let same : j ≡ x = cc at in
      rw (same, old, new) refl
  find_off (j ∷ js) (suc i) x y at old new = ap (λ rest. cond (p j) (Some j) rest) (find_off js i x y at old new)

  -- one at the end, which is none of those before
  find_new : (js : List JourneyView) (y : JourneyView) → find p js ≡ None → p y ≡ true → find p (js ++ y ∷ []) ≡ Some y
  find_new [] y none is = rw is refl
  find_new (j ∷ js) y none is =
      (elim (p j) as (λ t. cond t (Some j) (find p js) ≡ None → cond t (Some j) (find p (js ++ y ∷ [])) ≡ Some y) [
        | true ↦ λ e. absurd (cc e)
        | false ↦ λ e. find_new js y e is
      ]) none

  -- one at the end that is another
  find_old : (js : List JourneyView) (y : JourneyView) → p y ≡ false → find p (js ++ y ∷ []) ≡ find p js
  find_old [] y off = rw off refl
  find_old (j ∷ js) y off = ap (λ rest. cond (p j) (Some j) rest) (find_old js y off)

-- ---- what is read of a packet

-- packet k where it stands, with what is kept of it
abbrev told : ℕ → Option Packet → List WalkStop → Option Ending → Standing → JourneyView
told k kept visits end at = record { number = k; node = at.node; packet = kept; visits = visits; ending = end }

-- what a run has of a packet that stands somewhere
read_of : (o : Option Standing) (k : ℕ) (kept : Option Packet) (visits : List WalkStop) (end : Option Ending) (x : JourneyView)
    → option_map (told k kept visits end) o ≡ Some x
    → (x.visits ≡ visits) × (x.ending ≡ end) × (is_some o ≡ true)
read_of None k kept visits end x e = absurd (cc e)
read_of (Some at) k kept visits end x e =
    let same : told k kept visits end at ≡ x = cc e in
    (sym (ap (λ (j : JourneyView). j.visits) same), sym (ap (λ (j : JourneyView). j.ending) same), refl)

-- of one that stands nowhere
none_of : (o : Option Standing) (k : ℕ) (kept : Option Packet) (visits : List WalkStop) (end : Option Ending) → option_map (told k kept visits end) o ≡ None → o ≡ None
none_of None k kept visits end e = refl
none_of (Some at) k kept visits end e = absurd (cc e)

-- what is copied is there where the other is
pub some_copied : {A : Type 0} (o : Option (Bor A)) → is_some o ≡ is_some (option_copied o)
some_copied None = refl
some_copied (Some x) = refl

-- there is none
pub not_some : (o : Option Standing) → is_some o ≡ false → o ≡ None
not_some None e = refl
not_some (Some at) e = absurd (cc e)

-- the same packet is found
same_found : (x y : JourneyView) → Some x ≡ Some y → x ≡ y
same_found x y e = cc e

-- a packet that stands somewhere has the number by which it is known
pub stands_by : (k : ℕ) (past : Chronicle) (at : Standing) → standing k past ≡ Some at → at.packet.id ≡ k
stands_by k past at is = (stands k past at is).number

-- one visit more, the newest last
more_visits : (v : WalkStop) (vs : List WalkStop) → reverse (v ∷ vs) ≡ reverse vs ++ v ∷ []
more_visits v vs = reverse-append (v ∷ []) vs

-- ---- the packets after a fact

-- a fact that tells of no packet
pub walks_stay : {away : ℕ → Bool} (net : Net) (past now : Chronicle) (js : List JourneyView) → SameWalks past now → AreWalksBut away net past js → AreWalksBut away net now js
walks_stay net past now js same was = record {
  kept = was.kept;
  each = λ k.
      was.each k
      ∙ (ap (option_map (told k (was.kept k) (reverse (walk k past)) (ending k past))) (sym (same.same_standing k))
      ∙ ap₂ (λ (vs : List WalkStop) (e : Option Ending). option_map (told k (was.kept k) (reverse vs) e) (standing k now)) (sym (same.same_walk k)) (sym (same.same_ending k)));
  is_kept = λ k at here is on. was.is_kept k at here (sym (same.same_standing k) ∙ is) (sym (same.same_ending k) ∙ on);
  count = was.count ∙ sym same.same_packets;
  inside = λ k at is. was.inside k at (sym (same.same_standing k) ∙ is);
  unended = λ k none. same.same_ending k ∙ was.unended k (sym (same.same_standing k) ∙ none);
}

-- there is none at the start
pub fresh_walks : (net : Net) → AreWalks net [] []
fresh_walks net = record {
  kept = λ k. None;
  each = λ k. refl;
  is_kept = λ k at here is on. absurd (cc is);
  count = refl;
  inside = λ k at is. absurd (cc is);
  unended = λ k none. refl;
}

-- where all are back, none is away
pub all_back : (away : ℕ → Bool) (net : Net) (past : Chronicle) (js : List JourneyView) → ((k : ℕ) → away k ≡ false) → AreWalksBut away net past js → AreWalks net past js
all_back away net past js back was = record {
  kept = was.kept;
  each = was.each;
  is_kept = λ k at here is on. was.is_kept k at (back k) is on;
  count = was.count;
  inside = was.inside;
  unended = was.unended;
}

module _ {away : ℕ → Bool} (net : Net) (past : Chronicle) (js : List JourneyView) (was : AreWalksBut away net past js) where
  -- where a packet stands after a visit of any
  visit_inside : (u : ℕ) (packet : Packet) → IsPassing net u packet → (k : ℕ) (at : Standing) → standing k (Visit u packet ∷ past) ≡ Some at → IsPassing net at.node at.packet
  visit_inside u packet passing k at is =
      (elim (packet.id == k) as (λ t. (if t then Some (record { node = u; packet = packet }) else standing k past) ≡ Some at → IsPassing net at.node at.packet) [
        | true ↦ λ e.
            let here : Standing = record { node = u; packet = packet } in
            let same : here ≡ at = cc e in
            subst (λ (a : Standing). IsPassing net a.node a.packet) same passing
        | false ↦ λ e. was.inside k at e
      ]) is

  -- no walk has ended by it
  visit_unended : (u : ℕ) (packet : Packet) (k : ℕ) → standing k (Visit u packet ∷ past) ≡ None → ending k past ≡ None
  visit_unended u packet k none =
      (elim (packet.id == k) as (λ t. (if t then Some (record { node = u; packet = packet }) else standing k past) ≡ None → ending k past ≡ None) [
        | true ↦ λ e. absurd (cc e)
        | false ↦ λ e. was.unended k e
      ]) none

  -- and the packet is kept from then on
  visit_kept : (u : ℕ) (packet : Packet) (k : ℕ) (at : Standing) → still (Visit u packet) away k ≡ false → standing k (Visit u packet ∷ past) ≡ Some at → ending k past ≡ None
      → (if packet.id == k then Some packet else was.kept k) ≡ Some at.packet
  visit_kept u packet k at here is on =
      (elim (packet.id == k) as (λ t. (if t then false else away k) ≡ false → (if t then Some (record { node = u; packet = packet }) else standing k past) ≡ Some at
      → (if t then Some packet else was.kept k) ≡ Some at.packet) [
        | true ↦ λ h e.
            let new : Standing = record { node = u; packet = packet } in
            let same : new ≡ at = cc e in
            ap (λ (a : Standing). Some a.packet) same
        | false ↦ λ h e. was.is_kept k at h e on
      ]) here is

  module _ (k i : ℕ) (x : JourneyView) (place : KeptAt js k i x) where
    -- what the run has of it
    reading : (x.visits ≡ reverse (walk k past)) × (x.ending ≡ ending k past) × (is_some (standing k past) ≡ true)
    reading = read_of (standing k past) k (was.kept k) (reverse (walk k past)) (ending k past) x (sym (was.each k) ∙ found js k i x place)

    -- another number is not its
    other_number : (m : ℕ) → (k == m) ≡ false → is_of m x ≡ false
    other_number m off = let is = has_number js k i x place in grind (arith, nat_tests)

    -- the packets with another one at its place
    module _ (y : JourneyView) (number : y.number ≡ k) where
      at_place : find (is_of k) (set js i y) ≡ Some y
      at_place = find-set (is_of k) js i y (sym place.first) place.below (grind (arith, nat_tests))

      beside : (m : ℕ) → (k == m) ≡ false → find (is_of m) (set js i y) ≡ find (is_of m) js
      beside m off = find_off (is_of m) js i x y place.here (other_number m off) (let is = number in grind (arith, nat_tests))

  -- a packet is found where it stands somewhere
  pub same_known : (k : ℕ) (r : Option JourneyView) → r ≡ find (is_of k) js → is_some r ≡ is_some (standing k past)
  same_known k r is = ap is_some (is ∙ was.each k) ∙ read (standing k past)
    where
      read : (o : Option Standing) → is_some (option_map (told k (was.kept k) (reverse (walk k past)) (ending k past)) o) ≡ is_some o
      read None = refl
      read (Some at) = refl

  -- one that is not found stands nowhere
  pub not_found : (k : ℕ) → find (is_of k) js ≡ None → standing k past ≡ None
  not_found k none = none_of (standing k past) k (was.kept k) (reverse (walk k past)) (ending k past) (sym (was.each k) ∙ none)

  -- one that stands nowhere is not found
  pub stands_nowhere : (k : ℕ) → standing k past ≡ None → find (is_of k) js ≡ None
  stands_nowhere k none = was.each k ∙ ap (option_map (told k (was.kept k) (reverse (walk k past)) (ending k past))) none

  -- so one that is found does not
  pub known_found : (k : ℕ) (x : JourneyView) → standing k past ≡ None → find (is_of k) js ≡ Some x → ⊥
  known_found k x none some = absurd (cc (sym (stands_nowhere k none) ∙ some))

  -- what is found is what the run has
  pub journey_is : (k : ℕ) (x : JourneyView) (at : Standing) → standing k past ≡ Some at → find (is_of k) js ≡ Some x
      → x ≡ record { number = k; node = at.node; packet = was.kept k; visits = reverse (walk k past); ending = ending k past }
  journey_is k x at is some =
      same_found x (told k (was.kept k) (reverse (walk k past)) (ending k past) at)
      (sym some ∙ (was.each k ∙ ap (option_map (told k (was.kept k) (reverse (walk k past)) (ending k past))) is))

  -- where it stands, while its walk goes on
  pub stands_there : (k : ℕ) (x : JourneyView) → find (is_of k) js ≡ Some x → stands_at (standing k past) (ending k past) ≡ (if is_some x.ending then None else Some x.node)
  stands_there k x some = by_both (standing k past) refl
    where
      by_end : (at : Standing) (end : Option Ending) → stands_at (Some at) end ≡ (if is_some end then None else Some at.node)
      by_end at None = refl
      by_end at (Some e) = refl

      by_both : (o : Option Standing) → standing k past ≡ o → stands_at (standing k past) (ending k past) ≡ (if is_some x.ending then None else Some x.node)
      by_both None is = absurd (known_found k x is some)
      by_both (Some at) is = ap (λ o. stands_at o (ending k past)) is ∙ (by_end at (ending k past) ∙ ap (λ (j : JourneyView). if is_some j.ending then None else Some j.node) (sym (journey_is k x at is some)))

  -- a packet that is known comes to a node
  pub visit_known : (u : ℕ) (packet : Packet) (i : ℕ) (x : JourneyView) → KeptAt js packet.id i x → IsPassing net u packet
      → AreWalksBut (still (Visit u packet) away) net (Visit u packet ∷ past) (set js i (record x { node = u; packet = Some packet; visits = x.visits ++ visit_of u packet ∷ [] }))
  visit_known u packet i x place passing =
      let k = packet.id in
      let v = visit_of u packet in
      let y : JourneyView = record x { node = u; packet = Some packet; visits = x.visits ++ v ∷ [] } in
      let is = reading k i x place in
      let number : x.number ≡ k = has_number js k i x place in
      record {
        kept = λ m. if k == m then Some packet else was.kept m;
        each = λ m.
            (elim (k == m) as (λ t. (k == m) ≡ t → find (is_of m) (set js i y)
            ≡ option_map (λ (at : Standing). record { number = m; node = at.node; packet = if t then Some packet else was.kept m; visits = reverse (if t then v ∷ walk m past else walk m past); ending = ending m past }) (if t then Some (record { node = u; packet = packet }) else standing m past)) [
              | true ↦ λ e.
                  let same : k ≡ m = grind (arith, nat_tests) in
                  let visits : x.visits ++ v ∷ [] ≡ reverse (v ∷ walk k past) = ap (λ l. l ++ v ∷ []) is.0 ∙ sym (more_visits v (walk k past)) in
                  subst (λ n. find (is_of n) (set js i y) ≡ Some (record { number = n; node = u; packet = Some packet; visits = reverse (v ∷ walk n past); ending = ending n past })) same
                  (at_place k i x place y number
                  ∙ (ap (λ n. Some (record y { number = n })) number
                  ∙ ap₂ (λ (l : List WalkStop) (o : Option Ending). Some (record { number = k; node = u; packet = Some packet; visits = l; ending = o })) visits is.1))
              | false ↦ λ e. beside k i x place y number m e ∙ was.each m
            ]) refl;
        is_kept = visit_kept u packet;
        count = length-set js i y ∙ (was.count ∙ sym (ap (λ known. packets_by known (packets past)) is.2));
        inside = visit_inside u packet passing;
        unended = visit_unended u packet;
      }

  -- a packet that is not known enters
  pub visit_new : (u : ℕ) (packet : Packet) → find (is_of packet.id) js ≡ None → IsPassing net u packet
      → AreWalksBut (still (Visit u packet) away) net (Visit u packet ∷ past) (js ++ record { number = packet.id; node = u; packet = Some packet; visits = visit_of u packet ∷ []; ending = None } ∷ [])
  visit_new u packet new passing =
      let k = packet.id in
      let v = visit_of u packet in
      let y : JourneyView = record { number = k; node = u; packet = Some packet; visits = v ∷ []; ending = None } in
      let nowhere : standing k past ≡ None = not_found k new in
      let own : is_of k y ≡ true = grind (arith, nat_tests) in
      record {
        kept = λ m. if k == m then Some packet else was.kept m;
        each = λ m.
            (elim (k == m) as (λ t. (k == m) ≡ t → find (is_of m) (js ++ y ∷ [])
            ≡ option_map (λ (at : Standing). record { number = m; node = at.node; packet = if t then Some packet else was.kept m; visits = reverse (if t then v ∷ walk m past else walk m past); ending = ending m past }) (if t then Some (record { node = u; packet = packet }) else standing m past)) [
              | true ↦ λ e.
                  let same : k ≡ m = grind (arith, nat_tests) in
                  let visits : v ∷ [] ≡ reverse (v ∷ walk k past) = ap (λ (l : List WalkStop). reverse (v ∷ l)) (sym (no_walk k past nowhere)) in
                  subst (λ n. find (is_of n) (js ++ y ∷ []) ≡ Some (record { number = n; node = u; packet = Some packet; visits = reverse (v ∷ walk n past); ending = ending n past })) same
                  (find_new (is_of k) js y new own
                  ∙ ap₂ (λ (l : List WalkStop) (o : Option Ending). Some (record { number = k; node = u; packet = Some packet; visits = l; ending = o })) visits (sym (was.unended k nowhere)))
              | false ↦ λ e. find_old (is_of m) js y e ∙ was.each m
            ]) refl;
        is_kept = visit_kept u packet;
        count =
            let more = length_push js y in
            let now : packets (Visit u packet ∷ past) ≡ suc (packets past) = ap (λ (o : Option Standing). packets_by (is_some o) (packets past)) nowhere in
            let count = was.count in
            omega (arith, more, now, count);
        inside = visit_inside u packet passing;
        unended = visit_unended u packet;
      }

  -- the walk of a packet that is known ends
  pub ended_known : (k i : ℕ) (x : JourneyView) (end : Ending) → KeptAt js k i x → AreWalksBut (still (End k end) away) net (End k end ∷ past) (set js i (record x { ending = Some end }))
  ended_known k i x end place =
      let y : JourneyView = record x { ending = Some end } in
      let is = reading k i x place in
      let number : x.number ≡ k = has_number js k i x place in
      record {
        kept = was.kept;
        each = λ m.
            (elim (k == m) as (λ t. (k == m) ≡ t → find (is_of m) (set js i y)
            ≡ option_map (told m (was.kept m) (reverse (walk m past)) (if t then Some end else ending m past)) (standing m past)) [
              | true ↦ λ e.
                  let same : k ≡ m = grind (arith, nat_tests) in
                  subst (λ n. find (is_of n) (set js i y) ≡ option_map (told n (was.kept n) (reverse (walk n past)) (Some end)) (standing n past)) same
                  (at_place k i x place y number ∙ ended_reading (standing k past) k (was.kept k) (reverse (walk k past)) (ending k past) x end (sym (was.each k) ∙ found js k i x place))
              | false ↦ λ e. beside k i x place y number m e ∙ was.each m
            ]) refl;
        is_kept = λ m at here stands on.
            (elim (k == m) as (λ t. (if t then false else away m) ≡ false → (if t then Some end else ending m past) ≡ None → was.kept m ≡ Some at.packet) [
              | true ↦ λ h e. absurd (cc e)
              | false ↦ λ h e. was.is_kept m at h stands e
            ]) here on;
        count = length-set js i y ∙ was.count;
        inside = was.inside;
        unended = λ m none.
            (elim (k == m) as (λ t. (k == m) ≡ t → (if t then Some end else ending m past) ≡ None) [
              | true ↦ λ e.
                  let same : k ≡ m = grind (arith, nat_tests) in
                  let known : is_some (standing m past) ≡ true = subst (λ n. is_some (standing n past) ≡ true) same is.2 in
                  absurd (cc (sym (ap is_some none) ∙ known))
              | false ↦ λ e. was.unended m none
            ]) refl;
      }
    where
      ended_reading : (o : Option Standing) (k : ℕ) (kept : Option Packet) (visits : List WalkStop) (before : Option Ending) (x : JourneyView) (end : Ending)
          → option_map (told k kept visits before) o ≡ Some x
          → ◌≡◌ {A = Option JourneyView} (Some (record x { ending = Some end })) (option_map (told k kept visits (Some end)) o)
      ended_reading None k kept visits before x end e = absurd (cc e)
      ended_reading (Some at) k kept visits before x end e =
          let same : told k kept visits before at ≡ x = cc e in
          ap (λ (j : JourneyView). Some (record j { ending = Some end })) (sym same)

module _ (net : Net) (past : Chronicle) (js : List JourneyView) (was : AreWalks net past js) where
  -- a packet is kept while its walk goes on
  pub kept_while : (k : ℕ) (x : JourneyView) (at : Standing) → standing k past ≡ Some at → find (is_of k) js ≡ Some x → x.ending ≡ None → (ending k past ≡ None) × (x.packet ≡ Some at.packet)
  kept_while k x at is some on =
      let read = journey_is net past js was k x at is some in
      let goes : ending k past ≡ None = sym (ap (λ (j : JourneyView). j.ending) read) ∙ on in
      (goes, ap (λ (j : JourneyView). j.packet) read ∙ was.is_kept k at refl is goes)

  -- so it may go
  pub may_go : (k : ℕ) → MayGo k js
  may_go k = record { is_here = λ x some on. by_standing x some on (standing k past) refl }
    where
      by_standing : (x : JourneyView) → find (is_of k) js ≡ Some x → x.ending ≡ None → (o : Option Standing) → standing k past ≡ o → is_some x.packet ≡ true
      by_standing x some on None is = absurd (known_found net past js was k x is some)
      by_standing x some on (Some at) is = ap is_some (kept_while k x at is some on).1

  -- one that never entered does not go on
  pub nowhere_stays : (rules : Rules) (k : ℕ) → find (is_of k) js ≡ None → does rules net past (event.Hop k) ≡ Idle NoSuchPacket
  unfolding does
  nowhere_stays rules k none = ap (λ o. hopped rules net past o (ending k past)) (not_found net past js was k none)

  -- nor one whose walk has ended
  pub ended_stays : (rules : Rules) (k : ℕ) (x : JourneyView) → find (is_of k) js ≡ Some x → is_some x.ending ≡ true → does rules net past (event.Hop k) ≡ Idle PacketEnded
  unfolding does
  ended_stays rules k x found over = by_both (standing k past) (ending k past) refl refl
    where
      by_both : (o : Option Standing) (end : Option Ending) → standing k past ≡ o → ending k past ≡ end → hopped rules net past (standing k past) (ending k past) ≡ Idle PacketEnded
      by_both None end is ends = absurd (known_found net past js was k x is found)
      by_both (Some at) None is ends =
          let read = journey_is net past js was k x at is found in
          absurd (cc (sym (ap is_some (ap (λ (j : JourneyView). j.ending) read ∙ ends)) ∙ over))
      by_both (Some at) (Some end) is ends = ap₂ (hopped rules net past) is ends

  -- one that is taken from its place is away
  pub taken : (k i : ℕ) (x : JourneyView) (packet : Packet) → KeptAt js k i x → x.ending ≡ None → x.packet ≡ Some packet
      → Takes net past k x.node packet (set js i (record x { packet = None }))
  taken k i x packet place on has =
      let some = found js k i x place in
      let y : JourneyView = record x { packet = None } in
      let number : x.number ≡ k = has_number js k i x place in
      let at = standing_of (standing k past) refl some in
      let read = journey_is net past js was k x at.0 at.1 some in
      let kept = kept_while k x at.0 at.1 some on in
      let here : x.node ≡ (at.0).node = ap (λ (j : JourneyView). j.node) read in
      let it : packet ≡ (at.0).packet = same_packet packet (at.0).packet (sym has ∙ kept.1) in
      record {
        stands = at.1 ∙ ap₂ (λ (n : ℕ) (q : Packet). Some (record { node = n; packet = q })) (sym here) (sym it);
        goes_on = kept.0;
        are_walks = record {
          kept = λ m. if k == m then None else was.kept m;
          each = λ m.
              (elim (k == m) as (λ t. (k == m) ≡ t → find (is_of m) (set js i y) ≡ option_map (told m (if t then None else was.kept m) (reverse (walk m past)) (ending m past)) (standing m past)) [
                | true ↦ λ e.
                    let same : k ≡ m = grind (arith, nat_tests) in
                    subst (λ n. find (is_of n) (set js i y) ≡ option_map (told n None (reverse (walk n past)) (ending n past)) (standing n past)) same
                    (at_place net past js was k i x place y number
                    ∙ (ap (λ (j : JourneyView). Some (record j { packet = None })) read
                    ∙ sym (ap (option_map (told k None (reverse (walk k past)) (ending k past))) at.1)))
                | false ↦ λ e. beside net past js was k i x place y number m e ∙ was.each m
              ]) refl;
          is_kept = λ m at away stands on.
              (elim (k == m) as (λ t. t ≡ false → (if t then None else was.kept m) ≡ Some at.packet) [
                | true ↦ λ e. absurd (cc e)
                | false ↦ λ e. was.is_kept m at refl stands on
              ]) away;
          count = length-set js i y ∙ was.count;
          inside = was.inside;
          unended = was.unended;
        };
      }
    where
      standing_of : (o : Option Standing) → standing k past ≡ o → find (is_of k) js ≡ Some x → (at : Standing) × (standing k past ≡ Some at)
      standing_of None is some = absurd (known_found net past js was k x is some)
      standing_of (Some at) is some = (at, is)

      same_packet : (a b : Packet) → Some a ≡ Some b → a ≡ b
      same_packet a b e = cc e
