-- Text that is gathered piece by piece.
use Rattle.std.proofs.Common.{◌≡◌, ℕ, suc, ◌+◌, ◌<◌, ◌≤◌, Option, Some, IfSome, List, [], ◌∷◌, ◌++◌, length, map, take, drop, refl, sym, ap, ◌∙◌, subst, slice_get, get_or, zero-add, add-one, append_assoc, arith, Ok, Err}
use Rattle.std.specs.Prelude.{Result, IsErr, IsErrAnd, IfErr, OnOk, option_map}
use Rattle.std.specs.Io.KnownBytes.{Appends}
use Rattle.std.specs.List.{flat_map, enumerate_from}
use Rattle.std.proofs.lemmas.Result.{err_from_is_err_and}
use Rattle.std.proofs.Math.Seq.{drop-cons}
use Rattle.std.proofs.lemmas.List.{append-nil, take_more, take_all, take-append-drop}
use Rattle.std.proofs.lemmas.List.FromFn.{length-enumerate_from, get_or-enumerate_from}
use Rattle.std.proofs.lemmas.Option.{slice_get-get_or, slice_get-map}
use Rattle.std.proofs.lemmas.Grind.{flat_map-append}
use Rattle.route_io.specs.Acts.{AddsPart, AddsPieces}
use Rattle.route_io.specs.Causes.{Rose, AppendsFront, StaysTold}
use Rattle.route_io.specs.Views.{SinkView}
use Rattle.route_io.proofs.Acts.{adds_no_piece, adds_pieces_of, adds_pieces_on}
use Rattle.route_io.proofs.Bytes.{appends_none, appends_on, front_after, front_more, told_same, told_on, stays_quiet, has_risen, risen_after}
use Rattle.route_replay.specs.declared.ends.RunEnd.{RunEnd}
use Rattle.route_replay.specs.declared.ends.RunEnd.TheVariants.{NoMemory, WriteFault}
use Rattle.route_replay.specs.Gathering.{PageView, Gathers, Breaks}
use Rattle.view_words.proofs.Elements.{at_place}

-- an error that a `?` hands on
pub handed_on : {T E : Type 0} (r : Result T E) (Q P : E → Type 0) → IsErr r × IsErrAnd r Q → ((e : E) → Q e → P e) → IfErr r P
handed_on r Q P h step =
    let e = err_from_is_err_and r h.1 in
    rw e.1 (step e.0 e.2)

-- nothing was written or said
pub gathers_nothing : (page : PageView) → Gathers page page []
gathers_nothing page = record {
  wrote = ([], appends_none page.sink.held, sym (append-nil page.pending));
  pieces = adds_no_piece page.sink [];
  stays = told_same page.sink.held;
  same_room = refl;
  quiet = refl;
}

-- what was pending was written
pub gathers_flushed : (old new : PageView) → Appends old.sink.held new.sink.held old.pending → AddsPieces old.sink new.sink old.pending old.pending → new.pending ≡ []
    → StaysTold old.sink.held new.sink.held → new.sink.room ≡ old.sink.room → new.sink.faults ≡ old.sink.faults → Gathers old new []
gathers_flushed old new wrote adds none stays room quiet = record {
  wrote = (old.pending, wrote, ap (λ bytes. old.pending ++ bytes) none);
  pieces = adds;
  stays = stays;
  same_room = room;
  quiet = quiet;
}

-- words were added, and then more was gathered
pub words_added : (old new : PageView) (now words more : List ℕ) → now ≡ old.pending ++ words → Gathers (record { sink = old.sink; pending = now }) new more → Gathers old new (words ++ more)
words_added old new now words more is g = record {
  wrote = (g.wrote.0, g.wrote.1, g.wrote.2 ∙ (ap (λ bytes. bytes ++ more) is ∙ append_assoc old.pending words more));
  pieces = g.pieces;
  stays = g.stays;
  same_room = g.same_room;
  quiet = g.quiet;
}

-- words were added, and what is pending may have been written
pub words_spilled : (old new : PageView) (now words : List ℕ) → now ≡ old.pending ++ words → Gathers (record { sink = old.sink; pending = now }) new [] → Gathers old new words
words_spilled old new now words is g = subst (Gathers old new) (append-nil words) (words_added old new now words [] is g)

-- so it is where the call that spills may fail
pub words_if_spilled : {T E : Type 0} (r : Result T E) (old new : PageView) (now words : List ℕ) → now ≡ old.pending ++ words → OnOk r (Gathers (record { sink = old.sink; pending = now }) new []) → OnOk r (Gathers old new words)
words_if_spilled (Ok x) old new now words is g = words_spilled old new now words is g
words_if_spilled (Err e) old new now words is g = tt

-- one text and then another
pub gathers_on : (old mid new : PageView) (xs ys : List ℕ) → Gathers old mid xs → Gathers mid new ys → Gathers old new (xs ++ ys)
gathers_on old mid new xs ys g h = record {
  wrote = (
    g.wrote.0 ++ h.wrote.0,
    appends_on old.sink.held mid.sink.held new.sink.held g.wrote.0 h.wrote.0 g.wrote.1 h.wrote.1,
    append_assoc g.wrote.0 h.wrote.0 new.pending
        ∙ (ap (λ bytes. g.wrote.0 ++ bytes) h.wrote.2
        ∙ (sym (append_assoc g.wrote.0 mid.pending ys)
        ∙ (ap (λ bytes. bytes ++ ys) g.wrote.2
        ∙ append_assoc old.pending xs ys))),
  );
  pieces = adds_pieces_on old.sink mid.sink new.sink g.wrote.0 h.wrote.0 h.wrote.0 g.pieces h.pieces;
  stays = told_on old.sink.held mid.sink.held new.sink.held g.stays h.stays;
  same_room = h.same_room ∙ g.same_room;
  quiet = h.quiet ∙ g.quiet;
}

-- nothing was written, and memory ran out
pub breaks_nothing : (sink : SinkView) (text : List ℕ) → Breaks sink sink text NoMemory
breaks_nothing sink text = record {
  front = ([], (text, refl), appends_none sink.held);
  cut_off = λ e. absurd (cc e);
  pieces = ([], adds_no_piece sink text);
  no_limit = λ kind number e. cc e;
  stays = told_same sink.held;
  same_room = refl;
  cause = stays_quiet sink.faults sink.faults (λ e. cc e) refl;
}

-- what was written is a front of a longer text
pub breaks_more : (sink sink' : SinkView) (xs ys : List ℕ) (why : RunEnd) → Breaks sink sink' xs why → Breaks sink sink' (xs ++ ys) why
breaks_more sink sink' xs ys why b = record {
  front = (b.front.0, (b.front.1.0 ++ ys, sym (append_assoc b.front.0 b.front.1.0 ys) ∙ ap (λ bytes. bytes ++ ys) b.front.1.1), b.front.2);
  cut_off = λ e. front_more sink.held sink'.held xs ys (b.cut_off e);
  pieces = (b.pieces.0, adds_pieces_of sink sink' xs ys b.pieces.0 b.pieces.1);
  no_limit = b.no_limit;
  stays = b.stays;
  same_room = b.same_room;
  cause = b.cause;
}

-- a text, and then a front of another
pub breaks_after : (old mid : PageView) (sink' : SinkView) (xs ys : List ℕ) (why : RunEnd) → Gathers old mid xs → Breaks mid.sink sink' (mid.pending ++ ys) why → Breaks old.sink sink' (old.pending ++ (xs ++ ys)) why
breaks_after old mid sink' xs ys why g b =
    let whole : g.wrote.0 ++ (mid.pending ++ ys) ≡ old.pending ++ (xs ++ ys) =
    sym (append_assoc g.wrote.0 mid.pending ys) ∙ (ap (λ bytes. bytes ++ ys) g.wrote.2 ∙ append_assoc old.pending xs ys) in
    record {
      front = (
        g.wrote.0 ++ b.front.0,
        (b.front.1.0, append_assoc g.wrote.0 b.front.0 b.front.1.0 ∙ (ap (λ bytes. g.wrote.0 ++ bytes) b.front.1.1 ∙ whole)),
        appends_on old.sink.held mid.sink.held sink'.held g.wrote.0 b.front.0 g.wrote.1 b.front.2,
      );
      cut_off = λ e. subst (AppendsFront old.sink.held sink'.held) whole (front_after old.sink.held mid.sink.held sink'.held g.wrote.0 (mid.pending ++ ys) g.wrote.1 (b.cut_off e));
      pieces = (
        g.wrote.0 ++ b.pieces.0,
        subst (λ text. AddsPieces old.sink sink' text (g.wrote.0 ++ b.pieces.0)) whole (adds_pieces_on old.sink mid.sink sink' g.wrote.0 (mid.pending ++ ys) b.pieces.0 g.pieces b.pieces.1),
      );
      no_limit = b.no_limit;
      stays = told_on old.sink.held mid.sink.held sink'.held g.stays b.stays;
      same_room = b.same_room ∙ g.same_room;
      cause = risen_after old.sink.faults mid.sink.faults sink'.faults g.quiet b.cause;
    }

-- a write failed
pub breaks_fault : (sink sink' : SinkView) (text : List ℕ) → AppendsFront sink.held sink'.held text → AddsPart sink sink' text → StaysTold sink.held sink'.held → sink'.room ≡ sink.room → sink.faults ≤ sink'.faults → Rose sink.faults sink'.faults → Breaks sink sink' text WriteFault
breaks_fault sink sink' text cut part stays room later rose = record {
  front = (take cut.0 text, (drop cut.0 text, take-append-drop cut.0 text), cut.2);
  cut_off = λ _. cut;
  pieces = (take part.0 text, part.2);
  no_limit = λ kind number e. cc e;
  stays = stays;
  same_room = room;
  cause = has_risen sink.faults sink'.faults refl later rose;
}

-- a list of texts, of which the one at a place is the next
module _ {X : Type 0} (f : X → List ℕ) (xs : List X) (i : ℕ) where
  split_at : (x : X) → i < length xs → slice_get xs i ≡ Some x → flat_map f (take i xs) ++ (f x ++ flat_map f (drop (i + 1) xs)) ≡ flat_map f xs
  split_at x inside at =
      let here : drop i xs ≡ x ∷ drop (i + 1) xs =
      drop-cons xs i x inside ∙ (ap (λ (y : X). y ∷ drop (suc i) xs) (sym (at_place xs i x inside at)) ∙ ap (λ n. x ∷ drop n xs) (sym (add-one i))) in
      sym (flat_map-append f (take i xs) (x ∷ drop (i + 1) xs))
      ∙ (ap (λ (ys : List X). flat_map f (take i xs ++ ys)) (sym here)
      ∙ ap (flat_map f) (take-append-drop i xs))

  more_at : (x : X) → i < length xs → slice_get xs i ≡ Some x → flat_map f (take i xs) ++ f x ≡ flat_map f (take (i + 1) xs)
  more_at x inside at =
      ap (λ bytes. flat_map f (take i xs) ++ bytes) (sym (append-nil (f x)))
      ∙ (sym (flat_map-append f (take i xs) (x ∷ []))
      ∙ ap (flat_map f) (ap (λ (y : X). take i xs ++ y ∷ []) (at_place xs i x inside at) ∙ sym (take_more xs i x inside)))

  pub gathers_step : (old mid new : PageView) (x : X) → i < length xs → slice_get xs i ≡ Some x
      → Gathers old mid (flat_map f (take i xs)) → Gathers mid new (f x) → Gathers old new (flat_map f (take (i + 1) xs))
  gathers_step old mid new x inside at g h =
      subst (Gathers old new) (more_at x inside at) (gathers_on old mid new (flat_map f (take i xs)) (f x) g h)

  pub breaks_step : (old mid : PageView) (sink' : SinkView) (x : X) (why : RunEnd) → i < length xs → slice_get xs i ≡ Some x
      → Gathers old mid (flat_map f (take i xs)) → Breaks mid.sink sink' (mid.pending ++ f x) why → Breaks old.sink sink' (old.pending ++ flat_map f xs) why
  breaks_step old mid sink' x why inside at g b =
      let rest = flat_map f (drop (i + 1) xs) in
      let longer : Breaks mid.sink sink' (mid.pending ++ (f x ++ rest)) why =
      subst (λ bytes. Breaks mid.sink sink' bytes why) (append_assoc mid.pending (f x) rest) (breaks_more mid.sink sink' (mid.pending ++ f x) rest why b) in
      subst (λ bytes. Breaks old.sink sink' (old.pending ++ bytes) why) (split_at x inside at) (breaks_after old mid sink' (flat_map f (take i xs)) (f x ++ rest) why g longer)

  -- memory ran out
  pub breaks_short : (old mid : PageView) → Gathers old mid (flat_map f (take i xs)) → Breaks old.sink mid.sink (old.pending ++ flat_map f xs) NoMemory
  breaks_short old mid g =
      let whole : flat_map f (take i xs) ++ flat_map f (drop i xs) ≡ flat_map f xs =
      sym (flat_map-append f (take i xs) (drop i xs)) ∙ ap (flat_map f) (take-append-drop i xs) in
      subst (λ bytes. Breaks old.sink mid.sink (old.pending ++ bytes) NoMemory) whole
      (breaks_after old mid mid.sink (flat_map f (take i xs)) (flat_map f (drop i xs)) NoMemory g (breaks_nothing mid.sink (mid.pending ++ flat_map f (drop i xs))))

  pub gathers_all : (old new : PageView) → length xs ≤ i → Gathers old new (flat_map f (take i xs)) → Gathers old new (flat_map f xs)
  gathers_all old new over g = subst (λ (ys : List X). Gathers old new (flat_map f ys)) (take_all i xs over) g

-- what stands at a place of a list with its places, of which the first is n
pub enumerated_from : {X : Type 0} (n : ℕ) (xs : List X) (i : ℕ) (x : X) → i < length xs → slice_get xs i ≡ Some x → slice_get (enumerate_from n xs) i ≡ Some (n + i, x)
enumerated_from {X = X} n xs i x inside at =
    let within : i < length (enumerate_from n xs) = omega (arith, inside, length-enumerate_from n xs) in
    slice_get-get_or (enumerate_from n xs) i (0, x) within
    ∙ ap (λ (p : ℕ × X). Some p)
    (get_or-enumerate_from n xs i (0, x) inside
    ∙ ap (λ (y : X). (n + i, y)) (sym (at_place xs i x inside at)))

pub enumerated : {X : Type 0} (xs : List X) (i : ℕ) (x : X) → i < length xs → slice_get xs i ≡ Some x → slice_get (enumerate_from 0 xs) i ≡ Some (i, x)
enumerated {X = X} xs i x inside at = enumerated_from 0 xs i x inside at ∙ ap (λ (n : ℕ). Some (n, x)) (zero-add i)

-- the words of a line at a place
pub line_at : (lines : List (List ℕ)) (i : ℕ) → i < length lines → slice_get lines i ≡ Some (get_or lines i [])
line_at lines i inside = slice_get-get_or lines i [] inside

-- they were added
pub line_made : (lines : List (List ℕ)) (i number : ℕ) (before now : List ℕ) → i < length lines → number ≡ i → IfSome (slice_get lines number) (λ words. now ≡ before ++ words) → now ≡ before ++ get_or lines i []
line_made lines i number before now inside same made =
    let found : slice_get lines number ≡ Some (get_or lines i []) = ap (slice_get lines) same ∙ line_at lines i inside in
    subst (λ (o : Option (List ℕ)). IfSome o (λ words. now ≡ before ++ words)) found made

-- the line of an element of a list
pub line_of_element : {X : Type 0} (f : X → List ℕ) (xs : List X) (i : ℕ) (x : X) (before now : List ℕ) → slice_get xs i ≡ Some x → now ≡ before ++ f x → IfSome (slice_get (map f xs) i) (λ words. now ≡ before ++ words)
line_of_element f xs i x before now at made =
    let found : slice_get (map f xs) i ≡ Some (f x) = slice_get-map f xs i ∙ ap (option_map f) at in
    subst (λ (o : Option (List ℕ)). IfSome o (λ words. now ≡ before ++ words)) (sym found) made

-- and where it was made by a call that may fail
pub line_if_made : {T E X : Type 0} (r : Result T E) (f : X → List ℕ) (xs : List X) (i : ℕ) (x : X) (before now : List ℕ) → slice_get xs i ≡ Some x → OnOk r (now ≡ before ++ f x) → OnOk r (IfSome (slice_get (map f xs) i) (λ words. now ≡ before ++ words))
line_if_made (Ok y) f xs i x before now at made = line_of_element f xs i x before now at made
line_if_made (Err e) f xs i x before now at made = tt

-- the piece that stands there was made
pub piece_if_made : {T E : Type 0} (r : Result T E) (o : Option (List ℕ)) (piece before now : List ℕ) → o ≡ Some piece → OnOk r (now ≡ before ++ piece) → OnOk r (IfSome o (λ words. now ≡ before ++ words))
piece_if_made (Ok y) o piece before now at made = subst (λ (p : Option (List ℕ)). IfSome p (λ words. now ≡ before ++ words)) (sym at) made
piece_if_made (Err e) o piece before now at made = tt
