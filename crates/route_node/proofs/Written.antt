-- What was written over a link, frame by frame.
use Rattle.std.proofs.Common.{ℕ, ◌-◌, ◌≡◌, ◌≤◌, ◌<◌, inr, true, false, Option, Some, None, Result, Ok, Err, is_err, IsErr, IsErrAnd, IfErr, OnOk, OnErr, List, [], ◌∷◌, ◌++◌, take, drop, length, refl, sym, ap, ◌∙◌, subst, append_assoc, option_map, arith}
use Rattle.std.specs.Io.KnownBytes.{Appends}
use Rattle.std.proofs.lemmas.Result.{err_from_is_err_and}
use Rattle.std.proofs.lemmas.List.{append-nil, length-append, take-append-drop}
use Rattle.std.proofs.lemmas.Grind.{flat_map-append}
use Rattle.topology.specs.declared.status.Status.{Status}
use Rattle.topology.specs.declared.status.Status.TheVariants.{LinkFault}
use Rattle.route_io.specs.Acts.{writes, whole_by, ActsOnce, AddsWrites, AddsFront}
use Rattle.route_io.specs.Causes.{AppendsFront, HasCause, StaysTold}
use Rattle.route_io.specs.Links.{HasRoom, IsSure, LacksRoom, OnlyWrites, room_left, room_behind}
use Rattle.route_io.specs.Views.{StreamAct, Write, LinkView}
use Rattle.route_io.proofs.Acts.{writes_behind, all_writes, acts_both, adds_more}
use Rattle.route_io.proofs.Bytes.{appends_on, told_on, risen_after}
use Rattle.route_io.proofs.Links.{only_writes_on, room_before}
use Rattle.wire_frames.specs.declared.frames.Frame.{Frame}
use Rattle.wire_frames.specs.Frames.{spell}
use Rattle.route_node.specs.Writing.{spelled, whole, each_whole, OneWriteEach, Writes, Breaks}

-- an error that `?` passes on
pub handed_on : {T E : Type 0} (r : Result T E) (Q P : E → Type 0) → IsErr r × IsErrAnd r Q → ((e : E) → Q e → P e) → IfErr r P
handed_on r Q P h step =
    let e = err_from_is_err_and r h.1 in
    rw e.1 (step e.0 e.2)

-- ---- spellings

spelled_one : (f : Frame) → spelled (f ∷ []) ≡ spell f
spelled_one f = append-nil (spell f)

pub spelled_both : (fs gs : List Frame) → spelled (fs ++ gs) ≡ spelled fs ++ spelled gs
spelled_both fs gs = flat_map-append spell fs gs

-- ---- one write for each frame

each_both : (fs gs : List Frame) → each_whole (fs ++ gs) ≡ each_whole gs ++ each_whole fs
each_both [] gs = sym (append-nil (each_whole gs))
each_both (f ∷ fs) gs = ap (λ (l : List StreamAct). l ++ whole f ∷ []) (each_both fs gs) ∙ append_assoc (each_whole gs) (each_whole fs) (whole f ∷ [])

-- so their number is that of the frames
pub as_many : (frames : List Frame) → length (each_whole frames) ≡ length frames
as_many [] = refl
as_many (f ∷ frames) = let before = as_many frames in omega (arith, before, length-append (each_whole frames) (whole f ∷ []))

-- the room that is left after more bytes
room_after : (room : Option ℕ) (old now : Option (List ℕ)) (bytes : List ℕ) (left : ℕ) → Appends old now bytes → room_behind room old ≡ Some left → room_behind room now ≡ Some (left - length bytes)
room_after None old now bytes left e is = absurd (cc is)
room_after (Some size) None now bytes left e is = absurd (cc is)
room_after (Some size) (Some old) None bytes left e is = absurd e
room_after (Some size) (Some old) (Some now) bytes left e is =
    let same : size - length old ≡ left = cc is in
    let more = ap length e ∙ length-append old bytes in
    let less : size - length now ≡ left - length bytes = omega (arith, same, more) in
    ap (λ (k : ℕ). Some k) less

-- ---- one frame, and those after others

pub writes_one : {T E : Type 0} (r : Result T E) (f : Frame) (bytes : List ℕ) (link link' : LinkView) → is_err r ≡ false → bytes ≡ spell f → OnOk r (Appends link.outgoing link'.outgoing bytes)
    → (HasRoom link bytes → ActsOnce link link' (Write bytes (whole_by r bytes))) → OnOk r (AddsWrites link link' bytes) → StaysTold link.outgoing link'.outgoing → OnlyWrites link link' → HasCause link.faults link'.faults r → Writes (f ∷ []) link link'
unfolding spell
writes_one (Err e) f bytes link link' ok is wrote once acts told only cause = absurd (cc ok)
writes_one (Ok x) f bytes link link' ok is wrote once acts told only cause =
    let same : bytes ≡ spelled (f ∷ []) = is ∙ sym (spelled_one f) in
    record {
      wrote = subst (Appends link.outgoing link'.outgoing) same wrote;
      told = told;
      acts = subst (AddsWrites link link') same acts;
      one_write_each = λ left room small.
          let some : 0 < length bytes = subst (λ l. 0 < length l) (sym is) (omega arith) in
          let within : length bytes ≤ left = subst (λ l. length l ≤ left) (sym same) small in
          (λ before told'. (
            Write bytes (Some (length bytes)) ∷ [],
            once (left, room, some, within) ∙ ap (option_map (λ acts. Write bytes (Some (length bytes)) ∷ acts)) told',
            ap (λ (l : List ℕ). Write l (Some (length l)) ∷ []) is,
          ));
      others = only;
      quiet = cause.quiet;
    }

pub breaks_one : {T E : Type 0} (r : Result T E) (f : Frame) (bytes : List ℕ) (link link' : LinkView) → is_err r ≡ true → bytes ≡ spell f → OnErr r (AppendsFront link.outgoing link'.outgoing bytes)
    → OnErr r (AddsFront link link' bytes) → (IsSure link → OnErr r (LacksRoom link bytes)) → OnlyWrites link link' → HasCause link.faults link'.faults r → Breaks (f ∷ []) link link' LinkFault
breaks_one (Ok x) f bytes link link' failed is wrote acts full only cause = absurd (cc failed)
breaks_one (Err e) f bytes link link' failed is wrote acts full only cause =
    let same : bytes ≡ spelled (f ∷ []) = is ∙ sym (spelled_one f) in
    record {
      why = inr refl;
      link_fault = record { later = cause.later; rose = λ is_fault. cause.failed; quiet = λ other. absurd (other refl) };
      some = take wrote.0 bytes;
      begins = (drop wrote.0 bytes, take-append-drop wrote.0 bytes ∙ same);
      wrote = wrote.2;
      acts = (acts.2.more, acts.2.alone, acts.2.behind);
      full = λ sure e. subst (LacksRoom link) same (full sure);
      others = only;
    }

-- frames that are written after others, each by one write
pub one_write_behind : (fs gs : List Frame) (link mid link' : LinkView) → Appends link.outgoing mid.outgoing (spelled fs) → mid.room ≡ link.room → OneWriteEach fs link mid → OneWriteEach gs mid link' → OneWriteEach (fs ++ gs) link link'
one_write_behind fs gs link mid link' wrote same_room first second = λ left room small.
    let sizes = ap length (spelled_both fs gs) ∙ length-append (spelled fs) (spelled gs) in
    let behind : room_left mid ≡ Some (left - length (spelled fs)) =
    ap (λ r. room_behind r mid.outgoing) same_room ∙ room_after link.room link.outgoing mid.outgoing (spelled fs) left wrote room in
    λ before told.
    let earlier = first left room (omega (arith, small, sizes)) before told in
    let later = second (left - length (spelled fs)) behind (omega (arith, small, sizes)) (earlier.0 ++ before) earlier.1 in (
      later.0 ++ earlier.0,
      later.1 ∙ ap (λ (l : List StreamAct). Some l) (sym (append_assoc later.0 earlier.0 before)),
      writes_behind later.0 earlier.0 ∙ (ap (λ (l : List StreamAct). l ++ writes earlier.0) later.2 ∙ (ap (λ (l : List StreamAct). each_whole gs ++ l) earlier.2 ∙ sym (each_both fs gs))),
    )

pub writes_more : (fs gs : List Frame) (link mid link' : LinkView) → Writes fs link mid → Writes gs mid link' → Writes (fs ++ gs) link link'
writes_more fs gs link mid link' first second = record {
  wrote = subst (Appends link.outgoing link'.outgoing) (sym (spelled_both fs gs)) (appends_on link.outgoing mid.outgoing link'.outgoing (spelled fs) (spelled gs) first.wrote second.wrote);
  told = told_on link.outgoing mid.outgoing link'.outgoing first.told second.told;
  acts = subst (AddsWrites link link') (sym (spelled_both fs gs)) (adds_more link mid link' (spelled fs) (spelled gs) first.acts second.acts);
  one_write_each = one_write_behind fs gs link mid link' first.wrote (ap (λ (l : LinkView). l.room) first.others) first.one_write_each second.one_write_each;
  others = only_writes_on link mid link' first.others second.others;
  quiet = second.quiet ∙ first.quiet;
}

pub breaks_more : (all fs gs hs : List Frame) (link mid link' : LinkView) (status : Status) → Writes fs link mid → Breaks gs mid link' status → all ≡ fs ++ (gs ++ hs) → Breaks all link link' status
breaks_more all fs gs hs link mid link' status first second is =
    let spelling : spelled all ≡ spelled fs ++ (spelled gs ++ spelled hs) = ap spelled is ∙ (spelled_both fs (gs ++ hs) ∙ ap (λ l. spelled fs ++ l) (spelled_both gs hs)) in
    record {
      why = second.why;
      link_fault = risen_after link.faults mid.faults link'.faults first.quiet second.link_fault;
      some = spelled fs ++ second.some;
      begins = (
        second.begins.0 ++ spelled hs,
        append_assoc (spelled fs) second.some (second.begins.0 ++ spelled hs)
            ∙ (ap (λ l. spelled fs ++ l) (sym (append_assoc second.some second.begins.0 (spelled hs)) ∙ ap (λ l. l ++ spelled hs) second.begins.1) ∙ sym spelling),
      );
      wrote = appends_on link.outgoing mid.outgoing link'.outgoing (spelled fs) second.some first.wrote second.wrote;
      acts = (
        second.acts.0 ++ first.acts.more,
        all_writes second.acts.0 first.acts.more second.acts.1 first.acts.alone,
        second.acts.2 ∙ (ap (option_map (λ before. second.acts.0 ++ before)) first.acts.behind ∙ acts_both link.acts second.acts.0 first.acts.more),
      );
      full = λ sure e.
          let lacks = second.full (ap (λ (l : LinkView). l.sure) first.others ∙ sure) e in
          let behind : room_behind link.room mid.outgoing ≡ Some lacks.0 = ap (λ r. room_behind r mid.outgoing) (sym (ap (λ (l : LinkView). l.room) first.others)) ∙ lacks.1 in
          let before = room_before link.room link.outgoing mid.outgoing (spelled fs) lacks.0 first.told first.wrote behind in
          let within = before.2 in let short = lacks.2 in
          (before.0, before.1, omega (arith, within, short, ap length spelling, length-append (spelled fs) (spelled gs ++ spelled hs), length-append (spelled gs) (spelled hs)));
      others = only_writes_on link mid link' first.others second.others;
    }
