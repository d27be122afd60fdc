-- Writes of a link, one after another.
use Rattle.std.proofs.Common.{ℕ, ◌+◌, ◌-◌, ◌<◌, ◌≤◌, ◌≡◌, ◌⊎◌, inl, inr, min, List, length, take, drop, Option, Some, None, refl, sym, ap, subst, ◌∙◌, arith, length-append, IfSome}
use Rattle.std.proofs.lemmas.List.{length-take-le}
use Rattle.std.specs.Io.KnownBytes.{Appends}
use Rattle.route_io.specs.Causes.{StaysTold}
use Rattle.route_io.specs.Acts.{ActsOnce}
use Rattle.route_io.specs.Links.{OnlyWrites, FindsNoneLeft, HasRoom, LacksRoom, room_behind, room_left}
use Rattle.route_io.specs.Views.{LinkView, Write}

-- no write was made yet
pub record AtFirst (was now : LinkView) (done : ℕ) : Type 0 where
  pub none_done : done ≡ 0
  pub same : now ≡ was

-- something was taken; if there was room for the piece, all of it, by one write
pub record IsOnward (was now : LinkView) (piece : List ℕ) (done : ℕ) : Type 0 where
  pub some : 0 < done
  pub whole : HasRoom was piece → done ≡ length piece
  pub once : HasRoom was piece → ActsOnce was now (Write piece (Some (length piece)))

-- what a write takes if the room is told
fill_at : (o : Option ℕ) (size n left : ℕ) → o ≡ Some left → IfSome o (λ l. n ≡ min size l) → n ≡ min size left
fill_at o size n left told fills = rw told at fills

-- one more write, of what is left
pub onward :
    (was now next : LinkView) (piece rest : List ℕ) (done n : ℕ) →
    AtFirst was now done ⊎ IsOnward was now piece done → done < length piece →
    rest ≡ drop done piece → length rest ≡ length piece - done → 0 < n → n ≤ length rest →
    IfSome (room_left now) (λ left. n ≡ min (length rest) left) → ActsOnce now next (Write rest (Some n)) →
    IsOnward was next piece (done + n)
onward was now next piece rest done n (inl first) inside is size some within fills once =
    let start : done ≡ 0 = first.none_done in record {
      some = omega (arith, some);
      whole = λ h.
          let taken : n ≡ min (length rest) h.0 =
          fill_at (room_left now) _ n h.0 (ap room_left first.same ∙ h.1) fills
          in omega (arith, taken, h.3, size, start);
      once = λ h.
          let taken : n ≡ min (length rest) h.0 =
          fill_at (room_left now) _ n h.0 (ap room_left first.same ∙ h.1) fills
          in
          let all : n ≡ length piece = omega (arith, taken, h.3, size, start) in
          let whole : rest ≡ piece = is ∙ ap (λ (k : ℕ). drop k piece) start in
          subst (λ v. ActsOnce v next (Write piece (Some (length piece)))) first.same
          (subst (λ xs. ActsOnce now next (Write xs (Some (length piece)))) whole
          (subst (λ k. ActsOnce now next (Write rest (Some k))) all once));
    }
onward was now next piece rest done n (inr further) inside is size some within fills once =
    record {
      some = omega (arith, some);
      whole = λ h. absurd (omega (arith, further.whole h, inside));
      once = λ h. absurd (omega (arith, further.whole h, inside));
    }

-- the first write failed, although there was room for the piece
pub failed_once :
    (was now next : LinkView) (piece rest : List ℕ) (done : ℕ) →
    AtFirst was now done ⊎ IsOnward was now piece done → done < length piece →
    rest ≡ drop done piece → ActsOnce now next (Write rest None) → HasRoom was piece →
    ActsOnce was next (Write piece None)
failed_once was now next piece rest done (inl first) inside is once h =
    subst (λ v. ActsOnce v next (Write piece None)) first.same
    (subst (λ xs. ActsOnce now next (Write xs None)) (is ∙ ap (λ (k : ℕ). drop k piece) first.none_done) once)
failed_once was now next piece rest done (inr further) inside is once h =
    absurd (omega (arith, further.whole h, inside))

-- how much room there was, if so much is left after more bytes
pub room_before :
    (room : Option ℕ) (old now : Option (List ℕ)) (bytes : List ℕ) (left : ℕ) →
    StaysTold old now → Appends old now bytes → room_behind room now ≡ Some left →
    (before : ℕ) × (room_behind room old ≡ Some before) × (before ≤ left + length bytes)
room_before None old now bytes left told more is = absurd (cc is)
room_before (Some size) old None bytes left told more is = absurd (cc is)
room_before (Some size) None (Some now) bytes left told more is = absurd told
room_before (Some size) (Some old) (Some now) bytes left told more is =
    let same : size - length now ≡ left = cc is in
    (size - length old, refl, omega (arith, same, ap length more, length-append old bytes))

-- a write of the rest of the piece found no room: the piece is longer than the room was
pub lacks_room :
    (was now : LinkView) (piece rest : List ℕ) (done : ℕ) → done < length piece →
    StaysTold was.outgoing now.outgoing → Appends was.outgoing now.outgoing (take done piece) →
    OnlyWrites was now → FindsNoneLeft now rest → LacksRoom was piece
lacks_room was now piece rest done inside told more others none =
    let same : now.room ≡ was.room = ap (λ (v : LinkView). v.room) others in
    let before = room_before was.room was.outgoing now.outgoing (take done piece) 0 told more
    (ap (λ r. room_behind r now.outgoing) (sym same) ∙ none.1)
    in
    let size : length (take done piece) ≡ done = length-take-le done piece (omega (arith, inside)) in
    let within = before.2 in
    (before.0, before.1, omega (arith, within, size, inside))

-- what two writes change
pub only_writes_on : (a b c : LinkView) → OnlyWrites a b → OnlyWrites b c → OnlyWrites a c
only_writes_on a b c h k =
    k ∙ ap (λ (v : LinkView). record v { outgoing = c.outgoing; acts = c.acts; faults = c.faults }) h
