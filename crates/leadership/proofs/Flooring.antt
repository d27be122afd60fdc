-- The greatest ballots of each epoch give what was promised.
use Rattle.std.proofs.Common.{ℕ, zero, suc, ◌<◌, Bool, true, false, nat_le, ◌≡◌, Option, Some, None, Result, Ok, Err, OnOk, List, [], ◌∷◌, length, get_or, set, refl, sym, ◌∙◌, ap, ap₂, subst, arith, if◌then◌else◌}
use Rattle.topology.specs.Ballots.{below}
use Rattle.topology.specs.declared.ballots.Ballot.{Ballot}
use Rattle.paxos_core.specs.Readings.{greater}
use Rattle.paxos_core.proofs.Ballots.{at_most_of_below, at_most_trans, below_after, same_of_at_most}
use Rattle.leadership.specs.declared.floors.Floors.{Floors}
use Rattle.leadership.specs.declared.floors.Span.{Span}
use Rattle.leadership.specs.declared.floors.Span.TheVariants.{All, From, UpTo, Only}
use Rattle.leadership.specs.Facts.{PrepareFrom}
use Rattle.leadership.specs.Floors.{Floor, AddsMessage, Raises, covers, floor_at, greatest_in, with_floor}

-- ---- the greater of ballots

-- the greater one of two
abbrev of_two : Ballot → Ballot → Option Ballot
of_two a b = if below b a then Some a else Some b

two : (a b : Ballot) → of_two a b ≡ of_two b a
two a b =
    elim (below b a) as (λ t. below b a ≡ t → (if t then Some a else Some b) ≡ of_two b a) [
      | true ↦ λ up. rw (at_most_of_below b a up) refl
      | false ↦ λ is. (elim (below a b) as (λ t. below a b ≡ t → ◌≡◌ {A = Option Ballot} (Some b) (if t then Some b else Some a)) [
        | true ↦ λ up. refl
        | false ↦ λ no_less. ap (λ (z : Ballot). Some z) (same_of_at_most b a is no_less)
      ]) refl
    ] refl

-- the order of the ballots does not matter
swap : (a b : Ballot) (x : Option Ballot) → greater a (greater b x) ≡ greater b (greater a x)
swap a b None = two a b
swap a b (Some c) =
    elim (below c b) as (λ t. below c b ≡ t → greater a (if t then Some b else Some c) ≡ greater b (greater a (Some c))) [
      | true ↦ λ up. (elim (below c a) as (λ s. below c a ≡ s → of_two a b ≡ greater b (if s then Some a else Some c)) [
        | true ↦ λ over. two a b
        | false ↦ λ under.
            let less : below a b ≡ true = below_after a c b under up in
            let more : below b a ≡ false = at_most_of_below a b less in
            rw (up, more) refl
      ]) refl
      | false ↦ λ is. (elim (below c a) as (λ s. below c a ≡ s → (if s then Some a else Some c) ≡ greater b (if s then Some a else Some c)) [
        | true ↦ λ over.
            let less : below b a ≡ true = below_after b c a is over in
            let more : below a b ≡ false = at_most_of_below b a less in
            rw more refl
        | false ↦ λ under. rw is refl
      ]) refl
    ] refl

-- a ballot below a later one does not matter
over : (f b : Ballot) (x : Option Ballot) → below f b ≡ true → greater b (greater f x) ≡ greater b x
over f b None up = rw up refl
over f b (Some c) up =
    elim (below c f) as (λ t. below c f ≡ t → greater b (if t then Some f else Some c) ≡ greater b (Some c)) [
      | true ↦ λ less.
          let at_most : below b f ≡ false = at_most_of_below f b up in
          let all : below c b ≡ true = below_trans c f b less up in
          rw (up, all) refl
      | false ↦ λ is. refl
    ] refl
  where
    below_trans : (c f b : Ballot) → below c f ≡ true → below f b ≡ true → below c b ≡ true
    below_trans c f b p q = below_after c f b (at_most_of_below c f p) q

-- nor does one that is not above an earlier one
under : (f b : Ballot) (x : Option Ballot) → below f b ≡ false → greater b (greater f x) ≡ greater f x
under f b None is = rw is refl
under f b (Some c) is =
    elim (below c f) as (λ t. below c f ≡ t → greater b (if t then Some f else Some c) ≡ (if t then Some f else Some c)) [
      | true ↦ λ less. rw is refl
      | false ↦ λ at_most. let all : below c b ≡ false = at_most_trans b f c is at_most in rw all refl
    ] refl

-- ---- one more ballot

-- a ballot before all floors may come behind them
behind : (span : Span) (floors : List Floor) (b : Ballot) (before : Option Ballot) → greatest_in span floors (greater b before) ≡ greater b (greatest_in span floors before)
behind span [] b before = refl
behind span (f ∷ floors) b before =
    ap (greatest_in span floors) (turned (covers span f.epoch)) ∙ behind span floors b (with_floor span before f)
  where
    turned : (t : Bool) → (if t then greater f.ballot (greater b before) else greater b before) ≡ greater b (if t then greater f.ballot before else before)
    turned true = swap f.ballot b before
    turned false = refl

abbrev more : Span → ℕ → Ballot → Option Ballot → Option Ballot
more span e b before = if covers span e then greater b before else before

more_behind : (span : Span) (floors : List Floor) (e : ℕ) (b : Ballot) (before : Option Ballot) → more span e b (greatest_in span floors before) ≡ greatest_in span floors (more span e b before)
more_behind span floors e b before =
    elim (covers span e) as (λ t. (if t then greater b (greatest_in span floors before) else greatest_in span floors before) ≡ greatest_in span floors (if t then greater b before else before)) [ true ↦ sym (behind span floors b before) | false ↦ refl ]

-- the floor of the epoch is raised to it
pub raised_there : (floors : List Floor) (place e : ℕ) (b : Ballot) (f : Floor) → place < length floors → get_or floors place f ≡ f → f.epoch ≡ e → below f.ballot b ≡ true → Raises e b floors (set floors place (record { epoch = e; ballot = b }))
raised_there [] place e b f lt here is up = absurd (omega (arith, lt))
raised_there (g ∷ floors) zero e b f lt here is up = λ span before.
    let same : g.epoch ≡ e = ap (λ (z : Floor). z.epoch) here ∙ is in
    let lower : below g.ballot b ≡ true = subst (λ (z : Floor). below z.ballot b ≡ true) (sym here) up in
    sym (more_behind span floors e b (with_floor span before g) ∙ ap (greatest_in span floors)
    (subst (λ d. more span e b (if covers span d then greater g.ballot before else before) ≡ more span e b before) (sym same)
    (elim (covers span e) as (λ t. (if t then greater b (if t then greater g.ballot before else before) else (if t then greater g.ballot before else before)) ≡ (if t then greater b before else before)) [ true ↦ over g.ballot b before lower | false ↦ refl ])))
raised_there (g ∷ floors) (suc place) e b f lt here is up = λ span before.
    let less : place < length floors = omega (arith, lt) in
    raised_there floors place e b f less here is up span (with_floor span before g)

-- or the floor is not below it already
pub raised_before : (floors : List Floor) (place e : ℕ) (b : Ballot) (f : Floor) → place < length floors → get_or floors place f ≡ f → f.epoch ≡ e → below f.ballot b ≡ false → Raises e b floors floors
raised_before [] place e b f lt here is up = absurd (omega (arith, lt))
raised_before (g ∷ floors) zero e b f lt here is up = λ span before.
    let same : g.epoch ≡ e = ap (λ (z : Floor). z.epoch) here ∙ is in
    let lower : below g.ballot b ≡ false = subst (λ (z : Floor). below z.ballot b ≡ false) (sym here) up in
    sym (more_behind span floors e b (with_floor span before g) ∙ ap (greatest_in span floors)
    (subst (λ d. more span e b (if covers span d then greater g.ballot before else before) ≡ (if covers span d then greater g.ballot before else before)) (sym same)
    (elim (covers span e) as (λ t. (if t then greater b (if t then greater g.ballot before else before) else (if t then greater g.ballot before else before)) ≡ (if t then greater g.ballot before else before)) [ true ↦ under g.ballot b before lower | false ↦ refl ])))
raised_before (g ∷ floors) (suc place) e b f lt here is up = λ span before.
    let less : place < length floors = omega (arith, lt) in
    raised_before floors place e b f less here is up span (with_floor span before g)

-- ---- one more message

-- what follows where a call ends well
pub where_ok : {V E P Q : Type 0} (result : Result V E) → (P → Q) → OnOk result P → OnOk result Q
where_ok (Ok value) f h = f h
where_ok (Err error) f h = h

pub follows_prepare : (old new : Floors) (d : ℕ) (b : Ballot) → Raises d b old.prepared.items new.prepared.items → new.offered.items ≡ old.offered.items → AddsMessage (PrepareFrom d b) old new
follows_prepare old new d b raised same = record {
  from_on = λ c.
      ap₂ (greatest_in (From c)) same (raised All None)
      ∙ behind (From c) old.offered.items b (greatest_in All old.prepared.items None);
  at = λ e.
      ap₂ (greatest_in (Only e)) same (raised (UpTo e) None)
      ∙ (elim (nat_le d e) as (λ t. greatest_in (Only e) old.offered.items (if t then greater b (greatest_in (UpTo e) old.prepared.items None) else greatest_in (UpTo e) old.prepared.items None) ≡ (if t then greater b (floor_at e old) else floor_at e old)) [
        | true ↦ behind (Only e) old.offered.items b (greatest_in (UpTo e) old.prepared.items None)
        | false ↦ refl
      ]);
}
