-- What the calls read from a log.
use Rattle.std.proofs.Common.{ℕ, zero, suc, ◌+◌, ◌<◌, ◌≤◌, Bool, true, false, ◌&&◌, ◌==◌, nat_eq, not, ◌-◌, Option, Some, None, IsNone, List, [], ◌∷◌, ◌++◌, ◌≡◌, ◌⊎◌, inr, ⊎_elim, refl, sym, ◌∙◌, ap, subst, arith, length, length-append, slice_get, slice_index_or, nat_cmp, nat_lt, is_lt}
use Rattle.std.specs.Prelude.{if◌then◌else◌, IfSome, IfNone, ◌↔◌, IsTrue, is_some, is_none}
use Rattle.std.proofs.lemmas.Option.{same_Some, slice_get_read}
use Rattle.std.proofs.lemmas.Bool.Decides.{nat_tests}
use Rattle.trigger_log.specs.Entered.{all_entered}
use Rattle.std.specs.List.{AllZip}
use Rattle.topology.specs.Net.{Net, neighbours}
use Rattle.path_vector.specs.Rules.{Rules}
use Rattle.path_vector.specs.History.{last, held, opened, ready}
use Rattle.path_vector.specs.Kept.{IsOfNeighbour}
use Rattle.path_vector.specs.declared.causes.Cause.{Cause}
use Rattle.path_vector.specs.declared.causes.Cause.TheVariants.{Recv, Down, Up, Ready}
use Rattle.topology.specs.declared.names.Scope.{Scope}
use Rattle.topology.specs.declared.names.Scope.TheVariants.{One, All}
use Rattle.trigger_log.specs.declared.sessions.SessionMark.{SessionMark}
use Rattle.trigger_log.specs.Entries.{Entry, reads, inbox, is_session}
use Rattle.trigger_log.specs.Sending.{sent_count}
use Rattle.trigger_log.specs.Fits.{CauseFits, Fits}
use Rattle.trigger_log.specs.Sessions.{ever, Says, AreMarks, AreRows}
use Rattle.trigger_log.specs.Rows.{EndsWith}
use Rattle.topology.specs.Lists.{has}
use Rattle.trigger_log.proofs.Fresh.{fresh_outbox, fresh_close}
use Rattle.trigger_log.proofs.Newest.{ends_ever}
use Rattle.trigger_log.proofs.Speaking.{held_mark, ready_mark}
use Rattle.trigger_log.proofs.Zips.{zip_at, zip_end}

pub if_some : {A : Type 0} (P Q : A → Type 0) (r : Option A) → ((x : A) → P x → Q x) → IfSome r P → IfSome r Q
if_some P Q None step has = tt
if_some P Q (Some x) step has = step x has

pub if_none : {A : Type 0} (P Q : Type 0) (r : Option A) → (P → Q) → IfNone r P → IfNone r Q
if_none P Q None step has = step has
if_none P Q (Some x) step has = tt

module _ (rules : Rules) (net : Net) (u : ℕ) (h : List Entry) (rows : List (List SessionMark)) (fits : Fits h) (were : AreRows rules net u h rows) where
  -- the newest mark of a neighbour
  pub newest_mark : (w i : ℕ) (mark : SessionMark) → slice_get (neighbours net u) i ≡ Some w → ((row : List SessionMark) → slice_get rows i ≡ Some row → EndsWith row mark)
      → Says h w (last (reads h) w) (sent_count rules net u h w (last (reads h) w)) mark
  newest_mark w i mark at ends =
      let found = zip_at (AreMarks rules net u h) (neighbours net u) rows i w were at in
      let end = ends found.0 found.1 in
      let all = ends_ever h w fits in
      (zip_end (λ s mark. Says h w s (sent_count rules net u h w s) mark) all.older end.0 (last (reads h) w) mark
      (subst (λ l. AllZip (λ s mark. Says h w s (sent_count rules net u h w s) mark) l (end.0 ++ mark ∷ [])) all.is (subst (AllZip (λ s mark. Says h w s (sent_count rules net u h w s) mark) (ever h w)) end.1 found.2))).1

pub held_shown : (h : List Entry) (w n : ℕ) (mark : SessionMark) → Fits h → Says h w (last (reads h) w) n mark → (if is_none mark.down then Some mark.session else None) ≡ held (reads h) w
held_shown h w n mark fits says =
    ap (λ s. if is_none mark.down then Some s else None) says.session ∙ sym (held_mark h w n mark fits says)

some_if : (b : Bool) (s : ℕ) → is_some (if b then Some s else None) ≡ b
some_if true s = refl
some_if false s = refl

pub ready_shown : (h : List Entry) (w n : ℕ) (mark : SessionMark) → Fits h → Says h w (last (reads h) w) n mark → (is_none mark.down && mark.opened) ≡ is_some (ready (reads h) w)
ready_shown h w n mark fits says =
    sym (some_if (is_none mark.down && mark.opened) (last (reads h) w)) ∙ ap is_some (sym (ready_mark h w n mark fits says))

-- nothing was sent in a session that was never held
pub fresh_count : (rules : Rules) (net : Net) (u : ℕ) (h : List Entry) (w s : ℕ) → Fits h → has (ever h w) s ≡ false → sent_count rules net u h w s ≡ 0
fresh_count rules net u h w s fits never =
    let none = fresh_outbox rules net u h w s fits never in
    let open_still = fresh_close rules net u h w s fits never in
    rw (none, open_still) refl

none_some : {A : Type 0} (o : Option A) → is_none o ≡ not (is_some o)
none_some None = refl
none_some (Some x) = refl

-- no session is held with a neighbour whose newest session is closed
pub held_not : (h : List Entry) (w n : ℕ) (mark : SessionMark) → Fits h → Says h w (last (reads h) w) n mark → is_some mark.down ≡ true → held (reads h) w ≡ None
held_not h w n mark fits says closed =
    held_mark h w n mark fits says ∙ ap (λ b. if b then Some (last (reads h) w) else None) (none_some mark.down ∙ ap not closed)

pub held_yet : (h : List Entry) (w n : ℕ) (mark : SessionMark) → Fits h → Says h w (last (reads h) w) n mark → is_some mark.down ≡ false → held (reads h) w ≡ Some (last (reads h) w)
held_yet h w n mark fits says closed =
    held_mark h w n mark fits says ∙ ap (λ b. if b then Some (last (reads h) w) else None) (none_some mark.down ∙ ap not closed)

pub below : (a b c : ℕ) (r : Bool) (Q : Type 0) → r ≡ is_lt (nat_cmp a b) → a ≡ c → Q → (IsTrue r → Q × (c < b)) × (Q × (c < b) → IsTrue r)
below a b c r Q is same q = (
  λ yes. (q, let test : is_lt (nat_cmp a b) ≡ true = sym is ∙ yes in grind (arith, nat_tests)),
  λ both. is ∙ (let less = both.1 in grind (arith, nat_tests)),
)

-- ---- entries

pub zip_back : {A B : Type 0} (R : A → B → Type 0) (xs : List A) (ys : List B) (i : ℕ) (y : B) → AllZip R xs ys → slice_get ys i ≡ Some y → (x : A) × (slice_get xs i ≡ Some x) × R x y
zip_back R [] [] i y all at = absurd (cc at)
zip_back R [] (b ∷ ys) i y all at = absurd all
zip_back R (a ∷ xs) [] i y all at = absurd all
zip_back R (a ∷ xs) (b ∷ ys) zero y all at = (a, refl, subst (R a) (same_Some b y at) all.0)
zip_back R (a ∷ xs) (b ∷ ys) (suc i) y all at = zip_back R xs ys i y all.1 at

-- what `get` returns
pub got : {A B : Type 0} (read : B → A) (r : Option B) (xs : List A) (i : ℕ) → is_some r ≡ nat_lt i (length xs) → IfSome r (λ x. read x ≡ slice_index_or xs i (read x)) → IfSome r (λ x. slice_get xs i ≡ Some (read x))
got read None xs i within is = tt
got read (Some x) xs i within is = slice_get_read xs (length xs) i (read x) refl (grind (arith, nat_tests)) is

pub missing : {B : Type 0} (r : Option B) (n i place : ℕ) → is_some r ≡ nat_lt place n → 1 ≤ i → place ≡ i - 1 → (IsNone r → (i ≡ 0) ⊎ (n < i)) × ((i ≡ 0) ⊎ (n < i) → IsNone r)
missing None n i place within from is = (λ none. inr (let out : n ≤ place = grind (arith, nat_tests) in omega arith), λ past. refl)
missing (Some x) n i place within from is =
    (λ none. absurd (cc none), λ past. absurd (let inside : place < n = grind (arith, nat_tests) in ⊎_elim (λ (e : i ≡ 0). omega arith) (λ (e : n < i). omega arith) past))

pub count_steps : (h : List Entry) → length (all_entered h) ≡ length h
count_steps [] = refl
count_steps (k ∷ h) = let before = count_steps h in omega (arith, length-append (all_entered h) (record { before = h; entry = k } ∷ []))

-- ---- tests

pub holds_none : (a : Option ℕ) (s : ℕ) → a ≡ None → (IsTrue false → a ≡ Some s) × (a ≡ Some s → IsTrue false)
holds_none a s e = (λ yes. absurd (cc yes), λ f. absurd (cc (e, f)))

pub holds_some : (a : Option ℕ) (t s : ℕ) (r : Bool) → r ≡ nat_eq t s → a ≡ Some t → (IsTrue r → a ≡ Some s) × (a ≡ Some s → IsTrue r)
holds_some a t s r is e = (
  λ yes. let test : (t == s) ≡ true = sym is ∙ yes in let same : t ≡ s = grind (arith, nat_tests) in e ∙ ap (λ n. Some n) same,
  λ f. let same : t ≡ s = same_Some t s (sym e ∙ f) in is ∙ (let test : (t == s) ≡ true = grind (arith, nat_tests) in test),
)

pub next_over : (seq n m : ℕ) → seq < 4294967296 → (n + 1 < 4294967296 → ⊥) → n ≡ m → (IsTrue false → seq ≡ suc m) × (seq ≡ suc m → IsTrue false)
next_over seq n m small over same = (λ yes. absurd (cc yes), λ e. absurd (over (omega arith)))

pub next_is : (x seq n m : ℕ) → x ≡ n + 1 → n ≡ m → (IsTrue (nat_eq x seq) → seq ≡ suc m) × (seq ≡ suc m → IsTrue (nat_eq x seq))
next_is x seq n m is same = (
  λ yes. let test : (x == seq) ≡ true = yes in let e : x ≡ seq = grind (arith, nat_tests) in omega arith,
  λ e. let both : x ≡ seq = omega arith in let test : (x == seq) ≡ true = grind (arith, nat_tests) in test,
)

-- whether a held session is ready is whether the other end has opened it
ready_test : (h : List Entry) (w s : ℕ) → held (reads h) w ≡ Some s → is_some (ready (reads h) w) ≡ opened (reads h) w s
ready_test h w s e = rw e (some_if (opened (reads h) w s) s)

not_is : (r o : Bool) → r ≡ o → (IsTrue (not r) → o ≡ false) × (o ≡ false → IsTrue (not r))
not_is true o e = (λ yes. absurd (cc yes), λ f. absurd (cc (e, f)))
not_is false o e = (λ yes. sym e, λ f. refl)

-- ---- which entry fits

module _ (net : Net) (u : ℕ) (h : List Entry) (cause : Cause) (near : IsOfNeighbour net u cause) where
  pub near_of : (c : Cause) → cause ≡ c → IsOfNeighbour net u c
  near_of c is = subst (IsOfNeighbour net u) is near

  fits_as : (scope : Scope) (c : Cause) (r : Bool) → cause ≡ c → IsTrue r ↔ CauseFits h scope c → IsTrue r ↔ CauseFits h scope cause
  fits_as scope c r is both = subst (λ x. IsTrue r ↔ CauseFits h scope x) (sym is) both

  pub fits_recv : (p v s seq : ℕ) (path : Option (List ℕ)) (holds next : Bool) → cause ≡ Recv v s seq path → IsTrue holds ↔ (held (reads h) v ≡ Some s) → holds ≡ true
      → IsTrue next ↔ (seq ≡ suc (length (inbox h v s))) → IsTrue next ↔ CauseFits h (One p) cause
  fits_recv p v s seq path holds next is of so follows =
      fits_as (One p) (Recv v s seq path) next is (λ t. (of.0 so, follows.0 t), λ f. follows.1 f.1)

  pub fits_recv_not : (p v s seq : ℕ) (path : Option (List ℕ)) (holds : Bool) → cause ≡ Recv v s seq path → IsTrue holds ↔ (held (reads h) v ≡ Some s) → holds ≡ false
      → IsTrue holds ↔ CauseFits h (One p) cause
  fits_recv_not p v s seq path holds is of not_so =
      fits_as (One p) (Recv v s seq path) holds is (λ t. absurd (cc (t, not_so)), λ f. of.1 f.0)

  pub fits_down : (v s : ℕ) (holds : Bool) → cause ≡ Down v s → IsTrue holds ↔ (held (reads h) v ≡ Some s) → IsTrue holds ↔ CauseFits h All cause
  fits_down v s holds is of = fits_as All (Down v s) holds is of

  pub fits_up : (v s : ℕ) (opens : Bool) → cause ≡ Up v s → IsTrue opens ↔ ((held (reads h) v ≡ None) × (last (reads h) v < s)) → IsTrue opens ↔ CauseFits h All cause
  fits_up v s opens is of = fits_as All (Up v s) opens is of

  pub fits_ready : (v s : ℕ) (holds now : Bool) → cause ≡ Ready v s → IsTrue holds ↔ (held (reads h) v ≡ Some s) → holds ≡ true → now ≡ is_some (ready (reads h) v)
      → IsTrue (not now) ↔ CauseFits h All cause
  fits_ready v s holds now is of so shown =
      let is_held = of.0 so in
      let test = not_is now (opened (reads h) v s) (shown ∙ ready_test h v s is_held) in
      fits_as All (Ready v s) (not now) is (λ t. (is_held, test.0 t), λ f. test.1 f.1)

  pub fits_ready_not : (v s : ℕ) (holds : Bool) → cause ≡ Ready v s → IsTrue holds ↔ (held (reads h) v ≡ Some s) → holds ≡ false → IsTrue holds ↔ CauseFits h All cause
  fits_ready_not v s holds is of not_so = fits_as All (Ready v s) holds is (λ t. absurd (cc (t, not_so)), λ f. of.1 f.0)

-- a value that is kept only in one case
kept_is : (b : Bool) (x t : ℕ) → Some t ≡ (if b then Some x else None) → x ≡ t
kept_is true x t is = cc is
kept_is false x t is = absurd (cc is)

module _ (h : List Entry) (w s n : ℕ) (mark : SessionMark) (fits : Fits h) (says : Says h w (last (reads h) w) n mark) where
  -- no session is held
  pub received_in_none : None ≡ (if is_none mark.down then Some mark.session else None)
      → None ≡ (if is_session (held (reads h) w) s then Some (length (inbox h w s)) else None)
  received_in_none is =
      let none : held (reads h) w ≡ None = sym (held_shown h w n mark fits says) ∙ sym is in
      rw none refl

  module _ (t : ℕ) (is : Some t ≡ (if is_none mark.down then Some mark.session else None)) (b : Bool) (test : b ≡ (t == s)) where
    -- another one is
    pub received_in_other : b ≡ false → None ≡ (if is_session (held (reads h) w) s then Some (length (inbox h w s)) else None)
    received_in_other other =
        let holds : held (reads h) w ≡ Some t = sym (held_shown h w n mark fits says) ∙ sym is in
        let differs : (t == s) ≡ false = sym test ∙ other in
        rw holds (rw differs refl)

    -- this one is
    pub received_in_same : b ≡ true → Some mark.received ≡ (if is_session (held (reads h) w) s then Some (length (inbox h w s)) else None)
    received_in_same same =
        let holds : held (reads h) w ≡ Some t = sym (held_shown h w n mark fits says) ∙ sym is in
        let equal : (t == s) ≡ true = sym test ∙ same in
        let number : t ≡ s = grind (arith, nat_tests) in
        let newest : last (reads h) w ≡ s = sym says.session ∙ (kept_is (is_none mark.down) mark.session t is ∙ number) in
        rw holds (rw equal (ap (λ (k : ℕ). Some k) (subst (λ z. mark.received ≡ length (inbox h w z)) newest says.received)))
