-- Finding a mark among the marks.
use Rattle.std.proofs.Common.{◌≡◌, ◌<◌, ◌==◌, ◌&&◌, false, ℕ, zero, suc, List, [], ◌∷◌, length, get_or, subst, inl, inr, arith, Option, Some, None}
use Rattle.std.specs.Prelude.{MatchOption, IfSome, IfNone}
use Rattle.std.specs.List.{AllWithin, HoldsAt}
use Rattle.std.proofs.lemmas.Bool.Decides.{nat_tests}
use Rattle.topology.specs.Lists.{Among}
use Rattle.trigger_log.specs.declared.sessions.SessionMark.{SessionMark}

among_at : (xs : List SessionMark) (i : ℕ) (x : SessionMark) → i < length xs → get_or xs i x ≡ x → Among x xs
among_at [] i x h e = absurd (omega arith)
among_at (y ∷ xs) zero x h e = inl e
among_at (y ∷ xs) (suc i) x h e = inr (among_at xs i x (omega arith) e)

index_of : (xs : List SessionMark) (x : SessionMark) → Among x xs → (i : ℕ) × (i < length xs) × (get_or xs i x ≡ x)
index_of [] x a = absurd a
index_of (y ∷ xs) x (inl e) = (0, omega arith, e)
index_of (y ∷ xs) x (inr a) = let more = index_of xs x a in (suc more.0, omega (arith, more.1), more.2)

-- the mark is that of session s with w, or it is not
abbrev pub Is : ℕ → ℕ → SessionMark → Type 0
Is w s mark = (mark.nbr ≡ w) × (mark.session ≡ s)

abbrev pub IsNot : ℕ → ℕ → SessionMark → Type 0
IsNot w s mark = (mark.nbr == w && mark.session == s) ≡ false

abbrev pub Finds : {B : Type 0} → (B → SessionMark) → Option B → List SessionMark → ℕ → ℕ → Type 0
Finds read r marks w s = MatchOption r (AllWithin (IsNot w s) marks 0 (length marks))
    (λ x. Is w s (read x) × (i : ℕ) × (i < length marks) × HoldsAt (λ y. y ≡ read x) marks i × AllWithin (IsNot w s) marks 0 i)

pub found : {B : Type 0} (read : B → SessionMark) (r : Option B) (w s : ℕ) (marks rows : List SessionMark) → marks ≡ rows → Finds read r marks w s
    → IfSome r (λ x. ((read x).nbr ≡ w) × ((read x).session ≡ s) × Among (read x) rows)
found read None w s marks rows is f = tt
found read (Some x) w s marks rows is f = (f.0.0, f.0.1, rw (← is) (among_at marks f.1 (read x) f.2 (f.3 (read x))))

pub unfound : {B : Type 0} (read : B → SessionMark) (r : Option B) (w s : ℕ) (marks rows : List SessionMark) → marks ≡ rows → Finds read r marks w s
    → IfNone r ((mark : SessionMark) → Among mark rows → mark.nbr ≡ w → mark.session ≡ s → ⊥)
unfound read None w s marks rows is f = λ mark a is_w is_s.
    let at = index_of marks mark (rw is a) in
    let off = f at.0 mark (omega arith) at.1 in
    let here : IsNot w s mark = subst (IsNot w s) at.2 off in
    grind (arith, nat_tests)
unfound read (Some x) w s marks rows is f = tt
