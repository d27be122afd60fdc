-- Lists of different nodes, and paths.
use Rattle.std.proofs.Common.{◌≡◌, ℕ, zero, suc, ◌<◌, Bool, true, false, not, ◌||◌, List, [], ◌∷◌, ◌++◌, Option, Some, None, Ok, refl, sym, ap, subst, ◌∙◌, arith}
use Rattle.std.specs.Prelude.{◌==◌, ◌↔◌, IfSome, IsSome}
use Rattle.std.proofs.lemmas.Bool.{eqb-true, eq-eqb, and_from, or_right, not-true}
use Rattle.topology.specs.Lists.{has}
use Rattle.topology.specs.Paths.{differ, IsPath}
use Rattle.topology.specs.declared.frame_faults.FrameKind.TheVariants as fault
use Rattle.wire_frames.specs.Formats.{◌>>=◌, held, many_at}
use Rattle.wire_frames.specs.Fields.{node, different, path_of}
use Rattle.wire_frames.proofs.Formats.{bind_ok, held_ok, ok_is}

pub different_read : (seen : List ℕ) (n : ℕ) (b0 b1 : List ℕ) → node.reads b0 ≡ Ok (n, b1) → has seen n ≡ false → (different.at seen).reads b0 ≡ Ok (n, b1)
different_read seen n b0 b1 read new = rw (read, new) refl

has_pushed : (seen : List ℕ) (n y : ℕ) → has seen y ≡ true → has (seen ++ n ∷ []) y ≡ true
has_pushed [] n y h = absurd cc
has_pushed (x ∷ xs) n y h = go (x == y) refl (λ later. has_pushed xs n y later) h
  where
    go : (b : Bool) → (x == y) ≡ b → (has xs y ≡ true → has (xs ++ n ∷ []) y ≡ true) → (b || has xs y) ≡ true → (b || has (xs ++ n ∷ []) y) ≡ true
    go true e later met = refl
    go false e later met = later met

has_last : (seen : List ℕ) (n : ℕ) → has (seen ++ n ∷ []) n ≡ true
has_last [] n = rw (eq-eqb n n refl) refl
has_last (x ∷ xs) n = or_right (x == n) (has (xs ++ n ∷ []) n) (has_last xs n)

apart_from : (seen xs : List ℕ) (n y : ℕ) → has seen n ≡ false → has seen y ≡ true → has xs y ≡ false → ((n == y) || has xs y) ≡ false
apart_from seen xs n y new old later = go (n == y) refl
  where
    go : (b : Bool) → (n == y) ≡ b → (b || has xs y) ≡ false
    go true e = let same : n ≡ y = eqb-true n y e in absurd (let both : false ≡ true = sym new ∙ ap (has seen) same ∙ old in cc)
    go false e = later

-- nodes that are read like this differ from each other and from those before
pub many_differ : (seen xs : List ℕ) (n : ℕ) (b rest : List ℕ) → many_at different seen n b ≡ Ok (xs, rest) → (differ xs ≡ true) × ((y : ℕ) → has seen y ≡ true → has xs y ≡ false)
many_differ seen xs zero b rest e =
    let same = ok_is ([], b) (xs, rest) e in
    subst (λ (p : List ℕ × List ℕ). (differ p.0 ≡ true) × ((y : ℕ) → has seen y ≡ true → has p.0 y ≡ false)) same (refl, λ y h. refl)
many_differ seen xs (suc n) b rest e =
    let a = bind_ok ((different.at seen).reads b) (λ (x : ℕ × List ℕ). many_at different (seen ++ x.0 ∷ []) n x.1 >>= λ (ys : List ℕ × List ℕ). Ok (x.0 ∷ ys.0, ys.1)) (xs, rest) e in
    let later = bind_ok (many_at different (seen ++ a.0.0 ∷ []) n a.0.1) (λ (ys : List ℕ × List ℕ). Ok (a.0.0 ∷ ys.0, ys.1)) (xs, rest) a.2 in
    let first = bind_ok (node.reads b) (λ (x : ℕ × List ℕ). held (not (has seen x.0)) fault.Order x) a.0 a.1 in
    let tested = held_ok (not (has seen first.0.0)) fault.Order first.0 a.0 first.2 in
    let new : has seen a.0.0 ≡ false = not-true (has seen a.0.0) (rw (← tested.1) tested.0) in
    let behind = many_differ (seen ++ a.0.0 ∷ []) later.0.0 n a.0.1 later.0.1 later.1 in
    let once : has later.0.0 a.0.0 ≡ false = behind.1 a.0.0 (has_last seen a.0.0) in
    let same = ok_is (a.0.0 ∷ later.0.0, later.0.1) (xs, rest) later.2 in
    subst (λ (p : List ℕ × List ℕ). (differ p.0 ≡ true) × ((y : ℕ) → has seen y ≡ true → has p.0 y ≡ false)) same (
      and_from (not (has later.0.0 a.0.0)) (differ later.0.0) (ap not once) behind.0,
      λ y h. apart_from seen later.0.0 a.0.0 y new h (behind.1 y (has_pushed seen a.0.0 y h)),
    )

-- the path that is made of different nodes
pub path_is : (xs : List ℕ) (r : Option (List ℕ)) → differ xs ≡ true → IfSome r (λ p. p ≡ xs) → (IsSome r ↔ IsPath xs) → path_of xs ≡ r
path_is [] None apart some made = refl
path_is [] (Some p) apart some made = let are : IsPath [] = made.0 refl in let long : 0 < 0 = are.some in absurd (omega arith)
path_is (x ∷ xs) None apart some made = let no_path : false ≡ true = made.1 (record { some = omega arith; different = apart }) in absurd cc
path_is (x ∷ xs) (Some p) apart some made = ap (λ (ys : List ℕ). Some ys) (sym some)
