-- The invariant of a search: all targets of the vertices that had their turn were reached.
use Rattle.std.proofs.Common.{ℕ, zero, suc, ◌+◌, ◌-◌, ◌<◌, ◌≤◌, ◌≢◌, Bool, true, false, List, [], ◌∷◌, ◌++◌, length, get_or, set, replicate, slice_get, Option, Some, None, ◌≡◌, ◌⊎◌, inl, inr, refl, sym, ◌∙◌, ap, subst, arith, if◌then◌else◌, ◌↔◌}
use Rattle.std.proofs.lemmas.Bool.{cases_eq, cases_lt}
use Rattle.std.proofs.lemmas.List.{get_or-set_same, get_or-set_other, length-set, length-append, length-replicate}
use Rattle.std.proofs.lemmas.Option.{slice_get_within}
use Rattle.topology.specs.Lists.{Among}
use Rattle.incomplete_closure.specs.Graphs.{led_from, edges, IsKept, Trail, has_seen, enter, enter_all, Differ, IsReached}
use Rattle.incomplete_closure.proofs.Listing.{each_at, in_front, at_end, in_either}

-- ---- one vertex enters

-- by parts
abbrev pub seen_as : List Bool → List ℕ → Trail
seen_as seen order = record { seen = seen; order = order }

-- a vertex below n was reached
abbrev pub SeenBelow : ℕ → Trail → ℕ → Type 0
SeenBelow n reached w = w < n → has_seen reached w ≡ true

-- all vertices below n of the list were
abbrev pub AllSeen : ℕ → Trail → List ℕ → Type 0
AllSeen n reached ws = (w : ℕ) → Among w ws → SeenBelow n reached w

-- the reached vertices are those of the list, each once
pub record Fits (n : ℕ) (reached : Trail) : Type 0 where
  pub all : length reached.seen ≡ n
  pub entered : (v : ℕ) → Among v reached.order ↔ (has_seen reached v ≡ true)
  pub once : Differ reached.order

within : (seen : List Bool) (v : ℕ) → get_or seen v false ≡ true → v < length seen
within [] v e = absurd (cc e)
within (b ∷ seen) zero e = omega arith
within (b ∷ seen) (suc v) e = let more = within seen v e in omega arith

-- not reached before
fresh_is : (seen : List Bool) (v : ℕ) → get_or seen v true ≡ false → (v < length seen) × (get_or seen v false ≡ false)
fresh_is [] v e = absurd (cc e)
fresh_is (b ∷ seen) zero e = (omega arith, e)
fresh_is (b ∷ seen) (suc v) e = let more = fresh_is seen v e in (let up = more.0 in omega arith, more.1)

seen_is : (seen : List Bool) (v : ℕ) → get_or seen v true ≡ true → v < length seen → get_or seen v false ≡ true
seen_is [] v e up = absurd (omega arith)
seen_is (b ∷ seen) zero e up = e
seen_is (b ∷ seen) (suc v) e up = seen_is seen v e (omega arith)

-- marking one more keeps those that were reached
seen_kept : (seen : List Bool) (v w : ℕ) → get_or seen w false ≡ true → get_or (set seen v true) w false ≡ true
seen_kept [] v w e = e
seen_kept (b ∷ seen) zero zero e = refl
seen_kept (b ∷ seen) zero (suc w) e = e
seen_kept (b ∷ seen) (suc v) zero e = e
seen_kept (b ∷ seen) (suc v) (suc w) e = seen_kept seen v w e

seen_new : (seen : List Bool) (v : ℕ) → v < length seen → get_or (set seen v true) v false ≡ true
seen_new [] v up = absurd (omega arith)
seen_new (b ∷ seen) zero up = refl
seen_new (b ∷ seen) (suc v) up = seen_new seen v (omega arith)

seen_either : (seen : List Bool) (v w : ℕ) → get_or (set seen v true) w false ≡ true → (v ≡ w) ⊎ (get_or seen w false ≡ true)
seen_either [] v w e = inr e
seen_either (b ∷ seen) zero zero e = inl refl
seen_either (b ∷ seen) zero (suc w) e = inr e
seen_either (b ∷ seen) (suc v) zero e = inr e
seen_either (b ∷ seen) (suc v) (suc w) e = up (seen_either seen v w e)
  where
    up : (v ≡ w) ⊎ (get_or seen w false ≡ true) → (suc v ≡ suc w) ⊎ (get_or seen w false ≡ true)
    up (inl f) = inl (ap suc f)
    up (inr f) = inr f

-- one more at the end, which was not there
differ_more : (xs : List ℕ) (v : ℕ) → Differ xs → (Among v xs → ⊥) → Differ (xs ++ v ∷ [])
differ_more [] v d new = ((λ a. a), tt)
differ_more (x ∷ xs) v d new = (
  λ a. either (in_either x xs (v ∷ []) a),
  differ_more xs v d.1 (λ a. new (inr a)),
)
  where
    last : (v ≡ x) ⊎ ⊥ → ⊥
    last (inl e) = new (inl (sym e))
    last (inr a) = a

    either : Among x xs ⊎ Among x (v ∷ []) → ⊥
    either (inl a) = d.0 a
    either (inr a) = last a

-- what entering one vertex does
pub record Entered (n : ℕ) (before after : Trail) (vs : List ℕ) : Type 0 where
  pub fits : Fits n after
  pub kept : (w : ℕ) → has_seen before w ≡ true → has_seen after w ≡ true
  pub there : AllSeen n after vs
  pub either : (w : ℕ) → has_seen after w ≡ true → Among w vs ⊎ (has_seen before w ≡ true)
  pub longer : length after.order ≤ length before.order + length vs
  pub front : (i v : ℕ) → slice_get before.order i ≡ Some v → slice_get after.order i ≡ Some v

not_true : {b : Bool} → b ≡ true → b ≡ false → ⊥
not_true e f = cc (sym e ∙ f)

slice_front : (xs ys : List ℕ) (i v : ℕ) → slice_get xs i ≡ Some v → slice_get (xs ++ ys) i ≡ Some v
slice_front [] ys i v e = absurd (cc e)
slice_front (x ∷ xs) ys zero v e = e
slice_front (x ∷ xs) ys (suc i) v e = slice_front xs ys i v e

fits_more : (n : ℕ) (before : Trail) (v : ℕ) → Fits n before → v < n → has_seen before v ≡ false → Fits n (seen_as (set before.seen v true) (before.order ++ v ∷ []))
fits_more n before v fits up new = record {
  all = length-set before.seen v true ∙ fits.all;
  entered = λ w. (there w, back w);
  once = differ_more before.order v fits.once (λ a. not_true ((fits.entered v).0 a) new);
}
  where
    there : (w : ℕ) → Among w (before.order ++ v ∷ []) → get_or (set before.seen v true) w false ≡ true
    there w a = go (in_either w before.order (v ∷ []) a)
      where
        go : Among w before.order ⊎ Among w (v ∷ []) → get_or (set before.seen v true) w false ≡ true
        go (inl b) = seen_kept before.seen v w ((fits.entered w).0 b)
        go (inr (inl e)) = subst (λ z. get_or (set before.seen v true) z false ≡ true) e (seen_new before.seen v (subst (λ m. v < m) (sym fits.all) up))
        go (inr (inr b)) = absurd b

    back : (w : ℕ) → get_or (set before.seen v true) w false ≡ true → Among w (before.order ++ v ∷ [])
    back w e = go (seen_either before.seen v w e)
      where
        go : (v ≡ w) ⊎ (get_or before.seen w false ≡ true) → Among w (before.order ++ v ∷ [])
        go (inl f) = at_end w before.order (v ∷ []) (inl f)
        go (inr f) = in_front w before.order (v ∷ []) ((fits.entered w).1 f)

one_longer : (xs : List ℕ) (v : ℕ) → length (xs ++ v ∷ []) ≤ length xs + 1
one_longer xs v = let e = length-append xs (v ∷ []) in omega arith

at_most_more : (m : ℕ) → m ≤ m + 1
at_most_more m = omega arith

entered_one : (n : ℕ) (before : Trail) (v : ℕ) → Fits n before → Entered n before (enter before v) (v ∷ [])
entered_one n before v fits =
    (elim (get_or before.seen v true) as (λ b. get_or before.seen v true ≡ b → Entered n before (if b then before else seen_as (set before.seen v true) (before.order ++ v ∷ [])) (v ∷ [])) [
      | true ↦ λ e. old e
      | false ↦ λ e. new e
    ]) refl
  where
    old : get_or before.seen v true ≡ true → Entered n before before (v ∷ [])
    old e = record {
      fits = fits;
      kept = λ w f. f;
      there = λ w a up. same w a up;
      either = λ w f. inr f;
      longer = at_most_more (length before.order);
      front = λ i w f. f;
    }
      where
        same : (w : ℕ) → (v ≡ w) ⊎ ⊥ → w < n → has_seen before w ≡ true
        same w (inl f) up = seen_is before.seen w (subst (λ z. get_or before.seen z true ≡ true) f e) (subst (λ m. w < m) (sym fits.all) up)
        same w (inr a) up = absurd a

    new : get_or before.seen v true ≡ false → Entered n before (seen_as (set before.seen v true) (before.order ++ v ∷ [])) (v ∷ [])
    new e =
        let is = fresh_is before.seen v e in
        record {
          fits = fits_more n before v fits (subst (λ m. v < m) fits.all is.0) is.1;
          kept = λ w f. seen_kept before.seen v w f;
          there = λ w a up. same w a;
          either = λ w f. went w (seen_either before.seen v w f);
          longer = one_longer before.order v;
          front = λ i w f. slice_front before.order (v ∷ []) i w f;
        }
      where
        same : (w : ℕ) → (v ≡ w) ⊎ ⊥ → get_or (set before.seen v true) w false ≡ true
        same w (inl f) = subst (λ z. get_or (set before.seen v true) z false ≡ true) f (seen_new before.seen v (fresh_is before.seen v e).0)
        same w (inr a) = absurd a

        went : (w : ℕ) → (v ≡ w) ⊎ (get_or before.seen w false ≡ true) → ((v ≡ w) ⊎ ⊥) ⊎ (get_or before.seen w false ≡ true)
        went w (inl f) = inl (inl f)
        went w (inr f) = inr f

-- one after another
both_longer : (a b c m : ℕ) → b ≤ a + 1 → c ≤ b + m → c ≤ a + (suc m)
both_longer a b c m f g = omega arith

no_longer : (m : ℕ) → m ≤ m + 0
no_longer m = omega arith

pub entered_all : (n : ℕ) (before : Trail) (vs : List ℕ) → Fits n before → Entered n before (enter_all before vs) vs
entered_all n before [] fits = record {
  fits = fits;
  kept = λ w f. f;
  there = λ w a up. absurd a;
  either = λ w f. inr f;
  longer = no_longer (length before.order);
  front = λ i w f. f;
}
entered_all n before (v ∷ vs) fits =
    let one = entered_one n before v fits in
    let more = entered_all n (enter before v) vs one.fits in
    record {
      fits = more.fits;
      kept = λ w f. more.kept w (one.kept w f);
      there = λ w a up. here one more w a up;
      either = λ w f. went one w (more.either w f);
      longer = both_longer (length before.order) (length (enter before v).order) (length (enter_all (enter before v) vs).order) (length vs) one.longer more.longer;
      front = λ i w f. more.front i w (one.front i w f);
    }
  where
    here : Entered n before (enter before v) (v ∷ []) → Entered n (enter before v) (enter_all (enter before v) vs) vs → (w : ℕ) → (v ≡ w) ⊎ Among w vs → SeenBelow n (enter_all (enter before v) vs) w
    here one more w (inl e) up = more.kept w (one.there w (inl e) up)
    here one more w (inr a) up = more.there w a up

    further : (w : ℕ) → ((v ≡ w) ⊎ ⊥) ⊎ (has_seen before w ≡ true) → ((v ≡ w) ⊎ Among w vs) ⊎ (has_seen before w ≡ true)
    further w (inl (inl e)) = inl (inl e)
    further w (inl (inr a)) = absurd a
    further w (inr f) = inr f

    went : Entered n before (enter before v) (v ∷ []) → (w : ℕ) → Among w vs ⊎ (has_seen (enter before v) w ≡ true) → ((v ≡ w) ⊎ Among w vs) ⊎ (has_seen before w ≡ true)
    went one w (inl a) = inl (inr a)
    went one w (inr f) = further w (one.either w f)

-- ---- the search

-- all vertices of the list are in the set
abbrev pub Holding : (ℕ → Bool) → List ℕ → Type 0
Holding inside ws = (w : ℕ) → Among w ws → inside w ≡ true

-- after this many turns: what is left of the graph, and what was reached
pub record Going (graph : List (List ℕ)) (roots : List ℕ) (rest : List (List ℕ)) (reached : Trail) (turn : ℕ) : Type 0 where
  pub fits : Fits (length graph) reached
  pub same : length rest ≡ length graph
  pub begun : AllSeen (length graph) reached roots
  pub least : (inside : ℕ → Bool) → IsKept inside graph → Holding inside roots → (v : ℕ) → has_seen reached v ≡ true → inside v ≡ true
  pub left : (v : ℕ) → (led_from rest v ≡ led_from graph v) ⊎ ((led_from rest v ≡ []) × AllSeen (length graph) reached (led_from graph v))
  pub done : (i v : ℕ) → i < turn → slice_get reached.order i ≡ Some v → AllSeen (length graph) reached (led_from graph v)
  pub turns : turn ≤ length reached.order

-- before the first turn
none_seen : (n v : ℕ) → get_or (replicate n false) v false ≡ false
none_seen zero v = refl
none_seen (suc n) zero = refl
none_seen (suc n) (suc v) = none_seen n v

pub none_yet : (n : ℕ) → Fits n (seen_as (replicate n false) [])
none_yet n = record { all = length-replicate n false; entered = λ v. ((λ a. absurd a), λ e. absurd (not_true e (none_seen n v))); once = tt }

pub going_first : (graph : List (List ℕ)) (roots : List ℕ) (reached : Trail) → reached ≡ enter_all (seen_as (replicate (length graph) false) []) roots → Going graph roots graph reached 0
going_first graph roots reached is = subst (λ z. Going graph roots graph z 0) (sym is) first
  where
    below_none : (i : ℕ) → i < 0 → ⊥
    below_none i h = omega arith

    roots_only : (inside : ℕ → Bool) → Holding inside roots → (v : ℕ) → Among v roots ⊎ (get_or (replicate (length graph) false) v false ≡ true) → inside v ≡ true
    roots_only inside first v (inl a) = first v a
    roots_only inside first v (inr f) = absurd (not_true f (none_seen (length graph) v))

    one : Entered (length graph) (seen_as (replicate (length graph) false) []) (enter_all (seen_as (replicate (length graph) false) []) roots) roots
    one = entered_all (length graph) (seen_as (replicate (length graph) false) []) roots (none_yet (length graph))

    first : Going graph roots graph (enter_all (seen_as (replicate (length graph) false) []) roots) 0
    first = record {
      fits = one.fits;
      same = refl;
      begun = one.there;
      least = λ inside kept held v e. roots_only inside held v (one.either v e);
      left = λ v. inl refl;
      done = λ i v h e. absurd (below_none i h);
      turns = omega arith;
    }

-- ---- one turn

at_is : (xs : List ℕ) (i v : ℕ) → slice_get xs i ≡ Some v → Among v xs
at_is [] i v e = absurd (cc e)
at_is (x ∷ xs) zero v e = let is : x ≡ v = cc e in inl is
at_is (x ∷ xs) (suc i) v e = inr (at_is xs i v e)

is_at : (xs : List ℕ) (v : ℕ) → Among v xs → (i : ℕ) × (slice_get xs i ≡ Some v)
is_at [] v a = absurd a
is_at (x ∷ xs) v (inl e) = (0, ap Some e)
is_at (x ∷ xs) v (inr a) = let more = is_at xs v a in (suc more.0, more.1)

below_at : (xs : List ℕ) (i : ℕ) → i < length xs → (v : ℕ) × (slice_get xs i ≡ Some v)
below_at [] i h = absurd (omega arith)
below_at (x ∷ xs) zero h = (x, refl)
below_at (x ∷ xs) (suc i) h = below_at xs i (omega arith)

all_kept : (n : ℕ) (before after : Trail) (ws : List ℕ) → ((w : ℕ) → has_seen before w ≡ true → has_seen after w ≡ true) → AllSeen n before ws → AllSeen n after ws
all_kept n before after ws kept all w a up = kept w (all w a up)

same_value : (o : Option ℕ) (u v : ℕ) → o ≡ Some u → o ≡ Some v → u ≡ v
same_value o u v e f = cc (sym e ∙ f)

less_or : (i turn : ℕ) → i < turn + 1 → (i < turn) ⊎ (i ≡ turn)
less_or i turn h = search (arith, cases_lt)

module _ (graph : List (List ℕ)) (roots : List ℕ) (rest : List (List ℕ)) (reached : Trail) (turn v : ℕ) (g : Going graph roots rest reached turn) (at : slice_get reached.order turn ≡ Some v) where
  abbrev targets : List ℕ
  targets = led_from rest v

  abbrev after : Trail
  after = enter_all reached targets

  went : Entered (length graph) reached after targets
  went = entered_all (length graph) reached targets g.fits

  here : has_seen reached v ≡ true
  here = (g.fits.entered v).0 (at_is reached.order turn v at)

  pub in_rest : v < length rest
  in_rest = subst (λ m. v < m) (g.fits.all ∙ sym g.same) (within reached.seen v here)

  -- all targets of the vertex are reached now
  all_here : AllSeen (length graph) after (led_from graph v)
  all_here = either (g.left v)
    where
      either : (led_from rest v ≡ led_from graph v) ⊎ ((led_from rest v ≡ []) × AllSeen (length graph) reached (led_from graph v)) → AllSeen (length graph) after (led_from graph v)
      either (inl e) = subst (λ ws. AllSeen (length graph) after ws) e went.there
      either (inr f) = all_kept (length graph) reached after (led_from graph v) went.kept f.1

  new_inside : (inside : ℕ → Bool) → IsKept inside graph → Holding inside roots → (w : ℕ) → Among w targets → inside w ≡ true
  new_inside inside kept first w a = either (g.left v)
    where
      either : (led_from rest v ≡ led_from graph v) ⊎ ((led_from rest v ≡ []) × AllSeen (length graph) reached (led_from graph v)) → inside w ≡ true
      either (inl e) = each_at (λ u. inside u ≡ true) (led_from graph v) w (kept v (g.least inside kept first v here)) (subst (λ ws. Among w ws) e a)
      either (inr f) = absurd (subst (λ ws. Among w ws) f.0 a)

  still_least : (inside : ℕ → Bool) → IsKept inside graph → Holding inside roots → (w : ℕ) → has_seen after w ≡ true → inside w ≡ true
  still_least inside kept first w e = either (went.either w e)
    where
      either : Among w targets ⊎ (has_seen reached w ≡ true) → inside w ≡ true
      either (inl a) = new_inside inside kept first w a
      either (inr f) = g.least inside kept first w f

  abbrev LeftAt : ℕ → Type 0
  LeftAt u = (led_from (set rest v []) u ≡ led_from graph u) ⊎ ((led_from (set rest v []) u ≡ []) × AllSeen (length graph) after (led_from graph u))

  still_left : (u : ℕ) → LeftAt u
  still_left u = split (cases_eq u v)
    where
      either : u ≢ v → (led_from rest u ≡ led_from graph u) ⊎ ((led_from rest u ≡ []) × AllSeen (length graph) reached (led_from graph u)) → LeftAt u
      either other (inl e) = inl (get_or-set_other rest v u [] [] other ∙ e)
      either other (inr f) = inr (get_or-set_other rest v u [] [] other ∙ f.0, all_kept (length graph) reached after (led_from graph u) went.kept f.1)

      split : (u ≡ v) ⊎ (u ≢ v) → LeftAt u
      split (inl e) = subst LeftAt (sym e) (inr (get_or-set_same rest v [] [] in_rest, all_here))
      split (inr other) = either other (g.left u)

  still_done : (i u : ℕ) → i < turn + 1 → slice_get after.order i ≡ Some u → AllSeen (length graph) after (led_from graph u)
  still_done i u h e = split (less_or i turn h)
    where
      earlier : (w : ℕ) × (slice_get reached.order i ≡ Some w) → i < turn → AllSeen (length graph) after (led_from graph u)
      earlier (w, f) up =
          let is : u ≡ w = same_value (slice_get after.order i) u w e (went.front i w f) in
          all_kept (length graph) reached after (led_from graph u) went.kept (g.done i u up (f ∙ ap Some (sym is)))

      below : i < turn → turn ≤ length reached.order → i < length reached.order
      below a b = omega arith

      split : (i < turn) ⊎ (i ≡ turn) → AllSeen (length graph) after (led_from graph u)
      split (inl up) = earlier (below_at reached.order i (below up g.turns)) up
      split (inr is) =
          let same : v ≡ u = same_value (slice_get after.order turn) v u (went.front turn v at) (subst (λ j. slice_get after.order j ≡ Some u) is e) in
          subst (λ z. AllSeen (length graph) after (led_from graph z)) same all_here

  pub going_on : Going graph roots (set rest v []) after (turn + 1)
  going_on = record {
    fits = went.fits;
    same = length-set rest v [] ∙ g.same;
    begun = all_kept (length graph) reached after roots went.kept g.begun;
    least = still_least;
    left = still_left;
    done = still_done;
    turns = let up = slice_get_within after.order turn v (went.front turn v at) in omega arith;
  }

-- after the last turn
pub going_last : (graph : List (List ℕ)) (roots : List ℕ) (rest : List (List ℕ)) (reached : Trail) (turn : ℕ) → Going graph roots rest reached turn → slice_get reached.order turn ≡ None → IsReached graph roots reached
going_last graph roots rest reached turn g none = record {
  begun = g.begun;
  led = λ v w e a up. let i = is_at reached.order v ((g.fits.entered v).1 e) in g.done i.0 v (below i.0 v i.1) i.1 w a up;
  least = g.least;
  entered = g.fits.entered;
  once = g.fits.once;
}
  where
    past : (xs : List ℕ) (i : ℕ) → slice_get xs i ≡ None → length xs ≤ i
    past [] i e = omega arith
    past (x ∷ xs) zero e = absurd (cc e)
    past (x ∷ xs) (suc i) e = let more = past xs i e in omega arith

    less : (a b c : ℕ) → a < b → b ≤ c → a < c
    less a b c h k = omega arith

    below : (i v : ℕ) → slice_get reached.order i ≡ Some v → i < turn
    below i v e = less i (length reached.order) turn (slice_get_within reached.order i v e) (past reached.order turn none)

-- ---- the bound

-- removing one list leaves that many edges fewer
pub edges_less : (graph : List (List ℕ)) (v : ℕ) → edges (set graph v []) + length (led_from graph v) ≡ edges graph
unfolding edges
edges_less [] v = refl
edges_less (ws ∷ graph) zero = omega arith
edges_less (ws ∷ graph) (suc v) = let more = edges_less graph v in omega arith

-- ---- one turn, in the form of the code

-- what a turn removes from the graph
pub record Turned (rest rest' : List (List ℕ)) (v : ℕ) (ws : List ℕ) : Type 0 where
  pub rest_is : rest' ≡ set rest v []
  pub targets_are : ws ≡ led_from rest v

pub turned_on : (graph : List (List ℕ)) (roots : List ℕ) (rest rest' : List (List ℕ)) (reached reached' : Trail) (turn v : ℕ) (ws : List ℕ) → Going graph roots rest reached turn → slice_get reached.order turn ≡ Some v → Turned rest rest' v ws
    → reached' ≡ enter_all reached ws → Going graph roots rest' reached' (turn + 1)
turned_on graph roots rest rest' reached reached' turn v ws g at t e =
    subst (λ z. Going graph roots z reached' (turn + 1)) (sym t.rest_is)
    (subst (λ z. Going graph roots (set rest v []) z (turn + 1)) (sym (e ∙ ap (enter_all reached) t.targets_are))
    (going_on graph roots rest reached turn v g at))

-- the removed list shrinks the graph by its length
pub edges_taken : (rest rest' : List (List ℕ)) (v : ℕ) (ws : List ℕ) → Turned rest rest' v ws → edges rest' + length ws ≡ edges rest
edges_taken rest rest' v ws t = ap (λ z. edges z + length ws) t.rest_is ∙ (ap (λ z. edges (set rest v []) + length z) t.targets_are ∙ edges_less rest v)

measure_less : (a b l t m n : ℕ) → b ≤ a + l → m + l ≡ n → t < a → (b - (t + 1)) + m < (a - t) + n
measure_less a b l t m n f e up = omega arith

-- the remaining turns and edges decrease
pub turned_less : (graph : List (List ℕ)) (roots : List ℕ) (rest rest' : List (List ℕ)) (reached reached' : Trail) (turn v : ℕ) (ws : List ℕ) → Going graph roots rest reached turn → slice_get reached.order turn ≡ Some v → Turned rest rest' v ws
    → reached' ≡ enter_all reached ws → (length reached'.order - (turn + 1)) + edges rest' < (length reached.order - turn) + edges rest
turned_less graph roots rest rest' reached reached' turn v ws g at t e =
    subst (λ z. (length z.order - (turn + 1)) + edges rest' < (length reached.order - turn) + edges rest) (sym e)
    (measure_less (length reached.order) (length (enter_all reached ws).order) (length ws) turn (edges rest') (edges rest)
    (entered_all (length graph) reached ws g.fits).longer (edges_taken rest rest' v ws t) (slice_get_within reached.order turn v at))

-- the steps taken, and the edges left
pub steps_on : (s t a b n m l : ℕ) → t ≤ s + l → b + l ≡ a → s + a ≤ n + m → t + b ≤ n + m
steps_on s t a b n m l f e g = omega arith

pub steps_end : (s t a b n m l : ℕ) → t ≤ s + l → b + l ≡ a → s + a ≤ n + m → t ≤ n + m
steps_end s t a b n m l f e g = omega arith
