-- What is open between two reports: missing items, and updates that are held back.
use Rattle.std.proofs.Common.{Bool, true, false, List, [], ◌∷◌, map, filter, ◌≡◌, ◌⊎◌, inl, inr, cond, refl, sym, subst}
use Rattle.topology.specs.declared.items.Sent.{Sent}
use Rattle.topology.specs.declared.items.Pending.{Pending}
use Rattle.topology.specs.Lists.{Among}
use Rattle.incomplete_closure.specs.Reports.{Carrier, Report, missing, waits_for, of_item, of_pending, items_of, open_to}
use Rattle.incomplete_closure.proofs.Listing.{in_front, at_end, in_either, in_map, of_map}

pub in_filtered : {A : Type 0} (test : A → Bool) (xs : List A) (x : A) → Among x xs → test x ≡ true → Among x (filter test xs)
in_filtered test [] x a e = absurd a
in_filtered test (y ∷ ys) x (inl q) e = rw (subst (λ z. test z ≡ true) (sym q) e) (inl q)
in_filtered test (y ∷ ys) x (inr a) e =
    elim (test y) as (λ b. Among x (cond b (y ∷ filter test ys) (filter test ys))) [ true ↦ inr (in_filtered test ys x a e) | false ↦ in_filtered test ys x a e ]

pub of_filter : {A : Type 0} (test : A → Bool) (xs : List A) (x : A) → Among x (filter test xs) → Among x xs × (test x ≡ true)
of_filter test [] x a = absurd a
of_filter {A} test (y ∷ ys) x a =
    (elim (test y) as (λ b. test y ≡ b → Among x (cond b (y ∷ filter test ys) (filter test ys)) → Among x (y ∷ ys) × (test x ≡ true)) [
      | true ↦ λ e m. here e (of_filter test ys x) m
      | false ↦ λ e m. let found = of_filter test ys x m in (inr found.0, found.1)
    ]) refl a
  where
    here : test y ≡ true → (Among x (filter test ys) → Among x ys × (test x ≡ true)) → (y ≡ x) ⊎ Among x (filter test ys) → Among x (y ∷ ys) × (test x ≡ true)
    here e later (inl q) = (inl q, subst (λ z. test z ≡ true) q e)
    here e later (inr n) = let found = later n in (inr found.0, found.1)

-- a carrier is open where it is a missing item
pub missing_open : (from to : Report) (item : Sent) → Among item (items_of from) → missing from to item ≡ true → Among (of_item item) (open_to from to)
unfolding open_to
missing_open from to item a e =
    in_front (of_item item) (map of_item (filter (missing from to) (items_of from))) (map of_pending (filter (waits_for to) from.pending))
    (in_map of_item (filter (missing from to) (items_of from)) item (in_filtered (missing from to) (items_of from) item a e))

-- or an update that is held back
pub pending_open : (from to : Report) (row : Pending) → Among row from.pending → waits_for to row ≡ true → Among (of_pending row) (open_to from to)
unfolding open_to
pending_open from to row a e =
    at_end (of_pending row) (map of_item (filter (missing from to) (items_of from))) (map of_pending (filter (waits_for to) from.pending))
    (in_map of_pending (filter (waits_for to) from.pending) row (in_filtered (waits_for to) from.pending row a e))

-- what is open is one of the two
pub data OneOf (from to : Report) (c : Carrier) : Type 0 where
  ByItem : (i : Sent) → Among i (items_of from) → missing from to i ≡ true → of_item i ≡ c → OneOf from to c
  ByRow : (row : Pending) → Among row from.pending → waits_for to row ≡ true → of_pending row ≡ c → OneOf from to c

pub of_open : (from to : Report) (c : Carrier) → Among c (open_to from to) → OneOf from to c
unfolding open_to
of_open from to c a = either (in_either c (map of_item (filter (missing from to) (items_of from))) (map of_pending (filter (waits_for to) from.pending)) a)
  where
    either : Among c (map of_item (filter (missing from to) (items_of from))) ⊎ Among c (map of_pending (filter (waits_for to) from.pending)) → OneOf from to c
    either (inl m) =
        let one = of_map of_item (filter (missing from to) (items_of from)) c m in
        let two = of_filter (missing from to) (items_of from) one.0 one.1 in
        ByItem one.0 two.0 two.1 one.2
    either (inr m) =
        let one = of_map of_pending (filter (waits_for to) from.pending) c m in
        let two = of_filter (waits_for to) from.pending one.0 one.1 in
        ByRow one.0 two.0 two.1 one.2
