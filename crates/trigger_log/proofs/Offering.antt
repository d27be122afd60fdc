-- One more best route.
use Rattle.std.proofs.Common.{ℕ, ◌+◌, ◌<◌, Bool, true, false, List, [], ◌∷◌, ◌++◌, ◌≡◌, refl, sym, ◌∙◌, ap, filter, length, map, take, slice_index_or, arith}
use Rattle.std.specs.List.{AllByRecursion, range_with_len}
use Rattle.std.proofs.lemmas.List.{map-append, append-nil, length-map, take_more}
use Rattle.std.proofs.lemmas.Option.{get_or_from_slice_get}
use Rattle.std.proofs.lemmas.List.Elements.{filter-append}
use Rattle.std.proofs.lemmas.List.FromFn.{map-range_with_len_more}
use Rattle.trigger_log.specs.declared.offers.Offer.{Offer}
use Rattle.trigger_log.specs.Offered.{prefixes_of}
use Rattle.trigger_log.proofs.Updating.{prefix_at}

pub all_more : {A : Type 0} (P : A → Type 0) (xs : List A) (x : A) → AllByRecursion P xs → P x → AllByRecursion P (xs ++ x ∷ [])
all_more P [] x all here = (here, tt)
all_more P (y ∷ xs) x all here = (all.0, all_more P xs x all.1 here)

map_same : (xs : List ℕ) → map (λ x. x) xs ≡ xs
map_same [] = refl
map_same (x ∷ xs) = ap (λ l. x ∷ l) (map_same xs)

range_more : (n : ℕ) → range_with_len 0 (n + 1) ≡ range_with_len 0 n ++ n ∷ []
range_more n =
    sym (map_same (range_with_len 0 (n + 1))) ∙ (map-range_with_len_more (λ x. x) 0 n n (omega arith) ∙ ap (λ l. l ++ n ∷ []) (map_same (range_with_len 0 n)))

pub offers_more : (offers : List Offer) (n : ℕ) (o : Offer) → prefixes_of offers ≡ range_with_len 0 n → o.prefix ≡ n → prefixes_of (offers ++ o ∷ []) ≡ range_with_len 0 (n + 1)
offers_more offers n o so_far is =
    map-append (λ (o : Offer). o.prefix) offers (o ∷ []) ∙ (ap (λ l. l ++ o.prefix ∷ []) so_far ∙ (ap (λ m. range_with_len 0 n ++ m ∷ []) is ∙ sym (range_more n)))

-- ---- the prefixes that pass a test

filter_range : (t : ℕ → Bool) (n : ℕ) → filter t (range_with_len 0 (n + 1)) ≡ filter t (range_with_len 0 n) ++ filter t (n ∷ [])
filter_range t n = ap (filter t) (range_more n) ∙ filter-append t (range_with_len 0 n) (n ∷ [])

pub passing_more : (t : ℕ → Bool) (offers : List Offer) (n : ℕ) (o : Offer) → prefixes_of offers ≡ filter t (range_with_len 0 n) → o.prefix ≡ n → t n ≡ true
    → prefixes_of (offers ++ o ∷ []) ≡ filter t (range_with_len 0 (n + 1))
passing_more t offers n o so_far is passes =
    map-append (λ (o : Offer). o.prefix) offers (o ∷ []) ∙ (ap (λ l. l ++ o.prefix ∷ []) so_far ∙ (ap (λ m. filter t (range_with_len 0 n) ++ m ∷ []) is
    ∙ sym (filter_range t n ∙ rw passes refl)))

pub passing_no_more : (t : ℕ → Bool) (offers : List Offer) (n : ℕ) → prefixes_of offers ≡ filter t (range_with_len 0 n) → t n ≡ false → prefixes_of offers ≡ filter t (range_with_len 0 (n + 1))
passing_no_more t offers n so_far fails =
    so_far ∙ sym (filter_range t n ∙ rw fails (append-nil (filter t (range_with_len 0 n))))

-- ---- the same prefixes again

pub again_more : (offers again : List Offer) (i : ℕ) (old new : Offer) → prefixes_of again ≡ take i (prefixes_of offers) → i < length offers → old ≡ slice_index_or offers i old → new.prefix ≡ old.prefix
    → prefixes_of (again ++ new ∷ []) ≡ take (i + 1) (prefixes_of offers)
again_more offers again i old new so_far inside at is =
    map-append (λ (o : Offer). o.prefix) again (new ∷ []) ∙ (ap (λ l. l ++ new.prefix ∷ []) so_far ∙ (ap (λ p. take i (prefixes_of offers) ++ p ∷ []) is
    ∙ sym (take_more (prefixes_of offers) i 0 (omega (arith, length-map offers (λ (o : Offer). o.prefix)))
    ∙ ap (λ p. take i (prefixes_of offers) ++ p ∷ []) (get_or_from_slice_get (prefixes_of offers) i old.prefix 0 (prefix_at offers i old inside at)))))
