-- One more update to a listener.
use Rattle.std.proofs.Common.{ℕ, zero, suc, not, subst, Option, None, option_map, slice_index_or, ◌+◌, ◌<◌, Bool, true, false, List, [], ◌∷◌, ◌++◌, ◌≡◌, refl, sym, ◌∙◌, ap, map, filter, take, length, length-append, slice_get, Some, append_assoc, arith}
use Rattle.std.specs.Prelude.{if◌then◌else◌}
use Rattle.std.specs.List.{AllByRecursion}
use Rattle.std.proofs.lemmas.List.{map-append, append-nil, take_more, length-map}
use Rattle.std.proofs.lemmas.Option.{get_or_from_slice_get, same_Some, slice_get-map, slice_get_read}
use Rattle.topology.specs.declared.names.Trigger.{Trigger}
use Rattle.topology.specs.Net.{Net}
use Rattle.path_vector.specs.Rules.{Rules}
use Rattle.topology.specs.Lists.{same_path}
use Rattle.path_vector.specs.History.{History}
use Rattle.path_vector.specs.Selection.{best}
use Rattle.path_vector.specs.Offers.{offer}
use Rattle.path_vector.specs.Answers.{Copies}
use Rattle.trigger_log.specs.declared.offers.Offer.{Offer}
use Rattle.trigger_log.specs.declared.listeners.Listener.{Listener}
use Rattle.trigger_log.specs.Entries.{Entry, Update, reads}
use Rattle.trigger_log.specs.Making.{making}
use Rattle.trigger_log.specs.Sending.{sent_from, update_of}
use Rattle.trigger_log.specs.Going.{Item, News, going_of, going_to, numbered}
use Rattle.trigger_log.specs.Offered.{differs, updates_over, AreChosen, prefixes_of}
use Rattle.trigger_log.specs.Telling.{Speech, TellsUpdates, update_going}

sent_from-more : (w s n : ℕ) (xs : List Update) (x : Update) → sent_from w s n (xs ++ x ∷ []) ≡ sent_from w s n xs ++ record { to = w; session = s; seq = n + length xs; triggers = x.triggers } ∷ []
sent_from-more w s n [] x = ap (λ m. record { to = w; session = s; seq = m; triggers = x.triggers } ∷ []) (omega arith)
sent_from-more w s n (y ∷ xs) x =
    ap (λ l. record { to = w; session = s; seq = n; triggers = y.triggers } ∷ l)
    (sent_from-more w s (suc n) xs x ∙ ap (λ m. sent_from w s (suc n) xs ++ record { to = w; session = s; seq = m; triggers = x.triggers } ∷ []) (omega arith))

numbered-more : (n : ℕ) (xs : List Update) (x : Update) → numbered n (xs ++ x ∷ []) ≡ numbered n xs ++ News (n + length xs) x ∷ []
numbered-more n [] x = ap (λ m. News m x ∷ []) (omega arith)
numbered-more n (y ∷ xs) x =
    ap (λ l. News n y ∷ l) (numbered-more (suc n) xs x ∙ ap (λ m. numbered (suc n) xs ++ News m x ∷ []) (omega arith))

pub tells_more : (listener : Listener) (xs : List Update) (x : Update) (first before after : Speech) (n m : ℕ)
    → m ≡ suc n → after.sent ≡ before.sent ++ record { to = listener.nbr; session = listener.session; seq = m; triggers = x.triggers } ∷ []
    → map going_of after.out ≡ map going_of before.out ++ update_going listener m x ∷ []
    → TellsUpdates listener xs first before n → TellsUpdates listener (xs ++ x ∷ []) first after m
tells_more listener xs x first before after n m next one going was =
    let w = listener.nbr in
    let s = listener.session in
    let from = suc listener.sent in
    let count = was.counts in
    let is : m ≡ from + length xs = omega arith in
    record {
      counts = omega (arith, length-append xs (x ∷ []));
      sent =
          one ∙ (ap (λ l. l ++ record { to = w; session = s; seq = m; triggers = x.triggers } ∷ []) was.sent
          ∙ (append_assoc first.sent (sent_from w s from xs) (record { to = w; session = s; seq = m; triggers = x.triggers } ∷ [])
          ∙ ap (λ l. first.sent ++ l) (ap (λ n. sent_from w s from xs ++ record { to = w; session = s; seq = n; triggers = x.triggers } ∷ []) is ∙ sym (sent_from-more w s from xs x))));
      out =
          going ∙ (ap (λ l. l ++ update_going listener m x ∷ []) was.out
          ∙ (append_assoc (map going_of first.out) (going_to w s (numbered from xs)) (update_going listener m x ∷ [])
          ∙ ap (λ l. map going_of first.out ++ l)
          (ap (λ n. going_to w s (numbered from xs) ++ update_going listener n x ∷ []) is
          ∙ (sym (map-append (λ (item : Item). record { to = w; session = s; item = item }) (numbered from xs) (News (from + length xs) x ∷ []))
          ∙ ap (going_to w s) (sym (numbered-more from xs x))))));
    }

filter-one : {A : Type 0} (p : A → Bool) (xs : List A) (x : A) → filter p (xs ++ x ∷ []) ≡ filter p xs ++ (if p x then x ∷ [] else [])
filter-one p [] x = refl
filter-one p (y ∷ xs) x =
    elim (p y) as (λ t. (if t then y ∷ filter p (xs ++ x ∷ []) else filter p (xs ++ x ∷ [])) ≡ (if t then y ∷ filter p xs else filter p xs) ++ (if p x then x ∷ [] else [])) [
      | true ↦ ap (λ l. y ∷ l) (filter-one p xs x)
      | false ↦ filter-one p xs x
    ]

module _ (rules : Rules) (net : Net) (u : ℕ) (h : List Entry) (k : Entry) (knows : Bool) (w : ℕ) where
  -- the updates over one more prefix
  over_more : (ps : List ℕ) (i p : ℕ) → slice_get ps i ≡ Some p → i < length ps
      → updates_over (making rules net u h k) knows w (take (i + 1) ps)
      ≡ updates_over (making rules net u h k) knows w (take i ps) ++ (if differs (making rules net u h k) knows w p then update_of (making rules net u h k) w p ∷ [] else [])
  over_more ps i p at inside =
      ap (updates_over (making rules net u h k) knows w) (take_more ps i 0 inside ∙ ap (λ n. take i ps ++ n ∷ []) (get_or_from_slice_get ps i p 0 at))
      ∙ (ap (map (update_of (making rules net u h k) w)) (filter-one (differs (making rules net u h k) knows w) (take i ps) p)
      ∙ (map-append (update_of (making rules net u h k) w) (filter (differs (making rules net u h k) knows w) (take i ps)) (if differs (making rules net u h k) knows w p then p ∷ [] else [])
      ∙ ap (λ l. updates_over (making rules net u h k) knows w (take i ps) ++ l)
      (elim (differs (making rules net u h k) knows w p) as (λ t. map (update_of (making rules net u h k) w) (if t then p ∷ [] else []) ≡ (if t then update_of (making rules net u h k) w p ∷ [] else [])) [ true ↦ refl | false ↦ refl ])))

  pub over_same : (ps : List ℕ) (i p : ℕ) → slice_get ps i ≡ Some p → i < length ps → differs (making rules net u h k) knows w p ≡ false
      → updates_over (making rules net u h k) knows w (take (i + 1) ps) ≡ updates_over (making rules net u h k) knows w (take i ps)
  over_same ps i p at inside same =
      over_more ps i p at inside
      ∙ (ap (λ t. updates_over (making rules net u h k) knows w (take i ps) ++ (if t then update_of (making rules net u h k) w p ∷ [] else [])) same
      ∙ append-nil (updates_over (making rules net u h k) knows w (take i ps)))

  pub over_other : (ps : List ℕ) (i p : ℕ) → slice_get ps i ≡ Some p → i < length ps → differs (making rules net u h k) knows w p ≡ true
      → updates_over (making rules net u h k) knows w (take (i + 1) ps) ≡ updates_over (making rules net u h k) knows w (take i ps) ++ update_of (making rules net u h k) w p ∷ []
  over_other ps i p at inside other =
      over_more ps i p at inside
      ∙ ap (λ t. updates_over (making rules net u h k) knows w (take i ps) ++ (if t then update_of (making rules net u h k) w p ∷ [] else [])) other

  pub differs_is : (p q : ℕ) (a b : Option (List ℕ)) (t : Bool) → t ≡ same_path a b → a ≡ offer rules net u (k.read ∷ reads h) p w
      → b ≡ (if knows then offer rules net u (reads h) q w else None) → q ≡ p → differs (making rules net u h k) knows w p ≡ not t
  differs_is p q a b t is a_is b_is same =
      sym (ap not (is ∙ (ap (λ x. same_path x b) a_is
      ∙ ap (same_path (offer rules net u (k.read ∷ reads h) p w)) (b_is ∙ ap (λ q. if knows then offer rules net u (reads h) q w else None) same))))

pub same_update : (p q : ℕ) (ts us : List Trigger) (a b : Option (List ℕ)) → p ≡ q → ts ≡ us → a ≡ b
    → ◌≡◌ {A = Update} (record { prefix = p; triggers = ts; path = a }) (record { prefix = q; triggers = us; path = b })
same_update p q ts us a b e f g = rw (e, f, g) refl

pub prefix_at : (offers : List Offer) (i : ℕ) (o : Offer) → i < length offers → o ≡ slice_index_or offers i o → slice_get (prefixes_of offers) i ≡ Some o.prefix
prefix_at offers i o inside is =
    slice_get-map (λ (o : Offer). o.prefix) offers i ∙ ap (option_map (λ (o : Offer). o.prefix)) (slice_get_read offers (length offers) i o refl inside is)

pub all_at : {A : Type 0} (P : A → Type 0) (xs : List A) (i : ℕ) (x : A) → AllByRecursion P xs → slice_get xs i ≡ Some x → P x
all_at P [] i x all at = absurd (cc at)
all_at P (y ∷ xs) zero x all at = subst P (same_Some y x at) all.0
all_at P (y ∷ xs) (suc i) x all at = all_at P xs i x all.1 at

pub chosen_at : (rules : Rules) (net : Net) (u : ℕ) (h : History) (offers : List Offer) (i : ℕ) (o : Offer) → AreChosen rules net u h offers → i < length offers → o ≡ slice_index_or offers i o
    → Copies net u o.chosen (best rules net u h o.prefix)
chosen_at rules net u h offers i o all inside is =
    all_at (λ (o : Offer). Copies net u o.chosen (best rules net u h o.prefix)) offers i o all (slice_get_read offers (length offers) i o refl inside is)

-- the same, as it is read in place
pub chosen_in : (rules : Rules) (net : Net) (u : ℕ) (h : History) (offers : List Offer) (i : ℕ) (o : Offer) → AreChosen rules net u h offers → i < length offers → o ≡ slice_index_or offers i o
    → Copies net u (slice_index_or offers i o).chosen (best rules net u h o.prefix)
chosen_in rules net u h offers i o all inside is =
    subst (λ (x : Offer). Copies net u x.chosen (best rules net u h o.prefix)) is (chosen_at rules net u h offers i o all inside is)

pub same_length : (before after : List Offer) → prefixes_of before ≡ prefixes_of after → length before ≡ length after
same_length before after e =
    sym (length-map before (λ (o : Offer). o.prefix)) ∙ (ap length e ∙ length-map after (λ (o : Offer). o.prefix))

pub same_prefix_at : (before after : List Offer) (i : ℕ) (b a : Offer) → prefixes_of before ≡ prefixes_of after → i < length after → b ≡ slice_index_or before i b → a ≡ slice_index_or after i a
    → b.prefix ≡ a.prefix
same_prefix_at before after i b a e inside is_b is_a =
    let long = same_length before after e in
    same_Some b.prefix a.prefix (sym (prefix_at before i b (omega arith) is_b) ∙ (ap (λ l. slice_get l i) e ∙ prefix_at after i a inside is_a))
