-- Flags that say which best routes are the same.
use Rattle.std.proofs.Common.{ℕ, zero, suc, ◌<◌, Bool, true, false, not, List, [], ◌∷◌, ◌++◌, ◌≡◌, ◌↔◌, refl, sym, ◌∙◌, ap, ap₂, subst, length, replicate, take, Some, slice_get, slice_index_or, arith}
use Rattle.std.specs.List.{list_any}
use Rattle.std.proofs.lemmas.Option.{get_or_from_slice_get, same_Some}
use Rattle.trigger_log.specs.declared.offers.Offer.{Offer}
use Rattle.trigger_log.specs.Offered.{AreSame}
use Rattle.trigger_log.proofs.Rounds.{some_at}

abbrev Offers : Type 0
Offers = List Offer

-- one more flag
pub flags_more : (before after : Offers) (flags : List Bool) (i : ℕ) (b a : Offer) (flag : Bool) → slice_get before i ≡ Some b → slice_get after i ≡ Some a → (flag ≡ true) ↔ (b ≡ a)
    → AreSame (take i before) (take i after) flags → AreSame (take (suc i) before) (take (suc i) after) (flags ++ flag ∷ [])
flags_more [] after flags i b a flag at_b at_a is was = absurd (cc at_b)
flags_more (x ∷ before) [] flags i b a flag at_b at_a is was = absurd (cc at_a)
flags_more (x ∷ before) (y ∷ after) [] zero b a flag at_b at_a is was =
    (subst (λ x. (flag ≡ true) ↔ (x ≡ y)) (sym (same_Some x b at_b)) (subst (λ y. (flag ≡ true) ↔ (b ≡ y)) (sym (same_Some y a at_a)) is), tt)
flags_more (x ∷ before) (y ∷ after) (f ∷ flags) zero b a flag at_b at_a is was = absurd was
flags_more (x ∷ before) (y ∷ after) [] (suc i) b a flag at_b at_a is was = absurd was
flags_more (x ∷ before) (y ∷ after) (f ∷ flags) (suc i) b a flag at_b at_a is was = (was.0, flags_more before after flags i b a flag at_b at_a is was.1)

-- no flag is false exactly where all routes are the same
pub none_other : (p : Bool → Bool) → p true ≡ false → p false ≡ true → (before after : Offers) (flags : List Bool) → AreSame before after flags → (list_any p flags ≡ false) ↔ (before ≡ after)
none_other p of_true of_false [] [] [] all = ((λ e. refl), (λ e. refl))
none_other p of_true of_false [] [] (f ∷ flags) all = absurd all
none_other p of_true of_false [] (a ∷ after) flags all = absurd all
none_other p of_true of_false (b ∷ before) [] flags all = absurd all
none_other p of_true of_false (b ∷ before) (a ∷ after) [] all = absurd all
none_other p of_true of_false (b ∷ before) (a ∷ after) (true ∷ flags) all =
    let more = none_other p of_true of_false before after flags all.1 in
    rw of_true ((λ e. ap₂ (λ x xs. x ∷ xs) (all.0.0 refl) (more.0 e)), (λ e. let rest : before ≡ after = cc in more.1 rest))
none_other p of_true of_false (b ∷ before) (a ∷ after) (false ∷ flags) all =
    rw of_false ((λ e. absurd (cc e)), (λ e. let here : b ≡ a = cc in absurd (cc (all.0.1 here))))

-- the search for a false flag answers accordingly
pub all_same : (p : Bool → Bool) (found : Bool) (before after : Offers) (flags : List Bool) → found ≡ list_any p flags → p true ≡ false → p false ≡ true → AreSame before after flags → (not found ≡ true) ↔ (before ≡ after)
all_same p found before after flags is of_true of_false all =
    let one = none_other p of_true of_false before after flags all in
    ((λ e. one.0 (sym is ∙ not_true found e)), (λ e. ap not (is ∙ one.1 e)))
  where
    not_true : (b : Bool) → not b ≡ true → b ≡ false
    not_true true e = absurd (cc e)
    not_true false e = refl

pub flags_length : (before after : Offers) (flags : List Bool) → AreSame before after flags → length flags ≡ length after
flags_length [] [] [] all = refl
flags_length [] [] (f ∷ flags) all = absurd all
flags_length [] (a ∷ after) flags all = absurd all
flags_length (b ∷ before) [] flags all = absurd all
flags_length (b ∷ before) (a ∷ after) [] all = absurd all
flags_length (b ∷ before) (a ∷ after) (f ∷ flags) all = ap suc (flags_length before after flags all.1)

-- a route whose flag is true was there before
pub same_at : (before after : Offers) (flags : List Bool) (i : ℕ) (o : Offer) → AreSame before after flags → slice_get flags i ≡ Some true → slice_get after i ≡ Some o → slice_get before i ≡ Some o
same_at [] [] flags i o all flag at = absurd (cc at)
same_at [] (a ∷ after) flags i o all flag at = absurd all
same_at (b ∷ before) [] flags i o all flag at = absurd all
same_at (b ∷ before) (a ∷ after) [] i o all flag at = absurd all
same_at (b ∷ before) (a ∷ after) (f ∷ flags) zero o all flag at = ap (λ x. Some x) (all.0.0 (same_Some f true flag)) ∙ at
same_at (b ∷ before) (a ∷ after) (f ∷ flags) (suc i) o all flag at = same_at before after flags i o all.1 flag at

pub flag_at : (before after : Offers) (flags : List Bool) (i : ℕ) → AreSame before after flags → i < length after → slice_index_or flags i false ≡ true → slice_get flags i ≡ Some true
flag_at before after flags i all inside set =
    let long = flags_length before after flags all in
    let here = some_at flags i (omega arith) in
    here.1 ∙ ap (λ f. Some f) (sym (get_or_from_slice_get flags i here.0 false here.1) ∙ set)

-- routes that are the same as before
pub all_flags : (offers : Offers) (n : ℕ) → n ≡ length offers → AreSame offers offers (replicate n true)
all_flags [] zero long = tt
all_flags [] (suc n) long = absurd (omega arith)
all_flags (o ∷ offers) zero long = absurd (omega arith)
all_flags (o ∷ offers) (suc n) long = (((λ e. refl), (λ e. refl)), all_flags offers n (omega arith))
