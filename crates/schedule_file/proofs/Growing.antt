-- A text that grows by one line for each element of a list.
use Rattle.std.proofs.Common.{◌≡◌, ℕ, zero, suc, ◌+◌, ◌<◌, List, [], ◌∷◌, ◌++◌, length, take, append_assoc, append-nil, refl, sym, ap, ◌∙◌, arith}
use Rattle.std.specs.Prelude.{Option, Some, None, map, slice_get, option_map}
use Rattle.std.specs.List.{flat_map}
use Rattle.std.proofs.lemmas.Grind.{flat_map-append}
use Rattle.std.proofs.lemmas.Option.{none-some, same_Some}
use Rattle.topology.specs.Net.{Net}
use Rattle.schedule_file.specs.declared.lines.Line.{Line}
use Rattle.schedule_file.specs.declared.lines.Line.TheVariants.{Begin}
use Rattle.schedule_file.specs.declared.lines.Numbered.{Numbered}
use Rattle.schedule_file.specs.Printing.{line_text, network_lines, directive_line, printed}

-- one more element
pub take_next : {X : Type 0} (xs : List X) (i : ℕ) (x : X) → slice_get xs i ≡ Some x → take (i + 1) xs ≡ take i xs ++ x ∷ []
take_next [] i x e = absurd (none-some x e)
take_next (y ∷ xs) zero x e = ap (λ z. z ∷ []) (same_Some y x e)
take_next (y ∷ xs) (suc i) x e =
    let more : suc i + 1 ≡ suc (i + 1) = omega arith in
    ap (λ k. take k (y ∷ xs)) more ∙ ap (λ l. y ∷ l) (take_next xs i x e)

pub take_whole : {X : Type 0} (xs : List X) (i : ℕ) → slice_get xs i ≡ None → take i xs ≡ xs
take_whole [] zero e = refl
take_whole [] (suc i) e = refl
take_whole (y ∷ xs) zero e = absurd (none-some y (sym e))
take_whole (y ∷ xs) (suc i) e = ap (λ l. y ∷ l) (take_whole xs i e)

pub inside : {X : Type 0} (xs : List X) (i : ℕ) (x : X) → slice_get xs i ≡ Some x → i < length xs
inside [] i x e = absurd (none-some x e)
inside (y ∷ xs) zero x e = omega arith
inside (y ∷ xs) (suc i) x e = let more = inside xs i x e in omega arith

-- a list of pieces, one more at its end
pub flat_next : {X A : Type 0} (f : X → List A) (front : List X) (x : X) → flat_map f (front ++ x ∷ []) ≡ flat_map f front ++ f x
flat_next f [] x = append-nil (f x)
flat_next f (y ∷ front) x = ap (λ l. f y ++ l) (flat_next f front x) ∙ sym (append_assoc (f y) (flat_map f front) (f x))

pub map_next : {X Y : Type 0} (f : X → Y) (front : List X) (x : X) → map f (front ++ x ∷ []) ≡ map f front ++ f x ∷ []
map_next f [] x = refl
map_next f (y ∷ front) x = ap (λ l. f y ∷ l) (map_next f front x)

-- the text so far and the line of the next one
pub text_next : {X : Type 0} (f : X → Line) (xs : List X) (i : ℕ) (x : X) (old new more : List ℕ) → slice_get xs i ≡ Some x → new ≡ old ++ flat_map line_text (map f (take i xs)) → more ≡ new ++ line_text (f x) → more ≡ old ++ flat_map line_text (map f (take (i + 1) xs))
text_next f xs i x old new more at so_far next =
    let front = take i xs in
    let grown : flat_map line_text (map f (take (i + 1) xs)) ≡ flat_map line_text (map f front) ++ line_text (f x) =
    ap (λ l. flat_map line_text (map f l)) (take_next xs i x at) ∙ ap (flat_map line_text) (map_next f front x) ∙ flat_next line_text (map f front) (f x) in
    next ∙ ap (λ l. l ++ line_text (f x)) so_far ∙ append_assoc old (flat_map line_text (map f front)) (line_text (f x)) ∙ ap (λ l. old ++ l) (sym grown)

pub text_whole : {X : Type 0} (f : X → Line) (xs : List X) (i : ℕ) (old new : List ℕ) → slice_get xs i ≡ None → new ≡ old ++ flat_map line_text (map f (take i xs)) → new ≡ old ++ flat_map line_text (map f xs)
text_whole f xs i old new end so_far = so_far ∙ ap (λ l. old ++ flat_map line_text (map f l)) (take_whole xs i end)

-- what was read at a place
pub mapped_some : {X Y : Type 0} (f : X → Y) (o : Option X) (y : Y) → option_map f o ≡ Some y → (x : X) × (o ≡ Some x) × (f x ≡ y)
mapped_some f None y e = absurd (none-some y e)
mapped_some f (Some x) y e = (x, refl, same_Some (f x) y e)

pub mapped_none : {X Y : Type 0} (f : X → Y) (o : Option X) → option_map f o ≡ None → o ≡ None
mapped_none f None e = refl
mapped_none f (Some x) e = absurd (none-some (f x) (sym e))

-- three pieces added one by one
pub three_pushed : (old one two three a b c : List ℕ) → one ≡ old ++ a → two ≡ one ++ b → three ≡ two ++ c → three ≡ old ++ (a ++ (b ++ c))
three_pushed old one two three a b c e f g =
    g ∙ ap (λ l. l ++ c) (f ∙ ap (λ l. l ++ b) e) ∙ append_assoc (old ++ a) b c ∙ append_assoc old a (b ++ c)

-- the text of a schedule, written in three parts
pub printed_from : (net : Net) (directives : List Numbered) (old one two three : List ℕ) → old ≡ [] → one ≡ old ++ flat_map line_text (network_lines net) → two ≡ one ++ line_text Begin → three ≡ two ++ flat_map line_text (map (directive_line net) directives) → three ≡ printed net directives
unfolding printed
printed_from net directives old one two three empty e f g =
    let network = flat_map line_text (network_lines net) in
    let behind = line_text Begin ++ flat_map line_text (map (directive_line net) directives) in
    three_pushed old one two three network (line_text Begin) (flat_map line_text (map (directive_line net) directives)) e f g
    ∙ ap (λ l. l ++ (network ++ behind)) empty
    ∙ sym (flat_map-append line_text (network_lines net) (Begin ∷ map (directive_line net) directives))
