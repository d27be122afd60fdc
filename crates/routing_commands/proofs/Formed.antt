-- Words that are of a form, and words of none.
use Rattle.std.proofs.Common.{◌≡◌, ◌≢◌, ℕ, suc, ◌≤◌, ◌+◌, ◌*◌, ◌==◌, false, true≢false, String, Global, List, [], ◌∷◌, length, map, codes, decimal, refl, sym, ap, subst, ◌∙◌, arith}
use Rattle.std.proofs.lemmas.Fmt.{decimal_injective}
use Rattle.std.specs.Borrow.{Bor}
use Rattle.std.specs.String.{string_bytes}
use Rattle.topology.proofs.Tests.{same_refl}
use Rattle.routing_commands.specs.declared.forms.Form.{Form}
use Rattle.routing_commands.specs.declared.forms.Form.TheVariants.{Replay, Load, Node, KeptNode, Audit, Lead}
use Rattle.topology.specs.declared.limits.TheConstants.{HIGHEST_LOAD, HIGHEST_NODE}
use Rattle.routing_commands.specs.Forms.{HasNoForm, IsForm, form_words}

head_of : (a b : List ℕ) (xs ys : List (List ℕ)) → ◌≡◌ {A = List (List ℕ)} (a ∷ xs) (b ∷ ys) → a ≡ b
head_of a b xs ys e = cc

next_of : (a b c d : List ℕ) (xs ys : List (List ℕ)) → ◌≡◌ {A = List (List ℕ)} (a ∷ c ∷ xs) (b ∷ d ∷ ys) → c ≡ d
next_of a b c d xs ys e = cc

last_of : (a b c d e f : List ℕ) → ◌≡◌ {A = List (List ℕ)} (a ∷ c ∷ e ∷ []) (b ∷ d ∷ f ∷ []) → e ≡ f
last_of a b c d e f same = cc

third_of : (a b c d e f g h : List ℕ) → ◌≡◌ {A = List (List ℕ)} (a ∷ c ∷ e ∷ g ∷ []) (b ∷ d ∷ f ∷ h ∷ []) → e ≡ f
third_of a b c d e f g h same = cc

fourth_of : (a b c d e f g h : List ℕ) → ◌≡◌ {A = List (List ℕ)} (a ∷ c ∷ e ∷ g ∷ []) (b ∷ d ∷ f ∷ h ∷ []) → g ≡ h
fourth_of a b c d e f g h same = cc

-- how many words a form has
abbrev size_of : Form → ℕ
size_of Replay = 1
size_of (Load number) = 2
size_of (Node id address) = 3
size_of (KeptNode id address file) = 4
size_of Audit = 1
size_of Lead = 1

sized : (words : List (List ℕ)) (form : Form) → IsForm words form → length words ≡ size_of form
sized words Replay is = ap (λ (l : List (List ℕ)). length l) is.spelled
sized words (Load number) is = ap (λ (l : List (List ℕ)). length l) is.spelled
sized words (Node id address) is = ap (λ (l : List (List ℕ)). length l) is.spelled
sized words (KeptNode id address file) is = ap (λ (l : List (List ℕ)). length l) is.spelled
sized words Audit is = ap (λ (l : List (List ℕ)). length l) is.spelled
sized words Lead is = ap (λ (l : List (List ℕ)). length l) is.spelled

-- words are of no form that has another number of them
no_size : {P : Type 0} (words : List (List ℕ)) (form : Form) → length words ≢ size_of form → IsForm words form → P
no_size words form other is = absurd (other (sized words form is))

one_and_two : ◌≢◌ {A = ℕ} 1 2
one_and_two e = omega (arith, e)

one_and_three : ◌≢◌ {A = ℕ} 1 3
one_and_three e = omega (arith, e)

two_and_one : ◌≢◌ {A = ℕ} 2 1
two_and_one e = omega (arith, e)

two_and_three : ◌≢◌ {A = ℕ} 2 3
two_and_three e = omega (arith, e)

one_and_four : ◌≢◌ {A = ℕ} 1 4
one_and_four e = omega (arith, e)

two_and_four : ◌≢◌ {A = ℕ} 2 4
two_and_four e = omega (arith, e)

pub not_plain : (word : List ℕ) → (word ≡ codes "replay" → ⊥) → (word ≡ codes "audit" → ⊥) → (word ≡ codes "lead" → ⊥) → HasNoForm (word ∷ [])
not_plain word replay audit lead Replay is = replay (head_of word (codes "replay") [] [] is.spelled)
not_plain word replay audit lead Audit is = audit (head_of word (codes "audit") [] [] is.spelled)
not_plain word replay audit lead Lead is = lead (head_of word (codes "lead") [] [] is.spelled)
not_plain word replay audit lead (Load n) is = no_size (word ∷ []) (Load n) one_and_two is
not_plain word replay audit lead (Node n a) is = no_size (word ∷ []) (Node n a) one_and_three is
not_plain word replay audit lead (KeptNode n a f) is = no_size (word ∷ []) (KeptNode n a f) one_and_four is

pub not_load : (word number : List ℕ) → (word ≡ codes "load" → ⊥) → HasNoForm (word ∷ number ∷ [])
not_load word number other Replay is = no_size (word ∷ number ∷ []) Replay two_and_one is
not_load word number other Audit is = no_size (word ∷ number ∷ []) Audit two_and_one is
not_load word number other Lead is = no_size (word ∷ number ∷ []) Lead two_and_one is
not_load word number other (Load n) is = other (head_of word (codes "load") (number ∷ []) (decimal n ∷ []) is.spelled)
not_load word number other (Node n a) is = no_size (word ∷ number ∷ []) (Node n a) two_and_three is
not_load word number other (KeptNode n a f) is = no_size (word ∷ number ∷ []) (KeptNode n a f) two_and_four is

pub no_number : (word number : List ℕ) → ((n : ℕ) → n ≤ HIGHEST_LOAD → number ≢ decimal n) → HasNoForm (word ∷ number ∷ [])
no_number word number none Replay is = no_size (word ∷ number ∷ []) Replay two_and_one is
no_number word number none Audit is = no_size (word ∷ number ∷ []) Audit two_and_one is
no_number word number none Lead is = no_size (word ∷ number ∷ []) Lead two_and_one is
no_number word number none (Load n) is = none n is.in_range (next_of word (codes "load") number (decimal n) [] [] is.spelled)
no_number word number none (Node n a) is = no_size (word ∷ number ∷ []) (Node n a) two_and_three is
no_number word number none (KeptNode n a f) is = no_size (word ∷ number ∷ []) (KeptNode n a f) two_and_four is

-- as many words as no form has
pub no_count : (words : List (List ℕ)) → length words ≢ 1 → length words ≢ 2 → length words ≢ 3 → length words ≢ 4 → HasNoForm words
no_count words one two three four Replay is = one (sized words Replay is)
no_count words one two three four Audit is = one (sized words Audit is)
no_count words one two three four Lead is = one (sized words Lead is)
no_count words one two three four (Load n) is = two (sized words (Load n) is)
no_count words one two three four (Node n a) is = three (sized words (Node n a) is)
no_count words one two three four (KeptNode n a f) is = four (sized words (KeptNode n a f) is)

pub is_load : (word number : List ℕ) (n : ℕ) → word ≡ codes "load" → number ≡ decimal n → n ≤ HIGHEST_LOAD → IsForm (word ∷ number ∷ []) (Load n)
is_load word number n first second small = record { spelled = rw (first, second) refl; in_range = small }

pub sizes : (words : List (String Global)) → length (map (λ w. string_bytes w) words) ≡ length words
sizes [] = refl
sizes (x ∷ words) = ap suc (sizes words)

-- words are of one form at most: how many they are and the letter with which they begin tell which
abbrev letter : List ℕ → ℕ
letter [] = 0
letter (c ∷ word) = c

abbrev sign : List (List ℕ) → ℕ
sign [] = 0
sign (word ∷ words) = letter word + 256 * length words

abbrev pub sign_of : Form → ℕ
sign_of Replay = 114
sign_of (Load number) = 364
sign_of (Node id address) = 622
sign_of (KeptNode id address file) = 878
sign_of Audit = 97
sign_of Lead = 108

signed : (form : Form) → sign (form_words form) ≡ sign_of form
signed Replay = refl
signed (Load number) = refl
signed (Node id address) = refl
signed (KeptNode id address file) = refl
signed Audit = refl
signed Lead = refl

pub one_form : (words : List (List ℕ)) (f g : Form) → IsForm words f → IsForm words g → sign_of f ≡ sign_of g
one_form words f g is other = sym (signed f) ∙ (ap sign (sym is.spelled ∙ other.spelled) ∙ signed g)

-- so words of one form are of no other
pub apart : {P : Type 0} (words : List (List ℕ)) (f g : Form) → (sign_of f == sign_of g) ≡ false → IsForm words f → IsForm words g → P
apart words f g other is also =
    absurd (true≢false (sym (same_refl (sign_of g)) ∙ subst (λ n. (n == sign_of g) ≡ false) (one_form words f g is also) other))

pub same_number : (words : List (List ℕ)) (m n : ℕ) → IsForm words (Load m) → IsForm words (Load n) → m ≡ n
same_number words m n is other =
    let low = is.in_range in
    let high = other.in_range in
    decimal_injective m n (omega (arith, low)) (omega (arith, high)) (next_of (codes "load") (codes "load") (decimal m) (decimal n) [] [] (sym is.spelled ∙ other.spelled))

pub same_id : (words : List (List ℕ)) (m n : ℕ) (a b : Bor (List ℕ)) → IsForm words (Node m a) → IsForm words (Node n b) → m ≡ n
same_id words m n a b is other =
    let low = is.in_range.1 in
    let high = other.in_range.1 in
    decimal_injective m n (omega (arith, low)) (omega (arith, high)) (next_of (codes "node") (codes "node") (decimal m) (decimal n) (a.now ∷ []) (b.now ∷ []) (sym is.spelled ∙ other.spelled))

pub same_address : (words : List (List ℕ)) (m n : ℕ) (a b : Bor (List ℕ)) → IsForm words (Node m a) → IsForm words (Node n b) → a.now ≡ b.now
same_address words m n a b is other = last_of (codes "node") (codes "node") (decimal m) (decimal n) a.now b.now (sym is.spelled ∙ other.spelled)

pub same_kept_id : (words : List (List ℕ)) (m n : ℕ) (a b f g : Bor (List ℕ)) → IsForm words (KeptNode m a f) → IsForm words (KeptNode n b g) → m ≡ n
same_kept_id words m n a b f g is other =
    let low = is.in_range.1 in
    let high = other.in_range.1 in
    decimal_injective m n (omega (arith, low)) (omega (arith, high)) (next_of (codes "node") (codes "node") (decimal m) (decimal n) (a.now ∷ f.now ∷ []) (b.now ∷ g.now ∷ []) (sym is.spelled ∙ other.spelled))

pub same_kept_address : (words : List (List ℕ)) (m n : ℕ) (a b f g : Bor (List ℕ)) → IsForm words (KeptNode m a f) → IsForm words (KeptNode n b g) → a.now ≡ b.now
same_kept_address words m n a b f g is other = third_of (codes "node") (codes "node") (decimal m) (decimal n) a.now b.now f.now g.now (sym is.spelled ∙ other.spelled)

pub same_file : (words : List (List ℕ)) (m n : ℕ) (a b f g : Bor (List ℕ)) → IsForm words (KeptNode m a f) → IsForm words (KeptNode n b g) → f.now ≡ g.now
same_file words m n a b f g is other = fourth_of (codes "node") (codes "node") (decimal m) (decimal n) a.now b.now f.now g.now (sym is.spelled ∙ other.spelled)

-- a word that spells zero spells no number from 1
pub not_zero : (word : List ℕ) (number : ℕ) → word ≡ decimal number → number ≡ 0 → (n : ℕ) → 1 ≤ n → n ≤ HIGHEST_NODE → word ≢ decimal n
not_zero word number is none n low high e =
    let same : number ≡ n = decimal_injective number n (omega (arith, none)) (omega (arith, high)) (sym is ∙ e) in omega (arith, same, none, low)
