-- Mails stand for acts after each call.
use Rattle.std.proofs.Common.{ℕ, zero, suc, ◌+◌, ◌<◌, true, false, not, ◌==◌, Option, Some, List, [], ◌∷◌, ◌++◌, ◌≡◌, ◌≢◌, ⊎_elim, refl, sym, ◌∙◌, ap, arith, true≢false, length, set, slice_get}
use Rattle.std.specs.BTreeSet.{contains}
use Rattle.std.specs.Ordering.{nat_cmp}
use Rattle.std.proofs.lemmas.Bool.{cases_eq}
use Rattle.std.proofs.lemmas.Bool.Decides.{nat_tests}
use Rattle.std.proofs.lemmas.List.{map-append, length-map}
use Rattle.std.proofs.lemmas.Option.{slice_get_within, slice_get-map}
use Rattle.std.specs.Option.{option_map}
use Rattle.consolidator.specs.Seen.{message_seen}
use Rattle.topology.specs.Lists.{has}
use Rattle.topology.specs.Net.{Net}
use Rattle.control_mail.specs.declared.inbox.Inbox.{Inbox}
use Rattle.control_mail.specs.declared.kept.Kept.{Kept}
use Rattle.control_mail.specs.Acts.{MailActs, Posts, Delivers, Crashes, Restarts}
use Rattle.control_mail.specs.Readings.{letters, is_number, deliveries, is_next, next_letter, stopped, waits}
use Rattle.control_mail.specs.Keeping.{HasInbox, IsAbsent, Keeps, IsLowest, offers, is_ready, with_stopped, with_waiting, none_stopped, none_waiting}
use Rattle.control_mail.specs.Seen.{Office, letter_seen}
use Rattle.control_mail.specs.Standing.{StandsFor}
use Rattle.control_mail.proofs.Places.{same_some, get_set_same, get_set_other, pushed_at, map_set, any_at, any_from}
use Rattle.control_mail.proofs.Keeping.{has_or_absent, keeps_same}
use Rattle.control_mail.proofs.Lowest.{find_lowest, lowest_found}
use Rattle.control_mail.proofs.Acting.{never, uncounted, elsewhere, counted_once, numbered, posted_waits, delivered_waits, both, and_true, not_true, next_from, Nexts, next_is}

abbrev pub office : List Kept → List Inbox → Office
office kept boxes = record { kept = kept; boxes = boxes }

pub many : (net : Net) (mails : Office) (acts : MailActs) → StandsFor net mails acts → length mails.kept ≡ length (letters acts)
many net mails acts stands = sym (length-map mails.kept letter_seen) ∙ ap length stands.kept

-- ---- at the start

-- each node has an inbox
abbrev pub HasEach : List Inbox → List ℕ → Type 0
HasEach boxes nodes = (u : ℕ) → has nodes u ≡ true → HasInbox boxes u

-- each node before a place has one
abbrev pub HasBefore : List Inbox → List ℕ → ℕ → Type 0
HasBefore boxes nodes n = (i u : ℕ) → slice_get nodes i ≡ Some u → i < n → HasInbox boxes u

pub has_all : (boxes : List Inbox) (nodes : List ℕ) → HasBefore boxes nodes (length nodes) → HasEach boxes nodes
has_all boxes nodes before u h =
    let found = any_at (λ x. x == u) nodes h in
    before found.place u (found.here ∙ ap Some (eq_of found.item u found.holds)) (slice_get_within nodes found.place found.item found.here)
  where
    eq_of : (a b : ℕ) → (a == b) ≡ true → a ≡ b
    eq_of a b e = grind (arith, nat_tests)

pub has_next : (before after : List Inbox) (nodes : List ℕ) (n node : ℕ) → slice_get nodes n ≡ Some node → ((u : ℕ) → HasInbox before u → HasInbox after u) → HasInbox after node
    → HasBefore before nodes n → HasBefore after nodes (n + 1)
has_next before after nodes n node here others new was i u at l = ⊎_elim
    (λ (e : i ≡ n). rw (same_some u node (sym at ∙ (ap (slice_get nodes) e ∙ here))) new)
    (λ (ne : i ≢ n). others u (was i u at (below ne)))
    (cases_eq i n)
  where
    below : i ≢ n → i < n
    below ne = grind (arith, nat_tests)

pub fresh : (net : Net) (boxes : List Inbox) → Keeps boxes none_stopped none_waiting → HasEach boxes net.nodes → StandsFor net (office [] boxes) []
fresh net boxes keeps boxed = record {
  kept = refl;
  counted = λ k x here. absurd (cc here);
  sorted = keeps_same boxes none_stopped (stopped []) none_waiting (waits []) (λ u. refl) (λ u k. nothing u k) keeps;
  boxed = boxed;
}
  where
    nothing : (u k : ℕ) → false ≡ waits [] u k
    nothing u zero = refl
    nothing u (suc k) = refl

-- ---- a message is sent

pub posted : (net : Net) (kept : List Kept) (before after : List Inbox) (acts : MailActs) (x : Kept) → x.deliveries ≡ 0
    → Keeps after (stopped acts) (with_waiting x.mail.to (suc (length kept)) true (waits acts)) → ((u : ℕ) → HasInbox before u → HasInbox after u)
    → StandsFor net (office kept before) acts → StandsFor net (office (kept ++ x ∷ []) after) (Posts x.from x.mail.to (message_seen x.mail.message) ∷ acts)
posted net kept before after acts x new keeps others stands = record {
  kept = map-append letter_seen kept (x ∷ []) ∙ ap (λ l. l ++ letter_seen x ∷ []) stands.kept;
  counted = λ k y here. ⊎_elim
      (λ (first : slice_get kept k ≡ Some y). stands.counted k y first)
      (λ (last : (k ≡ length kept) × (y ≡ x)). ap (λ (z : Kept). z.deliveries) last.1 ∙ (new ∙ sym (never (suc k) acts (omega (arith, width, last.0)))))
      (pushed_at kept x k y here);
  sorted = keeps_same after (stopped acts) (stopped acts) _ _ (λ u. refl) (λ u k. ap (λ n. with_waiting x.mail.to (suc n) true (waits acts) u k) width ∙ posted_waits x.from x.mail.to (message_seen x.mail.message) acts u k) keeps;
  boxed = λ u h. others u (stands.boxed u h);
}
  where
    width : length kept ≡ length (letters acts)
    width = many net (office kept before) acts stands

-- ---- a delivery

pub delivered : (net : Net) (kept : List Kept) (before after : List Inbox) (acts : MailActs) (place : ℕ) (x y : Kept) → slice_get kept place ≡ Some x
    → letter_seen y ≡ letter_seen x → y.deliveries ≡ suc x.deliveries
    → Keeps after (stopped acts) (with_waiting x.mail.to (suc place) false (waits acts)) → ((u : ℕ) → HasInbox before u → HasInbox after u)
    → StandsFor net (office kept before) acts → StandsFor net (office (set kept place y) after) (Delivers (suc place) ∷ acts)
delivered net kept before after acts place x y here same once keeps others stands = record {
  kept = map_set letter_seen kept place x y here same ∙ stands.kept;
  counted = λ k z there. ⊎_elim
      (λ (e : k ≡ place).
      let is : z ≡ y = same_some z y (sym there ∙ (ap (slice_get (set kept place y)) e ∙ get_set_same kept place y inside)) in
      ap (λ (w : Kept). w.deliveries) is ∙ (once ∙ (ap suc (stands.counted place x here) ∙ (sym (counted_once place acts (omega (arith, inside, width))) ∙ ap (λ n. deliveries (suc n) (Delivers (suc place) ∷ acts)) (sym e)))))
      (λ (ne : k ≢ place). stands.counted k z (sym (get_set_other kept place k y (λ e. ne (sym e))) ∙ there) ∙ sym (elsewhere (suc place) (suc k) acts (unlike k ne)))
      (cases_eq k place);
  sorted = keeps_same after (stopped acts) (stopped acts) _ _ (λ u. refl) (λ u k. delivered_waits place acts (letter_seen x) u k letter_here) keeps;
  boxed = λ u h. others u (stands.boxed u h);
}
  where
    inside : place < length kept
    inside = slice_get_within kept place x here

    width : length kept ≡ length (letters acts)
    width = many net (office kept before) acts stands

    letter_here : slice_get (letters acts) place ≡ Some (letter_seen x)
    letter_here = ap (λ l. slice_get l place) (sym stands.kept) ∙ (slice_get-map letter_seen kept place ∙ ap (option_map letter_seen) here)

    unlike : (k : ℕ) → k ≢ place → (suc place == suc k) ≡ false
    unlike k ne = grind (arith, nat_tests)

-- a delivery of a number without a message
pub idle : (net : Net) (mails : Office) (acts : MailActs) (number : ℕ) → is_number number acts ≡ false → StandsFor net mails acts → StandsFor net mails (Delivers number ∷ acts)
idle net mails acts number none stands = record {
  kept = stands.kept;
  counted = λ k x here. stands.counted k x here ∙ sym (uncounted number (suc k) acts none);
  sorted = keeps_same mails.boxes (stopped acts) (stopped acts) _ _ (λ u. refl) (λ u k. rw (uncounted number k acts none) refl) stands.sorted;
  boxed = stands.boxed;
}

-- ---- a node crashes, or comes back

module _ (net : Net) (kept : List Kept) (before after : List Inbox) (acts : MailActs) (node : ℕ) (others : (u : ℕ) → HasInbox before u → HasInbox after u) (stands : StandsFor net (office kept before) acts) where
  pub gone : Keeps after (with_stopped node true (stopped acts)) (waits acts) → StandsFor net (office kept after) (Crashes node ∷ acts)
  gone keeps = record { kept = stands.kept; counted = stands.counted; sorted = keeps_same after (with_stopped node true (stopped acts)) (stopped (Crashes node ∷ acts)) (waits acts) (waits (Crashes node ∷ acts)) (λ u. refl) (λ u k. refl) keeps; boxed = λ u h. others u (stands.boxed u h) }

  pub back : Keeps after (with_stopped node false (stopped acts)) (waits acts) → StandsFor net (office kept after) (Restarts node ∷ acts)
  back keeps = record { kept = stands.kept; counted = stands.counted; sorted = keeps_same after (with_stopped node false (stopped acts)) (stopped (Restarts node ∷ acts)) (waits acts) (waits (Restarts node ∷ acts)) (λ u. refl) (λ u k. refl) keeps; boxed = λ u h. others u (stands.boxed u h) }

-- ---- the next message

module _ (net : Net) (mails : Office) (acts : MailActs) (stands : StandsFor net mails acts) where
  -- a message that an inbox offers may be next
  offered : (k : ℕ) → offers mails.boxes k ≡ true → is_next acts k ≡ true
  offered k e =
      let found = any_at (is_ready k) mails.boxes e in
      let b = found.item in
      let ready = both (not b.crashed) (contains nat_cmp b.waiting k) found.holds in
      let is = stands.sorted.each found.place b found.here in
      next_from acts b.node k (sym (is.holds k) ∙ ready.1) (sym is.crashed ∙ not_true b.crashed ready.0)

  -- a message that may be next is offered
  offers_it : (k : ℕ) → Nexts acts k → offers mails.boxes k ≡ true
  offers_it k next = ⊎_elim
      (λ (has : HasInbox mails.boxes next.letter_is.to).
      let b = has.at.inbox in
      let is = stands.sorted.each has.place b has.at.here in
      any_from (is_ready k) mails.boxes has.place b has.at.here
      (and_true (not b.crashed) (contains nat_cmp b.waiting k)
      (ap not (is.crashed ∙ (ap (stopped acts) has.at.is_of ∙ next.runs)))
      (is.holds k ∙ (ap (λ u. waits acts u k) has.at.is_of ∙ next.waiting))))
      (λ (absent : IsAbsent mails.boxes next.letter_is.to). absurd (true≢false (sym next.waiting ∙ stands.sorted.idle next.letter_is.to k absent)))
      (has_or_absent mails.boxes next.letter_is.to)

  pub next_found : (lowest : Option ℕ) → IsLowest (offers mails.boxes) lowest → lowest ≡ next_letter acts
  unfolding next_letter
  next_found lowest is = find_lowest (is_next acts) 1 (length (letters acts)) lowest
      (λ k e.
      let next = offered k (is.some k e) in
      let it = next_is acts k next in
      let at = numbered k acts it.letter_is it.here in
      (next, omega arith, omega arith))
      (λ k low h. is.least k (offers_it k (next_is acts k h)))

-- the next message is the lowest that may be next
pub next_lowest : (acts : MailActs) → IsLowest (is_next acts) (next_letter acts)
unfolding next_letter
next_lowest acts = lowest_found (is_next acts) 1 (length (letters acts)) (λ k e.
    let it = next_is acts k e in
    let at = numbered k acts it.letter_is it.here in
    (omega arith, omega arith))
