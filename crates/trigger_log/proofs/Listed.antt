-- Each trigger of an item, or of a held-back update, is listed by an entry.
use Rattle.std.proofs.Common.{ℕ, zero, suc, ◌+◌, ◌<◌, ◌≤◌, length, arith, Bool, true, false, cond, ◌&&◌, Option, None, Some, ap, flat_map, List, [], ◌∷◌, ◌++◌, ◌≡◌, ◌⊎◌, inl, inr, ⊎_elim, refl, sym, subst, filter, map}
use Rattle.std.specs.Prelude.{if◌then◌else◌}
use Rattle.std.specs.List.{AllByRecursion, range_with_len}
use Rattle.topology.specs.declared.names.Trigger.{Trigger}
use Rattle.topology.specs.declared.items.Sent.{Sent}
use Rattle.topology.specs.declared.items.Pending.{Pending}
use Rattle.topology.specs.Lists.{Among}
use Rattle.topology.specs.Triggers.{union, all_of}
use Rattle.topology.specs.Net.{Net, neighbours, places, holds_back}
use Rattle.topology.proofs.Unions.{in_union, of_union}
use Rattle.path_vector.specs.Rules.{Rules}
use Rattle.path_vector.specs.History.{held, ready, concerns}
use Rattle.path_vector.specs.Offers.{changed}
use Rattle.trigger_log.specs.Entries.{Entry, Update, reads, closes, flushes, is_session}
use Rattle.trigger_log.specs.Making.{Making, making}
use Rattle.trigger_log.specs.Pending.{empties, gathered, pending, is_pending, all_pending, pending_row, pending_to, pending_rows}
use Rattle.trigger_log.specs.Sending.{Lists, ListsOf, news, outbox, close, close_list, close_item, update_of, held_update, held_updates, sent_from, updates_sent, close_sent, sent_to, sent_by, next_number}
use Rattle.trigger_log.specs.Fits.{Fits}
use Rattle.trigger_log.proofs.Gathering.{changed_about}

pub among_either : {A : Type 0} (x : A) (xs ys : List A) → Among x (xs ++ ys) → Among x xs ⊎ Among x ys
among_either x [] ys a = inr a
among_either x (y ∷ xs) ys a = ⊎_elim
    (λ (e : y ≡ x). inl (inl e))
    (λ (b : Among x (xs ++ ys)). ⊎_elim (λ (l : Among x xs). inl (inr l)) (λ (r : Among x ys). inr r) (among_either x xs ys b))
    a

-- an update made of a prefix that passes a test
abbrev pub Made : (ℕ → Update) → (ℕ → Bool) → Update → Type 0
Made update test x = (p : ℕ) × (update p ≡ x) × (test p ≡ true)

-- each update of the prefixes that pass is made of one of them
pub among_passing : (update : ℕ → Update) (test : ℕ → Bool) (ps : List ℕ) (x : Update) → Among x (map update (filter test ps)) → Made update test x
among_passing update test [] x a = absurd a
among_passing update test (p ∷ ps) x a =
    (elim (test p) as (λ b. test p ≡ b → Among x (map update (cond b (p ∷ filter test ps) (filter test ps))) → (q : ℕ) × (update q ≡ x) × (test q ≡ true)) [
      | true ↦ λ e c. ⊎_elim
          (λ (d : update p ≡ x). (p, d, e))
          (λ (d : Among x (map update (filter test ps))). among_passing update test ps x d)
          c
      | false ↦ λ e c. among_passing update test ps x c
    ]) refl a

-- an entry that concerns a prefix is an entry
pub any_lists : (p : ℕ) (h : List Entry) (t : Trigger) → ListsOf p h t → Lists h t
any_lists p [] t a = absurd a
any_lists p (k ∷ h) t (inl both) = inl both.1
any_lists p (k ∷ h) t (inr more) = inr (any_lists p h t more)

-- a trigger of a union of lists is in one of them
pub of_all : {A : Type 0} (f : A → List Trigger) (xs : List A) (t : Trigger) → Among t (all_of (map f xs)) → (x : A) × Among x xs × Among t (f x)
of_all f [] t a = absurd a
of_all {A = A} f (x ∷ xs) t a = ⊎_elim
    (λ (here : Among t (f x)). (x, inl refl, here))
    (λ (there : Among t (all_of (map f xs))). later (of_all f xs t there))
    (of_union t (f x) (all_of (map f xs)) a)
  where
    later : (y : A) × Among y xs × Among t (f y) → (y : A) × Among y (x ∷ xs) × Among t (f y)
    later one = (one.0, inr one.1, one.2)

pub in_all : {A : Type 0} (f : A → List Trigger) (xs : List A) (x : A) (t : Trigger) → Among x xs → Among t (f x) → Among t (all_of (map f xs))
in_all f [] x t a b = absurd a
in_all f (y ∷ xs) x t (inl e) b = in_union t (f y) (all_of (map f xs)) (inl (subst (λ z. Among t (f z)) (sym e) b))
in_all f (y ∷ xs) x t (inr a) b = in_union t (f y) (all_of (map f xs)) (inr (in_all f xs x t a b))

module _ (rules : Rules) (net : Net) (u : ℕ) where
  -- a trigger for which an update of p is held back is listed by an entry that concerns p
  pub gathered_listed : (h : List Entry) (w p : ℕ) (t : Trigger) → Fits h → Among t (gathered rules net u h w p) → ListsOf p h t
  unfolding gathered
  gathered_listed [] w p t f a = absurd a
  gathered_listed (k ∷ h) w p t f a =
      (elim (empties k.read.cause w) as (λ b. Among t (if b then [] else if changed rules net u (k.read ∷ reads h) w p then union k.triggers (gathered rules net u h w p) else gathered rules net u h w p) → ListsOf p (k ∷ h) t) [
        | true ↦ λ b. absurd b
        | false ↦ (elim (changed rules net u (k.read ∷ reads h) w p) as (λ c. changed rules net u (k.read ∷ reads h) w p ≡ c → Among t (if c then union k.triggers (gathered rules net u h w p) else gathered rules net u h w p) → ListsOf p (k ∷ h) t) [
          | true ↦ λ c b. ⊎_elim
              (λ (own : Among t k.triggers). inl (changed_about rules net u k h w p f c, own))
              (λ (old : Among t (gathered rules net u h w p)). inr (gathered_listed h w p t f.1 old))
              (of_union t k.triggers (gathered rules net u h w p) b)
          | false ↦ λ c b. inr (gathered_listed h w p t f.1 b)
        ]) refl
      ]) a

  pub pending_listed : (h : List Entry) (w p : ℕ) (t : Trigger) → Fits h → Among t (pending rules net u h w p) → ListsOf p h t
  pending_listed h w p t f a =
      (elim (holds_back net u w) as (λ b. Among t (if b then gathered rules net u h w p else []) → ListsOf p h t) [
        | true ↦ gathered_listed h w p t f
        | false ↦ λ b. absurd b
      ]) a

  pub all_pending_listed : (h : List Entry) (w : ℕ) (t : Trigger) → Fits h → Among t (all_pending rules net u h w) → Lists h t
  unfolding all_pending
  all_pending_listed h w t f a =
      let one = of_all (pending rules net u h w) (places net) t a in
      any_lists one.0 h t (pending_listed h w one.0 t f one.2)

  -- a trigger of an update is listed by the entry, or was listed before for the same prefix
  news_listed : (h : List Entry) (k : Entry) (w : ℕ) (x : Update) (t : Trigger) → Fits (k ∷ h) → Among x (news rules net u h k w) → Among t x.triggers → ListsOf x.prefix (k ∷ h) t
  unfolding news
  news_listed h k w x t f a b =
      (elim (holds_back net u w) as (λ c. Among x (if c then (if flushes k.read.cause w then held_updates (making rules net u h k) w else []) else map (update_of (making rules net u h k) w) (filter (changed rules net u (k.read ∷ reads h) w) (places net))) → ListsOf x.prefix (k ∷ h) t) [
        | true ↦ elim (flushes k.read.cause w) as (λ c. Among x (if c then held_updates (making rules net u h k) w else []) → ListsOf x.prefix (k ∷ h) t) [
          | true ↦ λ d. inr (flushed (among_passing (held_update (making rules net u h k) w) (is_pending rules net u h w) (places net) x d))
          | false ↦ λ d. absurd d
        ]
        | false ↦ λ d. inl (at_once (among_passing (update_of (making rules net u h k) w) (changed rules net u (k.read ∷ reads h) w) (places net) x d))
      ]) a
    where
      flushed : Made (held_update (making rules net u h k) w) (is_pending rules net u h w) x → ListsOf x.prefix h t
      flushed one =
          let listed : Among t (pending rules net u h w one.0) = subst (λ (y : Update). Among t y.triggers) (sym one.1) b in
          subst (λ (y : Update). ListsOf y.prefix h t) one.1 (pending_listed h w one.0 t f.1 listed)

      at_once : Made (update_of (making rules net u h k) w) (changed rules net u (k.read ∷ reads h) w) x → (concerns x.prefix k.read.scope ≡ true) × Among t k.triggers
      at_once one = (
        subst (λ (y : Update). concerns y.prefix k.read.scope ≡ true) one.1 (changed_about rules net u k h w one.0 f one.2),
        subst (λ (y : Update). Among t y.triggers) (sym one.1) b,
      )

  -- a trigger of an update is listed by an entry that concerns its prefix
  pub outbox_listed : (h : List Entry) (w s : ℕ) (x : Update) (t : Trigger) → Fits h → Among x (outbox rules net u h w s) → Among t x.triggers → ListsOf x.prefix h t
  unfolding outbox
  outbox_listed [] w s x t f a b = absurd a
  outbox_listed (k ∷ h) w s x t f a b =
      (elim (is_session (held (k.read ∷ reads h) w) s) as (λ c. Among x (cond c (outbox rules net u h w s ++ news rules net u h k w) (outbox rules net u h w s)) → ListsOf x.prefix (k ∷ h) t) [
        | true ↦ λ d. ⊎_elim
            (λ (l : Among x (outbox rules net u h w s)). inr (outbox_listed h w s x t f.1 l b))
            (λ (r : Among x (news rules net u h k w)). news_listed h k w x t f r b)
            (among_either x (outbox rules net u h w s) (news rules net u h k w) d)
        | false ↦ λ d. inr (outbox_listed h w s x t f.1 d b)
      ]) a

  -- a trigger of a close is listed by an entry
  pub close_listed : (h : List Entry) (w s : ℕ) (triggers : List Trigger) (t : Trigger) → Fits h → close rules net u h w s ≡ Some triggers → Among t triggers → Lists h t
  close_listed [] w s triggers t f e a = absurd (cc e)
  close_listed (k ∷ h) w s triggers t f e a =
      (elim (closes k.read.cause w s && is_session (ready (reads h) w) s) as (λ c. cond c (Some (close_list rules net u h k w)) (close rules net u h w s) ≡ Some triggers → Lists (k ∷ h) t) [
        | true ↦ λ d.
            let same : close_list rules net u h k w ≡ triggers = cc d in
            ⊎_elim
            (λ (own : Among t k.triggers). inl own)
            (λ (old : Among t (all_pending rules net u h w)). inr (all_pending_listed h w t f.1 old))
            (of_union t k.triggers (all_pending rules net u h w) (subst (λ (z : List Trigger). Among t z) (sym same) a))
        | false ↦ λ d. inr (close_listed h w s triggers t f.1 d a)
      ]) e

-- ---- a property of every update

-- the numbers of a range are below its end
below : (a n bound : ℕ) → a + n ≤ bound → AllByRecursion (λ p. p < bound) (range_with_len a n)
below a zero bound fits = tt
below a (suc n) bound fits = (omega (arith, fits), below (a + 1) n bound (omega (arith, fits)))

pub below_places : (net : Net) → AllByRecursion (λ p. p < length net.prefixes) (places net)
unfolding places
below_places net = below 0 (length net.prefixes) (length net.prefixes) (omega arith)

-- what holds for the update of each prefix that passes holds for all these updates
each_passing : (P : Update → Type 0) (Q : ℕ → Type 0) (update : ℕ → Update) (test : ℕ → Bool) (ps : List ℕ) → ((p : ℕ) → Q p → test p ≡ true → P (update p)) → AllByRecursion Q ps → AllByRecursion P (map update (filter test ps))
each_passing P Q update test [] each all = tt
each_passing P Q update test (p ∷ ps) each all =
    (elim (test p) as (λ b. test p ≡ b → AllByRecursion P (map update (cond b (p ∷ filter test ps) (filter test ps)))) [
      | true ↦ λ e. (each p all.0 e, each_passing P Q update test ps each all.1)
      | false ↦ λ e. each_passing P Q update test ps each all.1
    ]) refl

-- what holds for the update of each changed prefix, and of each held-back prefix, holds for all that an entry sends
pub news_each : (P : Update → Type 0) (m : Making) (w : ℕ)
    → ((p : ℕ) → p < length m.net.prefixes → changed m.rules m.net m.node (m.entry.read ∷ reads m.before) w p ≡ true → P (update_of m w p))
    → ((p : ℕ) → p < length m.net.prefixes → flushes m.entry.read.cause w ≡ true → is_pending m.rules m.net m.node m.before w p ≡ true → P (held_update m w p))
    → AllByRecursion P (news m.rules m.net m.node m.before m.entry w)
unfolding news
news_each P m w at_once flushed =
    elim (holds_back m.net m.node w) as (λ b. AllByRecursion P (if b then (if flushes m.entry.read.cause w then held_updates m w else []) else map (update_of m w) (filter (changed m.rules m.net m.node (m.entry.read ∷ reads m.before) w) (places m.net)))) [
      | true ↦ (elim (flushes m.entry.read.cause w) as (λ c. flushes m.entry.read.cause w ≡ c → AllByRecursion P (if c then held_updates m w else [])) [
        | true ↦ λ f. each_passing P (λ p. p < length m.net.prefixes) (held_update m w) (is_pending m.rules m.net m.node m.before w) (places m.net) (λ p q e. flushed p q f e) (below_places m.net)
        | false ↦ λ f. tt
      ]) refl
      | false ↦ each_passing P (λ p. p < length m.net.prefixes) (update_of m w) (changed m.rules m.net m.node (m.entry.read ∷ reads m.before) w) (places m.net) at_once (below_places m.net)
    ]

-- ---- items, and what is held back

-- an item made from updates is one of them, with its triggers
from_listed : (w s n : ℕ) (xs : List Update) (item : Sent) → Among item (sent_from w s n xs) → (x : Update) × Among x xs × (x.triggers ≡ item.triggers)
from_listed w s n [] item a = absurd a
from_listed w s n (x ∷ xs) item (inl e) = (x, inl refl, ap (λ (i : Sent). i.triggers) e)
from_listed w s n (x ∷ xs) item (inr a) = let more = from_listed w s (suc n) xs item a in (more.0, inr more.1, more.2)

pub of_flat_map : {A B : Type 0} (f : A → List B) (xs : List A) (y : B) → Among y (flat_map f xs) → (x : A) × Among x xs × Among y (f x)
of_flat_map f [] y a = absurd a
of_flat_map {A} f (x ∷ xs) y a = either (among_either y (f x) (flat_map f xs) a) (of_flat_map f xs y)
  where
    either : Among y (f x) ⊎ Among y (flat_map f xs) → (Among y (flat_map f xs) → (z : A) × Among z xs × Among y (f z)) → (z : A) × Among z (x ∷ xs) × Among y (f z)
    either (inl here) later = (x, inl refl, here)
    either (inr there) later = let more = later there in (more.0, inr more.1, more.2)

of_mapped : {A B : Type 0} (f : A → B) (xs : List A) (y : B) → Among y (map f xs) → (x : A) × Among x xs × (f x ≡ y)
of_mapped f [] y a = absurd a
of_mapped f (x ∷ xs) y (inl e) = (x, inl refl, e)
of_mapped f (x ∷ xs) y (inr a) = let more = of_mapped f xs y a in (more.0, inr more.1, more.2)

module _ (rules : Rules) (net : Net) (u : ℕ) where
  updates_listed : (h : List Entry) (k : Entry) (w : ℕ) (session : Option ℕ) (item : Sent) (t : Trigger) → Fits (k ∷ h) → Among item (updates_sent (making rules net u h k) w session) → Among t item.triggers → Lists (k ∷ h) t
  updates_listed h k w None item t f a b = absurd a
  updates_listed h k w (Some s) item t f a b =
      let one = from_listed w s (next_number rules net u h w s) (news rules net u h k w) item a in
      any_lists one.0.prefix (k ∷ h) t (news_listed rules net u h k w one.0 t f one.1 (subst (λ (z : List Trigger). Among t z) (sym one.2) b))

  close_item_listed : (h : List Entry) (k : Entry) (w : ℕ) (session : Option ℕ) (item : Sent) (t : Trigger) → Fits (k ∷ h) → Among item (close_sent (making rules net u h k) w session) → Among t item.triggers → Lists (k ∷ h) t
  close_item_listed h k w None item t f a b = absurd a
  close_item_listed h k w (Some s) item t f a b =
      (elim (closes k.read.cause w s) as (λ c. Among item (if c then close_item (making rules net u h k) w s ∷ [] else []) → Lists (k ∷ h) t) [
        | true ↦ λ c. ⊎_elim (λ (e : close_item (making rules net u h k) w s ≡ item). listed (subst (λ (i : Sent). Among t i.triggers) (sym e) b)) (λ none. absurd none) c
        | false ↦ λ c. absurd c
      ]) a
    where
      listed : Among t (close_list rules net u h k w) → Lists (k ∷ h) t
      listed m =
          ⊎_elim (λ (own : Among t k.triggers). inl own) (λ (old : Among t (all_pending rules net u h w)). inr (all_pending_listed rules net u h w t f.1 old))
          (of_union t k.triggers (all_pending rules net u h w) m)

  -- a trigger of a listed item is listed by an entry, and the item goes to a neighbour
  pub sent_listed : (h : List Entry) (k : Entry) (item : Sent) (t : Trigger) → Fits (k ∷ h) → Among item (sent_by rules net u h k) → Among t item.triggers → ((w : ℕ) × Among w (neighbours net u)) × Lists (k ∷ h) t
  unfolding sent_by
  sent_listed h k item t f a b =
      let one = of_flat_map (sent_to rules net u h k) (neighbours net u) item a in (
        (one.0, one.1),
        ⊎_elim
            (λ (x : Among item (updates_sent (making rules net u h k) one.0 (held (k.read ∷ reads h) one.0))). updates_listed h k one.0 (held (k.read ∷ reads h) one.0) item t f x b)
            (λ (x : Among item (close_sent (making rules net u h k) one.0 (ready (reads h) one.0))). close_item_listed h k one.0 (ready (reads h) one.0) item t f x b)
            (among_either item (updates_sent (making rules net u h k) one.0 (held (k.read ∷ reads h) one.0)) (close_sent (making rules net u h k) one.0 (ready (reads h) one.0)) one.2),
      )

  row_listed : (h : List Entry) (w : ℕ) (session : Option ℕ) (row : Pending) (t : Trigger) → Fits h → Among row (pending_to rules net u h w session) → Among t row.triggers → Lists h t
  row_listed h w None row t f a b = absurd a
  row_listed h w (Some s) row t f a b =
      let one = of_mapped (pending_row (pending rules net u h w) w s) (filter (is_pending rules net u h w) (places net)) row a in
      any_lists one.0 h t (pending_listed rules net u h w one.0 t f (subst (λ (r : Pending). Among t r.triggers) (sym one.2) b))

  -- a trigger of a row is listed by an entry, and the row is one of a neighbour
  pub pending_rows_listed : (h : List Entry) (row : Pending) (t : Trigger) → Fits h → Among row (pending_rows rules net u h) → Among t row.triggers → ((w : ℕ) × Among w (neighbours net u)) × Lists h t
  unfolding pending_rows
  pending_rows_listed h row t f a b =
      let one = of_flat_map (λ w. pending_to rules net u h w (held (reads h) w)) (neighbours net u) row a in
      ((one.0, one.1), row_listed h one.0 (held (reads h) one.0) row t f one.2 b)
