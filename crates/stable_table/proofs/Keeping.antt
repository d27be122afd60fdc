-- The kept entries of a cut, one by one, and as entries of a log.
use Rattle.std.proofs.Common.{zero, suc, ◌<◌, get_or, inl, inr, Bool, true, false, cond, not, ◌||◌, List, [], ◌∷◌, ◌++◌, length, drop, fold, filter, ◌≡◌, refl, sym, ◌∙◌, ap, ap₂, subst, arith}
use Rattle.std.specs.Prelude.{ℕ, if◌then◌else◌}
use Rattle.std.specs.List.{list_any}
use Rattle.topology.specs.declared.names.Trigger.{Trigger}
use Rattle.topology.specs.Triggers.{lists}
use Rattle.topology.proofs.Tests.{or_left, or_right}
use Rattle.path_vector.specs.History.{Change, History, Scoped, change}
use Rattle.path_vector.specs.Parts.{Accepted, IsPart}
use Rattle.path_vector.proofs.Parts.{part_accepted}
use Rattle.trigger_log.specs.declared.entries.Entry.{Entry as Shown}
use Rattle.trigger_log.specs.Entries.{Entry, reads}
use Rattle.trigger_log.specs.Fits.{Fits}
use Rattle.trigger_log.specs.KeptEntries.{taken}
use Rattle.trigger_log.proofs.Kept.{all_accepted, reads_parts}
use Rattle.stable_table.specs.Keeping.{kept_by}

-- if a longer list can be a log, so can its first part
pub accepted_before : (incomplete : List Trigger) (past : History) (es : List Shown) → Accepted (fold (kept_by incomplete) past es) → Accepted past
accepted_before incomplete past [] a = a
accepted_before incomplete past (e ∷ es) a =
    (elim (list_any (lists incomplete) e.triggers) as (λ b. Accepted (if b then past else change e.scope e.cause ∷ past) → Accepted past) [ true ↦ λ x. x | false ↦ λ x. x.1 ])
    (accepted_before incomplete (kept_by incomplete past e) es a)

-- the rest from a place on begins with the element there
pub dropped : {A : Type 0} (xs : List A) (i : ℕ) (x : A) → i < length xs → x ≡ get_or xs i x → drop i xs ≡ x ∷ drop (suc i) xs
dropped [] i x below is = absurd (omega arith)
dropped (y ∷ xs) zero x below is = ap (λ z. z ∷ xs) (sym is)
dropped (y ∷ xs) (suc i) x below is = dropped xs i x (omega arith) is

-- ---- the entries of a log

-- the entry lists no incomplete trigger
abbrev pub is_kept : List Trigger → Entry → Bool
is_kept incomplete k = not (list_any (lists incomplete) k.triggers)

-- what is read of the entries that list no incomplete trigger
abbrev pub reads_kept : List Trigger → List Entry → History
reads_kept incomplete h = reads (filter (is_kept incomplete) h)

pub kept_same : (incomplete : List Trigger) (past : History) (shown : Shown) (k : Entry) → shown.triggers ≡ k.triggers → change shown.scope shown.cause ≡ k.read
    → kept_by incomplete past shown ≡ (if is_kept incomplete k then k.read ∷ past else past)
kept_same incomplete past shown k triggers read =
    subst (λ (ts : List Trigger). kept_by incomplete past shown ≡ (if not (list_any (lists incomplete) ts) then k.read ∷ past else past)) triggers
    (elim (list_any (lists incomplete) shown.triggers) as (λ b. (if b then past else change shown.scope shown.cause ∷ past) ≡ (if not b then k.read ∷ past else past)) [
      | true ↦ refl
      | false ↦ ap (λ (e : Change). e ∷ past) read
    ])

-- of two lists with the same triggers, either both have one of ts, or neither has
pub lists_alike : (a b : List Trigger) → ((t : Trigger) → lists a t ≡ lists b t) → (ts : List Trigger) → list_any (lists a) ts ≡ list_any (lists b) ts
lists_alike a b same [] = refl
lists_alike a b same (t ∷ ts) = ap₂ (λ x y. x || y) (same t) (lists_alike a b same ts)

-- two lists with the same triggers keep the same entries
pub kept_alike : (a b : List Trigger) → ((t : Trigger) → lists a t ≡ lists b t) → (past : History) (es : List Shown) → fold (kept_by a) past es ≡ fold (kept_by b) past es
kept_alike a b same past [] = refl
kept_alike a b same past (e ∷ es) =
    ap (λ (t : Bool). fold (kept_by a) (if t then past else change e.scope e.cause ∷ past) es) (lists_alike a b same e.triggers) ∙ kept_alike a b same (kept_by b past e) es

-- ---- a part of a log is a log

part_more : (part whole : History) (e : Change) → IsPart part whole → IsPart part (e ∷ whole)
part_more [] whole e is = tt
part_more (x ∷ part) whole e is = inr is

part_self : (whole : History) → IsPart whole whole
part_self [] = tt
part_self (e ∷ whole) = inl (refl, part_self whole)

kept_part : (base : History) (incomplete : List Trigger) (h : List Entry) → IsPart (reads_kept incomplete h ++ base) (reads h ++ base)
kept_part base incomplete [] = part_self base
kept_part base incomplete (k ∷ h) = elim (is_kept incomplete k) as (λ b. IsPart (reads (cond b (k ∷ filter (is_kept incomplete) h) (filter (is_kept incomplete) h)) ++ base) (k.read ∷ (reads h ++ base))) [
  | true ↦ inl (refl, kept_part base incomplete h)
  | false ↦ part_more (reads_kept incomplete h ++ base) (reads h ++ base) k.read (kept_part base incomplete h)
]

-- if none of them lists an incomplete trigger, all are kept
pub all_kept : (incomplete : List Trigger) (past : History) (es : List Shown) → list_any (λ (e : Shown). list_any (lists incomplete) e.triggers) es ≡ false → fold (kept_by incomplete) past es ≡ fold taken past es
all_kept incomplete past [] none = refl
all_kept incomplete past (e ∷ es) none =
    let here : list_any (lists incomplete) e.triggers ≡ false = or_left (list_any (lists incomplete) e.triggers) (list_any (λ (d : Shown). list_any (lists incomplete) d.triggers) es) none in
    let others = or_right (list_any (lists incomplete) e.triggers) (list_any (λ (d : Shown). list_any (lists incomplete) d.triggers) es) none in
    ap (λ (b : Bool). fold (kept_by incomplete) (if b then past else change e.scope e.cause ∷ past) es) here ∙ all_kept incomplete (taken past e) es others

-- what is kept after a base is part of the log
pub kept_accepted : (incomplete : List Trigger) (newer base : List Entry) → Fits (newer ++ base) → Accepted (reads_kept incomplete newer ++ reads base)
kept_accepted incomplete newer base f =
    part_accepted (reads_kept incomplete newer ++ reads base) (reads (newer ++ base))
    (subst (IsPart (reads_kept incomplete newer ++ reads base)) (reads_parts newer base) (kept_part (reads base) incomplete newer)) (all_accepted (newer ++ base) f)

pub scoped_of : (h : History) → Accepted h → Scoped h
scoped_of [] a = tt
scoped_of (e ∷ past) a = (a.0.scoped, scoped_of past a.1)

-- two lists that list the same triggers find the same
pub any_alike : (a b : List Trigger) → ((t : Trigger) → lists a t ≡ lists b t) → (es : List Shown) → list_any (λ (e : Shown). list_any (lists a) e.triggers) es ≡ list_any (λ (e : Shown). list_any (lists b) e.triggers) es
any_alike a b same [] = refl
any_alike a b same (e ∷ es) = ap₂ (λ x y. x || y) (lists_alike a b same e.triggers) (any_alike a b same es)
