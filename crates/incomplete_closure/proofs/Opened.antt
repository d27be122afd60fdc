-- A set is closed under what is open and the rows of reports exactly where no step of the reports leaves it.
use Rattle.std.proofs.Common.{ℕ, Bool, true, false, ◌&&◌, ◌==◌, Option, Some, None, List, [], ◌∷◌, map, ◌≡◌, ◌⊎◌, inl, inr, refl, sym, ◌∙◌, ap, subst, cond, arith, find, option_map, Less, nat_lt, nat_cmp, if◌then◌else◌}
use Rattle.std.specs.Prelude.{option_and_then}
use Rattle.std.specs.List.{AllByRecursion}
use Rattle.std.specs.List.Sorted.{IsStrictlySortedBy}
use Rattle.std.proofs.lemmas.Map.Keys.{sorted_head, sorted_tail, sorted_from_strictly_increasing}
use Rattle.std.proofs.lemmas.Bool.Decides.{nat_tests}
use Rattle.topology.specs.declared.names.Trigger.{Trigger}
use Rattle.topology.specs.declared.items.Sent.{Sent}
use Rattle.topology.specs.declared.items.Pending.{Pending}
use Rattle.topology.specs.Triggers.{lists}
use Rattle.topology.specs.Lists.{Among}
use Rattle.incomplete_closure.specs.declared.cut_rows.Row.{Row as TheRow}
use Rattle.incomplete_closure.specs.declared.session_rows.SessionRow.{SessionRow as TheSessionRow}
use Rattle.incomplete_closure.specs.declared.reports.Report.{Report as TheReport}
use Rattle.incomplete_closure.specs.declared.opening.OpenTrigger.{OpenTrigger}
use Rattle.incomplete_closure.specs.Reports.{Carrier, Row, SessionRow, Report, is_of, received_in, received, down, missing, of_item, of_pending, items_of, open_to}
use Rattle.incomplete_closure.specs.Blocked.{Open, Starts, shares, Precedes, Orders, Joins, Covers, StepsTo}
use Rattle.incomplete_closure.specs.Values.{IsValue, IsClosed}
use Rattle.incomplete_closure.specs.Seen.{row_seen, session_seen, report_seen, reports_seen}
use Rattle.incomplete_closure.specs.Opening.{row_of, received_of, down_of, with_down, if_open, of_node, open_at, waiting_at, open_in_row, open_in_rows, waiting_in, open_in_report, open_triggers}
use Rattle.incomplete_closure.specs.Closed.{is_due, ClosedAt, ClosedFrom, ClosedRows, ClosedFor, IsLeast}
use Rattle.incomplete_closure.specs.Together.{OfOneEpoch, nodes_of}
use Rattle.incomplete_closure.proofs.Listing.{and_both, both_and, some_passes, passes, in_front, at_end, in_either, in_map, of_map, in_flat, of_flat, each_at, all_from_each}
use Rattle.incomplete_closure.proofs.Carried.{missing_open, pending_open, OneOf, ByItem, ByRow, of_open}
use Rattle.incomplete_closure.proofs.Sorting.{found_passes}
use Rattle.incomplete_closure.proofs.Least.{a_value, least_is_value}

-- ---- session rows as the definitions see them

-- the test of a session row
abbrev pub row_is : ℕ → ℕ → TheSessionRow → Bool
row_is v s row = row.nbr == v && row.session == s

find_seen : (v s : ℕ) (rows : List TheSessionRow) → find (is_of v s) (map session_seen rows) ≡ option_map session_seen (find (row_is v s) rows)
find_seen v s [] = refl
find_seen v s (row ∷ rows) =
    elim (row_is v s row) as (λ b. cond b (Some (session_seen row)) (find (is_of v s) (map session_seen rows)) ≡ option_map session_seen (cond b (Some row) (find (row_is v s) rows))) [
      | true ↦ refl
      | false ↦ find_seen v s rows
    ]

received_by : (o : Option TheSessionRow) → received_in (option_map session_seen o) ≡ received_of o
received_by None = refl
received_by (Some row) = refl

-- a trigger as a list
abbrev single : Trigger → List Trigger
single t = t ∷ []

down_by : (o : Option TheSessionRow) → option_and_then (λ (row : SessionRow). row.down) (option_map session_seen o) ≡ option_map single (down_of o)
down_by None = refl
down_by (Some row) = refl

pub received_seen : (report : TheReport) (v s : ℕ) → received (report_seen report) v s ≡ received_of (row_of report v s)
received_seen report v s = ap received_in (find_seen v s report.sessions) ∙ received_by (row_of report v s)

pub down_seen : (report : TheReport) (v s : ℕ) → down (report_seen report) v s ≡ option_map single (down_of (row_of report v s))
down_seen report v s = ap (λ o. option_and_then (λ (row : SessionRow). row.down) o) (find_seen v s report.sessions) ∙ down_by (row_of report v s)

pub missing_is : (from to : TheReport) (item : Sent) → missing (report_seen from) (report_seen to) item ≡ (item.to == to.node && nat_lt (received_of (row_of to from.node item.session)) item.seq)
missing_is from to item = ap (λ n. item.to == to.node && nat_lt n item.seq) (received_seen to from.node item.session)

-- ---- the report of a node

is_less : (a b : ℕ) → nat_cmp a b ≡ Less → (a == b) ≡ false
is_less a b e = grind (arith, nat_tests)

same_self : (a : ℕ) → (a == a) ≡ true
same_self a = grind (arith, nat_tests)

node_found : (rs : List TheReport) → IsStrictlySortedBy nat_cmp (nodes_of rs) → (g : TheReport) → Among g rs → of_node rs g.node ≡ Some g
node_found [] sorted g a = absurd a
node_found (r ∷ rs) sorted g (inl e) = subst (λ z. of_node (r ∷ rs) z.node ≡ Some z) e (rw (same_self r.node) refl)
node_found (r ∷ rs) sorted g (inr a) =
    let below = each_at (λ y. nat_cmp r.node y ≡ Less) (nodes_of rs) g.node (sorted_head nat_cmp r.node (nodes_of rs) sorted) (in_map (λ (r : TheReport). r.node) rs g a) in
    rw (is_less r.node g.node below) (node_found rs (sorted_tail nat_cmp r.node (nodes_of rs) sorted) g a)

-- ---- open triggers and their carriers

is_node : (a b : ℕ) → (a == b) ≡ true → a ≡ b
is_node a b e = grind (arith, nat_tests)

turned : (a b : ℕ) → (a == b) ≡ true → (b == a) ≡ true
turned a b e = grind (arith, nat_tests)

-- an open trigger, with the triggers of the session's Down
abbrev Found : List TheReport → Report → Report → Carrier → Trigger → Type 0
Found rs from to carrier t = (o : OpenTrigger) × Among o (open_triggers rs) × (o.trigger ≡ t) × (option_map single o.down ≡ down to from.node carrier.session)

-- the Down of the session in the report
abbrev down_in : TheReport → TheReport → ℕ → Option Trigger
down_in f g s = down_of (row_of g f.node s)

item_carried : (rs : List TheReport) → IsStrictlySortedBy nat_cmp (nodes_of rs) → (f g : TheReport) (i : Sent) (t : Trigger) → Among g rs → (i.to == g.node) ≡ true → nat_lt (received_of (row_of g f.node i.session)) i.seq ≡ true
    → Among t i.triggers → Among (with_down (down_in f g i.session) t) (open_at (of_node rs i.to) f.node i)
item_carried rs sorted f g i t a to fewer ta =
    subst (λ o. Among (with_down (down_in f g i.session) t) (open_at o f.node i)) (sym (ap (of_node rs) (is_node i.to g.node to) ∙ node_found rs sorted g a))
    (subst (λ b. Among (with_down (down_in f g i.session) t) (if b then map (with_down (down_in f g i.session)) i.triggers else [])) (sym fewer)
    (in_map (with_down (down_in f g i.session)) i.triggers t ta))

row_carried : (rs : List TheReport) → IsStrictlySortedBy nat_cmp (nodes_of rs) → (f g : TheReport) (p : Pending) (t : Trigger) → Among g rs → (p.to == g.node) ≡ true
    → Among t p.triggers → Among (with_down (down_in f g p.session) t) (waiting_at (of_node rs p.to) f.node p)
row_carried rs sorted f g p t a to ta =
    subst (λ o. Among (with_down (down_in f g p.session) t) (waiting_at o f.node p)) (sym (ap (of_node rs) (is_node p.to g.node to) ∙ node_found rs sorted g a))
    (in_map (with_down (down_in f g p.session)) p.triggers t ta)

-- the row of an item
item_row : (f : TheReport) (i : Sent) → Among i (items_of (report_seen f)) → (k : TheRow) × Among k f.rows × Among i k.sent
item_row f i a =
    let r = of_flat (λ (row : Row). row.sent) (map row_seen f.rows) i a in
    let k = of_map row_seen f.rows r.0 r.1 in
    (k.0, k.1, subst (λ (z : Row). Among i z.sent) (sym k.2) r.2)

row_item : (f : TheReport) (k : TheRow) (i : Sent) → Among k f.rows → Among i k.sent → Among i (items_of (report_seen f))
row_item f k i ka ia = in_flat (λ (row : Row). row.sent) (map row_seen f.rows) (row_seen k) i (in_map row_seen f.rows k ka) ia

item_open : (rs : List TheReport) (f : TheReport) (k : TheRow) (i : Sent) (o : OpenTrigger) → Among f rs → Among k f.rows → Among i k.sent → Among o (open_at (of_node rs i.to) f.node i) → Among o (open_triggers rs)
item_open rs f k i o fa ka ia oa =
    in_flat (open_in_report rs) rs f o fa
    (in_front o (open_in_rows rs f.node f.rows) (waiting_in rs f.node f.pending)
    (in_flat (open_in_row rs f.node) f.rows k o ka (in_flat (λ (item : Sent). open_at (of_node rs item.to) f.node item) k.sent i o ia oa)))

row_open : (rs : List TheReport) (f : TheReport) (p : Pending) (o : OpenTrigger) → Among f rs → Among p f.pending → Among o (waiting_at (of_node rs p.to) f.node p) → Among o (open_triggers rs)
row_open rs f p o fa pa oa =
    in_flat (open_in_report rs) rs f o fa
    (at_end o (open_in_rows rs f.node f.rows) (waiting_in rs f.node f.pending)
    (in_flat (λ (row : Pending). waiting_at (of_node rs row.to) f.node row) f.pending p o pa oa))

one_found : (rs : List TheReport) → IsStrictlySortedBy nat_cmp (nodes_of rs) → (f g : TheReport) (c : Carrier) → Among f rs → Among g rs → OneOf (report_seen f) (report_seen g) c → (t : Trigger) → Among t c.triggers → Found rs (report_seen f) (report_seen g) c t
one_found rs sorted f g c fa ga (ByItem i ia gone is) t ta =
    let both = and_both (i.to == g.node) (nat_lt (received (report_seen g) f.node i.session) i.seq) gone in
    let fewer = subst (λ n. nat_lt n i.seq ≡ true) (received_seen g f.node i.session) both.1 in
    let k = item_row f i ia in
    subst (λ (z : Carrier). Among t z.triggers → Found rs (report_seen f) (report_seen g) z t) is
    (λ ta. (
      with_down (down_in f g i.session) t,
      item_open rs f k.0 i (with_down (down_in f g i.session) t) fa k.1 k.2 (item_carried rs sorted f g i t ga both.0 fewer ta),
      refl,
      sym (down_seen g f.node i.session),
    )) ta
one_found rs sorted f g c fa ga (ByRow p pa waits is) t ta =
    subst (λ (z : Carrier). Among t z.triggers → Found rs (report_seen f) (report_seen g) z t) is
    (λ ta. (
      with_down (down_in f g p.session) t,
      row_open rs f p (with_down (down_in f g p.session) t) fa pa (row_carried rs sorted f g p t ga waits ta),
      refl,
      sym (down_seen g f.node p.session),
    )) ta

open_found : (rs : List TheReport) → IsStrictlySortedBy nat_cmp (nodes_of rs) → (from to : Report) (c : Carrier) → Open (reports_seen rs) from to c → (t : Trigger) → Among t c.triggers → Found rs from to c t
open_found rs sorted from to c m t ta =
    let f = of_map report_seen rs from m.sender in
    let g = of_map report_seen rs to m.receiver in
    subst (λ (z : Report). Among c (open_to z to) → Found rs z to c t) f.2
    (subst (λ (w : Report). Among c (open_to (report_seen f.0) w) → Found rs (report_seen f.0) w c t) g.2
    (λ oa. one_found rs sorted f.0 g.0 c f.1 g.1 (of_open (report_seen f.0) (report_seen g.0) c oa) t ta))
    m.is_open

-- ---- a closed set: no step leaves it

no_list : (d : Option Trigger) → option_map single d ≡ None → d ≡ None
no_list None e = refl
no_list (Some t) e = absurd (cc e)

covered : (inside : Trigger → Bool) (s : Trigger) (closed : List Trigger) → Among s closed → inside s ≡ true → (d : Option Trigger) → option_map single d ≡ Some closed → is_due inside d ≡ true
covered inside s closed a i None e = refl
covered inside s closed a i (Some t) e = by (subst (λ z. Among s z) (sym (same_list e)) a)
  where
    same_list : ◌≡◌ {A = Option (List Trigger)} (Some (t ∷ [])) (Some closed) → t ∷ [] ≡ closed
    same_list f = cc f

    by : Among s (t ∷ []) → inside t ≡ true
    by (inl f) = subst (λ z. inside z ≡ true) (sym f) i
    by (inr f) = absurd f

starts_inside : (rs : List TheReport) → IsStrictlySortedBy nat_cmp (nodes_of rs) → (inside : Trigger → Bool) → ClosedFor (open_triggers rs) rs inside → (t : Trigger) → Starts (reports_seen rs) t → inside t ≡ true
starts_inside rs sorted inside closed t s =
    let o = open_found rs sorted s.from s.to s.carrier s.lacks t s.lists in
    let none = no_list o.0.down (o.3 ∙ s.unclosed) in
    subst (λ z. inside z ≡ true) o.2 (each_at (ClosedAt inside) (open_triggers rs) o.0 closed.items o.1 (subst (λ d. is_due inside d ≡ true) (sym none) refl))

covers_inside : (rs : List TheReport) → IsStrictlySortedBy nat_cmp (nodes_of rs) → (inside : Trigger → Bool) → ClosedFor (open_triggers rs) rs inside → (s t : Trigger) → Covers (reports_seen rs) s t → inside s ≡ true → inside t ≡ true
covers_inside rs sorted inside closed s t c i =
    let o = open_found rs sorted c.from c.to c.carrier c.lacks t c.lists in
    subst (λ z. inside z ≡ true) o.2 (each_at (ClosedAt inside) (open_triggers rs) o.0 closed.items o.1 (covered inside s c.closed c.names i o.0.down (o.3 ∙ c.closes)))

next_inside : (inside : Trigger → Bool) (row : TheRow) (later : List TheRow) (next : Row) (t : Trigger) → AllByRecursion (ClosedFrom inside row) later → Among next (map row_seen later) → Among t next.triggers → shares row.scope next.scope ≡ true → inside t ≡ true
next_inside inside row later next t closed a ta shared =
    let n = of_map row_seen later next a in
    subst (λ (z : Row). Among t z.triggers → shares row.scope z.scope ≡ true → inside t ≡ true) n.2
    (λ ta shared. each_at (λ t. inside t ≡ true) n.0.triggers t (each_at (ClosedFrom inside row) later n.0 closed n.1 shared) ta) ta shared

rows_step : (inside : Trigger → Bool) (rows : List TheRow) → ClosedRows inside rows → (s t : Trigger) → Precedes (map row_seen rows) s t → inside s ≡ true → inside t ≡ true
rows_step inside [] closed s t p i = absurd p
rows_step inside (row ∷ later) closed s t (inl (named, next, stands, named_next, shared)) i =
    next_inside inside row later next t (closed.0 (passes inside row.triggers s named i)).order stands named_next shared
rows_step inside (row ∷ later) closed s t (inr p) i = rows_step inside later closed.1 s t p i

orders_inside : (rs : List TheReport) (inside : Trigger → Bool) → ClosedFor (open_triggers rs) rs inside → (s t : Trigger) → Orders (reports_seen rs) s t → inside s ≡ true → inside t ≡ true
orders_inside rs inside closed s t o i =
    let r = of_map report_seen rs o.0 o.1 in
    subst (λ (z : Report). Precedes z.rows s t → inside t ≡ true) r.2
    (λ p. rows_step inside r.0.rows (each_at (λ (x : TheReport). ClosedRows inside x.rows) rs r.0 closed.rows r.1) s t p i) o.2

-- all triggers of a row are in the set if one of them is
together : (inside : Trigger → Bool) (rows : List TheRow) (row : Row) (s t : Trigger) → ClosedRows inside rows → Among row (map row_seen rows) → Among s row.triggers → Among t row.triggers → inside s ≡ true → inside t ≡ true
together inside [] row s t closed a sa ta i = absurd a
together inside (k ∷ rows) row s t closed (inl e) sa ta i =
    each_at (λ t. inside t ≡ true) k.triggers t
    (closed.0 (passes inside k.triggers s (subst (λ (z : Row). Among s z.triggers) (sym e) sa) i)).together (subst (λ (z : Row). Among t z.triggers) (sym e) ta)
together inside (k ∷ rows) row s t closed (inr a) sa ta i = together inside rows row s t closed.1 a sa ta i

joins_inside : (rs : List TheReport) (inside : Trigger → Bool) → ClosedFor (open_triggers rs) rs inside → (s t : Trigger) → Joins (reports_seen rs) s t → inside s ≡ true → inside t ≡ true
joins_inside rs inside closed s t j i =
    let r = of_map report_seen rs j.0 j.2 in
    subst (λ (z : Report). Among j.1 z.rows → inside t ≡ true) r.2
    (λ a. together inside r.0.rows j.1 s t (each_at (λ (x : TheReport). ClosedRows inside x.rows) rs r.0 closed.rows r.1) a j.4 j.5 i) j.3

steps_inside : (rs : List TheReport) → IsStrictlySortedBy nat_cmp (nodes_of rs) → (inside : Trigger → Bool) → ClosedFor (open_triggers rs) rs inside → (s t : Trigger) → StepsTo (reports_seen rs) s t → inside s ≡ true → inside t ≡ true
steps_inside rs sorted inside closed s t (inl o) i = orders_inside rs inside closed s t o i
steps_inside rs sorted inside closed s t (inr (inl j)) i = joins_inside rs inside closed s t j i
steps_inside rs sorted inside closed s t (inr (inr c)) i = covers_inside rs sorted inside closed s t c i

pub closed_seen : (rs : List TheReport) → IsStrictlySortedBy nat_cmp (nodes_of rs) → (inside : Trigger → Bool) → ClosedFor (open_triggers rs) rs inside → IsClosed (reports_seen rs) inside
closed_seen rs sorted inside closed = record {
  start = starts_inside rs sorted inside closed;
  step = steps_inside rs sorted inside closed;
}

-- ---- the other direction

module _ (rs : List TheReport) (inside : Trigger → Bool) (closed : IsClosed (reports_seen rs) inside) where
  -- an open trigger is in the set if its Down is
  carrier_inside : (f g : TheReport) (c : Carrier) → Open (reports_seen rs) (report_seen f) (report_seen g) c → (t : Trigger) → Among t c.triggers
      → (d : Option Trigger) → down (report_seen g) f.node c.session ≡ option_map single d → is_due inside d ≡ true → inside t ≡ true
  carrier_inside f g c lacks t ta None e due = closed.start t (record { from = report_seen f; to = report_seen g; carrier = c; lacks = lacks; unclosed = e; lists = ta })
  carrier_inside f g c lacks t ta (Some s) e due =
      closed.step s t (inr (inr (record { from = report_seen f; to = report_seen g; carrier = c; lacks = lacks; lists = ta; closed = single s; closes = e; names = inl refl }))) due

  -- each trigger of a carrier, with its Down
  carried_inside : (f g : TheReport) (c : Carrier) → Open (reports_seen rs) (report_seen f) (report_seen g) c → (o : OpenTrigger) → Among o (map (with_down (down_in f g c.session)) c.triggers) → ClosedAt inside o
  carried_inside f g c lacks o a =
      let t = of_map (with_down (down_in f g c.session)) c.triggers o a in
      subst (ClosedAt inside) t.2 (λ due. carrier_inside f g c lacks t.0 t.1 (down_in f g c.session) (down_seen g f.node c.session) due)

  if_open_inside : (f g : TheReport) (k : TheRow) (i : Sent) → Among f rs → Among g rs → Among k f.rows → Among i k.sent → (g.node == i.to) ≡ true
      → (o : OpenTrigger) → Among o (if_open (row_of g f.node i.session) i) → ClosedAt inside o
  if_open_inside f g k i fa ga ka ia to o a =
      (elim (nat_lt (received_of (row_of g f.node i.session)) i.seq) as (λ b. nat_lt (received_of (row_of g f.node i.session)) i.seq ≡ b
      → Among o (if b then map (with_down (down_in f g i.session)) i.triggers else []) → ClosedAt inside o) [
        | true ↦ λ fewer m. carried_inside f g (of_item i) (lacks fewer) o m
        | false ↦ λ fewer m. absurd m
      ]) refl a
    where
      lacks : nat_lt (received_of (row_of g f.node i.session)) i.seq ≡ true → Open (reports_seen rs) (report_seen f) (report_seen g) (of_item i)
      lacks fewer = record {
        sender = in_map report_seen rs f fa;
        receiver = in_map report_seen rs g ga;
        is_open = missing_open (report_seen f) (report_seen g) i (row_item f k i ka ia)
            (both_and (i.to == g.node) (nat_lt (received (report_seen g) f.node i.session) i.seq) (turned g.node i.to to) (subst (λ n. nat_lt n i.seq ≡ true) (sym (received_seen g f.node i.session)) fewer));
      }

  open_at_inside : (f : TheReport) (k : TheRow) (i : Sent) → Among f rs → Among k f.rows → Among i k.sent → (o : OpenTrigger) → Among o (open_at (of_node rs i.to) f.node i) → ClosedAt inside o
  open_at_inside f k i fa ka ia o a =
      (elim (of_node rs i.to) as (λ r. of_node rs i.to ≡ r → Among o (open_at r f.node i) → ClosedAt inside o) [
        | None ↦ λ e m. absurd m
        | Some g ↦ λ e m. let found = found_passes (λ (r : TheReport). r.node == i.to) rs g e in if_open_inside f g k i fa found.0 ka ia found.1 o m
      ]) refl a

  waiting_inside : (f : TheReport) (p : Pending) → Among f rs → Among p f.pending → (o : OpenTrigger) → Among o (waiting_at (of_node rs p.to) f.node p) → ClosedAt inside o
  waiting_inside f p fa pa o a =
      (elim (of_node rs p.to) as (λ r. of_node rs p.to ≡ r → Among o (waiting_at r f.node p) → ClosedAt inside o) [
        | None ↦ λ e m. absurd m
        | Some g ↦ λ e m.
            let found = found_passes (λ (r : TheReport). r.node == p.to) rs g e in
            carried_inside f g (of_pending p)
            (record {
              sender = in_map report_seen rs f fa;
              receiver = in_map report_seen rs g found.0;
              is_open = pending_open (report_seen f) (report_seen g) p pa (turned g.node p.to found.1);
            }) o m
      ]) refl a

  in_report : (f : TheReport) → Among f rs → (o : OpenTrigger) → Among o (open_in_rows rs f.node f.rows) ⊎ Among o (waiting_in rs f.node f.pending) → ClosedAt inside o
  in_report f fa o (inl a) =
      let k = of_flat (open_in_row rs f.node) f.rows o a in
      let i = of_flat (λ (item : Sent). open_at (of_node rs item.to) f.node item) k.0.sent o k.2 in
      open_at_inside f k.0 i.0 fa k.1 i.1 o i.2
  in_report f fa o (inr a) =
      let p = of_flat (λ (row : Pending). waiting_at (of_node rs row.to) f.node row) f.pending o a in
      waiting_inside f p.0 fa p.1 o p.2

  items_inside : AllByRecursion (ClosedAt inside) (open_triggers rs)
  items_inside =
      all_from_each (ClosedAt inside) (open_triggers rs)
      (λ o a.
      let f = of_flat (open_in_report rs) rs o a in
      in_report f.0 f.1 o (in_either o (open_in_rows rs f.0.node f.0.rows) (waiting_in rs f.0.node f.0.pending) f.2))

  rows_from : (rows : List TheRow) → ((row : TheRow) (s t : Trigger) → Among row rows → Among s row.triggers → Among t row.triggers → inside s ≡ true → inside t ≡ true)
      → ((s t : Trigger) → Precedes (map row_seen rows) s t → inside s ≡ true → inside t ≡ true) → ClosedRows inside rows
  rows_from [] joins step = tt
  rows_from (row ∷ later) joins step = (
    λ some.
        let s = some_passes inside row.triggers some in
        record {
          together = all_from_each (λ t. inside t ≡ true) row.triggers (λ t ta. joins row s.0 t (inl refl) s.1 ta s.2);
          order = all_from_each (ClosedFrom inside row) later
              (λ next a shared. all_from_each (λ t. inside t ≡ true) next.triggers
              (λ t ta. step s.0 t (inl (s.1, row_seen next, in_map row_seen later next a, ta, shared)) s.2));
        },
    rows_from later (λ k s t a b c. joins k s t (inr a) b c) (λ s t p. step s t (inr p)),
  )

  pub seen_closed : ClosedFor (open_triggers rs) rs inside
  seen_closed = record {
    items = items_inside;
    rows = all_from_each (λ (r : TheReport). ClosedRows inside r.rows) rs
        (λ r a. rows_from r.rows
        (λ row s t b sa ta i. closed.step s t (inr (inl (report_seen r, row_seen row, in_map report_seen rs r a, in_map row_seen r.rows row b, sa, ta))) i)
        (λ s t p i. closed.step s t (inl (report_seen r, in_map report_seen rs r a, p)) i));
  }

-- ---- the value

nodes_seen : (rs : List TheReport) → nodes_of rs ≡ map (λ (r : Report). r.node) (reports_seen rs)
nodes_seen [] = refl
nodes_seen (r ∷ rs) = ap (λ ns. r.node ∷ ns) (nodes_seen rs)

-- the least closed set is the set of incomplete triggers of the value
pub least_told : (rs : List TheReport) → OfOneEpoch rs → (nodes : List ℕ) (collected : List Trigger) → nodes ≡ nodes_of rs → IsLeast (open_triggers rs) rs collected → IsValue (reports_seen rs) (a_value nodes collected)
least_told rs one nodes collected same least =
    let sorted = sorted_from_strictly_increasing (nodes_of rs) one.nodes in
    least_is_value (reports_seen rs) nodes collected (same ∙ nodes_seen rs) least.ascending
    (closed_seen rs sorted (lists collected) least.closed)
    (λ inside closed t m. least.least inside (seen_closed rs inside closed) t m)
