-- Whatever is open from the report of a cut lists at least one trigger.
use Rattle.std.proofs.Common.{ℕ, true, false, Option, Some, None, List, [], ◌∷◌, filter, ◌≡◌, ◌≢◌, ⊎_elim, refl, sym, ◌∙◌, ap, subst}
use Rattle.std.specs.Prelude.{if◌then◌else◌}
use Rattle.topology.specs.declared.names.Trigger.{Trigger}
use Rattle.topology.specs.declared.names.Scope.{Scope}
use Rattle.topology.specs.declared.names.Scope.TheVariants.{One, All, Nothing}
use Rattle.topology.specs.declared.items.Sent.{Sent}
use Rattle.topology.specs.declared.items.Pending.{Pending}
use Rattle.topology.specs.Lists.{Among}
use Rattle.topology.specs.Net.{Net, neighbours, places}
use Rattle.topology.proofs.Unions.{union_none}
use Rattle.path_vector.specs.declared.causes.Cause.{Cause}
use Rattle.path_vector.specs.declared.causes.Cause.TheVariants.{Originate, Withdraw, Recv, Down, Up, Ready, Prefer, Flush}
use Rattle.path_vector.specs.Rules.{Rules}
use Rattle.path_vector.specs.History.{held, ready}
use Rattle.trigger_log.specs.Entries.{Entry, Update, reads, closes}
use Rattle.trigger_log.specs.Making.{making}
use Rattle.trigger_log.specs.Pending.{is_some_trigger, pending, is_pending, all_pending, pending_row, pending_to, pending_rows}
use Rattle.trigger_log.specs.Sending.{news, updates_sent, close_item, close_sent, sent_to, sent_by, next_number}
use Rattle.trigger_log.specs.Fits.{CauseFits, Fits, AllInherit, ListsFor}
use Rattle.trigger_log.proofs.Gathering.{changed_lists}
use Rattle.trigger_log.proofs.Listed.{news_each}
use Rattle.incomplete_closure.specs.Reports.{Carrier, Row, Report, open_to}
use Rattle.incomplete_closure.proofs.Listing.{in_either, of_flat, of_map, each_at}
use Rattle.epoch_report.specs.Reporting.{entry_rows, report_of}
use Rattle.cut_laws.proofs.Olden.{older_fits}
use Rattle.cut_laws.proofs.Listing.{all_list}
use Rattle.rest_laws.proofs.AtCuts.{older_inherits}
use Rattle.rest_laws.proofs.ValueClosed.{of_filter, OneOf, ByItem, ByRow, of_open}
use Rattle.drop_laws.proofs.Later.{from_sent}
use Rattle.drop_laws.proofs.Contained.{of_row}

-- a list with a trigger is not empty
has_some : (ts : List Trigger) → is_some_trigger ts ≡ true → ts ≢ []
has_some [] e none = absurd (cc e)
has_some (t ∷ ts) e none = cc none

-- an entry that ends a session lists a trigger
close_some : (h : List Entry) (scope : Scope) (cause : Cause) (w s : ℕ) (ts : List Trigger) → CauseFits h scope cause → ListsFor scope ts → closes cause w s ≡ true → ts ≢ []
close_some h (One p) cause w s ts f l q = l
close_some h All cause w s ts f l q = l
close_some h Nothing Originate w s ts f l q = absurd f
close_some h Nothing Withdraw w s ts f l q = absurd f
close_some h Nothing (Recv v t n path) w s ts f l q = absurd f
close_some h Nothing (Down v t) w s ts f l q = absurd f
close_some h Nothing (Up v t) w s ts f l q = absurd f
close_some h Nothing (Ready v t) w s ts f l q = absurd f
close_some h Nothing (Prefer v x) w s ts f l q = absurd f
close_some h Nothing (Flush v) w s ts f l q = absurd (cc q)

module _ (rules : Rules) (net : Net) (u w : ℕ) where
  updates_some : (h : List Entry) (k : Entry) (session : Option ℕ) (i : Sent) → Fits (k ∷ h) → ListsFor k.read.scope k.triggers → Among i (updates_sent (making rules net u h k) w session) → i.triggers ≢ []
  updates_some h k None i f l a = absurd a
  updates_some h k (Some s) i f l a =
      let one = from_sent rules net u w s (next_number rules net u h w s) (news rules net u h k w) i a in
      let each = news_each (λ (x : Update). x.triggers ≢ []) (making rules net u h k) w (λ p low c. changed_lists rules net u k h w p f l c) (λ p low flush some. has_some (pending rules net u h w p) some) in
      subst (λ (z : List Trigger). z ≢ []) one.2 (each_at (λ (x : Update). x.triggers ≢ []) (news rules net u h k w) one.0 each one.1)

  closes_some : (h : List Entry) (k : Entry) (session : Option ℕ) (i : Sent) → Fits (k ∷ h) → ListsFor k.read.scope k.triggers → Among i (close_sent (making rules net u h k) w session) → i.triggers ≢ []
  closes_some h k None i f l a = absurd a
  closes_some h k (Some s) i f l a =
      (elim (closes k.read.cause w s) as (λ c. closes k.read.cause w s ≡ c → Among i (if c then close_item (making rules net u h k) w s ∷ [] else []) → i.triggers ≢ []) [
        | true ↦ λ e m. ⊎_elim (λ (q : close_item (making rules net u h k) w s ≡ i). is e q) (λ none. absurd none) m
        | false ↦ λ e m. absurd m
      ]) refl a
    where
      is : closes k.read.cause w s ≡ true → close_item (making rules net u h k) w s ≡ i → i.triggers ≢ []
      is e q none = close_some h k.read.scope k.read.cause w s k.triggers f.0 l e (union_none k.triggers (all_pending rules net u h w) (ap (λ (j : Sent). j.triggers) q ∙ none)).0

  row_some : (h : List Entry) (session : Option ℕ) (row : Pending) → Among row (pending_to rules net u h w session) → row.triggers ≢ []
  row_some h None row a = absurd a
  row_some h (Some s) row a =
      let one = of_map (pending_row (pending rules net u h w) w s) (filter (is_pending rules net u h w) (places net)) row a in
      subst (λ (r : Pending). r.triggers ≢ []) one.2 (has_some (pending rules net u h w one.0) (of_filter (is_pending rules net u h w) (places net) one.0 one.1).1)

module _ (rules : Rules) (net : Net) (u : ℕ) where
  -- each item of an entry lists a trigger
  sent_some : (h : List Entry) (k : Entry) (i : Sent) → Fits (k ∷ h) → ListsFor k.read.scope k.triggers → Among i (sent_by rules net u h k) → i.triggers ≢ []
  unfolding sent_by
  sent_some h k i f l a =
      let to = of_flat (sent_to rules net u h k) (neighbours net u) i a in
      ⊎_elim
      (λ (x : Among i (updates_sent (making rules net u h k) to.0 (held (k.read ∷ reads h) to.0))). updates_some rules net u to.0 h k (held (k.read ∷ reads h) to.0) i f l x)
      (λ (x : Among i (close_sent (making rules net u h k) to.0 (ready (reads h) to.0))). closes_some rules net u to.0 h k (ready (reads h) to.0) i f l x)
      (in_either i (updates_sent (making rules net u h k) to.0 (held (k.read ∷ reads h) to.0)) (close_sent (making rules net u h k) to.0 (ready (reads h) to.0)) to.2)

  -- each row of what is held back lists a trigger
  rows_some : (h : List Entry) (row : Pending) → Among row (pending_rows rules net u h) → row.triggers ≢ []
  unfolding pending_rows
  rows_some h row a =
      let one = of_flat (λ w. pending_to rules net u h w (held (reads h) w)) (neighbours net u) row a in
      row_some rules net u one.0 h (held (reads h) one.0) row one.2

  -- each open carrier lists a trigger
  pub open_some : (e : ℕ) (h : List Entry) (to : Report) (c : Carrier) → Fits h → AllInherit u h → Among c (open_to (report_of rules net u e h) to) → c.triggers ≢ []
  unfolding report_of
  open_some e h to c f inherits a = by (of_open (report_of rules net u e h) to c a)
    where
      by : OneOf (report_of rules net u e h) to c → c.triggers ≢ []
      by (ByItem i stands misses is) =
          let row = of_flat (λ (r : Row). r.sent) (entry_rows rules net u h) i stands in
          let found = of_row rules net u h row.0 row.1 in
          let k : List Entry = found.0 ∷ found.1 in
          let list = all_list u k (older_fits h k found.2 f) (older_inherits u h k found.2 inherits) in
          subst (λ (z : Carrier). z.triggers ≢ []) is (sent_some found.1 found.0 i (older_fits h k found.2 f) list.0 (subst (λ (r : Row). Among i r.sent) (sym found.3) row.2))
      by (ByRow row stands goes is) = subst (λ (z : Carrier). z.triggers ≢ []) is (rows_some h row stands)
