-- In every run no item, and no update that is held back, lists more triggers than all nodes gave together.
use Rattle.std.proofs.Common.{ℕ, suc, true, false, ⊎_elim, inl, inr, Option, Some, None, List, [], ◌∷◌, ◌++◌, ◌≡◌, ◌≤◌, subst, filter, length}
use Rattle.std.specs.Prelude.{if◌then◌else◌}
use Rattle.std.specs.List.{AllByRecursion, sum_by}
use Rattle.topology.specs.declared.names.Trigger.{Trigger}
use Rattle.topology.specs.declared.items.Sent.{Sent}
use Rattle.topology.specs.declared.items.Pending.{Pending}
use Rattle.topology.specs.Lists.{has, Among}
use Rattle.topology.specs.Triggers.{Ascend}
use Rattle.topology.specs.Net.{Net, IsValid, neighbours, places}
use Rattle.path_vector.specs.Rules.{Rules}
use Rattle.path_vector.specs.History.{held, ready}
use Rattle.trigger_log.specs.Entries.{Entry, Update, reads, closes, locals}
use Rattle.trigger_log.specs.Fits.{Fits}
use Rattle.trigger_log.specs.Making.{making}
use Rattle.trigger_log.specs.Pending.{pending, is_pending, pending_row, pending_to, pending_rows}
use Rattle.trigger_log.specs.Sending.{Lists, news, next_number, sent_from, updates_sent, close_item, close_sent, sent_to, sent_by, sent_of}
use Rattle.trigger_log.proofs.HeldRows.{pending_ascends, close_ascends}
use Rattle.trigger_log.proofs.Listed.{sent_listed, pending_rows_listed}
use Rattle.incomplete_closure.proofs.Listing.{in_either, of_flat, of_map, all_from_each}
use Rattle.chronicle.specs.declared.events.Event.{Event}
use Rattle.chronicle.specs.Facts.{Chronicle}
use Rattle.chronicle.specs.Logs.{log_of}
use Rattle.chronicle.specs.Run.{after, chronicle_of, run, step}
use Rattle.agreement_laws.specs.Given.{IsGiven}
use Rattle.agreement_laws.proofs.InOrder.{IsOneOf, few_in_order}
use Rattle.world_core.specs.Happening.{ListsAreShort, ValuesAreSmall}
use Rattle.world_core.specs.Limits.{triggers_of}
use Rattle.world_core.proofs.Ascending.{AllAscend, news_ascend, run_ascends}
use Rattle.world_core.proofs.AfterSteps.{run-push}

-- ---- one log

-- an item of updates has the list of one of them
from_ascend : (w s n : ℕ) (xs : List Update) (item : Sent) → AllByRecursion (λ (x : Update). Ascend x.triggers) xs → Among item (sent_from w s n xs) → Ascend item.triggers
from_ascend w s n [] item up a = absurd a
from_ascend w s n (x ∷ xs) item up (inl e) = subst (λ (i : Sent). Ascend i.triggers) e up.0
from_ascend w s n (x ∷ xs) item up (inr a) = from_ascend w s (suc n) xs item up.1 a

-- the list ascends, and the log lists its triggers
record IsListed (h : List Entry) (ts : List Trigger) : Type 0 where
  rises : Ascend ts
  listed : (t : Trigger) → Among t ts → Lists h t

module _ (rules : Rules) (net : Net) (u : ℕ) where
  updates_ascend : (h : List Entry) (k : Entry) (w : ℕ) (session : Option ℕ) (item : Sent) → Ascend k.triggers → Among item (updates_sent (making rules net u h k) w session) → Ascend item.triggers
  updates_ascend h k w None item own a = absurd a
  updates_ascend h k w (Some s) item own a = from_ascend w s (next_number rules net u h w s) (news rules net u h k w) item (news_ascend rules net u h k w own) a

  close_item_ascends : (h : List Entry) (k : Entry) (w : ℕ) (session : Option ℕ) (item : Sent) → Among item (close_sent (making rules net u h k) w session) → Ascend item.triggers
  close_item_ascends h k w None item a = absurd a
  close_item_ascends h k w (Some s) item a =
      (elim (closes k.read.cause w s) as (λ b. Among item (if b then close_item (making rules net u h k) w s ∷ [] else []) → Ascend item.triggers) [
        | true ↦ λ c. ⊎_elim (λ (e : close_item (making rules net u h k) w s ≡ item). subst (λ (i : Sent). Ascend i.triggers) e (close_ascends rules net u h k w)) (λ none. absurd none) c
        | false ↦ λ c. absurd c
      ]) a

  -- the list of an item that an entry lists ascends
  sent_ascends : (h : List Entry) (k : Entry) (item : Sent) → Ascend k.triggers → Among item (sent_by rules net u h k) → Ascend item.triggers
  unfolding sent_by
  sent_ascends h k item own a =
      let one = of_flat (sent_to rules net u h k) (neighbours net u) item a in
      ⊎_elim
      (λ (x : Among item (updates_sent (making rules net u h k) one.0 (held (k.read ∷ reads h) one.0))). updates_ascend h k one.0 (held (k.read ∷ reads h) one.0) item own x)
      (λ (x : Among item (close_sent (making rules net u h k) one.0 (ready (reads h) one.0))). close_item_ascends h k one.0 (ready (reads h) one.0) item x)
      (in_either item (updates_sent (making rules net u h k) one.0 (held (k.read ∷ reads h) one.0)) (close_sent (making rules net u h k) one.0 (ready (reads h) one.0)) one.2)

  -- so it is with each item of a log
  sent_is : (h : List Entry) (item : Sent) → Fits h → AllAscend h → Among item (sent_of rules net u h) → IsListed h item.triggers
  unfolding sent_of
  sent_is [] item f up a = absurd a
  sent_is (k ∷ h) item f up a = ⊎_elim
      (λ (old : Among item (sent_of rules net u h)).
      let before = sent_is h item f.1 up.1 old in
      record { rises = before.rises; listed = λ t b. inr (before.listed t b) })
      (λ (new : Among item (sent_by rules net u h k)). record { rises = sent_ascends h k item up.0 new; listed = λ t b. (sent_listed rules net u h k item t f new b).1 })
      (in_either item (sent_of rules net u h) (sent_by rules net u h k) a)

  row_ascends : (h : List Entry) (w : ℕ) (session : Option ℕ) (row : Pending) → Among row (pending_to rules net u h w session) → Ascend row.triggers
  row_ascends h w None row a = absurd a
  row_ascends h w (Some s) row a =
      let one = of_map (pending_row (pending rules net u h w) w s) (filter (is_pending rules net u h w) (places net)) row a in
      subst (λ (r : Pending). Ascend r.triggers) one.2 (pending_ascends rules net u h w one.0)

  -- and with each row of what is held back
  waiting_is : (h : List Entry) (row : Pending) → Fits h → Among row (pending_rows rules net u h) → IsListed h row.triggers
  unfolding pending_rows
  waiting_is h row f a =
      let one = of_flat (λ w. pending_to rules net u h w (held (reads h) w)) (neighbours net u) row a in
      record { rises = row_ascends h one.0 (held (reads h) one.0) row one.2; listed = λ t b. (pending_rows_listed rules net u h row t f a b).1 }

-- ---- all nodes

-- a list in rising order of given triggers is no longer than all that were given
short : (net : Net) (past : Chronicle) (u : ℕ) (ts : List Trigger) → ((t : Trigger) → Lists (log_of u past) t → IsGiven net past t) → IsListed (log_of u past) ts
    → length ts ≤ sum_by (λ v. locals (log_of v past)) net.nodes
short net past u ts given is =
    few_in_order (λ v. locals (log_of v past)) net.nodes ts is.rises
    (all_from_each (IsOneOf (λ v. locals (log_of v past)) net.nodes) ts (λ t a. let one = given t (is.listed t a) in (one.node, one.positive, one.given)))

module _ (rules : Rules) (net : Net) (past : Chronicle) (u : ℕ) (fits : Fits (log_of u past)) (up : AllAscend (log_of u past)) (given : (t : Trigger) → Lists (log_of u past) t → IsGiven net past t) where
  -- an item that a node sent
  pub sent_short : (item : Sent) → Among item (sent_of rules net u (log_of u past)) → length item.triggers ≤ sum_by (λ v. locals (log_of v past)) net.nodes
  sent_short item a = short net past u item.triggers given (sent_is rules net u (log_of u past) item fits up a)

  -- an update that it holds back
  pub waiting_short : (row : Pending) → Among row (pending_rows rules net u (log_of u past)) → length row.triggers ≤ sum_by (λ v. locals (log_of v past)) net.nodes
  waiting_short row a = short net past u row.triggers given (waiting_is rules net u (log_of u past) row fits a)

-- after one more event no list is too long
pub lists_after : (rules : Rules) (net : Net) (events : List Event) (event : Event) → IsValid net → ValuesAreSmall net (chronicle_of (run rules net events) (step rules net (run rules net events) event))
    → ((u : ℕ) → Fits (log_of u (run rules net (events ++ event ∷ []))))
    → ((u : ℕ) (t : Trigger) → has net.nodes u ≡ true → Lists (log_of u (run rules net (events ++ event ∷ []))) t → IsGiven net (run rules net (events ++ event ∷ [])) t)
    → ListsAreShort rules net (chronicle_of (run rules net events) (step rules net (run rules net events) event))
unfolding after triggers_of
lists_after rules net events event valid values fits given =
    let all = events ++ event ∷ [] in
    let now = run rules net all in
    record {
      values = values;
      sent = subst (λ c. (u : ℕ) (item : Sent) → has net.nodes u ≡ true → Among item (sent_of rules net u (log_of u c)) → length item.triggers ≤ sum_by (λ v. locals (log_of v c)) net.nodes) (run-push rules net events event)
          (λ u item node a. sent_short rules net now u (fits u) (run_ascends rules net all u valid) (λ t. given u t node) item a);
      waiting = subst (λ c. (u : ℕ) (row : Pending) → has net.nodes u ≡ true → Among row (pending_rows rules net u (log_of u c)) → length row.triggers ≤ sum_by (λ v. locals (log_of v c)) net.nodes) (run-push rules net events event)
          (λ u row node a. waiting_short rules net now u (fits u) (run_ascends rules net all u valid) (λ t. given u t node) row a);
    }
