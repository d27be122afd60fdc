-- What the triggers of all nodes say of the values that are proposed, and of lists.
use Rattle.std.proofs.Common.{ℕ, true, false, ◌==◌, ◌||◌, List, [], ◌∷◌, ◌++◌, ◌≡◌, ◌<◌, ◌≤◌, ⊎_elim, inl, inr, refl, subst, arith, length}
use Rattle.std.specs.List.{list_any, sum_by}
use Rattle.std.proofs.lemmas.Bool.Decides.{nat_tests}
use Rattle.topology.specs.declared.ballots.Ballot.{Ballot}
use Rattle.topology.specs.declared.items.Pending.{Pending}
use Rattle.topology.specs.declared.items.Sent.{Sent}
use Rattle.topology.specs.Lists.{has, Among}
use Rattle.topology.specs.Net.{Net}
use Rattle.path_vector.specs.Rules.{Rules}
use Rattle.trigger_log.specs.Entries.{locals}
use Rattle.trigger_log.specs.Pending.{pending_rows}
use Rattle.trigger_log.specs.Sending.{sent_of}
use Rattle.incomplete_closure.proofs.Listing.{some_passes, or_either}
use Rattle.incomplete_closure.specs.declared.values.Value.{Value}
use Rattle.paxos_core.specs.Facts.{Prepare, Promise, Accept, Accepted, Decision}
use Rattle.consolidator.specs.Messages.{Message, Reports, Agrees}
use Rattle.chronicle.specs.declared.events.Event.{Event}
use Rattle.chronicle.specs.Facts.{Fact, Chronicle, Mail}
use Rattle.chronicle.specs.Logs.{log_of}
use Rattle.chronicle.specs.Run.{after, chronicle_of, run, step}
use Rattle.node_core.specs.Counted.{is_long_item, is_long_row}
use Rattle.node_core.specs.NodeLimits.{is_large, is_too_large, has_large_value, has_long_list}
use Rattle.agreement_laws.specs.Given.{HasFewTriggers}
use Rattle.topology.specs.declared.limits.TheConstants.{MOST_TRIGGERS}
use Rattle.world_core.specs.Happening.{ListsAreShort, ValuesAreSmall}
use Rattle.world_core.specs.Limits.{triggers_of}
use Rattle.world_core.proofs.AfterSteps.{run-push}
use Rattle.world_core.proofs.Handed.{both_of}

-- what holds of the longer run holds after the event
pub values_after : (rules : Rules) (net : Net) (events : List Event) (event : Event)
    → ((from to e : ℕ) (b : Ballot) (value : Value) → Among (Mail from to (Agrees e (Accept b value))) (run rules net (events ++ event ∷ [])) → HasFewTriggers net (run rules net (events ++ event ∷ [])) value)
    → ValuesAreSmall net (chronicle_of (run rules net events) (step rules net (run rules net events) event))
unfolding after triggers_of
values_after rules net events event law =
    subst (λ now. (from to e : ℕ) (b : Ballot) (value : Value) → Among (Mail from to (Agrees e (Accept b value))) now → length value.incomplete ≤ sum_by (λ u. locals (log_of u now)) net.nodes)
    (run-push rules net events event) law

-- ---- a value that is too large

module _ (u n : ℕ) where
  -- no value that these facts propose has more triggers than n
  abbrev AreUpTo : List Fact → Type 0
  AreUpTo facts = (from to e : ℕ) (b : Ballot) (value : Value) → Among (Mail from to (Agrees e (Accept b value))) facts → length value.incomplete ≤ n

  large_message : (from to : ℕ) (m : Message) (facts : List Fact) → AreUpTo (Mail from to m ∷ facts) → is_large m ≡ true → MOST_TRIGGERS < n
  large_message from to (Agrees e (Accept b value)) facts few is = let most = few from to e b value (inl refl) in grind (arith, nat_tests, most, is)
  large_message from to (Reports r) facts few is = absurd (cc is)
  large_message from to (Agrees e (Prepare b)) facts few is = absurd (cc is)
  large_message from to (Agrees e (Promise b named)) facts few is = absurd (cc is)
  large_message from to (Agrees e (Accepted b)) facts few is = absurd (cc is)
  large_message from to (Agrees e (Decision value)) facts few is = absurd (cc is)

  large_fact : (f : Fact) (facts : List Fact) → AreUpTo (f ∷ facts) → is_too_large u f ≡ true → MOST_TRIGGERS < n
  large_fact (Mail from to m) facts few is = large_message from to m facts few (both_of (from == u) (is_large m) is).1
  large_fact other facts few is = absurd (cc is)

  large_facts : (facts : List Fact) → AreUpTo facts → has_large_value u facts ≡ true → MOST_TRIGGERS < n
  large_facts [] few is = absurd (cc is)
  large_facts (f ∷ facts) few is =
      (elim (is_too_large u f) as (λ t. is_too_large u f ≡ t → (t || has_large_value u facts) ≡ true → MOST_TRIGGERS < n) [
        | true ↦ λ here any. large_fact f facts few here
        | false ↦ λ off any. large_facts facts (λ from to e b value a. few from to e b value (inr a)) any
      ]) refl is

-- ---- a list that is too long

-- one of some is too long
long_item : (n : ℕ) (items : List Sent) → ((item : Sent) → Among item items → length item.triggers ≤ n) → list_any is_long_item items ≡ true → MOST_TRIGGERS < n
long_item n items few is =
    let one = some_passes is_long_item items is in
    let most = few one.0 one.1 in
    let long = one.2 in
    grind (arith, nat_tests, most, long)

long_row : (n : ℕ) (rows : List Pending) → ((row : Pending) → Among row rows → length row.triggers ≤ n) → list_any is_long_row rows ≡ true → MOST_TRIGGERS < n
long_row n rows few is =
    let one = some_passes is_long_row rows is in
    let most = few one.0 one.1 in
    let long = one.2 in
    grind (arith, nat_tests, most, long)

-- an item that a node sent, or an update that it holds back
long_list : (rules : Rules) (net : Net) (u : ℕ) (now : Chronicle) → has net.nodes u ≡ true → ListsAreShort rules net now → has_long_list rules net u now ≡ true → MOST_TRIGGERS < triggers_of net now
unfolding has_long_list
long_list rules net u now node short is = ⊎_elim
    (λ (item : list_any is_long_item (sent_of rules net u (log_of u now)) ≡ true). long_item (triggers_of net now) (sent_of rules net u (log_of u now)) (λ item a. short.sent u item node a) item)
    (λ (row : list_any is_long_row (pending_rows rules net u (log_of u now)) ≡ true). long_row (triggers_of net now) (pending_rows rules net u (log_of u now)) (λ row a. short.waiting u row node a) row)
    (or_either (list_any is_long_item (sent_of rules net u (log_of u now))) (list_any is_long_row (pending_rows rules net u (log_of u now))) is)

-- where a node proposed such a value, or has such a list, the triggers of all are too many
pub too_many_triggers : (rules : Rules) (net : Net) (u : ℕ) (now : Chronicle) → has net.nodes u ≡ true → ListsAreShort rules net now → (has_large_value u now || has_long_list rules net u now) ≡ true → MOST_TRIGGERS < triggers_of net now
too_many_triggers rules net u now node short is = ⊎_elim
    (λ (value : has_large_value u now ≡ true). large_facts u (triggers_of net now) now short.values value)
    (λ (list : has_long_list rules net u now ≡ true). long_list rules net u now node short list)
    (or_either (has_large_value u now) (has_long_list rules net u now) is)
