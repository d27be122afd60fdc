-- What an input asks of a node, and why the node declines.
use Rattle.std.proofs.Common.{ℕ, suc, ◌≡◌, ◌<◌, ◌≤◌, true≢false, Bool, true, false, ◌==◌, nat_lt, Option, Some, None, List, [], ◌∷◌, ◌≢◌, refl, sym, ◌∙◌, ap, subst, arith, length}
use Rattle.std.specs.Prelude.{if◌then◌else◌, ◌↔◌, IsTrue, is_some, Ok, Err}
use Rattle.std.proofs.lemmas.Bool.Decides.{nat_tests}
use Rattle.topology.specs.declared.items.Item.{Item as Message}
use Rattle.topology.specs.declared.items.Item.TheVariants as message
use Rattle.topology.specs.declared.names.Trigger.{Trigger}
use Rattle.topology.specs.declared.paths.Path.{Path}
use Rattle.topology.specs.declared.names.Scope.TheVariants.{One, All, Nothing}
use Rattle.topology.specs.declared.status.Reason.{Reason}
use Rattle.topology.specs.declared.status.Reason.TheVariants as reason
use Rattle.topology.specs.Lists.{has}
use Rattle.topology.specs.Net.{Net, neighbours}
use Rattle.path_vector.specs.declared.causes.Cause.TheVariants as cause
use Rattle.path_vector.specs.Rules.{Rules}
use Rattle.path_vector.specs.History.{held, last, owns}
use Rattle.trigger_log.specs.Entries.{reads, flush, inbox, is_session, next_trigger}
use Rattle.trigger_log.specs.Fits.{MayFollow}
use Rattle.trigger_log.specs.Pending.{holds_some}
use Rattle.trigger_log.specs.Going.{Item, News, Marker, Hello, item_of}
use Rattle.chronicle.specs.Epochs.{epoch}
use Rattle.chronicle.specs.Facts.{Chronicle}
use Rattle.chronicle.specs.Giving.{answer, flushes, opens, out_of_turn}
use Rattle.chronicle.specs.Inputs.{Arrive, Flush, Notice, OpenSession, Originate, Withdraw, Prefer, Snap}
use Rattle.chronicle.specs.Logs.{log_of}
use Rattle.chronicle.specs.Steps.{Carried, Goes, Idle, write}
use Rattle.cut_laws.proofs.Marked.{session_is}
use Rattle.node_core.specs.declared.inputs.Input.{Input as Given}
use Rattle.node_core.specs.Inputs.{input_of}
use Rattle.node_core.specs.declared.duties.Duty.{Duty}
use Rattle.node_core.specs.declared.duties.Duty.TheVariants.{Enter, Open, Take, Flush as Flushes, Rise}
use Rattle.node_core.specs.Coming.{MayCome}
use Rattle.node_core.specs.Deciding.{IsInTurn, IsDecided}

-- an own entry lists something
some_next : (u : ℕ) (past : Chronicle) → (next_trigger u (log_of u past) ∷ []) ≢ []
some_next u past none = absurd (cc none)

-- what is not out of turn is in turn
in_turn : (u v s : ℕ) (past : Chronicle) (x : Item) → out_of_turn (suc (length (inbox (log_of u past) v s))) x ≡ None → IsInTurn u v s past x
in_turn u v s past (Marker e) is = tt
in_turn u v s past (Hello e) is = tt
in_turn u v s past (News n x) is =
    (elim (n == suc (length (inbox (log_of u past) v s))) as (λ b. (n == suc (length (inbox (log_of u past) v s))) ≡ b
    → (if b then None else Some (reason.WrongSeq (suc (length (inbox (log_of u past) v s))) n)) ≡ None → n ≡ suc (length (inbox (log_of u past) v s))) [
      | true ↦ λ same e. grind (arith, nat_tests)
      | false ↦ λ other e. absurd (cc e)
    ]) refl is

-- what is no update has no turn
pub no_turn : (next : ℕ) (item : Message) → ((p n : ℕ) (ts : List Trigger) (path : Option Path) → item ≡ message.Update p n ts path → ⊥) → out_of_turn next (item_of item) ≡ None
no_turn next (message.Update p n ts path) other = absurd (other p n ts path refl)
no_turn next (message.Marker e) other = refl
no_turn next (message.Hello e) other = refl

-- an update is the next one, or it is not
module _ (count next p n : ℕ) (ts : List Trigger) (path : Option Path) (item : Message) (is : item ≡ message.Update p n ts path) (after : next ≡ suc count) where
  pub its_turn : n ≡ next → out_of_turn (suc count) (item_of item) ≡ None
  its_turn same = let test : (n == next) ≡ true = grind (arith, nat_tests) in subst (λ m. out_of_turn m (item_of item) ≡ None) after (ap (λ x. out_of_turn next (item_of x)) is ∙ rw test refl)

  pub not_its_turn : (n ≡ next → ⊥) → out_of_turn (suc count) (item_of item) ≡ Some (reason.WrongSeq next n)
  not_its_turn apart = let test : (n == next) ≡ false = grind (arith, nat_tests) in subst (λ m. out_of_turn m (item_of item) ≡ Some (reason.WrongSeq next n)) after (ap (λ x. out_of_turn next (item_of x)) is ∙ rw test refl)

none_of : (o : Option ℕ) → is_some o ≡ false → o ≡ None
none_of None e = refl
none_of (Some x) e = absurd (cc e)

not_higher : (m n : ℕ) → (m < n → ⊥) → nat_lt m n ≡ false
not_higher m n most = let low : n ≤ m = omega (arith, most) in grind (arith, nat_tests)

-- where a session is held, none is opened
open_by : (carried : Carried) (u : ℕ) (past : Chronicle) (v s : ℕ) (session : Option ℕ) → is_some session ≡ true → opens carried u past v s session ≡ Idle reason.AlreadyOpen
open_by carried u past v s None e = absurd (cc e)
open_by carried u past v s (Some t) e = refl

some_if : (o p : Option ℕ) → o ≡ p → is_some o ≡ true → is_some p ≡ true
some_if o p same some = ap is_some (sym same) ∙ some

not_so : (b : Bool) → (b ≡ true → ⊥) → b ≡ false
not_so true off = absurd (off refl)
not_so false off = refl

-- where a session is held, what is held back decides
module _ (rules : Rules) (net : Net) (carried : Carried) (u : ℕ) (past : Chronicle) (v : ℕ) where
  flush_by : (session : Option ℕ) → is_some session ≡ true → holds_some rules net u (log_of u past) v ≡ true → flushes rules net carried u past v session ≡ Goes (write rules net carried u (flush v) past)
  flush_by None e so = absurd (cc e)
  flush_by (Some s) e so = rw so refl

  no_flush_by : (session : Option ℕ) → is_some session ≡ true → holds_some rules net u (log_of u past) v ≡ false → flushes rules net carried u past v session ≡ Idle reason.NothingPending
  no_flush_by None e so = absurd (cc e)
  no_flush_by (Some s) e so = rw so refl

-- what the log says of updates that were received, where it has no answer, and where it has one
none_received : (b : Bool) (n : ℕ) → (if b then Some n else None) ≡ None → b ≡ false
none_received true n e = absurd (cc e)
none_received false n e = refl

some_received : (b : Bool) (n count : ℕ) → (if b then Some n else None) ≡ Some count → (b ≡ true) × (count ≡ n)
some_received true n count e = (refl, cc e)
some_received false n count e = absurd (cc e)

module _ (rules : Rules) (net : Net) (u : ℕ) (past : Chronicle) where
  module _ (p : ℕ) (inside : p < length net.prefixes) (r : Bool) (owned : r ≡ owns (reads (log_of u past)) p) where
    pub originates : r ≡ false → IsDecided rules net u past (Originate p) (Ok (Enter (One p) cause.Originate))
    unfolding answer
    originates is =
        let test : owns (reads (log_of u past)) p ≡ false = sym owned ∙ is in
        (record { near = tt; placed = inside; fits = test; lists = some_next u past }, λ carried. rw test refl)

    pub originates_not : r ≡ true → IsDecided rules net u past (Originate p) (Err reason.AlreadyOrigin)
    unfolding answer
    originates_not is = let test : owns (reads (log_of u past)) p ≡ true = sym owned ∙ is in λ carried. rw test refl

    pub withdraws : r ≡ true → IsDecided rules net u past (Withdraw p) (Ok (Enter (One p) cause.Withdraw))
    unfolding answer
    withdraws is =
        let test : owns (reads (log_of u past)) p ≡ true = sym owned ∙ is in
        (record { near = tt; placed = inside; fits = test; lists = some_next u past }, λ carried. rw test refl)

    pub withdraws_not : r ≡ false → IsDecided rules net u past (Withdraw p) (Err reason.NotOrigin)
    unfolding answer
    withdraws_not is = let test : owns (reads (log_of u past)) p ≡ false = sym owned ∙ is in λ carried. rw test refl

  pub prefers : (v value : ℕ) → MayCome net u (Prefer v value) → IsDecided rules net u past (Prefer v value) (Ok (Enter All (cause.Prefer v value)))
  unfolding answer
  prefers v value may = (record { near = may; placed = tt; fits = tt; lists = some_next u past }, λ carried. refl)

  pub snaps : (e : ℕ) → e ≡ suc (epoch u past) → IsDecided rules net u past Snap (Ok (Rise e))
  unfolding answer
  snaps e next = rw next (omega arith, λ carried. refl)

  module _ (v : ℕ) (near : has (neighbours net u) v ≡ true) where
    module _ (o : Option ℕ) (holds : o ≡ held (reads (log_of u past)) v) where
      pub closes : (s : ℕ) → o ≡ Some s → IsDecided rules net u past (Notice v) (Ok (Enter All (cause.Down v s)))
      unfolding answer
      closes s is =
          let test : held (reads (log_of u past)) v ≡ Some s = sym holds ∙ is in
          (record { near = near; placed = tt; fits = test; lists = some_next u past }, λ carried. rw test refl)

      pub closes_not : o ≡ None → IsDecided rules net u past (Notice v) (Err reason.NotOpen)
      unfolding answer
      closes_not is = let test : held (reads (log_of u past)) v ≡ None = sym holds ∙ is in λ carried. rw test refl

      pub already_open : (s : ℕ) → is_some o ≡ true → IsDecided rules net u past (OpenSession v s) (Err reason.AlreadyOpen)
      unfolding answer
      already_open s some = λ carried. open_by carried u past v s (held (reads (log_of u past)) v) (ap is_some (sym holds) ∙ some)

      module _ (s : ℕ) (r : Bool) (fits : IsTrue r ↔ MayFollow rules net u (log_of u past) All (cause.Up v s)) where
        pub opens_higher : r ≡ true → IsDecided rules net u past (OpenSession v s) (Ok (Open v s))
        unfolding answer
        opens_higher is =
            let both = (fits.0 is).fits in
            let none : held (reads (log_of u past)) v ≡ None = both.0 in
            let higher : last (reads (log_of u past)) v < s = both.1 in
            let test : nat_lt (last (reads (log_of u past)) v) s ≡ true = grind (arith, nat_tests, higher) in
            (record { near = near; placed = tt; fits = both; lists = some_next u past }, λ carried. rw none (rw test refl))

        pub opens_old : is_some o ≡ false → r ≡ false → IsDecided rules net u past (OpenSession v s) (Err reason.OldSession)
        unfolding answer
        opens_old none is =
            let free : held (reads (log_of u past)) v ≡ None = sym holds ∙ none_of o none in
            let test : nat_lt (last (reads (log_of u past)) v) s ≡ false = not_higher (last (reads (log_of u past)) v) s (λ higher. true≢false (sym (fits.1 (record { fits = (free, higher); flushes = tt })) ∙ is)) in
            λ carried. rw free (rw test refl)

      module _ (r : Bool) (fits : IsTrue r ↔ MayFollow rules net u (log_of u past) Nothing (cause.Flush v)) where
        -- what is held back is sent
        pub flushes_held : is_some o ≡ true → r ≡ true → IsDecided rules net u past (Flush v) (Ok (Flushes v))
        unfolding answer
        flushes_held some is =
            let may : MayFollow rules net u (log_of u past) Nothing (cause.Flush v) = fits.0 is in (
              record { near = near; placed = tt; fits = may.fits; lists = refl },
              λ carried. flush_by rules net carried u past v (held (reads (log_of u past)) v) (some_if o (held (reads (log_of u past)) v) holds some) may.flushes,
            )

        -- nothing is
        pub flushes_nothing : is_some o ≡ true → r ≡ false → IsDecided rules net u past (Flush v) (Err reason.NothingPending)
        unfolding answer
        flushes_nothing some is =
            let holds_one = some_if o (held (reads (log_of u past)) v) holds some in
            let none : holds_some rules net u (log_of u past) v ≡ false = not_so (holds_some rules net u (log_of u past) v) (λ so. true≢false (sym (fits.1 (record { fits = holds_one; flushes = so })) ∙ is)) in
            λ carried. no_flush_by rules net carried u past v (held (reads (log_of u past)) v) holds_one none

      -- no session is held
      pub flushes_not : is_some o ≡ false → IsDecided rules net u past (Flush v) (Err reason.NotOpen)
      unfolding answer
      flushes_not none = λ carried. ap (flushes rules net carried u past v) (sym holds ∙ none_of o none)

    module _ (s : ℕ) (item : Message) (o : Option ℕ)
        (received : o ≡ (if is_session (held (reads (log_of u past)) v) s then Some (length (inbox (log_of u past) v s)) else None)) where
      -- the session is not held
      pub other_session : o ≡ None → (carried : Carried) → answer rules net carried u past (Arrive v s (item_of item)) ≡ Idle reason.WrongSession
      unfolding answer
      other_session none carried =
          let test : is_session (held (reads (log_of u past)) v) s ≡ false = none_received (is_session (held (reads (log_of u past)) v) s) (length (inbox (log_of u past) v s)) (sym received ∙ none) in
          rw test refl

      module _ (count : ℕ) (some : o ≡ Some count) where
        -- it is held, and this is how many came in it
        pub counted : (is_session (held (reads (log_of u past)) v) s ≡ true) × (count ≡ length (inbox (log_of u past) v s))
        counted = some_received (is_session (held (reads (log_of u past)) v) s) (length (inbox (log_of u past) v s)) count (sym received ∙ some)

        -- the item is not the next one
        pub wrong_turn : (why : Reason) → out_of_turn (suc count) (item_of item) ≡ Some why → (carried : Carried) → answer rules net carried u past (Arrive v s (item_of item)) ≡ Idle why
        unfolding answer
        wrong_turn why is carried =
            let test : is_session (held (reads (log_of u past)) v) s ≡ true = counted.0 in
            let out : out_of_turn (suc (length (inbox (log_of u past) v s))) (item_of item) ≡ Some why = ap (λ n. out_of_turn (suc n) (item_of item)) (sym counted.1) ∙ is in
            rw test (rw out refl)

        -- it is
        pub takes : MayCome net u (Arrive v s (item_of item)) → out_of_turn (suc count) (item_of item) ≡ None → IsDecided rules net u past (Arrive v s (item_of item)) (Ok (Take v s item))
        unfolding answer
        takes may is =
            let test : is_session (held (reads (log_of u past)) v) s ≡ true = counted.0 in
            let next : out_of_turn (suc (length (inbox (log_of u past) v s))) (item_of item) ≡ None = ap (λ n. out_of_turn (suc n) (item_of item)) (sym counted.1) ∙ is in (
              record {
                near = near;
                held = session_is (held (reads (log_of u past)) v) s test;
                in_turn = in_turn u v s past (item_of item) next;
                placed = may.1;
                may_hear = may.2;
              },
              λ carried. rw test (rw next refl),
            )
