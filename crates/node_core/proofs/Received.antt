-- What a node keeps where it takes an item.
use Rattle.std.proofs.Common.{ℕ, Option, List, ◌∷◌, ◌≡◌, refl, sym, subst}
use Rattle.topology.specs.declared.items.Item.{Item as Message}
use Rattle.topology.specs.declared.items.Item.TheVariants as message
use Rattle.topology.specs.declared.names.Trigger.{Trigger}
use Rattle.topology.specs.declared.names.Scope.TheVariants.{One, All}
use Rattle.topology.specs.Net.{Net}
use Rattle.path_vector.specs.declared.causes.Cause.TheVariants.{Recv, Ready}
use Rattle.path_vector.specs.Rules.{Rules}
use Rattle.path_vector.specs.History.{ready}
use Rattle.trigger_log.specs.Entries.{Update, entry, local, reads}
use Rattle.trigger_log.specs.Going.{News, Marker, Hello, item_of}
use Rattle.marker_snapshot.specs.Acts.{SnapshotActs, Hears}
use Rattle.marker_snapshot.specs.Cuts.{Continues}
use Rattle.marker_snapshot.specs.Standing.{StandsFor as SnapshotsStandFor}
use Rattle.chronicle.specs.Facts.{Chronicle, Took}
use Rattle.chronicle.specs.Inputs.{arrival}
use Rattle.chronicle.specs.Logs.{log_of}
use Rattle.chronicle.specs.Steps.{Carried, write, meet_mark, unless_ready, take_item}
use Rattle.cut_laws.specs.Own.{Own}
use Rattle.node_core.specs.declared.node.Node.{Node}
use Rattle.node_core.specs.Deciding.{MayTake}
use Rattle.node_core.specs.Keeping.{Keeps, KeepsAllBut, MayEnter}
use Rattle.node_core.specs.Reports.{AreReports}
use Rattle.node_core.proofs.Alike.{news_alike, continues}
use Rattle.node_core.proofs.Raising.{told_keeps, log_meet}

module _ (rules : Rules) (net : Net) (u : ℕ) (carried : Carried) (past : Chronicle) (v s : ℕ) (Q : Chronicle → Type 0) where
  -- a marker is met
  pub marker_taken : (item : Message) (e : ℕ) → item ≡ message.Marker e → Q (meet_mark rules net carried u e (Took v u s (Marker e) ∷ past)) → Q (take_item rules net carried u (arrival v s (item_of item)) past)
  unfolding take_item
  marker_taken item e is made = subst (λ i. Q (take_item rules net carried u (arrival v s (item_of i)) past)) (sym is) made

  -- a greeting is met, and then greets
  pub hello_taken : (item : Message) (e : ℕ) → item ≡ message.Hello e
      → (let now = meet_mark rules net carried u e (Took v u s (Hello e) ∷ past) in Q (unless_ready (ready (reads (log_of u now)) v) now (write rules net carried u (local u (log_of u now) All (Ready v s)) now)))
      → Q (take_item rules net carried u (arrival v s (item_of item)) past)
  unfolding take_item
  hello_taken item e is made =
      let now = meet_mark rules net carried u e (Took v u s (Hello e) ∷ past) in
      subst (λ i. Q (take_item rules net carried u (arrival v s (item_of i)) past)) (sym is)
      (subst (λ h. Q (unless_ready (ready (reads h) v) now (write rules net carried u (local u (log_of u now) All (Ready v s)) now))) (log_meet rules net u carried (Took v u s (Hello e) ∷ past) e) made)

  -- an update is entered
  pub news_taken : (item : Message) (p n : ℕ) (ts : List Trigger) (path : Option (List ℕ)) → item ≡ message.Update p n ts path
      → Q (write rules net carried u (entry ts (One p) (Recv v s n path)) (Took v u s (News n (record { prefix = p; triggers = ts; path = path })) ∷ past))
      → Q (take_item rules net carried u (arrival v s (item_of item)) past)
  unfolding take_item
  news_taken item p n ts path is made = subst (λ i. Q (take_item rules net carried u (arrival v s (item_of i)) past)) (sym is) made

module _ {P : Type 0} (policy : P) (rules : Rules) (net : Net) (u : ℕ) (past : Chronicle) (v s : ℕ) (item : Message) (p n : ℕ) (ts : List Trigger) (path : Option (List ℕ)) (is : item ≡ message.Update p n ts path)
    (may : MayTake net u past v s (item_of item)) where
  -- it may be taken, as an update
  may_so : MayTake net u past v s (News n (record { prefix = p; triggers = ts; path = path }))
  may_so = subst (λ i. MayTake net u past v s (item_of i)) is may

  -- it may be entered
  pub may_enter : MayEnter net u (log_of u past) (entry ts (One p) (Recv v s n path))
  may_enter = record { near = may_so.near; placed = may_so.placed; fits = (may_so.held, may_so.in_turn); lists = may_so.may_hear.1 }

  -- the snapshots were told of it
  pub heard_keeps : (old new : Node P) → Own rules net past u → Keeps policy rules net u old past → KeepsAllBut old new → new.parts.value.agreement.reports ≡ old.parts.value.agreement.reports
      → ((acts : SnapshotActs) → SnapshotsStandFor net u old.parts.value.snapshots acts → Continues acts v s n → SnapshotsStandFor net u new.parts.value.snapshots (Hears v s n ∷ acts))
      → Keeps policy rules net u new (Took v u s (News n (record { prefix = p; triggers = ts; path = path })) ∷ past)
  heard_keeps old new own was rest same hears =
      let x : Update = record { prefix = p; triggers = ts; path = path } in
      told_keeps policy rules net u past (Took v u s (News n x) ∷ past) old new (Hears v s n ∷ was.acts) was rest refl refl
      (hears was.acts was.snapshots (continues rules net u past was.acts own was.alike v s n may_so.in_turn))
      (news_alike rules net u past was.acts own was.alike v s n x) (subst (AreReports rules net u past) (sym same) was.reports)
