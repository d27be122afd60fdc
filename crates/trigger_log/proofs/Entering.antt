-- A log with one more entry.
use Rattle.std.proofs.Common.{ℕ, suc, ◌≤◌, Bool, true, false, List, [], ◌∷◌, ◌≡◌, refl, sym, ◌∙◌, ap, subst, length, flat_map, map, take, Result, Ok, Err}
use Rattle.std.specs.Result.{OnOk}
use Rattle.std.specs.Prelude.{if◌then◌else◌, is_some}
use Rattle.std.proofs.lemmas.List.{take_all}
use Rattle.topology.specs.declared.names.Trigger.{Trigger}
use Rattle.topology.specs.declared.names.Scope.{Scope}
use Rattle.topology.specs.declared.names.Scope.TheVariants.{One, Nothing}
use Rattle.topology.specs.declared.items.Sent.{Sent}
use Rattle.topology.specs.Net.{Net, neighbours}
use Rattle.path_vector.specs.declared.causes.Cause.{Cause}
use Rattle.path_vector.specs.declared.causes.Cause.TheVariants.{Originate, Withdraw, Recv, Down, Up, Ready, Prefer, Flush}
use Rattle.path_vector.specs.Rules.{Rules}
use Rattle.path_vector.specs.History.{Accepts, change, held, ready}
use Rattle.path_vector.specs.Kept.{IsOfNeighbour}
use Rattle.path_vector.specs.declared.state.RouteState.{RouteState}
use Rattle.path_vector.specs.Selection.{best}
use Rattle.path_vector.specs.Answers.{Copies}
use Rattle.path_vector.specs.Standing.{StandsFor as RoutesStandFor}
use Rattle.trigger_log.specs.declared.best_routes.BestRoutes.{BestRoutes}
use Rattle.trigger_log.specs.declared.offers.Offer.{Offer}
use Rattle.trigger_log.specs.declared.listeners.Turn.{Turn}
use Rattle.trigger_log.specs.declared.sessions.SessionMark.{SessionMark}
use Rattle.trigger_log.specs.declared.listeners.Said.{Said}
use Rattle.trigger_log.specs.declared.log.NodeLog.{NodeLog}
use Rattle.trigger_log.specs.declared.kept_entries.KeptEntries.{KeptEntries}
use Rattle.trigger_log.specs.BestRoutes.{KeepsRoutes}
use Rattle.trigger_log.specs.Entries.{Entry, entry, reads, is_local, locals}
use Rattle.trigger_log.specs.Making.{Making, making}
use Rattle.trigger_log.specs.Sending.{sent_by, sent_to}
use Rattle.trigger_log.specs.Going.{going_of, going_by, going_in, spread, told}
use Rattle.trigger_log.specs.Fits.{CauseFits, Fits, ListsFor}
use Rattle.trigger_log.specs.HoldingBack.{HoldsBack}
use Rattle.trigger_log.specs.Entered.{Shows}
use Rattle.trigger_log.specs.KeptEntries.{KeepsEntries}
use Rattle.trigger_log.specs.Standing.{StandsFor}
use Rattle.trigger_log.specs.Telling.{Speech, silence}
use Rattle.trigger_log.specs.Marked.{Enters, ToldTo}
use Rattle.trigger_log.specs.Midway.{AreOffers, IsMidway}
use Rattle.trigger_log.specs.Offered.{Covers, IsPlaced, asked, updates_over}
use Rattle.trigger_log.proofs.Holding.{accepted}
use Rattle.trigger_log.proofs.Rounds.{told_all}

-- a log that keeps the same entries in another form
pub with_kept : {P : Type 0} (policy : P) (rules : Rules) (net : Net) (u : ℕ) (log : NodeLog P) (h : List Entry) (kept : KeptEntries P) → StandsFor policy rules net u log h → KeepsEntries policy rules net u kept h
    → StandsFor policy rules net u (record log { kept = kept }) h
with_kept policy rules net u log h kept was keeps = record {
  routes = was.routes;
  fitting = was.fitting;
  lists = was.lists;
  node = was.node;
  near = was.near;
  next = was.next;
  kept = keeps;
  marks = was.marks;
  held = was.held;
  chosen = was.chosen;
}

-- a log whose lists of what an entry tells have other contents
pub with_said : {P : Type 0} (policy : P) (rules : Rules) (net : Net) (u : ℕ) (log : NodeLog P) (h : List Entry) (said : Said) → StandsFor policy rules net u log h
    → StandsFor policy rules net u (record log { said = said }) h
with_said policy rules net u log h said was = record {
  routes = was.routes;
  fitting = was.fitting;
  lists = was.lists;
  node = was.node;
  near = was.near;
  next = was.next;
  kept = was.kept;
  marks = was.marks;
  held = was.held;
  chosen = was.chosen;
}

-- what holds after each success of a last call holds after the function
pub on_ok_by : {T E Q : Type 0} (r : Result T E) → ((x : T) → r ≡ Ok x → Q) → OnOk r Q
on_ok_by (Ok x) q = q x refl
on_ok_by (Err e) q = tt

module _ {P : Type 0} (policy : P) (rules : Rules) (net : Net) (u : ℕ) (h : List Entry) (triggers : List Trigger) (scope : Scope) (cause : Cause) where
  abbrev made : Entry
  made = entry triggers scope cause

  -- what is listed once all are told
  sent_all : (n : ℕ) (all : List Sent) → length (neighbours net u) ≤ n → all ≡ flat_map (sent_to rules net u h made) (take n (neighbours net u)) → all ≡ sent_by rules net u h made
  unfolding sent_by
  sent_all n all whole is = is ∙ ap (flat_map (sent_to rules net u h made)) (take_all n (neighbours net u) whole)

  -- what goes out once all are told
  pub went_out : (n : ℕ) (rows : List (List SessionMark)) (said : Speech) → length (neighbours net u) ≤ n → ToldTo (making rules net u h made) n rows silence said
      → map going_of said.out ≡ going_by rules net u h made
  unfolding going_by spread
  went_out n rows said whole was =
      was.out ∙ ap (flat_map (λ w. going_in w (told (making rules net u h made) w) (held (made.read ∷ reads h) w))) (take_all n (neighbours net u) whole)

  -- a log that keeps the entry stands for the entries with it
  pub entered : (old new : NodeLog P) (n : ℕ) (said : Speech) (kept : List Sent) → StandsFor policy rules net u old h → CauseFits h scope cause → ListsFor scope triggers
      → RoutesStandFor policy net u new.routes (made.read ∷ reads h) → new.node ≡ old.node → new.sessions.near ≡ old.sessions.near
      → new.next_count ≡ (if is_local cause then suc old.next_count else old.next_count)
      → ((k : Entry) → KeepsEntries policy rules net u old.kept h → Shows rules net u (record { before = h; entry = k }) (record { triggers = triggers; scope = scope; cause = cause; sent = kept }) → KeepsEntries policy rules net u new.kept (k ∷ h)) → kept ≡ said.sent
      → length (neighbours net u) ≤ n → ToldTo (making rules net u h made) n new.sessions.rows silence said → HoldsBack rules net u (made ∷ h) new.held_back
      → KeepsRoutes net u (best rules net u (made.read ∷ reads h)) new.best → StandsFor policy rules net u new (made ∷ h)
  entered old new n said kept was fits lists routes node near next entries same whole told held chosen = record {
    routes = routes;
    fitting = (fits, was.fitting);
    lists = (lists, was.lists);
    node = node ∙ was.node;
    near = near ∙ was.near;
    next = next ∙ (ap (λ m. if is_local cause then suc m else m) was.next ∙ either (is_local cause));
    kept = entries made was.kept (record { triggers = refl; read = refl; sent = same ∙ sent_all n said.sent whole told.sent });
    marks = told_all rules net u h made (fits, was.fitting) n new.sessions.rows silence said whole told;
    held = held;
    chosen = chosen;
  }
    where
      either : (b : Bool) → (if b then suc (suc (locals h)) else suc (locals h)) ≡ suc (if b then suc (locals h) else locals h)
      either true = refl
      either false = refl

  -- the entries fit with the new one
  pub fits_now : {log : NodeLog P} → StandsFor policy rules net u log h → CauseFits h scope cause → Fits (made ∷ h)
  fits_now was fits = (fits, was.fitting)

  -- the routes took the entry, with an equal scope
  pub took : (old new : RouteState P) (same : Scope) → same ≡ scope → Fits (made ∷ h) → (Accepts (reads h) same cause → RoutesStandFor policy net u new (change same cause ∷ reads h))
      → RoutesStandFor policy net u new (made.read ∷ reads h)
  took old new same is fits taken =
      (subst (λ s. (Accepts (reads h) s cause → RoutesStandFor policy net u new (change s cause ∷ reads h)) → RoutesStandFor policy net u new (made.read ∷ reads h)) (sym is)
      (λ taken. taken (accepted h scope cause fits.1 fits.0))) taken

  -- the routes and the turn are those of the entry
  pub enters : (routes : RouteState P) (turn : Turn) → Fits (made ∷ h) → RoutesStandFor policy net u routes (made.read ∷ reads h) → triggers ≡ turn.triggers.now → cause ≡ turn.cause.now
      → IsPlaced net scope → AreOffers (making rules net u h made) turn.before.now turn.after.now → KeepsRoutes net u (best rules net u (made.read ∷ reads h)) turn.best.now
      → Enters policy (making rules net u h made) routes turn
  enters routes turn fits stands by of placed offers chosen = record {
    stands = stands;
    fitting = fits;
    lists = by;
    cause = of;
    placed = placed;
    covers = offers.covers;
    before = offers.chosen_before;
    after = offers.chosen_after;
    chosen = chosen;
  }

  -- a log of which only the routes took the entry
  pub midway : (log : NodeLog P) (said : Said) (taken : RouteState P) (kept : BestRoutes) → StandsFor policy rules net u log h → IsOfNeighbour net u cause → IsPlaced net scope → CauseFits h scope cause → ListsFor scope triggers
      → RoutesStandFor policy net u taken (made.read ∷ reads h) → KeepsRoutes net u (best rules net u (made.read ∷ reads h)) kept
      → IsMidway policy (making rules net u h made) log.routes log.best (record log { routes = taken; said = said; best = kept })
  midway log said taken kept was near placed fits lists stands chosen = record {
    was = record {
      routes = was.routes;
      fitting = was.fitting;
      lists = was.lists;
      node = was.node;
      near = was.near;
      next = was.next;
      kept = was.kept;
      marks = was.marks;
      held = was.held;
      chosen = was.chosen;
    };
    near = near;
    placed = placed;
    fits = fits;
    lists = lists;
    routes = stands;
    chosen = chosen;
  }

-- the causes of one prefix may change its routes
pub asked_one : (net : Net) (h : List Entry) (p : ℕ) (cause : Cause) → CauseFits h (One p) cause → asked net (One p) cause ≡ p ∷ []
asked_one net h p Originate fits = refl
asked_one net h p Withdraw fits = refl
asked_one net h p (Recv v s seq path) fits = refl
asked_one net h p (Down v s) fits = absurd fits
asked_one net h p (Up v s) fits = absurd fits
asked_one net h p (Ready v s) fits = absurd fits
asked_one net h p (Prefer v x) fits = absurd fits
asked_one net h p (Flush v) fits = absurd fits

-- an entry of no prefix changes no routes
pub asked_none : (net : Net) (cause : Cause) → asked net Nothing cause ≡ []
asked_none net Originate = refl
asked_none net Withdraw = refl
asked_none net (Recv v s seq path) = refl
asked_none net (Down v s) = refl
asked_none net (Up v s) = refl
asked_none net (Ready v s) = refl
asked_none net (Prefer v x) = refl
asked_none net (Flush v) = refl

-- all prefixes that are asked for cover the entry
pub all_covered : (m : Making) (prefixes : List ℕ) → prefixes ≡ asked m.net m.entry.read.scope m.entry.read.cause → Covers m prefixes
all_covered m prefixes is w s e = ap (updates_over m (is_some (ready (reads m.before) w)) w) is

-- an entry of no prefix has no offers
pub none_offered : (m : Making) → m.entry.read.scope ≡ Nothing → AreOffers m [] []
none_offered m is = record {
  covers = all_covered m [] (sym (ap (λ s. asked m.net s m.entry.read.cause) is ∙ asked_none m.net m.entry.read.cause));
  chosen_before = tt;
  chosen_after = tt;
}

-- lists equal to offers are offers
pub as_offered : (m : Making) {before after old new : List Offer} → old ≡ before → new ≡ after → AreOffers m before after → AreOffers m old new
as_offered m {before} {after} {old} {new} is_before is_after offers =
    subst (λ l. AreOffers m l new) (sym is_before) (subst (AreOffers m before) (sym is_after) offers)

-- the offers of one prefix
pub one_offered : (rules : Rules) (net : Net) (u : ℕ) (h : List Entry) (triggers : List Trigger) (p : ℕ) (cause : Cause) (before after : Offer) → before.prefix ≡ p → after.prefix ≡ p → CauseFits h (One p) cause
    → Copies net u before.chosen (best rules net u (reads h) p) → Copies net u after.chosen (best rules net u (change (One p) cause ∷ reads h) p)
    → AreOffers (making rules net u h (entry triggers (One p) cause)) (before ∷ []) (after ∷ [])
one_offered rules net u h triggers p cause before after of_before of_after fits was is = record {
  covers = all_covered (making rules net u h (entry triggers (One p) cause)) (after.prefix ∷ []) (ap (λ q. q ∷ []) of_after ∙ sym (asked_one net h p cause fits));
  chosen_before = (subst (λ q. Copies net u before.chosen (best rules net u (reads h) q)) (sym of_before) was, tt);
  chosen_after = (subst (λ q. Copies net u after.chosen (best rules net u (change (One p) cause ∷ reads h) q)) (sym of_after) is, tt);
}
