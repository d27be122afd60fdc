-- An entry that changes no best route and turns no session tells nothing.
use Rattle.std.proofs.Common.{ℕ, ◌+◌, ◌<◌, Bool, true, false, not, Option, Some, None, List, [], ◌∷◌, ◌++◌, ◌≡◌, ◌≢◌, ◌↔◌, refl, sym, ◌∙◌, ap, subst, arith, length, map, filter, flat_map, take, slice_get, slice_index_or, ⊎_elim}
use Rattle.std.specs.Prelude.{if◌then◌else◌, is_some, option_map}
use Rattle.std.proofs.lemmas.Bool.{cases_eq}
use Rattle.std.proofs.lemmas.List.{length-map}
use Rattle.std.proofs.lemmas.Option.{same_Some, slice_get-map}
use Rattle.topology.specs.declared.names.Scope.TheVariants.{All}
use Rattle.topology.specs.Lists.{same_path}
use Rattle.topology.specs.Net.{Net, holds_back, neighbours, relation}
use Rattle.path_vector.specs.declared.causes.Cause.{Cause}
use Rattle.path_vector.specs.declared.causes.Cause.TheVariants.{Originate, Withdraw, Recv, Down, Up, Ready, Prefer, Flush}
use Rattle.path_vector.specs.declared.state.Chosen.{Chosen}
use Rattle.path_vector.specs.declared.state.RouteState.{RouteState}
use Rattle.path_vector.specs.declared.policy.Learned.{Learned}
use Rattle.path_vector.specs.Rules.{Rules}
use Rattle.path_vector.specs.History.{History, change, held, ready}
use Rattle.path_vector.specs.Selection.{Route, Nowhere, best, beyond, path_of}
use Rattle.path_vector.specs.Offers.{exported, learned, may_tell, offer, offered_route}
use Rattle.path_vector.specs.Answers.{Copies}
use Rattle.path_vector.proofs.Changes.{same_path_is, same_path_self}
use Rattle.trigger_log.specs.declared.offers.Offer.{Offer}
use Rattle.trigger_log.specs.declared.sessions.SessionMark.{SessionMark}
use Rattle.trigger_log.specs.declared.listeners.Turn.{Turn}
use Rattle.trigger_log.specs.Entries.{Entry, Update, flushes, reads}
use Rattle.trigger_log.specs.Making.{making}
use Rattle.trigger_log.specs.Sending.{close_sent, news, sent_count, sent_to, update_of}
use Rattle.trigger_log.specs.Going.{going_by, going_in, going_of, spread, told}
use Rattle.trigger_log.specs.Sessions.{AreMarks, Says, ever}
use Rattle.trigger_log.specs.Offered.{AreChosen, AreSame, IsPlaced, differs, prefixes_of, updates_over}
use Rattle.trigger_log.specs.Fits.{Fits}
use Rattle.trigger_log.specs.Telling.{Speech}
use Rattle.trigger_log.specs.Marked.{AreMarked, Enters, ToldTo, ends_with, readies}
use Rattle.trigger_log.specs.Quiet.{IsQuiet, Stays, turns_session}
use Rattle.trigger_log.proofs.Closings.{count_held, count_other}
use Rattle.trigger_log.proofs.Silence.{news_at_once, news_held, unready_news}
use Rattle.trigger_log.proofs.Speaking.{close_none, going_none, knew, moved_to, not_closed, over_asked, updates_none}
use Rattle.trigger_log.proofs.Flags.{flag_at, same_at}
use Rattle.trigger_log.proofs.Rounds.{is_mark, some_at}
use Rattle.trigger_log.proofs.Updating.{all_at, over_same}
use Rattle.trigger_log.proofs.Zips.{zip_map}

-- ---- equal best routes

pub equal_offers : (a b : Offer) (t : Bool) (x y : Option (List ℕ)) → t ≡ same_path x y → x ≡ a.chosen.path → y ≡ b.chosen.path → a.prefix ≡ b.prefix → a.chosen.learned ≡ b.chosen.learned
    → (t ≡ true) ↔ (a ≡ b)
equal_offers a b t x y is x_is y_is prefix learnt =
    let tests : t ≡ same_path a.chosen.path b.chosen.path = is ∙ (ap (λ z. same_path z y) x_is ∙ ap (same_path a.chosen.path) y_is) in
    ((λ e. equal prefix (same_path_is a.chosen.path b.chosen.path (sym tests ∙ e)) learnt), (λ e. tests ∙ (ap (λ (o : Offer). same_path a.chosen.path o.chosen.path) (sym e) ∙ same_path_self a.chosen.path)))
  where
    made : ℕ → Option (List ℕ) → Option Learned → Offer
    made prefix path learnt = record { prefix = prefix; chosen = record { path = path; learned = learnt } }

    equal : a.prefix ≡ b.prefix → a.chosen.path ≡ b.chosen.path → a.chosen.learned ≡ b.chosen.learned → a ≡ b
    equal prefix path learnt =
        ap (λ n. made n a.chosen.path a.chosen.learned) prefix ∙ (ap (λ p. made b.prefix p a.chosen.learned) path ∙ ap (made b.prefix b.chosen.path) learnt)

-- ---- a cause that turns no session

not_ended : (cause : Cause) (w : ℕ) → turns_session cause ≡ false → ends_with cause w ≡ false
not_ended Originate w e = refl
not_ended Withdraw w e = refl
not_ended (Recv v s seq path) w e = refl
not_ended (Down v s) w e = absurd (cc e)
not_ended (Up v s) w e = refl
not_ended (Ready v s) w e = refl
not_ended (Prefer v x) w e = refl
not_ended (Flush v) w e = absurd (cc e)

not_readied : (cause : Cause) (w : ℕ) → turns_session cause ≡ false → readies cause w ≡ false
not_readied Originate w e = refl
not_readied Withdraw w e = refl
not_readied (Recv v s seq path) w e = refl
not_readied (Down v s) w e = refl
not_readied (Up v s) w e = refl
not_readied (Ready v s) w e = absurd (cc e)
not_readied (Prefer v x) w e = refl
not_readied (Flush v) w e = absurd (cc e)

not_flushed : (cause : Cause) (w : ℕ) → turns_session cause ≡ false → flushes cause w ≡ false
not_flushed Originate w e = refl
not_flushed Withdraw w e = refl
not_flushed (Recv v s seq path) w e = refl
not_flushed (Down v s) w e = refl
not_flushed (Up v s) w e = refl
not_flushed (Ready v s) w e = refl
not_flushed (Prefer v x) w e = refl
not_flushed (Flush v) w e = absurd (cc e)

-- ---- equal routes give equal offers

module _ (rules : Rules) (net : Net) (u w : ℕ) where
  exported_path : (route : Route) → path_of u (exported rules net u w route) ≡ (if may_tell rules (learned net u route) (relation net u w) then path_of u route else None)
  exported_path route =
      elim (may_tell rules (learned net u route) (relation net u w)) as (λ b. path_of u (if b then route else Nowhere) ≡ (if b then path_of u route else None)) [ true ↦ refl | false ↦ refl ]

  same_exported : (chosen : Chosen) (a b : Route) → Copies net u chosen a → Copies net u chosen b → path_of u (exported rules net u w a) ≡ path_of u (exported rules net u w b)
  same_exported chosen a b of_a of_b =
      exported_path a
      ∙ (ap (λ l. if may_tell rules l (relation net u w) then path_of u a else None) (sym of_a.learnt ∙ of_b.learnt)
      ∙ (ap (λ p. if may_tell rules (learned net u b) (relation net u w) then p else None) (sym of_a.path ∙ of_b.path)
      ∙ sym (exported_path b)))

module _ (rules : Rules) (net : Net) (u : ℕ) (h : List Entry) (k : Entry) (w : ℕ) where
  same_offered : (o : Offer) → Copies net u o.chosen (best rules net u (reads h) o.prefix) → Copies net u o.chosen (best rules net u (k.read ∷ reads h) o.prefix)
      → differs (making rules net u h k) true w o.prefix ≡ false
  unfolding offered_route
  same_offered o before after =
      ap not (ap (same_path (offer rules net u (k.read ∷ reads h) o.prefix w)) (same_exported rules net u w o.chosen (best rules net u (reads h) o.prefix) (best rules net u (k.read ∷ reads h) o.prefix) before after)
      ∙ same_path_self (offer rules net u (k.read ∷ reads h) o.prefix w))

  none_differs : (offers : List Offer) → AreChosen rules net u (reads h) offers → AreChosen rules net u (k.read ∷ reads h) offers
      → filter (differs (making rules net u h k) true w) (prefixes_of offers) ≡ []
  none_differs [] before after = refl
  none_differs (o ∷ offers) before after = rw (same_offered o before.0 after.0) (none_differs offers before.1 after.1)

  none_over : (offers : List Offer) → AreChosen rules net u (reads h) offers → AreChosen rules net u (k.read ∷ reads h) offers
      → updates_over (making rules net u h k) true w (prefixes_of offers) ≡ []
  none_over offers before after = ap (map (update_of (making rules net u h k) w)) (none_differs offers before after)

-- a route whose flag is true is offered as before to a neighbour that knew the offers
pub stands_still : (rules : Rules) (net : Net) (u : ℕ) (h : List Entry) (k : Entry) (knows : Bool) (w : ℕ) (before after : List Offer) (flags : List Bool) (i : ℕ) (o : Offer) → knows ≡ true → slice_index_or flags i false ≡ true
    → AreSame before after flags → i < length after → slice_get after i ≡ Some o → AreChosen rules net u (reads h) before → AreChosen rules net u (k.read ∷ reads h) after
    → differs (making rules net u h k) knows w o.prefix ≡ false
stands_still rules net u h k knows w before after flags i o known set all inside here was now =
    let there = same_at before after flags i o all (flag_at before after flags i all inside set) here in
    ap (λ t. differs (making rules net u h k) t w o.prefix) known
    ∙ same_offered rules net u h k w o (all_at (λ (o : Offer). Copies net u o.chosen (best rules net u (reads h) o.prefix)) before i o was there)
    (all_at (λ (o : Offer). Copies net u o.chosen (best rules net u (k.read ∷ reads h) o.prefix)) after i o now here)

-- it is no news to such a neighbour
pub stood : (rules : Rules) (net : Net) (u : ℕ) (h : List Entry) (k : Entry) (knows : Bool) (w : ℕ) (before after : List Offer) (flags : List Bool) (i : ℕ) → knows ≡ true → slice_index_or flags i false ≡ true
    → AreSame before after flags → i < length after → AreChosen rules net u (reads h) before → AreChosen rules net u (k.read ∷ reads h) after
    → updates_over (making rules net u h k) knows w (take (i + 1) (prefixes_of after)) ≡ updates_over (making rules net u h k) knows w (take i (prefixes_of after))
stood rules net u h k knows w before after flags i known set all inside was now =
    let here = some_at after i inside in
    let o = here.0 in
    over_same rules net u h k knows w (prefixes_of after) i o.prefix (slice_get-map (λ (o : Offer). o.prefix) after i ∙ ap (option_map (λ (o : Offer). o.prefix)) here.1)
    (omega (arith, length-map after (λ (o : Offer). o.prefix))) (stands_still rules net u h k knows w before after flags i o known set all inside here.1 was now)

-- making a session ready changes no best route
pub best_ready : (rules : Rules) (net : Net) (u : ℕ) (h : History) (v s p : ℕ) → best rules net u (change All (Ready v s) ∷ h) p ≡ best rules net u h p
unfolding best beyond
best_ready rules net u h v s p = refl

-- so the best routes before and after it are the same
pub chosen_ready : (rules : Rules) (net : Net) (u : ℕ) (h : History) (v s : ℕ) (offers : List Offer) → AreChosen rules net u (change All (Ready v s) ∷ h) offers → AreChosen rules net u h offers
chosen_ready rules net u h v s [] all = tt
chosen_ready rules net u h v s (o ∷ offers) all =
    (subst (Copies net u o.chosen) (best_ready rules net u h v s o.prefix) all.0, chosen_ready rules net u h v s offers all.1)

flat_none : {A : Type 0} (f : ℕ → List A) (ns : List ℕ) → ((n : ℕ) → f n ≡ []) → flat_map f ns ≡ []
flat_none f [] none = refl
flat_none f (n ∷ ns) none = ap (λ l. l ++ flat_map f ns) (none n) ∙ flat_none f ns none

-- ---- an entry that turns no session, and has no news for ready neighbours

module _ (rules : Rules) (net : Net) (u : ℕ) (h : List Entry) (k : Entry) (fitting : Fits (k ∷ h)) (turns_none : turns_session k.read.cause ≡ false)
    (none_ready : (w s : ℕ) → ready (k.read ∷ reads h) w ≡ Some s → moved_to (making rules net u h k) w ≡ []) where
  -- an entry that changes no offer and is no flush sends nothing
  not_moved : (w : ℕ) → moved_to (making rules net u h k) w ≡ [] → (b : Bool) → holds_back net u w ≡ b → news rules net u h k w ≡ []
  not_moved w none true e = news_held rules net u h k w e (not_flushed k.read.cause w turns_none)
  not_moved w none false e = news_at_once rules net u h k w e ∙ none

  none_in : (w : ℕ) (a : Option ℕ) → ready (k.read ∷ reads h) w ≡ a → news rules net u h k w ≡ []
  none_in w None e = unready_news rules net u h k w fitting e
  none_in w (Some s) e = not_moved w (none_ready w s e) (holds_back net u w) refl

  -- there is no news for any neighbour
  no_news : (w : ℕ) → news rules net u h k w ≡ []
  no_news w = none_in w (ready (k.read ∷ reads h) w) refl

  open_still : (w : ℕ) → ends_with k.read.cause w ≡ false
  open_still w = not_ended k.read.cause w turns_none

  nothing_sent : (w : ℕ) → sent_to rules net u h k w ≡ []
  nothing_sent w =
      ap (λ l. l ++ close_sent (making rules net u h k) w (ready (reads h) w)) (updates_none rules net u h k w fitting (held (k.read ∷ reads h) w) (no_news w))
      ∙ close_none rules net u h k w fitting (ready (reads h) w) (open_still w)

  nothing_told : (w : ℕ) → going_in w (told (making rules net u h k) w) (held (k.read ∷ reads h) w) ≡ []
  nothing_told w = going_none rules net u h k w fitting (held (k.read ∷ reads h) w) (no_news w)

  -- nothing goes out
  pub nothing_goes : going_by rules net u h k ≡ []
  unfolding going_by spread
  nothing_goes = flat_none (λ w. going_in w (told (making rules net u h k) w) (held (k.read ∷ reads h) w)) (neighbours net u) nothing_told

  -- no session has more items than before
  count_in : (w s : ℕ) (a : Option ℕ) → held (k.read ∷ reads h) w ≡ a → sent_count rules net u (k ∷ h) w s ≡ sent_count rules net u h w s
  count_in w s None e = count_other rules net u k h w s (λ f. absurd (cc (e, f))) (not_closed k.read.cause w s (open_still w))
  count_in w s (Some t) e = ⊎_elim
      (λ (same : t ≡ s). count_held rules net u k h w s (e ∙ ap (λ n. Some n) same) ∙ (ap (λ (l : List Update). sent_count rules net u h w s + length l) (no_news w) ∙ omega arith))
      (λ (other : t ≢ s). count_other rules net u k h w s (λ f. other (same_Some t s (sym e ∙ f))) (not_closed k.read.cause w s (open_still w)))
      (cases_eq t s)

  as_before : (w s : ℕ) → sent_count rules net u h w s ≡ sent_count rules net u (k ∷ h) w s
  as_before w s = sym (count_in w s (held (k.read ∷ reads h) w) refl)

  quiet_row : (w : ℕ) (row : List SessionMark) → AreMarked (making rules net u h k) w row → AreMarks rules net u (k ∷ h) w row
  quiet_row w row was =
      zip_map (λ s mark. Says (k ∷ h) w s (sent_count rules net u h w s) mark) (λ s mark. Says (k ∷ h) w s (sent_count rules net u (k ∷ h) w s) mark)
      (λ s mark says. is_mark rules net u h k w fitting s (sent_count rules net u h w s) mark (as_before w s) says) (ever (k ∷ h) w) row was

  -- if nobody is to be told, all are told
  pub told_silent : (n : ℕ) (rows : List (List SessionMark)) (before after : Speech) → ToldTo (making rules net u h k) 0 rows before after
      → ToldTo (making rules net u h k) n rows before after
  told_silent n rows before after was = record {
    width = was.width;
    done = λ j w row below near found. quiet_row w row (was.rest j w row (omega arith) near found);
    rest = λ j w row above near found. was.rest j w row (omega arith) near found;
    sent = was.sent ∙ ap (λ l. before.sent ++ l) (sym (flat_none (sent_to rules net u h k) (take n (neighbours net u)) nothing_sent));
    out = was.out
        ∙ ap (λ l. map going_of before.out ++ l) (sym (flat_none (λ w. going_in w (told (making rules net u h k) w) (held (k.read ∷ reads h) w)) (take n (neighbours net u)) nothing_told));
  }

-- a neighbour that is ready after the entry was so before
was_known : (h : List Entry) (k : Entry) (w s : ℕ) → Fits (k ∷ h) → turns_session k.read.cause ≡ false → ready (k.read ∷ reads h) w ≡ Some s → is_some (ready (reads h) w) ≡ true
was_known h k w s fitting turns e = (knew k h w s fitting e).1 ∙ ap not (not_readied k.read.cause w turns)

-- ---- the best routes are the same

module _ {P : Type 0} (policy : P) (rules : Rules) (net : Net) (u : ℕ) (h : List Entry) (k : Entry) (routes : RouteState P) (turn : Turn)
    (enters : Enters policy (making rules net u h k) routes turn) (quiet : IsQuiet turn) where
  turns_no_session : turns_session k.read.cause ≡ false
  turns_no_session = ap turns_session enters.cause ∙ quiet.0

  same_news : (w s : ℕ) → ready (k.read ∷ reads h) w ≡ Some s → moved_to (making rules net u h k) w ≡ []
  same_news w s e =
      let before : AreChosen rules net u (reads h) turn.after.now = subst (AreChosen rules net u (reads h)) quiet.1 enters.before in
      sym (over_asked rules net u h k w s enters.fitting e enters.placed)
      ∙ (sym (enters.covers w s e)
      ∙ (ap (λ b. updates_over (making rules net u h k) b w (prefixes_of turn.after.now)) (was_known h k w s enters.fitting turns_no_session e)
      ∙ none_over rules net u h k w turn.after.now before enters.after))

  -- if nobody is to be told, all are told
  pub told_quiet : (n : ℕ) (rows : List (List SessionMark)) (before after : Speech) → ToldTo (making rules net u h k) 0 rows before after
      → ToldTo (making rules net u h k) n rows before after
  told_quiet n rows before after was = told_silent rules net u h k enters.fitting turns_no_session same_news n rows before after was

-- ---- the one best route stays

module _ (rules : Rules) (net : Net) (u : ℕ) (h : List Entry) (k : Entry) (fitting : Fits (k ∷ h)) (placed : IsPlaced net k.read.scope) (stays : Stays rules net u h k) where
  still_offered : (w : ℕ) → differs (making rules net u h k) true w stays.prefix ≡ false
  unfolding offered_route
  still_offered w =
      ap not (ap (same_path (offer rules net u (k.read ∷ reads h) stays.prefix w)) (sym (ap (λ (r : Route). path_of u (exported rules net u w r)) stays.still))
      ∙ same_path_self (offer rules net u (k.read ∷ reads h) stays.prefix w))

  pub still_no_news : (w s : ℕ) → ready (k.read ∷ reads h) w ≡ Some s → moved_to (making rules net u h k) w ≡ []
  still_no_news w s e =
      sym (over_asked rules net u h k w s fitting e placed)
      ∙ (ap (updates_over (making rules net u h k) (is_some (ready (reads h) w)) w) stays.covers
      ∙ (ap (λ b. updates_over (making rules net u h k) b w (stays.prefix ∷ [])) (was_known h k w s fitting stays.turns e)
      ∙ rw (still_offered w) refl))

  pub told_still : (n : ℕ) (rows : List (List SessionMark)) (before after : Speech) → ToldTo (making rules net u h k) 0 rows before after
      → ToldTo (making rules net u h k) n rows before after
  told_still n rows before after was = told_silent rules net u h k fitting stays.turns still_no_news n rows before after was

  pub goes_nowhere : going_by rules net u h k ≡ []
  goes_nowhere = nothing_goes rules net u h k fitting stays.turns still_no_news
