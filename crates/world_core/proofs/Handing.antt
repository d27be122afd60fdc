-- The outputs of a node are what its facts show, one for each fact.
use Rattle.std.proofs.Common.{ℕ, suc, true, is_some, Option, Some, List, [], ◌∷◌, ◌++◌, ◌≡◌, refl, sym, ◌∙◌, ap, ap₂, subst, map, arith, drop, length, append_assoc, Result, Ok, Err}
use Rattle.std.specs.Result.{OnOk}
use Rattle.std.specs.Prelude.{option_to_list}
use Rattle.std.proofs.lemmas.List.{append-nil, append_cancel_left}
use Rattle.topology.specs.LinkStates.{carries}
use Rattle.topology.specs.Lists.{has}
use Rattle.topology.specs.Net.{Net, linked}
use Rattle.trigger_log.specs.Entries.{Entry}
use Rattle.trigger_log.specs.Going.{Going}
use Rattle.incomplete_closure.specs.declared.values.Value.{Value}
use Rattle.consolidator.specs.Messages.{Message}
use Rattle.epoch_packet.specs.declared.packets.Packet.{Packet}
use Rattle.epoch_packet.specs.declared.walks.End.{End as Ending}
use Rattle.chronicle.specs.Facts.{Fact, Chronicle, Log, Sent, Took, Fail, Restore, Raise, Start, Heard, Crash, Restart, Publish, Visit, End, happen}
use Rattle.chronicle.specs.Facts as fact
use Rattle.chronicle.specs.Links.{link}
use Rattle.chronicle.specs.Logs.{log_of}
use Rattle.chronicle.specs.Walks.{standing}
use Rattle.node_core.specs.declared.outputs.Output.{Output as Given}
use Rattle.node_core.specs.Outputs.{Output, Logged, Cut, Send, Mail, Published, Forward, Ended, Hands, output_by, output_of, outputs}
use Rattle.world_core.specs.Telling.{AreTold, IsTold, shown}
use Rattle.run_record.specs.Walks.{IsPassing}

-- what holds after each success of a last call holds after the function
pub on_ok_by : {T E Q : Type 0} (r : Result T E) → ((x : T) → r ≡ Ok x → Q) → OnOk r Q
on_ok_by (Ok x) q = q x refl
on_ok_by (Err e) q = tt

-- what was handed out, fact by fact
outputs_after : (past : Chronicle) (facts : List Fact) → outputs (happen past facts) ≡ outputs past ++ shown past facts
outputs_after past [] = sym (append-nil (outputs past))
outputs_after past (f ∷ facts) = outputs_after (f ∷ past) facts ∙ append_assoc (outputs past) (output_by f past) (shown (f ∷ past) facts)

-- what is handed out is what the facts show
pub hands_shown : (past : Chronicle) (facts : List Fact) (list : List Given) → Hands past list (happen past facts) → map output_of list ≡ shown past facts
hands_shown past facts list hands = append_cancel_left (outputs past) (map output_of list) (shown past facts) (hands ∙ outputs_after past facts)

-- each fact shows one thing
shows_one : (net : Net) (u : ℕ) (past : Chronicle) (f : Fact) → IsTold net u past f → (x : Output) × (output_by f past ≡ x ∷ [])
shows_one net u past (Log node entry) told = (Logged (suc (length (log_of node past))), refl)
shows_one net u past (Sent from to session item queued) told = (Send (record { to = to; session = session; item = item }), refl)
shows_one net u past (Took from to session item) told = absurd told
shows_one net u past (Fail a b) told = absurd told
shows_one net u past (Restore a b) told = absurd told
shows_one net u past (Crash node) told = absurd told
shows_one net u past (Restart node) told = absurd told
shows_one net u past (Raise node e) told = (Cut e, refl)
shows_one net u past (Start node e ballot) told = absurd told
shows_one net u past (fact.Mail from to m) told = (Mail to m, refl)
shows_one net u past (Heard node from m) told = absurd told
shows_one net u past (Publish node e value paths) told = (Published e value paths, refl)
shows_one net u past (Visit w packet) told = (Forward w packet, refl)
shows_one net u past (End id ending) told = (Ended id ending, refl)

-- where nothing is shown there is no fact
pub nothing_shown : (net : Net) (u : ℕ) (past : Chronicle) (facts : List Fact) → AreTold net u past facts → shown past facts ≡ [] → facts ≡ []
nothing_shown net u past [] told e = refl
nothing_shown net u past (f ∷ facts) told e =
    let one = shows_one net u past f told.0 in
    let more : one.0 ∷ shown (f ∷ past) facts ≡ [] = subst (λ l. l ++ shown (f ∷ past) facts ≡ []) one.1 e in
    absurd (cc more)

-- the facts but for the newest, and the newest
record Last (net : Net) (u : ℕ) (past : Chronicle) (facts : List Fact) (before : List Output) (out : Output) : Type 0 where
  pub first : List Fact
  pub newest : Fact
  pub is : facts ≡ first ++ newest ∷ []
  pub told : AreTold net u past first
  pub told_newest : IsTold net u (happen past first) newest
  pub shown_first : shown past first ≡ before
  pub shown_newest : output_by newest (happen past first) ≡ out ∷ []

-- the newest fact shows the last output
last_of : (net : Net) (u : ℕ) (past : Chronicle) (facts : List Fact) (before : List Output) (out : Output) → AreTold net u past facts → shown past facts ≡ before ++ out ∷ []
    → Last net u past facts before out
last_of net u past [] [] out told e = absurd (cc e)
last_of net u past [] (y ∷ ys) out told e = absurd (cc e)
last_of net u past (f ∷ facts) [] out told e =
    let one = shows_one net u past f told.0 in
    let all : one.0 ∷ shown (f ∷ past) facts ≡ out ∷ [] = subst (λ l. l ++ shown (f ∷ past) facts ≡ out ∷ []) one.1 e in
    let here : one.0 ≡ out = cc all in
    let rest : shown (f ∷ past) facts ≡ [] = cc all in
    record {
      first = [];
      newest = f;
      is = ap (λ l. f ∷ l) (nothing_shown net u (f ∷ past) facts told.1 rest);
      told = tt;
      told_newest = told.0;
      shown_first = refl;
      shown_newest = one.1 ∙ ap (λ x. x ∷ []) here;
    }
last_of net u past (f ∷ facts) (y ∷ ys) out told e =
    let one = shows_one net u past f told.0 in
    let all : one.0 ∷ shown (f ∷ past) facts ≡ y ∷ (ys ++ out ∷ []) = subst (λ l. l ++ shown (f ∷ past) facts ≡ y ∷ (ys ++ out ∷ [])) one.1 e in
    let here : one.0 ≡ y = cc all in
    let later : shown (f ∷ past) facts ≡ ys ++ out ∷ [] = cc all in
    let rest = last_of net u (f ∷ past) facts ys out told.1 later in
    record {
      first = f ∷ rest.first;
      newest = rest.newest;
      is = ap (λ l. f ∷ l) rest.is;
      told = (told.0, rest.told);
      told_newest = rest.told_newest;
      shown_first = ap (λ l. l ++ shown (f ∷ past) rest.first) one.1 ∙ ap₂ (λ x l. x ∷ l) here rest.shown_first;
      shown_newest = rest.shown_newest;
    }

-- the newest fact comes last
pub happen_last : (past : Chronicle) (fs : List Fact) (f : Fact) → happen past (fs ++ f ∷ []) ≡ f ∷ happen past fs
happen_last past [] f = refl
happen_last past (g ∷ fs) f = happen_last (g ∷ past) fs f

module _ (net : Net) (past : Chronicle) (u : ℕ) (before now : List Fact → Type 0) where
  -- one output more was handed on
  pub handed_next : (facts : List Fact) (earlier all : List Output) (out : Output) → AreTold net u past facts → all ≡ shown past facts → all ≡ earlier ++ out ∷ []
      → ((fs : List Fact) → AreTold net u past fs → earlier ≡ shown past fs → before fs)
      → ((fs : List Fact) (f : Fact) → IsTold net u (happen past fs) f → output_by f (happen past fs) ≡ out ∷ [] → before fs → now (fs ++ f ∷ []))
      → now facts
  handed_next facts earlier all out told shows is so_far one =
      let last = last_of net u past facts earlier out told (sym shows ∙ is) in
      subst now (sym last.is) (one last.first last.newest last.told_newest last.shown_newest (so_far last.first last.told (sym last.shown_first)))

  -- nothing was handed on yet
  pub handed_none : (facts : List Fact) → AreTold net u past facts → [] ≡ shown past facts → before [] → before facts
  handed_none facts told shows was = subst before (sym (nothing_shown net u past facts told (sym shows))) was

-- a fact that shows an item is that the item was sent
pub sent_is : (net : Net) (u : ℕ) (past : Chronicle) (f : Fact) (g : Going) → IsTold net u past f → output_by f past ≡ Send g ∷ []
    → (f ≡ Sent u g.to g.session g.item (carries (link u g.to past) g.session)) × (linked net u g.to ≡ true)
sent_is net u past (Log node entry) g told e = absurd (cc e)
sent_is net u past (Took from to session item) g told e = absurd told
sent_is net u past (Fail a b) g told e = absurd told
sent_is net u past (Restore a b) g told e = absurd told
sent_is net u past (Crash node) g told e = absurd told
sent_is net u past (Restart node) g told e = absurd told
sent_is net u past (Raise node epoch) g told e = absurd (cc e)
sent_is net u past (Start node e ballot) g told is = absurd told
sent_is net u past (fact.Mail from to m) g told e = absurd (cc e)
sent_is net u past (Heard node from m) g told e = absurd told
sent_is net u past (Publish node d value paths) g told e = absurd (cc e)
sent_is net u past (Visit w packet) g told e = absurd (cc e)
sent_is net u past (End id ending) g told e = absurd (cc e)
sent_is net u past (Sent from to session item queued) g told e =
    let going : Going = record { to = to; session = session; item = item } in
    let same : going ≡ g = cc e in
    let fact : Sent from to session item queued ≡ Sent u to session item (carries (link u to past) session) =
    ap (λ v. Sent v to session item queued) told.0 ∙ ap (λ q. Sent u to session item q) told.2 in
    (subst (λ (g : Going). Sent from to session item queued ≡ Sent u g.to g.session g.item (carries (link u g.to past) g.session)) same fact, subst (λ (g : Going). linked net u g.to ≡ true) same told.1)

-- one that shows a control message is that it was sent
pub mailed_is : (net : Net) (u : ℕ) (past : Chronicle) (f : Fact) (to : ℕ) (m : Message) → IsTold net u past f → output_by f past ≡ Mail to m ∷ []
    → (f ≡ fact.Mail u to m) × (has net.nodes u ≡ true) × (has net.nodes to ≡ true)
mailed_is net u past (Log node k) to m told e = absurd (cc e)
mailed_is net u past (Sent from w session item queued) to m told e = absurd (cc e)
mailed_is net u past (Took from w session item) to m told e = absurd told
mailed_is net u past (Fail a b) to m told e = absurd told
mailed_is net u past (Restore a b) to m told e = absurd told
mailed_is net u past (Raise node c) to m told e = absurd (cc e)
mailed_is net u past (Start node c ballot) to m told e = absurd told
mailed_is net u past (fact.Mail from w n) to m told e =
    let there : w ≡ to = cc e in
    let same : n ≡ m = cc e in (
      ap (λ v. fact.Mail v w n) told.0 ∙ ap₂ (fact.Mail u) there same,
      subst (λ v. has net.nodes v ≡ true) told.0 told.1,
      subst (λ v. has net.nodes v ≡ true) there told.2,
    )
mailed_is net u past (Heard node from n) to m told e = absurd told
mailed_is net u past (Crash node) to m told e = absurd told
mailed_is net u past (Restart node) to m told e = absurd told
mailed_is net u past (Publish node c value paths) to m told e = absurd (cc e)
mailed_is net u past (Visit w packet) to m told e = absurd (cc e)
mailed_is net u past (End id ending) to m told e = absurd (cc e)

-- one that shows a packet for a node is that it came there
pub forwarded_is : (net : Net) (u : ℕ) (past : Chronicle) (f : Fact) (w : ℕ) (packet : Packet) → IsTold net u past f → output_by f past ≡ Forward w packet ∷ []
    → (f ≡ Visit w packet) × IsPassing net w packet
forwarded_is net u past (Log node k) w packet told e = absurd (cc e)
forwarded_is net u past (Sent from to session item queued) w packet told e = absurd (cc e)
forwarded_is net u past (Took from to session item) w packet told e = absurd told
forwarded_is net u past (Fail a b) w packet told e = absurd told
forwarded_is net u past (Restore a b) w packet told e = absurd told
forwarded_is net u past (Raise node c) w packet told e = absurd (cc e)
forwarded_is net u past (Start node c ballot) w packet told e = absurd told
forwarded_is net u past (fact.Mail from to m) w packet told e = absurd (cc e)
forwarded_is net u past (Heard node from m) w packet told e = absurd told
forwarded_is net u past (Crash node) w packet told e = absurd told
forwarded_is net u past (Restart node) w packet told e = absurd told
forwarded_is net u past (Publish node c value paths) w packet told e = absurd (cc e)
forwarded_is net u past (Visit v other) w packet told e =
    let there : v ≡ w = cc e in
    let same : other ≡ packet = cc e in
    (ap₂ Visit there same, subst (λ v. IsPassing net v packet) there (subst (IsPassing net v) same told))
forwarded_is net u past (End id ending) w packet told e = absurd (cc e)

-- one that shows the end of a walk is that it ended
pub ended_is : (net : Net) (u : ℕ) (past : Chronicle) (f : Fact) (id : ℕ) (ending : Ending) → IsTold net u past f → output_by f past ≡ Ended id ending ∷ []
    → (f ≡ End id ending) × (is_some (standing id past) ≡ true)
ended_is net u past (Log node k) id ending told e = absurd (cc e)
ended_is net u past (Sent from to session item queued) id ending told e = absurd (cc e)
ended_is net u past (Took from to session item) id ending told e = absurd told
ended_is net u past (Fail a b) id ending told e = absurd told
ended_is net u past (Restore a b) id ending told e = absurd told
ended_is net u past (Raise node c) id ending told e = absurd (cc e)
ended_is net u past (Start node c ballot) id ending told e = absurd told
ended_is net u past (fact.Mail from to m) id ending told e = absurd (cc e)
ended_is net u past (Heard node from m) id ending told e = absurd told
ended_is net u past (Crash node) id ending told e = absurd told
ended_is net u past (Restart node) id ending told e = absurd told
ended_is net u past (Publish node c value paths) id ending told e = absurd (cc e)
ended_is net u past (Visit w packet) id ending told e = absurd (cc e)
ended_is net u past (End number end) id ending told e =
    let there : number ≡ id = cc e in
    let same : end ≡ ending = cc e in
    (ap₂ End there same, subst (λ n. is_some (standing n past) ≡ true) there told)

-- one that shows an entry is that it was made
pub logged_is : (net : Net) (u : ℕ) (past : Chronicle) (f : Fact) (index : ℕ) → IsTold net u past f → output_by f past ≡ Logged index ∷ []
    → (k : Entry) × (f ≡ Log u k) × (suc (length (log_of u past)) ≡ index)
logged_is net u past (Log node k) index told shows =
    let same : suc (length (log_of node past)) ≡ index = cc shows in
    (k, ap (λ v. Log v k) told, ap (λ v. suc (length (log_of v past))) (sym told) ∙ same)
logged_is net u past (Sent from to session item queued) index told shows = absurd (cc shows)
logged_is net u past (Took from to session item) index told shows = absurd told
logged_is net u past (Fail a b) index told shows = absurd told
logged_is net u past (Restore a b) index told shows = absurd told
logged_is net u past (Raise node d) index told shows = absurd (cc shows)
logged_is net u past (Start node d ballot) index told shows = absurd told
logged_is net u past (fact.Mail from to m) index told shows = absurd (cc shows)
logged_is net u past (Heard node from m) index told shows = absurd told
logged_is net u past (Crash node) index told shows = absurd told
logged_is net u past (Restart node) index told shows = absurd told
logged_is net u past (Publish node d v ps) index told shows = absurd (cc shows)
logged_is net u past (Visit w packet) index told shows = absurd (cc shows)
logged_is net u past (End id ending) index told shows = absurd (cc shows)

-- one that shows a cut is that the epoch rose
pub cut_is : (net : Net) (u : ℕ) (past : Chronicle) (f : Fact) (e : ℕ) → IsTold net u past f → output_by f past ≡ Cut e ∷ []
    → f ≡ Raise u e
cut_is net u past (Log node k) e told shows = absurd (cc shows)
cut_is net u past (Sent from to session item queued) e told shows = absurd (cc shows)
cut_is net u past (Took from to session item) e told shows = absurd told
cut_is net u past (Fail a b) e told shows = absurd told
cut_is net u past (Restore a b) e told shows = absurd told
cut_is net u past (Raise node d) e told shows = let same : d ≡ e = cc shows in ap₂ Raise told same
cut_is net u past (Start node d ballot) e told shows = absurd told
cut_is net u past (fact.Mail from to m) e told shows = absurd (cc shows)
cut_is net u past (Heard node from m) e told shows = absurd told
cut_is net u past (Crash node) e told shows = absurd told
cut_is net u past (Restart node) e told shows = absurd told
cut_is net u past (Publish node d v ps) e told shows = absurd (cc shows)
cut_is net u past (Visit w packet) e told shows = absurd (cc shows)
cut_is net u past (End id ending) e told shows = absurd (cc shows)

-- one that shows a table is that it was published
pub published_is : (net : Net) (u : ℕ) (past : Chronicle) (f : Fact) (e : ℕ) (value : Value) (paths : List (Option (List ℕ))) → IsTold net u past f → output_by f past ≡ Published e value paths ∷ []
    → f ≡ Publish u e value paths
published_is net u past (Log node k) e value paths told shows = absurd (cc shows)
published_is net u past (Sent from to session item queued) e value paths told shows = absurd (cc shows)
published_is net u past (Took from to session item) e value paths told shows = absurd told
published_is net u past (Fail a b) e value paths told shows = absurd told
published_is net u past (Restore a b) e value paths told shows = absurd told
published_is net u past (Raise node d) e value paths told shows = absurd (cc shows)
published_is net u past (Start node d ballot) e value paths told shows = absurd told
published_is net u past (fact.Mail from to m) e value paths told shows = absurd (cc shows)
published_is net u past (Heard node from m) e value paths told shows = absurd told
published_is net u past (Crash node) e value paths told shows = absurd told
published_is net u past (Restart node) e value paths told shows = absurd told
published_is net u past (Publish node d v ps) e value paths told shows =
    let epoch : d ≡ e = cc shows in
    let same : v ≡ value = cc shows in
    let has : ps ≡ paths = cc shows in
    ap₂ (λ n c. Publish n c v ps) told epoch ∙ ap₂ (Publish u e) same has
published_is net u past (Visit w packet) e value paths told shows = absurd (cc shows)
published_is net u past (End id ending) e value paths told shows = absurd (cc shows)

-- the first element was taken
pub taken_one : {A : Type 0} (old new : List A) (taken : Option A) (x : A) → taken ≡ Some x → old ≡ option_to_list taken ++ new → old ≡ x ∷ new
taken_one old new taken x some is = subst (λ t. old ≡ option_to_list t ++ new) some is

-- a list that is as it was without its first element has none
pub none_left : {A : Type 0} (xs : List A) → xs ≡ drop 1 xs → xs ≡ []
none_left [] is = refl
none_left (x ∷ xs) is = let shorter = ap length is in absurd (omega (arith, shorter))
