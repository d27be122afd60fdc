-- What a node keeps where its epoch rises, and where it meets a mark.
use Rattle.std.proofs.Common.{ℕ, ◌+◌, ◌<◌, ◌≤◌, Bool, true, false, ◌==◌, ◌&&◌, Option, Some, List, [], ◌∷◌, ◌++◌, map, length, take, get_or, ◌≡◌, refl, sym, ◌∙◌, ap, subst, arith, append_assoc, nat_lt, nat_cmp, is_lt, flat_map}
use Rattle.std.specs.Prelude.{if◌then◌else◌, option_map}
use Rattle.std.proofs.lemmas.Bool.Decides.{nat_tests}
use Rattle.std.proofs.lemmas.List.{append-nil, map-append, take_more, flat_map_more}
use Rattle.topology.specs.Lists.{ascending}
use Rattle.topology.specs.Net.{Net, neighbours}
use Rattle.path_vector.specs.Rules.{Rules}
use Rattle.path_vector.specs.History.{held}
use Rattle.trigger_log.specs.declared.log.NodeLog.{NodeLog}
use Rattle.trigger_log.specs.Dropping.{Trimmed, trimmed}
use Rattle.topology.specs.declared.names.Trigger.{Trigger}
use Rattle.path_vector.specs.declared.causes.Cause.{Cause}
use Rattle.path_vector.specs.declared.causes.Cause.TheVariants.{Down}
use Rattle.trigger_log.specs.Entries.{Entry, closes, closing, reads}
use Rattle.trigger_log.specs.Fits.{AllInherit, Inherits}
use Rattle.trigger_log.specs.Going.{Item, Marker, Going, mark_of, going_in, spread}
use Rattle.trigger_log.specs.Standing.{StandsFor as LogStandsFor, dropped_of}
use Rattle.marker_snapshot.specs.Acts.{SnapshotActs, Takes, Meets}
use Rattle.marker_snapshot.specs.Cuts.{epoch_of}
use Rattle.marker_snapshot.specs.Keeping.{Kept}
use Rattle.marker_snapshot.specs.Standing.{StandsFor as SnapshotsStandFor}
use Rattle.chronicle.specs.Facts.{Chronicle, Took}
use Rattle.chronicle.specs.Drops.{dropped, dropped_then, kept_log, reported_cut}
use Rattle.chronicle.specs.Logs.{log_of}
use Rattle.chronicle.specs.Epochs.{epoch, cut}
use Rattle.chronicle.specs.Messages.{took_by}
use Rattle.chronicle.specs.Steps.{Carried, markers, meet_mark, raise, reporting}
use Rattle.chronicle.proofs.Blocks.{same_number, log_raise, epoch_raise, cut_raise, took_raise}
use Rattle.chronicle.proofs.Dropping.{dropped_raise, reported_raise}
use Rattle.cut_laws.specs.Own.{Own}
use Rattle.epoch_report.specs.Downs.{DownsListOne}
use Rattle.epoch_report.specs.Trimming.{trimmed_report}
use Rattle.node_core.specs.declared.node.Node.{Node}
use Rattle.node_core.specs.declared.outputs.Output.{Output as Given}
use Rattle.node_core.specs.Alike.{Alike}
use Rattle.node_core.specs.Counting.{AreCounts}
use Rattle.node_core.specs.Keeping.{Keeps, KeepsAllBut}
use Rattle.incomplete_closure.specs.Reports.{Report}
use Rattle.consolidator.specs.Messages.{Reports}
use Rattle.node_core.specs.Outputs.{Cut, Send, Mail, output_of, outputs, Hands}
use Rattle.node_core.proofs.Alike.{mark_alike, rise_alike}
use Rattle.node_core.specs.Reports.{AreReports}
use Rattle.node_core.proofs.Completing.{no_later_cut}
use Rattle.node_core.proofs.Entering.{same_keeps}
use Rattle.node_core.proofs.Reporting.{one_report_more}
use Rattle.node_core.specs.Answering.{posts}
use Rattle.node_core.proofs.Handing.{hands_more, outputs_raise}

-- ---- the markers, one by one

module _ (h : List Entry) (e : ℕ) where
  -- the marker to a neighbour, where a session is held
  abbrev pub marker_to : ℕ → List Going
  marker_to w = going_in w (λ s. Marker e ∷ []) (held (reads h) w)

  -- one neighbour more
  pub marker_more : (nodes : List ℕ) (i w : ℕ) (session : Option ℕ) (start old new : List Given) → i < length nodes → w ≡ get_or nodes i w → session ≡ held (reads h) w
      → map output_of old ≡ map output_of start ++ map Send (flat_map marker_to (take i nodes))
      → map output_of new ≡ map output_of old ++ map Send (going_in w (λ s. Marker e ∷ []) session)
      → map output_of new ≡ map output_of start ++ map Send (flat_map marker_to (take (i + 1) nodes))
  marker_more nodes i w session start old new inside is same was grown =
      let more : take (i + 1) nodes ≡ take i nodes ++ w ∷ [] = take_more nodes i w inside ∙ ap (λ x. take i nodes ++ x ∷ []) (sym is) in
      let all : flat_map marker_to (take i nodes) ++ marker_to w ≡ flat_map marker_to (take (i + 1) nodes) = flat_map_more marker_to [] (take i nodes) w ∙ ap (flat_map marker_to) (sym more) in
      grown
      ∙ (ap (λ o. map output_of old ++ map Send (going_in w (λ s. Marker e ∷ []) o)) same
      ∙ (ap (λ l. l ++ map Send (marker_to w)) was
      ∙ (append_assoc (map output_of start) (map Send (flat_map marker_to (take i nodes))) (map Send (marker_to w))
      ∙ ap (λ l. map output_of start ++ l) (sym (map-append Send (flat_map marker_to (take i nodes)) (marker_to w)) ∙ ap (map Send) all))))

  -- all of them
  pub all_markers : (net : Net) (u : ℕ) (nodes : List ℕ) → nodes ≡ neighbours net u → flat_map marker_to nodes ≡ markers net u e h
  unfolding spread
  all_markers net u nodes same = ap (flat_map marker_to) same

-- ---- what a node keeps

-- the snapshots take their cut in the network of the node
pub taken_at : {P : Type 0} (policy : P) (rules : Rules) (topo net : Net) (u : ℕ) (log : NodeLog P) (h : List Entry) (old new : Kept) (acts : SnapshotActs) (e : ℕ) → topo ≡ net
    → (SnapshotsStandFor topo u old acts → LogStandsFor policy rules topo u log h → epoch_of acts < e → SnapshotsStandFor topo u new (Takes e h ∷ acts))
    → SnapshotsStandFor net u old acts → LogStandsFor policy rules net u log h → epoch_of acts < e → SnapshotsStandFor net u new (Takes e h ∷ acts)
taken_at policy rules topo net u log h old new acts e same taken =
    subst (λ n. SnapshotsStandFor n u old acts → LogStandsFor policy rules n u log h → epoch_of acts < e → SnapshotsStandFor n u new (Takes e h ∷ acts)) same taken

-- its snapshots were told more, its reports are those of its cuts, and the log is as it was
pub told_keeps : {P : Type 0} (policy : P) (rules : Rules) (net : Net) (u : ℕ) (past now : Chronicle) (old new : Node P) (acts : SnapshotActs)
    → Keeps policy rules net u old past → KeepsAllBut old new → log_of u now ≡ log_of u past → dropped net u now ≡ dropped net u past
    → SnapshotsStandFor net u new.parts.value.snapshots acts → Alike acts u now → AreReports rules net u now new.parts.value.agreement.reports
    → Keeps policy rules net u new now
told_keeps policy rules net u past now old new acts was rest logs drops snapshots alike reports = record {
  same_net = (λ k. (rest.topology k).value) ∙ was.same_net;
  same_id = rest.id ∙ was.same_id;
  log = subst (LogStandsFor policy rules net u new.log.value) (sym logs) (subst (λ l. LogStandsFor policy rules net u l.value (log_of u past)) (sym rest.log) was.log);
  drops = ap (λ l. dropped_of l.value) rest.log ∙ (was.drops ∙ sym drops);
  counted = subst (AreCounts rules net u (log_of u now)) (sym rest.counts) (subst (λ h. AreCounts rules net u h old.parts.value.counts) (sym logs) was.counted);
  acts = acts;
  snapshots = snapshots;
  alike = alike;
  reports = reports;
}

-- the cut is reported without what u has dropped, and the others as they were
risen_cuts : (rules : Rules) (net : Net) (u : ℕ) (carried : Carried) (past : Chronicle) (e d : ℕ)
    → reported_cut net u d (raise rules net carried u e past) ≡ (if e == d then Some (kept_log net u past) else reported_cut net u d past)
risen_cuts rules net u carried past e d =
    reported_raise rules net carried u e past u d
    ∙ (ap (λ b. option_map (trimmed (if b && e == d then dropped net u past else dropped_then net u d past)) (if b && e == d then Some (log_of u past) else cut u d past)) (same_number u)
    ∙ by (e == d))
  where
    by : (b : Bool) → option_map (trimmed (if b then dropped net u past else dropped_then net u d past)) (if b then Some (log_of u past) else cut u d past) ≡ (if b then Some (kept_log net u past) else reported_cut net u d past)
    by true = refl
    by false = refl

-- the epoch rises
pub risen : {P : Type 0} (policy : P) (rules : Rules) (net : Net) (u : ℕ) (carried : Carried) (past : Chronicle) (e : ℕ) (old new : Node P)
    → Own rules net past u → Keeps policy rules net u old past → epoch u past < e → KeepsAllBut old new
    → ((acts : SnapshotActs) → SnapshotsStandFor net u old.parts.value.snapshots acts → epoch_of acts < e → SnapshotsStandFor net u new.parts.value.snapshots (Takes e (log_of u past) ∷ acts))
    → new.parts.value.agreement.reports ≡ old.parts.value.agreement.reports ++ trimmed_report rules net u e (trimmed (dropped_of old.log.value) (log_of u past)) ∷ []
    → Keeps policy rules net u new (raise rules net carried u e past)
risen policy rules net u carried past e old new own was high rest taken kept =
    let above : epoch_of was.acts < e = subst (λ n. n < e) (sym was.alike.same_epoch) high in
    told_keeps policy rules net u past (raise rules net carried u e past) old new (Takes e (log_of u past) ∷ was.acts) was rest (log_raise rules net carried u e past u)
    (dropped_raise rules net carried u e past u)
    (taken was.acts was.snapshots above) (rise_alike rules net u carried e past was.acts own was.alike high)
    (one_report_more rules net u past (raise rules net carried u e past) old.parts.value.agreement.reports new.parts.value.agreement.reports e (kept_log net u past) was.reports
    (ap (option_map (trimmed (dropped_then net u e past))) (no_later_cut policy rules net u past old was e high)) (risen_cuts rules net u carried past e)
    (kept ∙ ap (λ n. old.parts.value.agreement.reports ++ trimmed_report rules net u e (trimmed n (log_of u past)) ∷ []) was.drops))

-- the report to each consolidator
pub mailed_reports : (rules : Rules) (topo net : Net) (u e : ℕ) (h : Trimmed) (nodes : List ℕ) (r : Report) → nodes ≡ ascending topo.consolidators → topo ≡ net → r ≡ trimmed_report rules net u e h
    → map (λ to. Mail to (Reports r)) nodes ≡ posts (reporting rules net u e h)
mailed_reports rules topo net u e h nodes r are same is =
    ap (λ x. map (λ to. Mail to (Reports x)) nodes) is ∙ (each nodes ∙ ap (λ ns. posts (map (λ c. (c, Reports (trimmed_report rules net u e h))) ns)) (are ∙ ap (λ (n : Net). ascending n.consolidators) same))
  where
    each : (ns : List ℕ) → map (λ to. Mail to (Reports (trimmed_report rules net u e h))) ns ≡ posts (map (λ c. (c, Reports (trimmed_report rules net u e h))) ns)
    each [] = refl
    each (n ∷ ns) = ap (λ l. Mail n (Reports (trimmed_report rules net u e h)) ∷ l) (each ns)

-- what was taken is not handed out
pub hands_took : (first past : Chronicle) (list : List Given) (v u s : ℕ) (x : Item) → Hands first list past → Hands first list (Took v u s x ∷ past)
hands_took first past list v u s x was = was ∙ sym (append-nil (outputs past))

-- a cut, its markers and its reports are handed out
pub risen_hands : (rules : Rules) (net : Net) (u : ℕ) (carried : Carried) (first past : Chronicle) (e : ℕ) (old new : List Given)
    → map output_of new ≡ map output_of old ++ Cut e ∷ (map Send (markers net u e (log_of u past)) ++ posts (reporting rules net u e (kept_log net u past)))
    → Hands first old past → Hands first new (raise rules net carried u e past)
risen_hands rules net u carried first past e old new list was =
    hands_more first past (raise rules net carried u e past) old new (Cut e ∷ (map Send (markers net u e (log_of u past)) ++ posts (reporting rules net u e (kept_log net u past)))) list
    (outputs_raise rules net u carried past e) was

module _ (rules : Rules) (net : Net) (u : ℕ) (carried : Carried) (past : Chronicle) (v s e : ℕ) (x : Item) (Q : Chronicle → Type 0) where
  -- a mark that is higher raises the epoch
  pub meets_above : epoch u past < e → Q (raise rules net carried u e (Took v u s x ∷ past)) → Q (meet_mark rules net carried u e (Took v u s x ∷ past))
  meets_above high made =
      let test : nat_lt (epoch u past) e ≡ true = grind (arith, nat_tests) in
      subst (λ b. Q (if b then raise rules net carried u e (Took v u s x ∷ past) else Took v u s x ∷ past)) (sym test) made

  -- another one does not
  pub meets_below : e ≤ epoch u past → Q (Took v u s x ∷ past) → Q (meet_mark rules net carried u e (Took v u s x ∷ past))
  meets_below low made =
      let test : nat_lt (epoch u past) e ≡ false = grind (arith, nat_tests) in
      subst (λ b. Q (if b then raise rules net carried u e (Took v u s x ∷ past) else Took v u s x ∷ past)) (sym test) made

-- no log changes where a mark is met
pub log_meet : (rules : Rules) (net : Net) (u : ℕ) (carried : Carried) (past : Chronicle) (e : ℕ) → log_of u (meet_mark rules net carried u e past) ≡ log_of u past
log_meet rules net u carried past e =
    elim (nat_lt (epoch u past) e) as (λ t. log_of u (if t then raise rules net carried u e past else past) ≡ log_of u past) [
      | true ↦ log_raise rules net carried u e past u
      | false ↦ refl
    ]

-- the tests of two epochs
pub is_above : (a b c : ℕ) (t : Bool) → t ≡ is_lt (nat_cmp a b) → t ≡ true → a ≡ c → c < b
is_above a b c t test on same = let so : is_lt (nat_cmp a b) ≡ true = sym test ∙ on in grind (arith, nat_tests)

-- the other way
pub is_below : (a b c : ℕ) (t : Bool) → t ≡ is_lt (nat_cmp a b) → t ≡ false → a ≡ c → b ≤ c
is_below a b c t test off same = let so : is_lt (nat_cmp a b) ≡ false = sym test ∙ off in grind (arith, nat_tests)

module _ {P : Type 0} (policy : P) (rules : Rules) (net : Net) (u : ℕ) (carried : Carried) (past : Chronicle) (v s e : ℕ) (x : Item) (old mid new : Node P)
    (own : Own rules net past u) (was : Keeps policy rules net u old past) (is : mark_of x ≡ Some e)
    (meets : (acts : SnapshotActs) → SnapshotsStandFor net u mid.parts.value.snapshots acts → SnapshotsStandFor net u new.parts.value.snapshots (Meets v s e ∷ acts)) (rest : KeepsAllBut mid new) (same_reports : new.parts.value.agreement.reports ≡ mid.parts.value.agreement.reports) where
  -- a mark is met
  marked_keeps : (now : Chronicle) → Keeps policy rules net u mid now → Keeps policy rules net u new (Took v u s x ∷ now)
  marked_keeps now then' =
      told_keeps policy rules net u now (Took v u s x ∷ now) mid new (Meets v s e ∷ then'.acts) then' rest refl refl (meets then'.acts then'.snapshots)
      (mark_alike u now then'.acts v s e x is then'.alike) (subst (AreReports rules net u now) (sym same_reports) then'.reports)

  -- a higher one is met after the cut that it asks for
  pub met_above : (raised : Node P) → mid ≡ raised → epoch u past < e → KeepsAllBut old raised
      → ((acts : SnapshotActs) → SnapshotsStandFor net u old.parts.value.snapshots acts → epoch_of acts < e → SnapshotsStandFor net u raised.parts.value.snapshots (Takes e (log_of u past) ∷ acts))
      → raised.parts.value.agreement.reports ≡ old.parts.value.agreement.reports ++ trimmed_report rules net u e (trimmed (dropped_of old.log.value) (log_of u past)) ∷ []
      → Keeps policy rules net u new (meet_mark rules net carried u e (Took v u s x ∷ past))
  met_above raised same high others taken kept =
      let keeps : Keeps policy rules net u mid (raise rules net carried u e past) =
      subst (λ n. Keeps policy rules net u n (raise rules net carried u e past)) (sym same) (risen policy rules net u carried past e old raised own was high others taken kept) in
      meets_above rules net u carried past v s e x (Keeps policy rules net u new) high
      (same_keeps policy rules net u new (Took v u s x ∷ raise rules net carried u e past) (raise rules net carried u e (Took v u s x ∷ past))
      (log_raise rules net carried u e (Took v u s x ∷ past) u ∙ sym (log_raise rules net carried u e past u))
      (epoch_raise rules net carried u e (Took v u s x ∷ past) u ∙ sym (epoch_raise rules net carried u e past u))
      (λ d. cut_raise rules net carried u e (Took v u s x ∷ past) u d ∙ sym (cut_raise rules net carried u e past u d))
      (λ w t. took_raise rules net carried u e (Took v u s x ∷ past) w u t ∙ ap (took_by w u t (Took v u s x)) (sym (took_raise rules net carried u e past w u t)))
      (record {
        same_count = dropped_raise rules net carried u e (Took v u s x ∷ past) u ∙ sym (dropped_raise rules net carried u e past u);
        same_reported = λ d. reported_raise rules net carried u e (Took v u s x ∷ past) u d ∙ sym (reported_raise rules net carried u e past u d);
      })
      (marked_keeps (raise rules net carried u e past) keeps))

  -- another one is only met
  pub met_below : mid ≡ old → e ≤ epoch u past → Keeps policy rules net u new (meet_mark rules net carried u e (Took v u s x ∷ past))
  met_below same low =
      meets_below rules net u carried past v s e x (Keeps policy rules net u new) low
      (marked_keeps past (subst (λ n. Keeps policy rules net u n past) (sym same) was))

-- ---- what a report tells of a Down

one_listed : (u : ℕ) (h : List Entry) (cause : Cause) (ts : List Trigger) (w s : ℕ) → Inherits u h cause ts → closes cause w s ≡ true → length ts ≡ 1
one_listed u h (Down v t) ts w s is same = ap length is
one_listed u h other ts w s is same = absurd (cc same)

-- where each entry lists what it has to, each Down lists one trigger
pub downs_list_one : (u : ℕ) (h : List Entry) → AllInherit u h → DownsListOne h
downs_list_one u [] all w s ts e = absurd (cc e)
downs_list_one u (k ∷ h) all w s ts e =
    (elim (closes k.read.cause w s) as (λ b. closes k.read.cause w s ≡ b → (if b then Some k.triggers else closing h w s) ≡ Some ts → length ts ≡ 1) [
      | true ↦ λ same e. let is : k.triggers ≡ ts = cc e in ap length (sym is) ∙ one_listed u h k.read.cause k.triggers w s all.0 same
      | false ↦ λ other e. downs_list_one u h all.1 w s ts e
    ]) refl e
