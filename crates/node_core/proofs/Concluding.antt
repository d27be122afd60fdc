-- The table that a node publishes.
use Rattle.std.proofs.Common.{ℕ, suc, ◌-◌, ◌<◌, ◌≤◌, Bool, true, false, not, ◌==◌, ◌&&◌, nat_lt, Option, Some, None, List, [], ◌∷◌, ◌++◌, map, find, ◌≡◌, refl, sym, ◌∙◌, ap, ap₂, subst, arith, length, length-append, option_map, is_some}
use Rattle.std.specs.Prelude.{Result, Ok, Err, OnOk, OnErr, is_ok, is_err, if◌then◌else◌}
use Rattle.std.specs.List.{AllByRecursion}
use Rattle.std.proofs.lemmas.Bool.Decides.{nat_tests}
use Rattle.topology.specs.Lists.{has}
use Rattle.topology.specs.Triggers.{lists}
use Rattle.topology.specs.Net.{Net}
use Rattle.path_vector.specs.Rules.{Rules}
use Rattle.trigger_log.specs.declared.log.NodeLog.{NodeLog}
use Rattle.trigger_log.specs.Dropping.{trimmed, droppable}
use Rattle.trigger_log.proofs.Droppable.{droppable_short, droppable_leads}
use Rattle.trigger_log.specs.Entries.{Entry}
use Rattle.trigger_log.specs.Standing.{StandsFor as LogStandsFor, dropped_of}
use Rattle.incomplete_closure.specs.declared.values.Value.{Value}
use Rattle.stable_table.specs.Tables.{all_responded, View}
use Rattle.stable_table.specs.Trimming.{trimmed_table, trimmed_table_of}
use Rattle.stable_table.specs.Published as tables
use Rattle.stable_table.specs.TwoTables.{StandsFor as TablesStandFor, epoch_of}
use Rattle.consolidator.specs.Facts as consolidator
use Rattle.consolidator.specs.Standing.{StandsFor as PartStandsFor}
use Rattle.consolidator.proofs.Beside.{stands_beside}
use Rattle.marker_snapshot.specs.Cuts.{epoch_of as acts_epoch}
use Rattle.chronicle.specs.Facts.{Chronicle, Log, Raise, Publish}
use Rattle.chronicle.specs.Logs.{log_of}
use Rattle.chronicle.specs.Epochs.{epoch, raised, cut}
use Rattle.chronicle.specs.Control.{control, decision}
use Rattle.chronicle.specs.Drops.{dropped, dropped_below, table_cut}
use Rattle.chronicle.specs.Publications.{Publication, publications, newest, has_both, is_above, completes, publish}
use Rattle.chronicle.specs.Publications.{epoch_of as published_epoch}
use Rattle.chronicle.proofs.Blocks.{same_number}
use Rattle.chronicle.proofs.Dropping.{above_one, above_others, all_below, below_stays, dropped_own}
use Rattle.cut_laws.specs.Own.{DropsWithin}
use Rattle.marker_snapshot.specs.Standing.{StandsFor as SnapshotsStandFor}
use Rattle.chronicle.proofs.Quiet.{quiet_step, only_due, publish_none, publish_due}
use Rattle.node_core.specs.declared.agreement.Agreement.{Agreement}
use Rattle.node_core.specs.declared.node.Node.{Node}
use Rattle.node_core.specs.declared.parts.NodeParts.{NodeParts}
use Rattle.node_core.specs.declared.outputs.Output.{Output as Given}
use Rattle.node_core.specs.Agreeing.{Agrees, IsOver, IsByCut}
use Rattle.node_core.specs.Answering.{MayComplete, Tabled}
use Rattle.node_core.specs.Keeping.{Keeps}
use Rattle.node_core.specs.Outputs.{Published, Hands, output_of}
use Rattle.node_core.specs.Counting.{AreCounts}
use Rattle.node_core.specs.Reports.{AreReports}
use Rattle.node_core.specs.Views.{backups_over, view_of, views}
use Rattle.node_core.specs.Standing.{Follows}
use Rattle.node_core.proofs.Agreements.{AreLow, agrees_as}
use Rattle.node_core.proofs.Completing.{raised_cut}
use Rattle.node_core.proofs.Alike.{same_alike}
use Rattle.node_core.proofs.Entering.{same_reports}
use Rattle.node_core.proofs.Handing.{hands_more}
use Rattle.node_core.proofs.Sighting.{newest_view}

-- ---- what is due

-- it is due where the node has both now, and published none that is as new
due_test : (both had above : Bool) → had ≡ false → (both && (not had && above)) ≡ (both && above)
due_test both had above off = rw off refl

both_above : (both above : Bool) → both ≡ true → above ≡ true → (both && above) ≡ true
both_above both above on so = rw (on, so) refl

not_both : (both above : Bool) → both ≡ false → (both && above) ≡ false
not_both both above off = rw off refl

not_above : (both above : Bool) → above ≡ false → (both && above) ≡ false
not_above true above off = off
not_above false above off = refl

module _ (rules : Rules) (net : Net) (u : ℕ) (before now : Chronicle) where
  -- where no epoch may be complete nothing is published
  pub none_due : MayComplete u before now None → publish rules net u before now ≡ now
  none_due may = quiet_step rules net u before now may

  module _ (d : ℕ) (may : MayComplete u before now (Some d)) where
    -- the epoch that may be complete is due where the node has both, and published none that is as new
    found : (both above : Bool) → has_both u d now ≡ both → is_above d (newest u now) ≡ above → find (completes u before now) (raised u now) ≡ (if both && above then Some d else None)
    found both above is so =
        only_due u before now d may.1
        ∙ ap (λ b. if b then Some d else None) (due_test (has_both u d now) (has_both u d before) (is_above d (newest u now)) may.0 ∙ ap₂ (λ a b. a && b) is so)

    -- it has not both
    pub not_complete : has_both u d now ≡ false → publish rules net u before now ≡ now
    not_complete off = publish_none rules net u before now (found false (is_above d (newest u now)) off refl)

    -- it published a newer one
    pub not_newer : is_above d (newest u now) ≡ false → publish rules net u before now ≡ now
    not_newer off =
        publish_none rules net u before now
        (found (has_both u d now) false refl off ∙ ap (λ b. if b then Some d else None) (not_above (has_both u d now) false refl))

    -- it is published
    pub is_published : (t : View) (place : ℕ) → (tabled : Tabled rules net u d now t place) → is_above d (newest u now) ≡ true
        → publish rules net u before now ≡ Publish u d tabled.value (trimmed_table rules net u tabled.value tabled.cut) ∷ now
    is_published t place tabled above =
        let both : has_both u d now ≡ true = ap₂ (λ a (o : Option Value). a && is_some o) (raised_cut u d now ∙ cut_there (cut u d now) tabled.has_cut) tabled.knows in
        publish_due rules net u before now d tabled.cut tabled.value (found true true both above) tabled.has_cut tabled.knows
      where
        cut_there : (o : Option (List Entry)) → option_map (trimmed (dropped_below net u d now)) o ≡ Some tabled.cut → is_some o ≡ true
        cut_there None q = absurd (cc q)
        cut_there (Some c) q = refl

-- ---- what is kept of it

-- it is above where the epoch of the highest one is lower
pub above_views : (rules : Rules) (net : Net) (u : ℕ) (now : Chronicle) (d : ℕ) → tables.is_above epoch_of d (tables.newest epoch_of (views rules net u now)) ≡ is_above d (newest u now)
above_views rules net u now d =
    ap (tables.is_above epoch_of d) (newest_view rules net u now) ∙ by (newest u now)
  where
    by : (o : Option Publication) → tables.is_above epoch_of d (option_map (view_of rules net u now) o) ≡ is_above d o
    by None = refl
    by (Some t) = refl

-- the cuts as tables are made of them stay for what is not above the epoch of a table that is published
cuts_stay : (net : Net) (u d e : ℕ) (value : Value) (paths : List (Option (List ℕ))) (now : Chronicle) → nat_lt d e ≡ false
    → table_cut net u e (Publish u d value paths ∷ now) ≡ table_cut net u e now
cuts_stay net u d e value paths now low = ap (λ n. option_map (trimmed n) (cut u e now)) (below_stays net u e u d value paths now (λ same. low))

module _ (rules : Rules) (net : Net) (u d : ℕ) (now : Chronicle) (t : View) (place : ℕ) (tabled : Tabled rules net u d now t place) where
  -- the table as it was published
  abbrev paths : List (Option (List ℕ))
  paths = trimmed_table rules net u tabled.value tabled.cut

  -- the chronicle with it
  abbrev pub with_table : Chronicle
  with_table = Publish u d tabled.value paths ∷ now

  -- it as its readers see it
  its_view : view_of rules net u with_table (record { epoch = d; value = tabled.value; paths = paths }) ≡ t
  its_view =
      let none : nat_lt d d ≡ false = grind (arith, nat_tests) in
      ap (λ c. record { epoch = d; value = tabled.value; paths = paths; backups = backups_over rules net u tabled.value c }) (cuts_stay net u d d tabled.value paths now none ∙ tabled.has_cut)
      ∙ sym tabled.is

  -- the older ones are seen as they were
  older_views : (ts : List Publication) → is_above d (tables.newest published_epoch ts) ≡ true → map (view_of rules net u with_table) ts ≡ map (view_of rules net u now) ts
  older_views [] above = refl
  older_views (s ∷ ts) above =
      let low : nat_lt s.epoch d ≡ true = above_one d s (tables.newest published_epoch ts) above in
      let not_above : nat_lt d s.epoch ≡ false = grind (arith, nat_tests, low) in
      ap₂ (λ v vs. v ∷ vs)
      (ap (λ c. record { epoch = s.epoch; value = s.value; paths = s.paths; backups = backups_over rules net u s.value c }) (cuts_stay net u d s.epoch tabled.value paths now not_above))
      (older_views ts (above_others d s (tables.newest published_epoch ts) above))

  -- it is by its cut, and the older ones are by theirs
  by_its_cut : IsByCut rules net u with_table (record { epoch = d; value = tabled.value; paths = paths })
  by_its_cut =
      let none : nat_lt d d ≡ false = grind (arith, nat_tests) in
      subst (IsOver rules net u (record { epoch = d; value = tabled.value; paths = paths })) (sym (cuts_stay net u d d tabled.value paths now none ∙ tabled.has_cut)) refl

  by_older_cuts : (ts : List Publication) → is_above d (tables.newest published_epoch ts) ≡ true → AllByRecursion (IsByCut rules net u now) ts → AllByRecursion (IsByCut rules net u with_table) ts
  by_older_cuts [] above by = tt
  by_older_cuts (s ∷ ts) above by =
      let low : nat_lt s.epoch d ≡ true = above_one d s (tables.newest published_epoch ts) above in
      let not_above : nat_lt d s.epoch ≡ false = grind (arith, nat_tests, low) in
      (subst (IsOver rules net u s) (sym (cuts_stay net u d s.epoch tabled.value paths now not_above)) by.0, by_older_cuts ts (above_others d s (tables.newest published_epoch ts) above) by.1)

  -- it comes before the others
  pub views_then : is_above d (newest u now) ≡ true → views rules net u with_table ≡ t ∷ views rules net u now
  views_then above =
      ap (λ b. map (view_of rules net u with_table) (if b then record { epoch = d; value = tabled.value; paths = paths } ∷ publications u now else publications u now)) (same_number u)
      ∙ ap₂ (λ v vs. v ∷ vs) its_view (older_views (publications u now) above)

  -- it is shown last
  pub published_hands : (first : Chronicle) (old new : List Given) → map output_of new ≡ map output_of old ++ Published t.epoch t.value t.paths ∷ []
      → Hands first old now → Hands first new with_table
  published_hands first old new list was =
      hands_more first now with_table old new (Published d tabled.value paths ∷ [])
      (list ∙ ap (λ (v : View). map output_of old ++ Published v.epoch v.value v.paths ∷ []) tabled.is) refl was

  -- what is kept then
  pub published_agrees : (old new : Agreement) → Agrees rules net u old now → is_above d (newest u now) ≡ true → d ≤ epoch u now → new.consolidator ≡ old.consolidator → TablesStandFor new.tables (t ∷ views rules net u now)
      → Agrees rules net u new with_table
  published_agrees old new was above low same stands = record {
    part = subst (λ k. PartStandsFor net k (consolidator.Other ∷ control now) u) (sym same) (stands_beside net old.consolidator (control now) u consolidator.Other tt was.part);
    tables = subst (TablesStandFor new.tables) (sym (views_then above)) stands;
    low = subst (AreLow (epoch u now)) (sym (ap (λ b. if b then record { epoch = d; value = tabled.value; paths = paths } ∷ publications u now else publications u now) (same_number u))) (low, was.low);
    by_cuts = subst (AllByRecursion (IsByCut rules net u with_table)) (sym (ap (λ b. if b then record { epoch = d; value = tabled.value; paths = paths } ∷ publications u now else publications u now) (same_number u)))
        (by_its_cut, by_older_cuts (publications u now) above was.by_cuts);
  }

-- a call went well where it did not fail
pub went_well : {A B : Type 0} (r : Result A B) → is_err r ≡ false → is_ok r ≡ true
went_well (Ok x) is = refl
went_well (Err x) is = absurd (cc is)

pub went_wrong : {A B : Type 0} (r : Result A B) → is_err r ≡ true → is_ok r ≡ false
went_wrong (Ok x) is = absurd (cc is)
went_wrong (Err x) is = refl

-- what holds where all is well, and it is
pub holds_ok : {A B P : Type 0} (r : Result A B) → is_ok r ≡ true → OnOk r P → P
holds_ok (Ok x) is p = p
holds_ok (Err x) is p = absurd (cc is)

-- what holds where it is not
pub holds_err : {A B P : Type 0} (r : Result A B) → is_ok r ≡ false → OnErr r P → P
holds_err (Ok x) is p = absurd (cc is)
holds_err (Err x) is p = p

-- the test of the tables is that of what was published
pub newer_than : (rules : Rules) (net : Net) (u d : ℕ) (now : Chronicle) (t shared : View) → t.epoch ≡ d → shared ≡ t → (answer : Bool)
    → answer ≡ tables.is_above epoch_of shared.epoch (tables.newest epoch_of (views rules net u now)) → is_above d (newest u now) ≡ answer
newer_than rules net u d now t shared made same answer is =
    let number : shared.epoch ≡ d = ap (λ (v : View). v.epoch) same ∙ made in
    sym (is ∙ (ap (λ n. tables.is_above epoch_of n (tables.newest epoch_of (views rules net u now))) number ∙ above_views rules net u now d))

-- an epoch of which there is a cut is not above that of the node
pub cut_low : {P : Type 0} (policy : P) (rules : Rules) (net : Net) (u e : ℕ) (now : Chronicle) (node : Node P) (c : List Entry) → Keeps policy rules net u node now → cut u e now ≡ Some c → e ≤ epoch u now
cut_low policy rules net u e now node c keeps is =
    (elim (nat_lt (epoch u now) e) as (λ b. nat_lt (epoch u now) e ≡ b → e ≤ epoch u now) [
      | true ↦ λ on.
          let up : epoch u now < e = grind (arith, nat_tests) in
          let high : acts_epoch keeps.acts < e = subst (λ n. n < e) (sym keeps.alike.same_epoch) up in
          absurd (cc (sym is ∙ (sym (keeps.alike.same_cut e) ∙ keeps.snapshots.newest e high)))
      | false ↦ λ off. grind (arith, nat_tests)
    ]) refl

-- what was logged since the cut
pub since_cut : (u e : ℕ) (past : Chronicle) (c : List Entry) → cut u e past ≡ Some c → (newer : List Entry) × (newer ++ c ≡ log_of u past)
since_cut u e [] c is = absurd (cc is)
since_cut u e (Log node k ∷ past) c is =
    let older = since_cut u e past c is in
    elim (node == u) as (λ b. (newer : List Entry) × (newer ++ c ≡ (if b then k ∷ log_of u past else log_of u past))) [
      | true ↦ (k ∷ older.0, ap (λ l. k ∷ l) older.1)
      | false ↦ older
    ]
since_cut u e (Raise node d ∷ past) c is =
    (elim (node == u && d == e) as (λ b. (if b then Some (log_of u past) else cut u e past) ≡ Some c → (newer : List Entry) × (newer ++ c ≡ log_of u past)) [
      | true ↦ λ now. let same : log_of u past ≡ c = cc now in ([], sym same)
      | false ↦ λ old. since_cut u e past c old
    ]) is
since_cut u e (f ∷ past) c is = since_cut u e past c is

-- without a cut there is not both
pub no_cut : (u e : ℕ) (now : Chronicle) (found : Option ℕ) (o : Option (List Entry)) → found ≡ None → found ≡ option_map length o → o ≡ cut u e now → has_both u e now ≡ false
no_cut u e now found None is so same = ap (λ b. b && is_some (decision u e now)) (raised_cut u e now ∙ ap is_some (sym same))
no_cut u e now found (Some c) is so same = absurd (cc (sym is ∙ so))

-- nor without a decision
pub no_decision : (u e : ℕ) (now : Chronicle) → None ≡ decision u e now → has_both u e now ≡ false
no_decision u e now is = ap (λ o. has (raised u now) e && is_some o) (sym is) ∙ by (has (raised u now) e)
  where
    by : (b : Bool) → (b && false) ≡ false
    by true = refl
    by false = refl

-- the table by the cut and the decision, and the place behind what goes then
pub table_is : {P : Type 0} (policy : P) (rules : Rules) (again net : Net) (u e count : ℕ) (log : NodeLog P) (now : Chronicle) (value : Value) (found : Option ℕ) (c : Option (List Entry)) (t : View) (place : ℕ)
    → again ≡ net → LogStandsFor policy rules net u log (log_of u now) → dropped_of log ≡ dropped net u now → found ≡ Some count → found ≡ option_map length c → c ≡ cut u e now → decision u e now ≡ Some value
    → ((newer entries : List Entry) → newer ++ entries ≡ log_of u now → count ≡ length entries → dropped_of log ≤ count → t ≡ trimmed_table_of rules net u e value (trimmed (dropped_of log) entries))
    → ((newer entries : List Entry) → LogStandsFor policy rules again u log (newer ++ entries) → count ≡ length entries → dropped_of log ≤ count
    → place ≡ suc (if all_responded value again.nodes then droppable (lists value.incomplete) (dropped_of log) entries else dropped_of log))
    → is_above e (newest u now) ≡ true → DropsWithin net now u → Tabled rules net u e now t place
table_is policy rules again net u e count log now value found None t place same_again stands drops is so same_cut knows made goes above within = absurd (cc (sym so ∙ is))
table_is policy rules again net u e count log now value found (Some c) t place same_again stands drops is so same_cut knows made goes above within =
    let has_cut : cut u e now ≡ Some c = sym same_cut in
    let since = since_cut u e now c has_cut in
    let number : count ≡ length c = cc (sym is ∙ so) in
    let inside = within.in_cut e c has_cut above in
    let few : dropped_of log ≤ count = omega (arith, number, drops, inside) in
    let stands_so = subst (LogStandsFor policy rules net u log) (sym since.1) stands in
    let below : dropped_of log ≡ dropped_below net u e now = drops ∙ sym (all_below net u e now above) in
    record {
      cut = trimmed (dropped_below net u e now) c;
      value = value;
      has_cut = ap (option_map (trimmed (dropped_below net u e now))) has_cut;
      knows = knows;
      is = made since.0 c since.1 number few ∙ ap (λ m. trimmed_table_of rules net u e value (trimmed m c)) below;
      keeps_from = goes since.0 c (subst (λ (n : Net). LogStandsFor policy rules n u log (since.0 ++ c)) (sym same_again) stands_so) number few
          ∙ (ap₂ (λ (n : Net) m. suc (if all_responded value n.nodes then droppable (lists value.incomplete) m c else m)) same_again drops
          ∙ ap suc (sym (dropped_own net u e value (trimmed_table rules net u value (trimmed (dropped_below net u e now) c)) now c has_cut)));
    }

-- ---- the node that published

-- what is dropped behind a table was there, and was not dropped before
pub record MayGo (now : Chronicle) (u dropped place : ℕ) : Type 0 where
  pub later : dropped < place
  pub there : place ≤ suc (length (log_of u now))

module _ (rules : Rules) (net : Net) (u d : ℕ) (now : Chronicle) (t : View) (place : ℕ) (tabled : Tabled rules net u d now t place) (within : DropsWithin net now u) (above : is_above d (newest u now) ≡ true) where
  -- the place is one to which the log may be cut
  pub may_go_before : MayGo now u (dropped net u now) place
  may_go_before = by_cut (cut u d now) refl
    where
      by_cut : (o : Option (List Entry)) → cut u d now ≡ o → MayGo now u (dropped net u now) place
      by_cut None q = absurd (cc (sym tabled.has_cut ∙ ap (option_map (trimmed (dropped_below net u d now))) q))
      by_cut (Some c) q =
          let goes = tabled.keeps_from ∙ ap suc (dropped_own net u d tabled.value (trimmed_table rules net u tabled.value tabled.cut) now c q) in
          by_all (all_responded tabled.value net.nodes) goes
        where
          by_all : (b : Bool) → place ≡ suc (if b then droppable (lists tabled.value.incomplete) (dropped net u now) c else dropped net u now) → MayGo now u (dropped net u now) place
          by_all false is = record { later = omega (arith, is); there = let low = within.in_log in omega (arith, is, low) }
          by_all true is =
              let since = since_cut u d now c q in
              let size = ap (λ (h : List Entry). length h) (sym since.1) ∙ length-append since.0 c in
              let inside = within.in_cut d c q above in
              let short = droppable_short (lists tabled.value.incomplete) (dropped net u now) c in
              let more = droppable_leads (lists tabled.value.incomplete) (dropped net u now) c inside in
              record { later = omega (arith, is, more); there = omega (arith, is, short, size) }

-- its table changes nothing else that is read of a node but what it has dropped of its log
pub publishes : {P : Type 0} {kept : NodeParts} {made : Agreement} (policy : P) (rules : Rules) (net : Net) (u d : ℕ) (now : Chronicle) (old new : Node P) (t : View) (place : ℕ) (tabled : Tabled rules net u d now t place)
    → Follows policy rules net u old now → is_above d (newest u now) ≡ true → kept ≡ old.parts.value → new.parts.value ≡ record kept { agreement = made } → made.reports ≡ kept.agreement.reports
    → made.consolidator ≡ kept.agreement.consolidator → (TablesStandFor kept.agreement.tables (views rules net u now) → TablesStandFor made.tables (t ∷ views rules net u now))
    → LogStandsFor policy rules net u new.log.value (log_of u now) → dropped_of new.log.value ≡ place - 1
    → Follows policy rules net u new (Publish u d tabled.value (trimmed_table rules net u tabled.value tabled.cut) ∷ now)
publishes {kept = kept} {made = made} policy rules net u d now old new t place tabled was above same written reports part stands log drops =
    let then' : Chronicle = Publish u d tabled.value (trimmed_table rules net u tabled.value tabled.cut) ∷ now in
    let keeps = was.keeps in
    let agreed = ap (λ (k : NodeParts). k.agreement) same in
    let has_made : new.parts.value.agreement ≡ made = ap (λ (k : NodeParts). k.agreement) written in
    record {
      keeps = record {
        same_net = ap (λ (k : NodeParts). k.topology.value) written ∙ (ap (λ (k : NodeParts). k.topology.value) same ∙ keeps.same_net);
        same_id = ap (λ (k : NodeParts). k.id) written ∙ (ap (λ (k : NodeParts). k.id) same ∙ keeps.same_id);
        log = log;
        drops = drops ∙ (let goes = tabled.keeps_from in omega (arith, goes));
        counted = subst (AreCounts rules net u (log_of u now)) (sym (ap (λ (k : NodeParts). k.counts) written ∙ ap (λ (k : NodeParts). k.counts) same)) keeps.counted;
        acts = keeps.acts;
        snapshots = subst (λ kept. SnapshotsStandFor net u kept keeps.acts) (sym (ap (λ (k : NodeParts). k.snapshots) written ∙ ap (λ (k : NodeParts). k.snapshots) same)) keeps.snapshots;
        alike = same_alike keeps.acts u now then' refl (λ e. refl) (λ v s. refl) keeps.alike;
        reports = same_reports rules net u now then' new.parts.value.agreement.reports (λ e. refl)
            (subst (AreReports rules net u now) (sym (ap (λ (k : Agreement). k.reports) has_made ∙ (reports ∙ ap (λ (k : Agreement). k.reports) agreed))) keeps.reports);
      };
      agrees = subst (λ (k : Agreement). Agrees rules net u k then') (sym has_made)
          (published_agrees rules net u d now t place tabled old.parts.value.agreement made was.agrees above (low (cut u d now) refl)
          (part ∙ ap (λ (k : Agreement). k.consolidator) agreed)
          (stands (subst (λ (k : Agreement). TablesStandFor k.tables (views rules net u now)) (sym agreed) was.agrees.tables)));
      small = was.small;
    }
  where
    low : (o : Option (List Entry)) → cut u d now ≡ o → d ≤ epoch u now
    low None q = absurd (cc (sym tabled.has_cut ∙ ap (option_map (trimmed (dropped_below net u d now))) q))
    low (Some c) q = cut_low policy rules net u d now old c was.keeps q

-- a node whose parts are equal follows as well
pub follows_as : {P : Type 0} (policy : P) (rules : Rules) (net : Net) (u : ℕ) (now : Chronicle) (old new : Node P) → Keeps policy rules net u new now
    → new.parts.value.agreement.consolidator ≡ old.parts.value.agreement.consolidator → new.parts.value.agreement.tables ≡ old.parts.value.agreement.tables → Follows policy rules net u old now → Follows policy rules net u new now
follows_as policy rules net u now old new keeps part tables was = record {
  keeps = keeps;
  agrees = agrees_as rules net u old.parts.value.agreement new.parts.value.agreement now (record { part = part; tables = tables }) was.agrees;
  small = was.small;
}
