-- What each end of a node over a source and a link gives for the promise.
use Rattle.std.proofs.Common.{ℕ, suc, ◌≡◌, ◌≤◌, ◌<◌, inl, inr, ◌⊎◌, Option, Some, None, Result, Ok, Err, is_err, IsNone, IsOk, IfSome, ◌↔◌, List, [], length, Bool, true, false, not, true≢false, refl, sym, ap, ap₂, ◌∙◌, subst, arith}
use Rattle.std.specs.Prelude.{is_some}
use Rattle.std.specs.Io.KnownBytes.{IsAtEnd}
use Rattle.topology.specs.declared.status.Status.{Status}
use Rattle.topology.specs.declared.status.Status.TheVariants.{Done, Usage, NoMemory, BadSchedule, Limit, ReadFault, WriteFault, LinkFault, BadFrame, NoSuchNode, DiskFault, BadJournal, BadTables, Inconsistent}
use Rattle.topology.specs.declared.status.BadKind.{BadKind}
use Rattle.topology.specs.declared.status.LimitKind.TheVariants as kind
use Rattle.topology.specs.Lists.{has}
use Rattle.topology.specs.Net.{Net}
use Rattle.route_io.specs.Causes.{HasCause, RoseIf}
use Rattle.route_io.specs.Links.{Dials, IsSure, OnlyDials}
use Rattle.route_io.specs.Views.{SourceView, LinkView}
use Rattle.route_io.proofs.Bytes.{stays_quiet, has_risen}
use Rattle.path_vector.specs.GaoRexford.{gao_rexford}
use Rattle.topology.specs.declared.limits.TheConstants.{MOST_BYTES}
use Rattle.schedule_file.specs.declared.table.Part.TheVariants.{Over}
use Rattle.schedule_file.specs.Spelling.{words_by_line}
use Rattle.schedule_file.specs.Grammar.{IsTopologyFile, net_of}
use Rattle.schedule_file.specs.Refusals.{FirstBadOfTopology}
use Rattle.schedule_file.proofs.Readings.{one_list, no_bad, one_bad}
use Rattle.wire_frames.specs.declared.frames.Frame.{Frame}
use Rattle.route_node.specs.Plain.{AttendedPlain}
use Rattle.route_node.specs.Served.{ends_serving, status_of, TooLongAnswers, Served}
use Rattle.route_node.specs.Who.{afresh}
use Rattle.route_node.specs.Streams.{stream, Ending}
use Rattle.route_node.specs.Attended.{Endpoint, IsNetwork, Gives, EndsBefore, once_dialled, ends_attending, ends_undialled, Attended}

-- ---- a file is of one network, or has one first bad line

pub same_network : (bytes : List ℕ) (net other : Net) → IsTopologyFile bytes net → IsTopologyFile bytes other → net ≡ other
same_network bytes net other file again = file.2 ∙ (ap net_of (one_list Over bytes file.0 again.0 file.1 again.1) ∙ sym again.2)

no_network : (bytes : List ℕ) (net : Net) (line : ℕ) (bad : BadKind) → IsTopologyFile bytes net → FirstBadOfTopology bytes line bad → ⊥
no_network bytes net line bad file first = no_bad Over [] (words_by_line bytes) file.0 first.0 bad file.1 first.2

same_refusal : (bytes : List ℕ) (line other : ℕ) (bad last : BadKind) → FirstBadOfTopology bytes line bad → FirstBadOfTopology bytes other last → BadSchedule line bad ≡ BadSchedule other last
same_refusal bytes line other bad last first again =
    let same = one_bad Over [] (words_by_line bytes) first.0 again.0 bad last first.2 again.2 in
    let lines : line ≡ other = first.1 ∙ (ap suc same.0 ∙ sym again.1) in
    ap (λ n. BadSchedule n bad) lines ∙ ap (BadSchedule other) same.1

-- a node is there or not
pub not_both : (net other : Net) (id : ℕ) → net ≡ other → has net.nodes id ≡ true → has other.nodes id ≡ false → ⊥
not_both net other id same there none = true≢false (sym there ∙ (ap (λ (n : Net). has n.nodes id) same ∙ none))

-- what a source that tells its bytes gave
pub known : (told : Option (List ℕ)) (items : List ℕ) → IfSome told (λ bytes. items ≡ bytes) → (bytes : List ℕ) → told ≡ Some bytes → items ≡ bytes
known None items given bytes e = absurd (cc e)
known (Some some) items given bytes e = let same : some ≡ bytes = cc e in given ∙ same

-- ---- what calls return

-- what is said to be none is none
pub no_place : {T : Type 0} (place : Option T) (answer : Bool) → is_some place ≡ not answer → answer ≡ true → IsNone place
no_place place answer is says = is ∙ ap not says

-- a node that has a place is there
pub has_place : {T : Type 0} (there : Bool) (place : Option T) (answer : Bool) → (IsNone place ↔ (there ≡ false)) → is_some place ≡ not answer → answer ≡ false → there ≡ true
has_place true place answer gone is says = refl
has_place false place answer gone is says = absurd (true≢false (sym (is ∙ ap not says) ∙ gone.1 refl))

-- the address was not dialled
pub dial_fails : {T E : Type 0} (r : Result T E) (before now : ℕ) → is_err r ≡ true → HasCause before now r → RoseIf (LinkFault ≡ LinkFault) before now
dial_fails (Ok x) before now failed cause = absurd (cc failed)
dial_fails (Err e) before now failed cause = has_risen before now refl cause.later cause.failed

-- a call that may not fail did not
pub never_failed : {T E : Type 0} (r : Result T E) → is_err r ≡ true → IsOk r → ⊥
never_failed (Ok x) failed ok = cc failed
never_failed (Err e) failed ok = cc ok

-- the address was dialled, and nothing else was done with the link
pub dialled : {T E : Type 0} (r : Result T E) (address : List ℕ) (link link' : LinkView) → is_err r ≡ false → Dials link link' address → OnlyDials link link' → HasCause link.faults link'.faults r → link' ≡ once_dialled link address
dialled (Ok x) address link link' done dials only cause = only ∙ ap₂ (λ d n. record link { dialled = d; faults = n }) dials cause.quiet
dialled (Err e) address link link' done dials only cause = absurd (cc done)

-- ---- before anything was read

pub ends_no_memory : (here : Endpoint) (source source' : SourceView) (link : LinkView) → source'.faults ≡ source.faults → Attended here source source' link link NoMemory
ends_no_memory here source source' link quiet = record {
  formed = refl;
  served = λ bytes told net is there. inr (inl refl, refl);
  missing = λ bytes told net is none. inr (inl refl);
  refused = λ bytes told short line bad first. inr (inl refl);
  too_long = λ bytes told long. inr (inl refl);
  over = λ e. absurd (cc e);
  bad_schedule = λ line bad e. absurd (cc e);
  no_such_node = λ node e. absurd (cc e);
  limit = λ number e. absurd (cc e);
  read_fault = stays_quiet source.faults source'.faults (λ e. cc e) quiet;
  link_fault = stays_quiet link.faults link.faults (λ e. cc e) refl;
  sure = λ _ e. absurd (cc e);
  undialled = λ e. refl;
  dialled = λ e. absurd (cc e);
  dialled_at_most = inr refl;
  read = λ e. absurd (cc e);
}

-- ---- after the file

-- the source was read to its end, and gave these bytes
pub record Got (source source' : SourceView) (bytes : List ℕ) : Type 0 where
  pub known : (told : List ℕ) → source.left ≡ Some told → bytes ≡ told
  pub short : length bytes ≤ MOST_BYTES
  pub at_end : IsAtEnd source'.left
  pub quiet : source'.faults ≡ source.faults

module _ (source source' : SourceView) (bytes : List ℕ) (read : (told : List ℕ) → source.left ≡ Some told → bytes ≡ told) where
  pub not_long : length bytes ≤ MOST_BYTES → (told : List ℕ) → source.left ≡ Some told → MOST_BYTES < length told → ⊥
  not_long short told is long = let same = ap length (read told is) in omega (arith, short, same, long)

  -- the same for the bytes that are told
  as_read : (P : List ℕ → Type 0) (told : List ℕ) → source.left ≡ Some told → P told → P bytes
  as_read P told is holds = subst P (sym (read told is)) holds

  as_told : (P : List ℕ → Type 0) (told : List ℕ) → source.left ≡ Some told → P bytes → P told
  as_told P told is holds = subst P (read told is) holds

  pub ends_bad : Got source source' bytes → (here : Endpoint) (link : LinkView) (line : ℕ) (bad : BadKind) → FirstBadOfTopology bytes line bad → Attended here source source' link link (BadSchedule line bad)
  ends_bad got here link line bad first = record {
    formed = refl;
    served = λ told t net is there. absurd (no_network bytes net line bad (as_read (λ b. IsTopologyFile b net) told t is.file) first);
    missing = λ told t net is none. absurd (no_network bytes net line bad (as_read (λ b. IsTopologyFile b net) told t is.file) first);
    refused = λ told t short other last again. inl (same_refusal bytes line other bad last first (as_read (λ b. FirstBadOfTopology b other last) told t again));
    too_long = λ told t long. absurd (not_long got.short told t long);
    over = λ e. absurd (cc e);
    bad_schedule = λ other last e told t.
        let lines : line ≡ other = cc e in let kinds : bad ≡ last = cc e in
        as_told (λ b. FirstBadOfTopology b other last) told t (subst (λ n. FirstBadOfTopology bytes n last) lines (subst (FirstBadOfTopology bytes line) kinds first));
    no_such_node = λ node e. absurd (cc e);
    limit = λ number e. absurd (cc e);
    read_fault = stays_quiet source.faults source'.faults (λ e. cc e) got.quiet;
    link_fault = stays_quiet link.faults link.faults (λ e. cc e) refl;
    sure = λ _ e. absurd (cc e);
    undialled = λ e. refl;
    dialled = λ e. absurd (cc e);
    dialled_at_most = inr refl;
    read = λ e. got.at_end;
  }

module _ (here : Endpoint) (source source' : SourceView) (net : Net) (gives : Gives source source' net) where
  -- any network of the file is this one
  pub is_it : (told : List ℕ) → source.left ≡ Some told → (other : Net) → IsNetwork told other → net ≡ other
  is_it told t other is = same_network gives.bytes net other gives.network.file (as_read source source' gives.bytes gives.known (λ b. IsTopologyFile b other) told t is.file)

  -- the bytes that are told are a file of it
  pub of_it : (told : List ℕ) → source.left ≡ Some told → IsNetwork told net
  of_it told t = as_told source source' gives.bytes gives.known (λ b. IsNetwork b net) told t gives.network

  pub not_bad : (told : List ℕ) → source.left ≡ Some told → (line : ℕ) (bad : BadKind) → FirstBadOfTopology told line bad → ⊥
  not_bad told t line bad first = no_network gives.bytes net line bad gives.network.file (as_read source source' gives.bytes gives.known (λ b. FirstBadOfTopology b line bad) told t first)

  pub ends_missing : (link : LinkView) → has net.nodes here.id ≡ false → Attended here source source' link link (NoSuchNode here.id)
  ends_missing link none = record {
    formed = refl;
    served = λ told t other is there. absurd (not_both other net here.id (sym (is_it told t other is)) there none);
    missing = λ told t other is gone. inl refl;
    refused = λ told t short line bad first. absurd (not_bad told t line bad first);
    too_long = λ told t long. absurd (not_long source source' gives.bytes gives.known gives.network.short told t long);
    over = λ e. absurd (cc e);
    bad_schedule = λ line bad e. absurd (cc e);
    no_such_node = λ node e. (let same : here.id ≡ node = cc e in sym same, λ told t. (net, of_it told t, none));
    limit = λ number e. absurd (cc e);
    read_fault = stays_quiet source.faults source'.faults (λ e. cc e) gives.quiet;
    link_fault = stays_quiet link.faults link.faults (λ e. cc e) refl;
    sure = λ _ e. absurd (cc e);
    undialled = λ e. refl;
    dialled = λ e. absurd (cc e);
    dialled_at_most = inr refl;
    read = λ e. gives.at_end;
  }

  module _ (there : has net.nodes here.id ≡ true) where
    -- a dial does not change the room
    as_first : (link : LinkView) → TooLongAnswers (afresh gao_rexford net here.id) (once_dialled link here.address) → TooLongAnswers (afresh gao_rexford net here.id) link
    as_first link long = record { frames = long.frames; in_front = long.in_front; taken = long.taken; left = long.left; room = long.room; longer = long.longer }

    pub ends_at_dial : (link link' : LinkView) → Dials link link' here.address → OnlyDials link link' → (IsSure link → ⊥) → RoseIf (LinkFault ≡ LinkFault) link.faults link'.faults → Attended here source source' link link' LinkFault
    ends_at_dial link link' dials only never_fails rose = record {
      formed = refl;
      served = λ told t other is has_it. inr (inr (inr refl), only);
      missing = λ told t other is gone. absurd (not_both net other here.id (is_it told t other is) there gone);
      refused = λ told t short line bad first. absurd (not_bad told t line bad first);
      too_long = λ told t long. absurd (not_long source source' gives.bytes gives.known gives.network.short told t long);
      over = λ e. absurd (cc e);
      bad_schedule = λ line bad e. absurd (cc e);
      no_such_node = λ node e. absurd (cc e);
      limit = λ number e. absurd (cc e);
      read_fault = stays_quiet source.faults source'.faults (λ e. cc e) gives.quiet;
      link_fault = rose;
      sure = λ sure _. absurd (never_fails sure);
      undialled = λ e. absurd (cc e);
      dialled = λ e. dials;
      dialled_at_most = inl dials;
      read = λ e. gives.at_end;
    }

    pub ends_served : (link link' : LinkView) (status : Status) → Served (afresh gao_rexford net here.id) (once_dialled link here.address) link' status → Attended here source source' link link' status
    ends_served link link' status is_served = record {
      formed = may_end status is_served.formed;
      served = λ told t other is has_it. inl (subst (λ n. Served (afresh gao_rexford n here.id) (once_dialled link here.address) link' status) (is_it told t other is) is_served);
      missing = λ told t other is gone. absurd (not_both net other here.id (is_it told t other is) there gone);
      refused = λ told t short line bad first. absurd (not_bad told t line bad first);
      too_long = λ told t long. absurd (not_long source source' gives.bytes gives.known gives.network.short told t long);
      over = λ e told t. (net, of_it told t, there);
      bad_schedule = λ line bad e. absurd (never (sym (ap (ends_serving false) e) ∙ is_served.formed));
      no_such_node = λ node e. absurd (never (sym (ap (ends_serving false) e) ∙ is_served.formed));
      limit = λ number e. absurd (never (sym (ap (ends_serving false) e) ∙ is_served.formed));
      read_fault = stays_quiet source.faults source'.faults (λ e. never (sym (ap (ends_serving false) e) ∙ is_served.formed)) gives.quiet;
      link_fault = is_served.link_fault;
      sure = λ sure e. (net, of_it, there, as_first link (is_served.sure sure e));
      undialled = λ e. absurd (not_over status e is_served.formed);
      dialled = λ e. is_served.same_dialled;
      dialled_at_most = inl is_served.same_dialled;
      read = λ e. gives.at_end;
    }
      where
        never : false ≡ true → ⊥
        never e = true≢false (sym e)

        may_end : (s : Status) → ends_serving false s ≡ true → ends_attending s ≡ true
        may_end Done f = refl
        may_end Usage f = f
        may_end NoMemory f = refl
        may_end (BadSchedule line bad) f = refl
        may_end (Limit kind.Bytes number) f = refl
        may_end (Limit kind.Events number) f = refl
        may_end (Limit kind.Epochs number) f = refl
        may_end (Limit kind.Triggers number) f = refl
        may_end (Limit kind.Entries number) f = refl
        may_end (Limit kind.Updates number) f = refl
        may_end (Limit kind.Control number) f = refl
        may_end (Limit kind.Packets number) f = refl
        may_end (Limit kind.Frames number) f = refl
        may_end (Limit kind.Marks number) f = refl
        may_end (Limit kind.Journal number) f = f
        may_end ReadFault f = refl
        may_end WriteFault f = f
        may_end LinkFault f = refl
        may_end (BadFrame at fault) f = refl
        may_end (NoSuchNode node) f = refl
        may_end DiskFault f = f
        may_end (BadJournal at fault) f = f
        may_end (BadTables line) f = f
        may_end (Inconsistent line bad) f = f

        not_over : (s : Status) → ends_undialled s ≡ true → ends_serving false s ≡ true → ⊥
        not_over Done e f = cc e
        not_over Usage e f = cc f
        not_over NoMemory e f = cc e
        not_over (BadSchedule line bad) e f = cc f
        not_over (Limit kind.Bytes number) e f = cc f
        not_over (Limit kind.Events number) e f = cc e
        not_over (Limit kind.Epochs number) e f = cc e
        not_over (Limit kind.Triggers number) e f = cc e
        not_over (Limit kind.Entries number) e f = cc e
        not_over (Limit kind.Updates number) e f = cc e
        not_over (Limit kind.Control number) e f = cc e
        not_over (Limit kind.Packets number) e f = cc e
        not_over (Limit kind.Frames number) e f = cc e
        not_over (Limit kind.Marks number) e f = cc e
        not_over (Limit kind.Journal number) e f = cc f
        not_over ReadFault e f = cc f
        not_over WriteFault e f = cc f
        not_over LinkFault e f = cc e
        not_over (BadFrame at fault) e f = cc e
        not_over (NoSuchNode node) e f = cc f
        not_over DiskFault e f = cc f
        not_over (BadJournal at fault) e f = cc f
        not_over (BadTables line) e f = cc f
        not_over (Inconsistent line bad) e f = cc f

-- ---- over plain memory

pub attended_plain : (here : Endpoint) (source source' : SourceView) (link link' : LinkView) (status : Status) → (status ≡ ReadFault → ⊥) → IsSure link → Attended here source source' link link' status
    → AttendedPlain here source source' link link' status
attended_plain here source source' link link' status no_read_fault sure attended = record {
  attended = attended;
  no_read_fault = no_read_fault;
  link_fault = λ e file told. let long = attended.sure sure e in (long.0, long.1 file told, long.2, long.3);
  complete = λ file bytes told known net is there frames ending comes. by_end net frames ending (attended.served file told net is there) (λ e. too_long file told net is e) (λ served. served.complete bytes known frames ending comes);
}
  where
    too_long : (file : List ℕ) → source.left ≡ Some file → (net : Net) → IsNetwork file net → status ≡ LinkFault → TooLongAnswers (afresh gao_rexford net here.id) link
    too_long file told net is e =
        let long = attended.sure sure e in
        subst (λ n. TooLongAnswers (afresh gao_rexford n here.id) link) (same_network file long.0 net (long.1 file told).file is.file) long.3

    by_end : (net : Net) (frames : List Frame) (ending : Ending) → Served (afresh gao_rexford net here.id) (once_dialled link here.address) link' status ⊎ EndsBefore status link link'
        → (status ≡ LinkFault → TooLongAnswers (afresh gao_rexford net here.id) link)
        → (Served (afresh gao_rexford net here.id) (once_dialled link here.address) link' status → (status ≡ status_of (length (stream frames)) ending) ⊎ ((status ≡ NoMemory) ⊎ (status ≡ LinkFault)))
        → (status ≡ status_of (length (stream frames)) ending) ⊎ ((status ≡ NoMemory) ⊎ TooLongAnswers (afresh gao_rexford net here.id) link)
    by_end net frames ending (inl served) long complete = by_complete (complete served)
      where
        by_complete : (status ≡ status_of (length (stream frames)) ending) ⊎ ((status ≡ NoMemory) ⊎ (status ≡ LinkFault)) → (status ≡ status_of (length (stream frames)) ending) ⊎ ((status ≡ NoMemory) ⊎ TooLongAnswers (afresh gao_rexford net here.id) link)
        by_complete (inl e) = inl e
        by_complete (inr (inl e)) = inr (inl e)
        by_complete (inr (inr e)) = inr (inr (long e))
    by_end net frames ending (inr (inl e, only)) long complete = inr (inl e)
    by_end net frames ending (inr (inr (inl e), only)) long complete = absurd (no_read_fault e)
    by_end net frames ending (inr (inr (inr e), only)) long complete = inr (inr (long e))
