-- What each end of a node that keeps its frames gives for the promise.
use Rattle.std.proofs.Common.{ℕ, ◌≡◌, inl, inr, ◌⊎◌, Some, None, Result, Ok, Err, List, length, Bool, true, false, true≢false, refl, sym, ap, ◌∙◌, subst}
use Rattle.topology.specs.declared.frame_faults.FrameFault.{FrameFault}
use Rattle.topology.specs.declared.status.Status.{Status}
use Rattle.topology.specs.declared.status.Status.TheVariants.{Done, Usage, NoMemory, BadSchedule, Limit, ReadFault, WriteFault, LinkFault, BadFrame, NoSuchNode, DiskFault, BadJournal, BadTables, Inconsistent}
use Rattle.topology.specs.declared.status.BadKind.{BadKind}
use Rattle.topology.specs.declared.status.LimitKind.TheVariants as kind
use Rattle.topology.specs.Lists.{has}
use Rattle.topology.specs.Net.{Net}
use Rattle.route_io.specs.Causes.{RoseIf}
use Rattle.route_io.specs.Links.{Dials, IsSure, OnlyDials}
use Rattle.route_io.specs.Views.{SourceView, LinkView}
use Rattle.route_io.proofs.Bytes.{risen_after, risen_as, stays_quiet}
use Rattle.acceptor_journal.specs.Views.{DiskView}
use Rattle.acceptor_journal.specs.Journals.{KeepsTelling}
use Rattle.acceptor_journal.specs.Records.{Back}
use Rattle.path_vector.specs.GaoRexford.{gao_rexford}
use Rattle.wire_frames.specs.declared.frames.Frame.{Frame}
use Rattle.route_node.specs.declared.restoring.Kept.{Kept}
use Rattle.route_node.specs.Attended.{Attended, Endpoint, EndsBefore, Gives, IsNetwork, ends_read, endpoint, once_dialled}
use Rattle.route_node.specs.AttendedKept.{AttendedKept, BreaksOffKept, KeptEndpoint, Outside, RunsKept, ends_answering, ends_attending_kept, ends_behind, ends_read_kept, ends_unopened, outside}
use Rattle.route_node.specs.Early.{ends_early}
use Rattle.route_node.specs.Records.{AreRestored, ComesBack}
use Rattle.route_node.specs.Restored.{IsRestored, OpensFirst, Restored, ends_restoring, status_in}
use Rattle.route_node.specs.Served.{BreaksOff, Served, TooLongAnswers, ends_serving, status_of}
use Rattle.route_node.specs.ServedKept.{ServedKept}
use Rattle.route_node.specs.Streams.{stream, Ending, End, StreamComesTo}
use Rattle.route_node.specs.Who.{afresh, again}
use Rattle.route_node.proofs.Journaled.{telling_both, telling_same}
use Rattle.route_node.proofs.Reread.{back_once}
use Rattle.route_node.proofs.Networks.{is_it, not_bad, not_both, not_long, of_it}

-- ---- before the journal

-- what holds of each end before the journal
record EachEarly (P : Status → Type 0) : Type 0 where
  no_memory : P NoMemory
  bad_schedule : (line : ℕ) (bad : BadKind) → P (BadSchedule line bad)
  too_long : (number : ℕ) → P (Limit kind.Bytes number)
  read_fault : P ReadFault
  no_such_node : (node : ℕ) → P (NoSuchNode node)

-- it holds of a status that is one of them
early : (P : Status → Type 0) → EachEarly P → (s : Status) → ends_early s ≡ true → P s
early P each NoMemory e = each.no_memory
early P each (BadSchedule line bad) e = each.bad_schedule line bad
early P each (Limit kind.Bytes number) e = each.too_long number
early P each (Limit kind.Events number) e = absurd (cc e)
early P each (Limit kind.Epochs number) e = absurd (cc e)
early P each (Limit kind.Triggers number) e = absurd (cc e)
early P each (Limit kind.Entries number) e = absurd (cc e)
early P each (Limit kind.Updates number) e = absurd (cc e)
early P each (Limit kind.Control number) e = absurd (cc e)
early P each (Limit kind.Packets number) e = absurd (cc e)
early P each (Limit kind.Frames number) e = absurd (cc e)
early P each (Limit kind.Marks number) e = absurd (cc e)
early P each (Limit kind.Journal number) e = absurd (cc e)
early P each ReadFault e = each.read_fault
early P each (NoSuchNode node) e = each.no_such_node node
early P each Done e = absurd (cc e)
early P each Usage e = absurd (cc e)
early P each WriteFault e = absurd (cc e)
early P each LinkFault e = absurd (cc e)
early P each (BadFrame offset fault) e = absurd (cc e)
early P each DiskFault e = absurd (cc e)
early P each (BadJournal offset fault) e = absurd (cc e)
early P each (BadTables line) e = absurd (cc e)
early P each (Inconsistent line bad) e = absurd (cc e)

early_formed : (s : Status) → ends_early s ≡ true → ends_attending_kept s ≡ true
early_formed s is = early (λ s. ends_attending_kept s ≡ true)
    (record { no_memory = refl; bad_schedule = λ line bad. refl; too_long = λ number. refl; read_fault = refl; no_such_node = λ node. refl }) s is

-- the status is no end over a link
early_unanswered : (s : Status) → ends_early s ≡ true → ends_answering s ≡ true → ⊥
early_unanswered s is = early (λ s. ends_answering s ≡ true → ⊥)
    (record { no_memory = λ e. cc e; bad_schedule = λ line bad e. cc e; too_long = λ number e. cc e; read_fault = λ e. cc e; no_such_node = λ node e. cc e }) s is

-- nor one at a journal
early_behind : (s : Status) → ends_early s ≡ true → ends_behind s ≡ true → ⊥
early_behind s is = early (λ s. ends_behind s ≡ true → ⊥)
    (record { no_memory = λ e. cc e; bad_schedule = λ line bad e. cc e; too_long = λ number e. cc e; read_fault = λ e. cc e; no_such_node = λ node e. cc e }) s is

early_link : (s : Status) → ends_early s ≡ true → s ≡ LinkFault → ⊥
early_link s is e = true≢false (sym is ∙ ap ends_early e)

early_disk : (s : Status) → ends_early s ≡ true → s ≡ DiskFault → ⊥
early_disk s is e = true≢false (sym is ∙ ap ends_early e)

-- the file was read to its end if it would be without a journal
early_read : (s : Status) → ends_early s ≡ true → ends_read_kept s ≡ true → ends_read s ≡ true
early_read s is = early (λ s. ends_read_kept s ≡ true → ends_read s ≡ true)
    (record { no_memory = λ e. e; bad_schedule = λ line bad e. refl; too_long = λ number e. e; read_fault = λ e. e; no_such_node = λ node e. refl }) s is

-- without a journal it would end like this over the link, or before the first frame
abbrev EndsWithout : Status → Type 0
EndsWithout s = (ends_serving false s ≡ true) ⊎ ((s ≡ NoMemory) ⊎ ((s ≡ ReadFault) ⊎ (s ≡ LinkFault)))

-- if the network has the node, it is want of memory or a failed read
early_unread : (s : Status) → ends_early s ≡ true → EndsWithout s → (s ≡ NoMemory) ⊎ (s ≡ ReadFault)
early_unread s is = early (λ s. EndsWithout s → (s ≡ NoMemory) ⊎ (s ≡ ReadFault)) (record {
  no_memory = λ e. inl refl;
  bad_schedule = λ line bad e. absurd (neither (BadSchedule line bad) refl (λ f. cc f) (λ f. cc f) (λ f. cc f) e);
  too_long = λ number e. absurd (neither (Limit kind.Bytes number) refl (λ f. cc f) (λ f. cc f) (λ f. cc f) e);
  read_fault = λ e. inr refl;
  no_such_node = λ node e. absurd (neither (NoSuchNode node) refl (λ f. cc f) (λ f. cc f) (λ f. cc f) e);
}) s is
  where
    neither : (t : Status) → ends_serving false t ≡ false → (t ≡ NoMemory → ⊥) → (t ≡ ReadFault → ⊥) → (t ≡ LinkFault → ⊥) → EndsWithout t → ⊥
    neither t other memory read link (inl f) = true≢false (sym f ∙ other)
    neither t other memory read link (inr (inl f)) = memory f
    neither t other memory read link (inr (inr (inl f))) = read f
    neither t other memory read link (inr (inr (inr f))) = link f

module _ (here : KeptEndpoint) (old : Outside) (source' : SourceView) where
  -- it ends as it would without a journal
  pub kept_early : (status : Status) → ends_early status ≡ true → Attended (endpoint here.id here.address) old.source source' old.link old.link status → AttendedKept here old (outside source' old.link old.disk) status
  kept_early status early attended = record {
    formed = early_formed status early;
    kept = λ bytes told net is there. inr (unread bytes told net is there, refl, refl);
    complete = λ bytes told net is there file content records back incoming comes frames ending to. inr (broken (unread bytes told net is there));
    missing = attended.missing;
    refused = attended.refused;
    too_long = attended.too_long;
    over = λ e. absurd (early_behind status early e);
    bad_schedule = attended.bad_schedule;
    no_such_node = attended.no_such_node;
    limit = attended.limit;
    read_fault = attended.read_fault;
    link_fault = attended.link_fault;
    disk_fault = stays_quiet old.disk.faults old.disk.faults (early_disk status early) refl;
    sure = λ sure e. absurd (early_link status early e);
    unopened = λ e. (refl, refl);
    undialled = λ offset fault e. refl;
    dialled = λ e. absurd (early_unanswered status early e);
    dialled_at_most = inr refl;
    read = λ e. attended.read (early_read status early e);
    telling = telling_same old.disk old.disk refl;
  }
    where
      broken : (status ≡ NoMemory) ⊎ (status ≡ ReadFault) → BreaksOffKept status
      broken (inl e) = inl e
      broken (inr e) = inr (inl e)

      formed_of : (net : Net) → Served (afresh gao_rexford net here.id) (once_dialled old.link here.address) old.link status ⊎ EndsBefore status old.link old.link
          → EndsWithout status
      formed_of net (inl served) = inl served.formed
      formed_of net (inr ends) = inr ends.0

      unread : (bytes : List ℕ) → old.source.left ≡ Some bytes → (net : Net) → IsNetwork bytes net → has net.nodes here.id ≡ true → (status ≡ NoMemory) ⊎ (status ≡ ReadFault)
      unread bytes told net is there = early_unread status early (formed_of net (attended.served bytes told net is there))

-- ---- after the network

back_formed : (s : Status) → ends_restoring s ≡ true → ends_attending_kept s ≡ true
back_formed NoMemory e = refl
back_formed (Limit other number) e = refl
back_formed DiskFault e = refl
back_formed (BadJournal offset fault) e = refl
back_formed Done e = absurd (cc e)
back_formed Usage e = absurd (cc e)
back_formed (BadSchedule line bad) e = absurd (cc e)
back_formed ReadFault e = absurd (cc e)
back_formed WriteFault e = absurd (cc e)
back_formed LinkFault e = absurd (cc e)
back_formed (BadFrame offset fault) e = absurd (cc e)
back_formed (NoSuchNode node) e = absurd (cc e)
back_formed (BadTables line) e = absurd (cc e)
back_formed (Inconsistent line bad) e = absurd (cc e)

-- an answer without a status is a restarted node
comes_back : (answer : Result Kept Status) → status_in answer ≡ None → (kept : Kept) × (answer ≡ Ok kept)
comes_back (Ok kept) e = (kept, refl)
comes_back (Err status) e = absurd (cc e)

module _ (net : Net) (here : KeptEndpoint) (old new : Outside) (status : Status) (runs : RunsKept net here old new status) where
  -- the run ends as the records and the frames say, unless it breaks off
  pub completes : (file : List ℕ) → old.disk.content ≡ Some file → (records : List Frame) → ComesBack (afresh gao_rexford net here.id) (Back file) records End
      → (incoming : List ℕ) → old.link.incoming ≡ Some incoming → (frames : List Frame) (ending : Ending) → StreamComesTo (again gao_rexford net here.id records) incoming frames ending
      → (status ≡ status_of (length (stream frames)) ending) ⊎ BreaksOffKept status
  completes file content records back incoming comes frames ending to = by_answer (runs.restored.complete file content records End back)
    where
      not_back : (why : Status) → runs.answer ≡ Err why → status ≡ why
      not_back why e = (runs.not_back why e).0

      of_records : (kept : Kept) → runs.answer ≡ Ok kept → IsRestored net kept here.id records
      of_records kept e =
          let told = runs.restored.back kept e file content in
          let same = back_once (afresh gao_rexford net here.id) (Back file) told.0 records End End told.1 back in
          subst (λ (l : List Frame). IsRestored net kept here.id l) same.0 told.2

      by_end : (status ≡ status_of (length (stream frames)) ending) ⊎ BreaksOff (Some records) status → (status ≡ status_of (length (stream frames)) ending) ⊎ BreaksOffKept status
      by_end (inl e) = inl e
      by_end (inr (inl e)) = inr (inl e)
      by_end (inr (inr (inl e))) = inr (inr (inr (inl e)))
      by_end (inr (inr (inr e))) = inr (inr (inr (inr e)))

      by_dial : (kept : Kept) → runs.answer ≡ Ok kept → ((status ≡ LinkFault) × OnlyDials old.link new.link × (new.disk ≡ runs.mid))
          ⊎ ((others : List Frame) → IsRestored net kept here.id others → ServedKept (again gao_rexford net here.id others) (once_dialled old.link here.address) new.link runs.mid new.disk status)
          → (status ≡ status_of (length (stream frames)) ending) ⊎ BreaksOffKept status
      by_dial kept e (inl fails) = inr (inr (inr (inl fails.0)))
      by_dial kept e (inr serves) = by_end ((serves records (of_records kept e)).served.complete incoming comes frames ending to)

      by_answer : (status_in runs.answer ≡ None) ⊎ ((runs.answer ≡ Err NoMemory) ⊎ (runs.answer ≡ Err DiskFault)) → (status ≡ status_of (length (stream frames)) ending) ⊎ BreaksOffKept status
      by_answer (inl none) = let kept = comes_back runs.answer none in by_dial kept.0 kept.1 (runs.back kept.0 kept.1)
      by_answer (inr (inl e)) = inr (inl (not_back NoMemory e))
      by_answer (inr (inr e)) = inr (inr (inr (inr (not_back DiskFault e))))

-- a node that was restarted, or was not, does not end in one of these ways
abbrev never_back : Status → Bool
never_back (BadSchedule line bad) = true
never_back (Limit kind.Bytes number) = true
never_back ReadFault = true
never_back (NoSuchNode node) = true
never_back other = false

-- a call of a sure link fails only if answers of the restarted node exceed the room
abbrev EndsSure : Net → KeptEndpoint → LinkView → Status → Type 0
EndsSure net here link status = IsSure link → status ≡ LinkFault → (records : List Frame) × AreRestored (afresh gao_rexford net here.id) records × TooLongAnswers (again gao_rexford net here.id records) link

module _ (here : KeptEndpoint) (old : Outside) (source' : SourceView) (link' : LinkView) (disk' : DiskView) (net : Net) (gives : Gives old.source source' net) (there : has net.nodes here.id ≡ true) where
  near : Endpoint
  near = endpoint here.id here.address

  -- the network was read, and has the node
  kept_behind : (status : Status) → ends_attending_kept status ≡ true → never_back status ≡ false → RunsKept net here old (outside source' link' disk') status → RoseIf (status ≡ LinkFault) old.link.faults link'.faults
      → RoseIf (status ≡ DiskFault) old.disk.faults disk'.faults → EndsSure net here old.link status → ((offset : ℕ) (fault : FrameFault) → status ≡ BadJournal offset fault → link' ≡ old.link) → (ends_answering status ≡ true → Dials old.link link' here.address)
      → Dials old.link link' here.address ⊎ (link'.dialled ≡ old.link.dialled) → KeepsTelling old.disk disk' → AttendedKept here old (outside source' link' disk') status
  kept_behind status formed back runs link_fault disk_fault sure undialled dialled at_most telling = record {
    formed = formed;
    kept = λ told t other is has_it. inl (runs_in told t other is);
    complete = λ told t other is has_it. completes other here old (outside source' link' disk') status (runs_in told t other is);
    missing = λ told t other is gone. absurd (not_both net other here.id (is_it near old.source source' net gives told t other is) there gone);
    refused = λ told t short line bad first. absurd (not_bad near old.source source' net gives told t line bad first);
    too_long = λ told t long. absurd (not_long old.source source' gives.bytes gives.known gives.network.short told t long);
    over = λ e told t. (net, of_it near old.source source' net gives told t, there);
    bad_schedule = λ line bad e. absurd (never (sym (ap never_back e) ∙ back));
    no_such_node = λ node e. absurd (never (sym (ap never_back e) ∙ back));
    limit = λ number e. absurd (never (sym (ap never_back e) ∙ back));
    read_fault = stays_quiet old.source.faults source'.faults (λ e. never (sym (ap never_back e) ∙ back)) gives.quiet;
    link_fault = link_fault;
    disk_fault = disk_fault;
    sure = λ is_sure e. let long = sure is_sure e in (net, of_it near old.source source' net gives, there, long.0, long.1, long.2);
    unopened = λ e. absurd (opened status e back);
    undialled = undialled;
    dialled = dialled;
    dialled_at_most = at_most;
    read = λ e. gives.at_end;
    telling = telling;
  }
    where
      never : true ≡ false → ⊥
      never e = true≢false e

      opened : (s : Status) → ends_unopened s ≡ true → never_back s ≡ false → ⊥
      opened s e f = true≢false (sym e ∙ f)

      runs_in : (told : List ℕ) → old.source.left ≡ Some told → (other : Net) → IsNetwork told other → RunsKept other here old (outside source' link' disk') status
      runs_in told t other is = subst (λ n. RunsKept n here old (outside source' link' disk') status) (is_it near old.source source' net gives told t other is) runs

not_back : (s : Status) → ends_restoring s ≡ true → never_back s ≡ false
not_back NoMemory e = refl
not_back (Limit kind.Bytes number) e = absurd (cc e)
not_back (Limit kind.Events number) e = refl
not_back (Limit kind.Epochs number) e = refl
not_back (Limit kind.Triggers number) e = refl
not_back (Limit kind.Entries number) e = refl
not_back (Limit kind.Updates number) e = refl
not_back (Limit kind.Control number) e = refl
not_back (Limit kind.Packets number) e = refl
not_back (Limit kind.Frames number) e = refl
not_back (Limit kind.Marks number) e = refl
not_back (Limit kind.Journal number) e = refl
not_back DiskFault e = refl
not_back (BadJournal offset fault) e = refl
not_back Done e = refl
not_back Usage e = refl
not_back (BadSchedule line bad) e = absurd (cc e)
not_back ReadFault e = absurd (cc e)
not_back WriteFault e = refl
not_back LinkFault e = refl
not_back (BadFrame offset fault) e = refl
not_back (NoSuchNode node) e = absurd (cc e)
not_back (BadTables line) e = refl
not_back (Inconsistent line bad) e = refl

unanswered : (s : Status) → ends_restoring s ≡ true → ends_answering s ≡ true → ⊥
unanswered NoMemory e f = absurd (cc f)
unanswered (Limit kind.Bytes number) e f = absurd (cc e)
unanswered (Limit kind.Events number) e f = absurd (cc f)
unanswered (Limit kind.Epochs number) e f = absurd (cc f)
unanswered (Limit kind.Triggers number) e f = absurd (cc f)
unanswered (Limit kind.Entries number) e f = absurd (cc f)
unanswered (Limit kind.Updates number) e f = absurd (cc f)
unanswered (Limit kind.Control number) e f = absurd (cc f)
unanswered (Limit kind.Packets number) e f = absurd (cc f)
unanswered (Limit kind.Frames number) e f = absurd (cc e)
unanswered (Limit kind.Marks number) e f = absurd (cc f)
unanswered (Limit kind.Journal number) e f = absurd (cc e)
unanswered DiskFault e f = absurd (cc f)
unanswered (BadJournal offset fault) e f = absurd (cc f)
unanswered Done e f = absurd (cc e)
unanswered Usage e f = absurd (cc f)
unanswered (BadSchedule line bad) e f = absurd (cc f)
unanswered ReadFault e f = absurd (cc f)
unanswered WriteFault e f = absurd (cc f)
unanswered LinkFault e f = absurd (cc f)
unanswered (BadFrame offset fault) e f = absurd (cc e)
unanswered (NoSuchNode node) e f = absurd (cc f)
unanswered (BadTables line) e f = absurd (cc f)
unanswered (Inconsistent line bad) e f = absurd (cc f)

-- a dial does not change the room
as_first : (net : Net) (u : ℕ) (records : List Frame) (link : LinkView) (address : List ℕ) → TooLongAnswers (again gao_rexford net u records) (once_dialled link address) → TooLongAnswers (again gao_rexford net u records) link
as_first net u records link address long = record { frames = long.frames; in_front = long.in_front; taken = long.taken; left = long.left; room = long.room; longer = long.longer }

never_link : (s : Status) → ends_restoring s ≡ true → s ≡ LinkFault → ⊥
never_link s e is = true≢false (sym (sym (ap ends_restoring is) ∙ e))

served_formed : (s : Status) → ends_serving true s ≡ true → ends_attending_kept s ≡ true
served_formed Done e = refl
served_formed NoMemory e = refl
served_formed (Limit other number) e = refl
served_formed LinkFault e = refl
served_formed (BadFrame offset fault) e = refl
served_formed DiskFault e = refl
served_formed Usage e = absurd (cc e)
served_formed (BadSchedule line bad) e = absurd (cc e)
served_formed ReadFault e = absurd (cc e)
served_formed WriteFault e = absurd (cc e)
served_formed (NoSuchNode node) e = absurd (cc e)
served_formed (BadJournal offset fault) e = absurd (cc e)
served_formed (BadTables line) e = absurd (cc e)
served_formed (Inconsistent line bad) e = absurd (cc e)

served_back : (s : Status) → ends_serving true s ≡ true → never_back s ≡ false
served_back Done e = refl
served_back NoMemory e = refl
served_back (Limit kind.Bytes number) e = absurd (cc e)
served_back (Limit kind.Events number) e = refl
served_back (Limit kind.Epochs number) e = refl
served_back (Limit kind.Triggers number) e = refl
served_back (Limit kind.Entries number) e = refl
served_back (Limit kind.Updates number) e = refl
served_back (Limit kind.Control number) e = refl
served_back (Limit kind.Packets number) e = refl
served_back (Limit kind.Frames number) e = refl
served_back (Limit kind.Marks number) e = refl
served_back (Limit kind.Journal number) e = refl
served_back LinkFault e = refl
served_back (BadFrame offset fault) e = refl
served_back DiskFault e = refl
served_back Usage e = refl
served_back (BadSchedule line bad) e = absurd (cc e)
served_back ReadFault e = absurd (cc e)
served_back WriteFault e = refl
served_back (NoSuchNode node) e = absurd (cc e)
served_back (BadJournal offset fault) e = refl
served_back (BadTables line) e = refl
served_back (Inconsistent line bad) e = refl

not_bad_journal : (s : Status) (offset : ℕ) (fault : FrameFault) → ends_serving true s ≡ true → s ≡ BadJournal offset fault → ⊥
not_bad_journal s offset fault e is = true≢false (sym (sym (ap (ends_serving true) is) ∙ e))

module _ (here : KeptEndpoint) (old : Outside) (source' : SourceView) (net : Net) (gives : Gives old.source source' net) (there : has net.nodes here.id ≡ true) (mid : DiskView) where
  -- the node was not restarted
  pub kept_unrestored : (status : Status) → Restored net here.id old.disk (Err status) mid → AttendedKept here old (outside source' old.link mid) status
  kept_unrestored status restored =
      kept_behind here old source' old.link mid net gives there status (back_formed status restored.formed) (not_back status restored.formed)
      (record {
        mid = mid;
        answer = Err status;
        restored = restored;
        opened = λ kept is. absurd (cc is);
        not_back = λ why is. (cc is, refl, refl);
        back = λ kept is. absurd (cc is);
      })
      (stays_quiet old.link.faults old.link.faults (never_link status restored.formed) refl)
      (risen_as old.disk.faults mid.faults (λ e. cc e) (λ e. ap Err e) restored.disk_fault) (λ sure e. absurd (never_link status restored.formed e)) (λ offset fault e. refl)
      (λ e. absurd (unanswered status restored.formed e)) (inr refl) restored.telling

  module _ (kept : Kept) (restored : Restored net here.id old.disk (Ok kept) mid) (opened : OpensFirst here.file old.disk mid) where
    quiet_disk : mid.faults ≡ old.disk.faults
    quiet_disk = restored.disk_fault.quiet (λ e. absurd (cc e))

    -- the address was not dialled
    pub kept_undialled : (link' : LinkView) → Dials old.link link' here.address → OnlyDials old.link link' → (IsSure old.link → ⊥) → RoseIf (LinkFault ≡ LinkFault) old.link.faults link'.faults → AttendedKept here old (outside source' link' mid) LinkFault
    kept_undialled link' dials only never_fails rose =
        kept_behind here old source' link' mid net gives there LinkFault refl refl
        (record {
          mid = mid;
          answer = Ok kept;
          restored = restored;
          opened = λ other is. opened;
          not_back = λ why is. absurd (cc is);
          back = λ other is. inl (refl, only, refl);
        })
        rose (stays_quiet old.disk.faults mid.faults (λ e. cc e) quiet_disk) (λ sure e. absurd (never_fails sure)) (λ offset fault e. absurd (cc e)) (λ e. absurd (cc e)) (inl dials) restored.telling

    -- it was, and the frames were answered
    pub kept_served : (link' : LinkView) (disk' : DiskView) (status : Status)
        → ((records : List Frame) → IsRestored net kept here.id records → ServedKept (again gao_rexford net here.id records) (once_dialled old.link here.address) link' mid disk' status)
        → AttendedKept here old (outside source' link' disk') status
    kept_served link' disk' status serves =
        let some = restored.restored kept refl in
        let served = serves some.0 some.1 in
        let formed = served.served.formed in
        let dials : Dials old.link link' here.address = served.served.same_dialled in
        kept_behind here old source' link' disk' net gives there status (served_formed status formed) (served_back status formed)
        (record {
          mid = mid;
          answer = Ok kept;
          restored = restored;
          opened = λ other is. opened;
          not_back = λ why is. absurd (cc is);
          back = λ other is.
              let same : kept ≡ other = cc is in
              inr (λ records it. serves records (subst (λ (k : Kept). IsRestored net k here.id records) (sym same) it));
        })
        served.served.link_fault (risen_after old.disk.faults mid.faults disk'.faults quiet_disk served.disk_fault)
        (λ sure e. (some.0, some.1.taken, as_first net here.id some.0 old.link here.address (served.served.sure sure e))) (λ offset fault e. absurd (not_bad_journal status offset fault formed e)) (λ e. dials) (inl dials)
        (telling_both old.disk mid disk' restored.telling served.telling)
