-- A body reads as the frame that it spells, and a frame is found at the front of bytes exactly where they begin with
-- its spelling.
use Rattle.std.proofs.Common.{◌≡◌, ℕ, Bool, true, false, ◌&&◌, Option, List, [], ◌∷◌, ◌++◌, Ok, refl, sym, ap, subst, ◌∙◌}
use Rattle.std.proofs.lemmas.List.{append-nil}
use Rattle.std.proofs.lemmas.Bool.{and_parts}
use Rattle.topology.specs.declared.names.Trigger.{Trigger}
use Rattle.incomplete_closure.specs.declared.reports.Report.{Report as TheReport}
use Rattle.wire_frames.specs.declared.tags.Tag.{Tag}
use Rattle.wire_frames.specs.declared.tags.Tag.TheVariants.{Originate, Withdraw, Prefer, Notice, OpenSession, Snap, Propose, Update, Marker, Hello, Report, Prepare, Promise, Accept, Accepted, Decision, Hop, Forward, Ended, Published, Inject, ListedUpdate, ListedReport, Flush}
use Rattle.wire_frames.specs.declared.frames.Frame.{Frame}
use Rattle.wire_frames.specs.declared.frames.Frame.TheVariants as frame
use Rattle.wire_frames.specs.Formats.{Format, IsBytes, pair, IsFormat}
use Rattle.wire_frames.specs.Fields.{node, prefix, positive, epoch, epoch_or_none, preference, any32, end, is_one, one_trigger, ballot, links, path, paths, value, named, report, packet}
use Rattle.wire_frames.specs.Listing.{triggers, is_plain, listed_report}
use Rattle.wire_frames.specs.Frames.{session_opened, preferred, update, listed_update, marker, hello, reported, listed_reported, in_ballot, promise, accept, decision, hop, forward, ended, published, injected, tag_of, fields_fit, body}
use Rattle.wire_frames.specs.Reading.{all_read, whole, body_at}
use Rattle.wire_frames.proofs.Formats.{bind_ok, pair_law}
use Rattle.wire_frames.proofs.Fields.{node_law, prefix_law, positive_law, epoch_law, epoch_or_none_law, preference_law, any32_law, end_law, one_trigger_law, ballot_law, links_law, path_law, paths_law, value_law, named_law, report_law, packet_law}
use Rattle.wire_frames.proofs.Listing.{triggers_law, listed_report_law}
use Rattle.wire_frames.proofs.Versions.{one_is_one, several_are_not_one, report_is_plain, listed_is_not_plain}

-- ---- the fields of each kind

preferred_law : IsFormat preferred
preferred_law = pair_law node preference node_law preference_law

session_opened_law : IsFormat session_opened
session_opened_law = pair_law node positive node_law positive_law

update_law : IsFormat update
update_law = pair_law node (pair positive (pair positive (pair one_trigger (pair prefix path)))) node_law
    (pair_law positive (pair positive (pair one_trigger (pair prefix path))) positive_law
    (pair_law positive (pair one_trigger (pair prefix path)) positive_law
    (pair_law one_trigger (pair prefix path) one_trigger_law (pair_law prefix path prefix_law path_law))))

listed_update_law : IsFormat listed_update
listed_update_law = pair_law node (pair positive (pair positive (pair (triggers 2 0) (pair prefix path)))) node_law
    (pair_law positive (pair positive (pair (triggers 2 0) (pair prefix path))) positive_law
    (pair_law positive (pair (triggers 2 0) (pair prefix path)) positive_law
    (pair_law (triggers 2 0) (pair prefix path) (triggers_law 2 0) (pair_law prefix path prefix_law path_law))))

marker_law : IsFormat marker
marker_law = pair_law node (pair positive epoch) node_law (pair_law positive epoch positive_law epoch_law)

hello_law : IsFormat hello
hello_law = pair_law node (pair positive epoch_or_none) node_law (pair_law positive epoch_or_none positive_law epoch_or_none_law)

reported_law : IsFormat reported
reported_law = pair_law node report node_law report_law

listed_reported_law : IsFormat listed_reported
listed_reported_law = pair_law node listed_report node_law listed_report_law

in_ballot_law : IsFormat in_ballot
in_ballot_law = pair_law node (pair epoch ballot) node_law (pair_law epoch ballot epoch_law ballot_law)

promise_law : IsFormat promise
promise_law = pair_law node (pair epoch (pair ballot named)) node_law (pair_law epoch (pair ballot named) epoch_law (pair_law ballot named ballot_law named_law))

accept_law : IsFormat accept
accept_law = pair_law node (pair epoch (pair ballot value)) node_law (pair_law epoch (pair ballot value) epoch_law (pair_law ballot value ballot_law value_law))

decision_law : IsFormat decision
decision_law = pair_law node (pair epoch value) node_law (pair_law epoch value epoch_law value_law)

hop_law : IsFormat hop
hop_law = pair_law packet links packet_law links_law

forward_law : IsFormat forward
forward_law = pair_law node packet node_law packet_law

ended_law : IsFormat ended
ended_law = pair_law any32 end any32_law end_law

published_law : IsFormat published
published_law = pair_law epoch paths epoch_law paths_law

injected_law : IsFormat injected
injected_law = pair_law positive prefix positive_law prefix_law

-- ---- bodies

all_read_ok : {A : Type 0} (x y : A) (bytes : List ℕ) → all_read x bytes ≡ Ok y → (x ≡ y) × (bytes ≡ [])
all_read_ok x y [] e = (cc, refl)
all_read_ok x y (b ∷ bytes) e = absurd cc

-- the frame of these fields is of the kind, and the fields spell it
record IsMade {A : Type 0} (f : Format A) (make : A → Frame) (tag : Tag) : Type 0 where
  spells : (x : A) → f.fits x ≡ true → body (make x) ≡ f.spells x
  fits : (x : A) → f.fits x ≡ true → fields_fit (make x) ≡ f.fits x
  of : (x : A) → f.fits x ≡ true → tag_of (make x) ≡ tag

-- the body spells a frame of the kind, whose fields fit
pub record IsBody (tag : Tag) (bytes : List ℕ) (f : Frame) : Type 0 where
  pub spelled : bytes ≡ body f
  pub fit : fields_fit f ≡ true
  pub kind : tag_of f ≡ tag

whole_takes : {A : Type 0} (f : Format A) (make : A → Frame) (tag : Tag) → IsFormat f → IsMade f make tag → (bytes : List ℕ) (y : Frame) → IsBytes bytes → whole f make bytes ≡ Ok y → IsBody tag bytes y
whole_takes {A} f make tag law made bytes y are e =
    let a = bind_ok (f.reads bytes) (λ (x : A × List ℕ). all_read (make x.0) x.1) y e in
    let t = law.takes bytes a.0.0 a.0.1 are a.1 in
    let r = all_read_ok (make a.0.0) y a.0.1 a.2 in
    let spelled : bytes ≡ body (make a.0.0) = t.0.parts ∙ ap (λ (rest : List ℕ). f.spells a.0.0 ++ rest) r.1 ∙ append-nil (f.spells a.0.0) ∙ sym (made.spells a.0.0 t.1) in
    subst (λ (z : Frame). IsBody tag bytes z) r.0 (record { spelled = spelled; fit = made.fits a.0.0 t.1 ∙ t.1; kind = made.of a.0.0 t.1 })

whole_again : {A : Type 0} (f : Format A) (make : A → Frame) (x : A) → IsFormat f → f.fits x ≡ true → whole f make (f.spells x) ≡ Ok (make x)
whole_again {A} f make x law fit =
    let read : f.reads (f.spells x) ≡ Ok (x, []) = ap f.reads (sym (append-nil (f.spells x))) ∙ law.again x [] fit in
    rw read refl

-- the test of the triggers, within the fields of an update
listed_fit : (a b c d e : Bool) → (a && (b && (c && (d && e)))) ≡ true → d ≡ true
listed_fit a b c d e h =
    (and_parts d e (and_parts c (d && e) (and_parts b (c && (d && e)) (and_parts a (b && (c && (d && e))) h).1).1).1).0

has_one : (x : ℕ × (ℕ × (ℕ × (List Trigger × (ℕ × Option (List ℕ)))))) → update.fits x ≡ true → is_one x.1.1.1.0 ≡ true
has_one x h = one_is_one x.1.1.1.0 (listed_fit (node.fits x.0) (positive.fits x.1.0) (positive.fits x.1.1.0) (one_trigger.fits x.1.1.1.0) (prefix.fits x.1.1.1.1.0 && path.fits x.1.1.1.1.1) h)

has_several : (x : ℕ × (ℕ × (ℕ × (List Trigger × (ℕ × Option (List ℕ)))))) → listed_update.fits x ≡ true → is_one x.1.1.1.0 ≡ false
has_several x h = several_are_not_one x.1.1.1.0 (listed_fit (node.fits x.0) (positive.fits x.1.0) (positive.fits x.1.1.0) ((triggers 2 0).fits x.1.1.1.0) (prefix.fits x.1.1.1.1.0 && path.fits x.1.1.1.1.1) h)

update_made : IsMade update (λ x. frame.Update x.0 x.1.0 x.1.1.0 x.1.1.1.0 x.1.1.1.1.0 x.1.1.1.1.1) Update
unfolding body
update_made = record { spells = λ x h. rw (has_one x h) refl; fits = λ x h. rw (has_one x h) refl; of = λ x h. rw (has_one x h) refl }

listed_update_made : IsMade listed_update (λ x. frame.Update x.0 x.1.0 x.1.1.0 x.1.1.1.0 x.1.1.1.1.0 x.1.1.1.1.1) ListedUpdate
unfolding body
listed_update_made = record { spells = λ x h. rw (has_several x h) refl; fits = λ x h. rw (has_several x h) refl; of = λ x h. rw (has_several x h) refl }

plain_there : (x : ℕ × TheReport) → reported.fits x ≡ true → is_plain x.1 ≡ true
plain_there x h = report_is_plain x.1 (and_parts (node.fits x.0) (report.fits x.1) h).1

plain_nowhere : (x : ℕ × TheReport) → listed_reported.fits x ≡ true → is_plain x.1 ≡ false
plain_nowhere x h = listed_is_not_plain x.1 (and_parts (node.fits x.0) (listed_report.fits x.1) h).1

reported_made : IsMade reported (λ x. frame.Report x.0 x.1) Report
unfolding body
reported_made = record { spells = λ x h. rw (plain_there x h) refl; fits = λ x h. rw (plain_there x h) refl; of = λ x h. rw (plain_there x h) refl }

listed_reported_made : IsMade listed_reported (λ x. frame.Report x.0 x.1) ListedReport
unfolding body
listed_reported_made = record { spells = λ x h. rw (plain_nowhere x h) refl; fits = λ x h. rw (plain_nowhere x h) refl; of = λ x h. rw (plain_nowhere x h) refl }

pub body_takes : (tag : Tag) (bytes : List ℕ) (f : Frame) → IsBytes bytes → body_at tag bytes ≡ Ok f → IsBody tag bytes f
unfolding body_at body
body_takes Originate bytes f are e = whole_takes prefix (λ p. frame.Originate p) Originate prefix_law (record { spells = λ x h. refl; fits = λ x h. refl; of = λ x h. refl }) bytes f are e
body_takes Withdraw bytes f are e = whole_takes prefix (λ p. frame.Withdraw p) Withdraw prefix_law (record { spells = λ x h. refl; fits = λ x h. refl; of = λ x h. refl }) bytes f are e
body_takes Prefer bytes f are e = whole_takes preferred (λ x. frame.Prefer x.0 x.1) Prefer preferred_law (record { spells = λ x h. refl; fits = λ x h. refl; of = λ x h. refl }) bytes f are e
body_takes Notice bytes f are e = whole_takes node (λ n. frame.Notice n) Notice node_law (record { spells = λ x h. refl; fits = λ x h. refl; of = λ x h. refl }) bytes f are e
body_takes OpenSession bytes f are e = whole_takes session_opened (λ x. frame.OpenSession x.0 x.1) OpenSession session_opened_law (record { spells = λ x h. refl; fits = λ x h. refl; of = λ x h. refl }) bytes f are e
body_takes Snap bytes f are e =
    let r = all_read_ok frame.Snap f bytes e in
    subst (λ (z : Frame). IsBody Snap bytes z) r.0 (record { spelled = r.1; fit = refl; kind = refl })
body_takes Propose bytes f are e = whole_takes epoch (λ x. frame.Propose x) Propose epoch_law (record { spells = λ x h. refl; fits = λ x h. refl; of = λ x h. refl }) bytes f are e
body_takes Update bytes f are e = whole_takes update (λ x. frame.Update x.0 x.1.0 x.1.1.0 x.1.1.1.0 x.1.1.1.1.0 x.1.1.1.1.1) Update update_law update_made bytes f are e
body_takes Marker bytes f are e = whole_takes marker (λ x. frame.Marker x.0 x.1.0 x.1.1) Marker marker_law (record { spells = λ x h. refl; fits = λ x h. refl; of = λ x h. refl }) bytes f are e
body_takes Hello bytes f are e = whole_takes hello (λ x. frame.Hello x.0 x.1.0 x.1.1) Hello hello_law (record { spells = λ x h. refl; fits = λ x h. refl; of = λ x h. refl }) bytes f are e
body_takes Report bytes f are e = whole_takes reported (λ x. frame.Report x.0 x.1) Report reported_law reported_made bytes f are e
body_takes Prepare bytes f are e = whole_takes in_ballot (λ x. frame.Prepare x.0 x.1.0 x.1.1) Prepare in_ballot_law (record { spells = λ x h. refl; fits = λ x h. refl; of = λ x h. refl }) bytes f are e
body_takes Promise bytes f are e = whole_takes promise (λ x. frame.Promise x.0 x.1.0 x.1.1.0 x.1.1.1) Promise promise_law (record { spells = λ x h. refl; fits = λ x h. refl; of = λ x h. refl }) bytes f are e
body_takes Accept bytes f are e = whole_takes accept (λ x. frame.Accept x.0 x.1.0 x.1.1.0 x.1.1.1) Accept accept_law (record { spells = λ x h. refl; fits = λ x h. refl; of = λ x h. refl }) bytes f are e
body_takes Accepted bytes f are e = whole_takes in_ballot (λ x. frame.Accepted x.0 x.1.0 x.1.1) Accepted in_ballot_law (record { spells = λ x h. refl; fits = λ x h. refl; of = λ x h. refl }) bytes f are e
body_takes Decision bytes f are e = whole_takes decision (λ x. frame.Decision x.0 x.1.0 x.1.1) Decision decision_law (record { spells = λ x h. refl; fits = λ x h. refl; of = λ x h. refl }) bytes f are e
body_takes Hop bytes f are e = whole_takes hop (λ x. frame.Hop x.0 x.1) Hop hop_law (record { spells = λ x h. refl; fits = λ x h. refl; of = λ x h. refl }) bytes f are e
body_takes Forward bytes f are e = whole_takes forward (λ x. frame.Forward x.0 x.1) Forward forward_law (record { spells = λ x h. refl; fits = λ x h. refl; of = λ x h. refl }) bytes f are e
body_takes Ended bytes f are e = whole_takes ended (λ x. frame.Ended x.0 x.1) Ended ended_law (record { spells = λ x h. refl; fits = λ x h. refl; of = λ x h. refl }) bytes f are e
body_takes Published bytes f are e = whole_takes published (λ x. frame.Published x.0 x.1) Published published_law (record { spells = λ x h. refl; fits = λ x h. refl; of = λ x h. refl }) bytes f are e
body_takes Inject bytes f are e = whole_takes injected (λ x. frame.Inject x.0 x.1) Inject injected_law (record { spells = λ x h. refl; fits = λ x h. refl; of = λ x h. refl }) bytes f are e
body_takes ListedUpdate bytes f are e = whole_takes listed_update (λ x. frame.Update x.0 x.1.0 x.1.1.0 x.1.1.1.0 x.1.1.1.1.0 x.1.1.1.1.1) ListedUpdate listed_update_law listed_update_made bytes f are e
body_takes ListedReport bytes f are e = whole_takes listed_reported (λ x. frame.Report x.0 x.1) ListedReport listed_reported_law listed_reported_made bytes f are e
body_takes Flush bytes f are e = whole_takes node (λ n. frame.Flush n) Flush node_law (record { spells = λ x h. refl; fits = λ x h. refl; of = λ x h. refl }) bytes f are e

update_again : (n s q : ℕ) (ts : List Trigger) (p : ℕ) (ns : Option (List ℕ)) (b : Bool) → is_one ts ≡ b → fields_fit (frame.Update n s q ts p ns) ≡ true
    → body_at (tag_of (frame.Update n s q ts p ns)) (body (frame.Update n s q ts p ns)) ≡ Ok (frame.Update n s q ts p ns)
unfolding body_at body
update_again n s q ts p ns true one fit = rw one (whole_again update (λ x. frame.Update x.0 x.1.0 x.1.1.0 x.1.1.1.0 x.1.1.1.1.0 x.1.1.1.1.1) (n, (s, (q, (ts, (p, ns))))) update_law (rw one at fit))
update_again n s q ts p ns false one fit = rw one (whole_again listed_update (λ x. frame.Update x.0 x.1.0 x.1.1.0 x.1.1.1.0 x.1.1.1.1.0 x.1.1.1.1.1) (n, (s, (q, (ts, (p, ns))))) listed_update_law (rw one at fit))

report_again : (n : ℕ) (r : TheReport) (b : Bool) → is_plain r ≡ b → fields_fit (frame.Report n r) ≡ true → body_at (tag_of (frame.Report n r)) (body (frame.Report n r)) ≡ Ok (frame.Report n r)
unfolding body_at body
report_again n r true plain fit = rw plain (whole_again reported (λ x. frame.Report x.0 x.1) (n, r) reported_law (rw plain at fit))
report_again n r false plain fit = rw plain (whole_again listed_reported (λ x. frame.Report x.0 x.1) (n, r) listed_reported_law (rw plain at fit))

pub body_again : (f : Frame) → fields_fit f ≡ true → body_at (tag_of f) (body f) ≡ Ok f
unfolding body_at body
body_again (frame.Originate p) fit = whole_again prefix (λ x. frame.Originate x) p prefix_law fit
body_again (frame.Withdraw p) fit = whole_again prefix (λ x. frame.Withdraw x) p prefix_law fit
body_again (frame.Prefer n v) fit = whole_again preferred (λ x. frame.Prefer x.0 x.1) (n, v) preferred_law fit
body_again (frame.Notice n) fit = whole_again node (λ x. frame.Notice x) n node_law fit
body_again (frame.OpenSession n s) fit = whole_again session_opened (λ x. frame.OpenSession x.0 x.1) (n, s) session_opened_law fit
body_again frame.Snap fit = refl
body_again (frame.Propose e) fit = whole_again epoch (λ x. frame.Propose x) e epoch_law fit
body_again (frame.Update n s q ts p ns) fit = update_again n s q ts p ns (is_one ts) refl fit
body_again (frame.Marker n s e) fit = whole_again marker (λ x. frame.Marker x.0 x.1.0 x.1.1) (n, (s, e)) marker_law fit
body_again (frame.Hello n s e) fit = whole_again hello (λ x. frame.Hello x.0 x.1.0 x.1.1) (n, (s, e)) hello_law fit
body_again (frame.Report n r) fit = report_again n r (is_plain r) refl fit
body_again (frame.Prepare n e b) fit = whole_again in_ballot (λ x. frame.Prepare x.0 x.1.0 x.1.1) (n, (e, b)) in_ballot_law fit
body_again (frame.Promise n e b v) fit = whole_again promise (λ x. frame.Promise x.0 x.1.0 x.1.1.0 x.1.1.1) (n, (e, (b, v))) promise_law fit
body_again (frame.Accept n e b v) fit = whole_again accept (λ x. frame.Accept x.0 x.1.0 x.1.1.0 x.1.1.1) (n, (e, (b, v))) accept_law fit
body_again (frame.Accepted n e b) fit = whole_again in_ballot (λ x. frame.Accepted x.0 x.1.0 x.1.1) (n, (e, b)) in_ballot_law fit
body_again (frame.Decision n e v) fit = whole_again decision (λ x. frame.Decision x.0 x.1.0 x.1.1) (n, (e, v)) decision_law fit
body_again (frame.Hop q ns) fit = whole_again hop (λ x. frame.Hop x.0 x.1) (q, ns) hop_law fit
body_again (frame.Forward n q) fit = whole_again forward (λ x. frame.Forward x.0 x.1) (n, q) forward_law fit
body_again (frame.Ended i e) fit = whole_again ended (λ x. frame.Ended x.0 x.1) (i, e) ended_law fit
body_again (frame.Published e ps) fit = whole_again published (λ x. frame.Published x.0 x.1) (e, ps) published_law fit
body_again (frame.Inject i p) fit = whole_again injected (λ x. frame.Inject x.0 x.1) (i, p) injected_law fit
body_again (frame.Flush n) fit = whole_again node (λ x. frame.Flush x) n node_law fit
