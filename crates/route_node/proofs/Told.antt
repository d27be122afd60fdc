-- The frames of what a node hands out have a spelling.
use Rattle.std.proofs.Common.{ℕ, ◌+◌, ◌*◌, ◌≡◌, ◌≤◌, Bool, true, false, ◌&&◌, ◌==◌, Option, Some, None, List, [], ◌∷◌, map, length, take, drop, refl, sym, ap, ◌∙◌, subst, arith}
use Rattle.std.specs.Prelude.{nat_le, nat_lt, option_map, filter_map}
use Rattle.std.specs.List.{list_all, flat_map, cons_option}
use Rattle.std.proofs.lemmas.Bool.Decides.{nat_tests}
use Rattle.std.proofs.lemmas.List.{length-append, take-append-drop}
use Rattle.topology.specs.declared.names.Trigger.{Trigger}
use Rattle.topology.specs.declared.items.Sent.{Sent}
use Rattle.topology.specs.declared.items.Pending.{Pending}
use Rattle.topology.specs.Lists.{has}
use Rattle.topology.specs.Net.{Net, IsValid, neighbours}
use Rattle.topology.proofs.Tests.{and_left, and_right, and_both, same_is}
use Rattle.trigger_log.specs.Entries.{Update}
use Rattle.trigger_log.specs.Going.{Item, News, Marker, Hello}
use Rattle.incomplete_closure.specs.Reports.{Row, SessionRow, Report}
use Rattle.incomplete_closure.specs.declared.reports.Report.{Report as TheReport}
use Rattle.incomplete_closure.specs.declared.values.Value.{Value}
use Rattle.epoch_packet.specs.declared.walks.End.{End as Ending}
use Rattle.epoch_packet.specs.declared.walks.End.TheVariants.{Delivered, Expired, Stuck}
use Rattle.paxos_core.specs.Facts.{Message as Ballots, Prepare, Promise, Accept, Accepted, Decision}
use Rattle.consolidator.specs.Messages.{Message, Reports, Agrees}
use Rattle.message_fitting.specs.ControlFits.{epoch_fits, sender_fits, ballot_fits, named_fits, value_fits, items_of, marks_of_rows, report_fits, ballots_fit, body_fits, message_fits}
use Rattle.node_core.specs.Fits.{item_fits, path_fits}
use Rattle.message_fitting.specs.Names.{is_number, list_fits}
use Rattle.message_fitting.specs.Marks.{item_marks, row_marks}
use Rattle.message_fitting.specs.PacketFits.{packet_fits}
use Rattle.node_core.specs.Outputs.{Output, Logged, Cut, Send, Mail, Published, Forward, Ended, outputs}
use Rattle.admission_laws.specs.Handing.{is_short, table_fits, output_fits}
use Rattle.admission_laws.proofs.Sessions.{neighbour_is}
use Rattle.wire_frames.specs.declared.frames.Frame.{Frame}
use Rattle.wire_frames.specs.declared.frames.Frame.TheVariants as frame
use Rattle.wire_frames.specs.Fields.{node, prefix, positive, epoch, epoch_or_none, trigger, ballot, path, paths, value, named, packet, any32, end, items, row, session_row}
use Rattle.wire_frames.specs.Listing.{triggers_fit, is_plain, item, listed_row, no_rows, pending_row, nothing_pending, spelled_report}
use Rattle.wire_frames.specs.Listing.{report_fits as listing_fits}
use Rattle.wire_frames.specs.Frames.{limit_of, tag_of, fields_fit, body}
use Rattle.wire_frames.specs.Frames.{fits as has_spelling}
use Rattle.wire_frames.proofs.Short.{short_unless_report, trigger_wide, item_wide, row_wide, listed_item_wide, listed_row_wide, pending_wide, session_open, session_down, plain_wide, listed_wide, report_body, report_limit}
use Rattle.route_node.specs.Frames.{first_of, list_told, item_told, row_told, session_told, pending_told, report_told, item_frame, ballot_frame, mail_frame, telling}
use Rattle.route_node.specs.Running.{AreBegun}
use Rattle.route_node.specs.Streams.{replies, AreTaken}
use Rattle.route_node.specs.Who.{Who, inputs, begun_by, run_over}
use Rattle.route_node.proofs.Spellable.{at_most, node_fits, positive_fits, prefix_fits, epoch_as, epoch_or_none_as, any32_fits, ballot_as, path_as, paths_as, value_as, named_as, packet_as}
use Rattle.route_node.proofs.Reporting.{told_short, Parts, parts_of, update_list_as, report_as}
use Rattle.route_node.proofs.Taking.{all_right, all_admitted, fits_since}

-- ---- how long a report is

plain_items_length : (xs : List Sent) → length (flat_map items.spells (map item_told xs)) ≡ 10 * length xs
plain_items_length [] = refl
plain_items_length (x ∷ xs) = omega (arith, length-append (items.spells (item_told x)) (flat_map items.spells (map item_told xs)), item_wide (item_told x), plain_items_length xs)

plain_rows_length : (ks : List Row) → length (flat_map (row 0).spells (map row_told ks)) ≡ 10 * length ks + 10 * length (items_of ks)
plain_rows_length [] = refl
plain_rows_length (k ∷ ks) =
    omega (arith, length-append ((row 0).spells (row_told k)) (flat_map (row 0).spells (map row_told ks)), row_wide (row_told k), plain_items_length k.sent, plain_rows_length ks, length-append k.sent (items_of ks))

triggers_length : (ts : List Trigger) → length (flat_map trigger.spells ts) ≡ 6 * length ts
triggers_length [] = refl
triggers_length (t ∷ ts) = omega (arith, length-append (trigger.spells t) (flat_map trigger.spells ts), trigger_wide t, triggers_length ts)

items_length : (xs : List Sent) → length (flat_map (item 0).spells (map item_told xs)) ≤ 12 * length xs + 6 * item_marks xs
items_length [] = omega arith
items_length (x ∷ xs) =
    omega (arith, length-append ((item 0).spells (item_told x)) (flat_map (item 0).spells (map item_told xs)), listed_item_wide (item_told x), triggers_length (list_told x.triggers), told_short x.triggers, items_length xs)

rows_length : (ks : List Row) → length (flat_map (listed_row no_rows).spells (map row_told ks)) ≤ 6 * length ks + (12 * length (items_of ks) + 6 * marks_of_rows ks)
rows_length [] = omega arith
rows_length (k ∷ ks) =
    omega (
      arith,
      length-append ((listed_row no_rows).spells (row_told k)) (flat_map (listed_row no_rows).spells (map row_told ks)),
      listed_row_wide (row_told k),
      triggers_length (list_told k.triggers),
      told_short k.triggers,
      items_length k.sent,
      rows_length ks,
      length-append k.sent (items_of ks),
    )

pending_length : (ps : List Pending) → length (flat_map (pending_row (nothing_pending 0)).spells (map pending_told ps)) ≤ 10 * length ps + 6 * row_marks ps
pending_length [] = omega arith
pending_length (p ∷ ps) =
    omega (
      arith,
      length-append ((pending_row (nothing_pending 0)).spells (pending_told p)) (flat_map (pending_row (nothing_pending 0)).spells (map pending_told ps)),
      pending_wide (pending_told p),
      triggers_length (list_told p.triggers),
      told_short p.triggers,
      pending_length ps,
    )

session_length : (k : SessionRow) → length ((session_row (0, 0)).spells (session_told k)) ≤ 17
session_length k = go k.down refl
  where
    go : (d : Option (List Trigger)) → k.down ≡ d → length ((session_row (0, 0)).spells (session_told k)) ≤ 17
    go None e = let short = session_open (session_told k) (ap (option_map first_of) e) in omega (arith, short)
    go (Some ts) e = let long = session_down (session_told k) (first_of ts) (ap (option_map first_of) e) in omega (arith, long)

sessions_length : (ks : List SessionRow) → length (flat_map (session_row (0, 0)).spells (map session_told ks)) ≤ 17 * length ks
sessions_length [] = omega arith
sessions_length (k ∷ ks) =
    omega (arith, length-append ((session_row (0, 0)).spells (session_told k)) (flat_map (session_row (0, 0)).spells (map session_told ks)), session_length k, sessions_length ks)

spelling_short : (net : Net) (valid : IsValid net) (r : Report) → Parts net valid r → is_short (Reports r) ≡ true → 2 + length (spelled_report (report_told r)) ≤ 1048576
spelling_short net valid r p short = go (is_plain (report_told r)) refl
  where
    sessions : length r.sessions ≤ 2112
    sessions = at_most (length r.sessions) 2112 short

    go : (b : Bool) → is_plain (report_told r) ≡ b → 2 + length (spelled_report (report_told r)) ≤ 1048576
    go true plain = let few = sessions in rw plain (omega (arith, plain_wide (report_told r), plain_rows_length r.rows, sessions_length r.sessions, p.few_rows, p.few_items, few))
    go false other = let few = sessions in rw other (omega (arith, listed_wide (report_told r), rows_length r.rows, sessions_length r.sessions, pending_length r.pending, p.few_rows, p.few_items, p.few_pending, p.marks, few))

report_is_short : (net : Net) (valid : IsValid net) (w : ℕ) (r : Report) → Parts net valid r → is_short (Reports r) ≡ true → length (body (frame.Report w (report_told r))) ≤ 1048576
report_is_short net valid w r p short = let small = spelling_short net valid r p short in omega (arith, report_body w (report_told r), small)

-- ---- frames

abbrev not_report : Frame → Type 0
not_report f = (n : ℕ) (r : TheReport) → f ≡ frame.Report n r → ⊥

spelled : (f : Frame) → not_report f → fields_fit f ≡ true → has_spelling f ≡ true
unfolding has_spelling
spelled f other fit = let short = short_unless_report f other fit in and_both (fields_fit f) (nat_le (length (body f)) (limit_of (tag_of f))) fit (grind (arith, nat_tests, short))

end_fits : (e : Ending) → end.fits e ≡ true
unfolding end
end_fits Delivered = refl
end_fits Expired = refl
end_fits Stuck = refl

module _ (net : Net) (valid : IsValid net) where
  news_told : (u w s q : ℕ) (x : Update) → has net.nodes w ≡ true → is_number s ≡ true → item_fits net u (News q x) ≡ true → has_spelling (item_frame w s (News q x)) ≡ true
  news_told u w s q x of in_session fit =
      let first = and_right (is_number q) (nat_lt x.prefix (length net.prefixes) && (list_fits net x.triggers && path_fits net u x.path)) fit in
      let second = and_right (nat_lt x.prefix (length net.prefixes)) (list_fits net x.triggers && path_fits net u x.path) first in
      let ts = list_told x.triggers in
      spelled (frame.Update w s q ts x.prefix x.path) (λ n r e. absurd (cc e))
      (and_both (node.fits w) (positive.fits s && (positive.fits q && (triggers_fit ts && (prefix.fits x.prefix && path.fits x.path)))) (node_fits net w valid of)
      (and_both (positive.fits s) (positive.fits q && (triggers_fit ts && (prefix.fits x.prefix && path.fits x.path))) (positive_fits s in_session)
      (and_both (positive.fits q) (triggers_fit ts && (prefix.fits x.prefix && path.fits x.path)) (positive_fits q (and_left (is_number q) (nat_lt x.prefix (length net.prefixes) && (list_fits net x.triggers && path_fits net u x.path)) fit))
      (and_both (triggers_fit ts) (prefix.fits x.prefix && path.fits x.path) (update_list_as net valid x.triggers (and_left (list_fits net x.triggers) (path_fits net u x.path) second))
      (and_both (prefix.fits x.prefix) (path.fits x.path) (prefix_fits net x.prefix valid (and_left (nat_lt x.prefix (length net.prefixes)) (list_fits net x.triggers && path_fits net u x.path) first))
      (path_as net u x.path valid (and_right (list_fits net x.triggers) (path_fits net u x.path) second)))))))

  item_told_fits : (u w s : ℕ) (i : Item) → has net.nodes w ≡ true → is_number s ≡ true → item_fits net u i ≡ true → has_spelling (item_frame w s i) ≡ true
  item_told_fits u w s (News q x) of in_session fit = news_told u w s q x of in_session fit
  item_told_fits u w s (Marker e) of in_session fit =
      spelled (frame.Marker w s e) (λ n r d. absurd (cc d))
      (and_both (node.fits w) (positive.fits s && epoch.fits e) (node_fits net w valid of) (and_both (positive.fits s) (epoch.fits e) (positive_fits s in_session) (epoch_as e fit)))
  item_told_fits u w s (Hello e) of in_session fit =
      spelled (frame.Hello w s e) (λ n r d. absurd (cc d))
      (and_both (node.fits w) (positive.fits s && epoch_or_none.fits e) (node_fits net w valid of) (and_both (positive.fits s) (epoch_or_none.fits e) (positive_fits s in_session) (epoch_or_none_as e fit)))

  ballot_told_fits : (u w e : ℕ) (m : Ballots Value) → has net.nodes w ≡ true → epoch_fits e ≡ true → ballots_fit net u m ≡ true → has_spelling (ballot_frame w e m) ≡ true
  ballot_told_fits u w e (Prepare b) of at fit =
      spelled (frame.Prepare w e b) (λ n r d. absurd (cc d))
      (and_both (node.fits w) (epoch.fits e && ballot.fits b) (node_fits net w valid of) (and_both (epoch.fits e) (ballot.fits b) (epoch_as e at) (ballot_as net b valid (and_right (has net.consolidators u) (ballot_fits net b) fit))))
  ballot_told_fits u w e (Promise b n) of at fit =
      let ok = and_left (sender_fits net u b) (named_fits net n) fit in
      spelled (frame.Promise w e b n) (λ k r d. absurd (cc d))
      (and_both (node.fits w) (epoch.fits e && (ballot.fits b && named.fits n)) (node_fits net w valid of) (and_both (epoch.fits e) (ballot.fits b && named.fits n) (epoch_as e at)
      (and_both (ballot.fits b) (named.fits n) (ballot_as net b valid (and_right (has net.consolidators u) (ballot_fits net b) ok)) (named_as net n valid (and_right (sender_fits net u b) (named_fits net n) fit)))))
  ballot_told_fits u w e (Accept b v) of at fit =
      let ok = and_left (sender_fits net u b) (value_fits net v) fit in
      spelled (frame.Accept w e b v) (λ k r d. absurd (cc d))
      (and_both (node.fits w) (epoch.fits e && (ballot.fits b && value.fits v)) (node_fits net w valid of) (and_both (epoch.fits e) (ballot.fits b && value.fits v) (epoch_as e at)
      (and_both (ballot.fits b) (value.fits v) (ballot_as net b valid (and_right (has net.consolidators u) (ballot_fits net b) ok)) (value_as net v valid (and_right (sender_fits net u b) (value_fits net v) fit)))))
  ballot_told_fits u w e (Accepted b) of at fit =
      spelled (frame.Accepted w e b) (λ n r d. absurd (cc d))
      (and_both (node.fits w) (epoch.fits e && ballot.fits b) (node_fits net w valid of) (and_both (epoch.fits e) (ballot.fits b) (epoch_as e at) (ballot_as net b valid (and_right (has net.consolidators u) (ballot_fits net b) fit))))
  ballot_told_fits u w e (Decision v) of at fit =
      spelled (frame.Decision w e v) (λ k r d. absurd (cc d))
      (and_both (node.fits w) (epoch.fits e && value.fits v) (node_fits net w valid of) (and_both (epoch.fits e) (value.fits v) (epoch_as e at) (value_as net v valid fit)))

  report_told_fits : (u w : ℕ) (r : Report) → has net.nodes w ≡ true → has net.nodes u ≡ true → epoch_fits r.epoch ≡ true → body_fits net u (Reports r) ≡ true → is_short (Reports r) ≡ true → has_spelling (mail_frame w (Reports r)) ≡ true
  unfolding has_spelling
  report_told_fits u w r of from at fit short =
      let own = same_is r.node u (and_left (r.node == u) (report_fits net r) fit) in
      let parts = parts_of net valid r (and_right (r.node == u) (report_fits net r) fit) in
      let long = report_is_short net valid w r parts short in
      let limit = report_limit w (report_told r) in
      and_both (fields_fit (frame.Report w (report_told r))) (nat_le (length (body (frame.Report w (report_told r)))) (limit_of (tag_of (frame.Report w (report_told r)))))
      (and_both (node.fits w) (listing_fits (report_told r)) (node_fits net w valid of) (report_as net valid r (subst (λ n. has net.nodes n ≡ true) (sym own) from) at parts))
      (grind (arith, nat_tests, long, limit))

  mail_told_fits : (u w : ℕ) (m : Message) → has net.nodes w ≡ true → message_fits net u m ≡ true → is_short m ≡ true → has_spelling (mail_frame w m) ≡ true
  mail_told_fits u w (Reports r) of fit short =
      let rest = and_right (has net.nodes u) (epoch_fits r.epoch && body_fits net u (Reports r)) fit in
      report_told_fits u w r of (and_left (has net.nodes u) (epoch_fits r.epoch && body_fits net u (Reports r)) fit) (and_left (epoch_fits r.epoch) (body_fits net u (Reports r)) rest)
      (and_right (epoch_fits r.epoch) (body_fits net u (Reports r)) rest) short
  mail_told_fits u w (Agrees e m) of fit short =
      let rest = and_right (has net.nodes u) (epoch_fits e && ballots_fit net u m) fit in
      ballot_told_fits u w e m of (and_left (epoch_fits e) (ballots_fit net u m) rest) (and_right (epoch_fits e) (ballots_fit net u m) rest)

  -- the frame of an output has a spelling
  pub telling_fits : (u : ℕ) (o : Output) (f : Frame) → ((w : ℕ) → has (neighbours net u) w ≡ true → has net.nodes w ≡ true) → output_fits net u o ≡ true → telling o ≡ Some f → has_spelling f ≡ true
  telling_fits u (Logged index) f near fit is = absurd (cc is)
  telling_fits u (Cut e) f near fit is = absurd (cc is)
  telling_fits u (Send going) f near fit is =
      let rest = and_right (has (neighbours net u) going.to) (is_number going.session && item_fits net u going.item) fit in
      let same : item_frame going.to going.session going.item ≡ f = cc is in
      subst (λ g. has_spelling g ≡ true) same
      (item_told_fits u going.to going.session going.item (near going.to (and_left (has (neighbours net u) going.to) (is_number going.session && item_fits net u going.item) fit))
      (and_left (is_number going.session) (item_fits net u going.item) rest) (and_right (is_number going.session) (item_fits net u going.item) rest))
  telling_fits u (Mail w m) f near fit is =
      let rest = and_right (has net.nodes w) (message_fits net u m && is_short m) fit in
      let same : mail_frame w m ≡ f = cc is in
      subst (λ g. has_spelling g ≡ true) same
      (mail_told_fits u w m (and_left (has net.nodes w) (message_fits net u m && is_short m) fit) (and_left (message_fits net u m) (is_short m) rest) (and_right (message_fits net u m) (is_short m) rest))
  telling_fits u (Published e v ps) f near fit is =
      let rest = and_right (epoch_fits e) (value_fits net v && table_fits net u ps) fit in
      let table = and_right (value_fits net v) (table_fits net u ps) rest in
      let count = same_is (length ps) (length net.prefixes) (and_left (length ps == length net.prefixes) (list_all (path_fits net u) ps) table) in
      let most = valid.few_prefixes in
      let same : frame.Published e ps ≡ f = cc is in
      subst (λ g. has_spelling g ≡ true) same
      (spelled (frame.Published e ps) (λ n r d. absurd (cc d))
      (and_both (epoch.fits e) (paths.fits ps) (epoch_as e (and_left (epoch_fits e) (value_fits net v && table_fits net u ps) fit))
      (paths_as net u ps valid (omega (arith, count, most)) (and_right (length ps == length net.prefixes) (list_all (path_fits net u) ps) table))))
  telling_fits u (Forward next q) f near fit is =
      let same : frame.Forward next q ≡ f = cc is in
      subst (λ g. has_spelling g ≡ true) same
      (spelled (frame.Forward next q) (λ n r d. absurd (cc d))
      (and_both (node.fits next) (packet.fits q) (node_fits net next valid (and_left (has net.nodes next) (packet_fits net q) fit)) (packet_as net q valid (and_right (has net.nodes next) (packet_fits net q) fit))))
  telling_fits u (Ended id ending) f near fit is =
      let same : frame.Ended id ending ≡ f = cc is in
      subst (λ g. has_spelling g ≡ true) same
      (spelled (frame.Ended id ending) (λ n r d. absurd (cc d)) (and_both (any32.fits id) (end.fits ending) (any32_fits id fit) (end_fits ending)))

  -- the frames of what is handed out
  each_told : (u : ℕ) (os : List Output) → list_all (output_fits net u) os ≡ true → list_all has_spelling (filter_map telling os) ≡ true
  each_told u [] fit = refl
  each_told u (o ∷ os) fit = with_first (telling o) refl (each_told u os (and_right (output_fits net u o) (list_all (output_fits net u) os) fit))
    where
      with_first : (t : Option Frame) → telling o ≡ t → list_all has_spelling (filter_map telling os) ≡ true → list_all has_spelling (cons_option t (filter_map telling os)) ≡ true
      with_first None is rest = rest
      with_first (Some f) is rest =
          and_both (has_spelling f) (list_all has_spelling (filter_map telling os))
          (telling_fits u o f (λ w near. neighbour_is net u w valid near) (and_left (output_fits net u o) (list_all (output_fits net u) os) fit) is) rest

-- the replies to frames that were taken
pub replies_spelled : (who : Who) (frames : List Frame) → IsValid who.net → has who.net.nodes who.node ≡ true → AreBegun who.rules who.net who.node who.records → AreTaken who frames
    → list_all has_spelling (replies who frames) ≡ true
replies_spelled who frames valid here restored taken =
    let all = outputs (run_over who frames) in
    let count = length (outputs (begun_by who)) in
    each_told who.net valid who.node (drop count all)
    (all_right (output_fits who.net who.node) (take count all) (drop count all)
    (ap (list_all (output_fits who.net who.node)) (take-append-drop count all)
    ∙ fits_since who.rules who.net who.node who.records valid here restored (inputs frames) (all_admitted who frames taken)))
