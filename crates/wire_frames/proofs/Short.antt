-- Only the body of a report can be longer than its kind allows.
use Rattle.std.proofs.Common.{◌≡◌, ℕ, suc, ◌+◌, ◌*◌, ◌≤◌, ◌<◌, Bool, true, false, cond, List, [], ◌∷◌, ◌++◌, length, Option, Some, None, get_or, take, drop, inl, inr, refl, sym, ap, ◌∙◌, arith}
use Rattle.std.specs.Prelude.{nat_le, min}
use Rattle.std.specs.List.{flat_map}
use Rattle.std.specs.Int.{w8, w16, w32, w64, to_be_bytes, is_in_range}
use Rattle.std.proofs.lemmas.Bool.{leb-true, and_parts, cases_lt, lt-leb, le-leb}
use Rattle.std.proofs.lemmas.List.{length-append, take_more, drop_all, flat_map_more}
use Rattle.std.proofs.Math.Nat.{mul-suc, mul-le-mul_left}
use Rattle.topology.specs.declared.items.Sent.{Sent}
use Rattle.topology.specs.declared.items.Pending.{Pending}
use Rattle.topology.specs.declared.names.Trigger.{Trigger}
use Rattle.topology.specs.declared.limits.TheConstants.{MOST_NODES, MOST_PREFIXES, MOST_TRAIL, MOST_TRIGGERS}
use Rattle.incomplete_closure.specs.declared.cut_rows.Row.{Row}
use Rattle.incomplete_closure.specs.declared.session_rows.SessionRow.{SessionRow}
use Rattle.incomplete_closure.specs.declared.reports.Report.{Report as TheReport}
use Rattle.wire_frames.specs.declared.frames.Frame.{Frame}
use Rattle.wire_frames.specs.declared.frames.Frame.TheVariants as frame
use Rattle.wire_frames.specs.Formats.{Format, tested, number, ordered, pair, Meaning, meant, optional, spelled_behind, Series, many_fit, listed}
use Rattle.wire_frames.specs.Fields.{node, prefix, positive, epoch, epoch_or_none, preference, any16, any32, any64, few, many, more_items, flag, scope, mode, end, trigger, scope_number, is_one, one_meaning, one_trigger, ballot, sent, items, in_any_order, rising, different, nodes, links, path_meaning, path, paths_in_order, paths, no_trigger, rising_triggers, value_meaning, value, named, row, rows, session_row, report, carried, packet_meaning, packet, flag_meaning, mode_meaning, ballot_meaning}
use Rattle.wire_frames.specs.Listing.{more_triggers, triggers, item, listed_row, no_rows, scope_beside, pending_row, nothing_pending, is_plain, listed_report, spelled_report}
use Rattle.wire_frames.specs.declared.tags.Tag.TheVariants.{Report, ListedReport}
use Rattle.wire_frames.specs.Frames.{limit_of, update, listed_update, promise, accept, decision, hop, forward, published, tag_of, fields_fit, body}

-- everything with a spelling takes at most this many bytes
pub record IsShort {A : Type 0} (f : Format A) (most : ℕ) : Type 0 where
  pub short : (x : A) → f.fits x ≡ true → length (f.spells x) ≤ most

pair_short : {A B : Type 0} (f : Format A) (g : Format B) (m n : ℕ) → IsShort f m → IsShort g n → IsShort (pair f g) (m + n)
pair_short f g m n first second = record {
  short = λ x fit.
      let p = and_parts (f.fits x.0) (g.fits x.1) fit in
      omega (arith, length-append (f.spells x.0) (g.spells x.1), first.short x.0 p.0, second.short x.1 p.1);
}

meant_short : {A B : Type 0} (f : Format A) (m : Meaning A B) (n : ℕ) → IsShort f n → IsShort (meant f m) n
meant_short f m n short = record { short = λ y fit. short.short (m.parts y) (and_parts (m.only y) (f.fits (m.parts y)) fit).1 }

ordered_short : {A : Type 0} (f : Format A) (test : A → Bool) (n : ℕ) → IsShort f n → IsShort (ordered f test) n
ordered_short f test n short = record { short = λ y fit. short.short y (and_parts (f.fits y) (test y) fit).0 }

optional_length : {A : Type 0} (f : Format A) (n : ℕ) → IsShort f n → (y : Option A) → (optional f).fits y ≡ true → length ((optional f).spells y) ≤ 1 + n
optional_length f n short None fit = omega arith
optional_length f n short (Some y) fit = omega (arith, short.short y fit)

optional_short : {A : Type 0} (f : Format A) (n : ℕ) → IsShort f n → IsShort (optional f) (1 + n)
optional_short f n short = record { short = optional_length f n short }

many_length : {S A : Type 0} (series : Series S A) (each : ℕ) → ((s : S) (x : A) → (series.at s).fits x ≡ true → length (series.spells x) ≤ each) → (s : S) (xs : List A) → many_fit series s xs ≡ true → length (flat_map series.spells xs) ≤ each * length xs
many_length series each short s [] fit = omega arith
many_length series each short s (x ∷ xs) fit =
    let p = and_parts ((series.at s).fits x) (many_fit series (series.step s x) xs) fit in
    let later = many_length series each short (series.step s x) xs p.1 in
    let product : each * suc (length xs) ≡ each * length xs + each = mul-suc each (length xs) in
    omega (arith, length-append (series.spells x) (flat_map series.spells xs), short s x p.0)

listed_short : {S A : Type 0} (count : Format ℕ) (series : Series S A) (s : S) (bytes most each : ℕ) → ((n : ℕ) → length (count.spells n) ≡ bytes) → ((n : ℕ) → count.fits n ≡ true → n ≤ most) → ((t : S) (x : A) → (series.at t).fits x ≡ true → length (series.spells x) ≤ each)
    → IsShort (listed count series s) (bytes + each * most)
listed_short count series s bytes most each wide small short = record {
  short = λ xs fit.
      let p = and_parts (count.fits (length xs)) (many_fit series s xs) fit in
      let product : each * length xs ≤ each * most = mul-le-mul_left each (small (length xs) p.0) in
      omega (arith, length-append (count.spells (length xs)) (flat_map series.spells xs), wide (length xs), many_length series each short s xs p.1);
}

-- ---- numbers

short8 : (test : ℕ → Bool) → IsShort (tested w8 test) 1
short8 test = record { short = λ n fit. omega arith }

short16 : (test : ℕ → Bool) → IsShort (tested w16 test) 2
short16 test = record { short = λ n fit. omega arith }

short32 : (test : ℕ → Bool) → IsShort (tested w32 test) 4
short32 test = record { short = λ n fit. omega arith }

short64 : (test : ℕ → Bool) → IsShort (tested w64 test) 8
short64 test = record { short = λ n fit. omega arith }

few_most : (most n : ℕ) → (few most).fits n ≡ true → n ≤ most
unfolding few
few_most most n fit = leb-true n most (and_parts _ _ fit).1

many_most : (most n : ℕ) → (many most).fits n ≡ true → n ≤ most
unfolding many
many_most most n fit = leb-true n most (and_parts _ _ fit).1

few_wide : (most n : ℕ) → length ((few most).spells n) ≡ 1
unfolding few
few_wide most n = refl

many_wide : (most n : ℕ) → length ((many most).spells n) ≡ 2
unfolding many
many_wide most n = refl

node_wide : (n : ℕ) → length (node.spells n) ≤ 2
unfolding node
node_wide n = omega arith

pub trigger_wide : (t : Trigger) → length (trigger.spells t) ≡ 6
unfolding trigger node positive
trigger_wide t = refl

-- ---- parts

nodes_short : IsShort nodes 129
unfolding nodes
nodes_short = listed_short (few MOST_TRAIL) (in_any_order {S = ℕ}) 0 1 64 2 (few_wide 64) (few_most 64) (λ t n fit. node_wide n)

links_short : IsShort links 127
unfolding links
links_short = listed_short (few 63) rising 0 1 63 2 (few_wide 63) (few_most 63) (λ t n fit. node_wide n)

path_short : IsShort path 129
unfolding path
path_short = meant_short (listed (few MOST_NODES) different []) path_meaning 129 (listed_short (few MOST_NODES) different [] 1 64 2 (few_wide 64) (few_most 64) (λ t n fit. node_wide n))

paths_short : IsShort paths 33026
unfolding paths
paths_short = listed_short (many MOST_PREFIXES) (paths_in_order {S = ℕ}) 0 2 256 129 (many_wide 256) (many_most 256) (λ t x fit. path_short.short x fit)

value_short : IsShort value 49283
unfolding value
value_short =
    let responding = listed_short (few MOST_NODES) rising 0 1 64 2 (few_wide 64) (few_most 64) (λ t n fit. node_wide n) in
    let incomplete = listed_short (many MOST_TRIGGERS) rising_triggers no_trigger 2 8192 6 (many_wide 8192) (many_most 8192) (λ s t fit. omega (arith, trigger_wide t)) in
    meant_short (pair (listed (few MOST_NODES) rising 0) (listed (many MOST_TRIGGERS) rising_triggers no_trigger)) value_meaning 49283
    (pair_short (listed (few MOST_NODES) rising 0) (listed (many MOST_TRIGGERS) rising_triggers no_trigger) 129 49154 responding incomplete)

named_short : IsShort named 49290
unfolding named ballot node positive
named_short = optional_short (pair ballot value) 49289
    (pair_short ballot value 6 49283 (meant_short (pair positive node) ballot_meaning 6 (pair_short positive node 4 2 (short32 _) (short16 _))) value_short)

packet_short : IsShort packet 280
unfolding packet positive prefix epoch_or_none mode any16 flag any64
packet_short =
    let lists = pair_short nodes nodes 129 129 nodes_short nodes_short in
    let tail = pair_short any16 (pair flag (pair any64 (pair nodes nodes))) 2 267 (short16 _)
    (pair_short flag (pair any64 (pair nodes nodes)) 1 266 (meant_short (number w8 0 1) flag_meaning 1 (short8 _)) (pair_short any64 (pair nodes nodes) 8 258 (short64 _) lists)) in
    meant_short (pair positive (pair prefix (pair epoch_or_none (pair mode carried)))) packet_meaning 280
    (pair_short positive (pair prefix (pair epoch_or_none (pair mode carried))) 4 276 (short32 _)
    (pair_short prefix (pair epoch_or_none (pair mode carried)) 2 274 (short16 _)
    (pair_short epoch_or_none (pair mode carried) 4 270 (short32 _) (pair_short mode carried 1 269 (meant_short (number w8 0 1) mode_meaning 1 (short8 _)) tail))))

-- ---- bodies

one_trigger_short : IsShort one_trigger 6
unfolding one_trigger
one_trigger_short = meant_short trigger one_meaning 6 (record { short = λ t fit. omega (arith, trigger_wide t) })

more_most : (low n : ℕ) → (more_triggers low 0).fits n ≡ true → n ≤ 8192
unfolding more_triggers
more_most low n fit = leb-true n 8192 (and_parts (nat_le low n) (nat_le n 8192) (and_parts (is_in_range low MOST_TRIGGERS n) (nat_le (0 + n) 65536) fit).0).1

more_wide : (low before n : ℕ) → length ((more_triggers low before).spells n) ≡ 2
unfolding more_triggers
more_wide low before n = refl

several_short : IsShort (triggers 2 0) 49154
unfolding triggers
several_short = listed_short (more_triggers 2 0) rising_triggers no_trigger 2 8192 6 (more_wide 2 0) (more_most 2) (λ s t fit. omega (arith, trigger_wide t))

node_short : IsShort node 2
node_short = record { short = λ n fit. node_wide n }

positive_short : IsShort positive 4
unfolding positive
positive_short = short32 _

prefix_short : IsShort prefix 2
unfolding prefix
prefix_short = short16 _

epoch_short : IsShort epoch 4
unfolding epoch
epoch_short = short32 _

ballot_short : IsShort ballot 6
unfolding ballot node positive
ballot_short = meant_short (pair positive node) ballot_meaning 6 (pair_short positive node 4 2 (short32 _) (short16 _))

update_short : IsShort update 147
update_short = pair_short node (pair positive (pair positive (pair one_trigger (pair prefix path)))) 2 145 node_short
    (pair_short positive (pair positive (pair one_trigger (pair prefix path))) 4 141 positive_short
    (pair_short positive (pair one_trigger (pair prefix path)) 4 137 positive_short
    (pair_short one_trigger (pair prefix path) 6 131 one_trigger_short (pair_short prefix path 2 129 prefix_short path_short))))

listed_update_short : IsShort listed_update 49295
listed_update_short = pair_short node (pair positive (pair positive (pair (triggers 2 0) (pair prefix path)))) 2 49293 node_short
    (pair_short positive (pair positive (pair (triggers 2 0) (pair prefix path))) 4 49289 positive_short
    (pair_short positive (pair (triggers 2 0) (pair prefix path)) 4 49285 positive_short
    (pair_short (triggers 2 0) (pair prefix path) 49154 131 several_short (pair_short prefix path 2 129 prefix_short path_short))))

promise_short : IsShort promise 49302
promise_short = pair_short node (pair epoch (pair ballot named)) 2 49300 node_short
    (pair_short epoch (pair ballot named) 4 49296 epoch_short (pair_short ballot named 6 49290 ballot_short named_short))

accept_short : IsShort accept 49295
accept_short = pair_short node (pair epoch (pair ballot value)) 2 49293 node_short
    (pair_short epoch (pair ballot value) 4 49289 epoch_short (pair_short ballot value 6 49283 ballot_short value_short))

decision_short : IsShort decision 49289
decision_short = pair_short node (pair epoch value) 2 49287 node_short (pair_short epoch value 4 49283 epoch_short value_short)

hop_short : IsShort hop 407
hop_short = pair_short packet links 280 127 packet_short links_short

forward_short : IsShort forward 282
forward_short = pair_short node packet 2 280 node_short packet_short

published_short : IsShort published 33030
published_short = pair_short epoch paths 4 33026 epoch_short paths_short

at_most_limit : {a : ℕ} (m n : ℕ) → a ≤ m → m ≤ n → a ≤ n
at_most_limit m n first second = omega arith

update_in_time : (a b c : ℕ) (ts : List Trigger) (e : ℕ) (f : Option (List ℕ)) (one : Bool) → is_one ts ≡ one → fields_fit (frame.Update a b c ts e f) ≡ true
    → length (body (frame.Update a b c ts e f)) ≤ limit_of (tag_of (frame.Update a b c ts e f))
unfolding body
update_in_time a b c ts e f true one fit =
    let text : length (update.spells (a, (b, (c, (ts, (e, f)))))) ≤ 147 = update_short.short (a, (b, (c, (ts, (e, f))))) (rw one at fit) in
    rw one (at_most_limit 147 65536 text (omega arith))
update_in_time a b c ts e f false one fit =
    let text : length (listed_update.spells (a, (b, (c, (ts, (e, f)))))) ≤ 49295 = listed_update_short.short (a, (b, (c, (ts, (e, f))))) (rw one at fit) in
    rw one (at_most_limit 49295 65536 text (omega arith))

-- a body of fitting fields is no longer than its kind allows, unless it is that of a report
pub short_unless_report : (f : Frame) → ((n : ℕ) (r : TheReport) → f ≡ frame.Report n r → ⊥) → fields_fit f ≡ true → length (body f) ≤ limit_of (tag_of f)
unfolding body node prefix positive epoch epoch_or_none preference any32 end trigger ballot
short_unless_report (frame.Originate a) other fit = omega arith
short_unless_report (frame.Withdraw a) other fit = omega arith
short_unless_report (frame.Prefer a b) other fit = omega arith
short_unless_report (frame.Notice a) other fit = omega arith
short_unless_report (frame.OpenSession a b) other fit = omega arith
short_unless_report frame.Snap other fit = omega arith
short_unless_report (frame.Propose a) other fit = omega arith
short_unless_report (frame.Update a b c d e f) other fit = update_in_time a b c d e f (is_one d) refl fit
short_unless_report (frame.Marker a b c) other fit = omega arith
short_unless_report (frame.Hello a b c) other fit = omega arith
short_unless_report (frame.Report a b) other fit = absurd (other a b refl)
short_unless_report (frame.Prepare a b c) other fit = omega arith
short_unless_report (frame.Promise a b c d) other fit = at_most_limit _ _ (promise_short.short (a, (b, (c, d))) fit) (omega arith)
short_unless_report (frame.Accept a b c d) other fit = at_most_limit _ _ (accept_short.short (a, (b, (c, d))) fit) (omega arith)
short_unless_report (frame.Accepted a b c) other fit = omega arith
short_unless_report (frame.Decision a b c) other fit = at_most_limit _ _ (decision_short.short (a, (b, c)) fit) (omega arith)
short_unless_report (frame.Hop a b) other fit = at_most_limit _ _ (hop_short.short (a, b) fit) (omega arith)
short_unless_report (frame.Forward a b) other fit = at_most_limit _ _ (forward_short.short (a, b) fit) (omega arith)
short_unless_report (frame.Ended a b) other fit = omega arith
short_unless_report (frame.Published a b) other fit = at_most_limit _ _ (published_short.short (a, b) fit) (omega arith)
short_unless_report (frame.Inject a b) other fit = omega arith
short_unless_report (frame.Flush a) other fit = omega arith

-- ---- reports

-- how many bytes an item of a row with one trigger takes, and such a row
pub item_wide : (x : Sent) → length (items.spells x) ≡ 10
unfolding sent node positive
item_wide x = refl

pub row_wide : (r : Row) → length ((row 0).spells r) ≡ length (flat_map items.spells r.sent) + 10
unfolding row trigger scope node positive more_items
row_wide r = omega arith

-- how many bytes an item, a row and a pending row take with any number of triggers
pub listed_item_wide : (x : Sent) → length ((item 0).spells x) ≡ length (flat_map trigger.spells x.triggers) + 12
unfolding item triggers more_triggers node positive
listed_item_wide x = omega arith

pub listed_row_wide : (r : Row) → length ((listed_row no_rows).spells r) ≡ (length (flat_map trigger.spells r.triggers) + length (flat_map (item 0).spells r.sent)) + 6
unfolding listed_row scope_beside triggers more_triggers more_items
listed_row_wide r =
    let lists = length-append (flat_map trigger.spells r.triggers) (to_be_bytes w16 (scope_number r.scope) ++ (to_be_bytes w16 (length r.sent) ++ flat_map (item 0).spells r.sent)) in
    omega arith

pub pending_wide : (r : Pending) → length ((pending_row (nothing_pending 0)).spells r) ≡ length (flat_map trigger.spells r.triggers) + 10
unfolding pending_row triggers more_triggers node prefix positive
pending_wide r = omega arith

session_wide : (r : SessionRow) → length ((session_row (0, 0)).spells r) ≡ 10 + length (spelled_behind trigger.spells r.down)
unfolding session_row node positive any32
session_wide r = omega arith

-- how many bytes a session row takes without a Down, and with one
pub session_open : (r : SessionRow) → r.down ≡ None → length ((session_row (0, 0)).spells r) ≡ 11
session_open r e = session_wide r ∙ ap (λ (o : Option Trigger). 10 + length (spelled_behind trigger.spells o)) e

pub session_down : (r : SessionRow) (t : Trigger) → r.down ≡ Some t → length ((session_row (0, 0)).spells r) ≡ 17
unfolding trigger node positive
session_down r t e = session_wide r ∙ ap (λ (o : Option Trigger). 10 + length (spelled_behind trigger.spells o)) e

-- one more element, where the sum stops at the highest number
pub grow : {A : Type 0} (spells : A → List ℕ) (list : List A) (i n total : ℕ) (x : A) → i < length list → x ≡ get_or list i x → min n 18446744073709551615 ≡ min (length (spells x)) 18446744073709551615
    → total ≡ min (length (flat_map spells (take i list))) 18446744073709551615 → min (total + min n 18446744073709551615) 18446744073709551615 ≡ min (length (flat_map spells (take (i + 1) list))) 18446744073709551615
grow {A} spells list i n total x lt is one so_far =
    let more : take (i + 1) list ≡ take i list ++ x ∷ [] = take_more list i x lt ∙ ap (λ (y : A). take i list ++ y ∷ []) (sym is) in
    let text : flat_map spells (take (i + 1) list) ≡ flat_map spells (take i list) ++ spells x = ap (flat_map spells) more ∙ sym (flat_map_more spells [] (take i list) x) in
    let long : length (flat_map spells (take (i + 1) list)) ≡ length (flat_map spells (take i list)) + length (spells x) = ap length text ∙ length-append (flat_map spells (take i list)) (spells x) in
    omega arith

-- the whole length, where nothing is left
pub measured : {A : Type 0} (spells : A → List ℕ) (list : List A) (n total : ℕ) → length list ≤ n → total ≤ 18446744073709551615
    → min (total + length (flat_map spells (drop n list))) 18446744073709551615 ≡ min (length (flat_map spells list)) 18446744073709551615 → total ≡ min (length (flat_map spells list)) 18446744073709551615
measured spells list n total past small so_far =
    let none : length (flat_map spells (drop n list)) ≡ 0 = ap (λ ys. length (flat_map spells ys)) (drop_all n list past) in
    omega (arith, none, so_far, small)

-- how many bytes a report takes, in each version
pub plain_wide : (r : TheReport) → 2 + length (report.spells r) ≡ 12 + (length (flat_map (row 0).spells r.rows) + length (flat_map (session_row (0, 0)).spells r.sessions))
unfolding report node epoch many
plain_wide r =
    let lists = length-append (flat_map (row 0).spells r.rows) (to_be_bytes w16 (length r.sessions) ++ flat_map (session_row (0, 0)).spells r.sessions) in
    omega arith

pub listed_wide : (r : TheReport) → 2 + length (listed_report.spells r)
    ≡ 14 + ((length (flat_map (listed_row no_rows).spells r.rows) + length (flat_map (session_row (0, 0)).spells r.sessions)) + length (flat_map (pending_row (nothing_pending 0)).spells r.pending))
unfolding listed_report node epoch many
listed_wide r =
    let pending = to_be_bytes w16 (length r.pending) ++ flat_map (pending_row (nothing_pending 0)).spells r.pending in
    let sessions = (to_be_bytes w16 (length r.sessions) ++ flat_map (session_row (0, 0)).spells r.sessions) ++ pending in
    let first = length-append (flat_map (listed_row no_rows).spells r.rows) sessions in
    let second = length-append (to_be_bytes w16 (length r.sessions) ++ flat_map (session_row (0, 0)).spells r.sessions) pending in
    omega arith

-- the tests of a report are those of its body
pub plain_test : (r : TheReport) (rows sessions : ℕ) → is_plain r ≡ true → rows ≡ min (length (flat_map (row 0).spells r.rows)) 18446744073709551615 → sessions ≡ min (length (flat_map (session_row (0, 0)).spells r.sessions)) 18446744073709551615
    → nat_le (min (rows + sessions) 18446744073709551615) 1048564 ≡ nat_le (2 + length (spelled_report r)) 1048576
plain_test r rows sessions plain first second =
    let wide = plain_wide r in
    rw plain (elim (cases_lt 1048576 (2 + length (report.spells r))) [
      | inl long ↦ lt-leb _ _ (omega arith) ∙ sym (lt-leb _ _ long)
      | inr short ↦ le-leb _ _ (omega arith) ∙ sym (le-leb _ _ short)
    ])

pub listed_test : (r : TheReport) (rows sessions pending : ℕ) → is_plain r ≡ false → rows ≡ min (length (flat_map (listed_row no_rows).spells r.rows)) 18446744073709551615
    → sessions ≡ min (length (flat_map (session_row (0, 0)).spells r.sessions)) 18446744073709551615 → pending ≡ min (length (flat_map (pending_row (nothing_pending 0)).spells r.pending)) 18446744073709551615
    → nat_le (min (min (rows + sessions) 18446744073709551615 + pending) 18446744073709551615) 1048562 ≡ nat_le (2 + length (spelled_report r)) 1048576
listed_test r rows sessions pending plain first second third =
    let wide = listed_wide r in
    rw plain (elim (cases_lt 1048576 (2 + length (listed_report.spells r))) [
      | inl long ↦ lt-leb _ _ (omega arith) ∙ sym (lt-leb _ _ long)
      | inr short ↦ le-leb _ _ (omega arith) ∙ sym (le-leb _ _ short)
    ])

-- the body of a report, and how long it may be
pub report_body : (n : ℕ) (r : TheReport) → length (body (frame.Report n r)) ≡ 2 + length (spelled_report r)
unfolding body node
report_body n r = omega arith

pub report_limit : (n : ℕ) (r : TheReport) → limit_of (tag_of (frame.Report n r)) ≡ 1048576
report_limit n r = go (is_plain r)
  where
    go : (b : Bool) → limit_of (cond b Report ListedReport) ≡ 1048576
    go true = refl
    go false = refl
