-- Each format reads exactly what it spells.
use Rattle.std.proofs.Common.{◌≡◌, ℕ, zero, suc, ◌^◌, ◌+◌, ◌<◌, ◌≤◌, Bool, true, false, ◌&&◌, ◌||◌, not, List, [], ◌∷◌, Option, Some, None, length, refl, sym, ap, arith, inl, inr}
use Rattle.std.specs.Prelude.{◌==◌, nat_lt, nat_le, if◌then◌else◌}
use Rattle.std.specs.Int.{w8, w16, w32, w64}
use Rattle.std.proofs.lemmas.Bool.{leb-true, ne_eqb, or_cases, eqb-true, and_parts}
use Rattle.topology.specs.Lists.{has}
use Rattle.topology.specs.Triggers.{earlier}
use Rattle.topology.specs.declared.names.Trigger.{Trigger}
use Rattle.topology.specs.declared.items.Sent.{Sent}
use Rattle.topology.specs.declared.items.Pending.{Pending}
use Rattle.topology.specs.declared.names.Scope.{Scope}
use Rattle.topology.specs.declared.names.Scope.TheVariants.{One, All, Nothing}
use Rattle.topology.specs.declared.limits.TheConstants.{MOST_ENTRIES, MOST_NODES, MOST_PREFIXES, MOST_SESSIONS, MOST_TRAIL, MOST_TRIGGERS, MOST_UPDATES}
use Rattle.epoch_packet.specs.declared.walks.Mode.{Mode}
use Rattle.epoch_packet.specs.declared.walks.Mode.TheVariants.{Stable, Transient}
use Rattle.incomplete_closure.specs.declared.cut_rows.Row.{Row}
use Rattle.incomplete_closure.specs.declared.session_rows.SessionRow.{SessionRow}
use Rattle.incomplete_closure.specs.declared.reports.Report.{Report as TheReport}
use Rattle.epoch_packet.specs.declared.walks.End.{End}
use Rattle.epoch_packet.specs.declared.walks.End.TheVariants.{Delivered, Expired, Stuck}
use Rattle.incomplete_closure.proofs.Listing.{same_is, is_same}
use Rattle.wire_frames.specs.Formats.{tested, number, ordered, pair, led, optional, listed, IsFormat}
use Rattle.wire_frames.specs.Fields.{scope_number, is_scope, path_of, nodes_of, is_path, flag_meaning, scope_meaning, mode_meaning, end_meaning, first_of, is_one, is_alone, one_meaning, one_trigger, trigger_meaning, ballot_meaning, sent_meaning, path_meaning, value_meaning, row_meaning, session_row_meaning, report_meaning, packet_meaning, node, prefix, positive, epoch, epoch_or_none, preference, any16, any32, any64, few, many, flag, scope, mode, end, trigger, ballot, sent, in_any_order, rising, different, nodes, links, path, paths_in_order, paths, no_trigger, rising_triggers, value, named, items, more_items, row, rows, session_key, above, session_row, session_rows, report, carried, packet}
use Rattle.wire_frames.proofs.Formats.{IsSeries, wide8, wide16, wide32, wide64, tested_law, number_law, ordered_law, pair_law, led_law, meant_law, optional_law, listed_law}

-- ---- numbers

pub node_law : IsFormat node
unfolding node
node_law = number_law w16 (2 ^ 16) 1 65535 wide16 (omega arith)

pub prefix_law : IsFormat prefix
unfolding prefix
prefix_law = number_law w16 (2 ^ 16) 0 255 wide16 (omega arith)

pub positive_law : IsFormat positive
unfolding positive
positive_law = number_law w32 (2 ^ 32) 1 4294967295 wide32 (omega arith)

pub epoch_law : IsFormat epoch
unfolding epoch
epoch_law = number_law w32 (2 ^ 32) 1 32 wide32 (omega arith)

pub epoch_or_none_law : IsFormat epoch_or_none
unfolding epoch_or_none
epoch_or_none_law = number_law w32 (2 ^ 32) 0 32 wide32 (omega arith)

pub preference_law : IsFormat preference
unfolding preference
preference_law = number_law w32 (2 ^ 32) 0 1000000 wide32 (omega arith)

pub any16_law : IsFormat any16
unfolding any16
any16_law = number_law w16 (2 ^ 16) 0 65535 wide16 (omega arith)

pub any32_law : IsFormat any32
unfolding any32
any32_law = number_law w32 (2 ^ 32) 0 4294967295 wide32 (omega arith)

pub any64_law : IsFormat any64
unfolding any64
any64_law = number_law w64 (2 ^ 64) 0 18446744073709551615 wide64 (omega arith)

pub few_law : (most : ℕ) → most < 2 ^ 8 → IsFormat (few most)
unfolding few
few_law most small = number_law w8 (2 ^ 8) 0 most wide8 small

pub many_law : (most : ℕ) → most < 2 ^ 16 → IsFormat (many most)
unfolding many
many_law most small = number_law w16 (2 ^ 16) 0 most wide16 small

-- ---- choices

at_most : (low high n : ℕ) → (nat_le low n && nat_le n high) ≡ true → n ≤ high
at_most low high n h = leb-true n high (and_parts _ _ h).1

at_least : (low high n : ℕ) → (nat_le low n && nat_le n high) ≡ true → low ≤ n
at_least low high n h = leb-true low n (and_parts _ _ h).0

bit_law : IsFormat (number w8 0 1)
bit_law = number_law w8 (2 ^ 8) 0 1 wide8 (omega arith)

flag_there : (n : ℕ) → n ≤ 1 → flag_meaning.parts (flag_meaning.make n) ≡ n
flag_there zero h = refl
flag_there (suc zero) h = refl
flag_there (suc (suc n)) h = absurd (omega arith)

flag_back : (b : Bool) → flag_meaning.make (flag_meaning.parts b) ≡ b
flag_back true = refl
flag_back false = refl

pub flag_law : IsFormat flag
unfolding flag
flag_law = meant_law (number w8 0 1) flag_meaning bit_law (record { back = λ b h. flag_back b; there = λ n h. flag_there n (at_most 0 1 n h); good = λ n h. refl })

mode_there : (n : ℕ) → n ≤ 1 → mode_meaning.parts (mode_meaning.make n) ≡ n
mode_there zero h = refl
mode_there (suc zero) h = refl
mode_there (suc (suc n)) h = absurd (omega arith)

mode_back : (m : Mode) → mode_meaning.make (mode_meaning.parts m) ≡ m
mode_back Stable = refl
mode_back Transient = refl

pub mode_law : IsFormat mode
unfolding mode
mode_law = meant_law (number w8 0 1) mode_meaning bit_law (record { back = λ m h. mode_back m; there = λ n h. mode_there n (at_most 0 1 n h); good = λ n h. refl })

end_there : (n : ℕ) → 1 ≤ n → n ≤ 3 → end_meaning.parts (end_meaning.make n) ≡ n
end_there zero low h = absurd (omega arith)
end_there (suc zero) low h = refl
end_there (suc (suc zero)) low h = refl
end_there (suc (suc (suc zero))) low h = refl
end_there (suc (suc (suc (suc n)))) low h = absurd (omega arith)

end_back : (e : End) → end_meaning.make (end_meaning.parts e) ≡ e
end_back Delivered = refl
end_back Expired = refl
end_back Stuck = refl

pub end_law : IsFormat end
unfolding end
end_law = meant_law (number w8 1 3) end_meaning (number_law w8 (2 ^ 8) 1 3 wide8 (omega arith))
    (record { back = λ e h. end_back e; there = λ n h. end_there n (at_least 1 3 n h) (at_most 1 3 n h); good = λ n h. refl })

scope_there : (n : ℕ) → scope_meaning.parts (scope_meaning.make n) ≡ n
scope_there n = go (n == 65535) refl
  where
    go : (b : Bool) → (n == 65535) ≡ b → scope_number (if b then All else One n) ≡ n
    go true e = sym (eqb-true n 65535 e)
    go false e = refl

scope_good : (n : ℕ) → (nat_le n 255 || n == 65535) ≡ true → is_scope (scope_meaning.make n) ≡ true
scope_good n h = go (n == 65535) refl
  where
    small : (b : Bool) → (nat_le n 255 || b) ≡ true → b ≡ false → nat_le n 255 ≡ true
    small true met e = absurd cc
    small false met e = elim (or_cases (nat_le n 255) false met) [ inl yes_small ↦ yes_small | inr other ↦ absurd cc ]

    go : (b : Bool) → (n == 65535) ≡ b → is_scope (if b then All else One n) ≡ true
    go true e = refl
    go false e = small (n == 65535) h e

scope_back : (s : Scope) → is_scope s ≡ true → scope_meaning.make (scope_number s) ≡ s
scope_back (One p) h = let below : p ≤ 255 = leb-true p 255 h in rw (ne_eqb p 65535 (λ e. omega arith)) refl
scope_back All h = refl
scope_back Nothing h = absurd cc

scope_small : (n : ℕ) → (nat_le n 255 || n == 65535) ≡ true → n < 2 ^ 16
scope_small n h = elim (or_cases (nat_le n 255) (n == 65535) h) [
  | inl low ↦ let below : n ≤ 255 = leb-true n 255 low in omega arith
  | inr all ↦ let same : n ≡ 65535 = eqb-true n 65535 all in omega arith
]

pub scope_law : IsFormat scope
unfolding scope
scope_law = meant_law (tested w16 (λ n. nat_le n 255 || n == 65535)) scope_meaning (tested_law w16 (2 ^ 16) (λ n. nat_le n 255 || n == 65535) wide16 scope_small)
    (record { back = scope_back; there = λ n h. scope_there n; good = scope_good })

-- ---- names made of several numbers

pub trigger_law : IsFormat trigger
unfolding trigger
trigger_law = meant_law (pair node positive) trigger_meaning (pair_law node positive node_law positive_law) (record { back = λ t h. refl; there = λ p h. refl; good = λ p h. refl })

pub ballot_law : IsFormat ballot
unfolding ballot
ballot_law = meant_law (pair positive node) ballot_meaning (pair_law positive node positive_law node_law) (record { back = λ b h. refl; there = λ p h. refl; good = λ p h. refl })

one_back : (ts : List Trigger) → is_one ts ≡ true → first_of ts ∷ [] ≡ ts
one_back [] h = absurd cc
one_back (t ∷ []) h = refl
one_back (t ∷ s ∷ ts) h = absurd cc

pub one_trigger_law : IsFormat one_trigger
unfolding one_trigger
one_trigger_law = meant_law trigger one_meaning trigger_law (record { back = one_back; there = λ t h. refl; good = λ t h. refl })

alone_is : (t : Trigger) (ts : List Trigger) → is_alone t ts ≡ true → t ∷ [] ≡ ts
alone_is t [] h = absurd cc
alone_is t (s ∷ []) h = ap (λ (u : Trigger). u ∷ []) (sym (same_is s t h))
alone_is t (s ∷ u ∷ ts) h = absurd cc

-- the item with another list
abbrev item_with : Sent → List Trigger → Sent
item_with item ts = record { to = item.to; session = item.session; seq = item.seq; triggers = ts }

pub sent_law : (t : Trigger) → IsFormat (sent t)
unfolding sent
sent_law t = meant_law (pair node (pair positive positive)) (sent_meaning t) (pair_law node (pair positive positive) node_law (pair_law positive positive positive_law positive_law))
    (record { back = λ item h. ap (item_with item) (alone_is t item.triggers h); there = λ p h. refl; good = λ p h. is_same t })

-- ---- lists of nodes

pub any_order_laws : {S : Type 0} → IsSeries (in_any_order {S = S})
any_order_laws = record { law = λ s. node_law; same = λ s n. refl }

pub rising_laws : IsSeries rising
rising_laws = record { law = λ last. ordered_law node (nat_lt last) node_law; same = λ s n. refl }

pub different_laws : IsSeries different
different_laws = record { law = λ seen. ordered_law node (λ n. not (has seen n)) node_law; same = λ s n. refl }

pub nodes_law : IsFormat nodes
unfolding nodes
nodes_law = listed_law (few MOST_TRAIL) (in_any_order {S = ℕ}) 0 (few_law 64 (omega arith)) any_order_laws

pub links_law : IsFormat links
unfolding links
links_law = listed_law (few 63) rising 0 (few_law 63 (omega arith)) rising_laws

path_back : (p : Option (List ℕ)) → is_path p ≡ true → path_of (nodes_of p) ≡ p
path_back None h = refl
path_back (Some []) h = absurd cc
path_back (Some (n ∷ ns)) h = refl

path_there : (ns : List ℕ) → nodes_of (path_of ns) ≡ ns
path_there [] = refl
path_there (n ∷ ns) = refl

path_good : (ns : List ℕ) → is_path (path_of ns) ≡ true
path_good [] = refl
path_good (n ∷ ns) = refl

pub path_law : IsFormat path
unfolding path
path_law = meant_law (listed (few MOST_NODES) different []) path_meaning (listed_law (few MOST_NODES) different [] (few_law 64 (omega arith)) different_laws)
    (record { back = path_back; there = λ ns h. path_there ns; good = λ ns h. path_good ns })

pub paths_laws : {S : Type 0} → IsSeries (paths_in_order {S = S})
paths_laws = record { law = λ s. path_law; same = λ s p. refl }

pub paths_law : IsFormat paths
unfolding paths
paths_law = listed_law (many MOST_PREFIXES) (paths_in_order {S = ℕ}) 0 (many_law 256 (omega arith)) paths_laws

-- ---- values

pub rising_triggers_laws : IsSeries rising_triggers
rising_triggers_laws = record { law = λ last. ordered_law trigger (earlier last) trigger_law; same = λ s t. refl }

pub value_law : IsFormat value
unfolding value
value_law = meant_law (pair (listed (few MOST_NODES) rising 0) (listed (many MOST_TRIGGERS) rising_triggers no_trigger)) value_meaning
    (pair_law (listed (few MOST_NODES) rising 0) (listed (many MOST_TRIGGERS) rising_triggers no_trigger)
    (listed_law (few MOST_NODES) rising 0 (few_law 64 (omega arith)) rising_laws)
    (listed_law (many MOST_TRIGGERS) rising_triggers no_trigger (many_law 8192 (omega arith)) rising_triggers_laws))
    (record { back = λ b h. refl; there = λ p h. refl; good = λ p h. refl })

pub named_law : IsFormat named
unfolding named
named_law = optional_law (pair ballot value) (pair_law ballot value ballot_law value_law)

-- ---- reports

sent_spells : (t : Trigger) (item : Sent) → (sent t).spells item ≡ (sent no_trigger).spells item
unfolding sent
sent_spells t item = refl

pub items_laws : IsSeries items
items_laws = record { law = sent_law; same = sent_spells }

pub more_items_law : (before : ℕ) → IsFormat (more_items before)
unfolding more_items
more_items_law before = tested_law w16 (2 ^ 16) (λ n. nat_le (before + n) MOST_UPDATES) wide16 (λ n h. let below : before + n ≤ 16384 = leb-true (before + n) 16384 h in omega arith)

-- the row with another list
abbrev row_with : Row → List Trigger → Row
row_with r ts = record { triggers = ts; scope = r.scope; sent = r.sent }

pub row_law : (before : ℕ) → IsFormat (row before)
unfolding row
row_law before = meant_law (led trigger (λ t. pair scope (listed (more_items before) items t))) row_meaning
    (led_law trigger (λ t. pair scope (listed (more_items before) items t)) trigger_law
    (λ t. pair_law scope (listed (more_items before) items t) scope_law (listed_law (more_items before) items t (more_items_law before) items_laws)))
    (record { back = λ r h. ap (row_with r) (one_back r.triggers h); there = λ p h. refl; good = λ p h. refl })

pub session_row_law : (last : ℕ × ℕ) → IsFormat (session_row last)
unfolding session_row
session_row_law last = meant_law (pair (ordered session_key (above last)) (pair any32 (optional trigger))) session_row_meaning
    (pair_law (ordered session_key (above last)) (pair any32 (optional trigger))
    (ordered_law session_key (above last) (pair_law node positive node_law positive_law))
    (pair_law any32 (optional trigger) any32_law (optional_law trigger trigger_law)))
    (record { back = λ b h. refl; there = λ p h. refl; good = λ p h. refl })

row_spells : (before : ℕ) (r : Row) → (row before).spells r ≡ (row 0).spells r
unfolding row more_items
row_spells before r = refl

session_row_spells : (last : ℕ × ℕ) (r : SessionRow) → (session_row last).spells r ≡ (session_row (0, 0)).spells r
unfolding session_row
session_row_spells last r = refl

pub session_rows_laws : IsSeries session_rows
session_rows_laws = record { law = session_row_law; same = session_row_spells }

pub rows_laws : IsSeries rows
rows_laws = record { law = row_law; same = row_spells }

none_back : (ps : List Pending) → length ps == 0 ≡ true → [] ≡ ps
none_back [] h = refl
none_back (p ∷ ps) h = let none : length (p ∷ ps) ≡ 0 = eqb-true (length (p ∷ ps)) 0 h in absurd (omega arith)

-- the report with other pending rows
abbrev report_with : TheReport → List Pending → TheReport
report_with r ps = record { node = r.node; epoch = r.epoch; rows = r.rows; sessions = r.sessions; pending = ps }

pub report_law : IsFormat report
unfolding report
report_law =
    let lists_law = pair_law (listed (many MOST_ENTRIES) rows 0) (listed (many MOST_SESSIONS) session_rows (0, 0))
    (listed_law (many MOST_ENTRIES) rows 0 (many_law 2048 (omega arith)) rows_laws)
    (listed_law (many MOST_SESSIONS) session_rows (0, 0) (many_law 65535 (omega arith)) session_rows_laws) in
    meant_law (pair node (pair epoch (pair (listed (many MOST_ENTRIES) rows 0) (listed (many MOST_SESSIONS) session_rows (0, 0))))) report_meaning
    (pair_law node (pair epoch (pair (listed (many MOST_ENTRIES) rows 0) (listed (many MOST_SESSIONS) session_rows (0, 0)))) node_law
    (pair_law epoch (pair (listed (many MOST_ENTRIES) rows 0) (listed (many MOST_SESSIONS) session_rows (0, 0))) epoch_law lists_law))
    (record { back = λ r h. ap (report_with r) (none_back r.pending h); there = λ p h. refl; good = λ p h. refl })

-- ---- packets

pub packet_law : IsFormat packet
unfolding packet
packet_law =
    let tail_law = pair_law any16 (pair flag (pair any64 (pair nodes nodes))) any16_law
    (pair_law flag (pair any64 (pair nodes nodes)) flag_law (pair_law any64 (pair nodes nodes) any64_law (pair_law nodes nodes nodes_law nodes_law))) in
    meant_law (pair positive (pair prefix (pair epoch_or_none (pair mode carried)))) packet_meaning
    (pair_law positive (pair prefix (pair epoch_or_none (pair mode carried))) positive_law
    (pair_law prefix (pair epoch_or_none (pair mode carried)) prefix_law
    (pair_law epoch_or_none (pair mode carried) epoch_or_none_law (pair_law mode carried mode_law tail_law))))
    (record { back = λ b h. refl; there = λ p h. refl; good = λ p h. refl })
