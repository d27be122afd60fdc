use Rattle.std.proofs.Common.{List, ℕ, ◌++◌, refl, sym, subst, ◌∙◌, ap, ◌≡◌}
use Rattle.std.specs.Prelude.{option_map}
use Rattle.std.specs.List.{flat_map}
use Rattle.std.specs.String.{string_bytes}
use Rattle.std.proofs.lemmas.Option.{slice_get_read}
use Rattle.topology.specs.Lists.{ascending}
use Rattle.topology.specs.Net.{Net}
use Rattle.chronicle.specs.Facts.{Chronicle}
use Rattle.chronicle.specs.Publications.{published}
use Rattle.run_record.specs.Publications.{PublicationView}
use Rattle.route_replay.specs.Gathering.{Breaks, Gathers, page_view}
use Rattle.route_replay.specs.TablesText.{last_of, published_for, table_in, table_text, tables_text}
use Rattle.route_replay.specs.Past.{past_of}
use Rattle.route_replay.proofs.Gathered.{handed_on, gathers_all, gathers_nothing, gathers_step, breaks_step}
use Rattle.route_replay.proofs.Tables.{published_last}
use Rattle.route_replay.proofs.tables_text.all_tables.Goals as goal

pub loop-node-init : goal.loop-node-init
loop-node-init g c = record { gathers = gathers_nothing _; same_sink = refl }

-- what a node published last for the epoch is its table
same_text : (net known : Net) (past : Chronicle) (e named n : ℕ) (list : List PublicationView) → known ≡ net → named ≡ e → list ≡ published_for e past
    → table_text known n named (option_map table_in (last_of n list)) ≡ table_text net n e (published n e past)
same_text net known past e named n list same same_epoch is =
    ap (λ (k : Net). table_text k n named (option_map table_in (last_of n list))) same
    ∙ (ap (λ k. table_text net n k (option_map table_in (last_of n list))) same_epoch
    ∙ ap (table_text net n e) (ap (λ (l : List PublicationView). option_map table_in (last_of n l)) is ∙ sym (published_last n e past)))

-- one more node is shown
pub loop-node-preserved : goal.loop-node-preserved
loop-node-preserved g c =
    let world = c.args.world.now in
    let past = past_of (g.P.Policy.rules world.policy) world in
    let e = c.args.epoch in
    let shown : ℕ → List ℕ = λ u. table_text world.net u e (published u e past) in
    let nodes = c.nodes-node-items.result.now in
    let i = c.loop-node.node-index in
    let n = c.node-item.result in
    let names = c.in_ok-names.names in
    let same = same_text world.net names.topology.now past e names.epoch n c.args.publications.now (c.in_ok-names.ensures.topology ∙ c.topology-topology.ensures) c.in_ok-names.ensures.epoch c.requires in
    record {
      gathers = gathers_step shown nodes i _ _ _ n c.loop-node-test.true
          (slice_get_read nodes _ i n refl c.loop-node-test.true c.node-item.is) c.loop-node.invariant.gathers (subst (Gathers _ _) same c.in_ok-one_table.ensures.gathers);
      same_sink = c.one_table.ensures.same_sink ∙ c.loop-node.invariant.same_sink;
    }

pub returns-in_err-one_table-clause-breaks : goal.returns-in_err-one_table-clause-breaks
unfolding tables_text
returns-in_err-one_table-clause-breaks g c =
    let world = c.args.world.now in
    let past = past_of (g.P.Policy.rules world.policy) world in
    let e = c.args.epoch in
    let shown : ℕ → List ℕ = λ u. table_text world.net u e (published u e past) in
    let nodes = c.nodes-node-items.result.now in
    let i = c.loop-node.node-index in
    let n = c.node-item.result in
    let names = c.in_ok-names.names in
    let same = same_text world.net names.topology.now past e names.epoch n c.args.publications.now (c.in_ok-names.ensures.topology ∙ c.topology-topology.ensures) c.in_ok-names.ensures.epoch c.requires in
    let all : nodes ≡ ascending world.net.nodes = c.nodes-node-items.ensures.nodes ∙ ap (λ (net : Net). ascending net.nodes) c.topology-topology.ensures in
    handed_on c.from_residual-in_err-one_table.result _ _ c.from_residual-in_err-one_table.ensures (λ why is.
    subst (λ ns. Breaks (g.O.Sink.seen c.args.page.now.sink.now) (g.O.Sink.seen c.one_table.new.page.sink.now) (string_bytes c.args.page.now.text ++ flat_map shown ns) why) all
    (subst (Breaks _ _ (string_bytes c.args.page.now.text ++ flat_map shown nodes)) (sym is)
    (breaks_step shown nodes i _ _ _ n c.in_err-one_table.field-0.0 c.loop-node-test.true (slice_get_read nodes _ i n refl c.loop-node-test.true c.node-item.is)
    c.loop-node.invariant.gathers (subst (λ words. Breaks (g.O.Sink.seen c.loop-node.page.sink.now) (g.O.Sink.seen c.one_table.new.page.sink.now) (string_bytes c.loop-node.page.text ++ words) c.in_err-one_table.field-0.0) same c.in_err-one_table.ensures.breaks))))

-- all nodes are shown
pub returns-clause-gathers : goal.returns-clause-gathers
unfolding tables_text
returns-clause-gathers g c =
    let world = c.args.world.now in
    let past = past_of (g.P.Policy.rules world.policy) world in
    let e = c.args.epoch in
    let shown : ℕ → List ℕ = λ u. table_text world.net u e (published u e past) in
    let nodes = c.nodes-node-items.result.now in
    let all : nodes ≡ ascending world.net.nodes = c.nodes-node-items.ensures.nodes ∙ ap (λ (net : Net). ascending net.nodes) c.topology-topology.ensures in
    subst (λ ns. Gathers (page_view g.O.Sink.seen c.args.page.now) (page_view g.O.Sink.seen c.loop-node.page) (flat_map shown ns)) all
    (gathers_all shown nodes c.loop-node.node-index _ _ c.loop-node-test.false c.loop-node.invariant.gathers)
