use Rattle.std.proofs.Common.{ℕ, ◌+◌, ◌-◌, false, None, List, [], ◌≤◌, ◌≡◌, ◌∙◌, sym, refl, ap, subst, arith, length, length-set}
use Rattle.std.proofs.lemmas.Result.{err_from_is_err_and}
use Rattle.chronicle.specs.Facts.{Chronicle}
use Rattle.chronicle.specs.Logs.{log_of}
use Rattle.chronicle.specs.Run.{carried_by, chronicle_of}
use Rattle.chronicle.specs.Steps.{Step}
use Rattle.node_core.specs.Inputs.{input_of}
use Rattle.node_core.specs.NodeLimits.{node_above, StopsAt}
use Rattle.node_core.specs.Outputs.{Answers, told_by}
use Rattle.node_core.specs.declared.node.Node.{Node}
use Rattle.node_core.specs.declared.outputs.OutputList.{OutputList}
use Rattle.node_core.specs.declared.outputs.Outputs.TheVariants.{Did}
use Rattle.path_vector.specs.Rules.{Rules}
use Rattle.topology.specs.Net.{Net}
use Rattle.topology.specs.declared.limits.TheConstants.{MOST_TRIGGERS}
use Rattle.world_core.specs.Happening.{AreSending, MayHand}
use Rattle.world_core.specs.Limits.{makes_local, above_by, triggers_of}
use Rattle.world_core.specs.Matching.{AreNodes, Counts}
use Rattle.world_core.proofs.Counts.{marks_at}
use Rattle.world_core.proofs.Near.{is_ranked}
use Rattle.world_core.proofs.Nodes.{inside_places, all_within, node_at}
use Rattle.world_core.proofs.Stopping.{handed_on, stops_with, stops_at_triggers, stops_at_control, stops_at_packets, stops_at_marks}
use Rattle.world_core.proofs.Answered.{sending_begun, sent_stands, given_sent, given_tells, idle_links, idle_mails, idle_published, idle_walks, idle_counted, idle_tells, logs, others_same, stay, what, new_stands, new_answers, nodes_given, total_given}
use Rattle.world_core.proofs.Returning.{comes_back}
use Rattle.world_core.proofs.Steady.{given_flags}
use Rattle.world_core.proofs.Telling.{begun, give_adds}
use Rattle.world_core.proofs.network.Network.give.Given.{Over}
use Rattle.world_core.proofs.network.Network.give.Goals.{After-next_trigger-after, In_ok-effects}
use Rattle.world_core.proofs.network.Network.give.Goals as goal

pub unwrap-rank-requires : goal.unwrap-rank-requires
unwrap-rank-requires g c =
    let net = c.args.self.now.topology.value in
    let none = rw c.deref.ensures at c.rank_of.ensures.none in
    is_ranked net.nodes c.args.node c.rank_of.result none.0 c.requires.node

pub index-requires : goal.index-requires
index-requires g c =
    let at = rw (c.unwrap-rank.ensures, c.deref.ensures) at c.rank_of.ensures.some in
    let inside = inside_places c.args.self.now.topology.value (length c.args.self.now.nodes.items) c.unwrap-rank.result c.args.node c.requires.places at in
    let count = c.args.self.now.nodes.ok.0 in
    omega (arith, inside, count)

pub turn-requires : goal.turn-requires
turn-requires g c =
    let at = rw (c.unwrap-rank.ensures, c.deref.ensures) at c.rank_of.ensures.some in
    inside_places c.args.self.now.topology.value (length c.args.self.now.nodes.items) c.unwrap-rank.result c.args.node c.requires.places at

pub returns-in-Err-clause-stopped : goal.returns-in-Err-clause-stopped
returns-in-Err-clause-stopped g c past counts may values =
    let policy = c.args.self.now.policy in
    let rules = g.P.Policy.rules policy in
    let net = c.args.self.now.topology.value in
    let u = c.args.node in
    let i = c.args.input in
    let s = what policy g.P.Policy.rules net past u i in
    let nodes = may.are_nodes in
    let at = rw (c.unwrap-rank.ensures, c.deref.ensures) at c.rank_of.ensures.some in
    let stopped = c.in-Err.ensures.stopped in
    let old = nodes.each c.unwrap-rank.result u stopped.0 at stopped.1 in
    let stops = stopped.2 policy net u (carried_by u past) past old may.may_come in
    subst (StopsAt (above_by rules net s)) (sym c.stop_of.ensures)
    (rw c.is_local-is_local.ensures
    (stops_with rules net past u (makes_local (input_of i)) c.args.self.now.triggers s c.in-Err.stop nodes.valid c.requires.node
    (all_within policy rules net past c.args.self.now.nodes.items nodes) (others_same policy g.P.Policy.rules net past u i) may.counted.total may.counted.few
    (logs policy g.P.Policy.rules net past u i) values stops))

pub returns-in-Some-clause-stands : goal.returns-in-Some-clause-stands
returns-in-Some-clause-stands g c past counts may =
    let policy = c.args.self.now.policy in
    let net = c.args.self.now.topology.value in
    let u = c.args.node in
    let i = c.args.input in
    let s = what policy g.P.Policy.rules net past u i in
    let at = rw (c.unwrap-rank.ensures, c.deref.ensures) at c.rank_of.ensures.some in
    let turned = c.in-Ok.ensures.turned in
    let answers = subst (λ idle. Answers past s (told_by idle c.turn.new.outputs)) c.in-Some.is
    (new_answers policy g.P.Policy.rules net past u i c.args.self.now.nodes.items c.turn.new.nodes.items c.unwrap-rank.result turned.0 turned.1 (told_by c.in-Ok.idle c.turn.new.outputs) may.are_nodes at may.may_come turned.2 turned.4) in
    record {
      are_nodes = nodes_given policy g.P.Policy.rules net past u i c.args.self.now.nodes.items c.turn.new.nodes.items c.unwrap-rank.result turned.0 turned.1 (told_by c.in-Ok.idle c.turn.new.outputs) may.are_nodes at may.may_come turned.2 turned.4 (stay policy g.P.Policy.rules net past u i c.others_change_nothing_of_what_a_node_stands_for.ensures.given) turned.3;
      are_crashed = given_flags (g.P.Policy.rules policy) net past u (input_of i) c.args.self.now.crashed.items may.are_crashed;
      are_links = idle_links net past u (input_of i) s c.in-Some.reason c.args.self.now.links answers may.goes may.are_links;
      are_mails = idle_mails net past counts s c.in-Some.reason c.args.self.now.mails answers may.are_mails;
      are_published = idle_published past s c.in-Some.reason c.args.self.now.publications.items answers may.are_published;
      are_walks = idle_walks net past (input_of i) s c.in-Some.reason c.args.self.now.walks answers may.goes may.are_walks;
      counted = idle_counted (g.P.Policy.rules policy) net past s c.in-Some.reason c.args.self.now.triggers answers may.counted;
    }

pub returns-in-Some-clause-comes : goal.returns-in-Some-clause-comes
returns-in-Some-clause-comes g c wanted past counts may =
    let policy = c.args.self.now.policy in
    let net = c.args.self.now.topology.value in
    let u = c.args.node in
    let i = c.args.input in
    let at = rw (c.unwrap-rank.ensures, c.deref.ensures) at c.rank_of.ensures.some in
    let turned = c.in-Ok.ensures.turned in
    let answers = subst (λ idle. Answers past (what policy g.P.Policy.rules net past u i) (told_by idle c.turn.new.outputs)) c.in-Some.is
    (new_answers policy g.P.Policy.rules net past u i c.args.self.now.nodes.items c.turn.new.nodes.items c.unwrap-rank.result turned.0 turned.1 (told_by c.in-Ok.idle c.turn.new.outputs) may.are_nodes at may.may_come turned.2 turned.4) in
    record {
      stands = returns-in-Some-clause-stands g c past counts may;
      tells = idle_tells past (what policy g.P.Policy.rules net past u i) c.in-Some.reason answers;
    }

pub index-requires-2 : goal.index-requires-2
index-requires-2 g c =
    let at = rw (c.unwrap-rank.ensures, c.deref.ensures) at c.rank_of.ensures.some in
    let inside = inside_places c.args.self.now.topology.value (length c.args.self.now.nodes.items) c.unwrap-rank.result c.args.node c.requires.places at in
    let turned = c.in-Ok.ensures.turned in
    let same = ap length turned.3 ∙ length-set c.args.self.now.nodes.items c.unwrap-rank.result turned.1 in
    let count = c.turn.new.nodes.ok.0 in
    omega (arith, inside, same, count)

-- after the turn of a node that did something: the nodes are as the run has them, the node is within its counts, its
-- outputs are those of the step, and all triggers are counted
record IsTurned {P : Type 0} (policy : P) (rules : Rules) (net : Net) (past : Chronicle) (u : ℕ) (s : Step) (nodes : List (Node P)) (outputs : OutputList) (triggers : ℕ) : Type 0 where
  nodes_now : AreNodes policy rules net (chronicle_of past s) nodes
  within : node_above rules net u (chronicle_of past s) ≡ None
  answers : Answers past s (Did outputs)
  total : triggers ≡ triggers_of net (chronicle_of past s)

turned_now : (g : Over) (c : After-next_trigger-after g) (past : Chronicle) (counts : Counts) → MayHand (g.P.Policy.rules c.args.self.now.policy) past counts c.args.node (input_of c.args.input) c.args.self.now
    → IsTurned c.args.self.now.policy (g.P.Policy.rules c.args.self.now.policy) c.args.self.now.topology.value past c.args.node
    (what c.args.self.now.policy g.P.Policy.rules c.args.self.now.topology.value past c.args.node c.args.input)
    c.turn.new.nodes.items c.turn.new.outputs (c.args.self.now.triggers + (c.next_trigger-after.result.count - c.next_trigger-before.result.count))
turned_now g c past counts may =
    let policy = c.args.self.now.policy in
    let rules = g.P.Policy.rules policy in
    let net = c.args.self.now.topology.value in
    let u = c.args.node in
    let i = c.args.input in
    let s = what policy g.P.Policy.rules net past u i in
    let rank = c.unwrap-rank.result in
    let items = c.args.self.now.nodes.items in
    let at = rw (c.unwrap-rank.ensures, c.deref.ensures) at c.rank_of.ensures.some in
    let turned = c.in-Ok.ensures.turned in
    let now = nodes_given policy g.P.Policy.rules net past u i items c.turn.new.nodes.items rank turned.0 turned.1 (told_by c.in-Ok.idle c.turn.new.outputs) may.are_nodes at may.may_come turned.2 turned.4 (stay policy g.P.Policy.rules net past u i c.others_change_nothing_of_what_a_node_stands_for.ensures.given) turned.3 in
    let before = c.next_trigger-before.ensures policy net u (log_of u past) (c.log.ensures.log policy net u past (node_at policy rules net past items may.are_nodes rank u c.index.result.now at c.index.ensures)) in
    let after = c.next_trigger-after.ensures policy net u (log_of u (chronicle_of past s)) (c.log-2.ensures.log policy net u (chronicle_of past s) (node_at policy rules net (chronicle_of past s) c.turn.new.nodes.items now rank u c.index-2.result.now at c.index-2.ensures)) in
    record {
      nodes_now = now;
      within = (new_stands policy g.P.Policy.rules net past u i items c.turn.new.nodes.items rank turned.0 turned.1 (told_by c.in-Ok.idle c.turn.new.outputs) may.are_nodes at may.may_come turned.2 turned.4).within;
      answers = subst (λ idle. Answers past s (told_by idle c.turn.new.outputs)) c.in_default.is (new_answers policy g.P.Policy.rules net past u i items c.turn.new.nodes.items rank turned.0 turned.1 (told_by c.in-Ok.idle c.turn.new.outputs) may.are_nodes at may.may_come turned.2 turned.4);
      total = total_given net past u (makes_local (input_of i)) s c.args.self.now.triggers c.next_trigger-before.result.count c.next_trigger-after.result.count may.are_nodes.valid c.requires.node
          (others_same policy g.P.Policy.rules net past u i) (logs policy g.P.Policy.rules net past u i) may.counted.total (ap (λ t. t.count) before) (ap (λ t. t.count) after);
    }

-- and all that it handed out was handed on
sent_now : (g : Over) (c : In_ok-effects g) (past : Chronicle) (counts : Counts) → MayHand (g.P.Policy.rules c.args.self.now.policy) past counts c.args.node (input_of c.args.input) c.args.self.now
    → Answers past (what c.args.self.now.policy g.P.Policy.rules c.args.self.now.topology.value past c.args.node c.args.input) (Did c.turn.new.outputs)
    → AreSending (λ k. false) (begun c.args.node (input_of c.args.input) past) (chronicle_of past (what c.args.self.now.policy g.P.Policy.rules c.args.self.now.topology.value past c.args.node c.args.input)) counts
    c.hand_all.new.self (record { wanted = c.args.wanted; list = c.in_ok-effects.effects })
sent_now g c past counts may answers =
    let policy = c.args.self.now.policy in
    let rules = g.P.Policy.rules policy in
    let net = c.args.self.now.topology.value in
    let u = c.args.node in
    let i = c.args.input in
    let mid = record c.args.self.now { nodes = c.turn.new.nodes; outputs = c.turn.new.outputs; triggers = c.in_ok-self.field-0 } in
    let start = sending_begun past counts u (input_of i) mid c.args.wanted may.are_links may.are_mails may.are_published may.are_walks in
    let adds = give_adds rules net (carried_by u past) u past (λ w t. refl) may.are_nodes.valid c.requires.node (input_of i) may.may_come may.sender may.passing in
    given_sent net past counts u (input_of i) (what policy g.P.Policy.rules net past u i) c.turn.new.outputs c.turn.new.outputs mid c.hand_all.new.self (record { wanted = c.args.wanted; list = [] }) (record { wanted = c.args.wanted; list = c.in_ok-effects.effects }) refl adds (comes_back rules net u past (input_of i)) answers start
    (λ away first mid facts told hands sending. c.in_ok-effects.ensures.sending away first mid counts facts told hands sending)

pub returns-in_err-self-clause-stopped : goal.returns-in_err-self-clause-stopped
returns-in_err-self-clause-stopped g c =
    let out = err_from_is_err_and c.from_residual.result c.from_residual.ensures.1 in
    handed_on c.from_residual.result _ out.0 out.1
    (λ past counts may values.
    let policy = c.args.self.now.policy in
    let rules = g.P.Policy.rules policy in
    let net = c.args.self.now.topology.value in
    let u = c.args.node in
    let i = c.args.input in
    let s = what policy g.P.Policy.rules net past u i in
    let turned = turned_now g (goal.at.returns-in_err-self-clause-stopped g c).After-next_trigger-after past counts may in
    let stopped = c.in_err-self.ensures.stopped in
    rw (out.2, stopped.0)
    (stops_at_triggers rules net past u (makes_local (input_of i)) c.args.self.now.triggers _ s c.turn.new.outputs may.are_nodes.valid c.requires.node
    (all_within policy rules net past c.args.self.now.nodes.items may.are_nodes) (others_same policy g.P.Policy.rules net past u i) may.counted.total may.counted.few turned.answers turned.total stopped.1 turned.within))

pub returns-in_err-check_control-clause-stopped : goal.returns-in_err-check_control-clause-stopped
returns-in_err-check_control-clause-stopped g c =
    let out = err_from_is_err_and c.from_residual-in_err-check_control.result c.from_residual-in_err-check_control.ensures.1 in
    handed_on c.from_residual-in_err-check_control.result _ out.0 out.1
    (λ past counts may values.
    let policy = c.args.self.now.policy in
    let rules = g.P.Policy.rules policy in
    let net = c.args.self.now.topology.value in
    let s = what policy g.P.Policy.rules net past c.args.node c.args.input in
    let turned = turned_now g (goal.at.returns-in_err-check_control-clause-stopped g c).After-next_trigger-after past counts may in
    let sent = sent_now g (goal.at.returns-in_err-check_control-clause-stopped g c).In_ok-effects past counts may turned.answers in
    let few = subst (λ n. n ≤ MOST_TRIGGERS) (c.in_ok-self.ensures.ok.0 ∙ turned.total) c.in_ok-self.ensures.ok.1 in
    let stopped = c.in_err-check_control.ensures.stopped in
    rw (out.2, stopped.0)
    (stops_at_control policy rules net past c.turn.new.nodes.items s c.turn.new.outputs turned.nodes_now few turned.answers (stopped.1 (chronicle_of past s) counts sent.are_mails)))

pub returns-in_err-check_packets-clause-stopped : goal.returns-in_err-check_packets-clause-stopped
returns-in_err-check_packets-clause-stopped g c =
    let out = err_from_is_err_and c.from_residual-in_err-check_packets.result c.from_residual-in_err-check_packets.ensures.1 in
    handed_on c.from_residual-in_err-check_packets.result _ out.0 out.1
    (λ past counts may values.
    let policy = c.args.self.now.policy in
    let rules = g.P.Policy.rules policy in
    let net = c.args.self.now.topology.value in
    let s = what policy g.P.Policy.rules net past c.args.node c.args.input in
    let turned = turned_now g (goal.at.returns-in_err-check_packets-clause-stopped g c).After-next_trigger-after past counts may in
    let sent = sent_now g (goal.at.returns-in_err-check_packets-clause-stopped g c).In_ok-effects past counts may turned.answers in
    let few = subst (λ n. n ≤ MOST_TRIGGERS) (c.in_ok-self.ensures.ok.0 ∙ turned.total) c.in_ok-self.ensures.ok.1 in
    let few_mails = c.in_ok-check_control.ensures.ok (chronicle_of past s) counts sent.are_mails in
    let stopped = c.in_err-check_packets.ensures.stopped in
    rw (out.2, stopped.0)
    (stops_at_packets policy rules net past c.turn.new.nodes.items s c.turn.new.outputs turned.nodes_now few few_mails turned.answers (stopped.1 (chronicle_of past s) sent.are_walks)))

pub check_marks-requires : goal.check_marks-requires
check_marks-requires g c =
    let at = rw (c.unwrap-rank.ensures, c.deref.ensures) at c.rank_of.ensures.some in
    let inside = inside_places c.args.self.now.topology.value (length c.args.self.now.nodes.items) c.unwrap-rank.result c.args.node c.requires.places at in
    let turned = c.in-Ok.ensures.turned in
    let same = ap length turned.3 ∙ length-set c.args.self.now.nodes.items c.unwrap-rank.result turned.1 in
    let kept = ap (λ nodes. length nodes.items) c.in_ok-effects.ensures.kept.nodes in
    omega (arith, inside, same, kept)

pub returns-in_err-check_marks-clause-stopped : goal.returns-in_err-check_marks-clause-stopped
returns-in_err-check_marks-clause-stopped g c =
    let out = err_from_is_err_and c.from_residual-in_err-check_marks.result c.from_residual-in_err-check_marks.ensures.1 in
    handed_on c.from_residual-in_err-check_marks.result _ out.0 out.1
    (λ past counts may values.
    let policy = c.args.self.now.policy in
    let rules = g.P.Policy.rules policy in
    let net = c.args.self.now.topology.value in
    let u = c.args.node in
    let i = c.args.input in
    let s = what policy g.P.Policy.rules net past u i in
    let at = rw (c.unwrap-rank.ensures, c.deref.ensures) at c.rank_of.ensures.some in
    let turned = turned_now g (goal.at.returns-in_err-check_marks-clause-stopped g c).After-next_trigger-after past counts may in
    let sent = sent_now g (goal.at.returns-in_err-check_marks-clause-stopped g c).In_ok-effects past counts may turned.answers in
    let few = subst (λ n. n ≤ MOST_TRIGGERS) (c.in_ok-self.ensures.ok.0 ∙ turned.total) c.in_ok-self.ensures.ok.1 in
    let few_mails = c.in_ok-check_control.ensures.ok (chronicle_of past s) counts sent.are_mails in
    let few_packets = c.in_ok-check_packets.ensures.ok (chronicle_of past s) sent.are_walks in
    let kept = subst (λ nodes. AreNodes policy rules net (chronicle_of past s) nodes.items) (sym c.in_ok-effects.ensures.kept.nodes) turned.nodes_now in
    let stopped = c.in_err-check_marks.ensures.stopped in
    let many = marks_at rules net past (chronicle_of past s) u c.requires.node (others_same policy g.P.Policy.rules net past u i) may.counted.few_marks ∙ stopped.1 policy net (chronicle_of past s) u kept at in
    rw (out.2, stopped.0)
    (stops_at_marks policy rules net past c.turn.new.nodes.items s c.turn.new.outputs turned.nodes_now few few_mails few_packets turned.answers many))

pub returns-clause-stands : goal.returns-clause-stands
returns-clause-stands g c past counts may =
    let policy = c.args.self.now.policy in
    let rules = g.P.Policy.rules policy in
    let net = c.args.self.now.topology.value in
    let u = c.args.node in
    let i = c.args.input in
    let s = what policy g.P.Policy.rules net past u i in
    let at = rw (c.unwrap-rank.ensures, c.deref.ensures) at c.rank_of.ensures.some in
    let turned = turned_now g (goal.at.returns-clause-stands g c).After-next_trigger-after past counts may in
    let sent = sent_now g (goal.at.returns-clause-stands g c).In_ok-effects past counts may turned.answers in
    let few_mails = c.in_ok-check_control.ensures.ok (chronicle_of past s) counts sent.are_mails in
    let few_packets = c.in_ok-check_packets.ensures.ok (chronicle_of past s) sent.are_walks in
    let kept = subst (λ nodes. AreNodes policy rules net (chronicle_of past s) nodes.items) (sym c.in_ok-effects.ensures.kept.nodes) turned.nodes_now in
    let few_marks = marks_at rules net past (chronicle_of past s) u c.requires.node (others_same policy g.P.Policy.rules net past u i) may.counted.few_marks ∙ c.in_ok-check_marks.ensures.ok policy net (chronicle_of past s) u kept at in
    let counted = c.in_ok-self.ensures.ok in
    sent_stands rules past s counts (record c.args.self.now { nodes = c.turn.new.nodes; outputs = c.turn.new.outputs; triggers = c.in_ok-self.field-0 }) c.hand_all.new.self (record { wanted = c.args.wanted; list = c.in_ok-effects.effects }) (begun u (input_of i) past) c.in_ok-effects.ensures.kept turned.nodes_now
    (given_flags rules net past u (input_of i) c.args.self.now.crashed.items may.are_crashed) (counted.0 ∙ turned.total) counted.1 few_mails few_packets few_marks sent

pub returns-clause-comes : goal.returns-clause-comes
returns-clause-comes g c wanted past counts may =
    let turned = turned_now g (goal.at.returns-clause-comes g c).After-next_trigger-after past counts may in
    let sent = sent_now g (goal.at.returns-clause-comes g c).In_ok-effects past counts may turned.answers in
    record {
      stands = returns-clause-stands g c past counts may;
      tells = given_tells past c.args.node (input_of c.args.input) (what c.args.self.now.policy g.P.Policy.rules c.args.self.now.topology.value past c.args.node c.args.input) c.turn.new.outputs c.in_ok-effects.effects turned.answers (sent.since wanted);
    }
