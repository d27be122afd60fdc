use Rattle.std.proofs.Common.{ap, refl, arith}
use Rattle.paxos_core.specs.Facts as paxos
use Rattle.incomplete_closure.specs.Seen.{report_seen}
use Rattle.consolidator.specs.Seen.{message_seen}
use Rattle.consolidator.proofs.Hearing.{ok_then}
use Rattle.consolidator.proofs.Projecting.{hears_so, hears_report_so, member_of, few_members}
use Rattle.consolidator.proofs.parts.Part.hear.Goals as goal

pub returns-in-Report-clause-heard : goal.returns-in-Report-clause-heard
returns-in-Report-clause-heard c = ok_then c.on_report.result c.on_report.ensures.kept (λ reply keeps past u here h.
    hears_report_so c.args.topology.now reply c.args.self.now c.on_report.new.self past u c.args.from (message_seen c.args.message) (report_seen c.in-Report.report.value) (ap message_seen c.in-Report.is) h
    (λ stands. keeps _ _ _ u stands))

pub returns-in-Prepare-clause-heard : goal.returns-in-Prepare-clause-heard
returns-in-Prepare-clause-heard c = ok_then c.on_prepare.result c.on_prepare.ensures.heard (λ reply heard past u here h.
    hears_so c.args.topology.now reply c.args.self.now c.on_prepare.new.self past u c.args.from c.consolidators-members.result.now c.nodes-nodes.result.now (message_seen c.args.message) _ (paxos.Prepare c.in-Prepare.ballot)
    (ap message_seen c.in-Prepare.is) c.consolidators-members.ensures c.nodes-nodes.ensures.nodes c.requires here h
    (λ member stands. heard _ _ _ _ u stands))

pub returns-in-Promise-clause-heard : goal.returns-in-Promise-clause-heard
returns-in-Promise-clause-heard c = ok_then c.on_promise.result c.on_promise.ensures.heard (λ reply heard past u here h.
    hears_so c.args.topology.now reply c.args.self.now c.on_promise.new.self past u c.args.from c.consolidators-members.result.now c.nodes-nodes.result.now (message_seen c.args.message) _ (paxos.Promise c.in-Promise.ballot c.in-Promise.named)
    (ap message_seen c.in-Promise.is) c.consolidators-members.ensures c.nodes-nodes.ensures.nodes c.requires here h
    (λ member stands. heard _ _ _ u (member_of c.args.topology.now u c.consolidators-members.result.now c.consolidators-members.ensures member) stands))

pub returns-in-Accept-clause-heard : goal.returns-in-Accept-clause-heard
returns-in-Accept-clause-heard c = ok_then c.on_accept.result c.on_accept.ensures.heard (λ reply heard past u here h.
    hears_so c.args.topology.now reply c.args.self.now c.on_accept.new.self past u c.args.from c.consolidators-members.result.now c.nodes-nodes.result.now (message_seen c.args.message) _ (paxos.Accept c.in-Accept.ballot c.in-Accept.value)
    (ap message_seen c.in-Accept.is) c.consolidators-members.ensures c.nodes-nodes.ensures.nodes c.requires here h
    (λ member stands. heard _ _ _ _ u stands))

pub returns-in-Accepted-clause-heard : goal.returns-in-Accepted-clause-heard
returns-in-Accepted-clause-heard c = ok_then c.on_accepted.result c.on_accepted.ensures.heard (λ reply heard past u here h.
    hears_so c.args.topology.now reply c.args.self.now c.on_accepted.new.self past u c.args.from c.consolidators-members.result.now c.nodes-nodes.result.now (message_seen c.args.message) _ (paxos.Accepted c.in-Accepted.ballot)
    (ap message_seen c.in-Accepted.is) c.consolidators-members.ensures c.nodes-nodes.ensures.nodes c.requires here h
    (λ member stands. heard c.consolidators-members.result.now _ _ u refl stands))

pub returns-in-Decision-clause-heard : goal.returns-in-Decision-clause-heard
returns-in-Decision-clause-heard c past u here h =
    hears_so c.args.topology.now c.on_decision.result c.args.self.now c.on_decision.new.self past u c.args.from c.consolidators-members.result.now c.nodes-nodes.result.now (message_seen c.args.message) _ (paxos.Decision c.in-Decision.value)
    (ap message_seen c.in-Decision.is) c.consolidators-members.ensures c.nodes-nodes.ensures.nodes c.requires here h
    (λ member stands. c.on_decision.ensures.heard _ _ _ _ u c.args.from stands)

pub on_promise-requires : goal.on_promise-requires
on_promise-requires c = few_members c.args.topology.now c.consolidators-members.result.now c.nodes-nodes.ensures.valid c.consolidators-members.ensures

pub overflow_cast-members : goal.overflow_cast-members
overflow_cast-members c = let few = few_members c.args.topology.now c.consolidators-members.result.now c.nodes-nodes.ensures.valid c.consolidators-members.ensures in omega (arith, few)
