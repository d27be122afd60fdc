use Rattle.std.proofs.lemmas.Result.{err_from_is_err_and}
use Rattle.chronicle.specs.Giving.{answer}
use Rattle.chronicle.specs.Publications.{publish}
use Rattle.node_core.specs.Inputs.{input_of}
use Rattle.node_core.proofs.Stepping.{said, said_why, then_stands, then_answers, then_stops, drops_within, stops_before, handed_on, still_stands, then_declines, follows_now}
use Rattle.node_core.proofs.node.Node.handle_into.Goals as goal

pub returns-in-Idle-clause-node : goal.returns-in-Idle-clause-node
returns-in-Idle-clause-node g c policy net u carried past was may =
    let rules = g.P.Policy.rules policy in
    let input = input_of c.args.input in
    still_stands policy rules net u carried past input c.in-Idle.reason
    (said_why u past (answer rules net carried u past input) c.in_ok-node.answer c.answer.new.outputs c.in-Idle.reason c.in-Idle.is (c.in_ok-node.ensures.says policy net u carried past was may c.clear.ensures))
    c.args.self c.in_ok-node.node was (c.in_ok-node.ensures.node policy net u carried past was may)

pub returns-in-Idle-clause-outputs : goal.returns-in-Idle-clause-outputs
returns-in-Idle-clause-outputs g c policy net u carried past was may =
    let rules = g.P.Policy.rules policy in
    let input = input_of c.args.input in
    then_declines policy rules net u carried past input c.in-Idle.reason
    (said_why u past (answer rules net carried u past input) c.in_ok-node.answer c.answer.new.outputs c.in-Idle.reason c.in-Idle.is (c.in_ok-node.ensures.says policy net u carried past was may c.clear.ensures))

pub returns-clause-node : goal.returns-clause-node
returns-clause-node g c policy net u carried past was may =
    let rules = g.P.Policy.rules policy in
    let input = input_of c.args.input in
    let went = said u past (answer rules net carried u past input) c.in_ok-node.answer c.answer.new.outputs c.in-Did.due c.in-Did.is
    (c.in_ok-node.ensures.says policy net u carried past was may c.clear.ensures) in
    let follows = c.in_ok-node-2.ensures.node policy net u past went.now
    (follows_now policy rules net u past (answer rules net carried u past input) went.now c.in_ok-node.node went.goes (c.in_ok-node.ensures.node policy net u carried past was may)) went.completes
    (drops_within policy rules net u carried past input went.now went.goes c.args.self was may) in
    then_stands policy rules net u carried past input went.now went.goes c.args.self c.in_ok-node-2.node was may follows
    (c.in_default.ensures.none policy net u (publish rules net u past went.now) follows)

pub returns-clause-outputs : goal.returns-clause-outputs
returns-clause-outputs g c policy net u carried past was may =
    let rules = g.P.Policy.rules policy in
    let input = input_of c.args.input in
    let went = said u past (answer rules net carried u past input) c.in_ok-node.answer c.answer.new.outputs c.in-Did.due c.in-Did.is
    (c.in_ok-node.ensures.says policy net u carried past was may c.clear.ensures) in
    let follows = follows_now policy rules net u past (answer rules net carried u past input) went.now c.in_ok-node.node went.goes (c.in_ok-node.ensures.node policy net u carried past was may) in
    then_answers policy rules net u carried past input went.now went.goes c.conclude.new.outputs
    (c.in_ok-node-2.ensures.outputs policy net u past past went.now follows went.completes (drops_within policy rules net u carried past input went.now went.goes c.args.self was may) went.hands)

pub returns-in-Some-clause-stopped : goal.returns-in-Some-clause-stopped
returns-in-Some-clause-stopped g c policy net u carried past was may =
    let rules = g.P.Policy.rules policy in
    let input = input_of c.args.input in
    let went = said u past (answer rules net carried u past input) c.in_ok-node.answer c.answer.new.outputs c.in-Did.due c.in-Did.is
    (c.in_ok-node.ensures.says policy net u carried past was may c.clear.ensures) in
    let follows = c.in_ok-node-2.ensures.node policy net u past went.now
    (follows_now policy rules net u past (answer rules net carried u past input) went.now c.in_ok-node.node went.goes (c.in_ok-node.ensures.node policy net u carried past was may)) went.completes
    (drops_within policy rules net u carried past input went.now went.goes c.args.self was may) in
    then_stops policy rules net u carried past input went.now went.goes c.in-Some.stop (c.in-Some.ensures.some policy net u (publish rules net u past went.now) follows)

pub returns-in_err-node-clause-stopped : goal.returns-in_err-node-clause-stopped
returns-in_err-node-clause-stopped g c =
    let out = err_from_is_err_and c.from_residual.result c.from_residual.ensures.1 in
    handed_on c.from_residual.result _ out.0 out.1
    (λ policy net u carried past was may.
    rw out.2 (stops_before policy (g.P.Policy.rules policy) net u carried past (input_of c.args.input) c.in_err-node.field-0.0 (c.in_err-node.ensures.stopped policy net u carried past was may)))
