use Rattle.std.proofs.Common.{Ok, Err, subst}
use Rattle.topology.specs.Net.{IsValid}
use Rattle.path_vector.specs.GaoRexford.{gao_rexford}
use Rattle.route_replay.specs.declared.ends.RunEnd.TheVariants.{NoMemory, WriteFault, Limit}
use Rattle.load_plan.specs.LoadNetwork.{load_net}
use Rattle.route_replay.specs.LoadText.{load_events}
use Rattle.route_replay.proofs.Suits.{load_fits}
use Rattle.route_replay.proofs.Written.{Known, ends_done, ends_short, ends_cut, ends_limit, ends_unmade, load_runs}
use Rattle.route_replay.proofs.loading.load_ending.Goals as goal

pub returns-in_default : goal.returns-in_default
returns-in_default g c = ends_unmade c.args.number _

pub run_load-requires : goal.run_load-requires
run_load-requires g c = rw (c.in-Ok.ensures.topology, c.in-Ok.ensures.directives) (load_fits c.args.number)

pub returns-in-Ok-run_load : goal.returns-in-Ok-run_load
returns-in-Ok-run_load g c =
    let number = c.args.number in
    let valid = subst IsValid c.in-Ok.ensures.topology c.nodes-nodes.ensures.valid in
    let known : Known number = record { throughout = c.a_run_holds_throughout.ensures gao_rexford (load_net number) (load_events number) valid } in
    ends_done number _ _ known (load_runs number _ _ _ _ (Ok c.in-Ok-run_load.field-0) c.in-Ok.ensures.topology c.in-Ok.ensures.directives c.in-Ok-run_load.ensures)

pub returns-in-Err-NoMemory : goal.returns-in-Err-NoMemory
returns-in-Err-NoMemory g c =
    let number = c.args.number in
    let valid = subst IsValid c.in-Ok.ensures.topology c.nodes-nodes.ensures.valid in
    ends_short number _ _ (λ _. c.a_run_holds_throughout.ensures gao_rexford (load_net number) (load_events number) valid) (load_runs number _ _ _ _ (Err NoMemory) c.in-Ok.ensures.topology c.in-Ok.ensures.directives (rw c.in-Err-NoMemory.field-0-is at c.in-Err-NoMemory.ensures))

pub returns-in-Err-WriteFault : goal.returns-in-Err-WriteFault
returns-in-Err-WriteFault g c =
    let number = c.args.number in
    let valid = subst IsValid c.in-Ok.ensures.topology c.nodes-nodes.ensures.valid in
    let known : Known number = record { throughout = c.a_run_holds_throughout.ensures gao_rexford (load_net number) (load_events number) valid } in
    ends_cut number _ _ known (load_runs number _ _ _ _ (Err WriteFault) c.in-Ok.ensures.topology c.in-Ok.ensures.directives (rw c.in-Err-WriteFault.field-0-is at c.in-Err-WriteFault.ensures))

pub returns-in-Err-Limit : goal.returns-in-Err-Limit
returns-in-Err-Limit g c =
    let number = c.args.number in
    let valid = subst IsValid c.in-Ok.ensures.topology c.nodes-nodes.ensures.valid in
    let known : Known number = record { throughout = c.a_run_holds_throughout.ensures gao_rexford (load_net number) (load_events number) valid } in
    rw (c.in-Err-Limit.kind-is, c.in-Err-Limit.most-is)
    (ends_limit number _ _ c.in-Err-Limit.kind c.in-Err-Limit.most known (load_runs number _ _ _ _ (Err (Limit c.in-Err-Limit.kind c.in-Err-Limit.most)) c.in-Ok.ensures.topology c.in-Ok.ensures.directives (rw c.in-Err-Limit.field-0-is at c.in-Err-Limit.ensures)))
