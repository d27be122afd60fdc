use Rattle.std.proofs.Common.{◌≡◌, List, Ok, Err, [], subst}
use Rattle.topology.specs.Net.{Net, IsValid}
use Rattle.path_vector.specs.GaoRexford.{gao_rexford}
use Rattle.route_replay.specs.declared.ends.RunEnd.TheVariants.{NoMemory, WriteFault, Limit}
use Rattle.schedule_file.specs.declared.lines.Numbered.{Numbered}
use Rattle.schedule_file.specs.declared.lines.Schedule.{Schedule}
use Rattle.schedule_file.specs.Grammar.{AreDirected, IsFile, net_of, directives_of}
use Rattle.schedule_file.specs.Refusals.{FirstBad}
use Rattle.route_replay.proofs.Ending.{ends_bad, ends_run, known, one_reading_of}
use Rattle.route_replay.specs.Running.{AllFitting}
use Rattle.route_replay.specs.Text.{events_of}
use Rattle.route_replay.proofs.Fitting.{all_fit}
use Rattle.route_replay.proofs.Probing.{EachDelivers, are_probed}
use Rattle.route_replay.proofs.runner.replay_ending.Goals as goal

-- the directives of a file fit its network
fits_as : (schedule : Schedule) (net : Net) (directives : List Numbered) → schedule.topology ≡ net → schedule.lines.items ≡ directives → AreDirected schedule.topology schedule.lines.items → AllFitting net directives
fits_as schedule net directives same alike follow =
    subst (λ n. AllFitting n directives) same (subst (λ ds. AllFitting schedule.topology ds) alike (all_fit schedule.topology schedule.lines.items follow))

pub returns-in-Err-Bad : goal.returns-in-Err-Bad
returns-in-Err-Bad g c =
    let bytes = c.in-Ok.bytes.items in
    let bad : FirstBad bytes c.in-Err-Bad.line c.in-Err-Bad.kind = rw (c.deref.ensures.value, c.in-Err-Bad.field-0-is) at c.in-Err-Bad.ensures.err in
    rw (c.in-Err-Bad.line-is, c.in-Err-Bad.kind-is) (ends_bad _ _ _ bytes c.in-Err-Bad.line c.in-Err-Bad.kind (known _ bytes c.in-Ok.ensures.ok) (one_reading_of bytes) c.in-Ok.ensures.within bad c.in-Ok.ensures.end (c.in-Ok.ensures.cause.quiet (λ e. cc e)))

pub run_schedule-requires : goal.run_schedule-requires
run_schedule-requires g c =
    all_fit _ _ c.in-Ok-parse.ensures.follow

pub returns-in-Ok-run_schedule : goal.returns-in-Ok-run_schedule
returns-in-Ok-run_schedule g c =
    let bytes = c.in-Ok.bytes.items in
    let file : IsFile bytes c.in-Ok-parse.schedule = rw c.deref.ensures.value at c.in-Ok-parse.ensures.ok in
    let throughout = c.a_run_holds_throughout.ensures gao_rexford (net_of file.0) (events_of gao_rexford (net_of file.0) [] (directives_of file.0)) (subst IsValid file.2 c.nodes-nodes.ensures.valid) in
    let each : EachDelivers gao_rexford (net_of file.0) = λ past p u. c.a_walk_over_it_delivers.ensures gao_rexford (net_of file.0) past p u (subst IsValid file.2 c.nodes-nodes.ensures.valid) in
    let probed = are_probed gao_rexford (net_of file.0) each (directives_of file.0) [] (fits_as c.in-Ok-parse.schedule (net_of file.0) (directives_of file.0) file.2 file.3 c.in-Ok-parse.ensures.follow) in
    let runs = rw (file.2, file.3) at c.in-Ok-run_schedule.ensures.runs in
    let turns = rw (file.2, file.3) at c.in-Ok-run_schedule.ensures.in_turn in
    ends_run _ _ _ _ bytes file.0 (known _ bytes c.in-Ok.ensures.ok) (one_reading_of bytes) c.in-Ok.ensures.within file.1 c.in-Ok.ensures.end (c.in-Ok.ensures.cause.quiet (λ e. cc e)) throughout probed turns (Ok c.in-Ok-run_schedule.field-0) runs

pub returns-in-Err-NoMemory-run_schedule : goal.returns-in-Err-NoMemory-run_schedule
returns-in-Err-NoMemory-run_schedule g c =
    let bytes = c.in-Ok.bytes.items in
    let file : IsFile bytes c.in-Ok-parse.schedule = rw c.deref.ensures.value at c.in-Ok-parse.ensures.ok in
    let throughout = c.a_run_holds_throughout.ensures gao_rexford (net_of file.0) (events_of gao_rexford (net_of file.0) [] (directives_of file.0)) (subst IsValid file.2 c.nodes-nodes.ensures.valid) in
    let each : EachDelivers gao_rexford (net_of file.0) = λ past p u. c.a_walk_over_it_delivers.ensures gao_rexford (net_of file.0) past p u (subst IsValid file.2 c.nodes-nodes.ensures.valid) in
    let probed = are_probed gao_rexford (net_of file.0) each (directives_of file.0) [] (fits_as c.in-Ok-parse.schedule (net_of file.0) (directives_of file.0) file.2 file.3 c.in-Ok-parse.ensures.follow) in
    let runs = rw (file.2, file.3, c.in-Err-NoMemory-run_schedule.field-0-is) at c.in-Err-NoMemory-run_schedule.ensures.runs in
    let turns = rw (file.2, file.3) at c.in-Err-NoMemory-run_schedule.ensures.in_turn in
    ends_run _ _ _ _ bytes file.0 (known _ bytes c.in-Ok.ensures.ok) (one_reading_of bytes) c.in-Ok.ensures.within file.1 c.in-Ok.ensures.end (c.in-Ok.ensures.cause.quiet (λ e. cc e)) throughout probed turns (Err NoMemory) runs

pub returns-in-Err-WriteFault : goal.returns-in-Err-WriteFault
returns-in-Err-WriteFault g c =
    let bytes = c.in-Ok.bytes.items in
    let file : IsFile bytes c.in-Ok-parse.schedule = rw c.deref.ensures.value at c.in-Ok-parse.ensures.ok in
    let throughout = c.a_run_holds_throughout.ensures gao_rexford (net_of file.0) (events_of gao_rexford (net_of file.0) [] (directives_of file.0)) (subst IsValid file.2 c.nodes-nodes.ensures.valid) in
    let each : EachDelivers gao_rexford (net_of file.0) = λ past p u. c.a_walk_over_it_delivers.ensures gao_rexford (net_of file.0) past p u (subst IsValid file.2 c.nodes-nodes.ensures.valid) in
    let probed = are_probed gao_rexford (net_of file.0) each (directives_of file.0) [] (fits_as c.in-Ok-parse.schedule (net_of file.0) (directives_of file.0) file.2 file.3 c.in-Ok-parse.ensures.follow) in
    let runs = rw (file.2, file.3, c.in-Err-WriteFault.field-0-is) at c.in-Err-WriteFault.ensures.runs in
    let turns = rw (file.2, file.3) at c.in-Err-WriteFault.ensures.in_turn in
    ends_run _ _ _ _ bytes file.0 (known _ bytes c.in-Ok.ensures.ok) (one_reading_of bytes) c.in-Ok.ensures.within file.1 c.in-Ok.ensures.end (c.in-Ok.ensures.cause.quiet (λ e. cc e)) throughout probed turns (Err WriteFault) runs

pub returns : goal.returns
returns g c =
    let bytes = c.in-Ok.bytes.items in
    let file : IsFile bytes c.in-Ok-parse.schedule = rw c.deref.ensures.value at c.in-Ok-parse.ensures.ok in
    let throughout = c.a_run_holds_throughout.ensures gao_rexford (net_of file.0) (events_of gao_rexford (net_of file.0) [] (directives_of file.0)) (subst IsValid file.2 c.nodes-nodes.ensures.valid) in
    let each : EachDelivers gao_rexford (net_of file.0) = λ past p u. c.a_walk_over_it_delivers.ensures gao_rexford (net_of file.0) past p u (subst IsValid file.2 c.nodes-nodes.ensures.valid) in
    let probed = are_probed gao_rexford (net_of file.0) each (directives_of file.0) [] (fits_as c.in-Ok-parse.schedule (net_of file.0) (directives_of file.0) file.2 file.3 c.in-Ok-parse.ensures.follow) in
    let runs = rw (file.2, file.3, c.in-Err-Limit.field-0-is) at c.in-Err-Limit.ensures.runs in
    let turns = rw (file.2, file.3) at c.in-Err-Limit.ensures.in_turn in
    rw (c.in-Err-Limit.kind-is, c.in-Err-Limit.number-is)
    (ends_run _ _ _ _ bytes file.0 (known _ bytes c.in-Ok.ensures.ok) (one_reading_of bytes) c.in-Ok.ensures.within file.1 c.in-Ok.ensures.end (c.in-Ok.ensures.cause.quiet (λ e. cc e)) throughout probed turns (Err (Limit c.in-Err-Limit.kind c.in-Err-Limit.number)) runs)
