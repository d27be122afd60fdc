use Rattle.schedule_file.specs.Refusals.{FirstBadOfTopology}
use Rattle.route_node.proofs.Networks.{known, Got, ends_bad, ends_no_memory}
use Rattle.route_node.proofs.attending.network_of.Goals as goal

pub returns-in-Err-Bad-clause-err : goal.returns-in-Err-Bad-clause-err
returns-in-Err-Bad-clause-err g c = λ here link.
    let bytes = c.in-Ok.bytes.items in
    let source = g.I.Source.seen c.args.source.now in
    let source' = g.I.Source.seen c.read_all.new.source in
    let bad : FirstBadOfTopology bytes c.in-Err-Bad.line c.in-Err-Bad.kind = rw (c.deref.ensures.value, c.in-Err-Bad.field-0-is) at c.in-Err-Bad.ensures.err in
    let got : Got source source' bytes =
    record { known = known source.left bytes c.in-Ok.ensures.ok; short = c.in-Ok.ensures.within; at_end = c.in-Ok.ensures.end; quiet = c.in-Ok.ensures.cause.quiet (λ e. cc e) } in
    rw (c.in-Err-Bad.line-is, c.in-Err-Bad.kind-is) (ends_bad source source' bytes got.known got here link c.in-Err-Bad.line c.in-Err-Bad.kind bad)

pub returns-clause-err : goal.returns-clause-err
returns-clause-err g c = λ here link.
    ends_no_memory here (g.I.Source.seen c.args.source.now) (g.I.Source.seen c.read_all.new.source) link (c.in-Ok.ensures.cause.quiet (λ e. cc e))
