use Rattle.std.proofs.Common.{sym, ◌∙◌}
use Rattle.route_node.proofs.Written.{writes_one, breaks_one}
use Rattle.route_node.proofs.replies.write_frame.Goals as goal

pub returns-then-is_err-clause-err : goal.returns-then-is_err-clause-err
returns-then-is_err-clause-err g c =
    let link = g.L.Link.seen c.args.link.now in
    let link' = g.L.Link.seen c.write_all.new.self in
    breaks_one c.write_all.result c.args.frame.now c.deref.result.now link link' (sym c.is_err.ensures.value ∙ c.if-is_err.true) (c.deref.ensures.value ∙ c.in-Ok.ensures)
    c.write_all.ensures.err c.write_all.ensures.acted_err c.write_all.ensures.sure c.write_all.ensures.others c.write_all.ensures.cause

pub returns-clause-ok : goal.returns-clause-ok
returns-clause-ok g c =
    let link = g.L.Link.seen c.args.link.now in
    let link' = g.L.Link.seen c.write_all.new.self in
    writes_one c.write_all.result c.args.frame.now c.deref.result.now link link' (sym c.is_err.ensures.value ∙ c.if-is_err.false) (c.deref.ensures.value ∙ c.in-Ok.ensures)
    c.write_all.ensures.ok c.write_all.ensures.one_write c.write_all.ensures.acted c.write_all.ensures.told c.write_all.ensures.others c.write_all.ensures.cause
