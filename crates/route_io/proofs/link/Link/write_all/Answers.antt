use Rattle.std.proofs.Common.{arith, ap, ◌∙◌, inr, Result, Ok, Err, OnErr}
use Rattle.route_io.specs.Views.{LinkView}
use Rattle.route_io.proofs.Bytes.{told_on, appended}
use Rattle.route_io.proofs.Acts.{adds_front, adds_no_more, whole_after}
use Rattle.route_io.proofs.Links.{only_writes_on, onward, failed_once, lacks_room}
use Rattle.route_io.proofs.link.Link.write_all.Goals as goal

pub loop-done-preserved : goal.loop-done-preserved
loop-done-preserved g c =
    let seen = g.Self.Link.seen in
    let took = rw c.split_at.ensures.back at c.in_ok-done.ensures.bytes in
    record {
      inside = omega (arith, c.in_ok-done.ensures.bound, c.split_at.ensures.back_len);
      written = appended _ _ _ c.args.piece.now c.loop-done.done _ c.loop-done.invariant.written took;
      told = told_on _ _ _ c.loop-done.invariant.told c.write.ensures.told;
      others = only_writes_on (seen c.args.self.now) (seen c.loop-done.self) (seen c.write.new.self) c.loop-done.invariant.others c.write.ensures.others;
      writes = inr (
          onward _ _ _ c.args.piece.now _ _ _ c.loop-done.invariant.writes c.loop-done-test.true c.split_at.ensures.back
          (omega (arith, c.split_at.ensures.back_len, c.loop-done-test.true))
          (c.in_ok-done.ensures.some (omega (arith, c.split_at.ensures.back_len, c.loop-done-test.true)))
          c.in_ok-done.ensures.bound c.in_ok-done.ensures.fills c.in_ok-done.ensures.acted
          );
      acts = adds_front (seen c.args.self.now) (seen c.loop-done.self) (seen c.write.new.self) c.args.piece.now _ c.loop-done.done _ c.split_at.ensures.back c.loop-done.invariant.acts c.in_ok-done.ensures.acted;
      quiet = c.in_ok-done.ensures.cause.quiet ∙ c.loop-done.invariant.quiet;
    }

-- what holds after any answer holds after a failure
after_failure : {T E P : Type 0} (r : Result T E) → P → OnErr r P
after_failure (Ok x) p = tt
after_failure (Err e) p = p

pub returns-in_err-done-clause-sure : goal.returns-in_err-done-clause-sure
returns-in_err-done-clause-sure g c = λ sure.
    let seen = g.Self.Link.seen in
    let none = c.in_err-done.ensures.sure (ap (λ (v : LinkView). v.sure) c.loop-done.invariant.others ∙ sure) in
    after_failure c.from_residual.result
    (lacks_room (seen c.args.self.now) (seen c.loop-done.self) c.args.piece.now _ c.loop-done.done c.loop-done-test.true
    c.loop-done.invariant.told c.loop-done.invariant.written c.loop-done.invariant.others none)

pub returns-in_err-done-clause-one_write : goal.returns-in_err-done-clause-one_write
returns-in_err-done-clause-one_write g c = λ room.
    let seen = g.Self.Link.seen in
    whole_after c.from_residual.result (seen c.args.self.now) (seen c.write.new.self) c.args.piece.now c.from_residual.ensures.0
    (failed_once (seen c.args.self.now) (seen c.loop-done.self) (seen c.write.new.self) c.args.piece.now _ c.loop-done.done c.loop-done.invariant.writes c.loop-done-test.true
    c.split_at.ensures.back c.in_err-done.ensures.acted room)

pub returns-in_err-done-clause-acted_err : goal.returns-in_err-done-clause-acted_err
returns-in_err-done-clause-acted_err g c =
    let seen = g.Self.Link.seen in
    after_failure c.from_residual.result (
      c.loop-done.done,
      c.loop-done-test.true,
      adds_no_more (seen c.args.self.now) (seen c.loop-done.self) (seen c.write.new.self) _ _ c.loop-done.invariant.acts c.in_err-done.ensures.acted,
    )
