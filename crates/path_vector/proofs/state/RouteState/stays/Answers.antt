use Rattle.std.proofs.Common.{sym, ◌∙◌}
use Rattle.path_vector.proofs.Answering.{keeps_of}
use Rattle.path_vector.proofs.Staying.{own_stays, nothing_stays, outranked_stays}
use Rattle.path_vector.proofs.state.RouteState.stays.Goals as goal

pub returns-then-is_own : goal.returns-then-is_own
returns-then-is_own g c = λ policy net u session seq h s below yes.
    own_stays net u h c.args.prefix c.args.from session seq c.args.path.now (g.P.Policy.rules policy) (sym (c.owns-is_own.ensures policy net u h s below) ∙ c.if-is_own.true)

pub returns-then-is_nothing : goal.returns-then-is_nothing
returns-then-is_nothing g c = λ policy net u session seq h s below yes.
    let nothing = rw c.deref.ensures.value at c.withdraws_nothing-is_nothing.ensures c.if-is_nothing.true in
    nothing_stays net u h c.args.prefix c.args.from session seq c.args.path.now (g.P.Policy.rules policy) c.args.self.now.neighbours.items (keeps_of policy net u c.args.self.now h s) below nothing

pub returns : goal.returns
returns g c = λ policy net u session seq h s below yes.
    let low = rw (c.deref-2.ensures.value, s.same_policy) at c.is_outranked.ensures yes in
    outranked_stays net u h c.args.prefix c.args.from session seq c.args.path.now (g.P.Policy.rules policy) (g.met.P.Policy.ranking policy) s.valid (sym (c.owns-is_own.ensures policy net u h s below) ∙ c.if-is_own.false)
    c.args.self.now.neighbours.items (keeps_of policy net u c.args.self.now h s) below low
