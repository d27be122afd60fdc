use Rattle.std.proofs.Common.{refl}
use Rattle.leadership.proofs.Networking.{Member, crash_goes, crash_idle, member_of, still}
use Rattle.leadership.proofs.network.Network.crash.Goals as goal

pub returns-then-index-clause-goes_on : goal.returns-then-index-clause-goes_on
returns-then-index-clause-goes_on c = λ past h.
    let m : Member c.args.self.now c.args.node c.place_of-place.result c.index.result.now =
    member_of c.args.self.now c.args.node c.place_of-place.result c.deref.result.now c.index.result.now c.place_of-place.ensures c.deref.ensures.value c.index.ensures in
    crash_idle past c.args.self.now h c.args.node c.place_of-place.result c.index.result.now m _ c.if-index.true h

pub returns-clause-goes_on : goal.returns-clause-goes_on
returns-clause-goes_on c = λ past h.
    let m : Member c.args.self.now c.args.node c.place_of-place.result c.index_mut.result.now =
    member_of c.args.self.now c.args.node c.place_of-place.result c.deref.result.now c.index_mut.result.now c.place_of-place.ensures c.deref.ensures.value c.index_mut.ensures.value in
    crash_goes past c.args.self.now h c.args.node c.place_of-place.result c.index_mut.result.now m c.crash.new.self _
    (still c.args.self.now c.args.node c.place_of-place.result c.index_mut.result.now c.index.result.now _ m c.index.ensures c.if-index.false)
    c.crash.ensures refl refl refl
