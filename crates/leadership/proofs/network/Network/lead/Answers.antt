use Rattle.std.proofs.Common.{List, ◌<◌, ◌^◌, sym, ◌+◌, ◌++◌, length, refl, ap, subst, ◌∙◌}
use Rattle.leadership.specs.Facts.{PrepareFrom}
use Rattle.leadership.specs.Answers.{to_each}
use Rattle.leadership.specs.declared.sites.Site.{Site}
use Rattle.leadership.specs.Sites.{IsAt, next_round}
use Rattle.leadership.specs.Mails.{sent, StopsAbove}
use Rattle.leadership.proofs.Networking.{Member, lead_goes, lead_idle, lead_stops, member_of, still}
use Rattle.leadership.proofs.network.Network.lead.Goals as goal

pub returns-then-index-clause-goes_on : goal.returns-then-index-clause-goes_on
returns-then-index-clause-goes_on c = λ past h.
    let m : Member c.args.self.now c.args.node c.place_of-place.result c.index.result.now =
    member_of c.args.self.now c.args.node c.place_of-place.result c.deref.result.now c.index.result.now c.place_of-place.ensures c.deref.ensures.value c.index.ensures in
    lead_idle past c.args.self.now h c.args.node c.place_of-place.result c.index.result.now m c.args.epoch _ c.if-index.true h

pub returns-in-Ok-clause-goes_on : goal.returns-in-Ok-clause-goes_on
returns-in-Ok-clause-goes_on c = λ past h.
    let m : Member c.args.self.now c.args.node c.place_of-place.result c.index_mut-site.result.now =
    member_of c.args.self.now c.args.node c.place_of-place.result c.deref.result.now c.index_mut-site.result.now c.place_of-place.ensures c.deref.ensures.value c.index_mut-site.ensures.value in
    lead_goes past c.args.self.now h c.args.node c.place_of-place.result c.index_mut-site.result.now m c.args.epoch c.next_round-round.result c.start.new.self _
    (still c.args.self.now c.args.node c.place_of-place.result c.index_mut-site.result.now c.index.result.now _ m c.index.ensures c.if-index.false)
    c.next_round-round.ensures c.start.ensures refl refl
    (c.in-Ok.ensures.ok ∙ ap (λ ns. c.args.self.now.mails ++ sent c.args.node (to_each ns (PrepareFrom c.args.epoch (record { round = c.next_round-round.result; node = c.args.node })))) c.deref-2.ensures.value)

pub returns-clause-stopped : goal.returns-clause-stopped
returns-clause-stopped c = λ past h.
    let m : Member c.args.self.now c.args.node c.place_of-place.result c.index.result.now =
    member_of c.args.self.now c.args.node c.place_of-place.result c.deref.result.now c.index.result.now c.place_of-place.ensures c.deref.ensures.value c.index.ensures in
    lead_stops past c.args.self.now h c.args.node c.place_of-place.result c.index.result.now m c.args.epoch c.in-Err.stop c.if-index.false
    (subst (λ ns. StopsAbove (length c.args.self.now.mails + length ns) c.in-Err.stop) c.deref-2.ensures.value c.in-Err.ensures.stopped)

pub next_round-round-requires : goal.next_round-round-requires
next_round-round-requires c =
    let at : IsAt c.args.self.now.sites.items c.args.node c.place_of-place.result = subst (λ (z : List Site). IsAt z c.args.node c.place_of-place.result) c.deref.ensures.value c.place_of-place.ensures in
    subst (λ (s : Site). next_round s < 2 ^ 32) (sym c.index_mut-site.ensures.value) (c.requires.rounds c.place_of-place.result c.index_mut-site.result.now at.within)
