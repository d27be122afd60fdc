use Rattle.std.proofs.Common.{◌∷◌, ◌≡◌, ◌==◌, false, Some, sym, ◌∙◌, ap, set, subst}
use Rattle.std.specs.Prelude.{position}
use Rattle.std.specs.List.{list_any}
use Rattle.epoch_packet.specs.declared.packets.Packet.{Packet}
use Rattle.chronicle.specs.Facts.{Visit}
use Rattle.run_record.specs.Walks.{AreWalksBut, still}
use Rattle.run_record.proofs.Walking.{KeptAt, kept_at, none_kept, numbers_stay, visit_known, visit_new}
use Rattle.run_record.proofs.walks.Walks.visit.Goals as goal

-- it is known, and has this place
known_number : (c : goal.After-self-2-1) → KeptAt c.self.inside.journeys.items c.args.packet.value.id c.in-Some.place c.index_mut.result.now
known_number c =
    kept_at c.self.inside.numbers.keys c.self.inside.journeys.items c.args.packet.value.id c.self.invariant.0 c.in-Some.place c.index_mut.result.now
    (subst (λ (p : Packet). position (λ n. p.id == n) c.self.inside.numbers.keys ≡ Some c.in-Some.place) c.deref.ensures (sym c.in-Some.ensures.index)) c.index_mut.ensures.value

pub enter-requires : goal.enter-requires
enter-requires c =
    let new =
    none_kept c.self.inside.numbers.keys c.self.inside.journeys.items c.args.packet.value.id c.self.invariant.0
    (subst (λ (p : Packet). list_any (λ n. p.id == n) c.self.inside.numbers.keys ≡ false) c.deref.ensures (sym c.in_default.ensures.found)) in
    rw (← c.self.view_is) new

pub returns-in_default-clause-ok : goal.returns-in_default-clause-ok
returns-in_default-clause-ok c away net past was passing =
    let new =
    none_kept c.self.inside.numbers.keys c.self.inside.journeys.items c.args.packet.value.id c.self.invariant.0
    (subst (λ (p : Packet). list_any (λ n. p.id == n) c.self.inside.numbers.keys ≡ false) c.deref.ensures (sym c.in_default.ensures.found)) in
    let js = c.self.inside.journeys.items in
    let was_here = subst (AreWalksBut away net past) (sym c.self.view_is) was in
    rw (c.in_ok-enter.ensures.ok, ← c.self.view_is) (visit_new net past js was_here c.args.node c.args.packet.value new passing)

pub invariant_of-self-2 : goal.invariant_of-self-2
invariant_of-self-2 c =
    let js = c.self.inside.journeys.items in
    let x = c.index_mut.result.now in
    let kept = known_number c in (
      c.self.invariant.0
          ∙ sym (numbers_stay js c.in-Some.place x c.go_on.new.self kept.here
          (ap (λ j. j.number) c.in_ok-go_on.ensures.ok)),
      sym c.in-Some.ensures.index,
    )

pub returns-clause-ok : goal.returns-clause-ok
returns-clause-ok c away net past was passing =
    let js = c.self.inside.journeys.items in
    subst (λ y. AreWalksBut (still (Visit c.args.node c.args.packet.value) away) net (Visit c.args.node c.args.packet.value ∷ past) (set js c.in-Some.place y)) (sym c.in_ok-go_on.ensures.ok)
    (visit_known net past js (subst (AreWalksBut away net past) (sym c.self.view_is) was) c.args.node c.args.packet.value c.in-Some.place c.index_mut.result.now (known_number c) passing)
