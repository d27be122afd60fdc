use Rattle.std.proofs.Common.{None, ◌≡◌, ◌∷◌, [], ◌++◌, ◌==◌, sym, ◌∙◌, ap, find, map, subst}
use Rattle.std.specs.Prelude.{if◌then◌else◌}
use Rattle.std.specs.List.{list_any}
use Rattle.epoch_packet.specs.declared.packets.Packet.{Packet}
use Rattle.run_record.specs.Walks.{is_of, number_of}
use Rattle.run_record.proofs.Walking.{number_enters}
use Rattle.run_record.proofs.walks.Walks.enter.Goals as goal

pub invariant_of-self-2 : goal.invariant_of-self-2
invariant_of-self-2 c =
    let js = c.self.inside.journeys.items in
    let k = c.args.packet.value.id in
    let new = subst (λ l. find (is_of k) l ≡ None) (sym c.self.view_is) c.requires in
    let inserted = rw c.unwrap.ensures at c.insert.ensures.keys in (
      subst (λ (p : Packet). c.insert.new.self.keys ≡ (if list_any (λ n. p.id == n) c.reserve.new.self.keys then c.reserve.new.self.keys else c.reserve.new.self.keys ++ p.id ∷ [])) c.deref.ensures inserted
          ∙ (ap (λ ns. if list_any (λ n. k == n) ns then ns else ns ++ k ∷ []) c.reserve.ensures.keys
          ∙ (number_enters c.self.inside.numbers.keys js k c.self.invariant.0 c.in_ok-journey.journey new (ap (λ j. j.number) c.in_ok-journey.ensures)
          ∙ ap (map number_of) (sym c.in_ok-push.ensures.items))),
      tt,
    )
