use Rattle.std.proofs.Common.{refl, sym, subst}
use Rattle.std.specs.Prelude.{OnOk}
use Rattle.leadership.specs.declared.floors.Floors.{Floors}
use Rattle.leadership.specs.Facts.{Message}
use Rattle.leadership.specs.Floors.{AddsMessage}
use Rattle.leadership.proofs.Flooring.{follows_prepare, where_ok}
use Rattle.leadership.proofs.floors.Floors.hear.Goals as goal

pub returns-in-PrepareFrom-clause-ok : goal.returns-in-PrepareFrom-clause-ok
returns-in-PrepareFrom-clause-ok c =
    let now : Floors = record { prepared = c.raise.new.floors; offered = c.args.self.now.offered } in
    subst (λ (m : Message). OnOk c.raise.result (AddsMessage m c.args.self.now now)) (sym c.in-PrepareFrom.is)
    (where_ok c.raise.result (λ raised. follows_prepare c.args.self.now now c.in-PrepareFrom.epoch c.in-PrepareFrom.ballot raised refl) c.raise.ensures.ok)
