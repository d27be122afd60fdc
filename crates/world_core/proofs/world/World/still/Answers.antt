use Rattle.std.proofs.Common.{◌≡◌, ◌∙◌, List, ℕ, ap, subst}
use Rattle.topology.specs.Net.{Net}
use Rattle.chronicle.specs.Run.{run}
use Rattle.deflect_delivery.specs.declared.stills.Still.{Still}
use Rattle.delivery_laws.specs.Now.{links_up, owners_of, still_now}
use Rattle.world_core.specs.Matching.{AreLinks}
use Rattle.world_core.proofs.world.World.still.Goals as goal

-- the parts, put together
made : List (ℕ × ℕ) → List ℕ → List (List ℕ) → Still
made up owners orders = record { up = up; owners = owners; orders = orders }

pub returns : goal.returns
unfolding still_now made
returns g c =
    let world = c.args.self.now in
    let past = run (g.P.Policy.rules world.policy) world.net world.events in
    let up = subst (λ (t : Net). AreLinks t past c.links.result.now → c.in_ok-ends.ends.items ≡ links_up t past) c.topology.ensures (c.in_ok-ends.ensures past) c.links.ensures in
    ap (λ a. made a c.new-owners.result c.new-orders.result) (c.new-up.ensures ∙ up)
    ∙ (ap (λ b. made (links_up world.net past) b c.new-orders.result) (c.new-owners.ensures ∙ c.in_ok-owning.ensures)
    ∙ ap (made (links_up world.net past) (owners_of world.net past c.args.prefix)) (c.new-orders.ensures ∙ c.in_ok-tried.ensures))
