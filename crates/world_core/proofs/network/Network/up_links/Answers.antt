use Rattle.std.proofs.Common.{◌≡◌, ◌≤◌, ◌+◌, ◌++◌, ◌∙◌, true, List, ℕ, drop, filter, refl, sym, ap, arith, length, subst}
use Rattle.std.proofs.lemmas.List.{append-nil}
use Rattle.std.proofs.lemmas.Option.{slice_get_read}
use Rattle.topology.specs.LinkStates.{is_up}
use Rattle.topology.specs.Lists.{has}
use Rattle.topology.specs.Net.{neighbours}
use Rattle.topology.proofs.Places.{has_placed}
use Rattle.chronicle.specs.Links.{link}
use Rattle.chronicle.specs.Run.{up_links}
use Rattle.world_core.proofs.Near.{passes_on, passed_over}
use Rattle.world_core.proofs.Places.{drop_at, drop_end}
use Rattle.world_core.proofs.Telling.{neighbour_linked}
use Rattle.world_core.proofs.network.Network.up_links.Goals as goal
use Rattle.world_core.proofs.network.Network.up_links.Goals.{then-is_up+in_ok-push, else-is_up}

pub loop-nbr-preserved : goal.loop-nbr-preserved
loop-nbr-preserved g c =
    let net = c.args.self.now.topology.value in
    let u = c.args.node in
    let near = c.neighbours-neighbours.result.now in
    let i = c.loop-nbr.nbr-index in
    let x = c.nbr-item.result in
    let here = slice_get_read near (length near) i x refl c.loop-nbr-test.true c.nbr-item.is in
    let are_near : near ≡ neighbours net u = c.neighbours-neighbours.ensures.neighbours ∙ ap (λ t. neighbours t u) c.deref.ensures in
    let joined = neighbour_linked net u x (subst (λ l. has l x ≡ true) are_near (has_placed near i x here)) in
    record {
      so_far = λ past are.
          let state = c.is_up.ensures ∙ ap is_up (c.state_near.ensures net are.acts are.stands joined ∙ are.states u x) in
          let before = subst (λ l. c.loop-nbr.up.items ++ filter (λ w. is_up (link u w past)) l ≡ filter (λ w. is_up (link u w past)) near) (drop_at near i x here) (c.loop-nbr.invariant.so_far past are) in
          elim c.if-is_up.branch [
            | then-is_up+in_ok-push w ↦
                ap (λ (l : List ℕ). l ++ filter (λ w. is_up (link u w past)) (drop (i + 1) near)) (ap (λ v. v.items) w.up-is ∙ w.in_ok-push.ensures.items)
                ∙ passes_on (λ w. is_up (link u w past)) c.loop-nbr.up.items x (drop (i + 1) near) (filter (λ w. is_up (link u w past)) near) before (sym state ∙ w.if-is_up.true)
            | else-is_up w ↦
                ap (λ (l : List ℕ). l ++ filter (λ w. is_up (link u w past)) (drop (i + 1) near)) (ap (λ v. v.items) w.up-is)
                ∙ passed_over (λ w. is_up (link u w past)) c.loop-nbr.up.items x (drop (i + 1) near) (filter (λ w. is_up (link u w past)) near) before (sym state ∙ w.if-is_up.false)
          ];
    }

pub returns : goal.returns
unfolding up_links
returns g c past are =
    let net = c.args.self.now.topology.value in
    let u = c.args.node in
    let near = c.neighbours-neighbours.result.now in
    let are_near : near ≡ neighbours net u = c.neighbours-neighbours.ensures.neighbours ∙ ap (λ t. neighbours t u) c.deref.ensures in
    let ends : length near ≤ c.loop-nbr.nbr-index = omega arith in
    let all = subst (λ l. c.loop-nbr.up.items ++ filter (λ w. is_up (link u w past)) l ≡ filter (λ w. is_up (link u w past)) near) (drop_end near c.loop-nbr.nbr-index ends) (c.loop-nbr.invariant.so_far past are) in
    sym (append-nil c.loop-nbr.up.items) ∙ (all ∙ ap (filter (λ w. is_up (link u w past))) are_near)
