use Rattle.std.proofs.Common.{◌≡◌, ℕ, ◌<◌, ◌-◌, ◌++◌, length, slice_get, Some, arith, sym, ap, ◌∙◌, subst}
use Rattle.std.specs.Prelude.{OnOk, IsSome}
use Rattle.std.specs.List.{enumerate_from}
use Rattle.std.specs.String.{string_bytes}
use Rattle.topology.specs.declared.prefixes.Prefix.{Prefix}
use Rattle.topology.specs.Net.{Net}
use Rattle.path_vector.specs.Selection.{best, path_of}
use Rattle.trigger_log.specs.Entries.{reads}
use Rattle.chronicle.specs.Logs.{log_of}
use Rattle.view_words.specs.Routes.{rib_line}
use Rattle.route_replay.specs.RibText.{rib_lines}
use Rattle.route_replay.specs.Past.{past_of}
use Rattle.route_replay.proofs.Shown.{length-rib_lines, some_at}
use Rattle.route_replay.proofs.Gathered.{line_if_made, enumerated}
use Rattle.route_replay.proofs.rib_text.rib_words.Goals as goal

-- there are few prefixes
pub overflow_cast-number : goal.overflow_cast-number
overflow_cast-number g c =
    let world = c.args.world.now in
    let rules = g.P.Policy.rules world.policy in
    let count = c.prefix_count-count.ensures.count ∙ ap (λ (net : Net). length net.prefixes) c.topology-topology.ensures in
    omega (arith, count, c.prefix_count-count.ensures.few, c.requires.inside, length-rib_lines rules world.net (past_of rules world) c.args.id)

-- there is such a prefix
pub unwrap-prefix-requires : goal.unwrap-prefix-requires
unwrap-prefix-requires g c =
    let world = c.args.world.now in
    let rules = g.P.Policy.rules world.policy in
    let inside : c.args.number - 1 < length world.net.prefixes = omega (arith, c.requires.inside, c.requires.from_one, length-rib_lines rules world.net (past_of rules world) c.args.id) in
    subst IsSome (ap (slice_get world.net.prefixes) (sym c.new-place.ensures) ∙ ap (λ (net : Net). slice_get net.prefixes c.new-place.result) (sym c.topology-topology.ensures) ∙ sym c.prefix.ensures)
    (some_at world.net.prefixes (c.args.number - 1) inside)

pub returns : goal.returns
unfolding rib_lines
returns g c =
    let world = c.args.world.now in
    let node = c.args.id in
    let rules = g.P.Policy.rules world.policy in
    let past = past_of rules world in
    let entries = log_of node past in
    let h = reads entries in
    let place = c.args.number - 1 in
    let prefix = c.unwrap-prefix.result in
    let inside : place < length world.net.prefixes = omega (arith, c.requires.inside, c.requires.from_one, length-rib_lines rules world.net past node) in
    let named : c.new-place.result < length world.net.prefixes = omega (arith, c.new-place.ensures, inside) in
    let found : slice_get world.net.prefixes place ≡ Some prefix =
    ap (slice_get world.net.prefixes) (sym c.new-place.ensures)
    ∙ ap (λ (net : Net). slice_get net.prefixes c.new-place.result) (sym c.topology-topology.ensures)
    ∙ sym c.prefix.ensures ∙ c.unwrap-prefix.ensures in
    let shows = c.best.ensures.best world.policy world.net node h (c.live.ensures world.policy world.net node entries (c.log.ensures.log world.policy world.net node past c.requires.node)) named in
    let line = λ (p : ℕ × Prefix). rib_line node p.1 (path_of node (best rules world.net node h p.0)) in
    let made = subst (λ n. OnOk c.route_line.result (string_bytes c.route_line.new.out ≡ string_bytes c.args.out.now ++ rib_line node prefix (path_of node (best rules world.net node h n)))) c.new-place.ensures
    (c.route_line.ensures (best rules world.net node h c.new-place.result) shows) in
    line_if_made c.route_line.result line (enumerate_from 0 world.net.prefixes) place (place, prefix) (string_bytes c.args.out.now) (string_bytes c.route_line.new.out)
    (enumerated world.net.prefixes place prefix inside found) made
