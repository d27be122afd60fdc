use Rattle.std.proofs.Common.{◌≡◌, suc, ◌≤◌, ◌-◌, ◌+◌, ◌++◌, length, drop, arith, ap, ◌∙◌, subst, ⊎_elim}
use Rattle.std.specs.Prelude.{OnOk}
use Rattle.std.specs.String.{string_bytes}
use Rattle.path_vector.specs.History.{change}
use Rattle.trigger_log.specs.Entered.{all_entered}
use Rattle.chronicle.specs.Drops.{dropped}
use Rattle.chronicle.specs.Logs.{log_of}
use Rattle.view_words.specs.Entries.{line_of}
use Rattle.route_replay.specs.LogText.{entry_line, log_lines}
use Rattle.route_replay.specs.Past.{past_of}
use Rattle.route_replay.proofs.Logs.{at_kept, entries_before, shows_line}
use Rattle.route_replay.proofs.Shown.{length-log_lines, some_unless}
use Rattle.route_replay.proofs.Gathered.{line_if_made}
use Rattle.route_replay.proofs.log_text.log_words.Goals as goal

-- there is such an entry
pub unwrap-entry-requires : goal.unwrap-entry-requires
unwrap-entry-requires g c =
    let world = c.args.world.now in
    let rules = g.P.Policy.rules world.policy in
    let past = past_of rules world in
    let h = log_of c.args.id past in
    let stands = c.log-log.ensures.log world.policy world.net c.args.id past c.requires.node in
    let drops = c.log-log.ensures.dropped world.policy world.net c.args.id past c.requires.node in
    let from = c.kept_from.ensures.place world.policy world.net c.args.id h stands in
    let room = c.kept_from.ensures.few world.policy world.net c.args.id h stands in
    let inside : c.args.number ≤ length h - dropped world.net c.args.id past = omega (arith, c.requires.inside, length-log_lines rules world.net past c.args.id) in
    let place : c.saturating_add-place.result ≡ dropped world.net c.args.id past + c.args.number =
    omega (arith, c.saturating_add-place.ensures, c.saturating_sub-dropped.ensures, from, room, drops, inside, c.requires.from_one) in
    some_unless c.entry.result (λ none. ⊎_elim
    (λ gone. omega (arith, gone, place, drops, c.requires.from_one))
    (λ past_end. omega (arith, past_end, place, inside, c.requires.from_one))
    ((c.entry.ensures.none world.policy world.net c.args.id h stands).0 none))

pub returns : goal.returns
unfolding log_lines
returns g c =
    let world = c.args.world.now in
    let node = c.args.id in
    let number = c.args.number in
    let place = c.saturating_add-place.result in
    let rules = g.P.Policy.rules world.policy in
    let past = past_of rules world in
    let h = log_of node past in
    let n = dropped world.net node past in
    let shown = c.unwrap-entry.result.now in
    let stands = c.log-log.ensures.log world.policy world.net node past c.requires.node in
    let drops = c.log-log.ensures.dropped world.policy world.net node past c.requires.node in
    let from = c.kept_from.ensures.place world.policy world.net node h stands in
    let room = c.kept_from.ensures.few world.policy world.net node h stands in
    let inside : number ≤ length h - n = omega (arith, c.requires.inside, length-log_lines rules world.net past node) in
    let is : place ≡ n + number = omega (arith, c.saturating_add-place.ensures, c.saturating_sub-dropped.ensures, from, room, drops, inside, c.requires.from_one) in
    let kept = (rw c.unwrap-entry.ensures at c.entry.ensures.some) world.policy world.net node h stands in
    let counts : place ≡ suc (length kept.0.before) = omega (arith, entries_before h (place - 1) kept.0 kept.1, is, c.requires.from_one) in
    let same = ap (λ net. line_of net node place shown.triggers (change shown.scope shown.cause) shown.sent) c.topology.ensures ∙ shows_line rules world.net node kept.0 shown place kept.2 counts in
    let made = subst (λ words. OnOk c.entry_line.result (string_bytes c.entry_line.new.out ≡ string_bytes c.args.out.now ++ words)) same c.entry_line.ensures in
    let there = at_kept n (number - 1) (place - 1) (all_entered h) (omega (arith, is, c.requires.from_one)) ∙ kept.1 in
    line_if_made c.entry_line.result (entry_line rules world.net node) (drop n (all_entered h)) (number - 1) kept.0 (string_bytes c.args.out.now) (string_bytes c.entry_line.new.out) there made
