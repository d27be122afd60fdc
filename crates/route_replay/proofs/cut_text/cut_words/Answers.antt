use Rattle.std.proofs.Common.{◌≡◌, ℕ, suc, ◌<◌, ◌-◌, ◌++◌, length, slice_get, Some, Option, List, true, arith, refl, sym, ap, ◌∙◌, subst}
use Rattle.std.specs.Prelude.{OnOk, IfSome, option_map}
use Rattle.std.specs.String.{string_bytes}
use Rattle.std.proofs.lemmas.List.{append-nil, get_or_read}
use Rattle.std.proofs.lemmas.Option.{slice_get_read}
use Rattle.topology.specs.Lists.{has}
use Rattle.topology.specs.Net.{Net, neighbours}
use Rattle.topology.proofs.Sets.{has_at}
use Rattle.trigger_log.specs.Entries.{Entry}
use Rattle.view_words.specs.Cuts.{cut_line}
use Rattle.route_replay.specs.Past.{past_of}
use Rattle.route_replay.proofs.Cuts.{cut_piece, near_piece}
use Rattle.route_replay.proofs.Gathered.{piece_if_made}
use Rattle.route_replay.proofs.Recorded.{not_recorded, is_recorded}
use Rattle.route_replay.proofs.Shown.{length-cut_lines}
use Rattle.route_replay.proofs.cut_text.cut_words.Goals as goal

-- the line of the cut
pub returns-then-number-eq1 : goal.returns-then-number-eq1
returns-then-number-eq1 g c =
    let world = c.args.world.now in
    let past = past_of (g.P.Policy.rules world.policy) world in
    let has_them = c.snapshots-snapshots.ensures world.policy world.net c.args.id past c.requires.node in
    let count = c.cut_of.ensures world.net c.args.id has_them.acts has_them.stands ∙ ap (λ (o : Option (List Entry)). option_map length o) (has_them.alike.same_cut c.args.epoch) in
    let made = subst (λ (o : Option ℕ). OnOk c.cut_line.result (string_bytes c.cut_line.new.out ≡ string_bytes c.args.out.now ++ cut_line c.args.id c.args.epoch o)) count c.cut_line.ensures in
    piece_if_made c.cut_line.result _ _ (string_bytes c.args.out.now) (string_bytes c.cut_line.new.out)
    (cut_piece world.net past c.args.epoch c.args.id (c.args.number - 1) (omega (arith, c.if-number-eq1.true))) made

-- no session with the neighbour is recorded
pub returns-in_default : goal.returns-in_default
returns-in_default g c =
    let world = c.args.world.now in
    let past = past_of (g.P.Policy.rules world.policy) world in
    let e = c.args.epoch in
    let id = c.args.id in
    let nbrs = c.neighbours.result.now in
    let nbr = c.index-neighbours-number.result in
    let i = c.args.number - 2 in
    let near : nbrs ≡ neighbours world.net id = c.neighbours.ensures.neighbours ∙ ap (λ (net : Net). neighbours net id) c.topology.ensures in
    let inside : i < length nbrs = omega (arith, c.requires.inside, c.requires.from_one, c.if-number-eq1.false, length-cut_lines world.net past e id, ap length near) in
    let at : slice_get (neighbours world.net id) i ≡ Some nbr = ap (λ ns. slice_get ns i) (sym near) ∙ slice_get_read nbrs _ i nbr refl inside c.index-neighbours-number.is in
    let known : has (neighbours world.net id) nbr ≡ true =
    ap (λ ns. has ns nbr) (sym near) ∙ has_at nbrs nbr i inside (sym (get_or_read nbrs i nbr inside c.index-neighbours-number.is 0)) in
    let has_them = c.snapshots-snapshots.ensures world.policy world.net id past c.requires.node in
    let none = c.in_default.ensures.none world.net id has_them.acts has_them.stands known in
    let later : c.args.number - 1 ≡ suc i = omega (arith, c.requires.from_one, c.if-number-eq1.false) in
    subst (λ (o : Option (List ℕ)). IfSome o (λ words. string_bytes c.args.out.now ≡ string_bytes c.args.out.now ++ words))
    (sym (near_piece world.net past e id (c.args.number - 1) i nbr _ later at (not_recorded has_them.acts id past has_them.alike e nbr none)))
    (sym (append-nil (string_bytes c.args.out.now)))

-- the line of its recording
pub returns : goal.returns
returns g c =
    let world = c.args.world.now in
    let past = past_of (g.P.Policy.rules world.policy) world in
    let e = c.args.epoch in
    let id = c.args.id in
    let nbrs = c.neighbours.result.now in
    let nbr = c.index-neighbours-number.result in
    let i = c.args.number - 2 in
    let near : nbrs ≡ neighbours world.net id = c.neighbours.ensures.neighbours ∙ ap (λ (net : Net). neighbours net id) c.topology.ensures in
    let inside : i < length nbrs = omega (arith, c.requires.inside, c.requires.from_one, c.if-number-eq1.false, length-cut_lines world.net past e id, ap length near) in
    let at : slice_get (neighbours world.net id) i ≡ Some nbr = ap (λ ns. slice_get ns i) (sym near) ∙ slice_get_read nbrs _ i nbr refl inside c.index-neighbours-number.is in
    let has_them = c.snapshots-snapshots.ensures world.policy world.net id past c.requires.node in
    let shows = c.in-Some.ensures.some world.net id has_them.acts has_them.stands in
    let later : c.args.number - 1 ≡ suc i = omega (arith, c.requires.from_one, c.if-number-eq1.false) in
    piece_if_made c.recording_line.result _ _ (string_bytes c.args.out.now) (string_bytes c.recording_line.new.out)
    (near_piece world.net past e id (c.args.number - 1) i nbr _ later at (is_recorded has_them.acts id past has_them.alike e nbr c.in-Some.recording shows)) c.recording_line.ensures
