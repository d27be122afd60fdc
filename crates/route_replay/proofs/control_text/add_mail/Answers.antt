use Rattle.std.proofs.Common.{◌≡◌, ℕ, zero, suc, ◌+◌, ◌<◌, ◌≤◌, ◌-◌, ◌++◌, Option, Some, None, List, length, slice_get, arith, sym, ap, ◌∙◌, subst, ⊎_elim}
use Rattle.std.specs.Prelude.{OnOk, IfSome, is_some}
use Rattle.std.specs.List.{enumerate_from}
use Rattle.std.specs.String.{string_bytes}
use Rattle.std.proofs.lemmas.Option.{slice_get_past, slice_get_cases, slice_get_within}
use Rattle.control_mail.specs.Readings.{Letter, at_place}
use Rattle.consolidator.specs.Seen.{message_seen}
use Rattle.chronicle.specs.Control.{mailed}
use Rattle.chronicle.specs.Deliveries.{deliveries}
use Rattle.view_words.specs.Mails.{mail_line}
use Rattle.route_replay.specs.ControlText.{mail_lines}
use Rattle.route_replay.specs.Past.{past_of}
use Rattle.route_replay.proofs.Gathered.{line_if_made, enumerated_from}
use Rattle.route_replay.proofs.Shown.{length-mail_lines}
use Rattle.route_replay.proofs.control_text.add_mail.Goals as goal

-- a number from 1 is a place
place_of : {X : Type 0} (xs : List X) (number : ℕ) → 0 < number → at_place number xs ≡ slice_get xs (number - 1)
place_of xs zero some = absurd (omega (arith, some))
place_of xs (suc k) some = let same : k ≡ suc k - 1 = omega arith in ap (slice_get xs) same

-- where nothing stands, the list ends before
ends_before : {X : Type 0} (xs : List X) (i : ℕ) → slice_get xs i ≡ None → length xs ≤ i
ends_before xs i none = ⊎_elim (λ found. absurd (cc (found.2, none))) (λ past. past.0) (slice_get_cases xs i).1

-- no message has the number: there is no such line
pub returns-in_default : goal.returns-in_default
returns-in_default g c =
    let world = c.args.world.now in
    let rules = g.P.Policy.rules world.policy in
    let letters = mailed (past_of rules world) in
    let number = c.args.number in
    let none : slice_get letters (number - 1) ≡ None = sym (place_of letters number c.requires) ∙ c.mail.ensures.none.0 (ap is_some c.in_default.is) in
    let over : length (mail_lines rules world.net world.events) ≤ number - 1 = omega (arith, length-mail_lines rules world.net world.events, ends_before letters (number - 1) none) in
    subst (λ (o : Option (List ℕ)). IfSome o (λ words. string_bytes c.args.out.now ≡ string_bytes c.args.out.now ++ words))
    (sym (slice_get_past (mail_lines rules world.net world.events) (number - 1) over)) tt

pub returns : goal.returns
unfolding mail_lines
returns g c =
    let world = c.args.world.now in
    let rules = g.P.Policy.rules world.policy in
    let letters = mailed (past_of rules world) in
    let number = c.args.number in
    let place = number - 1 in
    let known = rw c.in-Some.is at c.mail.ensures.some in
    let kept = c.in-Some.kept in
    let letter : Letter = record { from = kept.0; to = kept.1.now.to; message = message_seen kept.1.now.message } in
    let found : slice_get letters place ≡ Some letter = sym (place_of letters number c.requires) ∙ known.0 in
    let inside : place < length letters = slice_get_within letters place letter found in
    let counted : 1 + place ≡ number = omega (arith, c.requires) in
    let at : slice_get (enumerate_from 1 letters) place ≡ Some (number, letter) = enumerated_from 1 letters place letter inside found ∙ ap (λ (n : ℕ). Some (n, letter)) counted in
    let line = λ (m : ℕ × Letter). mail_line m.0 m.1 (deliveries rules world.net world.events m.0) in
    let made = subst (λ n. OnOk c.mail_words.result (string_bytes c.mail_words.new.out ≡ string_bytes c.args.out.now ++ mail_line number letter n)) known.1 c.mail_words.ensures in
    line_if_made c.mail_words.result line (enumerate_from 1 letters) place (number, letter) (string_bytes c.args.out.now) (string_bytes c.mail_words.new.out) at made
