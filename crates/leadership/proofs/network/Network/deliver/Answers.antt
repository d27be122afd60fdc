use Rattle.std.proofs.Common.{◌≡◌, Some, None, length, sym, ap, ap₂, subst, ◌∙◌}
use Rattle.leadership.specs.Facts.{Message}
use Rattle.leadership.specs.Answers.{hears}
use Rattle.leadership.specs.Mails.{StopsAbove}
use Rattle.leadership.specs.Network.{Stands}
use Rattle.leadership.specs.Run.{at_place, mailed}
use Rattle.leadership.specs.Sites.{refusal}
use Rattle.leadership.proofs.Hearing.{letter_crashed, letter_heard, letter_refused, letter_stops, no_letter}
use Rattle.leadership.proofs.Networking.{Member, member_of, still}
use Rattle.leadership.proofs.network.Network.deliver.Goals as goal

pub returns-in_default-clause-goes_on : goal.returns-in_default-clause-goes_on
returns-in_default-clause-goes_on c = λ past h.
    no_letter past c.args.self.now h c.args.number _ (sym (c.in_default.ensures ∙ ap (at_place c.args.number) c.as_slice.ensures)) h

pub returns-then-index-clause-goes_on : goal.returns-then-index-clause-goes_on
returns-then-index-clause-goes_on c = λ past h.
    let is : at_place c.args.number c.args.self.now.mails ≡ Some c.in-Some.letter.now = sym (c.in-Some.ensures ∙ ap (at_place c.args.number) c.as_slice.ensures) in
    let m : Member c.args.self.now c.in-Some.letter.now.to c.place_of-place.result c.index.result.now =
    member_of c.args.self.now c.in-Some.letter.now.to c.place_of-place.result c.deref.result.now c.index.result.now c.place_of-place.ensures c.deref.ensures.value c.index.ensures in
    letter_crashed past c.args.self.now h c.args.number c.in-Some.letter.now is c.place_of-place.result c.index.result.now m _ c.if-index.true h

pub returns-in-Some-refusal-clause-goes_on : goal.returns-in-Some-refusal-clause-goes_on
returns-in-Some-refusal-clause-goes_on c = λ past h.
    let is : at_place c.args.number c.args.self.now.mails ≡ Some c.in-Some.letter.now = sym (c.in-Some.ensures ∙ ap (at_place c.args.number) c.as_slice.ensures) in
    let m : Member c.args.self.now c.in-Some.letter.now.to c.place_of-place.result c.index-2.result.now =
    member_of c.args.self.now c.in-Some.letter.now.to c.place_of-place.result c.deref.result.now c.index-2.result.now c.place_of-place.ensures c.deref.ensures.value c.index-2.ensures in
    let why : refusal (length c.args.self.now.members.items) c.index-2.result.now c.in-Some.letter.now.from c.in-Some.letter.now.message ≡ Some c.in-Some-refusal.why =
    ap₂ (λ n (z : Message). refusal n c.index-2.result.now c.in-Some.letter.now.from z) (sym (c.count.ensures ∙ ap length c.deref-2.ensures.value)) (sym c.in-Ok.ensures) ∙ sym c.in-Some-refusal.ensures in
    letter_refused past c.args.self.now h c.args.number c.in-Some.letter.now is c.place_of-place.result c.index-2.result.now m c.in-Some-refusal.why _ (still c.args.self.now c.in-Some.letter.now.to c.place_of-place.result c.index-2.result.now c.index.result.now _ m c.index.ensures c.if-index.false) why h

pub returns-in-Ok-hear-clause-goes_on : goal.returns-in-Ok-hear-clause-goes_on
returns-in-Ok-hear-clause-goes_on c = λ past h.
    let is : at_place c.args.number c.args.self.now.mails ≡ Some c.in-Some.letter.now = sym (c.in-Some.ensures ∙ ap (at_place c.args.number) c.as_slice.ensures) in
    let m : Member c.args.self.now c.in-Some.letter.now.to c.place_of-place.result c.index-2.result.now =
    member_of c.args.self.now c.in-Some.letter.now.to c.place_of-place.result c.deref.result.now c.index-2.result.now c.place_of-place.ensures c.deref.ensures.value c.index-2.ensures in
    let why : refusal (length c.args.self.now.members.items) c.index-2.result.now c.in-Some.letter.now.from c.in-Some.letter.now.message ≡ None =
    ap₂ (λ n (z : Message). refusal n c.index-2.result.now c.in-Some.letter.now.from z) (sym (c.count.ensures ∙ ap length c.deref-2.ensures.value)) (sym c.in-Ok.ensures) ∙ sym c.in_default-refusal.ensures in
    letter_heard past c.args.self.now h c.args.number c.in-Some.letter.now is c.place_of-place.result c.index-2.result.now m c.hear.new.self (still c.args.self.now c.in-Some.letter.now.to c.place_of-place.result c.index-2.result.now c.index.result.now _ m c.index.ensures c.if-index.false) why
    (subst (λ z. Stands (hears c.args.self.now.members.items past c.in-Some.letter.now.to c.in-Some.letter.now.from z) c.hear.new.self) c.in-Ok.ensures (c.in-Ok-hear.ensures.hears past h))

pub returns-in-Err-clause-stopped : goal.returns-in-Err-clause-stopped
returns-in-Err-clause-stopped c = λ past h.
    let is : at_place c.args.number c.args.self.now.mails ≡ Some c.in-Some.letter.now = sym (c.in-Some.ensures ∙ ap (at_place c.args.number) c.as_slice.ensures) in
    let m : Member c.args.self.now c.in-Some.letter.now.to c.place_of-place.result c.index-2.result.now =
    member_of c.args.self.now c.in-Some.letter.now.to c.place_of-place.result c.deref.result.now c.index-2.result.now c.place_of-place.ensures c.deref.ensures.value c.index-2.ensures in
    let why : refusal (length c.args.self.now.members.items) c.index-2.result.now c.in-Some.letter.now.from c.in-Some.letter.now.message ≡ None =
    ap₂ (λ n (z : Message). refusal n c.index-2.result.now c.in-Some.letter.now.from z) (sym (c.count.ensures ∙ ap length c.deref-2.ensures.value)) (sym c.in-Ok.ensures) ∙ sym c.in_default-refusal.ensures in
    letter_stops past c.args.self.now h c.args.number c.in-Some.letter.now is c.place_of-place.result c.index-2.result.now m c.in-Err.stop (still c.args.self.now c.in-Some.letter.now.to c.place_of-place.result c.index-2.result.now c.index.result.now _ m c.index.ensures c.if-index.false) why
    (subst (λ z. StopsAbove (length (mailed (hears c.args.self.now.members.items past c.in-Some.letter.now.to c.in-Some.letter.now.from z))) c.in-Err.stop) c.in-Ok.ensures (c.in-Err.ensures.stopped past h))
