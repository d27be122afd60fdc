use Rattle.std.proofs.Common.{List, ◌∷◌, ◌++◌, ◌||◌, [], sym, ◌∙◌, ap, subst}
use Rattle.std.specs.BTreeSet.{contains}
use Rattle.leadership.specs.Offers.{AreOffers, by_parts, is_offer}
use Rattle.leadership.specs.Run.{Letter}
use Rattle.leadership.proofs.Offering.{offers_more}
use Rattle.leadership.proofs.mail_list.MailList.push.Goals as goal

pub invariant_of-self-2 : goal.invariant_of-self-2
invariant_of-self-2 c =
    subst (λ (ls : List Letter). AreOffers c.add.new.offers ls) (sym (c.push_reserved.ensures.items ∙ ap (λ (ls : List Letter). ls ++ c.args.letter ∷ []) c.in_ok-reserve.ensures.items))
    (offers_more c.self.inside.offers c.add.new.offers c.self.inside.list.items c.args.letter c.self.invariant
    (λ o. c.in_ok-add.ensures.added o ∙ ap (λ p. is_offer p o || contains by_parts c.self.inside.offers o) c.offer_of.ensures))
