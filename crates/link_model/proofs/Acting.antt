-- What holds of links after every list of acts.
use Rattle.std.proofs.Common.{ℕ, ◌≤◌, Bool, true, false, ◌==◌, ◌&&◌, List, [], ◌∷◌, ◌++◌, ◌≡◌, refl, sym, ◌∙◌, arith, true≢false, if◌then◌else◌}
use Rattle.std.proofs.lemmas.Bool.Decides.{nat_tests}
use Rattle.std.proofs.lemmas.List.{append-nil}
use Rattle.topology.specs.declared.items.Item.{Item}
use Rattle.topology.specs.declared.links.LinkState.{LinkState}
use Rattle.topology.specs.declared.links.LinkState.TheVariants.{Up, Down}
use Rattle.topology.specs.Lists.{Begins}
use Rattle.topology.specs.LinkStates.{are_ends, failed, restored, carries, is_up, number_of}
use Rattle.link_model.specs.Acts.{LinkActs, Push, Take, Fail, Restore}
use Rattle.link_model.specs.Readings.{state, channel_after, behind_front}

ends_turned : (a b c d : ℕ) → are_ends a b c d ≡ are_ends b a c d
ends_turned a b c d = grind (arith, nat_tests)

-- both ends see one link
pub same_link : (a b : ℕ) (acts : LinkActs) → state a b acts ≡ state b a acts
same_link a b [] = refl
same_link a b (Push from to session item ∷ acts) = same_link a b acts
same_link a b (Take from to ∷ acts) = same_link a b acts
same_link a b (Fail c d ∷ acts) = rw (ends_turned a b c d, same_link a b acts) refl
same_link a b (Restore c d ∷ acts) = rw (ends_turned a b c d, same_link a b acts) refl

failed_number : (link : LinkState) → number_of (failed link) ≡ number_of link
failed_number (Up s) = refl
failed_number (Down s) = refl

restored_number : (link : LinkState) → number_of link ≤ number_of (restored link)
restored_number (Up s) = omega arith
restored_number (Down s) = omega arith

fails_number : (t : Bool) (link : LinkState) → number_of link ≤ number_of (if t then failed link else link)
fails_number true link = omega (arith, failed_number link)
fails_number false link = omega arith

restores_number : (t : Bool) (link : LinkState) → number_of link ≤ number_of (if t then restored link else link)
restores_number true link = restored_number link
restores_number false link = omega arith

-- the session number of a link never falls
pub rising : (a b : ℕ) (newer acts : LinkActs) → number_of (state a b acts) ≤ number_of (state a b (newer ++ acts))
rising a b [] acts = omega arith
rising a b (Push from to session item ∷ newer) acts = rising a b newer acts
rising a b (Take from to ∷ newer) acts = rising a b newer acts
rising a b (Fail c d ∷ newer) acts = omega (arith, rising a b newer acts, fails_number (are_ends a b c d) (state a b (newer ++ acts)))
rising a b (Restore c d ∷ newer) acts = omega (arith, rising a b newer acts, restores_number (are_ends a b c d) (state a b (newer ++ acts)))

carries_none : (link : LinkState) (session : ℕ) → is_up link ≡ false → carries link session ≡ false
carries_none (Up s) session e = absurd (true≢false e)
carries_none (Down s) session e = refl

restored_up : (link : LinkState) → is_up (restored link) ≡ true
restored_up (Up s) = refl
restored_up (Down s) = refl

not_pushed : (t carried : Bool) (before more : List Item) → carried ≡ false → before ≡ [] → (if t && carried then before ++ more else before) ≡ []
not_pushed true true before more e empty = absurd (true≢false e)
not_pushed true false before more e empty = empty
not_pushed false carried before more e empty = empty

none_taken : (t : Bool) (before : List Item) → before ≡ [] → (if t then behind_front before else before) ≡ []
none_taken true before empty = rw empty refl
none_taken false before empty = empty

emptied_by : (t : Bool) (link : LinkState) (before : List Item) → is_up (if t then failed link else link) ≡ false → (is_up link ≡ false → before ≡ []) → (if t then [] else before) ≡ []
emptied_by true link before e was = refl
emptied_by false link before e was = was e

still_down : (t : Bool) (link : LinkState) → is_up (if t then restored link else link) ≡ false → is_up link ≡ false
still_down true link e = absurd (true≢false (sym (restored_up link) ∙ e))
still_down false link e = e

-- nothing is on its way over a link that is down
pub empty_down : (a b : ℕ) (acts : LinkActs) → is_up (state a b acts) ≡ false → channel_after a b acts ≡ []
empty_down a b [] e = refl
empty_down a b (Push from to session item ∷ acts) e =
    not_pushed (from == a && to == b) (carries (state a b acts) session) (channel_after a b acts) (item ∷ []) (carries_none (state a b acts) session e) (empty_down a b acts e)
empty_down a b (Take from to ∷ acts) e = none_taken (from == a && to == b) (channel_after a b acts) (empty_down a b acts e)
empty_down a b (Fail c d ∷ acts) e = emptied_by (are_ends a b c d) (state a b acts) (channel_after a b acts) e (λ down. empty_down a b acts down)
empty_down a b (Restore c d ∷ acts) e = empty_down a b acts (still_down (are_ends a b c d) (state a b acts) e)

begins_more : (t : Bool) (before more : List Item) → Begins before (if t then before ++ more else before)
begins_more true before more = (more, refl)
begins_more false before more = ([], append-nil before)

-- a push takes nothing out
pub push_begins : (a b from to session : ℕ) (item : Item) (acts : LinkActs) → Begins (channel_after a b acts) (channel_after a b (Push from to session item ∷ acts))
push_begins a b from to session item acts = begins_more ((from == a && to == b) && carries (state a b acts) session) (channel_after a b acts) (item ∷ [])
