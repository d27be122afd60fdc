-- Outputs, as they stand in their list.
use Rattle.std.proofs.Common.{ℕ, List, [], ◌∷◌, ◌++◌, map, Some, ◌≡◌, refl, sym, ◌∙◌, ap, append_assoc}
use Rattle.std.proofs.lemmas.List.{append-nil, map-append}
use Rattle.trigger_log.specs.declared.outgoing.Outgoing.{Outgoing}
use Rattle.trigger_log.specs.Going.{Going, going_of}
use Rattle.node_core.specs.declared.outputs.Output.{Output as Given}
use Rattle.node_core.specs.declared.outputs.Output.TheVariants as given
use Rattle.node_core.specs.Entries.{first_of}
use Rattle.node_core.specs.Outputs.{Logged, Send, output_of}

-- one item more behind those that stand there
pub sent_more : (start old new : List Given) (done : List Outgoing) (out : Outgoing) → new ≡ old ++ given.Send out ∷ []
    → old ≡ start ++ map (λ out. given.Send out) done → new ≡ start ++ map (λ out. given.Send out) (done ++ out ∷ [])
sent_more start old new done out is was =
    is ∙ (ap (λ l. l ++ given.Send out ∷ []) was
    ∙ (append_assoc start (map (λ out. given.Send out) done) (given.Send out ∷ [])
    ∙ ap (λ l. start ++ l) (sym (map-append (λ out. given.Send out) done (out ∷ [])))))

-- what goes out is shown as it is
sent_shown : (sent : List Outgoing) → map output_of (map (λ out. given.Send out) sent) ≡ map Send (map going_of sent)
sent_shown [] = refl
sent_shown (out ∷ sent) = ap (λ l. Send (going_of out) ∷ l) (sent_shown sent)

-- so is an entry with what goes out with it
pub entry_shown : (old new : List Given) (index : ℕ) (sent : List Outgoing) → new ≡ old ++ first_of (Some index) sent
    → map output_of new ≡ map output_of old ++ Logged index ∷ map Send (map going_of sent)
entry_shown old new index sent is =
    ap (map output_of) is ∙ (map-append output_of old (first_of (Some index) sent)
    ∙ ap (λ l. map output_of old ++ Logged index ∷ l) (sent_shown sent))

-- so is one that the log made: its place is the length of the log, and what goes out is what the entry says
pub made_shown : (old new : List Given) (index count : ℕ) (sent : List Outgoing) (gs : List Going) → new ≡ old ++ first_of (Some index) sent → index ≡ count → map going_of sent ≡ gs
    → map output_of new ≡ map output_of old ++ Logged count ∷ map Send gs
made_shown old new index count sent gs is place goes =
    entry_shown old new index sent is
    ∙ (ap (λ n. map output_of old ++ Logged n ∷ map Send (map going_of sent)) place ∙ ap (λ l. map output_of old ++ Logged count ∷ map Send l) goes)

-- more behind what stands first
pub more_behind : (first old new value more : List Given) → value ≡ first ++ old → new ≡ old ++ more → first ++ new ≡ value ++ more
more_behind first old new value more is grown = ap (λ l. first ++ l) grown ∙ (sym (append_assoc first old more) ∙ ap (λ l. l ++ more) (sym is))

-- where there is nothing, nothing stands behind the first
pub nothing_behind : (first more value : List Given) → first ++ more ≡ value → value ≡ [] → more ≡ []
nothing_behind [] more value is none = is ∙ none
nothing_behind (x ∷ first) more value is none =
    let none_at_all : x ∷ (first ++ more) ≡ [] = is ∙ none in absurd (cc none_at_all)

-- outputs where there was nothing
pub entered_alone : (first more value entered : List Given) → first ++ more ≡ value → value ≡ [] → entered ++ more ≡ value ++ entered
entered_alone first more value entered is none =
    ap (λ l. entered ++ l) (nothing_behind first more value is none) ∙ (append-nil entered ∙ ap (λ l. l ++ entered) (sym none))
