-- The line of a walk: its front is pending, its visits are gathered, and its end comes last.
use Rattle.std.proofs.Common.{◌≡◌, ℕ, List, [], ◌∷◌, ◌++◌, sym, ap, ◌∙◌, subst, append_assoc}
use Rattle.route_io.specs.Views.{SinkView}
use Rattle.route_replay.specs.declared.ends.RunEnd.{RunEnd}
use Rattle.route_replay.specs.declared.ends.RunEnd.TheVariants.{NoMemory}
use Rattle.route_replay.specs.Gathering.{PageView, Gathers, Breaks}
use Rattle.view_words.specs.Lines.{ended}
use Rattle.route_replay.proofs.Gathered.{gathers_nothing, gathers_on, words_added, words_spilled, breaks_nothing, breaks_more, breaks_after}

module _ (head visits last : List ℕ) where
  -- the three pieces are the line
  pieces : head ++ (visits ++ ended last) ≡ ended (head ++ (visits ++ last))
  pieces = sym (append_assoc head (visits ++ last) (10 ∷ []) ∙ ap (λ bytes. head ++ bytes) (append_assoc visits last (10 ∷ [])))

  module _ (old : PageView) (now : List ℕ) (is : now ≡ old.pending ++ head) where
    -- the visits broke
    pub visits_break : (sink' : SinkView) (why : RunEnd) → Breaks old.sink sink' (now ++ visits) why → Breaks old.sink sink' (old.pending ++ ended (head ++ (visits ++ last))) why
    visits_break sink' why broke =
        let whole : (now ++ visits) ++ ended last ≡ old.pending ++ ended (head ++ (visits ++ last)) =
        append_assoc now visits (ended last)
        ∙ (ap (λ bytes. bytes ++ (visits ++ ended last)) is
        ∙ (append_assoc old.pending head (visits ++ ended last) ∙ ap (λ bytes. old.pending ++ bytes) pieces)) in
        subst (λ bytes. Breaks old.sink sink' bytes why) whole (breaks_more old.sink sink' (now ++ visits) (ended last) why broke)

    module _ (mid : PageView) (gathers : Gathers (record { sink = old.sink; pending = now }) mid visits) where
      front : Gathers old mid (head ++ visits)
      front = words_added old mid now head visits is gathers

      -- memory ran out behind them
      pub end_breaks : Breaks old.sink mid.sink (old.pending ++ ended (head ++ (visits ++ last))) NoMemory
      end_breaks =
          subst (λ bytes. Breaks old.sink mid.sink (old.pending ++ bytes) NoMemory) (append_assoc head visits (ended last) ∙ pieces)
          (breaks_after old mid mid.sink (head ++ visits) (ended last) NoMemory front (breaks_nothing mid.sink (mid.pending ++ ended last)))

      -- the line is gathered
      pub line_gathers : (end : List ℕ) → end ≡ mid.pending ++ ended last → Gathers old (record { sink = mid.sink; pending = end }) (ended (head ++ (visits ++ last)))
      line_gathers end made =
          let new : PageView = record { sink = mid.sink; pending = end } in
          subst (Gathers old new) (append_assoc head visits (ended last) ∙ pieces)
          (gathers_on old mid new (head ++ visits) (ended last) front (words_spilled mid new end (ended last) made (gathers_nothing new)))
