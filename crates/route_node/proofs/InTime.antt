-- Answers are written in time.
use Rattle.std.proofs.Common.{ℕ, ◌≡◌, ◌⊎◌, inl, inr, Option, Some, List, [], ◌∷◌, ◌++◌, length, sym, ap, ◌∙◌, subst, append_assoc, option_map}
use Rattle.std.proofs.lemmas.List.{append-nil}
use Rattle.topology.specs.Lists.{Begins}
use Rattle.route_io.specs.Acts.{came, written, AreWrites, ActsOnce}
use Rattle.route_io.specs.Views.{StreamAct, Read, Write, LinkView}
use Rattle.route_io.proofs.Acts.{came_behind, written_behind}
use Rattle.wire_frames.specs.declared.frames.Frame.{Frame}
use Rattle.wire_frames.specs.Frames.{spell}
use Rattle.wire_frames.specs.Reading.{Whole, Partial, found}
use Rattle.route_node.specs.Prompt.{IsPrompt}
use Rattle.route_node.specs.Running.{AnswersGrow, KeepsUp}
use Rattle.route_node.specs.Who.{Who}
use Rattle.route_node.specs.Streams.{stream, answers, AreTaken}
use Rattle.route_node.specs.Writing.{OneWriteEach}
use Rattle.route_node.proofs.Unique.{Longer, compare, oldest, from_oldest, in_front, all_spelled, taken_oldest}

-- told acts after one more was made
pub told_once : (was now : Option (List StreamAct)) (act : StreamAct) (acts : List StreamAct) → now ≡ option_map (λ before. act ∷ before) was → was ≡ Some acts → now ≡ Some (act ∷ acts)
told_once was now act acts once is = once ∙ ap (option_map (λ before. act ∷ before)) is

-- told acts after some more were made
pub told_behind : (was now : Option (List StreamAct)) (more since before : List StreamAct) → now ≡ option_map (λ acts. more ++ acts) was → was ≡ Some (since ++ before) → now ≡ Some ((more ++ since) ++ before)
told_behind was now more since before behind is =
    behind ∙ (ap (option_map (λ acts. more ++ acts)) is ∙ ap (λ (l : List StreamAct). Some l) (sym (append_assoc more since before)))

-- a read is no write
pub one_write_read : (link mid link' : LinkView) (frames : List Frame) (brought : Option (List ℕ)) → OneWriteEach frames link mid → ActsOnce mid link' (Read brought) → OneWriteEach frames link link'
one_write_read link mid link' frames brought each once = λ left room small before told.
    let known = each left room small before told in
    (Read brought ∷ known.0, told_once mid.acts link'.acts (Read brought) (known.0 ++ before) once known.1, known.2)

module _ (who : Who) where
  -- ---- the answers to more frames

  same_begins : (xs ys : List ℕ) → xs ≡ ys → Begins xs ys
  same_begins xs ys e = ([], append-nil xs ∙ e)

  -- no frame has earlier frames
  pub grows_none : AnswersGrow who []
  grows_none [] older e = same_begins (answers who older) (answers who []) (ap (answers who) (sym e))
  grows_none (x ∷ newer) older e = absurd (cc e)

  -- one more frame: its replies come after those before
  pub grows_more : (f : Frame) (frames : List Frame) (more : List ℕ) → answers who (f ∷ frames) ≡ answers who frames ++ more → AnswersGrow who frames → AnswersGrow who (f ∷ frames)
  grows_more f frames more is grow [] older e = same_begins (answers who older) (answers who (f ∷ frames)) (ap (answers who) (sym e))
  grows_more f frames more is grow (x ∷ newer) older e =
      let tail : frames ≡ newer ++ older = cc e in
      let before = grow newer older tail in
      (before.0 ++ more, sym (append_assoc (answers who older) before.0 more) ∙ (ap (λ (l : List ℕ). l ++ more) before.1 ∙ sym is))

  -- ---- whole frames at the front of what came

  -- if after the frames that were taken only the beginning of one is left, all whole frames at the front are among
  -- these
  answered_all : (frames others : List Frame) (received rest : List ℕ) → AnswersGrow who frames → AreTaken who frames → found received ≡ Partial → AreTaken who others
      → stream others ++ rest ≡ stream frames ++ received → Begins (answers who others) (answers who frames)
  answered_all frames others received rest grow taken partial are same = by_longer (compare frames others received rest (all_spelled who frames taken) (all_spelled who others are) (sym same))
    where
      no_whole : (x : Frame) (left : List ℕ) → AreTaken who (x ∷ frames) → received ≡ spell x ++ left → ⊥
      no_whole x left next is =
          let there : Whole x (length (spell x)) ≡ Partial = sym (in_front x left next.0) ∙ (ap found (sym is) ∙ partial) in
          absurd (cc there)

      by_oldest : (longer : Longer frames others received rest) → (longer.more ≡ []) ⊎ ((x : Frame) × (newer : List Frame) × (longer.more ≡ newer ++ x ∷ [])) → Begins (answers who others) (answers who frames)
      by_oldest longer (inl none) = same_begins (answers who others) (answers who frames) (ap (answers who) (longer.others_are ∙ ap (λ (l : List Frame). l ++ frames) none))
      by_oldest longer (inr (x, newer, is)) =
          absurd (no_whole x (stream newer ++ rest)
          (taken_oldest who newer x frames (subst (AreTaken who) (longer.others_are ∙ ap (λ (l : List Frame). l ++ frames) is) are))
          (longer.rest_is ∙ (ap (λ (t : List ℕ). t ++ rest) (ap stream is ∙ from_oldest newer x) ∙ append_assoc (spell x) (stream newer) rest)))

      by_longer : Longer frames others received rest ⊎ Longer others frames rest received → Begins (answers who others) (answers who frames)
      by_longer (inl longer) = by_oldest longer (oldest longer.more)
      by_longer (inr longer) = grow longer.more others longer.others_are

  -- ---- acts

  -- no act was made
  pub prompt_none : IsPrompt who []
  prompt_none [] earlier brought e = absurd (cc e)
  prompt_none (act ∷ later) earlier brought e = absurd (cc e)

  -- one write after others
  prompt_write : (piece : List ℕ) (took : Option ℕ) (acts : List StreamAct) → IsPrompt who acts → IsPrompt who (Write piece took ∷ acts)
  prompt_write piece took acts prompt [] earlier brought e = absurd (cc e)
  prompt_write piece took acts prompt (act ∷ later) earlier brought e = prompt later earlier brought (cc e)

  -- several writes after others
  pub prompt_writes : (more acts : List StreamAct) → AreWrites more → IsPrompt who acts → IsPrompt who (more ++ acts)
  prompt_writes [] acts alone prompt = prompt
  prompt_writes (Read bytes ∷ more) acts alone prompt = absurd alone
  prompt_writes (Write piece took ∷ more) acts alone prompt = prompt_write piece took (more ++ acts) (prompt_writes more acts alone prompt)

  -- one read after others, in time
  prompt_read : (acts : List StreamAct) (bytes : Option (List ℕ)) → IsPrompt who acts
      → ((frames : List Frame) → Begins (stream frames) (came acts) → AreTaken who frames → Begins (answers who frames) (written acts))
      → IsPrompt who (Read bytes ∷ acts)
  prompt_read acts bytes prompt now [] earlier brought e =
      let same : acts ≡ earlier = cc e in
      subst (λ (l : List StreamAct). (frames : List Frame) → Begins (stream frames) (came l) → AreTaken who frames → Begins (answers who frames) (written l)) same now
  prompt_read acts bytes prompt now (act ∷ later) earlier brought e = prompt later earlier brought (cc e)

  module _ (frames : List Frame) (received : List ℕ) (since : List StreamAct) (keeps : KeepsUp who frames received since) where
    -- a read when only the beginning of a frame is left
    pub prompt_wait : (bytes : Option (List ℕ)) → AnswersGrow who frames → AreTaken who frames → found received ≡ Partial → IsPrompt who (Read bytes ∷ since)
    prompt_wait bytes grow taken partial =
        prompt_read since bytes keeps.prompt
        (λ others front are.
        subst (Begins (answers who others)) (sym keeps.took) (answered_all frames others received front.0 grow taken partial are (front.1 ∙ keeps.brought)))

    -- the read brought more
    pub keeps_read : (more : List ℕ) (next : List ℕ) → next ≡ received ++ more → AnswersGrow who frames → AreTaken who frames → found received ≡ Partial
        → KeepsUp who frames next (Read (Some more) ∷ since)
    keeps_read more next is grow taken partial = record {
      brought = ap (λ (l : List ℕ). l ++ more) keeps.brought ∙ (append_assoc (stream frames) received more ∙ ap (λ (l : List ℕ). stream frames ++ l) (sym is));
      took = keeps.took;
      prompt = prompt_wait (Some more) grow taken partial;
    }

    -- a frame was taken, and the writes took its answers
    pub keeps_taken : (f : Frame) (next told : List ℕ) (more : List StreamAct) → AreWrites more → written more ≡ told → received ≡ spell f ++ next
        → answers who (f ∷ frames) ≡ answers who frames ++ told → KeepsUp who (f ∷ frames) next (more ++ since)
    keeps_taken f next told more alone took splits is = record {
      brought =
          came_behind more since alone
          ∙ (keeps.brought ∙ (ap (λ (l : List ℕ). stream frames ++ l) splits ∙ sym (append_assoc (stream frames) (spell f) next)));
      took = written_behind more since ∙ (ap (λ (l : List ℕ). l ++ written more) keeps.took ∙ (ap (λ (l : List ℕ). answers who frames ++ l) took ∙ sym is));
      prompt = prompt_writes more since alone keeps.prompt;
    }
