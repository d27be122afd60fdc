-- How a node over a link ends, from what it took and wrote.
use Rattle.std.proofs.Common.{ℕ, ◌≡◌, true, false, Option, Some, None, List, [], ◌∷◌, ◌++◌, length, refl, sym, ap, ◌∙◌, subst, inl, inr, ◌≤◌, arith}
use Rattle.std.specs.Prelude.{is_some}
use Rattle.std.specs.List.{list_all}
use Rattle.std.specs.Io.KnownBytes.{Appends, IsAtEnd}
use Rattle.std.proofs.lemmas.List.{append-nil}
use Rattle.topology.specs.declared.status.Status.{Status}
use Rattle.topology.specs.declared.status.Status.TheVariants.{Done, NoMemory, Limit, LinkFault, BadFrame, DiskFault}
use Rattle.topology.specs.declared.status.LimitKind.{LimitKind}
use Rattle.topology.specs.declared.frame_faults.FrameFault.{FrameFault}
use Rattle.topology.specs.Lists.{Begins}
use Rattle.route_io.specs.Causes.{RoseIf}
use Rattle.route_io.specs.Links.{IsSure}
use Rattle.route_io.specs.Views.{StreamAct, LinkView}
use Rattle.node_core.specs.NodeLimits.{Reached}
use Rattle.wire_frames.specs.declared.frames.Frame.{Frame}
use Rattle.wire_frames.specs.Frames.{fits as has_spelling}
use Rattle.route_node.specs.Prompt.{IsPrompt}
use Rattle.route_node.specs.Running.{AnswersGrow, EndsServing}
use Rattle.route_node.specs.Streams.{stream, replies, answers, AreTaken, Ending, End, Refused, Stopped, StreamComesTo}
use Rattle.route_node.specs.Served.{ends_serving, status_of, is_whole, older, Answered, BreaksOff, TooLongAnswers}
use Rattle.route_node.specs.Who.{Who}
use Rattle.route_node.proofs.Unique.{come_once}

never_linkfault : (offset : ℕ) (ending : Ending) → status_of offset ending ≡ LinkFault → ⊥
never_linkfault offset End e = absurd (cc e)
never_linkfault offset (Refused fault) e = absurd (cc e)
never_linkfault offset (Stopped reached) e = absurd (cc e)

-- ---- the ending of a status

is_done : (offset : ℕ) (ending : Ending) → status_of offset ending ≡ Done → ending ≡ End
is_done offset End e = refl
is_done offset (Refused fault) e = absurd (cc e)
is_done offset (Stopped reached) e = absurd (cc e)

is_bad : (offset at : ℕ) (fault : FrameFault) (ending : Ending) → status_of offset ending ≡ BadFrame at fault → (ending ≡ Refused fault) × (at ≡ offset)
is_bad offset at fault End e = absurd (cc e)
is_bad offset at fault (Refused other) e = (cc e, cc e)
is_bad offset at fault (Stopped reached) e = absurd (cc e)

is_limit : (offset : ℕ) (kind : LimitKind) (number : ℕ) (ending : Ending) → status_of offset ending ≡ Limit kind number → ending ≡ Stopped (record { kind = kind; number = number })
is_limit offset kind number End e = absurd (cc e)
is_limit offset kind number (Refused fault) e = absurd (cc e)
is_limit offset kind number (Stopped reached) e =
    let first : reached.kind ≡ kind = cc e in let second : reached.number ≡ number = cc e in ap Stopped (same reached first second)
  where
    same : (reached : Reached) → reached.kind ≡ kind → reached.number ≡ number → reached ≡ record { kind = kind; number = number }
    same reached a b = subst (λ k. reached ≡ record { kind = k; number = number }) a (subst (λ n. reached ≡ record { kind = reached.kind; number = n }) b refl)

-- ---- the two ways to end

-- a run that is whole did not break off
no_break : (records : Option (List Frame)) (status s : Status) → BreaksOff records status → (NoMemory ≡ s → ⊥) → (LinkFault ≡ s → ⊥) → (DiskFault ≡ s → ⊥) → status ≡ s → ⊥
no_break None status s (inl e) no_memory no_link no_disk is = no_memory (sym e ∙ is)
no_break None status s (inr e) no_memory no_link no_disk is = no_link (sym e ∙ is)
no_break (Some records) status s (inl e) no_memory no_link no_disk is = no_memory (sym e ∙ is)
no_break (Some records) status s (inr (inl e)) no_memory no_link no_disk is = no_link (sym e ∙ is)
no_break (Some records) status s (inr (inr e)) no_memory no_link no_disk is = no_disk (sym e ∙ is)

not_whole : (records : Option (List Frame)) (status : Status) → BreaksOff records status → is_whole status ≡ true → ⊥
not_whole None status (inl e) is = absurd (cc (sym (ap is_whole e) ∙ is))
not_whole None status (inr e) is = absurd (cc (sym (ap is_whole e) ∙ is))
not_whole (Some records) status (inl e) is = absurd (cc (sym (ap is_whole e) ∙ is))
not_whole (Some records) status (inr (inl e)) is = absurd (cc (sym (ap is_whole e) ∙ is))
not_whole (Some records) status (inr (inr e)) is = absurd (cc (sym (ap is_whole e) ∙ is))

break_formed : (records : Option (List Frame)) (status : Status) → BreaksOff records status → ends_serving (is_some records) status ≡ true
break_formed None status (inl e) = ap (ends_serving false) e
break_formed None status (inr e) = ap (ends_serving false) e
break_formed (Some records) status (inl e) = ap (ends_serving true) e
break_formed (Some records) status (inr (inl e)) = ap (ends_serving true) e
break_formed (Some records) status (inr (inr e)) = ap (ends_serving true) e

-- want of memory breaks a run off, and so does a failed call of the link
pub by_memory : (records : Option (List Frame)) → BreaksOff records NoMemory
by_memory None = inl refl
by_memory (Some records) = inl refl

pub by_link : (records : Option (List Frame)) → BreaksOff records LinkFault
by_link None = inr refl
by_link (Some records) = inr (inl refl)

module _ (who : Who) (first link : LinkView) (status : Status) (frames : List Frame) (taken : AreTaken who frames) (grow : AnswersGrow who frames) (same_room : link.room ≡ first.room) (same_dialled : link.dialled ≡ first.dialled)
    (prompt : (before : List StreamAct) → first.acts ≡ Some before → (since : List StreamAct) × (link.acts ≡ Some (since ++ before)) × IsPrompt who since) where
  -- the answers to all frames begin with those to all but the newest
  pub behind_all : Begins (answers who (older frames)) (answers who frames)
  behind_all = go frames grow
    where
      go : (fs : List Frame) → AnswersGrow who fs → Begins (answers who (older fs)) (answers who fs)
      go [] grows = grows [] [] refl
      go (f ∷ fs) grows = grows (f ∷ []) fs refl

  -- the stream has ended
  pub ends_by_ending : (ending : Ending) → status ≡ status_of (length (stream frames)) ending → ends_serving (is_some who.records) status ≡ true → ((bytes : List ℕ) → first.incoming ≡ Some bytes → StreamComesTo who bytes frames ending) → Answered who frames first link
      → link.faults ≡ first.faults → (status ≡ Done → IsAtEnd link.incoming) → EndsServing who first link frames status
  ends_by_ending ending is formed comes answered quiet read = record {
    served = record {
      formed = formed;
      done = λ e bytes told. (frames, subst (λ d. StreamComesTo who bytes frames d) (is_done (length (stream frames)) ending (sym is ∙ e)) (comes bytes told), answered);
      bad_frame = λ at fault e bytes told.
          let both = is_bad (length (stream frames)) at fault ending (sym is ∙ e) in
          (frames, subst (λ d. StreamComesTo who bytes frames d) both.0 (comes bytes told), both.1, answered);
      limit = λ kind number e bytes told.
          (frames, subst (λ d. StreamComesTo who bytes frames d) (is_limit (length (stream frames)) kind number ending (sym is ∙ e)) (comes bytes told), answered);
      link_fault = record {
        later = omega_le (sym quiet);
        rose = λ e. absurd (never_linkfault (length (stream frames)) ending (sym is ∙ e));
        quiet = λ _. quiet;
      };
      sure = λ _ e. absurd (never_linkfault (length (stream frames)) ending (sym is ∙ e));
      front = λ bytes told.
          let all = comes bytes told in
          record {
            frames = frames;
            rest = all.rest;
            in_front = all.in_front;
            taken = taken;
            spelled = answered.spelled;
            some = answers who frames;
            begins = ([], append-nil (answers who frames));
            wrote = answered.wrote;
          };
      complete = λ bytes told others other come.
          let both = come_once who bytes frames others ending other (comes bytes told) come in
          inl (is ∙ subst (λ g. status_of (length (stream frames)) ending ≡ status_of (length (stream g)) other) both.0 (ap (status_of (length (stream frames))) both.1));
      prompt = prompt;
      read = read;
      same_room = same_room;
      same_dialled = same_dialled;
    };
    answered = record {
      in_front = λ bytes told. let all = comes bytes told in (all.rest, sym all.in_front);
      taken = taken;
      some = answers who frames;
      wrote = answered.wrote;
      front = ([], append-nil (answers who frames));
      behind = behind_all;
      whole = λ _ bytes told. (ending, comes bytes told);
    };
  }
    where
      omega_le : first.faults ≡ link.faults → first.faults ≤ link.faults
      omega_le e = omega (arith, e)

  -- the run broke off after these bytes were written: a first part of the answers that has all but those to the newest
  -- frame
  pub ends_by_break : BreaksOff who.records status → RoseIf (status ≡ LinkFault) first.faults link.faults → (IsSure first → status ≡ LinkFault → TooLongAnswers who first)
      → ((bytes : List ℕ) → first.incoming ≡ Some bytes → Begins (stream frames) bytes) → list_all has_spelling (replies who frames) ≡ true
      → (some : List ℕ) → Appends first.outgoing link.outgoing some → Begins some (answers who frames) → Begins (answers who (older frames)) some → EndsServing who first link frames status
  ends_by_break why rose full in_front spelled some wrote front behind = record {
    served = record {
      formed = break_formed who.records status why;
      done = λ e bytes told. absurd (no_break who.records status Done why (λ d. absurd (cc d)) (λ d. absurd (cc d)) (λ d. absurd (cc d)) e);
      bad_frame = λ at fault e bytes told. absurd (no_break who.records status (BadFrame at fault) why (λ d. absurd (cc d)) (λ d. absurd (cc d)) (λ d. absurd (cc d)) e);
      limit = λ kind number e bytes told. absurd (no_break who.records status (Limit kind number) why (λ d. absurd (cc d)) (λ d. absurd (cc d)) (λ d. absurd (cc d)) e);
      link_fault = rose;
      sure = full;
      front = λ bytes told.
          let rest = in_front bytes told in
          record { frames = frames; rest = rest.0; in_front = sym rest.1; taken = taken; spelled = spelled; some = some; begins = front; wrote = wrote };
      complete = λ bytes told others other come. inr why;
      prompt = prompt;
      read = λ e. absurd (no_break who.records status Done why (λ d. absurd (cc d)) (λ d. absurd (cc d)) (λ d. absurd (cc d)) e);
      same_room = same_room;
      same_dialled = same_dialled;
    };
    answered = record { in_front = in_front; taken = taken; some = some; wrote = wrote; front = front; behind = behind; whole = λ is. absurd (not_whole who.records status why is) };
  }
