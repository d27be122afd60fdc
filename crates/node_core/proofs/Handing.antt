-- What a node hands out, step by step.
use Rattle.std.proofs.Common.{ℕ, suc, ◌+◌, ◌<◌, List, [], ◌∷◌, ◌++◌, map, length, take, get_or, ◌≡◌, refl, sym, ◌∙◌, ap, append_assoc}
use Rattle.std.proofs.lemmas.List.{append-nil, map-append, take_more}
use Rattle.topology.specs.Net.{Net}
use Rattle.path_vector.specs.Rules.{Rules}
use Rattle.trigger_log.specs.declared.outgoing.Outgoing.{Outgoing}
use Rattle.trigger_log.specs.Entries.{Entry}
use Rattle.trigger_log.specs.Going.{Going, going_of, going_by}
use Rattle.consolidator.specs.declared.messages.Mail.{Mail as Posting}
use Rattle.consolidator.specs.Messages.{Message}
use Rattle.consolidator.specs.Seen.{message_seen, mails_seen}
use Rattle.chronicle.specs.Facts.{Chronicle, Log, Sent, Raise, Mail, happen}
use Rattle.chronicle.specs.Drops.{kept_log}
use Rattle.chronicle.specs.Logs.{log_of}
use Rattle.chronicle.specs.Steps.{Carried, sends, mails, write, markers, take_cut, reporting, raise}
use Rattle.node_core.specs.declared.outputs.Output.{Output as Given}
use Rattle.node_core.specs.declared.outputs.Output.TheVariants as given
use Rattle.node_core.specs.Answering.{posts}
use Rattle.node_core.specs.Outputs.{Output, Logged, Cut, Send, Mail as Posted, output_of, outputs, Hands}

-- more was handed out, and the facts show it
pub hands_more : (first mid now : Chronicle) (old new : List Given) (more : List Output) → map output_of new ≡ map output_of old ++ more → outputs now ≡ outputs mid ++ more
    → Hands first old mid → Hands first new now
hands_more first mid now old new more list shown was =
    ap (λ l. outputs first ++ l) list ∙ (sym (append_assoc (outputs first) (map output_of old) more) ∙ (ap (λ l. l ++ more) was ∙ sym shown))

-- nothing was handed out since
pub hands_nothing : (past : Chronicle) (list : List Given) → list ≡ [] → Hands past list past
hands_nothing past list is = ap (λ l. outputs past ++ map output_of l) is ∙ append-nil (outputs past)

-- what is sent is shown in its order
outputs_sends : (carried : Carried) (u : ℕ) (now : Chronicle) (gs : List Going) → outputs (happen now (sends carried u gs)) ≡ outputs now ++ map Send gs
outputs_sends carried u now [] = sym (append-nil (outputs now))
outputs_sends carried u now (g ∷ gs) =
    outputs_sends carried u (Sent u g.to g.session g.item (carried g.to g.session) ∷ now) gs ∙ append_assoc (outputs now) (Send g ∷ []) (map Send gs)

-- control messages are shown in their order
pub outputs_mails : (u : ℕ) (now : Chronicle) (ms : List (ℕ × Message)) → outputs (happen now (mails u ms)) ≡ outputs now ++ posts ms
outputs_mails u now [] = sym (append-nil (outputs now))
outputs_mails u now (m ∷ ms) = outputs_mails u (Mail u m.0 m.1 ∷ now) ms ∙ append_assoc (outputs now) (Posted m.0 m.1 ∷ []) (posts ms)

module _ (rules : Rules) (net : Net) (u : ℕ) (carried : Carried) (past : Chronicle) where
  -- an entry shows its place, and what goes out
  pub outputs_write : (k : Entry) → outputs (write rules net carried u k past)
      ≡ outputs past ++ Logged (suc (length (log_of u past))) ∷ map Send (going_by rules net u (log_of u past) k)
  unfolding write
  outputs_write k =
      outputs_sends carried u (Log u k ∷ past) (going_by rules net u (log_of u past) k)
      ∙ append_assoc (outputs past) (Logged (suc (length (log_of u past))) ∷ []) (map Send (going_by rules net u (log_of u past) k))

  -- a cut shows its epoch, the markers, and the reports
  pub outputs_raise : (e : ℕ) → outputs (raise rules net carried u e past)
      ≡ outputs past ++ Cut e ∷ (map Send (markers net u e (log_of u past)) ++ posts (reporting rules net u e (kept_log net u past)))
  unfolding raise take_cut
  outputs_raise e =
      let marks = markers net u e (log_of u past) in
      let reports = reporting rules net u e (kept_log net u past) in
      outputs_mails u (happen (Raise u e ∷ past) (sends carried u marks)) reports
      ∙ (ap (λ l. l ++ posts reports) (outputs_sends carried u (Raise u e ∷ past) marks)
      ∙ (append_assoc (outputs past ++ Cut e ∷ []) (map Send marks) (posts reports)
      ∙ append_assoc (outputs past) (Cut e ∷ []) (map Send marks ++ posts reports)))

-- two lists, one after the other, were handed out
pub two_lists : (old mid new : List Given) (a : Output) (b : List Output) → map output_of mid ≡ map output_of old ++ a ∷ [] → map output_of new ≡ map output_of mid ++ b
    → map output_of new ≡ map output_of old ++ a ∷ b
two_lists old mid new a b first then' = then' ∙ (ap (λ l. l ++ b) first ∙ append_assoc (map output_of old) (a ∷ []) b)

-- three lists, one after the other, were handed out
pub three_lists : (old mid then' new : List Given) (a : Output) (b c : List Output) → map output_of mid ≡ map output_of old ++ a ∷ [] → map output_of then' ≡ map output_of mid ++ b
    → map output_of new ≡ map output_of then' ++ c → map output_of new ≡ map output_of old ++ a ∷ (b ++ c)
three_lists old mid then' new a b c first second third =
    third ∙ (ap (λ l. l ++ c) (two_lists old mid then' a b first second) ∙ append_assoc (map output_of old) (a ∷ b) c)

-- one more
pub one_more : (old new : List Given) (out : Given) → new ≡ old ++ out ∷ [] → map output_of new ≡ map output_of old ++ output_of out ∷ []
one_more old new out is = ap (map output_of) is ∙ map-append output_of old (out ∷ [])

-- one more of those that are sent
pub sent_more : (start old new : List Given) (done all : List Outgoing) (out : Outgoing) → all ≡ done ++ out ∷ [] → new ≡ old ++ given.Send out ∷ []
    → map output_of old ≡ map output_of start ++ map Send (map going_of done) → map output_of new ≡ map output_of start ++ map Send (map going_of all)
sent_more start old new done all out which is was =
    one_more old new (given.Send out) is
    ∙ (ap (λ l. l ++ Send (going_of out) ∷ []) was
    ∙ (append_assoc (map output_of start) (map Send (map going_of done)) (Send (going_of out) ∷ [])
    ∙ ap (λ l. map output_of start ++ l)
    (sym (ap (λ l. map Send (map going_of l)) which ∙ (ap (map Send) (map-append going_of done (out ∷ [])) ∙ map-append Send (map going_of done) (going_of out ∷ []))))))

-- each item as it is
pub map-same : {A : Type 0} (xs : List A) → map (λ x. x) xs ≡ xs
map-same [] = refl
map-same (x ∷ xs) = ap (λ r. x ∷ r) (map-same xs)

-- one more of those that are shown for each of a list
pub each_more : (f : ℕ → Output) (start old new : List Given) (nodes : List ℕ) (i n : ℕ) → i < length nodes → n ≡ get_or nodes i n → map output_of old ≡ map output_of start ++ map f (take i nodes)
    → map output_of new ≡ map output_of old ++ f n ∷ [] → map output_of new ≡ map output_of start ++ map f (take (i + 1) nodes)
each_more f start old new nodes i n inside is was grown =
    let more : take (i + 1) nodes ≡ take i nodes ++ n ∷ [] = take_more nodes i n inside ∙ ap (λ x. take i nodes ++ x ∷ []) (sym is) in
    grown
    ∙ (ap (λ l. l ++ f n ∷ []) was
    ∙ (append_assoc (map output_of start) (map f (take i nodes)) (f n ∷ [])
    ∙ ap (λ l. map output_of start ++ l) (sym (ap (map f) more ∙ map-append f (take i nodes) (n ∷ [])))))

-- one more of the control messages
pub posted_more : (start old new : List Given) (done all : List Posting) (out : Posting) → all ≡ done ++ out ∷ [] → new ≡ old ++ given.Mail out ∷ []
    → map output_of old ≡ map output_of start ++ posts (mails_seen done) → map output_of new ≡ map output_of start ++ posts (mails_seen all)
posted_more start old new done all out which is was =
    one_more old new (given.Mail out) is
    ∙ (ap (λ l. l ++ Posted out.to (message_seen out.message) ∷ []) was
    ∙ (append_assoc (map output_of start) (posts (mails_seen done)) (Posted out.to (message_seen out.message) ∷ [])
    ∙ ap (λ l. map output_of start ++ l)
    (sym (ap (λ l. posts (mails_seen l)) which
    ∙ (ap posts (map-append seen done (out ∷ [])) ∙ map-append shown (mails_seen done) (mails_seen (out ∷ [])))))))
  where
    seen : Posting → ℕ × Message
    seen mail = (mail.to, message_seen mail.message)

    shown : ℕ × Message → Output
    shown m = Posted m.0 m.1
