-- How the program ends, by its words.
use Rattle.std.proofs.Common.{ℕ, ◌≡◌, List, true≢false, sym, ap, ◌∙◌, subst, refl}
use Rattle.std.specs.Borrow.{Bor}
use Rattle.topology.specs.declared.status.Status.{Status}
use Rattle.topology.specs.declared.status.Status.TheVariants.{Usage}
use Rattle.leadership.specs.Led.{Led, ends_lead}
use Rattle.route_io.specs.Views.{SourceView, SinkView, LinkView}
use Rattle.acceptor_journal.specs.Views.{DiskView}
use Rattle.route_node.specs.Attended.{Attended, endpoint, ends_attending}
use Rattle.route_node.specs.AttendedKept.{AttendedKept, Outside, ends_attending_kept, kept_endpoint}
use Rattle.route_replay.specs.Loaded.{Loaded, ends_load}
use Rattle.route_replay.specs.Replayed.{Replayed, ends_replay}
use Rattle.table_audit.specs.Audited.{Audited, ends_audit}
use Rattle.routing_commands.specs.declared.forms.Form.TheVariants.{Replay, Load, Node, KeptNode, Audit, Lead}
use Rattle.routing_commands.specs.Forms.{HasNoForm, IsForm}
use Rattle.routing_commands.specs.Headline.{Headline, Sides, sides}
use Rattle.routing_commands.proofs.Formed.{apart, same_number, same_id, same_address, same_kept_id, same_kept_address, same_file}

pub of_none : (words : List (List ℕ)) (old : Sides) → HasNoForm words → Headline words old old Usage
of_none words old none = record {
  usage = (λ _. none, λ _. refl);
  formed = λ other. absurd (other refl);
  untouched = λ _. refl;
  replayed = λ is. absurd (none Replay is);
  loaded = λ number is. absurd (none (Load number) is);
  attended = λ id address is. absurd (none (Node id address) is);
  kept = λ id address file is. absurd (none (KeptNode id address file) is);
  audited = λ is. absurd (none Audit is);
  led = λ is. absurd (none Lead is);
}

pub of_replay : (words : List (List ℕ)) (source source' : SourceView) (sink sink' : SinkView) (link : LinkView) (disk : DiskView) (status : Status) → IsForm words Replay → Replayed source source' sink sink' status
    → Headline words (sides source sink link disk) (sides source' sink' link disk) status
of_replay words source source' sink sink' link disk status is replayed = record {
  usage = (λ e. absurd (true≢false (sym replayed.formed ∙ ap ends_replay e)), λ none. absurd (none Replay is));
  formed = λ _. (Replay, is);
  untouched = λ none. absurd (none Replay is);
  replayed = λ _. (replayed, refl, refl);
  loaded = λ number other. apart words Replay (Load number) refl is other;
  attended = λ id address other. apart words Replay (Node id address) refl is other;
  kept = λ id address file other. apart words Replay (KeptNode id address file) refl is other;
  audited = λ other. apart words Replay Audit refl is other;
  led = λ other. apart words Replay Lead refl is other;
}

never_usage : (number : ℕ) (sink sink' : SinkView) (status : Status) → Loaded number sink sink' status → status ≡ Usage → ⊥
never_usage number sink sink' status loaded e = true≢false (sym loaded.formed ∙ ap ends_load e)

pub of_load : (words : List (List ℕ)) (number : ℕ) (source : SourceView) (sink sink' : SinkView) (link : LinkView) (disk : DiskView) (status : Status) → IsForm words (Load number) → Loaded number sink sink' status
    → Headline words (sides source sink link disk) (sides source sink' link disk) status
of_load words number source sink sink' link disk status is loaded = record {
  usage = (λ e. absurd (never_usage number sink sink' status loaded e), λ none. absurd (none (Load number) is));
  formed = λ _. (Load number, is);
  untouched = λ none. absurd (none (Load number) is);
  replayed = λ other. apart words (Load number) Replay refl is other;
  loaded = λ m other. (subst (λ n. Loaded n sink sink' status) (same_number words number m is other) loaded, refl, refl, refl);
  attended = λ id address other. apart words (Load number) (Node id address) refl is other;
  kept = λ id address file other. apart words (Load number) (KeptNode id address file) refl is other;
  audited = λ other. apart words (Load number) Audit refl is other;
  led = λ other. apart words (Load number) Lead refl is other;
}

pub of_node : (words : List (List ℕ)) (id : ℕ) (address : Bor (List ℕ)) (source source' : SourceView) (sink : SinkView) (link link' : LinkView) (disk : DiskView) (status : Status) → IsForm words (Node id address)
    → Attended (endpoint id address.now) source source' link link' status → Headline words (sides source sink link disk) (sides source' sink link' disk) status
of_node words id address source source' sink link link' disk status is attended = record {
  usage = (λ e. absurd (true≢false (sym attended.formed ∙ ap ends_attending e)), λ none. absurd (none (Node id address) is));
  formed = λ _. (Node id address, is);
  untouched = λ none. absurd (none (Node id address) is);
  replayed = λ other. apart words (Node id address) Replay refl is other;
  loaded = λ number other. apart words (Node id address) (Load number) refl is other;
  attended = λ other place it. (
    subst (λ n. Attended (endpoint n place.now) source source' link link' status) (same_id words id other address place is it)
        (subst (λ a. Attended (endpoint id a) source source' link link' status) (same_address words id other address place is it) attended),
    refl,
    refl,
  );
  kept = λ other place file. apart words (Node id address) (KeptNode other place file) refl is;
  audited = λ other. apart words (Node id address) Audit refl is other;
  led = λ other. apart words (Node id address) Lead refl is other;
}

pub of_kept : (words : List (List ℕ)) (id : ℕ) (address file : Bor (List ℕ)) (sink : SinkView) (old new : Outside) (status : Status) → IsForm words (KeptNode id address file)
    → AttendedKept (kept_endpoint id address.now file.now) old new status → Headline words (sides old.source sink old.link old.disk) (sides new.source sink new.link new.disk) status
of_kept words id address file sink old new status is attended = record {
  usage = (λ e. absurd (true≢false (sym attended.formed ∙ ap ends_attending_kept e)), λ none. absurd (none (KeptNode id address file) is));
  formed = λ _. (KeptNode id address file, is);
  untouched = λ none. absurd (none (KeptNode id address file) is);
  replayed = λ other. apart words (KeptNode id address file) Replay refl is other;
  loaded = λ number other. apart words (KeptNode id address file) (Load number) refl is other;
  attended = λ other place it. apart words (KeptNode id address file) (Node other place) refl is it;
  kept = λ other place name it. (
    subst (λ n. AttendedKept (kept_endpoint n place.now name.now) old new status) (same_kept_id words id other address place file name is it)
        (subst (λ a. AttendedKept (kept_endpoint id a name.now) old new status) (same_kept_address words id other address place file name is it)
        (subst (λ f. AttendedKept (kept_endpoint id address.now f) old new status) (same_file words id other address place file name is it) attended)),
    refl,
  );
  audited = λ other. apart words (KeptNode id address file) Audit refl is other;
  led = λ other. apart words (KeptNode id address file) Lead refl is other;
}

pub of_audit : (words : List (List ℕ)) (source source' : SourceView) (sink sink' : SinkView) (link : LinkView) (disk : DiskView) (status : Status) → IsForm words Audit → Audited source source' sink sink' status
    → Headline words (sides source sink link disk) (sides source' sink' link disk) status
of_audit words source source' sink sink' link disk status is audited = record {
  usage = (λ e. absurd (true≢false (sym audited.formed ∙ ap ends_audit e)), λ none. absurd (none Audit is));
  formed = λ _. (Audit, is);
  untouched = λ none. absurd (none Audit is);
  replayed = λ other. apart words Audit Replay refl is other;
  loaded = λ number other. apart words Audit (Load number) refl is other;
  attended = λ id address other. apart words Audit (Node id address) refl is other;
  kept = λ id address file other. apart words Audit (KeptNode id address file) refl is other;
  audited = λ _. (audited, refl, refl);
  led = λ other. apart words Audit Lead refl is other;
}

pub of_lead : (words : List (List ℕ)) (source source' : SourceView) (sink sink' : SinkView) (link : LinkView) (disk : DiskView) (status : Status) → IsForm words Lead → Led source source' sink sink' status
    → Headline words (sides source sink link disk) (sides source' sink' link disk) status
of_lead words source source' sink sink' link disk status is led = record {
  usage = (λ e. absurd (true≢false (sym led.formed ∙ ap ends_lead e)), λ none. absurd (none Lead is));
  formed = λ _. (Lead, is);
  untouched = λ none. absurd (none Lead is);
  replayed = λ other. apart words Lead Replay refl is other;
  loaded = λ number other. apart words Lead (Load number) refl is other;
  attended = λ id address other. apart words Lead (Node id address) refl is other;
  kept = λ id address file other. apart words Lead (KeptNode id address file) refl is other;
  audited = λ other. apart words Lead Audit refl is other;
  led = λ _. (led, refl, refl);
}
