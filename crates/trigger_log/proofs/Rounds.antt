-- One more neighbour is told.
use Rattle.std.proofs.Common.{ℕ, zero, suc, ◌+◌, ◌<◌, ◌≤◌, true, false, Some, List, [], ◌∷◌, ◌++◌, ◌≡◌, ◌≢◌, refl, sym, ◌∙◌, ap, subst, arith, length, length-set, map, flat_map, take, set, slice_get, append_assoc, ⊎_elim}
use Rattle.std.specs.List.{AllZip}
use Rattle.std.proofs.lemmas.Bool.{cases_eq}
use Rattle.std.proofs.lemmas.Bool.Decides.{nat_tests}
use Rattle.std.proofs.lemmas.List.{append-nil, take_more}
use Rattle.std.proofs.lemmas.List.Concat.{flat_map-append}
use Rattle.std.proofs.lemmas.Option.{same_Some, get_or_from_slice_get, slice_get_within}
use Rattle.topology.specs.Net.{Net, neighbours}
use Rattle.path_vector.specs.declared.causes.Cause.{Cause}
use Rattle.path_vector.specs.declared.causes.Cause.TheVariants.{Originate, Withdraw, Recv, Down, Up, Ready, Prefer, Flush}
use Rattle.path_vector.specs.Rules.{Rules}
use Rattle.path_vector.specs.History.{last, last_by, held}
use Rattle.std.proofs.lemmas.Slice.Zip.{AllZip-long}
use Rattle.trigger_log.specs.declared.sessions.SessionMark.{SessionMark}
use Rattle.trigger_log.specs.Entries.{Entry, reads, closes}
use Rattle.trigger_log.specs.Making.{making}
use Rattle.trigger_log.specs.Sending.{sent_count, sent_to}
use Rattle.trigger_log.specs.Going.{Going, going_of, going_in, told}
use Rattle.trigger_log.specs.Fits.{Fits}
use Rattle.trigger_log.specs.Sessions.{Says, AreMarks, AreRows}
use Rattle.trigger_log.specs.Telling.{Speech}
use Rattle.trigger_log.specs.Marked.{AreMarked, AreAllMarked, Spoken, ToldTo}
use Rattle.trigger_log.proofs.Holding.{held_is_last}
use Rattle.trigger_log.proofs.Closings.{count_other}
use Rattle.trigger_log.proofs.Newest.{ends_ever}
use Rattle.trigger_log.proofs.Zips.{zip_push, zip_end, zip_each, zip_both, zip_from}

get_set_same : {A : Type 0} (xs : List A) (i : ℕ) (x : A) → i < length xs → slice_get (set xs i x) i ≡ Some x
get_set_same [] i x l = absurd (omega arith)
get_set_same (y ∷ ys) zero x l = refl
get_set_same (y ∷ ys) (suc i) x l = get_set_same ys i x (omega arith)

get_set_other : {A : Type 0} (xs : List A) (i j : ℕ) (x : A) → i ≢ j → slice_get (set xs i x) j ≡ slice_get xs j
get_set_other [] i j x ne = refl
get_set_other (y ∷ ys) zero zero x ne = absurd (ne refl)
get_set_other (y ∷ ys) zero (suc j) x ne = refl
get_set_other (y ∷ ys) (suc i) zero x ne = refl
get_set_other (y ∷ ys) (suc i) (suc j) x ne = get_set_other ys i j x (λ e. ne (ap suc e))

pub some_at : {A : Type 0} (xs : List A) (i : ℕ) → i < length xs → (x : A) × (slice_get xs i ≡ Some x)
some_at [] i l = absurd (omega arith)
some_at (x ∷ xs) zero l = (x, refl)
some_at (x ∷ xs) (suc i) l = some_at xs i (omega arith)

flat_more : {A : Type 0} (f : ℕ → List A) (ns : List ℕ) (i n : ℕ) → slice_get ns i ≡ Some n → flat_map f (take (i + 1) ns) ≡ flat_map f (take i ns) ++ f n
flat_more f ns i n at =
    ap (flat_map f) (take_more ns i 0 (slice_get_within ns i n at) ∙ ap (λ m. take i ns ++ m ∷ []) (get_or_from_slice_get ns i n 0 at))
    ∙ (flat_map-append f (take i ns) (n ∷ []) ∙ ap (λ l. flat_map f (take i ns) ++ l) (append-nil (f n)))

closed_is_last : (cause : Cause) (w s b : ℕ) → closes cause w s ≡ true → last_by cause w b ≡ s
closed_is_last Originate w s b e = absurd (cc e)
closed_is_last Withdraw w s b e = absurd (cc e)
closed_is_last (Recv v t seq path) w s b e = absurd (cc e)
closed_is_last (Up v t) w s b e = absurd (cc e)
closed_is_last (Ready v t) w s b e = absurd (cc e)
closed_is_last (Prefer v x) w s b e = absurd (cc e)
closed_is_last (Flush v) w s b e = absurd (cc e)
closed_is_last (Down v t) w s b e = grind (arith, nat_tests)

module _ (rules : Rules) (net : Net) (u : ℕ) (h : List Entry) (k : Entry) (w : ℕ) (fits : Fits (k ∷ h)) where
  abbrev newest : ℕ
  newest = last (reads (k ∷ h)) w

  abbrev Now : ℕ → SessionMark → Type 0
  Now s mark = Says (k ∷ h) w s (sent_count rules net u h w s) mark

  pub newest_says : (older : List SessionMark) (mark : SessionMark) → AreMarked (making rules net u h k) w (older ++ mark ∷ []) → Now newest mark
  newest_says older mark was =
      let ends = ends_ever (k ∷ h) w fits in
      (zip_end Now ends.older older newest mark (subst (λ l. AllZip Now l (older ++ mark ∷ [])) ends.is was)).1

  older_open : (s : ℕ) → s < newest → closes k.read.cause w s ≡ false
  older_open s below =
      (elim (closes k.read.cause w s) as (λ b. closes k.read.cause w s ≡ b → b ≡ false) [
        | true ↦ λ e. let same : newest ≡ s = closed_is_last k.read.cause w s (last (reads h) w) e in absurd (omega arith)
        | false ↦ λ e. refl
      ]) refl

  older_count : (s : ℕ) → s < newest → sent_count rules net u (k ∷ h) w s ≡ sent_count rules net u h w s
  older_count s below =
      count_other rules net u k h w s (λ e. let same : s ≡ newest = held_is_last (k.read ∷ reads h) w s e in absurd (omega arith)) (older_open s below)

  pub is_mark : (s n : ℕ) (mark : SessionMark) → n ≡ sent_count rules net u (k ∷ h) w s → Says (k ∷ h) w s n mark → Says (k ∷ h) w s (sent_count rules net u (k ∷ h) w s) mark
  is_mark s n mark e says =
      record { nbr = says.nbr; session = says.session; is_opened = says.is_opened; sent = says.sent ∙ e; received = says.received; down = says.down }

  counted : (s n : ℕ) (mark : SessionMark) (count : ℕ) → Says (k ∷ h) w s n mark → Says (k ∷ h) w s count (record mark { sent = count })
  counted s n mark count says =
      record { nbr = says.nbr; session = says.session; is_opened = says.is_opened; sent = refl; received = says.received; down = says.down }

  pub counted_row : (older : List SessionMark) (mark : SessionMark) (count : ℕ) → count ≡ sent_count rules net u (k ∷ h) w newest → AreMarked (making rules net u h k) w (older ++ mark ∷ [])
      → AreMarks rules net u (k ∷ h) w (older ++ record mark { sent = count } ∷ [])
  counted_row older mark count e was =
      let ends = ends_ever (k ∷ h) w fits in
      let parts = zip_end Now ends.older older newest mark (subst (λ l. AllZip Now l (older ++ mark ∷ [])) ends.is was) in
      subst (λ l. AllZip (λ s mark. Says (k ∷ h) w s (sent_count rules net u (k ∷ h) w s) mark) l (older ++ record mark { sent = count } ∷ [])) (sym ends.is)
      (zip_push (λ s mark. Says (k ∷ h) w s (sent_count rules net u (k ∷ h) w s) mark) ends.older older newest (record mark { sent = count })
      (zip_each (λ s. s < newest) Now (λ s mark. Says (k ∷ h) w s (sent_count rules net u (k ∷ h) w s) mark) (λ s m below says. is_mark s (sent_count rules net u h w s) m (sym (older_count s below)) says) ends.older older ends.below parts.0)
      (is_mark newest count (record mark { sent = count }) e (counted newest (sent_count rules net u h w newest) mark count parts.1)))

module _ (rules : Rules) (net : Net) (u : ℕ) (h : List Entry) (k : Entry) (fits : Fits (k ∷ h)) where
  abbrev gone : ℕ → List Going
  gone w = going_in w (told (making rules net u h k) w) (held (k.read ∷ reads h) w)

  -- the row at the next place
  pub next_row : (n w : ℕ) (rows : List (List SessionMark)) (before after : Speech) → slice_get (neighbours net u) n ≡ Some w
      → ToldTo (making rules net u h k) n rows before after → (row : List SessionMark) × (slice_get rows n ≡ Some row) × AreMarked (making rules net u h k) w row
  next_row n w rows before after at was =
      let inside = slice_get_within (neighbours net u) n w at in
      let wide = was.width in
      let found = some_at rows n (omega arith) in
      (found.0, found.1, was.rest n w found.0 (omega arith) at found.1)

  pub told_more : (n w count : ℕ) (old new : List (List SessionMark)) (older : List SessionMark) (mark : SessionMark) (first before after : Speech) → slice_get (neighbours net u) n ≡ Some w
      → ToldTo (making rules net u h k) n old first before → slice_get old n ≡ Some (older ++ mark ∷ []) → AreMarked (making rules net u h k) w (older ++ mark ∷ [])
      → new ≡ set old n (older ++ record mark { sent = count } ∷ [])
      → Spoken (making rules net u h k) w (last (reads (k ∷ h)) w) before after count
      → ToldTo (making rules net u h k) (n + 1) new first after
  told_more n w count old new older mark first before after at was here marked is spoken =
      let row = older ++ record mark { sent = count } ∷ [] in
      let inside = slice_get_within old n (older ++ mark ∷ []) here in
      rw is (record {
        width = length-set old n row ∙ was.width;
        done = λ j v other below near found. ⊎_elim
            (λ (e : j ≡ n).
            let same_w : v ≡ w = same_Some v w (sym near ∙ (ap (slice_get (neighbours net u)) e ∙ at)) in
            let same_row : other ≡ row = same_Some other row (sym found ∙ (ap (slice_get (set old n row)) e ∙ get_set_same old n row inside)) in
            rw (same_w, same_row) (counted_row rules net u h k w fits older mark count spoken.counts marked))
            (λ (ne : j ≢ n). was.done j v other (let apart : j ≢ n = ne in omega arith) near (sym (get_set_other old n j row (λ e. ne (sym e))) ∙ found))
            (cases_eq j n);
        rest = λ j v other above near found. was.rest j v other (omega arith) near (sym (get_set_other old n j row (omega arith)) ∙ found);
        sent = spoken.sent ∙ (ap (λ l. l ++ sent_to rules net u h k w) was.sent
            ∙ (append_assoc first.sent (flat_map (sent_to rules net u h k) (take n (neighbours net u))) (sent_to rules net u h k w)
            ∙ ap (λ l. first.sent ++ l) (sym (flat_more (sent_to rules net u h k) (neighbours net u) n w at))));
        out = spoken.out ∙ (ap (λ l. l ++ gone w) was.out
            ∙ (append_assoc (map going_of first.out) (flat_map gone (take n (neighbours net u))) (gone w)
            ∙ ap (λ l. map going_of first.out ++ l) (sym (flat_more gone (neighbours net u) n w at))));
      })

  -- none are told, and all are told
  pub told_none : (rows : List (List SessionMark)) (speech : Speech) → AreAllMarked (making rules net u h k) rows → ToldTo (making rules net u h k) 0 rows speech speech
  told_none rows speech marked = record {
    width = AllZip-long (AreMarked (making rules net u h k)) (neighbours net u) rows marked;
    done = λ j w row below near found. absurd (omega arith);
    rest = λ j w row above near found. zip_both (AreMarked (making rules net u h k)) (neighbours net u) rows j w row marked near found;
    sent = sym (append-nil speech.sent);
    out = sym (append-nil (map going_of speech.out));
  }

  pub told_all : (n : ℕ) (rows : List (List SessionMark)) (before after : Speech) → length (neighbours net u) ≤ n → ToldTo (making rules net u h k) n rows before after
      → AreRows rules net u (k ∷ h) rows
  told_all n rows before after whole was =
      zip_from (AreMarks rules net u (k ∷ h)) (neighbours net u) rows was.width
      (λ j w row near found. let inside = slice_get_within (neighbours net u) j w near in was.done j w row (omega arith) near found)
