-- All marks of a node.
use Rattle.std.proofs.Common.{◌≡◌, ◌==◌, true, false, ℕ, List, [], ◌∷◌, ◌++◌, map, refl, sym, ◌∙◌, subst, arith, inl, inr, ◌⊎◌, ⊎_elim}
use Rattle.std.specs.List.{AllZip}
use Rattle.std.proofs.lemmas.Bool.Decides.{nat_tests}
use Rattle.topology.specs.Lists.{Among, has}
use Rattle.topology.specs.Net.{Net, neighbours}
use Rattle.topology.proofs.Tests.{or_none, or_cases}
use Rattle.path_vector.specs.Rules.{Rules}
use Rattle.trigger_log.specs.declared.sessions.SessionMark.{SessionMark}
use Rattle.trigger_log.specs.Entries.{Entry}
use Rattle.trigger_log.specs.Sending.{outbox, sent_count}
use Rattle.trigger_log.specs.Rows.{joined}
use Rattle.trigger_log.specs.Sessions.{ever, Says, AreMarks, AreRows}
use Rattle.trigger_log.proofs.Rows.{first}

-- ---- a log without entries

nothing_sent : (rules : Rules) (net : Net) (u w : ℕ) → sent_count rules net u [] w 1 ≡ 0
unfolding outbox
nothing_sent rules net u w = refl

each_first : (rules : Rules) (net : Net) (u : ℕ) (near : List ℕ) → AllZip (AreMarks rules net u []) near (map first near)
each_first rules net u [] = tt
each_first rules net u (w ∷ near) =
    ((record { nbr = refl; session = refl; is_opened = refl; sent = sym (nothing_sent rules net u w); received = refl; down = tt }, tt), each_first rules net u near)

pub rows_first : (rules : Rules) (net : Net) (u : ℕ) → AreRows rules net u [] (map first (neighbours net u))
rows_first rules net u = each_first rules net u (neighbours net u)

-- ---- a mark among all

among_append : {A : Type 0} (x : A) (xs ys : List A) → Among x (xs ++ ys) → Among x xs ⊎ Among x ys
among_append x [] ys a = inr a
among_append x (y ∷ xs) ys (inl e) = inl (inl e)
among_append x (y ∷ xs) ys (inr a) = ⊎_elim (λ (b : Among x xs). inl (inr b)) (λ (b : Among x ys). inr b) (among_append x xs ys a)

among_left : {A : Type 0} (x : A) (xs ys : List A) → Among x xs → Among x (xs ++ ys)
among_left x [] ys a = absurd a
among_left x (y ∷ xs) ys (inl e) = inl e
among_left x (y ∷ xs) ys (inr a) = inr (among_left x xs ys a)

among_right : {A : Type 0} (x : A) (xs ys : List A) → Among x ys → Among x (xs ++ ys)
among_right x [] ys a = a
among_right x (y ∷ xs) ys a = inr (among_right x xs ys a)

apart_test : (t s : ℕ) → (t ≡ s → ⊥) → (t == s) ≡ false
apart_test t s apart = grind (arith, nat_tests)

module _ (rules : Rules) (net : Net) (u : ℕ) (h : List Entry) where
  of_row : (w : ℕ) (sessions : List ℕ) (row : List SessionMark) (mark : SessionMark) → AllZip (λ s mark. Says h w s (sent_count rules net u h w s) mark) sessions row → Among mark row → (s : ℕ) × Says h w s (sent_count rules net u h w s) mark
  of_row w [] [] mark z a = absurd a
  of_row w [] (m ∷ row) mark z a = absurd z
  of_row w (s ∷ sessions) [] mark z a = absurd z
  of_row w (s ∷ sessions) (m ∷ row) mark z (inl e) = (s, subst (Says h w s (sent_count rules net u h w s)) e z.0)
  of_row w (s ∷ sessions) (m ∷ row) mark z (inr a) = of_row w sessions row mark z.1 a

  of_rows : (near : List ℕ) (rows : List (List SessionMark)) (mark : SessionMark) → AllZip (AreMarks rules net u h) near rows → Among mark (joined rows)
      → (w : ℕ) × (s : ℕ) × Says h w s (sent_count rules net u h w s) mark
  of_rows [] [] mark z a = absurd a
  of_rows [] (row ∷ rows) mark z a = absurd z
  of_rows (w ∷ near) [] mark z a = absurd z
  of_rows (w ∷ near) (row ∷ rows) mark z a = ⊎_elim
      (λ (b : Among mark row). let here = of_row w (ever h w) row mark z.0 b in (w, here.0, here.1))
      (λ (b : Among mark (joined rows)). of_rows near rows mark z.1 b)
      (among_append mark row (joined rows) a)

  -- a mark shows its neighbour and session
  pub found_mark : (near : List ℕ) (rows : List (List SessionMark)) (mark : SessionMark) (w s : ℕ) → AllZip (AreMarks rules net u h) near rows → Among mark (joined rows) → mark.nbr ≡ w → mark.session ≡ s
      → Says h w s (sent_count rules net u h w s) mark
  found_mark near rows mark w s z a is_w is_s =
      let at = of_rows near rows mark z a in
      let same_w : at.0 ≡ w = sym at.2.nbr ∙ is_w in
      let same_s : at.1 ≡ s = sym at.2.session ∙ is_s in
      subst (λ v. Says h v s (sent_count rules net u h v s) mark) same_w (subst (λ t. Says h at.0 t (sent_count rules net u h at.0 t) mark) same_s at.2)

  unheld_row : (w s : ℕ) (sessions : List ℕ) (row : List SessionMark) → AllZip (λ s mark. Says h w s (sent_count rules net u h w s) mark) sessions row
      → ((mark : SessionMark) → Among mark row → mark.nbr ≡ w → mark.session ≡ s → ⊥) → has sessions s ≡ false
  unheld_row w s [] [] z f = refl
  unheld_row w s [] (m ∷ row) z f = absurd z
  unheld_row w s (t ∷ sessions) [] z f = absurd z
  unheld_row w s (t ∷ sessions) (m ∷ row) z f =
      let apart : t ≡ s → ⊥ = λ e. f m (inl refl) z.0.nbr (z.0.session ∙ e) in
      let more = unheld_row w s sessions row z.1 (λ mark a. f mark (inr a)) in
      or_none (t == s) (has sessions s) (apart_test t s apart) more

  -- a session of a neighbour without a mark was never held
  pub unfound_mark : (near : List ℕ) (rows : List (List SessionMark)) (w s : ℕ) → AllZip (AreMarks rules net u h) near rows → has near w ≡ true
      → ((mark : SessionMark) → Among mark (joined rows) → mark.nbr ≡ w → mark.session ≡ s → ⊥) → has (ever h w) s ≡ false
  unfound_mark [] rows w s z is f = absurd (cc is)
  unfound_mark (v ∷ near) [] w s z is f = absurd z
  unfound_mark (v ∷ near) (row ∷ rows) w s z is f = ⊎_elim
      (λ (e : (v == w) ≡ true).
      let same : v ≡ w = grind (arith, nat_tests) in
      unheld_row w s (ever h w) row (subst (λ x. AreMarks rules net u h x row) same z.0) (λ mark a. f mark (among_left mark row (joined rows) a)))
      (λ (e : has near w ≡ true). unfound_mark near rows w s z.1 e (λ mark a. f mark (among_right mark row (joined rows) a)))
      (or_cases (v == w) (has near w) is)
  -- ---- the mark of the newest session
