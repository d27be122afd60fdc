-- How an entry changes what is stored of a neighbour.
use Rattle.std.proofs.Common.{◌≡◌, ◌≢◌, ◌⊎◌, inl, inr, ℕ, suc, zero, ◌<◌, ◌≤◌, max, Bool, true, false, cond, ◌&&◌, ◌==◌, List, [], ◌∷◌, length, set, replicate, slice_get, refl, sym, ap, ◌∙◌, subst, arith, Option, Some, None, option_map, option_and_then}
use Rattle.std.specs.Prelude.{if◌then◌else◌}
use Rattle.std.proofs.lemmas.Bool.Decides.{nat_tests}
use Rattle.topology.specs.declared.names.Scope.{Scope}
use Rattle.topology.specs.declared.names.Scope.TheVariants.{One, All, Nothing}
use Rattle.topology.specs.Lists.{has}
use Rattle.topology.specs.Net.{Net, relation, file_preference}
use Rattle.path_vector.specs.declared.causes.Cause.{Cause}
use Rattle.path_vector.specs.declared.causes.Cause.TheVariants.{Originate, Withdraw, Recv, Down, Up, Ready, Prefer, Flush}
use Rattle.path_vector.specs.declared.neighbours.Neighbour.{Neighbour}
use Rattle.path_vector.specs.History.{History, HasScope, Accepts, change, concerns, held, held_by, highest, highest_by, preference, preference_by, heard, heard_by}
use Rattle.path_vector.specs.Selection.{candidate, beyond, usable}
use Rattle.path_vector.specs.Standing.{Remembers}
use Rattle.path_vector.specs.Kept.{Hears, Turns, names, led_by, is_held, ends}

-- the candidate, from what was heard in the held session
abbrev candidate_by : ℕ → (ℕ → Option (Option (List ℕ))) → Option ℕ → Option (List ℕ)
candidate_by u paths session = option_map (λ path. u ∷ path) (option_and_then (usable u) (option_and_then (λ s. option_and_then (λ path. path) (paths s)) session))

candidate_is : (u : ℕ) (h : History) (p v : ℕ) → candidate u h p v ≡ candidate_by u (heard h p v) (held h v)
unfolding beyond
candidate_is u h p v = refl

by_session : (u : ℕ) (old new : ℕ → Option (Option (List ℕ))) (session : Option ℕ) → ((s : ℕ) → session ≡ Some s → new s ≡ old s) → candidate_by u new session ≡ candidate_by u old session
by_session u old new None same = refl
by_session u old new (Some s) same = rw (same s refl) refl

-- nothing has been heard in a session above the highest named one
heard_more : (v s : ℕ) (cause : Cause) (before : Option (Option (List ℕ))) (top : ℕ) → highest_by cause v top < s → (top < s → before ≡ None) → heard_by cause v s before ≡ None
heard_more v s Originate before top h old = old h
heard_more v s Withdraw before top h old = old h
heard_more v s (Recv w t seq path) before top h old =
    (elim (w == v) as (λ b. cond b (max top t) top < s → (cond (b && (t == s)) (Some path) before) ≡ None) [
      | true ↦ λ h. let other : (t == s) ≡ false = grind (arith, nat_tests) in rw other (old (omega arith))
      | false ↦ λ h. old h
    ]) h
heard_more v s (Down w t) before top h old = old ((elim (w == v) as (λ b. cond b (max top t) top < s → top < s) [ true ↦ λ h. omega arith | false ↦ λ h. h ]) h)
heard_more v s (Up w t) before top h old = old ((elim (w == v) as (λ b. cond b (max top t) top < s → top < s) [ true ↦ λ h. omega arith | false ↦ λ h. h ]) h)
heard_more v s (Ready w t) before top h old = old ((elim (w == v) as (λ b. cond b (max top t) top < s → top < s) [ true ↦ λ h. omega arith | false ↦ λ h. h ]) h)
heard_more v s (Prefer w x) before top h old = old h
heard_more v s (Flush w) before top h old = old h

pub less : (v s top : ℕ) (cause : Cause) → highest_by cause v top < s → top < s
less v s top Originate h = h
less v s top Withdraw h = h
less v s top (Recv w t seq path) h = (elim (w == v) as (λ b. cond b (max top t) top < s → top < s) [ true ↦ λ h. omega arith | false ↦ λ h. h ]) h
less v s top (Down w t) h = (elim (w == v) as (λ b. cond b (max top t) top < s → top < s) [ true ↦ λ h. omega arith | false ↦ λ h. h ]) h
less v s top (Up w t) h = (elim (w == v) as (λ b. cond b (max top t) top < s → top < s) [ true ↦ λ h. omega arith | false ↦ λ h. h ]) h
less v s top (Ready w t) h = (elim (w == v) as (λ b. cond b (max top t) top < s → top < s) [ true ↦ λ h. omega arith | false ↦ λ h. h ]) h
less v s top (Prefer w x) h = h
less v s top (Flush w) h = h

-- no entry lowers the highest session
pub grows : (v top : ℕ) (cause : Cause) → top ≤ highest_by cause v top
grows v top cause = let below = less v (suc (highest_by cause v top)) top cause (omega arith) in omega arith

pub unheard : (h : History) (p v s : ℕ) → highest h v < s → heard h p v s ≡ None
unheard [] p v s above = refl
unheard (e ∷ past) p v s above =
    elim (concerns p e.scope) as (λ b. cond b (heard_by e.cause v s (heard past p v s)) (heard past p v s) ≡ None) [
      | true ↦ heard_more v s e.cause (heard past p v s) (highest past v) above (unheard past p v s)
      | false ↦ unheard past p v s (less v s (highest past v) e.cause above)
    ]

-- an entry about another neighbour, or about none

differ : (v w : ℕ) → Some v ≢ Some w → (v == w) ≡ false
differ v w n = (elim (v == w) as (λ b. (v == w) ≡ b → b ≡ false) [ true ↦ λ e. let same : v ≡ w = grind (arith, nat_tests) in absurd (n (ap (λ x. Some x) same)) | false ↦ λ e. refl ]) refl

other_held : (cause : Cause) (w : ℕ) (before : Option ℕ) → names cause ≢ Some w → held_by cause w before ≡ before
other_held Originate w before n = refl
other_held Withdraw w before n = refl
other_held (Recv v s seq path) w before n = refl
other_held (Down v s) w before n = let off : (v == w) ≡ false = differ v w n in rw off refl
other_held (Up v s) w before n = let off : (v == w) ≡ false = differ v w n in rw off refl
other_held (Ready v s) w before n = refl
other_held (Prefer v x) w before n = refl
other_held (Flush v) w before n = refl

other_highest : (cause : Cause) (w : ℕ) (before : ℕ) → names cause ≢ Some w → highest_by cause w before ≡ before
other_highest Originate w before n = refl
other_highest Withdraw w before n = refl
other_highest (Recv v s seq path) w before n = let off : (v == w) ≡ false = differ v w n in rw off refl
other_highest (Down v s) w before n = let off : (v == w) ≡ false = differ v w n in rw off refl
other_highest (Up v s) w before n = let off : (v == w) ≡ false = differ v w n in rw off refl
other_highest (Ready v s) w before n = let off : (v == w) ≡ false = differ v w n in rw off refl
other_highest (Prefer v x) w before n = refl
other_highest (Flush v) w before n = refl

other_preference : (cause : Cause) (w : ℕ) (before : ℕ) → names cause ≢ Some w → preference_by cause w before ≡ before
other_preference Originate w before n = refl
other_preference Withdraw w before n = refl
other_preference (Recv v s seq path) w before n = refl
other_preference (Down v s) w before n = refl
other_preference (Up v s) w before n = refl
other_preference (Ready v s) w before n = refl
other_preference (Prefer v x) w before n = let off : (v == w) ≡ false = differ v w n in rw off refl
other_preference (Flush v) w before n = refl

other_heard : (cause : Cause) (w s : ℕ) (before : Option (Option (List ℕ))) → names cause ≢ Some w → heard_by cause w s before ≡ before
other_heard Originate w s before n = refl
other_heard Withdraw w s before n = refl
other_heard (Recv v t seq path) w s before n = let off : (v == w) ≡ false = differ v w n in rw off refl
other_heard (Down v t) w s before n = refl
other_heard (Up v t) w s before n = refl
other_heard (Ready v t) w s before n = refl
other_heard (Prefer v x) w s before n = refl
other_heard (Flush v) w s before n = refl

same_cond : {A : Type 0} (b : Bool) (x y : A) → x ≡ y → cond b x y ≡ y
same_cond true x y e = e
same_cond false x y e = refl

pub other_candidate : (u : ℕ) (past : History) (scope : Scope) (cause : Cause) (p w : ℕ) → names cause ≢ Some w
    → candidate u (change scope cause ∷ past) p w ≡ candidate u past p w
unfolding beyond
other_candidate u past scope cause p w n =
    rw (other_held cause w (held past w) n)
    (by_session u (heard past p w) (heard (change scope cause ∷ past) p w) (held past w) (λ s e.
    same_cond (concerns p scope) (heard_by cause w s (heard past p w s)) (heard past p w s) (other_heard cause w s (heard past p w s) n)))

-- an entry about another neighbour leaves what is stored of this one
pub unmoved : (net : Net) (u : ℕ) (past : History) (n : Neighbour) (scope : Scope) (cause : Cause) → names cause ≢ Some n.id
    → Remembers net u past n → Remembers net u (change scope cause ∷ past) n
unmoved net u past n scope cause other r = record {
  relates = r.relates;
  holds = r.holds ∙ sym (other_held cause n.id (held past n.id) other);
  named = r.named ∙ sym (other_highest cause n.id (highest past n.id) other);
  prefers = r.prefers ∙ sym (other_preference cause n.id (preference (file_preference net u n.id) past n.id) other);
  places = r.places;
  told = λ p below. r.told p below ∙ ap (λ x. Some x) (sym (other_candidate u past scope cause p n.id other));
}

-- an update

same_place : {A : Type 0} (xs : List A) (i : ℕ) (x : A) → i < length xs → slice_get (set xs i x) i ≡ Some x
same_place [] i x h = absurd (omega arith)
same_place (y ∷ ys) zero x h = refl
same_place (y ∷ ys) (suc i) x h = same_place ys i x (omega arith)

other_place : {A : Type 0} (row : List A) (p q : ℕ) (led before : A) → p ≢ q → slice_get row q ≡ Some before → slice_get (set row p led) q ≡ Some before
other_place [] p q led before apart is = is
other_place (x ∷ xs) zero zero led before apart is = absurd (apart refl)
other_place (x ∷ xs) zero (suc q) led before apart is = is
other_place (x ∷ xs) (suc p) zero led before apart is = is
other_place (x ∷ xs) (suc p) (suc q) led before apart is = other_place xs p q led before (λ e. apart (ap suc e)) is

length-set' : {A : Type 0} (xs : List A) (i : ℕ) (x : A) → length (set xs i x) ≡ length xs
length-set' [] i x = refl
length-set' (y ∷ ys) zero x = refl
length-set' (y ∷ ys) (suc i) x = ap suc (length-set' ys i x)

-- the candidate by an update's path is the own node, then that path
taken : (u : ℕ) (path : Option (List ℕ)) → option_map (λ path. u ∷ path) (option_and_then (usable u) path) ≡ option_and_then (λ nodes. if has nodes u then None else Some (u ∷ nodes)) path
taken u None = refl
taken u (Some nodes) = elim (has nodes u) as (λ b. option_map (λ path. u ∷ path) (cond b None (Some nodes)) ≡ cond b None (Some (u ∷ nodes))) [ true ↦ refl | false ↦ refl ]

-- the candidate for q after an update of p from v in session s
heard_candidate : (u : ℕ) (past : History) (p v s seq : ℕ) (path : Option (List ℕ)) (session : Option ℕ) (q : ℕ)
    → candidate_by u (heard (change (One p) (Recv v s seq path) ∷ past) q v) session
    ≡ (if is_held session s then (if p == q then led_by u (Recv v s seq path) else candidate_by u (heard past q v) session) else candidate_by u (heard past q v) session)
heard_candidate u past p v s seq path None q = refl
heard_candidate u past p v s seq path (Some t) q =
    let self : (v == v) ≡ true = grind (arith, nat_tests) in
    elim (p == q) as (λ c. option_map (λ path. u ∷ path) (option_and_then (usable u) (option_and_then (λ path. path) (cond c (cond (v == v && s == t) (Some path) (heard past q v t)) (heard past q v t))))
    ≡ cond (t == s) (cond c (led_by u (Recv v s seq path)) (candidate_by u (heard past q v) (Some t))) (candidate_by u (heard past q v) (Some t))) [
      | true ↦ rw self (elim (t == s) as (λ b. (t == s) ≡ b → option_map (λ path. u ∷ path) (option_and_then (usable u) (option_and_then (λ path. path) (cond (s == t) (Some path) (heard past q v t))))
          ≡ cond b (led_by u (Recv v s seq path)) (candidate_by u (heard past q v) (Some t))) [
            | true ↦ λ e. let back : (s == t) ≡ true = grind (arith, nat_tests) in rw back (taken u path)
            | false ↦ λ e. let back : (s == t) ≡ false = grind (arith, nat_tests) in rw back refl
          ] refl)
      | false ↦ elim (t == s) as (λ b. candidate_by u (heard past q v) (Some t) ≡ cond b (candidate_by u (heard past q v) (Some t)) (candidate_by u (heard past q v) (Some t))) [ true ↦ refl | false ↦ refl ]
    ]

-- after an update the candidate of its neighbour is that of its path, or as before
pub updated : (u : ℕ) (past : History) (p v s seq : ℕ) (path : Option (List ℕ))
    → (candidate u (change (One p) (Recv v s seq path) ∷ past) p v ≡ led_by u (Recv v s seq path)) ⊎ (candidate u (change (One p) (Recv v s seq path) ∷ past) p v ≡ candidate u past p v)
updated u past p v s seq path =
    let self : (p == p) ≡ true = grind (arith, nat_tests) in
    (elim (is_held (held past v) s) as (λ b. candidate u (change (One p) (Recv v s seq path) ∷ past) p v ≡ cond b (cond (p == p) (led_by u (Recv v s seq path)) (candidate_by u (heard past p v) (held past v))) (candidate_by u (heard past p v) (held past v))
    → (candidate u (change (One p) (Recv v s seq path) ∷ past) p v ≡ led_by u (Recv v s seq path)) ⊎ (candidate u (change (One p) (Recv v s seq path) ∷ past) p v ≡ candidate u past p v)) [
      | true ↦ λ e. inl (e ∙ taken_where (p == p) (led_by u (Recv v s seq path)) (candidate_by u (heard past p v) (held past v)) self)
      | false ↦ λ e. inr (e ∙ sym (candidate_is u past p v))
    ]) (candidate_is u (change (One p) (Recv v s seq path) ∷ past) p v ∙ heard_candidate u past p v s seq path (held past v) p)
  where
    taken_where : {A : Type 0} (b : Bool) (x y : A) → b ≡ true → cond b x y ≡ x
    taken_where true x y e = refl
    taken_where false x y e = absurd (cc e)

-- the row after an update
heard_row : (row : List (Option (List ℕ))) (p q : ℕ) (held_now : Bool) (led before : Option (List ℕ)) → q < length row → slice_get row q ≡ Some before
    → slice_get (if held_now then set row p led else row) q ≡ Some (if held_now then (if p == q then led else before) else before)
heard_row row p q false led before below is = is
heard_row row p q true led before below is =
    (elim (p == q) as (λ c. (p == q) ≡ c → slice_get (set row p led) q ≡ Some (cond c led before)) [
      | true ↦ λ e. let same : p ≡ q = grind (arith, nat_tests) in rw same (same_place row q led below)
      | false ↦ λ e. let apart : p ≢ q = grind (arith, nat_tests) in other_place row p q led before apart is
    ]) refl

row_length : (row : List (Option (List ℕ))) (p : ℕ) (held_now : Bool) (led : Option (List ℕ)) → length (if held_now then set row p led else row) ≡ length row
row_length row p true led = length-set' row p led
row_length row p false led = refl

-- what is stored of neighbour v
pub record KeptOf (net : Net) (u : ℕ) (h : History) (v : ℕ) (n : Neighbour) : Type 0 where
  pub relates : relation net u v ≡ Some n.relation
  pub holds : n.held ≡ held h v
  pub named : n.highest ≡ highest h v
  pub prefers : n.preference ≡ preference (file_preference net u v) h v
  pub places : length n.told.items ≡ length net.prefixes
  pub told : (p : ℕ) → p < length net.prefixes → slice_get n.told.items p ≡ Some (candidate u h p v)

pub remembers : (net : Net) (u : ℕ) (h : History) (v : ℕ) (n : Neighbour) → n.id ≡ v → KeptOf net u h v n → Remembers net u h n
remembers net u h v n is k =
    let own : KeptOf net u h n.id n = subst (λ w. KeptOf net u h w n) (sym is) k in
    record { relates = own.relates; holds = own.holds; named = own.named; prefers = own.prefers; places = own.places; told = own.told }

pub hears : (net : Net) (u : ℕ) (past : History) (old new : Neighbour) (p s seq : ℕ) (path : Option (List ℕ)) → Remembers net u past old
    → Hears p s (led_by u (Recv old.id s seq path)) old new → Remembers net u (change (One p) (Recv old.id s seq path) ∷ past) new
hears net u past old new p s seq path r h =
    let self : (old.id == old.id) ≡ true = grind (arith, nat_tests) in
    remembers net u (change (One p) (Recv old.id s seq path) ∷ past) old.id new h.id (record {
      relates = rw h.relation r.relates;
      holds = h.held ∙ r.holds;
      named = rw self (h.highest ∙ ap (λ n. max n s) r.named);
      prefers = h.preference ∙ r.prefers;
      places = rw h.told (row_length old.told.items p (is_held old.held s) (led_by u (Recv old.id s seq path)) ∙ r.places);
      told = λ q below.
          let inside : q < length old.told.items = rw r.places below in
          rw (h.told, candidate_is u (change (One p) (Recv old.id s seq path) ∷ past) q old.id)
          (heard_row old.told.items p q (is_held old.held s) (led_by u (Recv old.id s seq path)) (candidate u past q old.id) inside (r.told q below)
          ∙ ap (λ x. Some x) (rw (r.holds, candidate_is u past q old.id) (sym (heard_candidate u past p old.id s seq path (held past old.id) q))));
    })

-- an entry that concerns all prefixes

candidate_none : (u : ℕ) (paths : ℕ → Option (Option (List ℕ))) (session : Option ℕ) → ((s : ℕ) → session ≡ Some s → paths s ≡ None) → candidate_by u paths session ≡ None
candidate_none u paths None none = refl
candidate_none u paths (Some s) none = rw (none s refl) refl

-- nothing has been heard in a session that begins
begun : (u : ℕ) (past : History) (q v s : ℕ) → highest past v < s → candidate u (change All (Up v s) ∷ past) q v ≡ None
unfolding beyond
begun u past q v s above =
    let self : (v == v) ≡ true = grind (arith, nat_tests) in
    rw self (candidate_none u (heard past q v) (Some s) (λ t e. let same : t ≡ s = cc in rw same (unheard past q v s above)))

-- there is no candidate after a session ends
ended : (u : ℕ) (past : History) (q v s : ℕ) → candidate u (change All (Down v s) ∷ past) q v ≡ None
unfolding beyond
ended u past q v s = let self : (v == v) ≡ true = grind (arith, nat_tests) in rw self refl

-- any other entry for all prefixes leaves the candidates
stays : (u : ℕ) (past : History) (q v : ℕ) (cause : Cause) → HasScope All cause → ends cause ≡ false → candidate u (change All cause ∷ past) q v ≡ candidate u past q v
unfolding beyond
stays u past q v Originate s e = absurd s
stays u past q v Withdraw s e = absurd s
stays u past q v (Recv w t seq path) s e = absurd s
stays u past q v (Down w t) s e = absurd (cc e)
stays u past q v (Up w t) s e = absurd (cc e)
stays u past q v (Ready w t) s e = refl
stays u past q v (Prefer w x) s e = refl
stays u past q v (Flush w) s e = absurd s

turned_candidate : (u : ℕ) (past : History) (q v : ℕ) (cause : Cause) → Accepts past All cause → names cause ≡ Some v
    → candidate u (change All cause ∷ past) q v ≡ (if ends cause then None else candidate u past q v)
turned_candidate u past q v Originate a e = absurd a.scoped
turned_candidate u past q v Withdraw a e = absurd a.scoped
turned_candidate u past q v (Recv w t seq path) a e = absurd a.scoped
turned_candidate u past q v (Down w t) a e = let same : w ≡ v = cc in rw same (ended u past q v t)
turned_candidate u past q v (Up w t) a e = let same : w ≡ v = cc in rw same (begun u past q v t (rw same at a.opens))
turned_candidate u past q v (Ready w t) a e = stays u past q v (Ready w t) tt refl
turned_candidate u past q v (Prefer w x) a e = stays u past q v (Prefer w x) tt refl
turned_candidate u past q v (Flush w) a e = absurd a.scoped

either : {A : Type 0} (b : Bool) (x y : A) → Some (if b then x else y) ≡ (if b then Some x else Some y)
either true x y = refl
either false x y = refl

pub turns : (net : Net) (u : ℕ) (past : History) (old new : Neighbour) (cause : Cause) → Remembers net u past old
    → Accepts past All cause → names cause ≡ Some old.id → Turns cause old new → Remembers net u (change All cause ∷ past) new
turns net u past old new cause r a e t =
    remembers net u (change All cause ∷ past) old.id new t.id (record {
      relates = rw t.relation r.relates;
      holds = t.held ∙ ap (held_by cause old.id) r.holds;
      named = t.highest ∙ ap (highest_by cause old.id) r.named;
      prefers = t.preference ∙ ap (preference_by cause old.id) r.prefers;
      places = t.places ∙ r.places;
      told = λ q below.
          let inside : q < length old.told.items = rw r.places below in
          rw (t.told q inside, r.told q below, turned_candidate u past q old.id cause a e) (sym (either (ends cause) None (candidate u past q old.id)));
    })

-- the same, for an update
pub hears_as : (net : Net) (u : ℕ) (past : History) (old new : Neighbour) (p : ℕ) (cause : Cause) (v s seq : ℕ) (path led : Option (List ℕ)) → cause ≡ Recv v s seq path → Remembers net u past old
    → names cause ≡ Some old.id → led ≡ led_by u cause → Hears p s led old new → Remembers net u (change (One p) cause ∷ past) new
hears_as net u past old new p cause v s seq path led is r n l h =
    let own : v ≡ old.id = cc (sym (ap names is) ∙ n) in
    let here : cause ≡ Recv old.id s seq path = is ∙ ap (λ w. Recv w s seq path) own in
    subst (λ k. Remembers net u (change (One p) k ∷ past) new) (sym here) (hears net u past old new p s seq path r (subst (λ x. Hears p s x old new) (l ∙ ap (led_by u) here) h))

-- an entry that concerns no prefix

flushed_candidate : (u : ℕ) (past : History) (q v w : ℕ) → candidate u (change Nothing (Flush w) ∷ past) q v ≡ candidate u past q v
unfolding beyond
flushed_candidate u past q v w = refl

-- it leaves what is stored of each neighbour
pub flushed : (net : Net) (u : ℕ) (past : History) (n : Neighbour) (cause : Cause) → HasScope Nothing cause → Remembers net u past n → Remembers net u (change Nothing cause ∷ past) n
flushed net u past n Originate s r = absurd s
flushed net u past n Withdraw s r = absurd s
flushed net u past n (Recv v t seq path) s r = absurd s
flushed net u past n (Down v t) s r = absurd s
flushed net u past n (Up v t) s r = absurd s
flushed net u past n (Ready v t) s r = absurd s
flushed net u past n (Prefer v x) s r = absurd s
flushed net u past n (Flush w) s r = record {
  relates = r.relates;
  holds = r.holds;
  named = r.named;
  prefers = r.prefers;
  places = r.places;
  told = λ p below. r.told p below ∙ ap (λ x. Some x) (sym (flushed_candidate u past p n.id w));
}

-- before the first entry

at_replicate : {A : Type 0} (n p : ℕ) (x : A) → p < n → slice_get (replicate n x) p ≡ Some x
at_replicate zero p x h = absurd (omega arith)
at_replicate (suc n) zero x h = refl
at_replicate (suc n) (suc p) x h = at_replicate n p x (omega arith)

length-none : (n : ℕ) (x : Option (List ℕ)) → length (replicate n x) ≡ n
length-none zero x = refl
length-none (suc n) x = ap suc (length-none n x)

no_candidate : (u p v : ℕ) → candidate u [] p v ≡ None
unfolding beyond
no_candidate u p v = refl

pub remembers_nothing : (net : Net) (u : ℕ) (n : Neighbour) → relation net u n.id ≡ Some n.relation → n.held ≡ Some 1 → n.highest ≡ 1 → n.preference ≡ file_preference net u n.id
    → n.told.items ≡ replicate (length net.prefixes) None → Remembers net u [] n
remembers_nothing net u n relates holds named prefers row = record {
  relates = relates;
  holds = holds;
  named = named;
  prefers = prefers;
  places = rw row (length-none (length net.prefixes) None);
  told = λ p below. rw (row, no_candidate u p n.id) (at_replicate (length net.prefixes) p None below);
}
