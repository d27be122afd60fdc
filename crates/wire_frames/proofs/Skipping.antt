-- Skipping elements one after another, as a loop does.
use Rattle.std.proofs.Common.{◌≡◌, ℕ, zero, suc, ◌-◌, ◌+◌, ◌<◌, List, [], ◌∷◌, length, Result, Ok, Err, refl, sym, ap, ap₂, subst, ◌∙◌, arith}
use Rattle.topology.specs.declared.frame_faults.FrameKind.{FrameKind}
use Rattle.wire_frames.specs.Formats.{◌>>=◌, Series, many_at, listed, stepped, reached, skipped, passed}
use Rattle.topology.specs.declared.names.Trigger.{Trigger}
use Rattle.topology.specs.declared.names.Scope.{Scope}
use Rattle.wire_frames.specs.Fields.{trigger, scope, more_items, items, row, rows}
use Rattle.std.specs.Prelude.{◌==◌}
use Rattle.topology.specs.declared.items.Sent.{Sent}
use Rattle.wire_frames.specs.Listing.{triggers, scope_beside, RowSoFar, begun, listed_items, RowsSoFar, with_row, listed_row, listed_rows}
use Rattle.wire_frames.proofs.Formats.{bind_ok, ok_is}

pub goes_on : {S A : Type 0} (series : Series S A) (count i : ℕ) (s next : S) (bytes rest : List ℕ) (total : Result (S × List ℕ) FrameKind) → i < count → stepped series s bytes ≡ Ok (next, rest)
    → skipped series s (count - i) bytes ≡ total → skipped series next (count - (i + 1)) rest ≡ total
goes_on series count i s next bytes rest total lt step so_far =
    let k : count - i ≡ suc (count - (i + 1)) = omega arith in
    let one : skipped series s (count - i) bytes ≡ skipped series next (count - (i + 1)) rest = rw (k, step) refl in
    sym one ∙ so_far

pub ends : {S A : Type 0} (series : Series S A) (count i : ℕ) (s : S) (bytes : List ℕ) (wrong : FrameKind) (total : Result (S × List ℕ) FrameKind) → i < count → stepped series s bytes ≡ Err wrong
    → skipped series s (count - i) bytes ≡ total → total ≡ Err wrong
ends series count i s bytes wrong total lt step so_far =
    let k : count - i ≡ suc (count - (i + 1)) = omega arith in
    let one : skipped series s (count - i) bytes ≡ Err wrong = rw (k, step) refl in
    sym so_far ∙ one

-- the state after elements, and the bytes after them
abbrev with_state : {S A : Type 0} → Series S A → S → List A × List ℕ → Result (S × List ℕ) FrameKind
with_state series s xs = Ok (reached series s xs.0, xs.1)

abbrev put : {A : Type 0} → A → List A × List ℕ → Result (List A × List ℕ) FrameKind
put x xs = Ok (x ∷ xs.0, xs.1)

abbrev then_step : {S A : Type 0} → Series S A → S → A × List ℕ → Result (S × List ℕ) FrameKind
then_step series s x = Ok (series.step s x.0, x.1)

abbrev then_skip : {S A : Type 0} → Series S A → ℕ → S × List ℕ → Result (S × List ℕ) FrameKind
then_skip series n x = skipped series x.0 n x.1

abbrev then_read : {S A : Type 0} → Series S A → S → ℕ → A × List ℕ → Result (List A × List ℕ) FrameKind
then_read series s n x = many_at series (series.step s x.0) n x.1 >>= put x.0

put_state : {S A : Type 0} (series : Series S A) (s : S) (x : A) (m : Result (List A × List ℕ) FrameKind) → (m >>= with_state series (series.step s x)) ≡ ((m >>= put x) >>= with_state series s)
put_state series s x (Ok xs) = refl
put_state series s x (Err wrong) = refl

step_after : {S A : Type 0} (series : Series S A) (s : S) (n : ℕ) (r : Result (A × List ℕ) FrameKind) → ((t : S) (bytes : List ℕ) → skipped series t n bytes ≡ (many_at series t n bytes >>= with_state series t))
    → ((r >>= then_step series s) >>= then_skip series n) ≡ ((r >>= then_read series s n) >>= with_state series s)
step_after series s n (Ok x) later = later (series.step s x.0) x.1 ∙ put_state series s x.0 (many_at series (series.step s x.0) n x.1)
step_after series s n (Err wrong) later = refl

-- skipping elements gives the same state and the same rest as reading them
pub skipped_many : {S A : Type 0} (series : Series S A) (s : S) (n : ℕ) (bytes : List ℕ) → skipped series s n bytes ≡ (many_at series s n bytes >>= with_state series s)
skipped_many series s zero bytes = refl
skipped_many series s (suc n) bytes = step_after series s n ((series.at s).reads bytes) (λ t rest. skipped_many series t n rest)

length_put : {A : Type 0} (x : A) (n : ℕ) (m : Result (List A × List ℕ) FrameKind) (y : List A × List ℕ) → ((z : List A × List ℕ) → m ≡ Ok z → length z.0 ≡ n) → (m >>= put x) ≡ Ok y → length y.0 ≡ suc n
length_put {A} x n (Ok z) y each e =
    let made : List A × List ℕ = (x ∷ z.0, z.1) in
    subst (λ (w : List A × List ℕ). length w.0 ≡ suc n) (ok_is made y e) (ap suc (each z refl))
length_put x n (Err wrong) y each e = absurd cc

-- as many elements are read as were counted
pub length_many : {S A : Type 0} (series : Series S A) (s : S) (n : ℕ) (bytes : List ℕ) (y : List A × List ℕ) → many_at series s n bytes ≡ Ok y → length y.0 ≡ n
length_many {S} {A} series s zero bytes y e =
    let made : List A × List ℕ = ([], bytes) in
    subst (λ (w : List A × List ℕ). length w.0 ≡ 0) (ok_is made y e) refl
length_many {S} {A} series s (suc n) bytes y e =
    let a = bind_ok ((series.at s).reads bytes) (λ (x : A × List ℕ). many_at series (series.step s x.0) n x.1 >>= put x.0) y e in
    length_put a.0.0 n (many_at series (series.step s a.0.0) n a.0.1) y (λ z f. length_many series (series.step s a.0.0) n a.0.1 z f) a.2

state_ok : {S A : Type 0} (series : Series S A) (s t : S) (m : Result (List A × List ℕ) FrameKind) (rest : List ℕ) → (m >>= with_state series s) ≡ Ok (t, rest) → (xs : List A) × (m ≡ Ok (xs, rest)) × (reached series s xs ≡ t)
state_ok {S} series s t m rest e =
    let a = bind_ok m (with_state series s) (t, rest) e in
    let same = ok_is (reached series s a.0.0, a.0.1) (t, rest) a.2 in
    (a.0.0, a.1 ∙ ap (λ (r : List ℕ). Ok (a.0.0, r)) (ap (λ (p : S × List ℕ). p.1) same), ap (λ (p : S × List ℕ). p.0) same)

state_err : {S A : Type 0} (series : Series S A) (s : S) (m : Result (List A × List ℕ) FrameKind) (wrong : FrameKind) → (m >>= with_state series s) ≡ Err wrong → m ≡ Err wrong
state_err series s (Ok x) wrong e = absurd cc
state_err series s (Err other) wrong e = let same : other ≡ wrong = cc in ap (λ (w : FrameKind). Err w) same

-- skipped elements can be read
pub record AreRead {S A : Type 0} (series : Series S A) (s t : S) (n : ℕ) (bytes rest : List ℕ) : Type 0 where
  pub list : List A
  pub read : many_at series s n bytes ≡ Ok (list, rest)
  pub long : length list ≡ n
  pub comes : reached series s list ≡ t

pub skipped_ok : {S A : Type 0} (series : Series S A) (s t : S) (n : ℕ) (bytes rest : List ℕ) → skipped series s n bytes ≡ Ok (t, rest) → AreRead series s t n bytes rest
skipped_ok series s t n bytes rest e =
    let a = state_ok series s t (many_at series s n bytes) rest (sym (skipped_many series s n bytes) ∙ e) in
    record { list = a.0; read = a.1; long = length_many series s n bytes (a.0, rest) a.1; comes = a.2 }

-- a fault of skipped elements is a fault where they are read
pub skipped_err : {S A : Type 0} (series : Series S A) (s : S) (n : ℕ) (bytes : List ℕ) (wrong : FrameKind) → skipped series s n bytes ≡ Err wrong → many_at series s n bytes ≡ Err wrong
skipped_err series s n bytes wrong e = state_err series s (many_at series s n bytes) wrong (sym (skipped_many series s n bytes) ∙ e)

-- the same for the rest of the bytes alone
pub passed_ok : {S A : Type 0} (series : Series S A) (s : S) (n : ℕ) (bytes rest : List ℕ) → passed series s n bytes ≡ Ok rest → (t : S) × (skipped series s n bytes ≡ Ok (t, rest))
passed_ok {S} series s n bytes rest e =
    let a = bind_ok (skipped series s n bytes) (λ (x : S × List ℕ). Ok x.1) rest e in
    let same : a.0.1 ≡ rest = ok_is a.0.1 rest a.2 in
    (a.0.0, a.1 ∙ ap (λ (r : List ℕ). Ok (a.0.0, r)) same)

only_err : {S : Type 0} (m : Result (S × List ℕ) FrameKind) (wrong : FrameKind) → (m >>= λ (x : S × List ℕ). Ok x.1) ≡ Err wrong → m ≡ Err wrong
only_err (Ok x) wrong e = absurd cc
only_err (Err other) wrong e = let same : other ≡ wrong = cc in ap (λ (w : FrameKind). Err w) same

pub passed_err : {S A : Type 0} (series : Series S A) (s : S) (n : ℕ) (bytes : List ℕ) (wrong : FrameKind) → passed series s n bytes ≡ Err wrong → skipped series s n bytes ≡ Err wrong
passed_err series s n bytes wrong e = only_err (skipped series s n bytes) wrong e

-- ---- rows

pub row_goes_over : (before n : ℕ) (t : Trigger) (s : Scope) (xs : List Sent) (b0 b1 b2 b3 : List ℕ) → trigger.reads b0 ≡ Ok (t, b1) → scope.reads b1 ≡ Ok (s, b2) → (listed (more_items before) items t).reads b2 ≡ Ok (xs, b3) → n ≡ length xs
    → stepped rows before b0 ≡ Ok (before + n, b3)
unfolding row
row_goes_over before n t s xs b0 b1 b2 b3 first second third long =
    rw (first, second, third) (ap (λ (k : ℕ). Ok (before + k, b3)) (sym long))

-- ---- rows of version 2

pub listed_row_goes_over : (s : RowsSoFar) (n : ℕ) (ts : List Trigger) (whole : Scope) (xs : List Sent) (row : RowSoFar) (b0 b1 b2 b3 : List ℕ) → (triggers 0 s.marks).reads b0 ≡ Ok (ts, b1) → (scope_beside (length ts == 0)).reads b1 ≡ Ok (whole, b2)
    → (listed (more_items s.items) listed_items (begun s.marks ts)).reads b2 ≡ Ok (xs, b3) → n ≡ length xs → row ≡ reached listed_items (begun s.marks ts) xs → stepped listed_rows s b0 ≡ Ok (with_row s n row, b3)
unfolding listed_row
listed_row_goes_over s n ts whole xs row b0 b1 b2 b3 first second third long comes =
    rw (first, second, third) (ap₂ (λ (k : ℕ) (r : RowSoFar). Ok (with_row s k r, b3)) (sym long) (sym comes))

pub listed_row_goes_wrong : (s : RowsSoFar) (ts : List Trigger) (whole : Scope) (b0 b1 b2 : List ℕ) (wrong : FrameKind) → (triggers 0 s.marks).reads b0 ≡ Ok (ts, b1) → (scope_beside (length ts == 0)).reads b1 ≡ Ok (whole, b2)
    → (listed (more_items s.items) listed_items (begun s.marks ts)).reads b2 ≡ Err wrong → stepped listed_rows s b0 ≡ Err wrong
unfolding listed_row
listed_row_goes_wrong s ts whole b0 b1 b2 wrong first second third = rw (first, second, third) refl

-- the state after a row whose items were read
pub row_counts : (s : RowsSoFar) (n : ℕ) (ts : List Trigger) (start row : RowSoFar) (xs ys : List Sent) → row ≡ reached listed_items start ys → start ≡ begun s.marks ts → xs ≡ ys → length ys ≡ n
    → with_row s n row ≡ with_row s (length xs) (reached listed_items (begun s.marks ts) xs)
row_counts s n ts start row xs ys is at same long =
    let here : row ≡ reached listed_items (begun s.marks ts) xs = is ∙ ap₂ (λ (t : RowSoFar) (l : List Sent). reached listed_items t l) at (sym same) in
    ap₂ (λ (k : ℕ) (r : RowSoFar). with_row s k r) (sym long ∙ sym (ap length same)) here
