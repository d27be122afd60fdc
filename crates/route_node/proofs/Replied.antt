-- The frames of outputs, one output after another.
use Rattle.std.proofs.Common.{ℕ, ◌+◌, ◌≡◌, ◌<◌, Bool, true, false, List, [], ◌∷◌, ◌++◌, map, filter_map, take, drop, length, get_or, refl, sym, ap, ◌∙◌, append_assoc}
use Rattle.std.specs.List.{list_all}
use Rattle.std.proofs.lemmas.List.{length-append, map-append, take-append-drop, take_more}
use Rattle.std.proofs.lemmas.List.Elements.{filter_map-append}
use Rattle.std.proofs.lemmas.List.Folds.{list_all-map, list_all_at}
use Rattle.topology.specs.Net.{Net}
use Rattle.node_core.specs.declared.outputs.Output.{Output as Given}
use Rattle.node_core.specs.Outputs.{output_of}
use Rattle.admission_laws.specs.Handing.{output_fits}
use Rattle.wire_frames.specs.declared.frames.Frame.{Frame}
use Rattle.route_node.specs.Frames.{telling}
use Rattle.route_node.specs.Told.{told}

-- an output in a list of fitting ones
pub turn_fits : (net : Net) (u : ℕ) (all : List Given) (i : ℕ) (x : Given) → list_all (output_fits net u) (map output_of all) ≡ true → i < length all → x ≡ get_or all i x
    → output_fits net u (output_of x) ≡ true
turn_fits net u all i x fit inside at =
    let fits_given : Given → Bool = λ y. output_fits net u (output_of y) in
    (elim (output_fits net u (output_of x)) as (λ b. output_fits net u (output_of x) ≡ b → b ≡ true) [
      | true ↦ λ e. refl
      | false ↦ λ e.
          let none = list_all_at fits_given all i x inside (ap fits_given (sym at) ∙ e) in
          let some = sym (list_all-map (output_fits net u) output_of all) ∙ fit in
          absurd (cc (none, some))
    ]) refl

-- the first of them and one more
pub one_more : (all done : List Given) (x : Given) → done ≡ take (length done) all → length done < length all → x ≡ get_or all (length done) x → done ++ x ∷ [] ≡ take (length (done ++ x ∷ [])) all
one_more all done x so_far inside at =
    let count : length done + 1 ≡ length (done ++ x ∷ []) = sym (length-append done (x ∷ [])) in
    ap (λ l. l ++ x ∷ []) so_far ∙ (ap (λ y. take (length done) all ++ y ∷ []) at ∙ (sym (take_more all (length done) x inside) ∙ ap (λ n. take n all) count))

-- the frames of outputs
abbrev shown : List Given → List Frame
shown list = filter_map telling (map output_of list)

shown_both : (xs ys : List Given) → shown (xs ++ ys) ≡ shown xs ++ shown ys
shown_both xs ys = ap (filter_map telling) (map-append output_of xs ys) ∙ filter_map-append telling (map output_of xs) (map output_of ys)

pub told_more : (done : List Given) (x : Given) → filter_map telling (map output_of done) ++ told (output_of x) ≡ filter_map telling (map output_of (done ++ x ∷ []))
told_more done x = sym (shown_both done (x ∷ []))

-- the outputs that are left after these and one more
pub left_behind : List Given → List Given → List Given
left_behind all done = drop (length done + 1) all

pub told_all : (all done : List Given) (x : Given) → done ≡ take (length done) all → length done < length all → x ≡ get_or all (length done) x
    → filter_map telling (map output_of all) ≡ filter_map telling (map output_of done) ++ (told (output_of x) ++ filter_map telling (map output_of (left_behind all done)))
unfolding left_behind
told_all all done x so_far inside at =
    let rest = drop (length done + 1) all in
    let count : length (done ++ x ∷ []) ≡ length done + 1 = length-append done (x ∷ []) in
    let front : done ++ x ∷ [] ≡ take (length done + 1) all = one_more all done x so_far inside at ∙ ap (λ n. take n all) count in
    let whole : all ≡ (done ++ x ∷ []) ++ rest = sym (take-append-drop (length done + 1) all) ∙ ap (λ l. l ++ rest) (sym front) in
    ap shown whole ∙ (shown_both (done ++ x ∷ []) rest ∙ (ap (λ l. l ++ shown rest) (shown_both done (x ∷ [])) ∙ append_assoc (shown done) (told (output_of x)) (shown rest)))
