-- How what happens in a load is put together, a draw for each part.
use Rattle.std.proofs.Common.{◌≡◌, ℕ, ◌+◌, ◌-◌, ◌<◌, List, [], ◌∷◌, ◌++◌, length, Some, get_or, refl, sym, ap, ◌∙◌, arith, append_assoc}
use Rattle.std.proofs.lemmas.Grind.{common_steps}
use Rattle.std.specs.List.{range_with_len, flat_map}
use Rattle.std.proofs.lemmas.List.{flat_map_more}
use Rattle.std.proofs.lemmas.List.FromFn.{map-range_with_len_more, get_or-map-range_with_len, length-map-range_with_len}
use Rattle.schedule_file.specs.declared.directives.Directive.{Directive}
use Rattle.schedule_file.specs.declared.directives.Directive.TheVariants.{Originate, Inject, Hop, Drain}
use Rattle.load_plan.specs.Draws.{next, state_after, given_below, drawn}
use Rattle.load_plan.specs.LoadNetwork.{first_provider, first_providers}
use Rattle.load_plan.specs.LoadSchedule.{announcement, announcements, announcer, cut_off_node, entrance, epoch_lines, failing_lines, further_epoch, further_epochs, load_directives, packet_lines, packets_lines}
use Rattle.load_plan.proofs.Drafts.{state_step, draw_is, range_more}

-- one draw more
pub state_on : (number m n state state' : ℕ) → state ≡ state_after number (m + n) → state' ≡ next state → state' ≡ state_after number (m + (n + 1))
state_on number m n state state' is now = state_step number (m + n) state state' is now ∙ ap (state_after number) (omega arith)

drawn_at : (number m n k place state got : ℕ) → state ≡ state_after number (m + n) → got ≡ given_below k (next state) → place ≡ m + n + 1 → got ≡ drawn number place k
drawn_at number m n k place state got is was at = draw_is number (m + n) k state got is was ∙ ap (λ p. drawn number p k) (sym at)

-- announcements

pub no_announcements : (number : ℕ) → announcements number 0 ≡ []
unfolding announcements
no_announcements number = refl

announcer_is : (number n state got : ℕ) → state ≡ state_after number (42 + n) → got ≡ given_below 24 (next state) → got + 1 ≡ announcer number n
unfolding announcer
announcer_is number n state got is was = ap (λ g. g + 1) (drawn_at number 42 n 24 (43 + n) state got is was (omega arith))

pub announcement_step : (number n state got : ℕ) → state ≡ state_after number (42 + n) → got ≡ given_below 24 (next state) → announcements number n ++ Originate (got + 1) n ∷ [] ≡ announcements number (n + 1)
unfolding announcements
announcement_step number n state got is was =
    rw (announcer_is number n state got is was) (sym (map-range_with_len_more (announcement number) 0 n n (omega arith)))

-- packets

pub no_packets : (number : ℕ) (lines : List (Directive ℕ)) → lines ≡ lines ++ packets_lines number 0
unfolding packets_lines
no_packets number lines = grind (arith, common_steps)

entrance_is : (number n state got : ℕ) → state ≡ state_after number (57 + n) → got ≡ given_below 24 (next state) → got + 1 ≡ entrance number (n + 1)
unfolding entrance
entrance_is number n state got is was = ap (λ g. g + 1) (drawn_at number 57 n 24 (57 + (n + 1)) state got is was (omega arith))

packets_more : (number n k : ℕ) → 1 + n ≡ k → packets_lines number n ++ packet_lines number k ≡ packets_lines number (n + 1)
unfolding packets_lines
packets_more number n k e =
    flat_map_more (packet_lines number) [] (range_with_len 1 n) k ∙ ap (flat_map (packet_lines number)) (sym (range_more 1 n k e))

pub packet_step : (number n state got : ℕ) (lines : List (Directive ℕ)) → state ≡ state_after number (57 + n) → got ≡ given_below 24 (next state)
    → (lines ++ packets_lines number n) ++ Inject (n + 1) (got + 1) n ∷ Hop (n + 1) (Some 200) ∷ [] ≡ lines ++ packets_lines number (n + 1)
packet_step number n state got lines is was =
    let place : n ≡ n + 1 - 1 = omega arith in
    append_assoc lines (packets_lines number n) _
    ∙ ap (λ more. lines ++ more) (ap (λ l. packets_lines number n ++ l) (ap (λ u. Inject (n + 1) u n ∷ Hop (n + 1) (Some 200) ∷ []) (entrance_is number n state got is was)
    ∙ ap (λ p. Inject (n + 1) (entrance number (n + 1)) p ∷ Hop (n + 1) (Some 200) ∷ []) place)
    ∙ packets_more number n (n + 1) (omega arith))

-- epochs

pub no_epochs : (number : ℕ) (lines : List (Directive ℕ)) → lines ≡ lines ++ further_epochs number 0
unfolding further_epochs
no_epochs number lines = grind (arith, common_steps)

cut_off_is : (number n state got : ℕ) → state ≡ state_after number (54 + n) → got ≡ given_below 21 (next state) → got + 4 ≡ cut_off_node number (n + 2)
unfolding cut_off_node
cut_off_is number n state got is was = ap (λ g. g + 4) (drawn_at number 54 n 21 (53 + (n + 2)) state got is was (omega arith))

pub provider_at : (number place got : ℕ) (providers : List ℕ) → providers ≡ first_providers number 21 → place < 21 → got ≡ get_or providers place got → got ≡ first_provider number (place + 4)
unfolding first_providers
provider_at number place got providers made few found =
    found ∙ (rw made (get_or-map-range_with_len (first_provider number) 4 21 place (place + 4) got few (omega arith)))

epochs_more : (number n r : ℕ) → 2 + n ≡ r → further_epochs number n ++ further_epoch number r ≡ further_epochs number (n + 1)
unfolding further_epochs
epochs_more number n r e =
    flat_map_more (further_epoch number) [] (range_with_len 2 n) r ∙ ap (flat_map (further_epoch number)) (sym (range_more 2 n r e))

pub epoch_step : (number n state place provider node : ℕ) (lines : List (Directive ℕ)) {providers : List ℕ} → providers ≡ first_providers number 21
    → state ≡ state_after number (54 + n) → place ≡ given_below 21 (next state) → place < 21 → provider ≡ get_or providers place provider → node ≡ place + 4
    → (lines ++ further_epochs number n) ++ failing_lines provider node (n + 2) ≡ lines ++ further_epochs number (n + 1)
epoch_step number n state place provider node lines {providers} made is was few found at =
    let cut = at ∙ cut_off_is number n state place is was in
    let first = provider_at number place provider providers made few found ∙ ap (first_provider number) (sym at ∙ cut) in
    append_assoc lines (further_epochs number n) _
    ∙ ap (λ more. lines ++ more) (ap (λ l. further_epochs number n ++ l) (ap (λ p. failing_lines p node (n + 2)) first
    ∙ ap (λ u. failing_lines (first_provider number (cut_off_node number (n + 2))) u (n + 2)) cut)
    ∙ epochs_more number n (n + 2) (omega arith))

pub many_providers : (number : ℕ) (providers : List ℕ) → providers ≡ first_providers number 21 → length providers ≡ 21
unfolding first_providers
many_providers number providers made = ap (λ (l : List ℕ). length l) made ∙ length-map-range_with_len (first_provider number) 4 21

-- all lines, put together in these steps
pub all_lines : (number : ℕ) (one two three four five : List (Directive ℕ))
    → one ≡ announcements number 12 → two ≡ one ++ Drain 1000000 ∷ [] → three ≡ two ++ epoch_lines 1 1
    → four ≡ three ++ further_epochs number 3 → five ≡ four ++ packets_lines number 12 → five ≡ load_directives number
unfolding load_directives announcements further_epochs packets_lines
all_lines number one two three four five a b c d e =
    let first = announcements number 12 in
    let further = further_epochs number 3 in
    let packets = packets_lines number 12 in
    e ∙ ap (λ l. l ++ packets) (d ∙ ap (λ l. l ++ further) (c ∙ ap (λ l. l ++ epoch_lines 1 1) (b ∙ ap (λ l. l ++ Drain 1000000 ∷ []) a)))
    ∙ append_assoc ((first ++ Drain 1000000 ∷ []) ++ epoch_lines 1 1) further packets
    ∙ ap (λ l. l ++ further ++ packets) (append_assoc first (Drain 1000000 ∷ []) (epoch_lines 1 1))
    ∙ append_assoc first (Drain 1000000 ∷ epoch_lines 1 1) (further ++ packets)
