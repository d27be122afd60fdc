-- The forms of the words of the program.
use Rattle.std.specs.Prelude.{ℕ, ◌≡◌, ◌≤◌, List, [], ◌∷◌, codes}
use Rattle.std.specs.Fmt.{decimal}
use Rattle.topology.specs.declared.limits.TheConstants.{HIGHEST_LOAD, HIGHEST_NODE}
use Rattle.routing_commands.specs.declared.forms.Form.{Form}
use Rattle.routing_commands.specs.declared.forms.Form.TheVariants.{Replay, Load, Node, KeptNode, Audit, Lead}

-- the words of a form
abbrev pub form_words : Form → List (List ℕ)
form_words Replay = codes "replay" ∷ []
form_words (Load number) = codes "load" ∷ decimal number ∷ []
form_words (Node id address) = codes "node" ∷ decimal id ∷ address.now ∷ []
form_words (KeptNode id address file) = codes "node" ∷ decimal id ∷ address.now ∷ file.now ∷ []
form_words Audit = codes "audit" ∷ []
form_words Lead = codes "lead" ∷ []

-- its number is within its range
abbrev pub InRange : Form → Type 0
InRange Replay = Unit {0}
InRange (Load number) = number ≤ HIGHEST_LOAD
InRange (Node id address) = (1 ≤ id) × (id ≤ HIGHEST_NODE)
InRange (KeptNode id address file) = (1 ≤ id) × (id ≤ HIGHEST_NODE)
InRange Audit = Unit {0}
InRange Lead = Unit {0}

-- the words are those of the form
pub record IsForm (words : List (List ℕ)) (form : Form) : Type 0 where
  pub spelled : words ≡ form_words form
  pub in_range : InRange form

-- the words are those of none of the forms
abbrev pub HasNoForm : List (List ℕ) → Type 0
HasNoForm words = (form : Form) → IsForm words form → ⊥
