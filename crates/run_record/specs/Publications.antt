-- The tables that were published in a run.
use Rattle.std.specs.Prelude.{ℕ, Option, List, [], ◌∷◌, ◌++◌}
use Rattle.incomplete_closure.specs.declared.values.Value.{Value}
use Rattle.chronicle.specs.Facts.{Fact, Chronicle, Publish}

-- a node, and the table that it published: the epoch, the value from which it was made, and its paths, prefix by prefix
-- in file order
pub record PublicationView : Type 0 where
  pub node : ℕ
  pub epoch : ℕ
  pub value : Value
  pub paths : List (Option (List ℕ))

-- a fact that publishes a table puts it last
abbrev pub all_published_by : Fact → List PublicationView → List PublicationView
all_published_by (Publish u e value paths) before =
    before ++ record { node = u; epoch = e; value = value; paths = paths } ∷ []
all_published_by other before = before

-- all tables that were published, the oldest first
abbrev pub all_published : Chronicle → List PublicationView
all_published [] = []
all_published (f ∷ past) = all_published_by f (all_published past)
