-- What was published for an epoch, node by node.
use Rattle.std.proofs.Common.{◌≡◌, ℕ, Bool, true, false, ◌==◌, Some, List, [], ◌∷◌, ◌++◌, filter, refl, sym, ap, ◌∙◌, if◌then◌else◌}
use Rattle.std.specs.Prelude.{find, option_map}
use Rattle.std.proofs.lemmas.List.{append-nil, reverse-append}
use Rattle.std.proofs.lemmas.List.Elements.{filter-append}
use Rattle.stable_table.specs.Published as tables
use Rattle.chronicle.specs.Facts.{Chronicle, Log, Sent, Took, Fail, Restore, Raise, Start, Mail, Heard, Crash, Restart, Publish, Visit, End}
use Rattle.chronicle.specs.Publications.{Publication, epoch_of, publications, published}
use Rattle.run_record.specs.Publications.{all_published, PublicationView}
use Rattle.route_replay.specs.TablesText.{last_of, published_for, table_in}

-- what stands last is found first
pub last_on : (u : ℕ) (list : List PublicationView) (p : PublicationView) → last_of u (list ++ p ∷ []) ≡ (if p.node == u then Some p else last_of u list)
last_on u list p = ap (find (λ (q : PublicationView). q.node == u)) (reverse-append list (p ∷ []))

-- one more is of the epoch, or not
pub filtered_on : (e : ℕ) (list : List PublicationView) (p : PublicationView)
    → filter (λ (q : PublicationView). q.epoch == e) (list ++ p ∷ []) ≡ filter (λ (q : PublicationView). q.epoch == e) list ++ (if p.epoch == e then p ∷ [] else [])
filtered_on e list p = filter-append (λ (q : PublicationView). q.epoch == e) list (p ∷ [])

module _ (u e : ℕ) (ts : List Publication) (list : List PublicationView) (p : PublicationView)
    (so_far : tables.of_epoch epoch_of e ts ≡ option_map table_in (last_of u list)) where
  by_tests : (mine here : Bool) → (p.node == u) ≡ mine → (p.epoch == e) ≡ here
      → tables.of_epoch epoch_of e (if mine then table_in p ∷ ts else ts) ≡ option_map table_in (last_of u (list ++ (if here then p ∷ [] else [])))
  by_tests true true mine here =
      ap (λ b. if b then Some (table_in p) else tables.of_epoch epoch_of e ts) here
      ∙ sym (ap (option_map table_in) (last_on u list p ∙ ap (λ b. if b then Some p else last_of u list) mine))
  by_tests true false mine other =
      ap (λ b. if b then Some (table_in p) else tables.of_epoch epoch_of e ts) other
      ∙ (so_far ∙ sym (ap (λ (l : List PublicationView). option_map table_in (last_of u l)) (append-nil list)))
  by_tests false true other here =
      so_far ∙ sym (ap (option_map table_in) (last_on u list p ∙ ap (λ b. if b then Some p else last_of u list) other))
  by_tests false false other there =
      so_far ∙ sym (ap (λ (l : List PublicationView). option_map table_in (last_of u l)) (append-nil list))

  one_more : tables.of_epoch epoch_of e (if p.node == u then table_in p ∷ ts else ts) ≡ option_map table_in (last_of u (list ++ (if p.epoch == e then p ∷ [] else [])))
  one_more = by_tests (p.node == u) (p.epoch == e) refl refl

-- what a node published for an epoch is the last of what was published for it by the node
pub published_last : (u e : ℕ) (past : Chronicle) → published u e past ≡ option_map table_in (last_of u (published_for e past))
published_last u e [] = refl
published_last u e (Log node entry ∷ past) = published_last u e past
published_last u e (Sent from to session item queued ∷ past) = published_last u e past
published_last u e (Took from to session item ∷ past) = published_last u e past
published_last u e (Fail a b ∷ past) = published_last u e past
published_last u e (Restore a b ∷ past) = published_last u e past
published_last u e (Raise node epoch ∷ past) = published_last u e past
published_last u e (Start node epoch ballot ∷ past) = published_last u e past
published_last u e (Mail from to message ∷ past) = published_last u e past
published_last u e (Heard node from message ∷ past) = published_last u e past
published_last u e (Crash node ∷ past) = published_last u e past
published_last u e (Restart node ∷ past) = published_last u e past
published_last u e (Visit node packet ∷ past) = published_last u e past
published_last u e (End packet ending ∷ past) = published_last u e past
published_last u e (Publish node epoch value paths ∷ past) =
    let p : PublicationView = record { node = node; epoch = epoch; value = value; paths = paths } in
    one_more u e (publications u past) (published_for e past) p (published_last u e past)
    ∙ sym (ap (λ (l : List PublicationView). option_map table_in (last_of u l)) (filtered_on e (all_published past) p))
