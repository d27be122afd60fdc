-- Worked texts, computed by the definitions.
use Rattle.std.proofs.Common.{ℕ, List, [], ◌∷◌, ◌++◌, ◌≡◌, Some, None, refl}
use Rattle.std.specs.Prelude.{codes}
use Rattle.std.specs.Fmt.{digits}
use Rattle.text_lines.specs.Lines.{left_of}
use Rattle.text_lines.specs.Words.{words_of}
use Rattle.topology.specs.declared.status.AuditKind.TheVariants.{NotSimple, DoesNotContinue}
use Rattle.table_audit.specs.Rows.{first_bad}
use Rattle.schedule_file.specs.Spelling.{prefix_text}
use Rattle.schedule_file.specs.Words.{spells_number, spells_prefix}
use Rattle.table_audit.specs.Tables.{first_misspelled, rows_of}

line : List ℕ → List ℕ
line words = words ++ 10 ∷ []

breaks : List ℕ
unfolding line
breaks = line (codes "table 1 1 10.0.0.0/8: 1 2 3") ++ line (codes "table 2 1 10.0.0.0/8: none")

breaks_at_one : first_bad (rows_of breaks) (rows_of breaks) ≡ Some (1, DoesNotContinue)
unfolding breaks line rows_of spells_number spells_prefix prefix_text left_of words_of digits
breaks_at_one = refl

breaks_are_rows : first_misspelled breaks ≡ None
unfolding breaks line first_misspelled spells_number spells_prefix prefix_text left_of words_of digits
breaks_are_rows = refl

turns_back : first_bad (rows_of (codes "table 3 1 10.0.0.0/8: 3 2 3")) (rows_of (codes "table 3 1 10.0.0.0/8: 3 2 3")) ≡ Some (1, NotSimple)
unfolding rows_of spells_number spells_prefix prefix_text left_of words_of digits
turns_back = refl

too_short : first_misspelled (codes "table 3 1") ≡ Some 1
unfolding first_misspelled spells_number spells_prefix prefix_text left_of words_of digits
too_short = refl

-- a run that published: paths continue, and a line without a table is skipped
fits_together : List ℕ
unfolding line
fits_together =
    line (codes "7: idle empty channel") ++ (line (codes "table 1 1 10.0.0.0/8: 1") ++ (line (codes "table 2 1 10.0.0.0/8: 2 1") ++ (line (codes "table 3 1 10.0.0.0/8: 3 2 1") ++ line (codes "table 4 1: unpublished"))))

fits : first_bad (rows_of fits_together) (rows_of fits_together) ≡ None
unfolding fits_together line rows_of spells_number spells_prefix prefix_text left_of words_of digits
fits = refl

reads : first_misspelled fits_together ≡ None
unfolding fits_together line first_misspelled spells_number spells_prefix prefix_text left_of words_of digits
reads = refl
