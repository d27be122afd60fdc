-- Worked scripts, computed by the definitions.
use Rattle.std.proofs.Common.{ℕ, List, [], ◌∷◌, ◌++◌, ◌≡◌, None, refl, Option, Some}
use Rattle.std.specs.Prelude.{codes}
use Rattle.std.specs.Fmt.{digits}
use Rattle.leadership.specs.Answers.{answers, carried, hears, offers, refusal, starts}
use Rattle.leadership.specs.Chosen.{chosen_for}
use Rattle.leadership.specs.Deliveries.{delivered, next_mail}
use Rattle.leadership.specs.Limits.{limit_of}
use Rattle.leadership.specs.Run.{after, run, step}
use Rattle.leadership.specs.Scripts.{directives_of, first_bad, members_of}
use Rattle.leadership.specs.Led.{members}
use Rattle.leadership.specs.Text.{text}
use Rattle.topology.specs.declared.status.BadKind.{BadKind}
use Rattle.topology.specs.declared.status.BadKind.TheVariants.{BadNumber, DuplicateNode, NotHere, TooMany, UnknownNode, UnknownWord, WrongCount}
use Rattle.schedule_file.specs.Words.{spells_number}
use Rattle.text_lines.specs.Lines.{left_of}
use Rattle.text_lines.specs.Words.{words_of}
use Rattle.topology.specs.Lists.{ascending}

-- a line of a text
line : List ℕ → List ℕ
line words = words ++ 10 ∷ []

-- a leader that all promise, with one value for each of two epochs
two_epochs : List ℕ
unfolding line
two_epochs =
    line (codes "member 1") ++ (line (codes "member 2") ++ (line (codes "member 3") ++ (line (codes "begin")
    ++ (line (codes "lead 1 1") ++ (line (codes "ctl all 100") ++ (line (codes "offer 1 1 7") ++ (line (codes "offer 1 2 8")
    ++ (line (codes "ctl all 100") ++ line (codes "show chosen")))))))))

two_epochs_are_good : first_bad two_epochs ≡ None
unfolding two_epochs line first_bad spells_number left_of words_of digits
two_epochs_are_good = refl

two_epochs_say : text (members two_epochs) [] (directives_of two_epochs) ≡ line (codes "chosen 1: 7") ++ line (codes "chosen 2: 8")
unfolding two_epochs line members_of directives_of left_of words_of ascending next_mail delivered chosen_for limit_of step run after starts offers hears answers carried refusal digits
two_epochs_say = refl

-- a second leader of the later epochs, which must go on with a value that the first one gave
two_leaders : List ℕ
unfolding line
two_leaders =
    line (codes "member 1") ++ (line (codes "member 2") ++ (line (codes "member 3") ++ (line (codes "begin")
    ++ (line (codes "lead 1 1") ++ (line (codes "ctl all 100") ++ (line (codes "offer 1 3 9") ++ (line (codes "ctl 8")
    ++ (line (codes "lead 2 2") ++ (line (codes "ctl 12") ++ (line (codes "ctl 13") ++ (line (codes "ctl 14")
    ++ (line (codes "ctl 15") ++ (line (codes "offer 2 3 5") ++ (line (codes "offer 2 2 6") ++ (line (codes "offer 2 1 4")
    ++ (line (codes "ctl all 100") ++ line (codes "show chosen")))))))))))))))))

two_leaders_say : text (members two_leaders) [] (directives_of two_leaders) ≡ line (codes "14: idle offered") ++ (line (codes "16: idle below") ++ (line (codes "chosen 2: 6") ++ line (codes "chosen 3: 9")))
unfolding two_leaders line members_of directives_of left_of words_of ascending next_mail delivered chosen_for limit_of step run after starts offers hears answers carried refusal digits
two_leaders_say = refl

-- ---- refused lines

-- the line with this number is bad
abbrev bad_at : ℕ → BadKind → Option (ℕ × BadKind)
bad_at number kind = let pair : ℕ × BadKind = (number, kind) in Some pair

no_such_view : first_bad (line (codes "begin") ++ line (codes "show foo 1")) ≡ bad_at 2 UnknownWord
unfolding line first_bad spells_number left_of words_of digits
no_such_view = refl

view_with_more : first_bad (line (codes "begin") ++ line (codes "show chosen 1")) ≡ bad_at 2 WrongCount
unfolding line first_bad spells_number left_of words_of digits
view_with_more = refl

second_begin : first_bad (line (codes "begin") ++ line (codes "begin x")) ≡ bad_at 2 NotHere
unfolding line first_bad spells_number left_of words_of digits
second_begin = refl

first_begin : first_bad (line (codes "begin x")) ≡ bad_at 1 WrongCount
unfolding line first_bad spells_number left_of words_of digits
first_begin = refl

too_early : first_bad (line (codes "lead 1 1")) ≡ bad_at 1 NotHere
unfolding line first_bad spells_number left_of words_of digits
too_early = refl

twice : first_bad (line (codes "member 1") ++ line (codes "member 1")) ≡ bad_at 2 DuplicateNode
unfolding line first_bad spells_number left_of words_of digits
twice = refl

stranger : first_bad (line (codes "begin") ++ line (codes "lead 1 1")) ≡ bad_at 2 UnknownNode
unfolding line first_bad spells_number left_of words_of digits
stranger = refl

all_alone : first_bad (line (codes "begin") ++ line (codes "ctl all")) ≡ bad_at 2 BadNumber
unfolding line first_bad spells_number left_of words_of digits
all_alone = refl

not_all : first_bad (line (codes "begin") ++ line (codes "ctl 5 5")) ≡ bad_at 2 UnknownWord
unfolding line first_bad spells_number left_of words_of digits
not_all = refl

too_late : first_bad (line (codes "member 1") ++ (line (codes "begin") ++ line (codes "lead 1 33"))) ≡ bad_at 3 BadNumber
unfolding line first_bad spells_number left_of words_of digits
too_late = refl

eighth : first_bad (line (codes "member 1") ++ (line (codes "member 2") ++ (line (codes "member 3") ++ (line (codes "member 4") ++ (line (codes "member 5") ++ (line (codes "member 6") ++ (line (codes "member 7") ++ line (codes "member 8")))))))) ≡ bad_at 8 TooMany
unfolding line first_bad spells_number left_of words_of digits
eighth = refl

-- a comment, a line without words, no begin
short : first_bad (line (codes "# nobody") ++ line []) ≡ None
unfolding line first_bad spells_number left_of words_of digits
short = refl
