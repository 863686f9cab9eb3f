-- The lines of notes. (This project's own.)
use Rattle.std.specs.Prelude.{ℕ, List, ◌++◌, ◌≡◌, codes, IsTrue}
use Rattle.std.specs.List.{flat_map, AllByRecursion}
use Rattle.am_report_texts.specs.Lines.{is_unbroken}

-- The line of a note; and a text that consists of such lines, of which there may be none. No note
-- has a line feed, so each line begins with `note: `.
-- Source: own choice.
-- Example: `without --silences nothing is silenced` is written as the line
-- `note: without --silences nothing is silenced`.
abbrev pub note_text : List ℕ → List ℕ
note_text note = codes "note: " ++ (note ++ codes "\n")

abbrev pub AreNoteLines : List ℕ → Type 0
AreNoteLines text =
    (notes : List (List ℕ)) × AllByRecursion (λ note. IsTrue (is_unbroken note)) notes
    × (text ≡ flat_map note_text notes)
