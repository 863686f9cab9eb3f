-- One note more, which has no line feed.
use Rattle.std.proofs.Common.{◌≡◌, true, List, [], ◌∷◌, ◌++◌, ℕ, ap, sym, ◌∙◌, string_bytes}
use Rattle.std.specs.List.{AllByRecursion}
use Rattle.std.proofs.lemmas.List.{flat_map_more}
use Rattle.std.proofs.lemmas.Result.{on_ok_weaker}
use Rattle.am_report_texts.specs.Lines.{is_unbroken}
use Rattle.am_notes.specs.NoteText.{note_text, AreNoteLines}
use Rattle.am_notes.proofs.notes.push_if_unbroken.Goals as goal

all_more : (notes : List (List ℕ)) (note : List ℕ)
    → AllByRecursion (λ n. is_unbroken n ≡ true) notes → is_unbroken note ≡ true
    → AllByRecursion (λ n. is_unbroken n ≡ true) (notes ++ note ∷ [])
all_more [] note all one = (one, tt)
all_more (n ∷ notes) note all one = (all.0, all_more notes note all.1 one)

note_more : (old note new : List ℕ) → is_unbroken note ≡ true → new ≡ old ++ note_text note
    → AreNoteLines old → AreNoteLines new
note_more old note new one put lines = (
  lines.0 ++ note ∷ [],
  all_more lines.0 note lines.1 one,
  put ∙ ap (λ t. t ++ note_text note) lines.2 ∙ flat_map_more note_text [] lines.0 note,
)

pub returns-then-is_unbroken : goal.returns-then-is_unbroken
returns-then-is_unbroken c =
    let old = string_bytes c.args.text.now in
    on_ok_weaker c.push_note.result
    (note_more old c.args.note.now (string_bytes c.push_note.new.text)
    (sym c.is_unbroken.ensures ∙ c.if-is_unbroken.true)) c.push_note.ensures
