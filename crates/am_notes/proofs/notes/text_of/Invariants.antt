use Rattle.std.proofs.Common.{string_bytes}
use Rattle.am_notes.specs.NoteText.{AreNoteLines}
use Rattle.am_notes.proofs.notes.text_of.Given as goal

abbrev pub invariant-loop-note : goal.invariant-loop-note
invariant-loop-note l = AreNoteLines (string_bytes l.text)
