-- The text of a name in an object of names and texts: a value says it exactly if reading it finds
-- no fault.
use Rattle.std.proofs.Common.{ℕ, List, refl}
use Rattle.serde_json.specs.Data.{Data}
use Rattle.am_list_files.specs.NamedText.{SaysNamedText, named_text_form}
use Rattle.am_json.proofs.Deciding.{as_text_decides, said_as, then_decides}
use Rattle.am_json.proofs.Readings.{Decides}
use Rattle.am_list_files.proofs.Matching.{named_decides}

pub named_text_decides : (name : List ℕ) (d : Data)
    → Decides (SaysNamedText (name, d) name) ((named_text_form name d).result)
unfolding named_text_form
named_text_decides name d =
    said_as (then_decides (named_decides name) (λ _. as_text_decides d))
    (λ text (_, some, is). (refl, some, is)) (λ text said. (tt, said.1, said.2))
