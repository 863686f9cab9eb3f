-- The texts of a universe file are UTF-8, since those of a JSON value are.
use Rattle.std.proofs.Common.{ℕ, List, [], ◌∷◌, Option, Some, None, IsUtf8, subst, codes}
use Rattle.std.specs.Prelude.{IfSome}
use Rattle.std.specs.List.{AllByRecursion, AllZip}
use Rattle.serde_json.specs.Data.{Data}
use Rattle.am_universe.specs.Universe.{Label}
use Rattle.am_labels.specs.Space.{Space}
use Rattle.am_json.proofs.ValueTexts.{HasText, file_text, items_in}
use Rattle.am_list_files.specs.UniverseFile.{SaysValue, SaysLabel, FileSaysUniverse}
use Rattle.am_classes.specs.declared.alphabet.Alphabet.TheVariants.{Unicode}
use Rattle.am_complete.specs.Covering.{HasTextsOver}

-- what is true of all that is said by items with texts in UTF-8
each_said : {A : Type 0} (Says : Data → A → Type 0) (P : A → Type 0)
    → ((d : Data) (x : A) → HasText d → Says d x → P x) → (ds : List Data) (xs : List A)
    → AllByRecursion HasText ds → AllZip Says ds xs → AllByRecursion P xs
each_said Says P f [] [] h says = tt
each_said Says P f [] (x ∷ xs) h says = absurd says
each_said Says P f (d ∷ ds) [] h says = absurd says
each_said Says P f (d ∷ ds) (x ∷ xs) h says =
    (f d x h.0 says.0, each_said Says P f ds xs h.1 says.1)

value_text : (d : Data) (value : Option (List ℕ)) → HasText d → SaysValue d value
    → IfSome value IsUtf8
value_text d None h says = tt
value_text d (Some text) h says = subst HasText says h

abbrev HasTexts : Label → Type 0
HasTexts l = AllByRecursion (λ v. IfSome v IsUtf8) l.values

label_texts : (d : Data) (l : Label) → HasText d → SaysLabel d l → HasTexts l
label_texts d l h says =
    each_said SaysValue (λ v. IfSome v IsUtf8) value_text says.items l.values
    (items_in (codes "values") d says.items h says.is_array) says.values

pub universe_texts : (bytes : List ℕ) (s : Space) → FileSaysUniverse bytes s
    → HasTextsOver Unicode s.labels
universe_texts bytes s (short, d, is, says) =
    each_said SaysLabel HasTexts label_texts says.items s.labels
    (items_in (codes "labels") d says.items (file_text bytes d is) says.is_array) says.labels
