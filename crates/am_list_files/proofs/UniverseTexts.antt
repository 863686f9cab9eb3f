-- The texts of impossible lists: those that a file has are those that say its lists.
use Rattle.std.proofs.Common.{◌≡◌, ℕ, ◌≤◌, List, [], ◌∷◌, length, map, inl, inr}
use Rattle.std.proofs.Common.{refl, sym, ap, ◌∙◌, codes, Ok, arith}
use Rattle.std.specs.List.{AllZip, filter_map}
use Rattle.std.proofs.lemmas.List.{length-map}
use Rattle.std.proofs.lemmas.Option.{same_Some}
use Rattle.serde_json.specs.Data.{Data, string}
use Rattle.serde_json.specs.Find.{as_str}
use Rattle.am_labels.specs.declared.limits.TheConstants.{MAX_IMPOSSIBLE}
use Rattle.am_labels.specs.Matcher.{Matcher}
use Rattle.am_labels.specs.Space.{Space}
use Rattle.am_json.specs.Json.{field, items_in_field}
use Rattle.am_json.specs.OptionalItems.{HasItems}
use Rattle.am_json.specs.Reading.{read_json}
use Rattle.am_list_files.specs.UniverseFile.{SaysImpossible, SaysUniverse, FileSaysUniverse}
use Rattle.am_list_files.specs.UniverseFile.{AreTextsOfLists, HasImpossibleTexts}
use Rattle.am_list_files.specs.UniverseFile.{FileHasImpossibleTexts}
use Rattle.am_list_files.specs.UniverseForm.{universe_form}
use Rattle.am_json.proofs.Deciding.{json_decides}
use Rattle.am_list_files.proofs.UniverseSays.{universe_decides}

-- ---- The items of the array that may be absent.

items_found : (key : List ℕ) (d : Data) (items : List Data) → HasItems key d items
    → items_in_field (field key d) ≡ items
items_found key d items (inl has) = rw (has.0, has.1) refl
items_found key d items (inr has) = rw has refl

-- items that say lists of matchers are texts
all_are_texts : (items : List Data) (lists : List (List Matcher))
    → AllZip SaysImpossible items lists → map string (filter_map as_str items) ≡ items
all_are_texts [] lists said = refl
all_are_texts (d ∷ items) [] said = absurd said
all_are_texts (d ∷ items) (ms ∷ lists) said =
    rw (said.0.text.1) (ap (λ ds. string said.0.text.0 ∷ ds) (all_are_texts items lists said.1))

-- if a value says a space, all items of `impossible` are texts
texts_found : (d : Data) (s : Space) → SaysUniverse d s
    → HasImpossibleTexts d (filter_map as_str (items_in_field (field (codes "impossible") d)))
texts_found d s said =
    let lists = said.impossible in
    let all = all_are_texts lists.items s.impossible lists.each in
    rw (items_found (codes "impossible") d lists.items lists.has_items, all) lists.has_items

-- ---- The same of a file.

-- the texts that are found in the value of a file without a fault are the texts of the file
pub texts_are_found : (bytes : List ℕ) (d : Data) (s : Space) (texts : List (List ℕ))
    → (read_json bytes).result ≡ Ok d → (universe_form d).result ≡ Ok s
    → texts ≡ filter_map as_str (items_in_field (field (codes "impossible") d))
    → FileHasImpossibleTexts bytes texts
texts_are_found bytes d s texts json read is =
    let said = (json_decides bytes).says d json in
    (said.0, d, said.1, rw is (texts_found d s ((universe_decides d).says s read)))

-- the texts of a file say its impossible lists
pub texts_say_lists : (bytes : List ℕ) (s : Space) (texts : List (List ℕ))
    → FileSaysUniverse bytes s → FileHasImpossibleTexts bytes texts
    → AreTextsOfLists texts s.impossible
texts_say_lists bytes s texts said has =
    let d = said.1 in
    let one : has.1 ≡ d = same_Some has.1 d (sym has.2 ∙ said.2) in
    let here : HasImpossibleTexts d texts = rw one at has.3 in
    let lists = said.3.impossible in
    let same : lists.items ≡ map string texts =
    sym (items_found (codes "impossible") d lists.items lists.has_items)
    ∙ items_found (codes "impossible") d (map string texts) here in
    let long : length (map string texts) ≤ MAX_IMPOSSIBLE = rw same at lists.few in
    record { few = omega (arith, length-map texts string, long); each = rw same at lists.each }
