-- The text of a universe and of texts of lists is read back as that universe and those lists.
use Rattle.std.proofs.Common.{◌≡◌, ◌≤◌, ℕ, List, [], ◌∷◌, length, Option, Some, None, refl, ap}
use Rattle.std.proofs.Common.{◌∙◌, sym, append-nil, arith, codes, inl, inr, map, option_and_then}
use Rattle.std.specs.List.{AllZip}
use Rattle.std.proofs.lemmas.List.{length-map}
use Rattle.std.specs.Str.{IsUtf8}
use Rattle.json.specs.Json as json
use Rattle.json.specs.Tree.{depth, items_depth}
use Rattle.json.proofs.Printed.Trees.{value-json_tokens}
use Rattle.serde_json.specs.Data.{Data, string, array, object, Members, no_members, member}
use Rattle.serde_json.specs.Read.{read, max_depth, of_json, of_items}
use Rattle.serde_json.specs.View as view
use Rattle.serde_json.specs.Written.{outline}
use Rattle.json.specs.Token.{Token}
use Rattle.am_universe.specs.Universe.{Label, IsUniverse, HaveLabelNames}
use Rattle.am_json.specs.Json.{field, items_of, HasOnlyFields}
use Rattle.am_json.specs.declared.limits.TheConstants.{MAX_FILE_BYTES}
use Rattle.am_json.proofs.Values.{item_list-items_of, json_of_text}
use Rattle.am_labels.specs.Matcher.{Matcher}
use Rattle.am_labels.specs.Space.{Space}
use Rattle.am_list_files.specs.UniverseFile.{FileSaysUniverse, SaysUniverse, SaysLabel, SaysValue}
use Rattle.am_list_files.specs.UniverseFile.{file_fields, AreTextsOfLists, HasImpossibleTexts}
use Rattle.am_list_files.specs.UniverseFile.{FileHasImpossibleTexts}
use Rattle.am_universe_command.specs.UniverseText.{universe_text}
use Rattle.am_universe_command.proofs.TextTokens.{outlines, value_data, label_data, universe_tree}
use Rattle.am_universe_command.proofs.TextTokens.{tokens-universe_text}

-- ---- The value, as serde_json has it.

-- the members are in the order of the bytes of their keys
abbrev with_lists : List (List ℕ) → Members → Members
with_lists [] members = members
with_lists (text ∷ texts) members =
    member (codes "impossible") (array (view.items_of (map string (text ∷ texts)))) members

abbrev universe_data : List Label → List (List ℕ) → Data
universe_data u texts = object
    (with_lists texts
    (member (codes "labels") (array (view.items_of (map label_data u))) no_members))

-- what stands in a text is read as the value, and is not deep
abbrev IsValue : ℕ → Data → Type 0
IsValue n d = (of_json (outline d) ≡ Some d) × (depth (outline d) ≤ n)

module _ {X : Type 0} (data_of : X → Data) where
  each_value : (n : ℕ) → ((x : X) → IsValue n (data_of x)) → (xs : List X)
      → (of_items (outlines data_of xs) ≡ Some (view.items_of (map data_of xs)))
      × (items_depth (outlines data_of xs) ≤ n)
  each_value n each [] = (refl, omega arith)
  each_value n each (x ∷ xs) =
      let later = each_value n each xs in
      (rw ((each x).0, later.0) refl, omega (arith, (each x).1, later.1))

  each_said : (R : Data → X → Type 0) → ((x : X) → R (data_of x) x) → (xs : List X)
      → AllZip R (map data_of xs) xs
  each_said R each [] = tt
  each_said R each (x ∷ xs) = (each x, each_said R each xs)

value_is : (v : Option (List ℕ)) → IsValue 0 (value_data v)
value_is None = (refl, omega arith)
value_is (Some text) = (refl, omega arith)

label_is : (label : Label) → IsValue 2 (label_data label)
label_is label =
    let values = each_value value_data 0 value_is label.values in
    (rw values.0 refl, omega (arith, values.1))

universe_is : (u : List Label) (texts : List (List ℕ))
    → (of_json (universe_tree u texts) ≡ Some (universe_data u texts))
    × (depth (universe_tree u texts) ≤ max_depth)
universe_is u [] =
    let labels = each_value label_data 2 label_is u in
    (rw labels.0 refl, omega (arith, labels.1))
universe_is u (text ∷ texts) =
    let labels = each_value label_data 2 label_is u in
    let lists = each_value string 0 (λ t. (refl, omega arith)) texts in
    (rw (labels.0, lists.0) refl, omega (arith, labels.1, lists.1))

-- the value of the tokens of a whole text
abbrev whole : Option (json.Json × List Token) → Option Data
whole o = option_and_then of_json (option_and_then (λ p. json.if_last p.0 p.1) o)

universe_read : (u : List Label) (texts : List (List ℕ))
    → read (universe_text u texts) ≡ Some (universe_data u texts)
universe_read u texts =
    ap whole
    (ap (json.value max_depth) (tokens-universe_text u texts ∙ sym (append-nil _))
    ∙ value-json_tokens (universe_tree u texts) max_depth [] (universe_is u texts).1)
    ∙ (universe_is u texts).0

-- ---- It says the universe and the lists.

value_said : (v : Option (List ℕ)) → SaysValue (value_data v) v
value_said None = refl
value_said (Some text) = refl

-- what the items of an array are
items_are : (ds : List Data) → items_of (array (view.items_of ds)) ≡ Some ds
items_are ds = ap Some (item_list-items_of ds)

label_said : (label : Label) → SaysLabel (label_data label) label
label_said label = record {
  only = (_, refl, (inr refl, (inr refl, tt)));
  name = refl;
  items = map value_data label.values;
  is_array = items_are (map value_data label.values);
  values = each_said value_data SaysValue value_said label.values;
}

texts_said : (u : List Label) (texts : List (List ℕ))
    → HasImpossibleTexts (universe_data u texts) texts
texts_said u [] = inl (refl, refl)
texts_said u (text ∷ texts) = inr (items_are (map string (text ∷ texts)))

only_file_fields : (u : List Label) (texts : List (List ℕ))
    → HasOnlyFields file_fields (universe_data u texts)
only_file_fields u [] = (_, refl, (inr refl, tt))
only_file_fields u (text ∷ texts) = (_, refl, (inr refl, (inr refl, tt)))

labels_are_items : (u : List Label) (texts : List (List ℕ))
    → option_and_then items_of (field (codes "labels") (universe_data u texts))
    ≡ Some (map label_data u)
labels_are_items u [] = items_are (map label_data u)
labels_are_items u (text ∷ texts) = items_are (map label_data u)

abbrev space_of : List Label → List (List Matcher) → Space
space_of u lists = record { labels = u; impossible = lists }

data_says : (u : List Label) (texts : List (List ℕ)) (lists : List (List Matcher))
    → IsUniverse u → HaveLabelNames u → AreTextsOfLists texts lists
    → SaysUniverse (universe_data u texts) (space_of u lists)
data_says u texts lists is named spell = record {
  only = only_file_fields u texts;
  items = map label_data u;
  is_array = labels_are_items u texts;
  labels = each_said label_data SaysLabel label_said u;
  is_universe = is;
  named = named;
  impossible = record {
    items = map string texts;
    has_items = texts_said u texts;
    few = omega (arith, length-map texts string, spell.few);
    each = spell.each;
  };
}

pub universe_said : (u : List Label) (texts : List (List ℕ)) (lists : List (List Matcher))
    → IsUniverse u → HaveLabelNames u → AreTextsOfLists texts lists
    → IsUtf8 (universe_text u texts) → length (universe_text u texts) ≤ MAX_FILE_BYTES
    → FileSaysUniverse (universe_text u texts) (space_of u lists)
universe_said u texts lists is named spell utf8 short =
    (short, _, json_of_text _ _ utf8 (universe_read u texts), data_says u texts lists is named spell)

pub texts_kept : (u : List Label) (texts : List (List ℕ)) → IsUtf8 (universe_text u texts)
    → length (universe_text u texts) ≤ MAX_FILE_BYTES
    → FileHasImpossibleTexts (universe_text u texts) texts
texts_kept u texts utf8 short =
    (short, _, json_of_text _ _ utf8 (universe_read u texts), texts_said u texts)
