-- The text of a universe has the tokens of its JSON value.
use Rattle.std.proofs.Common.{◌≡◌, ℕ, List, [], ◌∷◌, ◌++◌, Bool, true, false, map, Option, Some}
use Rattle.std.proofs.Common.{None, refl, sym, ap, ap₂, ◌∙◌, append_assoc, codes}
use Rattle.json.specs.Token.{Token, begin_object, end_object, begin_array, end_array, key}
use Rattle.json.specs.Token as token
use Rattle.json.specs.Word.{word, ends_word}
use Rattle.json.specs.Text.{content}
use Rattle.json.specs.Lex as lexeme
use Rattle.json.specs.Lex.{string_token, lex, between, Place, fresh, after_value, after_comma}
use Rattle.json.specs.Lex.{begins_colon, punctuate, tokens}
use Rattle.json.specs.Print.{escape, quoted}
use Rattle.json.specs.Json as json
use Rattle.json.specs.Tree.{json_tokens, items_tokens, members_tokens}
use Rattle.json.proofs.Printed.Numbers.{in_word-ended}
use Rattle.json.proofs.Printed.Strings.{content-escape, lex-escape}
use Rattle.serde_json.specs.Data.{Data, null, string, array, object, no_members, member}
use Rattle.serde_json.specs.View.{items_of}
use Rattle.serde_json.specs.Written.{outline, items_outline}
use Rattle.am_universe.specs.Universe.{Label}
use Rattle.am_report_texts.specs.Separated.{texts_behind}
use Rattle.am_universe_command.specs.UniverseText.{value_text, values_text, label_text, lists_text}
use Rattle.am_universe_command.specs.UniverseText.{impossible_text, universe_text}

-- ---- The JSON value.

abbrev pub value_data : Option (List ℕ) → Data
value_data None = null
value_data (Some text) = string text

abbrev pub label_data : Label → Data
label_data label = object
    (member (codes "name") (string label.name)
    (member (codes "values") (array (items_of (map value_data label.values))) no_members))

-- as it stands in a text: things in an array, the lists, and the whole
abbrev pub outlines : {X : Type 0} → (X → Data) → List X → json.Items
outlines data_of xs = items_outline (items_of (map data_of xs))

abbrev pub lists_member : List (List ℕ) → json.Members
lists_member [] = json.no_members
lists_member (text ∷ texts) =
    json.member (codes "impossible") (json.array (outlines string (text ∷ texts))) json.no_members

abbrev pub universe_tree : List Label → List (List ℕ) → json.Json
universe_tree u texts = json.object
    (json.member (codes "labels") (json.array (outlines label_data u)) (lists_member texts))

-- ---- The tokens of a text, from a place on.

abbrev from : Place → List ℕ → List Token
from p text = punctuate p (lex between text)

-- the text may follow a value
abbrev Follows : List ℕ → Type 0
Follows r = (ends_word r ≡ true) × (begins_colon (lex between r) ≡ false)

-- a value may begin at the start of an array and behind a comma
abbrev start : Bool → Place
start true = fresh
start false = after_comma

-- the text of a value has the tokens of the value, and then those of what follows
abbrev IsRead : List ℕ → Data → Type 0
IsRead text d =
    (b : Bool) (r : List ℕ) → Follows r
    → from (start b) (text ++ r) ≡ json_tokens (outline d) ++ from after_value r

lex_quoted : (s r : List ℕ)
    → lex between (quoted s ++ r) ≡ lexeme.token (token.string s) ∷ lex between r
unfolding lex content
lex_quoted s r =
    ap (λ l. lex between (34 ∷ l)) (append_assoc (escape s) (34 ∷ []) r)
    ∙ ap₂ (λ o l. lexeme.token (string_token o) ∷ l) (content-escape s r) (lex-escape s r)

text_read : (s : List ℕ) → IsRead (quoted s) (string s)
unfolding punctuate
text_read s true r follows = rw (lex_quoted s r, follows.1) refl
text_read s false r follows = rw (lex_quoted s r, follows.1) refl

value_read : (v : Option (List ℕ)) → IsRead (value_text v) (value_data v)
unfolding lex word punctuate
value_read None true r follows = rw (follows.0, in_word-ended r follows.0) refl
value_read None false r follows = rw (follows.0, in_word-ended r follows.0) refl
value_read (Some text) b r follows = text_read text b r follows

-- ---- Arrays.

-- the texts in front of the first value, in front of each later one, and behind the last one
abbrev IsLayout : List ℕ → List ℕ → List ℕ → Type 0
IsLayout first gap close =
    (r : List ℕ) → (lex between (first ++ r) ≡ lex between r)
    × ((lex between (gap ++ r) ≡ lexeme.comma ∷ lex between r) × Follows (gap ++ r))
    × (lex between (close ++ r) ≡ lexeme.token end_array ∷ lex between r) × Follows (close ++ r)

on_one_line : IsLayout [] (codes ", ") (codes "]")
unfolding lex
on_one_line r = (refl, (refl, (refl, refl)), refl, (refl, refl))

on_lines : IsLayout (codes "\n  ") (codes ",\n  ") (codes "\n]")
unfolding lex
on_lines r = (refl, (refl, (refl, refl)), refl, (refl, refl))

module _ {X : Type 0} (text : X → List ℕ) (data_of : X → Data)
    (each : (x : X) → IsRead (text x) (data_of x)) (first gap close : List ℕ)
    (layout : IsLayout first gap close) where
  items_from : (x : X) (xs : List X) (b : Bool) (r : List ℕ)
      → from (start b) (text x ++ (texts_behind gap gap text xs ++ (close ++ r)))
      ≡ items_tokens (outlines data_of (x ∷ xs)) ++ from after_value r
  unfolding punctuate
  items_from x [] b r =
      each x b (close ++ r) (layout r).3
      ∙ ap (λ ls. json_tokens (outline (data_of x)) ++ punctuate after_value ls) (layout r).2
      ∙ sym (append_assoc (json_tokens (outline (data_of x))) (end_array ∷ []) (from after_value r))
  items_from x (y ∷ ys) b r =
      let later = text y ++ (texts_behind gap gap text ys ++ (close ++ r)) in
      ap (λ l. from (start b) (text x ++ l)) (simp append_assoc)
      ∙ each x b (gap ++ later) (layout later).1.1
      ∙ ap (λ ls. json_tokens (outline (data_of x)) ++ punctuate after_value ls)
      (layout later).1.0
      ∙ ap (λ ts. json_tokens (outline (data_of x)) ++ ts) (items_from y ys false r)
      ∙ sym (append_assoc (json_tokens (outline (data_of x)))
      (items_tokens (outlines data_of (y ∷ ys))) (from after_value r))

  items_read : (xs : List X) (r : List ℕ)
      → from fresh (texts_behind first gap text xs ++ (close ++ r))
      ≡ items_tokens (outlines data_of xs) ++ from after_value r
  unfolding punctuate
  items_read [] r = ap (punctuate fresh) (layout r).2
  items_read (x ∷ xs) r =
      let later = text x ++ (texts_behind gap gap text xs ++ (close ++ r)) in
      ap (from fresh) (simp append_assoc) ∙ ap (punctuate fresh) (layout later).0
      ∙ items_from x xs true r

-- ---- A label, and the whole text.

label_behind : (label : Label) (r : List ℕ)
    → from fresh ((quoted label.name
    ++ (codes ", \"values\": [" ++ (values_text label.values ++ codes "]}"))) ++ r)
    ≡ token.string label.name ∷ key (codes "values") ∷ begin_array
    ∷ ((items_tokens (outlines value_data label.values) ++ end_object ∷ []) ++ from after_value r)
unfolding lex content punctuate
label_behind label r =
    let values = values_text label.values in
    let items = items_tokens (outlines value_data label.values) in
    ap (from fresh)
    (append_assoc (quoted label.name) (codes ", \"values\": [" ++ (values ++ codes "]}")) r)
    ∙ text_read label.name true _ (refl, refl)
    ∙ ap (λ ts. token.string label.name ∷ key (codes "values") ∷ begin_array ∷ ts)
    (ap (from fresh) (append_assoc values (codes "]}") r) ∙ items_read value_text value_data value_read [] (codes ", ") (codes "]") on_one_line
    label.values (125 ∷ r)
    ∙ sym (append_assoc items (end_object ∷ []) (from after_value r)))

label_read : (label : Label) → IsRead (label_text label) (label_data label)
unfolding lex content punctuate
label_read label true r follows =
    ap (λ ts. begin_object ∷ key (codes "name") ∷ ts) (label_behind label r)
label_read label false r follows =
    ap (λ ts. begin_object ∷ key (codes "name") ∷ ts) (label_behind label r)

lists_read : (texts : List (List ℕ))
    → from after_value (impossible_text texts ++ codes "}\n") ≡ members_tokens (lists_member texts)
unfolding lex content punctuate
lists_read [] = refl
lists_read (text ∷ texts) =
    ap (λ ts. key (codes "impossible") ∷ begin_array ∷ ts)
    (ap (from fresh) (append_assoc (lists_text (text ∷ texts)) (codes "\n]") (codes "}\n"))
    ∙ items_read quoted string text_read (codes "\n  ") (codes ",\n  ") (codes "\n]") on_lines
    (text ∷ texts) (codes "}\n"))

pub tokens-universe_text : (u : List Label) (texts : List (List ℕ))
    → tokens (universe_text u texts) ≡ json_tokens (universe_tree u texts)
unfolding lex content punctuate
tokens-universe_text u texts =
    ap (λ ts. begin_object ∷ key (codes "labels") ∷ begin_array ∷ ts)
    (items_read label_text label_data label_read (codes "\n  ") (codes ",\n  ") (codes "\n]")
    on_lines u (impossible_text texts ++ codes "}\n")
    ∙ ap (λ ts. items_tokens (outlines label_data u) ++ ts) (lists_read texts))
