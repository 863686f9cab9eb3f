-- Each text in the JSON value of a file is UTF-8.
use Rattle.std.proofs.Common.{◌≡◌, ℕ, List, [], ◌∷◌, ◌++◌, Option, Some, None}
use Rattle.std.proofs.Common.{option_map, option_and_then, IsUtf8, refl, subst}
use Rattle.std.specs.Prelude.{⊤, IfSome}
use Rattle.std.specs.Str.{is_utf8}
use Rattle.std.specs.List.{AllByRecursion}
use Rattle.std.specs.Ordering.{nat_cmp, match_ordering}
use Rattle.std.specs.Cmp.Lexicographic.{slice_cmp}
use Rattle.std.specs.declared.cmp.Ordering.{Ordering}
use Rattle.std.specs.declared.cmp.Ordering.TheVariants.{Less, Equal, Greater}
use Rattle.std.proofs.lemmas.Bool.{cond_both}
use Rattle.std.proofs.lemmas.Option.{IfSome_then}
use Rattle.std.proofs.lemmas.Str.{IsUtf8-from_is_utf8}
use Rattle.json.specs.Json as json
use Rattle.json.specs.Lex.{tokens}
use Rattle.json.specs.Token.{Token}
use Rattle.json.specs.Tree.{json_tokens, items_tokens, members_tokens}
use Rattle.json.proofs.Unique.Spelling.{value-json_tokens_back}
use Rattle.serde_json.specs.Data.{Num, Data, number, string, array, object, Items, no_items, item}
use Rattle.serde_json.specs.Data.{Members, no_members, member, put}
use Rattle.serde_json.specs.Find.{get, get_member}
use Rattle.serde_json.specs.Read.{number_of, of_json, of_items, of_members, max_depth, read}
use Rattle.am_json.specs.Json.{json_of, is_null, non_null, field, item_list, items_of}
use Rattle.am_json.proofs.StringTexts.{then_given}
use Rattle.am_json.proofs.TokenTexts.{AreTokens, tokens_of_text}

-- each string that is a value, at the top or inside, is UTF-8
abbrev mutual
  pub HasText : Data → Type 0
  HasText (string s) = IsUtf8 s
  HasText (array ds) = ItemsHaveText ds
  HasText (object ms) = MembersHaveText ms
  HasText d = ⊤

  ItemsHaveText : Items → Type 0
  ItemsHaveText no_items = ⊤
  ItemsHaveText (item d ds) = HasText d × ItemsHaveText ds

  MembersHaveText : Members → Type 0
  MembersHaveText no_members = ⊤
  MembersHaveText (member k d ms) = HasText d × MembersHaveText ms

-- ---- The value of a JSON text.

one_of_three : {A : Type 0} (P : A → Type 0) (order : Ordering) (x y z : A) → P x → P y → P z
    → P (match_ordering order x y z)
one_of_three P Less x y z h k l = h
one_of_three P Equal x y z h k l = k
one_of_three P Greater x y z h k l = l

put_text : (k : List ℕ) (d : Data) (ms : Members) → HasText d → MembersHaveText ms
    → MembersHaveText (put k d ms)
put_text k d no_members h hs = (h, tt)
put_text k d (member l other ms) h hs =
    one_of_three MembersHaveText (slice_cmp nat_cmp k l) _ _ _ (h, hs) (h, hs.1)
    (hs.0, put_text k d ms h hs.1)

-- the tokens of a list are those of two lists, one behind the other
both : (ts us : List Token) → AreTokens (ts ++ us) → AreTokens ts × AreTokens us
both [] us h = (tt, h)
both (t ∷ ts) us h = let later = both ts us h.1 in ((h.0, later.0), later.1)

mapped : {A B : Type 0} (P : B → Type 0) (f : A → B) (o : Option A) → IfSome o (λ a. P (f a))
    → IfSome (option_map f o) P
mapped P f None h = tt
mapped P f (Some a) h = h

number_text : (n : Option Num) → IfSome (option_map number n) HasText
number_text None = tt
number_text (Some n) = tt

mutual
  data_text : (j : json.Json) → AreTokens (json_tokens j) → IfSome (of_json j) HasText
  data_text json.null h = tt
  data_text (json.boolean b) h = tt
  data_text (json.number s) h = number_text (number_of s)
  data_text (json.string s) h = h.0
  data_text (json.array js) h = mapped HasText array (of_items js) (items_text js h.1)
  data_text (json.object ms) h =
      mapped HasText object (of_members ms no_members) (members_text ms no_members h.1 tt)

  items_text : (js : json.Items) → AreTokens (items_tokens js) → IfSome (of_items js) ItemsHaveText
  items_text json.no_items h = tt
  items_text (json.item j js) h =
      let parts = both (json_tokens j) (items_tokens js) h in
      then_given HasText ItemsHaveText _ (of_json j) (data_text j parts.0) (λ d first.
      mapped ItemsHaveText (item d) (of_items js)
      (IfSome_then (of_items js) (items_text js parts.1) (λ ds later. (first, later))))

  members_text : (ms : json.Members) (before : Members) → AreTokens (members_tokens ms)
      → MembersHaveText before → IfSome (of_members ms before) MembersHaveText
  members_text json.no_members before h hs = hs
  members_text (json.member k j ms) before h hs =
      let parts = both (json_tokens j) (members_tokens ms) h.1 in
      then_given HasText MembersHaveText _ (of_json j) (data_text j parts.0) (λ d first.
      members_text ms (put k d before) parts.1 (put_text k d before first hs))

whole_text : (o : Option (json.Json × List Token))
    → ((j : json.Json) (rest : List Token) → o ≡ Some (j, rest) → AreTokens (json_tokens j ++ rest))
    → IfSome (option_and_then of_json (option_and_then (λ p. json.if_last p.0 p.1) o)) HasText
whole_text None h = tt
whole_text (Some (j, [])) h = data_text j (both (json_tokens j) [] (h j [] refl)).0
whole_text (Some (j, t ∷ ts)) h = tt

pub file_text : (bytes : List ℕ) (d : Data) → json_of bytes ≡ Some d → HasText d
file_text bytes d e =
    subst (λ o. IfSome o HasText) e
    (cond_both (is_utf8 bytes) (read bytes) None (λ o. IfSome o HasText)
    (λ valid. whole_text (json.value max_depth (tokens bytes)) (λ j rest found.
    subst AreTokens (value-json_tokens_back max_depth (tokens bytes) rest j found)
    (tokens_of_text bytes (IsUtf8-from_is_utf8 bytes valid))))
    (λ invalid. tt))

-- ---- Parts of a value.

member_text : (k : List ℕ) (ms : Members) → MembersHaveText ms → IfSome (get_member k ms) HasText
member_text k no_members h = tt
member_text k (member l d ms) h =
    let later = member_text k ms h.1 in
    one_of_three (λ o. IfSome o HasText) (slice_cmp nat_cmp k l) _ _ _ later h.0 later

get_text : (k : List ℕ) (d : Data) → HasText d → IfSome (get k d) HasText
get_text k (object ms) h = member_text k ms h
get_text k d h = tt

field_text : (k : List ℕ) (d : Data) → HasText d → IfSome (field k d) HasText
field_text k d h =
    then_given HasText HasText non_null (get k d) (get_text k d h) (λ part text.
    cond_both (is_null part) None (Some part) (λ o. IfSome o HasText) (λ none. tt) (λ some. text))

listed_text : (ds : Items) → ItemsHaveText ds → AllByRecursion HasText (item_list ds)
listed_text no_items h = tt
listed_text (item d ds) h = (h.0, listed_text ds h.1)

array_text : (d : Data) → HasText d → IfSome (items_of d) (AllByRecursion HasText)
array_text (array ds) h = listed_text ds h
array_text d h = tt

-- the items of the array in a field
pub items_in : (k : List ℕ) (d : Data) (items : List Data) → HasText d
    → option_and_then items_of (field k d) ≡ Some items → AllByRecursion HasText items
items_in k d items h e =
    subst (λ o. IfSome o (AllByRecursion HasText)) e
    (then_given HasText (AllByRecursion HasText) items_of (field k d) (field_text k d h) array_text)
