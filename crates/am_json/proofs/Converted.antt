-- The data that is made of what the grammar of `json` reads from tokens, one turn of a loop at a
-- time.
use Rattle.std.proofs.Common.{◌≡◌, ℕ, zero, suc, ◌-◌, ◌<◌, ◌≤◌, List, [], ◌∷◌, length, arith}
use Rattle.std.proofs.Common.{Option, Some, None, option_map, inl, inr, refl, ap, ◌∙◌}
use Rattle.std.specs.Prelude.{◌⊎◌, option_and_then, unwrap_or}
use Rattle.json.specs.Token.{Token}
use Rattle.json.specs.Json as json
use Rattle.json.specs.Json.{Parse, parse_map, after_end_array, read_key, items, members, if_last}
use Rattle.json.specs.Json.{value}
use Rattle.json.proofs.Grammar.{items_end, items_fail, items_more, members_end, members_no_key}
use Rattle.json.proofs.Grammar.{members_fail, members_more, value-begin_array, value-begin_object}
use Rattle.serde_json.specs.Data.{Data, array, object, no_items, item, Members, no_members}
use Rattle.serde_json.specs.Data.{put}
use Rattle.serde_json.specs.Read.{of_json, of_items, of_members, converted}

abbrev Read : Type 0 → Type 0
Read A = Option (A × List Token)

-- ---- Of what data were made, and of what none.

made_of : {B : Type 0} (made : Option B) (rest left : List Token) (b : B)
    → option_map {U = B × List Token} (λ x. (x, rest)) made ≡ Some (b, left) → (rest ≡ left) × (made ≡ Some b)
made_of None rest left b is = absurd cc
made_of (Some x) rest left b is =
    let same = ap (λ o. unwrap_or o (x, rest)) is in
    (ap (λ p. p.1) same, ap (λ p. Some p.0) same)

converted_some : {A B : Type 0} (f : A → Option B) (read : Read A) (b : B) (left : List Token)
    → converted f read ≡ Some (b, left) → (a : A) × (read ≡ Some (a, left)) × (f a ≡ Some b)
converted_some f None b left is = absurd cc
converted_some f (Some (a, rest)) b left is =
    let both = made_of (f a) rest left b is in
    (a, ap (λ ts. Some (a, ts)) both.0, both.1)

none_made : {B : Type 0} (made : Option B) (rest : List Token)
    → option_map {U = B × List Token} (λ x. (x, rest)) made ≡ None → made ≡ None
none_made None rest is = refl
none_made (Some x) rest is = absurd cc

-- nothing was read, or no data are made of what was read
abbrev IsOut : {A B : Type 0} → (A → Option B) → Read A → Type 0
IsOut {A} f read =
    (read ≡ None) ⊎ ((a : A) × (left : List Token) × (read ≡ Some (a, left)) × (f a ≡ None))

converted_none : {A B : Type 0} (f : A → Option B) (read : Read A) → converted f read ≡ None
    → IsOut f read
converted_none f None is = inl refl
converted_none f (Some (a, rest)) is = inr (a, rest, refl, none_made (f a) rest is)

-- ---- What is read of a part, and of the whole.

convert_same : {A B C : Type 0} (whole : A → B) (f : B → Option C) (g : A → Option C)
    → ((a : A) → f (whole a) ≡ g a) → (read : Read A)
    → converted f (parse_map whole read) ≡ converted g read
convert_same whole f g same None = refl
convert_same whole f g same (Some (a, rest)) = ap (option_map (λ c. (c, rest))) (same a)

mapped : {A B : Type 0} (f : A → B) (rest : List Token) (made : Option A)
    → option_map (λ b. (b, rest)) (option_map f made)
    ≡ parse_map f (option_map (λ a. (a, rest)) made)
mapped f rest None = refl
mapped f rest (Some a) = refl

map_converted : {A B C : Type 0} (f : B → C) (g : A → Option B) (read : Read A)
    → converted (λ a. option_map f (g a)) read ≡ parse_map f (converted g read)
map_converted f g None = refl
map_converted f g (Some (a, rest)) = mapped f rest (g a)

none_converted : {A B : Type 0} (read : Read A) → converted {B = B} (λ a. None) read ≡ None
none_converted None = refl
none_converted (Some (a, rest)) = refl

-- ---- A value that begins an array or an object.

module _ (depth : ℕ) (ts rest : List Token) where
  pub first_array : ts ≡ Token.begin_array ∷ rest → 0 < depth
      → converted of_json (value depth ts)
      ≡ parse_map array (converted of_items (items (value (depth - 1)) (length rest) rest))
  first_array is some =
      let inside = items (value (depth - 1)) (length rest) rest in
      ap (λ (us : List Token). converted of_json (value depth us)) is
      ∙ ap (converted of_json) (value-begin_array depth rest some)
      ∙ convert_same json.array of_json (λ js. option_map array (of_items js)) (λ js. refl) inside
      ∙ map_converted array of_items inside

  pub first_object : ts ≡ Token.begin_object ∷ rest → 0 < depth
      → converted of_json (value depth ts)
      ≡ parse_map object (converted (λ ms. of_members ms no_members)
      (members (value (depth - 1)) (length rest) rest))
  first_object is some =
      let inside = members (value (depth - 1)) (length rest) rest in
      let made : json.Members → Option Members = λ ms. of_members ms no_members in
      ap (λ (us : List Token). converted of_json (value depth us)) is
      ∙ ap (converted of_json) (value-begin_object depth rest some)
      ∙ convert_same json.object of_json (λ ms. option_map object (made ms)) (λ ms. refl) inside
      ∙ map_converted object made inside

-- ---- The turns of the loops.

module _ (p : Parse json.Json) where
  pub item_read : (n : ℕ) (ts rest : List Token) (d : Data) → 0 < n → after_end_array ts ≡ None
      → converted of_json (p ts) ≡ Some (d, rest)
      → converted of_items (items p n ts)
      ≡ parse_map (item d) (converted of_items (items p (n - 1) rest))
  item_read n ts rest d some going is =
      let found = converted_some of_json (p ts) d rest is in
      let later = items p (n - 1) rest in
      ap (converted of_items) (items_more p n ts rest found.0 some going found.1)
      ∙ convert_same (json.item found.0) of_items (λ js. option_map (item d) (of_items js))
      (λ js. rw found.2 refl) later
      ∙ map_converted (item d) of_items later

  item_out : (n : ℕ) (ts : List Token) → after_end_array ts ≡ None → IsOut of_json (p ts)
      → converted of_items (items p n ts) ≡ None
  unfolding items
  item_out n ts going (inl none) = ap (converted of_items) (items_fail p n ts going none)
  item_out zero ts going (inr out) = refl
  item_out (suc n) ts going (inr (j, rest, read, out)) =
      let later = items p (suc n - 1) rest in
      ap (converted of_items) (items_more p (suc n) ts rest j (omega arith) going read)
      ∙ convert_same (json.item j) of_items (λ js. None) (λ js. rw out refl) later
      ∙ none_converted later

  pub item_refused : (n : ℕ) (ts : List Token) → after_end_array ts ≡ None
      → converted of_json (p ts) ≡ None → converted of_items (items p n ts) ≡ None
  item_refused n ts going none = item_out n ts going (converted_none of_json (p ts) none)

  pub items_over : (n : ℕ) (ts rest : List Token) → length ts ≤ n → after_end_array ts ≡ Some rest
      → converted of_items (items p n ts) ≡ Some (no_items, rest)
  items_over n ts rest enough over = ap (converted of_items) (items_end p n ts rest enough over)

  module _ (old : Members) where
    pub member_read : (n : ℕ) (key : List ℕ) (ts next rest : List Token) (d : Data) → 0 < n
        → read_key ts ≡ Some (Some key, next) → converted of_json (p next) ≡ Some (d, rest)
        → converted (λ ms. of_members ms old) (members p n ts)
        ≡ converted (λ ms. of_members ms (put key d old)) (members p (n - 1) rest)
    member_read n key ts next rest d some named is =
        let found = converted_some of_json (p next) d rest is in
        ap (converted (λ ms. of_members ms old))
        (members_more p n key ts next rest found.0 some named found.1)
        ∙ convert_same (json.member key found.0) (λ ms. of_members ms old)
        (λ ms. of_members ms (put key d old)) (λ ms. rw found.2 refl) (members p (n - 1) rest)

    member_out : (n : ℕ) (key : List ℕ) (ts next : List Token)
        → read_key ts ≡ Some (Some key, next) → IsOut of_json (p next)
        → converted (λ ms. of_members ms old) (members p n ts) ≡ None
    unfolding members
    member_out n key ts next named (inl none) =
        ap (converted (λ ms. of_members ms old)) (members_fail p n key ts next named none)
    member_out zero key ts next named (inr out) = refl
    member_out (suc n) key ts next named (inr (j, rest, read, out)) =
        let later = members p (suc n - 1) rest in
        ap (converted (λ ms. of_members ms old))
        (members_more p (suc n) key ts next rest j (omega arith) named read)
        ∙ convert_same (json.member key j) (λ ms. of_members ms old) (λ ms. None)
        (λ ms. rw out refl) later
        ∙ none_converted later

    pub member_refused : (n : ℕ) (key : List ℕ) (ts next : List Token)
        → read_key ts ≡ Some (Some key, next) → converted of_json (p next) ≡ None
        → converted (λ ms. of_members ms old) (members p n ts) ≡ None
    member_refused n key ts next named none =
        member_out n key ts next named (converted_none of_json (p next) none)

    pub key_refused : (n : ℕ) (ts : List Token) → read_key ts ≡ None
        → converted (λ ms. of_members ms old) (members p n ts) ≡ None
    key_refused n ts none =
        ap (converted (λ ms. of_members ms old)) (members_no_key p n ts none)

    pub members_over : (n : ℕ) (ts rest : List Token) → length ts ≤ n
        → read_key ts ≡ Some (None, rest)
        → converted (λ ms. of_members ms old) (members p n ts) ≡ Some (old, rest)
    members_over n ts rest enough over =
        ap (converted (λ ms. of_members ms old)) (members_end p n ts rest enough over)

-- ---- The whole text.

abbrev whole : Read json.Json → Option Data
whole read = option_and_then of_json (option_and_then (λ p. if_last p.0 p.1) read)

pub whole_read : (read : Read json.Json) (d : Data) → converted of_json read ≡ Some (d, [])
    → whole read ≡ Some d
whole_read read d is =
    let found = converted_some of_json read d [] is in
    ap whole found.1 ∙ found.2
