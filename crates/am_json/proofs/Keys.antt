-- The members of an object are in the order of their keys, so the first unknown field is the least.
use Rattle.std.proofs.Common.{◌≡◌, ℕ, List, [], ◌∷◌, true, false, Option, Some, None}
use Rattle.std.proofs.Common.{String, string_bytes, Ordering, Less, Equal, Greater, refl, sym, ◌∙◌}
use Rattle.std.specs.declared.alloc.Global.{Global}
use Rattle.std.specs.Prelude.{IfSome}
use Rattle.std.specs.Ordering.{nat_cmp, match_ordering}
use Rattle.std.specs.Cmp.Lexicographic.{slice_cmp}
use Rattle.std.specs.List.{AllByRecursion}
use Rattle.std.specs.List.Sorted.{IsStrictlySortedBy}
use Rattle.std.specs.Map.{keys_of}
use Rattle.std.specs.String.{string_cmp}
use Rattle.std.proofs.Common.{arith}
use Rattle.std.proofs.lemmas.Grind.{common_steps}
use Rattle.std.proofs.lemmas.Map.Keys.{sorted_head, sorted_tail}
use Rattle.serde_json.specs.View.{view, members_view}
use Rattle.serde_json.proofs.Views.{Entry}
use Rattle.am_json.specs.Json.{is_unknown, lesser_key, unknown_field}

-- the keys of the members that are left are in ascending order
abbrev pub Ascends : List Entry → Type 0
Ascends es = IsStrictlySortedBy string_cmp (keys_of es)

-- the key is below the other one, if there is another one
abbrev IsBelow : List ℕ → Option (List ℕ) → Type 0
IsBelow key found = IfSome found (λ other. slice_cmp nat_cmp key other ≡ Less)

below_either : (key first other : List ℕ) (o : Ordering) → slice_cmp nat_cmp key first ≡ Less
    → slice_cmp nat_cmp key other ≡ Less
    → slice_cmp nat_cmp key (match_ordering o first first other) ≡ Less
below_either key first other Less h k = h
below_either key first other Equal h k = h
below_either key first other Greater h k = k

below_lesser : (key first : List ℕ) (found : Option (List ℕ)) → slice_cmp nat_cmp key first ≡ Less
    → IsBelow key found → slice_cmp nat_cmp key (lesser_key first found) ≡ Less
below_lesser key first None h k = h
below_lesser key first (Some other) h k =
    below_either key first other (slice_cmp nat_cmp first other) h k

-- a key below those of all members is below the least unknown field
below_all : (known : List (List ℕ)) (key : String Global) (es : List Entry)
    → AllByRecursion (λ k. string_cmp key k ≡ Less) (keys_of es)
    → IsBelow (string_bytes key) (unknown_field known (members_view es))
below_all known key [] below = tt
below_all known key (e ∷ es) below =
    grind (arith, common_steps, below_lesser, below_all known key es below.1)

is_lesser : (key : List ℕ) (found : Option (List ℕ)) → IsBelow key found
    → lesser_key key found ≡ key
is_lesser key None h = refl
is_lesser key (Some other) h = rw h refl

-- if the first member that is left is unknown, it is the least unknown field
pub is_first : (known : List (List ℕ)) (left : List Entry) (e : Entry) (more : List Entry)
    (total : Option (List ℕ)) → left ≡ e ∷ more → Ascends left
    → unknown_field known (members_view left) ≡ total
    → is_unknown known (string_bytes e.0) (view e.1) ≡ true → Some (string_bytes e.0) ≡ total
is_first known left e more total is ascends same unknown =
    let below =
    below_all known e.0 more (sorted_head string_cmp e.0 (keys_of more) (rw is at ascends)) in
    let here : unknown_field known (members_view left) ≡ Some (string_bytes e.0) =
    rw (
      is,
      unknown,
      is_lesser (string_bytes e.0) (unknown_field known (members_view more))
          below,
    ) refl in
    sym here ∙ same

-- if it is not, the members after it have the same least unknown field
pub is_passed : (known : List (List ℕ)) (left : List Entry) (e : Entry) (more : List Entry)
    (total : Option (List ℕ)) → left ≡ e ∷ more
    → unknown_field known (members_view left) ≡ total
    → is_unknown known (string_bytes e.0) (view e.1) ≡ false
    → unknown_field known (members_view more) ≡ total
is_passed known left e more total is same passed =
    let here : unknown_field known (members_view left) ≡ unknown_field known (members_view more) =
    rw (is, passed) refl in
    sym here ∙ same

pub still_ascends : (left : List Entry) (e : Entry) (more : List Entry) → left ≡ e ∷ more
    → Ascends left → Ascends more
still_ascends left e more is ascends = sorted_tail string_cmp e.0 (keys_of more) (rw is at ascends)
