-- What is kept of a JSON value that is read token by token.
use Rattle.std.specs.Prelude.{◌≡◌, ◌⊎◌, ℕ, List, [], ◌∷◌, ◌++◌, map, Bool, true, false}
use Rattle.std.specs.Prelude.{if◌then◌else◌, Option, Some, None, ⊤}
use Rattle.json.specs.Token.{Token}
use Rattle.serde_json.specs.Data.{Data, Items, Members, put}
use Rattle.am_universe.specs.declared.kind.Kind.{Kind}
use Rattle.am_universe.specs.declared.kind.Kind.TheVariants as kinds
use Rattle.am_json.specs.declared.keep.Keep.{Keep}
use Rattle.am_json.specs.declared.keep.Keep.TheVariants.{All, Fields, Nothing}
use Rattle.am_json.specs.Json.{is_one_of, only_fields, only_members}

-- Nothing is kept.
abbrev pub is_nothing : Keep → Bool
is_nothing All = false
is_nothing (Fields names) = false
is_nothing Nothing = true

-- What is kept of an item of an array, and of the member of an object with a key.
abbrev pub keep_of_item : Keep → Keep
keep_of_item keep = if is_nothing keep then Nothing else All

abbrev pub keep_of_member : Keep → List ℕ → Keep
keep_of_member All key = All
keep_of_member (Fields names) key =
    if is_one_of key (map (λ name. name.now) names.now) then All else Nothing
keep_of_member Nothing key = Nothing

-- What is kept of a value is this one, and what is kept of its items or its members are these. If
-- nothing is kept, any value may stand for it.
abbrev pub IsKept : Keep → Data → Data → Type 0
IsKept All whole kept = kept ≡ whole
IsKept (Fields names) whole kept = kept ≡ only_fields (map (λ name. name.now) names.now) whole
IsKept Nothing whole kept = ⊤

abbrev pub AreItemsKept : Keep → Items → Items → Type 0
AreItemsKept All whole kept = kept ≡ whole
AreItemsKept (Fields names) whole kept = kept ≡ whole
AreItemsKept Nothing whole kept = ⊤

abbrev pub AreMembersKept : Keep → Members → Members → Type 0
AreMembersKept All whole kept = kept ≡ whole
AreMembersKept (Fields names) whole kept =
    kept ≡ only_members (map (λ name. name.now) names.now) whole
AreMembersKept Nothing whole kept = ⊤

-- The items before, and this one, unless nothing is kept; and so the members.
abbrev pub push_kept : {A : Type 0} → Keep → A → List A → List A
push_kept keep x before = if is_nothing keep then before else before ++ x ∷ []

abbrev pub put_kept : Keep → List ℕ → Data → Members → Members
put_kept keep key d before = if is_nothing keep then before else put key d before

-- This is kept of what was read, and these tokens are left.
abbrev pub IsReadAs : {A : Type 0} → (A → A → Type 0) → Option (A × List Token) → A → List Token
    → Type 0
IsReadAs {A} Keeps read kept left = (whole : A) × (read ≡ Some (whole, left)) × Keeps whole kept

-- Why nothing was read: memory ran out, or there is nothing to read.
abbrev pub IsUnread : {A : Type 0} → Option A → Kind → Type 0
IsUnread read kind = (kind ≡ kinds.Memory) ⊎ ((kind ≡ kinds.NotJson) × (read ≡ None))
