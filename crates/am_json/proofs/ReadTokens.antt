-- What is kept of the items of an array and of the members of an object, one after the other.
use Rattle.std.proofs.Common.{◌≡◌, ℕ, List, [], ◌∷◌, ◌++◌, map, Bool, true, false}
use Rattle.std.proofs.Common.{Option, Some, None, Result, Ok, Err, Vec, BTreeMap, String, Global}
use Rattle.std.proofs.Common.{inl, inr, refl, sym, ap, ap₂, ◌∙◌}
use Rattle.std.specs.Prelude.{if◌then◌else◌, IsErrAnd, IfErr}
use Rattle.json.specs.Token.{Token}
use Rattle.json.specs.Json.{parse_map}
use Rattle.serde_json.specs.Data.{Data, array, object, Items, no_items, item, Members, no_members}
use Rattle.serde_json.specs.Data.{put}
use Rattle.serde_json.specs.Find.{as_object}
use Rattle.serde_json.specs.View.{view, items_view, members_view}
use Rattle.serde_json.specs.declared.value.Value.{Value, Array, Object}
use Rattle.serde_json.proofs.Views.{Entry, view-Array, view-Object}
use Rattle.am_universe.specs.declared.kind.Kind.{Kind}
use Rattle.am_universe.specs.declared.kind.Kind.TheVariants as kinds
use Rattle.am_json.specs.declared.keep.Keep.{Keep}
use Rattle.am_json.specs.declared.keep.Keep.TheVariants.{All, Fields, Nothing}
use Rattle.am_json.specs.Json.{is_one_of, only_fields, only_members}
use Rattle.am_json.specs.Kept.{keep_of_item, keep_of_member, IsKept, AreItemsKept, AreMembersKept}
use Rattle.am_json.specs.Kept.{push_kept, put_kept, IsUnread}
use Rattle.am_json.proofs.KeptMembers.{Ascend, put_named, put_unnamed}

-- ---- Errors.

-- the error of a part is that of the whole, if nothing is read of the whole then
pub passed_on : {T A B : Type 0} (r : Result T Kind) (kind : Kind) (part : Option A)
    (whole : Option B) → IsErrAnd r (λ e. e ≡ kind) → IsUnread part kind
    → (part ≡ None → whole ≡ None) → IfErr r (IsUnread whole)
passed_on (Ok x) kind part whole is unread none = tt
passed_on (Err e) kind part whole is (inl memory) none = inl (is ∙ memory)
passed_on (Err e) kind part whole is (inr refused) none =
    inr (is ∙ refused.0, none refused.1)

-- nothing is read of the whole
pub refused : {T B : Type 0} (r : Result T Kind) (kind : Kind) (whole : Option B)
    → IsErrAnd r (λ e. e ≡ kind) → kind ≡ kinds.NotJson → whole ≡ None → IfErr r (IsUnread whole)
refused (Ok x) kind whole is not_json none = tt
refused (Err e) kind whole is not_json none = inr (is ∙ not_json, none)

-- ---- One value.

only_other : (names : List (List ℕ)) (d : Data) → as_object d ≡ None → only_fields names d ≡ d
only_other names (object ms) h = absurd cc
only_other names d h = refl

-- of a value that is no object, all is kept or nothing
pub kept_whole : (keep : Keep) (d kept : Data) → as_object d ≡ None → kept ≡ d → IsKept keep d kept
kept_whole All d kept other is = is
kept_whole (Fields names) d kept other is =
    is ∙ sym (only_other (map (λ name. name.now) names.now) d other)
kept_whole Nothing d kept other is = tt

pub array_kept : (keep : Keep) (whole : Items) (v : Vec Value Global)
    → AreItemsKept keep whole (items_view v.items) → IsKept keep (array whole) (view (Array v))
array_kept All whole v is = view-Array v ∙ ap array is
array_kept (Fields names) whole v is = view-Array v ∙ ap array is
array_kept Nothing whole v is = tt

pub object_kept : (keep : Keep) (whole : Members) (m : BTreeMap (String Global) Value)
    → AreMembersKept keep whole (members_view m.entries) → IsKept keep (object whole) (view (Object m))
object_kept All whole m is = view-Object m ∙ ap object is
object_kept (Fields names) whole m is = view-Object m ∙ ap object is
object_kept Nothing whole m is = tt

-- ---- Items.

-- the items before these
abbrev pub items_then : Items → Items → Items
items_then no_items rest = rest
items_then (item d ds) rest = item d (items_then ds rest)

abbrev pub add_item : Items → Data → Items
add_item ds d = items_then ds (item d no_items)

item_moved : (ds : Items) (d : Data) (rest : Items)
    → items_then ds (item d rest) ≡ items_then (add_item ds d) rest
item_moved no_items d rest = refl
item_moved (item e es) d rest = ap (item e) (item_moved es d rest)

pub items_moved : (ds : Items) (d : Data) (read : Option (Items × List Token))
    → parse_map (items_then ds) (parse_map (item d) read) ≡ parse_map (items_then (add_item ds d)) read
items_moved ds d None = refl
items_moved ds d (Some p) = ap (λ es. Some (es, p.1)) (item_moved ds d p.0)

pub none_before : (read : Option (Items × List Token)) → read ≡ parse_map (items_then no_items) read
none_before None = refl
none_before (Some p) = refl

pub none_behind : (ds : Items) → items_then ds no_items ≡ ds
none_behind no_items = refl
none_behind (item d ds) = ap (item d) (none_behind ds)

view_pushed : (vs : List Value) (v : Value)
    → items_view (vs ++ v ∷ []) ≡ add_item (items_view vs) (view v)
view_pushed [] v = refl
view_pushed (w ∷ vs) v = ap (item (view w)) (view_pushed vs v)

pushed : (vs : List Value) (v : Value) (before : Items) (d : Data) → items_view vs ≡ before
    → view v ≡ d → items_view (vs ++ v ∷ []) ≡ add_item before d
pushed vs v before d same is = view_pushed vs v ∙ ap₂ add_item same is

pub none_kept : (keep : Keep) (vs : List Value) → vs ≡ []
    → AreItemsKept keep no_items (items_view vs)
none_kept All vs none = ap items_view none
none_kept (Fields names) vs none = ap items_view none
none_kept Nothing vs none = tt

-- an item that is kept as the array is
pub item_kept : (keep : Keep) (vs : List Value) (v : Value) (before : Items) (d : Data)
    → AreItemsKept keep before (items_view vs) → IsKept (keep_of_item keep) d (view v)
    → AreItemsKept keep (add_item before d) (items_view (push_kept keep v vs))
item_kept All vs v before d same is = pushed vs v before d same is
item_kept (Fields names) vs v before d same is = pushed vs v before d same is
item_kept Nothing vs v before d same is = tt

-- ---- Members.

named_kept : (b : Bool) (names : List (List ℕ)) (key : List ℕ) (d kept : Data)
    (before old : Members) → is_one_of key names ≡ b → Ascend before
    → old ≡ only_members names before → IsKept (if b then All else Nothing) d kept
    → put_kept (if b then All else Nothing) key kept old ≡ only_members names (put key d before)
named_kept true names key d kept before old named ascend same is =
    ap₂ (put key) is same ∙ sym (put_named names key d before ascend named)
named_kept false names key d kept before old named ascend same is =
    same ∙ sym (put_unnamed names key d before named)

pub no_member_kept : (keep : Keep) (es : List Entry) → es ≡ []
    → AreMembersKept keep no_members (members_view es)
no_member_kept All es none = ap members_view none
no_member_kept (Fields names) es none = ap members_view none
no_member_kept Nothing es none = tt

-- a member that is kept as the object is
pub member_kept : (keep : Keep) (key : List ℕ) (d kept : Data) (before old : Members)
    → Ascend before → AreMembersKept keep before old
    → IsKept (keep_of_member keep key) d kept
    → AreMembersKept keep (put key d before) (put_kept (keep_of_member keep key) key kept old)
member_kept All key d kept before old ascend same is = ap₂ (put key) is same
member_kept (Fields names) key d kept before old ascend same is =
    named_kept _ (map (λ name. name.now) names.now) key d kept before old refl ascend same is
member_kept Nothing key d kept before old ascend same is = tt
