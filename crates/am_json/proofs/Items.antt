-- Reading one item after the other: how a loop does it, and what items without a fault say.
use Rattle.std.proofs.Common.{◌≡◌, ℕ, ◌+◌, ◌<◌, ◌≤◌, List, [], ◌∷◌, ◌++◌, length, map, get_or, drop}
use Rattle.std.proofs.Common.{Some, Ok, inl, inr, refl, sym, ap, subst, ◌∙◌, add-one}
use Rattle.std.proofs.Common.{append_assoc, drop-cons}
use Rattle.std.specs.Prelude.{⊤}
use Rattle.std.specs.List.{AllZip}
use Rattle.std.proofs.lemmas.List.{drop_all, append-nil}
use Rattle.serde_json.specs.Data.{Data, null}
use Rattle.am_json.specs.declared.read_error.ReadError.{ReadError}
use Rattle.am_json.specs.Json.{items_of}
use Rattle.am_json.specs.OptionalItems.{AreItems, SaysItemsInField, SaysItemsOrNull}
use Rattle.am_json.specs.OptionalItems.{read_optional_array}
use Rattle.am_json.specs.Pointer.{to_field, to_item}
use Rattle.am_json.specs.Reading.{Reading, ◌>>=◌, accept, reading_within, read_each}
use Rattle.am_json.specs.Reading.{read_next_item, read_items, read_item_array}
use Rattle.am_json.specs.Reading.{read_counted, read_items_or_null, Fails}
use Rattle.am_json.proofs.Readings.{Leads, leads_on, fails_led, fails_first, Decides}
use Rattle.am_json.proofs.Deciding.{accept_decides, as_items_decides, count_decides}
use Rattle.am_json.proofs.Deciding.{optional_items_decide, said_as, then_decides, within_decides}

-- ---- A loop, with what is left to read.

module _ {A X : Type 0} (read : A → X → Reading A) where
  abbrev step : A → X → List X → Reading A
  step before x more = read before x >>= λ next. read_each read next more

  split : (before : A) (left : List X) (x : X) (more : List X) (whole : Reading A) → left ≡ x ∷ more
      → Leads (read_each read before left) whole → Leads (step before x more) whole
  unfolding read_each
  split before left x more whole is leads = rw is at leads

  pub goes_on : (before next : A) (left : List X) (x : X) (more : List X) (whole : Reading A)
      → left ≡ x ∷ more → (read before x).result ≡ Ok next
      → Leads (read_each read before left) whole → Leads (read_each read next more) whole
  goes_on before next left x more whole is gives leads =
      leads_on (read before x) (λ n. read_each read n more) next whole gives
      (split before left x more whole is leads)

  pub ends : (e : ReadError) (before : A) (left : List X) (x : X) (more : List X)
      (whole : Reading A) → left ≡ x ∷ more → Fails e (read before x)
      → Leads (read_each read before left) whole → Fails e whole
  ends e before left x more whole is fails leads =
      fails_led e (step before x more) whole (split before left x more whole is leads)
      (fails_first e (read before x) (λ n. read_each read n more) fails)

  pub is_done : (before : A) (left : List X) (whole : Reading A) → left ≡ []
      → Leads (read_each read before left) whole → whole.result ≡ Ok before
  unfolding read_each
  is_done before left whole is leads =
      let l : Leads (read_each read before []) whole = rw is at leads in
      sym l.result

-- the item at `i` is the first of those that are left
pub left_is : {X Y : Type 0} (view : X → Y) (items : List X) (i : ℕ) (item : X) → i < length items
    → item ≡ get_or items i item
    → map view (drop i items) ≡ view item ∷ map view (drop (i + 1) items)
left_is view items i item lt is = rw (add-one, drop-cons items i item lt, ← is) refl

pub none_left : {X Y : Type 0} (view : X → Y) (items : List X) (i : ℕ) → length items ≤ i
    → map view (drop i items) ≡ []
none_left view items i le = rw (drop_all i items le) refl

-- ---- The items of an array.

module _ {A X : Type 0} (view : X → Data) (read : List A → Data → Reading A) where
  pushed : (before : List A) (d : Data) (x : A)
      → (reading_within (to_item (length before)) (read before d)).result ≡ Ok x
      → (read_next_item read before d).result ≡ Ok (before ++ x ∷ [])
  unfolding read_next_item
  pushed before d x gives = rw gives refl

  failed : (e : ReadError) (before : List A) (d : Data)
      → Fails e (reading_within (to_item (length before)) (read before d))
      → Fails e (read_next_item read before d)
  unfolding read_next_item
  failed e before d fails =
      fails_first e (reading_within (to_item (length before)) (read before d))
      (λ x. accept (before ++ x ∷ [])) fails

  pub item_goes_on : (before : List A) (items : List X) (i : ℕ) (item : X) (x : A)
      (whole : Reading (List A)) → i < length items → item ≡ get_or items i item
      → (reading_within (to_item (length before)) (read before (view item))).result ≡ Ok x
      → Leads (read_items read before (map view (drop i items))) whole
      → Leads (read_items read (before ++ x ∷ []) (map view (drop (i + 1) items))) whole
  item_goes_on before items i item x whole lt is gives leads =
      goes_on (read_next_item read) before (before ++ x ∷ []) (map view (drop i items)) (view item)
      (map view (drop (i + 1) items)) whole
      (left_is view items i item lt is) (pushed before (view item) x gives) leads

  pub item_ends : (e : ReadError) (before : List A) (items : List X) (i : ℕ) (item : X)
      (whole : Reading (List A)) → i < length items → item ≡ get_or items i item
      → Fails e (reading_within (to_item (length before)) (read before (view item)))
      → Leads (read_items read before (map view (drop i items))) whole → Fails e whole
  item_ends e before items i item whole lt is fails leads =
      ends (read_next_item read) e before (map view (drop i items)) (view item)
      (map view (drop (i + 1) items)) whole
      (left_is view items i item lt is) (failed e before (view item) fails) leads

  pub items_done : (before : List A) (items : List X) (i : ℕ) (whole : Reading (List A))
      → length items ≤ i
      → Leads (read_items read before (map view (drop i items))) whole → whole.result ≡ Ok before
  items_done before items i whole le leads =
      is_done (read_next_item read) before (map view (drop i items)) whole
      (none_left view items i le) leads

-- ---- What is read is said, and what is said is read.

-- each value fits after the values before it
abbrev pub AllFit : {A : Type 0} → (List A → A → Type 0) → List A → List A → Type 0
AllFit Fits before [] = ⊤
AllFit Fits before (x ∷ xs) = Fits before x × AllFit Fits (before ++ x ∷ []) xs

module _ {A : Type 0} (Says : Data → A → Type 0) (Fits : List A → A → Type 0)
    (read : List A → Data → Reading A) (decides : (before : List A) (d : Data)
    → Decides (λ x. Says d x × Fits before x) ((read before d).result)) where
  -- the values before these items, and the values of these items behind them
  abbrev AreBehind : List A → List Data → List A → Type 0
  AreBehind before ds all =
      (xs : List A) × (before ++ xs ≡ all) × AllZip Says ds xs × AllFit Fits before xs

  next_decides : (before : List A) (d : Data)
      → Decides (λ all. (x : A) × (Says d x × Fits before x) × (before ++ x ∷ [] ≡ all))
      ((read_next_item read before d).result)
  unfolding read_next_item
  next_decides before d =
      then_decides (within_decides (to_item (length before)) (decides before d))
      (λ x. accept_decides (before ++ x ∷ []))

  none_behind : (before xs all : List A) → AllZip Says [] xs → before ++ xs ≡ all → before ≡ all
  none_behind before [] all said is = sym (append-nil before) ∙ is
  none_behind before (x ∷ xs) all said is = absurd said

  first_behind : (before : List A) (d : Data) (ds : List Data) (xs all : List A)
      → AllZip Says (d ∷ ds) xs → AllFit Fits before xs → before ++ xs ≡ all
      → (next : List A) × ((x : A) × (Says d x × Fits before x) × (before ++ x ∷ [] ≡ next))
      × AreBehind next ds all
  first_behind before d ds [] all said fits is = absurd said
  first_behind before d ds (x ∷ xs) all said fits is = (
    before ++ x ∷ [],
    (x, (said.0, fits.0), refl),
    (xs, append_assoc before (x ∷ []) xs ∙ is, said.1, fits.1),
  )

  behind_decide : (before : List A) (ds : List Data)
      → Decides (AreBehind before ds) ((read_items read before ds).result)
  unfolding read_each
  behind_decide before [] =
      said_as (accept_decides before) (λ all is. ([], append-nil before ∙ is, tt, tt))
      (λ all (xs, is, said, fits). none_behind before xs all said is)
  behind_decide before (d ∷ ds) =
      said_as (then_decides (next_decides before d) (λ next. behind_decide next ds))
      (λ all (next, (x, here, same), (xs, is, said, fits)). (
        x ∷ xs,
        sym (append_assoc before (x ∷ []) xs) ∙ ap (λ (b : List A). b ++ xs) same ∙ is,
        (here.0, said),
        (here.1, subst (λ (b : List A). AllFit Fits b xs) (sym same) fits),
      ))
      (λ all (xs, is, said, fits). first_behind before d ds xs all said fits is)

  pub read_items_decide : (ds : List Data)
      → Decides (λ xs. AllZip Says ds xs × AllFit Fits [] xs) ((read_items read [] ds).result)
  read_items_decide ds =
      said_as (behind_decide [] ds)
      (λ xs (ys, is, said, fits).
      subst (λ (zs : List A). AllZip Says ds zs × AllFit Fits [] zs) is (said, fits))
      (λ xs (said, fits). (xs, refl, said, fits))

-- any value fits after any others
abbrev AlwaysFits : {A : Type 0} → List A → A → Type 0
AlwaysFits before x = ⊤

all_fit : {A : Type 0} (before xs : List A) → AllFit AlwaysFits before xs
all_fit before [] = tt
all_fit before (x ∷ xs) = (tt, all_fit (before ++ x ∷ []) xs)

items_of_null : (items : List Data) → items_of null ≡ Some items → ⊥
items_of_null items h = cc

-- each item is read by itself
module _ {A : Type 0} (Says : Data → A → Type 0) (read : Data → Reading A) (decides : (d : Data)
    → Decides (Says d) ((read d).result)) where
  pub each_decide : (ds : List Data)
      → Decides (AllZip Says ds) ((read_items (λ before d. read d) [] ds).result)
  each_decide ds =
      said_as
      (read_items_decide Says AlwaysFits (λ _ d. read d)
      (λ _ d. said_as (decides d) (λ x said. (said, tt)) (λ x said. said.0)) ds)
      (λ xs said. said.0) (λ xs said. (said, all_fit [] xs))

  -- with at most `limit` items
  module _ (limit : ℕ) where
    counted_decides : (ds : List Data)
        → Decides (λ xs. (length ds ≤ limit) × AllZip Says ds xs)
        ((read_counted limit read ds).result)
    unfolding read_counted
    counted_decides ds =
        said_as (then_decides (count_decides limit (length ds)) (λ _. each_decide ds))
        (λ xs (_, few, each). (few, each)) (λ xs (few, each). (tt, few, each))

    array_decides : (d : Data)
        → Decides (AreItems Says limit d) ((read_item_array limit read d).result)
    unfolding read_item_array
    array_decides d =
        said_as (then_decides (as_items_decides d) counted_decides)
        (λ xs (items, is_array, (few, each)).
        record { items = items; is_array = is_array; few = few; each = each })
        (λ xs said. (said.items, said.is_array, (said.few, said.each)))

    -- an array or `null`, which says that there are no items
    pub or_null_decides : (d : Data)
        → Decides (SaysItemsOrNull Says limit d) ((read_items_or_null limit read d).result)
    or_null_decides null =
        said_as (accept_decides []) (λ xs is. inl (refl, sym is)) (λ xs. elim [
          | inl none ↦ sym none.1
          | inr said ↦ absurd (items_of_null said.items said.is_array)
        ])
    or_null_decides d =
        said_as (array_decides d) (λ xs said. inr said)
        (λ xs. elim [ inl none ↦ absurd cc | inr said ↦ said ])

    -- an array in a field that may be absent
    pub optional_array_decides : (key : List ℕ) (d : Data)
        → Decides (SaysItemsInField Says key limit d) ((read_optional_array key limit read d).result)
    unfolding read_optional_array
    optional_array_decides key d =
        said_as
        (then_decides (optional_items_decide key d)
        (λ items. within_decides (to_field key) (counted_decides items)))
        (λ xs (items, has, (few, each)).
        record { items = items; has_items = has; few = few; each = each })
        (λ xs said. (said.items, said.has_items, (said.few, said.each)))
