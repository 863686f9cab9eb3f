-- Parts of files, item by item.
use Rattle.std.proofs.Common.{◌≡◌, ◌<◌, ◌+◌, ◌&&◌, ◌||◌, ℕ, zero, suc, Bool, true, false, not, cond}
use Rattle.std.proofs.Common.{List, [], ◌∷◌, ◌++◌, length, map, take, get_or, min, Some, Option, Vec}
use Rattle.std.proofs.Common.{Global, slice_get, refl, sym, ap, ◌∙◌, inl, inr, arith}
use Rattle.std.specs.List.{filter, filter_map, cons_option, list_any, list_all, zip}
use Rattle.std.proofs.lemmas.Bool.{cases_Bool}
use Rattle.std.proofs.lemmas.List.{map-append, take_more, take_all, length-map, get_or-map}
use Rattle.std.proofs.lemmas.List.Elements.{filter_more, filter_map-append}
use Rattle.std.proofs.lemmas.List.Folds.{list_any_at, list_any_more, list_all_at, list_all_more}
use Rattle.std.proofs.lemmas.Option.{slice_get_within, get_or_from_slice_get}
use Rattle.std.proofs.lemmas.Slice.Zip.{length-zip, get_or-zip}
use Rattle.serde_json.specs.Data.{Data}
use Rattle.serde_json.specs.View.{view}
use Rattle.serde_json.specs.declared.value.Value.{Value, Array}
use Rattle.serde_json.proofs.Views.{view-Array}
use Rattle.am_universe.specs.Text.{same_text}
use Rattle.am_json.specs.Json.{items_of}
use Rattle.am_json.proofs.Values.{item_list-items_of}
use Rattle.am_config.specs.ConfigFile.{Rule}
use Rattle.am_differences.specs.Differences.{values_of}
use Rattle.am_differences.specs.Options.{option_positions}
use Rattle.am_differences.specs.Parts.{Part}

-- the items of an array
pub array_items : (d : Value) (v : Vec Value Global) → d ≡ Array v
    → items_of (view d) ≡ Some (map view v.items)
array_items d v is = rw (is, view-Array) (ap Some (item_list-items_of (map view v.items)))

-- what one more item adds
pub filter_map_more : {X Y Z : Type 0} (shows : X → Y) (h : Y → Option Z) (xs : List X) (i : ℕ)
    (x : X) → i < length xs → x ≡ get_or xs i x
    → filter_map h (map shows (take (i + 1) xs))
    ≡ filter_map h (map shows (take i xs)) ++ cons_option (h (shows x)) []
filter_map_more shows h xs i x within at =
    ap (λ l. filter_map h (map shows l))
    (take_more xs i x within ∙ ap (λ y. take i xs ++ y ∷ []) (sym at))
    ∙ ap (filter_map h) (map-append shows (take i xs) (x ∷ []))
    ∙ filter_map-append h (map shows (take i xs)) (shows x ∷ [])

-- what the option at one more position adds
position_at : (i : ℕ) → i < 6 → get_or option_positions i 0 ≡ i
position_at zero h = refl
position_at (suc zero) h = refl
position_at (suc (suc zero)) h = refl
position_at (suc (suc (suc zero))) h = refl
position_at (suc (suc (suc (suc zero)))) h = refl
position_at (suc (suc (suc (suc (suc zero))))) h = refl
position_at (suc (suc (suc (suc (suc (suc i)))))) h = absurd (omega arith)

pub positions_more : (test : ℕ → Bool) (i : ℕ) → i < 6
    → filter test (take (i + 1) option_positions)
    ≡ filter test (take i option_positions) ++ cond (test i) (i ∷ []) []
positions_more test i h =
    filter_more test option_positions i 0 h
    ∙ ap (λ k. filter test (take i option_positions) ++ cond (test k) (k ∷ []) []) (position_at i h)

-- the parts of a name
pub any_of_name : (test : Data → Bool) (name : List ℕ) (ps : List Part)
    → list_any test (values_of name ps) ≡ list_any (λ p. same_text p.0 name && test p.1) ps
any_of_name test name [] = refl
any_of_name test name (p ∷ ps) = elim (cases_Bool (same_text p.0 name)) [
  | inl e ↦ rw e (ap (λ b. test p.1 || b) (any_of_name test name ps))
  | inr e ↦ rw e (any_of_name test name ps)
]

pub all_of_name : (test : Data → Bool) (name : List ℕ) (ps : List Part)
    → list_all test (values_of name ps) ≡ list_all (λ p. not (same_text p.0 name) || test p.1) ps
all_of_name test name [] = refl
all_of_name test name (p ∷ ps) = elim (cases_Bool (same_text p.0 name)) [
  | inl e ↦ rw e (ap (λ b. test p.1 && b) (all_of_name test name ps))
  | inr e ↦ rw e (all_of_name test name ps)
]

-- one more rule, with its name
module _ (rs : List Rule) (ds : List Data) (name_of : Data → Data) where
  abbrev pub pairs : List (Rule × Data)
  pairs = zip rs (map name_of ds)

  pub pairs_more : (values : List Value) (n : ℕ) (rule : Rule) (value : Value)
      → map view values ≡ ds → n < length rs → n < length values → rule ≡ get_or rs n rule
      → value ≡ get_or values n value
      → take (n + 1) pairs ≡ take n pairs ++ (rule, name_of (view value)) ∷ []
  pairs_more values n rule value is within inside at also =
      let here : get_or ds n (view value) ≡ view value =
      ap (λ l. get_or l n (view value)) (sym is)
      ∙ get_or-map view values n value (view value) inside ∙ ap view (sym also) in
      let listed : n < length ds = omega (arith, ap length is, length-map values view) in
      let named : get_or (map name_of ds) n (name_of (view value)) ≡ name_of (view value) =
      get_or-map name_of ds n (view value) (name_of (view value)) listed ∙ ap name_of here in
      let both : n < length (map name_of ds) = omega (arith, length-map ds name_of) in
      take_more pairs n (rule, name_of (view value))
      (omega (arith, length-zip rs (map name_of ds)))
      ∙ ap (λ (p : Rule × Data). take n pairs ++ p ∷ [])
      (get_or-zip rs (map name_of ds) n (rule, name_of (view value)) within both
      ∙ (λ j. (sym at j, named j)))

  pub pairs_all : (n m : ℕ) → m ≡ length ds → n ≡ min (length rs) m → take n pairs ≡ pairs
  pairs_all n m long is =
      take_all n pairs (omega (arith, length-zip rs (map name_of ds), length-map ds name_of))

-- tests of items up to a position
pub any_here : {X : Type 0} (test : X → Bool) (xs : List X) (i : ℕ) (x : X)
    → slice_get xs i ≡ Some x → test x ≡ true → true ≡ list_any test xs
any_here test xs i x at passes =
    sym (list_any_at test xs i x (slice_get_within xs i x at)
    (ap test (get_or_from_slice_get xs i x x at) ∙ passes))

pub any_more : {X : Type 0} (test : X → Bool) (xs : List X) (i : ℕ) (x : X)
    → slice_get xs i ≡ Some x → list_any test (take i xs) ≡ false → test x ≡ false
    → list_any test (take (i + 1) xs) ≡ false
any_more test xs i x at before fails =
    list_any_more test xs i x (slice_get_within xs i x at)
    ∙ (λ j. before j || (ap test (get_or_from_slice_get xs i x x at) ∙ fails) j)

pub all_here : {X : Type 0} (test : X → Bool) (xs : List X) (i : ℕ) (x : X)
    → slice_get xs i ≡ Some x → test x ≡ false → false ≡ list_all test xs
all_here test xs i x at fails =
    sym (list_all_at test xs i x (slice_get_within xs i x at)
    (ap test (get_or_from_slice_get xs i x x at) ∙ fails))

pub all_more : {X : Type 0} (test : X → Bool) (xs : List X) (i : ℕ) (x : X)
    → slice_get xs i ≡ Some x → list_all test (take i xs) ≡ true → test x ≡ true
    → list_all test (take (i + 1) xs) ≡ true
all_more test xs i x at before passes =
    list_all_more test xs i x (slice_get_within xs i x at)
    ∙ (λ j. before j && (ap test (get_or_from_slice_get xs i x x at) ∙ passes) j)
