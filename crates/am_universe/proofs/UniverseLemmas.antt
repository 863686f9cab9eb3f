-- Universes: the position of a name, and what the faults of a label mean.
use Rattle.std.proofs.Common.{◌≡◌, ◌≢◌, ℕ, ◌+◌, ◌<◌, ◌≤◌, List, [], ◌∷◌, ◌++◌, length, map, take, drop, Bool, true, false, cond, ◌||◌, ◌==◌, Option, Some, None, option_map, is_some, MatchOption, IfSome, IfNone, Contains, String, string_bytes, slice_get, get_or, refl, sym, ap, ◌∙◌, lit≤, arith}
use Rattle.std.specs.List.{AllWithin, HoldsAt, IsDistinct, list_any}
use Rattle.std.specs.Cmp.Lexicographic.{bytes_decides}
use Rattle.std.proofs.lemmas.Bool.{false_from_ne_true}
use Rattle.std.proofs.lemmas.Option.{slice_get-map, slice_get-get_or, slice_get_within, get_or_from_slice_get}
use Rattle.std.proofs.lemmas.List.{get_or-map, length-map, map-append, length-take-le, take_more, at_drop_more, at_drop_all}
use Rattle.std.proofs.lemmas.List.Folds.{list_any_at, list_any_none}
use Rattle.std.specs.declared.alloc.Global.{Global}
use Rattle.am_universe.specs.declared.kind.Kind.{Kind}
use Rattle.am_universe.specs.declared.label_fault.LabelFault.{LabelFault}
use Rattle.am_universe.specs.declared.label_fault.LabelPart.TheVariants as parts
use Rattle.am_universe.specs.Text.{same_text}
use Rattle.am_universe.specs.UniverseView.{texts_of}
use Rattle.am_universe.specs.declared.kind.Kind.TheVariants as kinds
use Rattle.std.specs.Option.{option_or}
use Rattle.am_universe.specs.Universe.{Label, IsUniverse, names, any_name_fault, count_fault, value_fault, values_fault, label_values_fault, fault_at}

-- The empty list of labels is a universe.
pub IsUniverse-empty : IsUniverse []
unfolding IsDistinct
IsUniverse-empty = record { at_most = lit≤ tt; labels = tt; distinct = tt }

-- ---- The position of a name.

-- What `Iterator::position` promises about its result for a name.
abbrev pub IsFirstOfName : List Label → List ℕ → Option ℕ → Type 0
IsFirstOfName u name r = MatchOption r
    (AllWithin (λ l. l.name ≢ name) u 0 (length u))
    (λ i. (i < length u) × HoldsAt (λ l. l.name ≡ name) u i × AllWithin (λ l. l.name ≢ name) u 0 i)

abbrev pub no_label : Label
no_label = record { name = []; values = [] }

name_at : (u : List Label) (name : List ℕ) (i : ℕ) → i < length u → HoldsAt (λ l. l.name ≡ name) u i → slice_get (names u) i ≡ Some name
name_at u name i inside at =
    slice_get-map (λ l. l.name) u i ∙ ap (option_map (λ l. l.name)) (slice_get-get_or u i no_label inside) ∙ ap Some (at no_label)

pub found_name : (u : List Label) (name : List ℕ) (r : Option ℕ) → IsFirstOfName u name r → IfSome r (λ i. slice_get (names u) i ≡ Some name)
found_name u name None h = tt
found_name u name (Some i) h = name_at u name i h.0 h.1

pub no_name : (u : List Label) (name : List ℕ) (r : Option ℕ) → IsFirstOfName u name r → IfNone r (¬ Contains (names u) name)
no_name u name None h = λ k.
    let inside : k.0 < length u = omega (arith, k.1, length-map u (λ (l : Label). l.name)) in
    h k.0 no_label (omega arith) inside (sym (get_or-map (λ l. l.name) u k.0 no_label name inside) ∙ k.2)
no_name u name (Some i) h = tt

-- The test that `any_name_fault` makes of the names agrees with the result of `position`.
has_name : (u : List Label) (name : List ℕ) (r : Option ℕ) → IfSome r (λ i. slice_get (names u) i ≡ Some name) → IfNone r (¬ Contains (names u) name) → list_any (λ l. same_text l.name name) u ≡ is_some r
has_name u name None found none = list_any_none (λ l. same_text l.name name) u (λ k d inside.
    let apart : same_text (get_or u k d).name name ≡ true → ⊥ = λ e. none (k, omega (arith, length-map u (λ (l : Label). l.name)), get_or-map (λ l. l.name) u k d name inside ∙ (bytes_decides (get_or u k d).name name).0 e) in
    false_from_ne_true _ apart)
has_name u name (Some i) found none =
    let inside : i < length u = omega (arith, slice_get_within (names u) i name found, length-map u (λ (l : Label). l.name)) in
    list_any_at (λ l. same_text l.name name) u i no_label inside
    ((bytes_decides (get_or u i no_label).name name).1 (sym (get_or-map (λ l. l.name) u i no_label name inside) ∙ get_or_from_slice_get (names u) i name name found))

-- ---- A name beside the others.

-- A name is at fault exactly if it is empty or `position` finds it.
pub any_name_fault-of_some : (u : List Label) (name : List ℕ) (r : Option ℕ) (taken : Bool) → IfSome r (λ i. slice_get (names u) i ≡ Some name)
    → IfNone r (¬ Contains (names u) name) → is_some r ≡ taken → (length name == 0) ≡ false
    → any_name_fault u name ≡ cond taken (Some kinds.Duplicate) None
any_name_fault-of_some u [] r taken found none is some = absurd cc
any_name_fault-of_some u (c ∷ cs) r taken found none is some = rw (has_name u (c ∷ cs) r found none ∙ is) refl

-- ---- Values.

pub list_any-map : {A B : Type 0} (p : B → Bool) (f : A → B) (xs : List A) → list_any p (map f xs) ≡ list_any (λ x. p (f x)) xs
list_any-map p f [] = refl
list_any-map p f (x ∷ xs) = ap (λ b. p (f x) || b) (list_any-map p f xs)

-- the first fault among the values from a position on
abbrev pub fault_from : List (Option (String Global)) → ℕ → Option LabelFault
fault_from values i = values_fault (texts_of (take i values)) (texts_of (drop i values))

pub fault_from_start : (values : List (Option (String Global))) → count_fault (length values) ≡ None → label_values_fault (texts_of values) ≡ fault_from values 0
fault_from_start values fine =
    let e : count_fault (length (texts_of values)) ≡ None = rw (length-map values (option_map string_bytes)) fine in
    ap (λ found. option_or (fault_at parts.Values found) (values_fault [] (texts_of values))) e

fault_from_step : (values : List (Option (String Global))) (i : ℕ) (value : Option (String Global)) → i < length values → value ≡ get_or values i value → fault_from values i ≡ option_or (fault_at (parts.Value i) (value_fault (texts_of (take i values)) (option_map string_bytes value))) (fault_from values (i + 1))
fault_from_step values i value inside at =
    let before = texts_of (take i values) in
    let v = option_map string_bytes value in
    let after = texts_of (drop (i + 1) values) in
    let here : fault_from values i ≡ values_fault before (v ∷ after) =
    at_drop_more (λ rest. values_fault before (texts_of rest)) values i value inside ∙ ap (λ x. values_fault before (option_map string_bytes x ∷ after)) (sym at) in
    let place : length before ≡ i = length-map (take i values) (option_map string_bytes) ∙ length-take-le i values (omega arith) in
    let longer : texts_of (take (i + 1) values) ≡ before ++ v ∷ [] =
    ap texts_of (take_more values i value inside) ∙ map-append (option_map string_bytes) (take i values) (get_or values i value ∷ []) ∙ ap (λ x. before ++ option_map string_bytes x ∷ []) (sym at) in
    here ∙ ap (λ n. option_or (fault_at (parts.Value n) (value_fault before v)) (values_fault (before ++ v ∷ []) after)) place
    ∙ ap (λ xs. option_or (fault_at (parts.Value i) (value_fault before v)) (values_fault xs after)) (sym longer)

pub fault_from_here : (values : List (Option (String Global))) (i : ℕ) (value : Option (String Global)) (kind : Kind) → i < length values → value ≡ get_or values i value → value_fault (texts_of (take i values)) (option_map string_bytes value) ≡ Some kind → fault_from values i ≡ Some (record { kind = kind; part = parts.Value i })
fault_from_here values i value kind inside at found =
    fault_from_step values i value inside at ∙ ap (λ o. option_or (fault_at (parts.Value i) o) (fault_from values (i + 1))) found

pub fault_from_later : (values : List (Option (String Global))) (i : ℕ) (value : Option (String Global)) → i < length values → value ≡ get_or values i value → value_fault (texts_of (take i values)) (option_map string_bytes value) ≡ None → fault_from values i ≡ fault_from values (i + 1)
fault_from_later values i value inside at fine =
    fault_from_step values i value inside at ∙ ap (λ o. option_or (fault_at (parts.Value i) o) (fault_from values (i + 1))) fine

pub fault_from_end : (values : List (Option (String Global))) (i : ℕ) → length values ≤ i → fault_from values i ≡ None
fault_from_end values i end = at_drop_all (λ rest. values_fault (texts_of (take i values)) (texts_of rest)) values i end
