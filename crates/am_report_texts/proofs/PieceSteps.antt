-- What one more thing adds to a text or to an object, and what the parts of a report are.
use Rattle.std.proofs.Common.{◌≡◌, ◌<◌, ◌≤◌, ◌==◌, ◌+◌, ℕ, List, [], ◌∷◌, ◌++◌, length, map, take}
use Rattle.std.proofs.Common.{cond, Some, slice_get, get_or, inl, inr, refl, sym}
use Rattle.std.proofs.Common.{ap, ◌∙◌, append-nil, arith}
use Rattle.std.specs.List.{flat_map}
use Rattle.std.proofs.lemmas.Bool.Decides.{nat_tests}
use Rattle.std.proofs.lemmas.Grind.{common_steps}
use Rattle.std.proofs.lemmas.List.Folds.{flat_map-map}
use Rattle.std.proofs.lemmas.List.{take_all, take_more}
use Rattle.std.proofs.lemmas.Option.{slice_get-get_or, slice_get_cases, slice_get_within}
use Rattle.std.proofs.lemmas.Simd.{map-map}
use Rattle.serde_json.specs.Data.{Data, Members, put}
use Rattle.serde_json.proofs.Views.{view-Object}
use Rattle.am_config.proofs.Numerals.{numeral-decimal}
use Rattle.am_config.proofs.PathTexts.{path_text-steps}
use Rattle.am_report_texts.specs.LineData.{with_members}
use Rattle.am_report_texts.specs.Separated.{texts_behind}
use Rattle.am_report_texts.proofs.Escapes.{escape-other, unbroken_encode}

-- ---- Texts.

pub texts_behind-push : {X : Type 0} (first gap : List ℕ) (text : X → List ℕ) (xs : List X) (x : X)
    → texts_behind first gap text (xs ++ x ∷ [])
    ≡ texts_behind first gap text xs ++ (cond (length xs == 0) first gap ++ text x)
texts_behind-push first gap text [] x = simp append-nil
texts_behind-push first gap text (y ∷ xs) x =
    let rest = texts_behind-push gap gap text xs x in grind (arith, nat_tests, common_steps, rest)

pub texts_behind-map : {X Y : Type 0} (first gap : List ℕ) (text : Y → List ℕ) (f : X → Y)
    (xs : List X) → texts_behind first gap text (map f xs)
    ≡ texts_behind first gap (λ x. text (f x)) xs
texts_behind-map first gap text f [] = refl
texts_behind-map first gap text f (x ∷ xs) = rw (texts_behind-map gap gap text f xs) refl

-- Without separators, things stand one behind the other.
pub texts_behind-none : {X : Type 0} (text : X → List ℕ) (xs : List X)
    → texts_behind [] [] text xs ≡ flat_map text xs
texts_behind-none text [] = refl
texts_behind-none text (x ∷ xs) = rw (texts_behind-none text xs) refl

-- The first part is trivially true: `grind` finds the lemma by it.
pub take_at_get : {X : Type 0} (xs : List X) (i : ℕ) → i < length xs
    → (slice_get xs i ≡ slice_get xs i)
    × ((x : X) × (slice_get xs i ≡ Some x) × (take (i + 1) xs ≡ take i xs ++ x ∷ []))
take_at_get xs i within =
    elim (slice_get_cases xs i).1 [
      | inl at ↦ (refl, (at.0, at.2, rw at.3 at (take_more xs i at.0 within)))
      | inr past ↦ absurd (omega arith)
    ]

-- What a function that writes a text with a loop needs: no answer, if it names this set.
pub ruleset text_steps = (
  common_steps,
  take_at_get,
  texts_behind-push,
  texts_behind-map,
  texts_behind-none,
  flat_map-map,
  escape-other,
  unbroken_encode,
  numeral-decimal,
  path_text-steps,
)

pub one_pushed : {X : Type 0} (first gap : List ℕ) (text : X → List ℕ) (xs : List X) (i : ℕ) (x : X)
    (old before between gapped after : List ℕ) → slice_get xs i ≡ Some x
    → before ≡ old ++ texts_behind first gap text (take i xs) → between ≡ cond (i == 0) first gap
    → gapped ≡ before ++ between → after ≡ gapped ++ text x
    → after ≡ old ++ texts_behind first gap text (take (i + 1) xs)
one_pushed first gap text xs i x old before between gapped after at so_far is put pushed =
    let within : i < length xs = slice_get_within xs i x at in grind (arith, text_steps)

pub row_closed : {X : Type 0} (first gap : List ℕ) (text : X → List ℕ) (xs : List X) (i : ℕ)
    (old now : List ℕ) → length xs ≤ i → now ≡ old ++ texts_behind first gap text (take i xs)
    → now ≡ old ++ texts_behind first gap text xs
row_closed first gap text xs i old now all so_far =
    so_far ∙ ap (λ l. old ++ texts_behind first gap text l) (take_all i xs all)

-- The item that the code reads from a list.
pub item_here : {X : Type 0} (xs : List X) (i : ℕ) (x : X) → i < length xs → x ≡ get_or xs i x
    → slice_get xs i ≡ Some x
item_here xs i x within is = slice_get-get_or xs i x within ∙ ap Some (sym is)

-- ---- Members of objects.

abbrev pub Named : Type 0
Named = List (List ℕ × Data)

pub members_append : (ms : Members) (a b : Named)
    → with_members ms (a ++ b) ≡ with_members (with_members ms a) b
members_append ms [] b = refl
members_append ms (m ∷ a) b = members_append (put m.0 m.1 ms) a b

-- What a function that writes JSON needs: no answer, if it names this set.
pub ruleset member_steps = (
  common_steps,
  take_at_get,
  members_append,
  flat_map-map,
  map-map,
  view-Object,
)
