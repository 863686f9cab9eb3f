-- The outcomes of narrowings: at the positions of these, and for rules.
use Rattle.std.proofs.Common.{◌≡◌, ℕ, zero, suc, ◌+◌, ◌<◌, List, [], ◌∷◌, ◌++◌, length, map, take}
use Rattle.std.proofs.Common.{Bool, true, Bor, get_or, nat_eq, Option, Some, None, option_map, refl, ap, sym, ◌∙◌, subst₂, arith}
use Rattle.std.specs.Prelude.{slice_get, position}
use Rattle.std.specs.List.{AllByRecursion, AllZip}
use Rattle.std.specs.Global.{Vec}
use Rattle.std.proofs.lemmas.Bool.{and_parts}
use Rattle.std.proofs.lemmas.Grind.{common_steps}
use Rattle.std.proofs.lemmas.List.{length-map}
use Rattle.std.proofs.lemmas.List.Quantifiers.{position-Some}
use Rattle.std.proofs.lemmas.Option.{slice_get-map, slice_get-get_or, slice_get_within}
use Rattle.std.proofs.lemmas.Slice.Zip.{all_zipped_more}
use Rattle.std.specs.Cmp.Lexicographic.{pointwise}
use Rattle.std.specs.Option.{option_eq}
use Rattle.am_universe.specs.Universe.{Label, sizes}
use Rattle.am_universe.specs.Choice.{IsWhole}
use Rattle.am_universe.proofs.ListLemmas.{AllByRecursion-each}
use Rattle.am_universe.proofs.Members.{at_in}
use Rattle.am_labels.specs.Space.{Space}
use Rattle.am_outcomes.specs.Configurations.{Configurations}
use Rattle.am_outcomes.specs.Outcomes.{outcomes_of}
use Rattle.am_outcomes.proofs.LineSteps.{whole_at}
use Rattle.am_rule_outcomes.specs.Narrowing.{narrowed}
use Rattle.am_rule_outcomes.specs.Narrowed.{Narrowed, HaveWholeChoices, left_outcomes}
use Rattle.am_rule_outcomes.specs.Narrowed.{narrowed_outcomes}
use Rattle.am_rule_outcomes.specs.NarrowingView.{narrowed_each, narrowed_of, narrowed_with, narrowing_view}
use Rattle.am_rule_outcomes.proofs.RulesFound.{shown_more}

abbrev pub Key : Type 0
Key = Bor (List (Option ℕ))

-- ---- The choices of the outcomes are whole.

narrowed_whole : (s : Space) (k : Configurations) (kept : List (Option ℕ))
    → HaveWholeChoices (narrowed_outcomes s k kept)
narrowed_whole s k kept =
    let t = narrowed s kept in
    AllByRecursion-each (λ (o : List (List ℕ) × List ℕ). IsWhole (sizes t.labels) o.1) (outcomes_of t k)
    (λ o i.
    let at = at_in (outcomes_of t k) o i in
    whole_at t k (outcomes_of t k) t.labels at.0 o refl refl at.1)

pub all_whole_of : (s : Space) (k : Configurations) (keys : List Key)
    → AllByRecursion HaveWholeChoices
    (narrowed_each s.labels (map (λ kept. left_outcomes s k kept.now) keys))
all_whole_of s k [] = tt
all_whole_of s k (kept ∷ keys) = (narrowed_whole s k kept.now, all_whole_of s k keys)

-- ---- The position of a narrowing.

abbrev pub same_kept : List (Option ℕ) → List (Option ℕ) → Bool
same_kept kept others = pointwise (option_eq nat_eq) kept others

same_position : (x y : Option ℕ) → option_eq nat_eq x y ≡ true → x ≡ y
same_position None None e = refl
same_position None (Some y) e = absurd cc
same_position (Some x) None e = absurd cc
same_position (Some x) (Some y) e = grind (arith, common_steps)

same_narrowing : (xs ys : List (Option ℕ)) → same_kept xs ys ≡ true → xs ≡ ys
same_narrowing [] [] e = refl
same_narrowing [] (y ∷ ys) e = absurd cc
same_narrowing (x ∷ xs) [] e = absurd cc
same_narrowing (x ∷ xs) (y ∷ ys) e =
    let both = and_parts (option_eq nat_eq x y) (same_kept xs ys) e in
    λ i. same_position x y both.0 i ∷ same_narrowing xs ys both.1 i

module _ (s : Space) (k : Configurations) where
  abbrev Found : Type 0
  Found = List (List (List ℕ) × List ℕ)

  abbrev outcomes_of_key : Key → Found
  outcomes_of_key kept = left_outcomes s k kept.now

  -- the outcomes of a narrowing that was seen are at its position
  pub seen_at : (eq : Key → Key → Bool) → ((x y : Key) → eq x y ≡ same_kept x.now y.now)
      → (keys : List Key) (each : List Found) (kept : Key) (i : ℕ)
      → each ≡ map outcomes_of_key keys → position (eq kept) keys ≡ Some i
      → slice_get each i ≡ Some (left_outcomes s k kept.now)
  seen_at eq compares keys each kept i are at =
      let found = position-Some (eq kept) keys i kept at in
      let same = same_narrowing kept.now (get_or keys i kept).now
      (sym (compares kept (get_or keys i kept)) ∙ found.1) in
      ap (λ ns. slice_get ns i) are ∙ slice_get-map outcomes_of_key keys i
      ∙ ap (option_map outcomes_of_key) (slice_get-get_or keys i kept found.0)
      ∙ ap (λ kept. Some (left_outcomes s k kept)) (sym same)

pub kept_in_front : {X : Type 0} (xs : List X) (x : X) (i : ℕ) → i < length xs
    → slice_get (xs ++ x ∷ []) i ≡ slice_get xs i
kept_in_front [] x i within = absurd (omega (arith, within))
kept_in_front (y ∷ xs) x zero within = refl
kept_in_front (y ∷ xs) x (suc i) within = kept_in_front xs x i (omega (arith, within))

-- ---- The position of the outcomes of a rule.

-- a rule without alerts has no position, and any other that of its outcomes
abbrev pub IsPosition : List Narrowed → Option Narrowed → Option ℕ → Type 0
IsPosition each None position = position ≡ None
IsPosition each (Some n) position = narrowed_of each position ≡ Some n

-- it stays the same if others are added
abbrev pub KeepsItems : List Narrowed → List Narrowed → Type 0
KeepsItems before after = (i : ℕ) → i < length before → slice_get after i ≡ slice_get before i

position_stays : (before after : List Narrowed) → KeepsItems before after
    → (n : Option Narrowed) (position : Option ℕ) → IsPosition before n position
    → IsPosition after n position
position_stays before after kept None position is = is
position_stays before after kept (Some n) None is = absurd cc
position_stays before after kept (Some n) (Some i) is =
    kept i (slice_get_within before i n is) ∙ is

-- so do those with labels
pub labelled_stay : (u : List Label) (before after : List (List (List (List ℕ) × List ℕ)))
    → ((i : ℕ) → i < length before → slice_get after i ≡ slice_get before i)
    → KeepsItems (narrowed_each u before) (narrowed_each u after)
labelled_stay u before after kept i within =
    slice_get-map (narrowed_with u) after i
    ∙ ap (option_map (narrowed_with u)) (kept i (omega (arith, within, length-map before (narrowed_with u))))
    ∙ sym (slice_get-map (narrowed_with u) before i)

pub positions_stay : (before after : List Narrowed) → KeepsItems before after
    → (ns : List (Option Narrowed)) (positions : List (Option ℕ))
    → AllZip (IsPosition before) ns positions → AllZip (IsPosition after) ns positions
positions_stay before after kept [] [] all = tt
positions_stay before after kept [] (p ∷ ps) all = absurd all
positions_stay before after kept (n ∷ ns) [] all = absurd all
positions_stay before after kept (n ∷ ns) (p ∷ ps) all =
    (position_stays before after kept n p all.0, positions_stay before after kept ns ps all.1)

is_at : (each : List Narrowed) (n : Option Narrowed) (position : Option ℕ)
    → IsPosition each n position → narrowed_of each position ≡ n
is_at each None position is = ap (narrowed_of each) is
is_at each (Some n) position is = is

pub all_at : (each : List Narrowed) (ns : List (Option Narrowed)) (positions : List (Option ℕ))
    → AllZip (IsPosition each) ns positions → map (narrowed_of each) positions ≡ ns
all_at each [] [] all = refl
all_at each [] (p ∷ ps) all = absurd all
all_at each (n ∷ ns) [] all = absurd all
all_at each (n ∷ ns) (p ∷ ps) all = λ i. is_at each n p all.0 i ∷ all_at each ns ps all.1 i

-- the outcomes of some narrowings, if there are any
abbrev pub of_narrowings : Space → Configurations → List (Option (Vec (Option ℕ))) → List (Option Narrowed)
of_narrowings s k narrowings = map (option_map (narrowed_outcomes s k)) (map narrowing_view narrowings)

-- one rule more
pub position_more : (s : Space) (k : Configurations) (each : List Narrowed)
    (narrowings : List (Option (Vec (Option ℕ)))) (i : ℕ) (narrowing : Option (Vec (Option ℕ)))
    (before after : List (Option ℕ)) (position : Option ℕ) → slice_get narrowings i ≡ Some narrowing
    → AllZip (IsPosition each) (of_narrowings s k (take i narrowings)) before
    → IsPosition each (option_map (narrowed_outcomes s k) (narrowing_view narrowing)) position
    → after ≡ before ++ position ∷ []
    → AllZip (IsPosition each) (of_narrowings s k (take (i + 1) narrowings)) after
position_more s k each narrowings i narrowing before after position at all here adds =
    subst₂ (λ ns ps. AllZip (IsPosition each) ns ps)
    (sym (shown_more (option_map (narrowed_outcomes s k)) narrowing_view narrowings i narrowing at))
    (sym adds)
    (all_zipped_more (IsPosition each) (of_narrowings s k (take i narrowings)) before
    (option_map (narrowed_outcomes s k) (narrowing_view narrowing)) position all here)
