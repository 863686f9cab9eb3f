-- The choices of the part of a space that some matchers match.
use Rattle.std.proofs.Common.{◌≡◌, Bool, true, false, ◌&&◌, ◌||◌, not, List, [], ◌∷◌, ◌++◌, map, ℕ}
use Rattle.std.proofs.Common.{append-nil, refl, ap, sym, ◌∙◌}
use Rattle.std.specs.List.{list_any}
use Rattle.std.proofs.lemmas.Bool.{and_from, and_parts}
use Rattle.std.proofs.lemmas.List.Folds.{list_any-append}
use Rattle.am_universe.specs.LabelSet.{LabelMap, label_set_of, value_of}
use Rattle.am_labels.specs.declared.op.Op.{Op}
use Rattle.am_labels.specs.declared.op.Op.TheVariants.{Equal, NotEqual, Matches, NotMatches}
use Rattle.am_labels.specs.Matcher.{Matcher, all_hold, condition_holds, holds}
use Rattle.am_labels.specs.Space.{Space, IsChoiceOf, is_possible}
use Rattle.am_outcomes.specs.MatchedPart.{matched_part, opposite, opposite_list}

twice_not : (b : Bool) → b ≡ not (not b)
twice_not true = refl
twice_not false = refl

opposed : (op : Op) (value text : List ℕ) → holds (opposite op) value text ≡ not (holds op value text)
opposed Equal value text = refl
opposed NotEqual value text = twice_not (holds Equal value text)
opposed Matches value text = refl
opposed NotMatches value text = twice_not (holds Matches value text)

neither : (held all : Bool) → (not held && true || not all) ≡ not (held && all)
neither true true = refl
neither true false = refl
neither false all = refl

opposites : (set : LabelMap) (ms : List Matcher)
    → list_any (all_hold set) (map opposite_list ms) ≡ not (all_hold set ms)
opposites set [] = refl
opposites set (m ∷ ms) =
    (λ i. opposed m.op m.value (value_of set m.name) i && true || opposites set ms i)
    ∙ neither (condition_holds set m) (all_hold set ms)

none_of_both : (a b : Bool) → not (a || not b) ≡ (not a && b)
none_of_both true b = refl
none_of_both false b = sym (twice_not b)

-- a label set is possible in the part if it is possible and matches
possible_there : (lists : List (List Matcher)) (set : LabelMap) (ms : List Matcher)
    → is_possible (lists ++ map opposite_list ms) set ≡ (is_possible lists set && all_hold set ms)
possible_there lists set ms =
    ap not (list_any-append (all_hold set) lists (map opposite_list ms)
    ∙ ap (λ b. list_any (all_hold set) lists || b) (opposites set ms))
    ∙ none_of_both (list_any (all_hold set) lists) (all_hold set ms)

module _ (s : Space) (ms : List Matcher) (c : List ℕ) where
  pub choice_there : IsChoiceOf (matched_part s ms) c
      → IsChoiceOf s c × (all_hold (label_set_of s.labels c) ms ≡ true)
  choice_there choice =
      let set = label_set_of s.labels c in
      let both = and_parts (is_possible s.impossible set) (all_hold set ms)
      (sym (possible_there s.impossible set ms) ∙ choice.1) in
      ((choice.0, both.0), both.1)

  pub choice_of_part : IsChoiceOf s c → all_hold (label_set_of s.labels c) ms ≡ true
      → IsChoiceOf (matched_part s ms) c
  choice_of_part choice matches =
      let set = label_set_of s.labels c in (
        choice.0,
        possible_there s.impossible set ms
            ∙ and_from (is_possible s.impossible set) (all_hold set ms) choice.1 matches,
      )

-- no matcher leaves all of it
pub whole_part : (s : Space) → matched_part s [] ≡ s
whole_part s = λ i. record s { impossible = append-nil s.impossible i }
