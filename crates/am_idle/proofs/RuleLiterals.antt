-- The literals of the sides of a rule, and what they say of the label sets of pairs.
use Rattle.std.proofs.Common.{◌≡◌, ◌≢◌, ◌<◌, ◌+◌, ℕ, zero, suc, List, [], ◌∷◌, length, Bool, true}
use Rattle.std.proofs.Common.{false, not, Option, Some, None, refl, sym, ap, ◌∙◌, subst}
use Rattle.std.proofs.Common.{arith, Contains, ◌++◌, take, drop}
use Rattle.std.proofs.Common.{IfSome, IfNone, ◌↔◌, String, Global, string_bytes}
use Rattle.std.specs.Prelude.{◌&&◌, ◌||◌, slice_get, is_some}
use Rattle.std.specs.List.{AllZip, cons_option, enumerate_from, filter, filter_map}
use Rattle.std.proofs.lemmas.List.{take-append-drop}
use Rattle.std.proofs.lemmas.List.Folds.{list_all-append}
use Rattle.std.specs.List.Sorted.{IsStrictlySortedBy}
use Rattle.std.specs.Ordering.{nat_cmp}
use Rattle.std.proofs.lemmas.Bool.{and_parts, and_from, both_ways, cases_Bool, not-true, or_left}
use Rattle.std.proofs.lemmas.Bool.{or_right, or_from}
use Rattle.std.proofs.lemmas.Grind.{common_steps}
use Rattle.std.proofs.lemmas.List.Kept.{IsStrictlySortedBy-filter}
use Rattle.std.proofs.lemmas.Option.{same_Some, slice_get_within}
use Rattle.am_universe.specs.Universe.{Label, sizes, label_position}
use Rattle.am_universe.specs.Choice.{IsWhole}
use Rattle.am_universe.specs.LabelSet.{LabelMap, label_set_of}
use Rattle.am_universe.proofs.ListLemmas.{IsIn-from_Contains, Contains-from_IsIn}
use Rattle.am_universe.proofs.ListLemmas.{AllByRecursion-each, IsIn-map, IsIn-unmap}
use Rattle.am_universe.proofs.ListLemmas.{IsStrictlySortedBy-map}
use Rattle.am_universe.proofs.Members.{item_at, numbered_at}
use Rattle.am_labels.specs.Matcher.{Matcher, condition_holds, all_hold}
use Rattle.am_labels.specs.Space.{Space}
use Rattle.am_labels.proofs.Passing.{passes_from_kept, kept_from_passes}
use Rattle.am_config.specs.ConfigFile.{Rule}
use Rattle.am_config.specs.RouteView.{names_of}
use Rattle.am_judged_lists.specs.Cube.{IsCubeOf, MaskedLabels, matches}
use Rattle.am_eval.specs.Inhibition.{is_two_sided}
use Rattle.am_eval.proofs.PairLemmas.{Numbers, numbers_ascend}
use Rattle.am_complete.proofs.Pushed.{zip_right}
use Rattle.am_first_sets.specs.declared.candidate.Candidate.{Candidate}
use Rattle.am_first_sets.specs.declared.pairs.Pairs.{Pairs}
use Rattle.am_judged_lists.specs.declared.pairs.Side.{Side}
use Rattle.am_judged_lists.specs.declared.pairs.Side.TheVariants.{First, Second}
use Rattle.am_first_sets.specs.Literals.{holds_at, meets, IsMet}
use Rattle.am_first_sets.specs.Pairs.{ArePairsOf, pair_choices, side_of}
use Rattle.am_first_sets.specs.PossibleChoices.{IsPossible, AreFound}
use Rattle.am_first_sets.specs.Reason.{AreSameLiterals, without, IsReason}
use Rattle.am_first_sets.proofs.CubeTruth.{matches_where}
use Rattle.am_first_sets.proofs.ReasonLemmas.{met_at}
use Rattle.am_idle.specs.RuleChoices.{labels_named, AreMeeting, AreAllNamed, AreNamedIn}
use Rattle.am_idle.specs.RuleChoices.{AreCubesOfMatchers, AreWantedFor, named_of}
use Rattle.am_idle.specs.declared.rules.IdleReason.{IdleReason}
use Rattle.am_idle.specs.declared.rules.IdleReason.TheVariants as reason_is
use Rattle.am_idle.specs.Rules.{SomeMeet, SomeInhibit, Matches, MeetsAt, MeetsAtBut, AreWithin}
use Rattle.am_idle.specs.Rules.{Contradict, IsWhyNone}
use Rattle.am_idle.proofs.FoundSets.{one_found}

-- ---- Literals that are named.

abbrev is_named : ℕ × Candidate → Bool
is_named p = p.1.named

named_in : (ks : List Candidate) (i : ℕ) (k : Candidate) → slice_get ks i ≡ Some k
    → k.named ≡ true → Contains (named_of ks) i
named_in ks i k at named =
    Contains-from_IsIn (named_of ks) i
    (IsIn-map (λ (p : ℕ × Candidate). p.0) (filter is_named (enumerate_from 0 ks)) (i, k)
    (kept_from_passes is_named (enumerate_from 0 ks) (i, k)
    (numbered_at 0 ks i k at i (omega arith)) named))

named_at : (ks : List Candidate) (i : ℕ) → Contains (named_of ks) i
    → (k : Candidate) × (slice_get ks i ≡ Some k) × (k.named ≡ true)
named_at ks i there =
    let r = IsIn-unmap (λ (p : ℕ × Candidate). p.0) (filter is_named (enumerate_from 0 ks)) i
    (IsIn-from_Contains (named_of ks) i there) in
    let kept = passes_from_kept is_named (enumerate_from 0 ks) r.0 r.1 in
    (r.0.1, ap (slice_get ks) (sym r.2) ∙ item_at ks r.0 kept.0, kept.1)

named_ascend : (ks : List Candidate) → IsStrictlySortedBy nat_cmp (named_of ks)
named_ascend ks =
    IsStrictlySortedBy-map Numbers nat_cmp (λ p. p.0) (filter is_named (enumerate_from 0 ks))
    (λ p q. refl)
    (IsStrictlySortedBy-filter Numbers is_named (enumerate_from 0 ks) (numbers_ascend 0 ks))

-- ---- Literals by their positions.

unchanged_at : (n i : ℕ) (ks : List Candidate) → i ≢ n
    → slice_get (without n ks) i ≡ slice_get ks i
unchanged_at n i [] other = refl
unchanged_at zero zero (k ∷ ks) other = absurd (other refl)
unchanged_at zero (suc i) (k ∷ ks) other = refl
unchanged_at (suc n) zero (k ∷ ks) other = refl
unchanged_at (suc n) (suc i) (k ∷ ks) other = unchanged_at n i ks (λ e. other (ap suc e))

each_met : (e : List ℕ) (ks : List Candidate)
    → ((i : ℕ) (k : Candidate) → slice_get ks i ≡ Some k → k.named ≡ true → holds_at e k ≡ true)
    → meets e ks ≡ true
each_met e [] each = refl
each_met e (k ∷ ks) each =
    and_from (not k.named || holds_at e k) (meets e ks) (grind (arith, common_steps, cases_Bool, each 0 k))
    (each_met e ks (λ i l at named. each (suc i) l at named))

-- the named literals of two lists, one behind the other
meets_both : (e : List ℕ) (ks ls : List Candidate) → meets e (ks ++ ls) ≡ (meets e ks && meets e ls)
meets_both e ks ls = list_all-append (λ (k : Candidate). not k.named || holds_at e k) ks ls

parts_met : (e : List ℕ) (ks ls : List Candidate) → meets e (ks ++ ls) ≡ true
    → (meets e ks ≡ true) × (meets e ls ≡ true)
parts_met e ks ls met = and_parts (meets e ks) (meets e ls) (sym (meets_both e ks ls) ∙ met)

without_front : (i : ℕ) (ks ls : List Candidate) (k : Candidate) → slice_get ks i ≡ Some k
    → (slice_get (ks ++ ls) i ≡ Some k) × (without i (ks ++ ls) ≡ without i ks ++ ls)
without_front i [] ls k at = absurd (cc)
without_front zero (l ∷ ks) ls k at = (at, refl)
without_front (suc i) (l ∷ ks) ls k at =
    let r = without_front i ks ls k at in (r.0, ap (λ rest. l ∷ rest) r.1)

without_rest : (i : ℕ) (ks ls : List Candidate) (k : Candidate) → slice_get ls i ≡ Some k
    → (slice_get (ks ++ ls) (length ks + i) ≡ Some k)
    × (without (length ks + i) (ks ++ ls) ≡ ks ++ without i ls)
without_rest i [] ls k at =
    let same : 0 + i ≡ i = omega arith in
    (ap (slice_get ls) same ∙ at, ap (λ n. without n ls) same)
without_rest i (l ∷ ks) ls k at =
    let r = without_rest i ks ls k at in
    let same : length (l ∷ ks) + i ≡ suc (length ks + i) = omega arith in (
      ap (slice_get (l ∷ (ks ++ ls))) same ∙ r.0,
      ap (λ n. without n (l ∷ (ks ++ ls))) same ∙ ap (λ rest. l ∷ rest) r.1,
    )

-- ---- Two lists, item by item.

zip_through : {X Y Z : Type 0} (R : X → Y → Type 0) (S : Y → Z → Type 0) (T : X → Z → Type 0)
    (xs : List X) (ys : List Y) (zs : List Z) → ((x : X) (y : Y) (z : Z) → R x y → S y z → T x z)
    → AllZip R xs ys → AllZip S ys zs → AllZip T xs zs
zip_through R S T [] [] [] so all more = tt
zip_through R S T (x ∷ xs) (y ∷ ys) (z ∷ zs) so all more =
    (so x y z all.0 more.0, zip_through R S T xs ys zs so all.1 more.1)
zip_through R S T [] (y ∷ ys) zs so all more = absurd all
zip_through R S T (x ∷ xs) [] zs so all more = absurd all
zip_through R S T xs (y ∷ ys) [] so all more = absurd more
zip_through R S T xs [] (z ∷ zs) so all more = absurd more

-- what holds of two lists item by item does of their first items, and of the others
zip_cut : {X Y : Type 0} (R : X → Y → Type 0) (n : ℕ) (xs : List X) (ys : List Y) → AllZip R xs ys
    → AllZip R (take n xs) (take n ys) × AllZip R (drop n xs) (drop n ys)
zip_cut R zero xs ys all = (tt, all)
zip_cut R (suc n) [] [] all = (tt, tt)
zip_cut R (suc n) (x ∷ xs) (y ∷ ys) all =
    let r = zip_cut R n xs ys all.1 in ((all.0, r.0), r.1)
zip_cut R (suc n) [] (y ∷ ys) all = absurd all
zip_cut R (suc n) (x ∷ xs) [] all = absurd all

-- ---- Pairs.

module _ (s : Space) (names : List (List ℕ)) (pairs : Pairs)
    (are : ArePairsOf s (labels_named s.labels names) pairs) where
  abbrev u : List Label
  u = s.labels

  abbrev Meet : LabelMap → LabelMap → Type 0
  Meet = AreMeeting s names

  abbrev Is : List ℕ → Type 0
  Is = IsPossible (pair_choices pairs)

  abbrev set_at : Side → List ℕ → LabelMap
  set_at side e = label_set_of u (side_of pairs side e)

  whole_at : (side : Side) (e : List ℕ) → Is e → IsWhole (sizes u) (side_of pairs side e)
  whole_at First e possible = (are.sides e possible).first.0
  whole_at Second e possible = (are.sides e possible).second.0

  sets_meet : (e : List ℕ) → Is e → Meet (set_at First e) (set_at Second e)
  sets_meet e possible =
      let pair = are.sides e possible in (
        side_of pairs First e,
        side_of pairs Second e,
        pair.first,
        pair.second,
        pair.same,
        refl,
        refl,
      )

  -- two label sets that may meet are the sides of a pair
  pair_of : (x y : LabelMap) → Meet x y
      → (e : List ℕ) × Is e × (x ≡ set_at First e) × (y ≡ set_at Second e)
  pair_of x y (c, d, one, two, same, is, also) =
      let r = are.every c d (record { first = one; second = two; same = same }) in
      (r.0, r.1, is ∙ ap (label_set_of u) (sym r.2), also ∙ ap (label_set_of u) (sym r.3))

  -- ---- The literals of one side.

  module _ (side : Side) where
    -- the literal asks for the matcher, of the label set of the side
    abbrev IsLiteralOf : Matcher → Candidate → Type 0
    IsLiteralOf m k = (e : List ℕ) → Is e → holds_at e k ≡ condition_holds (set_at side e) m

    -- the literals ask for the matchers of the side, one by one, whichever of them are named
    abbrev pub AreLiteralsOf : List Matcher → List Candidate → Type 0
    AreLiteralsOf ms ks = AllZip IsLiteralOf ms ks

    pub literals_are : (ms : List Matcher) (cubes : List MaskedLabels) (ks : List Candidate)
        → AreCubesOfMatchers u pairs side ms cubes → AreWantedFor cubes ks → AreLiteralsOf ms ks
    literals_are ms cubes ks asking wanted =
        zip_through _ _ _ ms cubes ks (λ m cube k says asks e possible.
        rw asks.1 (ap (λ (c : MaskedLabels). matches c e) asks.0
        ∙ says e possible (whole_at side e possible))) asking wanted

    same_literals : (ms : List Matcher) (ks ls : List Candidate) → AreLiteralsOf ms ks
        → AreSameLiterals ks ls → AreLiteralsOf ms ls
    same_literals ms ks ls literals same =
        zip_through _ _ _ ms ks ls (λ m k l says alike e possible.
        still k l e alike.0 alike.1 ∙ says e possible) literals same
      where
        still : (k l : Candidate) (e : List ℕ) → k.cube ≡ l.cube → k.wanted ≡ l.wanted
            → holds_at e l ≡ holds_at e k
        still k l e cube wanted = rw (cube, wanted) refl

    meets_list : (ms : List Matcher) (ks : List Candidate) → AreLiteralsOf ms ks
        → AreAllNamed ks → (e : List ℕ) → Is e → meets e ks ≡ all_hold (set_at side e) ms
    meets_list [] [] literals named e possible = refl
    meets_list [] (k ∷ ks) literals named e possible = absurd literals
    meets_list (m ∷ ms) [] literals named e possible = absurd literals
    meets_list (m ∷ ms) (k ∷ ks) literals named e possible =
        λ i. (ap (λ b. not b || holds_at e k) named.0 ∙ literals.0 e possible) i
        && meets_list ms ks literals.1 named.1 e possible i

    module _ (ms : List Matcher) (ks : List Candidate) (literals : AreLiteralsOf ms ks) where
      within_side : AreWithin ms (named_of ks)
      within_side =
          AllByRecursion-each (λ i. i < length ms) (named_of ks) (λ i there.
          let k = named_at ks i (Contains-from_IsIn (named_of ks) i there) in
          let r = zip_right IsLiteralOf ms ks i k.0 literals k.1 in slice_get_within ms i r.0 r.1)

      -- what it says of a pair that they are met
      module _ (e : List ℕ) (possible : Is e) where
        asked_at : (i : ℕ) (m : Matcher) (k : Candidate) → slice_get ms i ≡ Some m
            → slice_get ks i ≡ Some k → holds_at e k ≡ condition_holds (set_at side e) m
        asked_at i m k at also =
            let r = zip_right IsLiteralOf ms ks i k literals also in
            r.2 e possible ∙ ap (condition_holds (set_at side e)) (same_Some r.0 m (sym r.1 ∙ at))

        meets_at : meets e ks ≡ true → MeetsAt ms (named_of ks) (set_at side e)
        meets_at met i m there at =
            let k = named_at ks i there in
            sym (asked_at i m k.0 at k.1) ∙ met_at e ks i k.0 met k.1 k.2

        meets_at_but : (n : ℕ) → meets e (without n ks) ≡ true
            → MeetsAtBut ms (named_of ks) n (set_at side e)
        meets_at_but n met i m there other at =
            let k = named_at ks i there in
            sym (asked_at i m k.0 at k.1)
            ∙ met_at e (without n ks) i k.0 met (unchanged_at n i ks other ∙ k.1) k.2

        at_meets : MeetsAt ms (named_of ks) (set_at side e) → meets e ks ≡ true
        at_meets so = each_met e ks (λ i k at named.
            let r = zip_right IsLiteralOf ms ks i k literals at in
            r.2 e possible
            ∙ so i r.0 (named_in ks i k at named) r.1)

  -- ---- The literals of both sides.

  -- the first literals are those of the source side, and the others those of the target side
  abbrev pub AreOfSides : Rule → ℕ → List Candidate → Type 0
  AreOfSides rule n ks =
      AreLiteralsOf First rule.source (take n ks) × AreLiteralsOf Second rule.target (drop n ks)

  module _ (rule : Rule) (n : ℕ) (all : List Candidate) (sides : AreOfSides rule n all) where
    abbrev ks : List Candidate
    ks = take n all

    abbrev ls : List Candidate
    ls = drop n all

    pub sides_match : AreAllNamed ks → AreAllNamed ls → IsMet Is all
        → SomeMeet Meet (Matches rule.source) (Matches rule.target)
    sides_match named also_named (e, possible, met) =
        let parts = parts_met e ks ls (ap (meets e) (take-append-drop n all) ∙ met) in (
          set_at First e,
          set_at Second e,
          sets_meet e possible,
          sym (meets_list First rule.source ks sides.0 named e possible) ∙ parts.0,
          sym (meets_list Second rule.target ls sides.1 also_named e possible) ∙ parts.1,
        )

    contradict : IsReason Is 0 (ks ++ ls) → Contradict Meet rule (named_of ks) (named_of ls)
    contradict reason = record {
      in_source = within_side First rule.source ks sides.0;
      in_target = within_side Second rule.target ls sides.1;
      source_order = named_ascend ks;
      target_order = named_ascend ls;
      enough = λ (x, y, meet, in_source, in_target).
          let r = pair_of x y meet in
          let e = r.0 in
          both_ways (meets e (ks ++ ls)) (reason.enough e r.1)
          (meets_both e ks ls ∙ and_from (meets e ks) (meets e ls)
          (at_meets First rule.source ks sides.0 e r.1 (rw r.2 at in_source))
          (at_meets Second rule.target ls sides.1 e r.1 (rw r.3 at in_target)));
      source_needed = λ i there.
          let k = named_at ks i there in
          let place = without_front i ks ls k.0 k.1 in
          let r = reason.needed i k.0 place.0 (omega arith) k.2 in
          let e = r.0 in
          let parts = parts_met e (without i ks) ls (ap (meets e) (sym place.1) ∙ r.2) in (
            set_at First e,
            set_at Second e,
            sets_meet e r.1,
            meets_at_but First rule.source ks sides.0 e r.1 i parts.0,
            meets_at Second rule.target ls sides.1 e r.1 parts.1,
          );
      target_needed = λ i there.
          let k = named_at ls i there in
          let place = without_rest i ks ls k.0 k.1 in
          let r = reason.needed (length ks + i) k.0 place.0 (omega arith) k.2 in
          let e = r.0 in
          let parts = parts_met e ks (without i ls) (ap (meets e) (sym place.1) ∙ r.2) in (
            set_at First e,
            set_at Second e,
            sets_meet e r.1,
            meets_at First rule.source ks sides.0 e r.1 parts.0,
            meets_at_but Second rule.target ls sides.1 e r.1 i parts.1,
          );
    }

    -- the matchers whose literals are named contradict each other
    why_none : (reason : IdleReason) → IsReason Is 0 all → AreNamedIn n all reason
        → IsWhyNone Meet rule reason
    why_none reason_is.Both is named = absurd named
    why_none (reason_is.Contradiction source target) is named =
        rw (named.0, named.1) (contradict (subst (IsReason Is 0) (sym (take-append-drop n all)) is))

  pub sides_contradict : (rule : Rule) (n : ℕ) (ks named : List Candidate) (reason : IdleReason)
      → AreOfSides rule n ks → AreSameLiterals ks named → IsReason Is 0 named
      → AreNamedIn n named reason → IsWhyNone Meet rule reason
  sides_contradict rule n ks named reason sides same =
      let parts = zip_cut _ n ks named same in
      why_none rule n named (
        same_literals First rule.source (take n ks) (take n named) sides.0 parts.0,
        same_literals Second rule.target (drop n ks) (drop n named) sides.1 parts.1,
      ) reason

  -- ---- What inhibits.

  -- a cube over pairs asks for another of one side
  abbrev Asks : Side → MaskedLabels → MaskedLabels → Type 0
  Asks side cube asked = (e : List ℕ) → Is e → matches asked e ≡ matches cube (side_of pairs side e)

  module _ (rule : Rule) (source target in_source in_target out_first out_second : MaskedLabels)
      (is : IsCubeOf u rule.source source) (also : IsCubeOf u rule.target target)
      (asks : Asks First source in_source) (asks_too : Asks Second target in_target)
      (first_out : Asks First target out_first) (second_out : Asks Second source out_second) where
    says : (side : Side) (ms : List Matcher) (cube asked : MaskedLabels) → IsCubeOf u ms cube
        → Asks side cube asked → (e : List ℕ) → Is e
        → matches asked e ≡ all_hold (set_at side e) ms
    says side ms cube asked exact so e possible =
        let whole = whole_at side e possible in
        so e possible
        ∙ matches_where u (side_of pairs side e) whole ms cube (exact (side_of pairs side e) whole.0)

    -- what is asked of a pair: it matches one side each, and some cube does not match
    abbrev asked : MaskedLabels → List ℕ → Bool
    asked out e = (matches in_source e && (matches in_target e && true)) && (not (matches out e) && true)

    -- a pair inhibits exactly if one of two cubes is spared: that of the target side by the first, or
    -- that of the source side by the second
    abbrev inhibits_at : LabelMap → LabelMap → Bool
    inhibits_at x y =
        (all_hold x rule.source && all_hold y rule.target)
        && not (is_two_sided rule x && is_two_sided rule y)

    spared : (e : List ℕ) → Is e
        → (asked out_first e || asked out_second e) ≡ inhibits_at (set_at First e) (set_at Second e)
    spared e possible =
        let fires = says First rule.source source in_source is asks e possible in
        let mutes = says Second rule.target target in_target also asks_too e possible in
        let out_x = says First rule.target target out_first also first_out e possible in
        let out_y = says Second rule.source source out_second is second_out e possible in
        (λ i. ((fires i && (mutes i && true)) && (not (out_x i) && true))
        || ((fires i && (mutes i && true)) && (not (out_y i) && true)))
        ∙ either (all_hold (set_at First e) rule.source) (all_hold (set_at Second e) rule.target)
        (all_hold (set_at First e) rule.target) (all_hold (set_at Second e) rule.source)
      where
        either : (a b p q : Bool)
            → (((a && (b && true)) && (not p && true)) || ((a && (b && true)) && (not q && true)))
            ≡ ((a && b) && not ((a && p) && (q && b)))
        either true true true true = refl
        either true true true false = refl
        either true true false q = refl
        either true false p q = refl
        either false b p q = refl

    inhibit : (e : List ℕ) → Is e → (asked out_first e || asked out_second e) ≡ true
        → SomeInhibit Meet rule
    inhibit e possible met =
        let both = is_two_sided rule (set_at First e) && is_two_sided rule (set_at Second e) in
        let matched = all_hold (set_at First e) rule.source && all_hold (set_at Second e) rule.target in
        let parts = and_parts matched (not both) (sym (spared e possible) ∙ met) in
        let sides = and_parts (all_hold (set_at First e) rule.source) (all_hold (set_at Second e) rule.target)
        parts.0 in
        (set_at First e, set_at Second e, sets_meet e possible, sides.0, sides.1, not-true both parts.1)

    inhibited : SomeInhibit Meet rule
        → (e : List ℕ) × Is e × ((asked out_first e || asked out_second e) ≡ true)
    inhibited (x, y, meet, fires, mutes, not_both) =
        let r = pair_of x y meet in
        let both = is_two_sided rule x && is_two_sided rule y in (
          r.0,
          r.1,
          spared r.0 r.1 ∙ (λ i. inhibits_at (sym r.2 i) (sym r.3 i))
              ∙ and_from (all_hold x rule.source && all_hold y rule.target) (not both)
              (and_from (all_hold x rule.source) (all_hold y rule.target) fires mutes)
              (ap not not_both),
        )

    -- what the two searches find
    pub first_spared : (found : Option (List (List Bool)))
        → IfSome found (AreFound Is (asked out_first)) → is_some found ≡ true
        → SomeInhibit Meet rule
    first_spared None so some = absurd (cc)
    first_spared (Some b) so some =
        let r = one_found Is (asked out_first) b so in
        inhibit r.0 r.1 (or_left (asked out_first r.0) (asked out_second r.0) r.2)

    pub second_spared : ((e : List ℕ) → Is e → asked out_first e ≡ false)
        → (found : Option (List (List Bool))) → IfSome found (AreFound Is (asked out_second))
        → IfNone found ((e : List ℕ) → Is e → asked out_second e ≡ false)
        → is_some found ≡ true ↔ SomeInhibit Meet rule
    second_spared none_first (Some b) so none = (
      λ some.
          let r = one_found Is (asked out_second) b so in
          inhibit r.0 r.1 (or_right (asked out_first r.0) (asked out_second r.0) r.2),
      λ two. refl,
    )
    second_spared none_first None so none = (
      λ some. absurd (cc),
      λ two.
          let r = inhibited two in
          absurd (both_ways (asked out_first r.0 || asked out_second r.0)
          (or_from (asked out_first r.0) (asked out_second r.0) (none_first r.0 r.1)
          (none r.0 r.1)) r.2),
    )

-- ---- What follows.

pub none_if : {X : Type 0} (o : Option X) (P : Type 0) → IfNone o P → is_some o ≡ false → P
none_if None P h is = h
none_if (Some x) P h is = absurd (cc)

-- ---- Names.

pub names_found : (v : List Label) (names : List (String Global))
    → filter_map (λ name. label_position v (string_bytes name)) names
    ≡ labels_named v (names_of names)
names_found v [] = refl
names_found v (name ∷ names) =
    ap (cons_option (label_position v (string_bytes name))) (names_found v names)
