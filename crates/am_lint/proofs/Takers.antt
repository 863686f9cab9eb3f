-- Each route that is named as one that takes alerts is entered by an alert that gets that far: one
-- that meets all literals before its own, and not its own.
use Rattle.std.proofs.Common.{◌≡◌, ◌⊎◌, inl, inr, ◌≤◌, ℕ, zero, suc, List, [], ◌∷◌, ◌++◌, length, map}
use Rattle.std.proofs.Common.{take, drop, Some, Bool, true, false, not, ◌&&◌, refl, sym, ap, subst, ◌∙◌}
use Rattle.std.proofs.Common.{slice_get, IsTrue, arith, add-one}
use Rattle.std.specs.Ordering.{nat_cmp, ordering_reverse}
use Rattle.std.specs.declared.cmp.Ordering.TheVariants.{Less, Greater}
use Rattle.std.specs.Cmp.Lexicographic.{slice_cmp, nat_list_cmp_total}
use Rattle.std.specs.List.Sorted.{IsStrictlySortedBy}
use Rattle.std.proofs.lemmas.Bool.{both_ways, and_parts, and_from, false≢true, true_from_ne_false}
use Rattle.std.proofs.lemmas.Option.{same_Some}
use Rattle.am_universe.proofs.ListLemmas.{IsIn, IsIn-map, AllByRecursion-at, AllByRecursion-each}
use Rattle.am_universe.proofs.Members.{in_at}
use Rattle.am_universe.specs.LabelSet.{label_set_of, LabelMap}
use Rattle.am_labels.specs.Matcher.{all_hold}
use Rattle.am_labels.specs.Space.{Space, IsChoiceOf}
use Rattle.am_complete.proofs.Pushed.{zip_right as right_at}
use Rattle.am_config.specs.ConfigFile.{Configuration, RouteTree, continues_of, matchers_of}
use Rattle.am_config.specs.Path.{leads_through, route_at}
use Rattle.am_first_sets.specs.declared.candidate.Candidate.{Candidate}
use Rattle.am_first_sets.specs.Literals.{holds_at, hold_all}
use Rattle.am_first_sets.proofs.ReasonLemmas.{front_alike}
use Rattle.am_eval.specs.Reaching.{Enters, SomeIs, IsSetOf}
use Rattle.am_lint.specs.declared.literals.Part.{Part}
use Rattle.am_lint.specs.declared.literals.Part.TheVariants.{Before, Children}
use Rattle.am_lint.specs.declared.table.TableRoute.{TableRoute}
use Rattle.am_lint.specs.Places.{stands_before}
use Rattle.am_lint.specs.Table.{IsTableOf}
use Rattle.am_lint.specs.Literals.{is_wanted, stands_in, path_if_any, path_of, AddsPart}
use Rattle.am_lint.specs.Literals.{named_paths, AreTakers}
use Rattle.am_lint.specs.Reasons.{Matches, MatchesWay, EachTakesSome}
use Rattle.am_lint.proofs.EnteringLemmas.{entered, enters_exactly}
use Rattle.am_lint.proofs.LiteralTruth.{AreSaying, saying, about_each, its_literal, its_truth}
use Rattle.am_lint.proofs.NamedReasons.{behind, blamed_at}
use Rattle.am_lint.proofs.PathOrder.{Ascend, part_ascends}
use Rattle.am_lint.proofs.PlaceSteps.{before_below, child_below, before_through, child_before}
use Rattle.am_lint.proofs.PlaceSteps.{before_less}

-- ---- The first literal that a choice fails.

rest_false : (a b : Bool) → a ≡ true → (a && b) ≡ false → b ≡ false
rest_false true b e f = f
rest_false false b e f = absurd (false≢true e)

front_false : (b : Bool) → (b && true) ≡ false → b ≡ false
front_false true f = f
front_false false f = refl

-- if it is behind some literals, the choice meets these, and those between them and it
split_fails : (d : List ℕ) (old more : List Candidate) (i : ℕ) (k : Candidate) → length old ≤ i
    → slice_get (old ++ more) i ≡ Some k → hold_all d (take i (old ++ more)) ≡ true
    → hold_all d (take (suc i) (old ++ more)) ≡ false
    → (hold_all d old ≡ true) × (j : ℕ) × (slice_get more j ≡ Some k)
    × (hold_all d (take j more) ≡ true) × (holds_at d k ≡ false)
split_fails d (x ∷ old) more zero k le at front stop = absurd (omega (arith, le))
split_fails d (x ∷ old) more (suc i) k le at front stop =
    let parts = and_parts (holds_at d x) (hold_all d (take i (old ++ more))) front in
    let r = split_fails d old more i k (omega (arith, le)) at parts.1
    (rest_false (holds_at d x) (hold_all d (take (suc i) (old ++ more))) parts.0 stop) in
    (and_from (holds_at d x) (hold_all d old) parts.0 r.0, r.1, r.2, r.3, r.4)
split_fails d [] [] i k le at front stop = absurd (cc)
split_fails d [] (x ∷ more) zero k le at front stop =
    (refl, 0, at, refl, ap (holds_at d) (sym (same_Some x k at)) ∙ front_false (holds_at d x) stop)
split_fails d [] (x ∷ more) (suc i) k le at front stop =
    let parts = and_parts (holds_at d x) (hold_all d (take i more)) front in
    let r = split_fails d [] more i k (omega arith) at parts.1
    (rest_false (holds_at d x) (hold_all d (take (suc i) more)) parts.0 stop) in
    (refl, suc r.1, r.2, and_from (holds_at d x) (hold_all d (take r.1 more)) parts.0 r.3, r.4)

not_both : (p q : List ℕ) → slice_cmp nat_cmp p q ≡ Less → slice_cmp nat_cmp q p ≡ Less → ⊥
not_both p q less more =
    let same : Less ≡ Greater =
    sym less ∙ nat_list_cmp_total.antisymm p q ∙ ap ordering_reverse more in cc

-- it meets each literal whose path comes before that of the first one that it fails
before_holds : (d : List ℕ) (f : Candidate → List ℕ) (ks : List Candidate) (j : ℕ)
    (k l : Candidate) → Ascend (map f ks) → slice_get ks j ≡ Some k
    → hold_all d (take j ks) ≡ true → IsIn ks l → slice_cmp nat_cmp (f l) (f k) ≡ Less
    → holds_at d l ≡ true
unfolding IsStrictlySortedBy
before_holds d f [] j k l up at front there less = absurd there
before_holds d f (x ∷ ks) zero k l up at front (inl same) less =
    let is : f l ≡ f k = ap f (sym same ∙ same_Some x k at) in
    absurd (not_both (f l) (f k) less (subst (λ q. slice_cmp nat_cmp q (f l) ≡ Less) is
    (subst (λ q. slice_cmp nat_cmp (f l) q ≡ Less) (sym is) less)))
before_holds d f (x ∷ ks) zero k l up at front (inr later) less =
    absurd (not_both (f l) (f k) less (subst (λ q. slice_cmp nat_cmp q (f l) ≡ Less)
    (ap f (same_Some x k at))
    (AllByRecursion-at (λ y. slice_cmp nat_cmp (f x) y ≡ Less) (map f ks) (f l) up.0
    (IsIn-map f ks l later))))
before_holds d f (x ∷ ks) (suc j) k l up at front (inl same) less =
    ap (holds_at d) (sym same) ∙ (and_parts (holds_at d x) (hold_all d (take j ks)) front).0
before_holds d f (x ∷ ks) (suc j) k l up at front (inr later) less =
    before_holds d f ks j k l up.1 at
    (and_parts (holds_at d x) (hold_all d (take j ks)) front).1 later less

-- ---- Earlier siblings and children take alerts.

-- an alert gets far enough if it matches the way to a route of the part, and no route that would
-- take it before
pub record IsTaking (c : Configuration) (path : List ℕ) (part : Part) (First : LabelMap → Type 0)
    : Type 0 where
  pub unwanted : is_wanted part ≡ false
  pub way : (set : LabelMap) → First set → MatchesWay c path set
  pub below : (q r : List ℕ) (continues : Bool) → IsTrue (stands_in part path q continues)
      → IsTrue (leads_through r q) → (r ≡ q) ⊎ IsTrue (leads_through r path)
  pub earlier : (set : LabelMap) → First set → (q o : List ℕ) (continues : Bool) (u : RouteTree)
      → IsTrue (stands_in part path q continues) → route_at c.root o ≡ Some u
      → IsTrue (stands_in Before q o (continues_of u))
      → (all_hold set (matchers_of u) ≡ false) ⊎ IsTrue (stands_in part path o (continues_of u))

pub before_taking : (c : Configuration) (path : List ℕ)
    → IsTaking c path Before (MatchesWay c path)
before_taking c path = record {
  unwanted = refl;
  way = λ set first. first;
  below = λ q r continues stands leads.
      before_below path q r (and_parts (not continues) (stands_before path q) stands).1 leads;
  earlier = λ set first q o continues u stands there before.
      let other = and_parts (not (continues_of u)) (stands_before q o) before in
      inr (and_from (not (continues_of u)) (stands_before path o) other.0 (before_through path q o
      (and_parts (not continues) (stands_before path q) stands).1 other.1));
}

pub children_taking : (c : Configuration) (path : List ℕ)
    → IsTaking c path Children (Enters c path)
children_taking c path = record {
  unwanted = refl;
  way = λ set first. (entered c path set first).0;
  below = λ q r continues stands leads. child_below path q r stands leads;
  earlier = λ set first q o continues u stands there before.
      let other = and_parts (not (continues_of u)) (stands_before q o) before in
      elim (child_before path q o stands other.1) [
        | inl child ↦ inr child
        | inr early ↦
            inl ((entered c path set first).1 o u there
            (and_from (not (continues_of u)) (stands_before path o) other.0 early))
      ];
}

module _ (s : Space) (c : Configuration) (routes : List TableRoute)
    (known : IsTableOf s.labels c routes) (path : List ℕ) (part : Part) (old new : List Candidate)
    (adds : AddsPart routes part path routes old new) (First : LabelMap → Type 0)
    (say : AreSaying s old First) (taking : IsTaking c path part First) where
  takes : (d : List ℕ) → IsChoiceOf s d → First (label_set_of s.labels d) → (j : ℕ)
      (k : Candidate) → slice_get adds.more j ≡ Some k → hold_all d (take j adds.more) ≡ true
      → holds_at d k ≡ false → Enters c (path_of routes k) (label_set_of s.labels d)
  takes d possible first j k at front fails =
      let set = label_set_of s.labels d in
      let q = path_of routes k in
      let of = saying s c routes known path part k
      (about_each s c routes known path part old new adds k (in_at adds.more j k at)) in
      let matched : all_hold set (matchers_of of.tree) ≡ true =
      true_from_ne_false (all_hold set (matchers_of of.tree)) (λ none.
      both_ways (holds_at d k) fails ((of.says d possible).1 (none ∙ sym taking.unwanted))) in
      (enters_exactly c q set (of.tree, of.at)).0 (
        λ r leads. elim (taking.below q r (continues_of of.tree) of.stands leads) [
          | inl same ↦ subst (λ p. Matches c p set) (sym same) (of.tree, of.at, matched)
          | inr up ↦ taking.way set first r up
        ],
        λ o u there before.
            elim (taking.earlier set first q o (continues_of of.tree) u of.stands there before) [
              | inl none ↦ none
              | inr stands ↦
                  let l = its_literal s c routes known path part old new adds o u there stands in
                  let less = before_less q o
                  (and_parts (not (continues_of u)) (stands_before q o) before).1 in
                  its_truth s c routes known path part old new adds d possible l.0 l.1 u
                  (ap (route_at c.root) l.2 ∙ there)
                  (before_holds d (path_of routes) adds.more j k l.0
                  (part_ascends s.labels c routes known part path old new adds) at front l.1
                  (subst (λ p. slice_cmp nat_cmp p q ≡ Less) (sym l.2) less))
                  ∙ taking.unwanted
            ],
      )

  pub each_takes : (paths : List (List ℕ)) → AreTakers s routes (length old) new paths
      → EachTakesSome (IsSetOf s) c First paths
  each_takes paths found =
      let ks = found.0.0 in
      let same = found.0.1 in
      let blamed = named_paths routes (drop (length old) ks) in
      subst (EachTakesSome (IsSetOf s) c First) (sym found.0.3) (AllByRecursion-each
      (λ q. SomeIs (IsSetOf s) (λ set. First set × Enters c q set)) blamed (λ q among.
      let l = blamed_at routes (length old) ks q among in
      let place = behind (length old) ks l.0 l.1 in
      let i = place.0 in
      let f = found.1 i l.0 place.1 place.2 l.2 in
      let d = f.0 in
      let m = right_at _ new ks i l.0 same place.1 in
      let r = split_fails d old adds.more i m.0 place.2
      (ap (λ xs. slice_get xs i) (sym adds.adds) ∙ m.1)
      (ap (λ xs. hold_all d (take i xs)) (sym adds.adds) ∙ front_alike d i new ks same ∙ f.2)
      (ap (λ xs. hold_all d (take (suc i) xs)) (sym adds.adds) ∙ front_alike d (suc i) new ks same
      ∙ subst (λ n. hold_all d (take n ks) ≡ false) (add-one i) f.3) in
      let first = (say d f.1).0 r.0 in
      let path_same : path_of routes m.0 ≡ q =
      ap (λ tag. path_if_any (slice_get routes tag)) m.2.2 ∙ l.3 in (
        label_set_of s.labels d,
        (d, f.1, refl),
        (
          first,
          subst (λ p. Enters c p (label_set_of s.labels d)) path_same
              (takes d f.1 first r.1 m.0 r.2 r.3 r.4),
        ),
      )))
