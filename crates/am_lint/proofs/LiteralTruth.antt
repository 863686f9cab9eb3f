-- What literals say of the label set of a choice, and what a search for a choice that meets them
-- finds.
use Rattle.std.proofs.Common.{◌≡◌, ◌↔◌, ℕ, List, [], ◌++◌, Bool, true, false, not}
use Rattle.std.proofs.Common.{cond, ◌&&◌, Option, Some, None, refl, sym, ap, ◌∙◌, subst}
use Rattle.std.proofs.Common.{IsTrue, ◌∷◌}
use Rattle.std.specs.Prelude.{⊤}
use Rattle.std.specs.List.{AllByRecursion, filter, find}
use Rattle.std.proofs.lemmas.Bool.{and_parts, and_from, both_ways, not-true}
use Rattle.std.proofs.lemmas.List.Folds.{list_all-append}
use Rattle.std.proofs.lemmas.Option.{same_Some}
use Rattle.am_universe.proofs.ListLemmas.{IsIn, IsIn-map, IsIn-unmap, AllByRecursion-at}
use Rattle.am_universe.proofs.ListLemmas.{AllByRecursion-each}
use Rattle.am_universe.proofs.Members.{in_at}
use Rattle.am_universe.specs.LabelSet.{label_set_of, LabelMap}
use Rattle.am_labels.specs.Matcher.{all_hold}
use Rattle.am_labels.specs.Space.{Space, IsChoiceOf, all_choices}
use Rattle.am_labels.proofs.Passing.{kept_from_passes}
use Rattle.am_config.specs.ConfigFile.{RouteTree, Configuration, continues_of, matchers_of}
use Rattle.am_config.specs.Path.{route_at}
use Rattle.am_eval.proofs.ListTests.{all_exactly}
use Rattle.am_first_sets.proofs.CubeTruth.{matches_where as cube_says}
use Rattle.am_first_sets.proofs.FirstPossible.{found_of_space, found_passes, none_passes}
use Rattle.am_first_sets.specs.declared.candidate.Candidate.{Candidate}
use Rattle.am_first_sets.specs.Reason.{AreNamedBefore}
use Rattle.am_first_sets.specs.Literals.{holds_at, hold_all, meets, IsUnmet}
use Rattle.am_judged_lists.specs.Cube.{matches}
use Rattle.am_lint.specs.declared.literals.Part.{Part}
use Rattle.am_lint.specs.declared.table.TableRoute.{TableRoute}
use Rattle.am_lint.specs.Table.{IsTableOf}
use Rattle.am_lint.specs.Literals.{is_wanted, stands_in, has_route, path_if_any, path_of, IsAbout}
use Rattle.am_lint.specs.Literals.{AddsPart}
use Rattle.am_eval.specs.Reaching.{NoneIs, IsSetOf}
use Rattle.am_lint.specs.Arrival.{IsSeenBy}
use Rattle.am_lint.proofs.TableLemmas.{its_route, its_place}
use Rattle.am_lint.proofs.EnteringLemmas.{Meets}

-- ---- Literals that say of a choice what its label set has.

-- a choice meets all of them exactly if its label set has the property
abbrev pub AreSaying : Space → List Candidate → (LabelMap → Type 0) → Type 0
AreSaying s ks Is =
    (choice : List ℕ) → IsChoiceOf s choice
    → (hold_all choice ks ≡ true) ↔ Is (label_set_of s.labels choice)

abbrev AreNamed : List Candidate → Type 0
AreNamed ks = AllByRecursion (λ k. IsTrue k.named) ks

meets_all : (choice : List ℕ) (ks : List Candidate) → AreNamed ks
    → meets choice ks ≡ hold_all choice ks
meets_all choice [] named = refl
meets_all choice (k ∷ ks) named =
    rw (named.0) (ap (λ b. holds_at choice k && b) (meets_all choice ks named.1))

-- ---- The literals of a part.

told : (wanted b : Bool) → (cond wanted b (not b) ≡ true) ↔ (b ≡ wanted)
told true b = (λ h. h, λ h. h)
told false b = (not-true b, λ h. ap not h)

module _ (s : Space) (c : Configuration) (routes : List TableRoute)
    (known : IsTableOf s.labels c routes) (path : List ℕ) (part : Part) where
  -- the route that a literal is about
  pub record IsSaying (k : Candidate) : Type 0 where
    pub tree : RouteTree
    pub at : route_at c.root (path_of routes k) ≡ Some tree
    pub stands : IsTrue (stands_in part path (path_of routes k) (continues_of tree))
    pub says : (choice : List ℕ) → IsChoiceOf s choice → (holds_at choice k ≡ true)
        ↔ (all_hold (label_set_of s.labels choice) (matchers_of tree) ≡ is_wanted part)

  pub saying : (k : Candidate) → IsAbout routes part path k → IsSaying k
  saying k about =
      let own = its_route s.labels c routes known k.tag about.0 about.1 in
      let tree = own.0.1 in
      let same : path_of routes k ≡ about.0.path = ap path_if_any about.1 in
      record {
        tree = tree;
        at = ap (route_at c.root) (same ∙ own.2.0) ∙ own.1;
        stands = ap (λ q. stands_in part path q (continues_of tree)) same
            ∙ ap (stands_in part path about.0.path) (sym own.2.1) ∙ about.2;
        says = λ choice possible.
            let holds = all_hold (label_set_of s.labels choice) (matchers_of tree) in
            let is : matches k.cube.now choice ≡ holds =
            ap (λ cube. matches cube choice) about.3
            ∙ cube_says s.labels choice possible.0 (matchers_of tree) about.0.cube
            (own.2.2 choice possible.0.0) in
            let t = told (is_wanted part) holds in
            let same : holds_at choice k ≡ cond (is_wanted part) holds (not holds) =
            λ i. cond (about.4 i) (is i) (not (is i)) in
            (λ h. t.0 (sym same ∙ h), λ h. same ∙ t.1 h);
      }

  module _ (old new : List Candidate) (adds : AddsPart routes part path routes old new) where
    pub about_each : (k : Candidate) → IsIn adds.more k → IsAbout routes part path k
    about_each k there =
        AllByRecursion-at (IsAbout routes part path) adds.more k adds.each there

    -- the literal about a route of the part, and what it says if it is true
    pub its_literal : (q : List ℕ) (u : RouteTree) → route_at c.root q ≡ Some u
        → IsTrue (stands_in part path q (continues_of u))
        → (k : Candidate) × IsIn adds.more k × (path_of routes k ≡ q)
    its_literal q u at stands =
        let place = its_place s.labels c routes known q u at in
        let has : IsTrue (has_route part path place.0) =
        (λ i. stands_in part path (place.2.0 i) (place.2.1 i)) ∙ stands in
        let among = subst (λ (qs : List (List ℕ)). IsIn qs place.0.path) (sym adds.paths)
        (IsIn-map (λ (r : TableRoute). r.path) (filter (has_route part path) routes) place.0
        (kept_from_passes (has_route part path) routes place.0 place.1 has)) in
        let k = IsIn-unmap (path_of routes) adds.more place.0.path among in
        (k.0, k.1, k.2 ∙ place.2.0)

    pub its_truth : (choice : List ℕ) → IsChoiceOf s choice → (k : Candidate) → IsIn adds.more k
        → (u : RouteTree) → route_at c.root (path_of routes k) ≡ Some u
        → holds_at choice k ≡ true
        → all_hold (label_set_of s.labels choice) (matchers_of u) ≡ is_wanted part
    its_truth choice possible k there u at holds =
        let of = saying k (about_each k there) in
        ap (λ (v : RouteTree). all_hold (label_set_of s.labels choice) (matchers_of v))
        (sym (same_Some of.tree u (sym of.at ∙ at)))
        ∙ (of.says choice possible).0 holds

    -- a choice meets them exactly if its label set meets what the part asks
    pub part_said : AreSaying s adds.more (λ set. Meets set c.root path part)
    part_said choice possible =
        let each = all_exactly (holds_at choice) (λ k. holds_at choice k ≡ true)
        (λ k. (λ h. h, λ h. h)) adds.more in (
          λ h q u at stands.
              let k = its_literal q u at stands in
              its_truth choice possible k.0 k.1 u (ap (route_at c.root) k.2 ∙ at)
              (AllByRecursion-at (λ l. holds_at choice l ≡ true) adds.more k.0 (each.0 h) k.1),
          λ m. each.1 (AllByRecursion-each (λ k. holds_at choice k ≡ true) adds.more (λ k there.
              let of = saying k (about_each k there) in
              (of.says choice possible).1 (m (path_of routes k) of.tree of.at of.stands))),
        )

-- ---- Literals of several parts.

-- literals that are named, and that say of a choice what its label set has
pub record AreFront (s : Space) (ks : List Candidate) (Is : LabelMap → Type 0) : Type 0 where
  pub say : AreSaying s ks Is
  pub named : AreNamed ks

all_and : {X : Type 0} (P : X → Type 0) (xs ys : List X) → AllByRecursion P xs
    → AllByRecursion P ys → AllByRecursion P (xs ++ ys)
all_and P [] ys all more = more
all_and P (x ∷ xs) ys all more = (all.0, all_and P xs ys all.1 more)

pub nothing_said : (s : Space) → AreFront s [] (λ set. ⊤)
nothing_said s = record { say = λ choice possible. (λ h. tt, λ h. refl); named = tt }

pub more_said : (s : Space) (c : Configuration) (routes : List TableRoute)
    (known : IsTableOf s.labels c routes) (path : List ℕ) (part : Part)
    (old new : List Candidate) (adds : AddsPart routes part path routes old new)
    (First Is : LabelMap → Type 0) → AreFront s old First
    → ((set : LabelMap) → (First set × Meets set c.root path part) ↔ Is set)
    → AreFront s new Is
more_said s c routes known path part old new adds First Is front both =
    let about = about_each s c routes known path part old new adds in
    subst (λ (ks : List Candidate). AreFront s ks Is) (sym adds.adds) (record {
      say = λ choice possible.
          let set = label_set_of s.labels choice in
          let one = front.say choice possible in
          let other = part_said s c routes known path part old new adds choice possible in
          let joined = list_all-append (holds_at choice) old adds.more in (
            λ h.
                let parts = and_parts (hold_all choice old) (hold_all choice adds.more)
                (sym joined ∙ h) in
                (both set).0 (one.0 parts.0, other.0 parts.1),
            λ is.
                let h = (both set).1 is in
                joined ∙ and_from (hold_all choice old) (hold_all choice adds.more) (one.1 h.0)
                (other.1 h.1),
          );
      named = all_and (λ k. IsTrue k.named) old adds.more front.named
          (AllByRecursion-each (λ k. IsTrue k.named) adds.more (λ k there. (about k there).5));
    })

-- ---- What a search for a choice that meets them finds.

module _ (s : Space) (ks : List Candidate) (Is : LabelMap → Type 0) (front : AreFront s ks Is)
    (found : Option (List ℕ))
    (first : found ≡ find (λ d. meets d ks) (all_choices s)) where
  pub seen : (choice : List ℕ) → found ≡ Some choice → IsSeenBy s.labels (IsSetOf s) Is choice
  seen choice is =
      let possible : IsChoiceOf s choice =
      found_of_space s (λ d. meets d ks) (Some choice) (sym is ∙ first) in
      let met = found_passes s (λ d. meets d ks) found choice first is in (
        possible.0,
        (choice, possible, refl),
        (front.say choice possible).0 (sym (meets_all choice ks front.named) ∙ met),
      )

  pub none_met : found ≡ None → IsUnmet (IsChoiceOf s) ks
  none_met none d possible = none_passes s (λ d. meets d ks) (sym none ∙ first) d possible

  pub none_seen : found ≡ None → NoneIs (IsSetOf s) Is
  none_seen none set occurs is =
      both_ways (meets occurs.0 ks)
      (none_met none occurs.0 occurs.1)
      (meets_all occurs.0 ks front.named
      ∙ (front.say occurs.0 occurs.1).1 (subst Is occurs.2 is))

pub all_named : (s : Space) (ks : List Candidate) (Is : LabelMap → Type 0) (n : ℕ)
    → AreFront s ks Is → AreNamedBefore n ks
all_named s ks Is n front i k at lt =
    AllByRecursion-at (λ (l : Candidate). IsTrue l.named) ks k front.named (in_at ks i k at)
