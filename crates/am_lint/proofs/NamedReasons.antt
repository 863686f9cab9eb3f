-- The routes whose literals are named are a reason.
use Rattle.std.proofs.Common.{◌≡◌, ◌↔◌, ◌≤◌, ◌-◌, ℕ, zero, suc, List, [], ◌∷◌, length, drop}
use Rattle.std.proofs.Common.{map, take, Some, Bor, Bool, true, false, not, ◌||◌, cond, refl, sym, ap}
use Rattle.std.proofs.Common.{◌∙◌, subst, slice_get, IsTrue, inl, inr, arith, length-drop}
use Rattle.std.specs.List.{AllByRecursion, filter}
use Rattle.std.proofs.lemmas.Bool.{both_ways, and_parts, and_from, cases_Bool, not-true}
use Rattle.std.proofs.lemmas.Bool.{false_from_ne_true}
use Rattle.std.proofs.lemmas.List.{take_at, take_all, drop_at}
use Rattle.std.proofs.lemmas.Option.{same_Some}
use Rattle.am_universe.proofs.ListLemmas.{IsIn, IsIn-from_Contains, IsIn-map, IsIn-unmap}
use Rattle.am_universe.proofs.ListLemmas.{AllByRecursion-at, AllByRecursion-each}
use Rattle.am_universe.proofs.ListLemmas.{Contains-from_IsIn}
use Rattle.am_universe.proofs.Members.{at_in}
use Rattle.am_universe.specs.LabelSet.{label_set_of, LabelMap}
use Rattle.am_labels.specs.Matcher.{all_hold}
use Rattle.am_labels.specs.Space.{Space, IsChoiceOf}
use Rattle.am_labels.proofs.Passing.{passes_from_kept, kept_from_passes}
use Rattle.am_config.specs.ConfigFile.{Configuration, RouteTree, continues_of, matchers_of}
use Rattle.am_config.specs.Path.{leads_through, route_at}
use Rattle.am_first_sets.specs.declared.candidate.Candidate.{Candidate}
use Rattle.am_first_sets.specs.Literals.{holds_at, hold_all, meets}
use Rattle.am_first_sets.specs.Reason.{AreSameLiterals, AreNamedBefore, without, IsReason}
use Rattle.am_first_sets.proofs.ReasonLemmas.{front_alike, met_at}
use Rattle.am_judged_lists.specs.Cube.{MaskedLabels, matches}
use Rattle.am_lint.specs.declared.literals.Part.{Part}
use Rattle.am_lint.specs.declared.literals.Part.TheVariants.{Way, Before, Children}
use Rattle.am_lint.specs.declared.table.TableRoute.{TableRoute}
use Rattle.am_lint.specs.Places.{stands_before, is_child_of}
use Rattle.am_lint.specs.Table.{IsTableOf}
use Rattle.am_lint.specs.Literals.{is_wanted, stands_in, path_if_any, path_of, IsAbout, AddsPart}
use Rattle.am_lint.specs.Literals.{named_paths, AreBlamed}
use Rattle.am_eval.specs.Reaching.{IsSetOf}
use Rattle.am_lint.specs.Reasons.{IsReasonWhy, Matches, Misses, LacksContinue}
use Rattle.am_lint.proofs.LiteralTruth.{AreSaying, saying}
use Rattle.am_lint.proofs.PathOrder.{Ascend, kept_ascend, part_ascends, paths_alike}

-- ---- Lists of literals, of which the first `n` are given.

pub behind : {X : Type 0} (n : ℕ) (xs : List X) (x : X) → IsIn (drop n xs) x
    → (i : ℕ) × (slice_get xs i ≡ Some x) × (n ≤ i)
behind zero xs x there = let r = at_in xs x there in (r.0, r.1, omega arith)
behind (suc n) [] x there = absurd there
behind (suc n) (y ∷ xs) x there =
    let r = behind n xs x there in (suc r.0, r.1, omega (arith, r.2))

-- what `&literals[n..]` has
pub left : (n : ℕ) (ks : List Candidate) → take (length ks - n) (drop n ks) ≡ drop n ks
left n ks = take_all (length ks - n) (drop n ks) (omega (arith, length-drop n ks))

-- all named literals are met if the first ones are and the named ones behind them
all_met : (choice : List ℕ) (n : ℕ) (ks : List Candidate) → hold_all choice (take n ks) ≡ true
    → ((k : Candidate) → IsIn (drop n ks) k → IsTrue k.named → holds_at choice k ≡ true)
    → meets choice ks ≡ true
all_met choice zero [] first rest = refl
all_met choice (suc n) [] first rest = refl
all_met choice zero (k ∷ ks) first rest =
    and_from (not k.named || holds_at choice k) (meets choice ks) (elim (cases_Bool k.named) [
      | inl named ↦ rw (named, rest k (inl refl) named) refl
      | inr unnamed ↦ rw unnamed refl
    ]) (all_met choice zero ks first (λ l there. rest l (inr there)))
all_met choice (suc n) (k ∷ ks) first rest =
    let parts = and_parts (holds_at choice k) (hold_all choice (take n ks)) first in
    and_from (not k.named || holds_at choice k) (meets choice ks) (elim (cases_Bool k.named) [
      | inl named ↦ rw (named, parts.0) refl
      | inr unnamed ↦ rw unnamed refl
    ]) (all_met choice n ks parts.1 rest)

-- if the named ones are met without one of them behind the first ones, the first ones are met, and
-- the others are the same
first_met : (choice : List ℕ) (n i : ℕ) (ks : List Candidate) → n ≤ i → AreNamedBefore n ks
    → meets choice (without i ks) ≡ true → hold_all choice (take n ks) ≡ true
first_met choice zero i ks le named met = refl
first_met choice (suc n) i [] le named met = refl
first_met choice (suc n) zero (k ∷ ks) le named met = absurd (omega (arith, le))
first_met choice (suc n) (suc i) (k ∷ ks) le named met =
    and_from (holds_at choice k) (hold_all choice (take n ks))
    (met_at choice (k ∷ without i ks) 0 k met refl (named 0 k refl (omega arith)))
    (first_met choice n i ks (omega (arith, le))
    (λ j l at lt. named (suc j) l at (omega (arith, lt)))
    (and_parts (not k.named || holds_at choice k) (meets choice (without i ks)) met).1)

others : (i j : ℕ) (ks : List Candidate) → (i ≡ j → ⊥)
    → slice_get (without i ks) j ≡ slice_get ks j
others i j [] other = refl
others zero zero (k ∷ ks) other = absurd (other refl)
others zero (suc j) (k ∷ ks) other = refl
others (suc i) zero (k ∷ ks) other = refl
others (suc i) (suc j) (k ∷ ks) other = others i j ks (λ same. other (ap suc same))

-- ---- The same literals, whichever of them are named.

rest_alike : (P : Candidate → Type 0)
    → ((k l : Candidate) → k.cube ≡ l.cube → k.wanted ≡ l.wanted → k.tag ≡ l.tag → P k → P l)
    → (n : ℕ) (ks ls : List Candidate) → AreSameLiterals ks ls → AllByRecursion P (drop n ks)
    → AllByRecursion P (drop n ls)
rest_alike P alike zero [] [] same all = tt
rest_alike P alike zero (k ∷ ks) (l ∷ ls) same all =
    (alike k l same.0.0 same.0.1 same.0.2 all.0, rest_alike P alike zero ks ls same.1 all.1)
rest_alike P alike (suc n) [] [] same all = tt
rest_alike P alike (suc n) (k ∷ ks) (l ∷ ls) same all = rest_alike P alike n ks ls same.1 all
rest_alike P alike n ks ls same all = absurd same

-- ---- The reason.

-- the literal of a route that is to blame
pub blamed_at : (routes : List TableRoute) (n : ℕ) (ks : List Candidate) (q : List ℕ)
    → IsIn (named_paths routes (drop n ks)) q
    → (k : Candidate) × IsIn (drop n ks) k × IsTrue k.named × (path_of routes k ≡ q)
blamed_at routes n ks q there =
    let r = IsIn-unmap (path_of routes) (filter (λ k. k.named) (drop n ks)) q there in
    let kept = passes_from_kept (λ k. k.named) (drop n ks) r.0 r.1 in
    (r.0, kept.0, kept.1, r.2)

module _ (s : Space) (routes : List TableRoute) (IsOfKind : List ℕ → Type 0)
    (First : LabelMap → Type 0) (Does : List ℕ → LabelMap → Type 0) where
  -- a literal is about a route of a kind, and true where the label set does something there
  abbrev pub IsAsked : Candidate → Type 0
  IsAsked k =
      IsOfKind (path_of routes k)
      × ((choice : List ℕ) → IsChoiceOf s choice
      → (holds_at choice k ≡ true) ↔ Does (path_of routes k) (label_set_of s.labels choice))

  asked_alike : (k l : Candidate) → k.cube ≡ l.cube → k.wanted ≡ l.wanted → k.tag ≡ l.tag
      → IsAsked k → IsAsked l
  asked_alike k l cube wanted tag asked =
      let At : Bor MaskedLabels × Bool × ℕ → Type 0 =
      λ t. IsOfKind (path_if_any (slice_get routes t.2))
      × ((choice : List ℕ) → IsChoiceOf s choice
      → (cond t.1 (matches t.0.now choice) (not (matches t.0.now choice)) ≡ true)
      ↔ Does (path_if_any (slice_get routes t.2)) (label_set_of s.labels choice)) in
      subst At (λ i. (cube i, wanted i, tag i)) asked

  module _ (n : ℕ) (all ks : List Candidate) (same : AreSameLiterals all ks)
      (reason : IsReason (IsChoiceOf s) n ks) (say : AreSaying s (take n all) First)
      (rest : AllByRecursion IsAsked (drop n all))
      (ascend : Ascend (map (path_of routes) (drop n all))) where
    abbrev blamed : List (List ℕ)
    blamed = named_paths routes (drop n ks)

    asked : (k : Candidate) → IsIn (drop n ks) k → IsAsked k
    asked k there =
        AllByRecursion-at IsAsked (drop n ks) k (rest_alike IsAsked asked_alike n all ks same rest)
        there

    is_reason : IsReasonWhy (IsSetOf s) IsOfKind First Does blamed
    is_reason = record {
      kind = AllByRecursion-each IsOfKind blamed (λ q there.
          let l = blamed_at routes n ks q there in subst IsOfKind l.3 (asked l.0 l.1).0);
      ordered = kept_ascend (path_of routes) (λ k. k.named) (drop n ks)
          (subst Ascend (paths_alike routes n all ks same) ascend);
      enough = λ set occurs does.
          both_ways (meets occurs.0 ks) (reason.enough occurs.0 occurs.1)
          (all_met occurs.0 n ks
          (sym (front_alike occurs.0 n all ks same)
          ∙ (say occurs.0 occurs.1).1 (subst First occurs.2 does.0))
          (λ k there named.
          ((asked k there).1 occurs.0 occurs.1).1
          (subst (Does (path_of routes k)) occurs.2
          (does.1 (path_of routes k) (Contains-from_IsIn blamed (path_of routes k)
          (IsIn-map (path_of routes) (filter (λ l. l.named) (drop n ks)) k
          (kept_from_passes (λ l. l.named) (drop n ks) k there named)))))));
      needed = λ q there.
          let k = blamed_at routes n ks q (IsIn-from_Contains blamed q there) in
          let place = behind n ks k.0 k.1 in
          let met = reason.needed place.0 k.0 place.1 place.2 k.2 in (
            label_set_of s.labels met.0,
            (met.0, met.1, refl),
            (
              (say met.0 met.1).0 (front_alike met.0 n all ks same
                  ∙ first_met met.0 n place.0 ks place.2 reason.first met.2),
              λ o among other.
                  let l = blamed_at routes n ks o (IsIn-from_Contains blamed o among) in
                  let at = behind n ks l.0 l.1 in
                  let apart : place.0 ≡ at.0 → ⊥ = λ same.
                  let alike = same_Some l.0 k.0
                  (sym at.1 ∙ ap (slice_get ks) (sym same) ∙ place.1) in
                  other (sym l.3 ∙ ap (path_of routes) alike ∙ k.3) in
                  subst (λ r. Does r (label_set_of s.labels met.0)) l.3
                  (((asked l.0 l.1).1 met.0 met.1).0
                  (met_at met.0 (without place.0 ks) at.0 l.0 met.2
                  (others place.0 at.0 ks apart ∙ at.1) l.2)),
            ),
          );
    }

-- ---- The routes of a part as a reason.

abbrev pub IsOfPart : Configuration → List ℕ → Part → List ℕ → Type 0
IsOfPart c path Way q = IsTrue (leads_through q path)
IsOfPart c path Before q = IsTrue (stands_before path q) × LacksContinue c q
IsOfPart c path Children q = IsTrue (is_child_of path q)

abbrev pub DoesAt : Configuration → Part → List ℕ → LabelMap → Type 0
DoesAt c Way q set = Matches c q set
DoesAt c Before q set = Misses c q set
DoesAt c Children q set = Misses c q set

matched : (c : Configuration) (set : LabelMap) (q : List ℕ) (t : RouteTree)
    → route_at c.root q ≡ Some t
    → (all_hold set (matchers_of t) ≡ true) ↔ Matches c q set
matched c set q t at = (
  λ h. (t, at, h),
  λ m.
      ap (λ (v : RouteTree). all_hold set (matchers_of v)) (sym (same_Some m.0 t (sym m.1 ∙ at)))
      ∙ m.2,
)

pub missed : (c : Configuration) (set : LabelMap) (q : List ℕ) (t : RouteTree)
    → route_at c.root q ≡ Some t
    → (all_hold set (matchers_of t) ≡ false) ↔ Misses c q set
missed c set q t at =
    let m = matched c set q t at in (
      λ h does. both_ways (all_hold set (matchers_of t)) h (m.1 does),
      λ none. false_from_ne_true (all_hold set (matchers_of t)) (λ h. none (m.0 h)),
    )

does_at : (c : Configuration) (part : Part) (set : LabelMap) (q : List ℕ) (t : RouteTree)
    → route_at c.root q ≡ Some t
    → (all_hold set (matchers_of t) ≡ is_wanted part) ↔ DoesAt c part q set
does_at c Way set q t at = matched c set q t at
does_at c Before set q t at = missed c set q t at
does_at c Children set q t at = missed c set q t at

of_part : (c : Configuration) (path : List ℕ) (part : Part) (q : List ℕ) (t : RouteTree)
    → route_at c.root q ≡ Some t → IsTrue (stands_in part path q (continues_of t))
    → IsOfPart c path part q
of_part c path Way q t at stands = stands
of_part c path Before q t at stands =
    let parts = and_parts (not (continues_of t)) (stands_before path q) stands in
    (parts.1, (t, at, not-true (continues_of t) parts.0))
of_part c path Children q t at stands = stands

pub part_reason : (s : Space) (c : Configuration) (routes : List TableRoute)
    → IsTableOf s.labels c routes → (path : List ℕ) (part : Part) (old new : List Candidate)
    (adds : AddsPart routes part path routes old new) (First : LabelMap → Type 0)
    → AreSaying s old First → (paths : List (List ℕ))
    → AreBlamed s routes (length old) new paths
    → IsReasonWhy (IsSetOf s) (IsOfPart c path part) First (DoesAt c part) paths
part_reason s c routes known path part old new adds First say paths found =
    let Asked = IsAsked s routes (IsOfPart c path part) First (DoesAt c part) in
    let behind : adds.more ≡ drop (length old) new =
    sym (ap (drop (length old)) adds.adds ∙ drop_at old adds.more (length old) refl) in
    subst (IsReasonWhy (IsSetOf s) (IsOfPart c path part) First (DoesAt c part)) (sym found.3)
    (is_reason s routes (IsOfPart c path part) First (DoesAt c part) (length old) new found.0
    found.1 found.2
    (subst (λ (ks : List Candidate). AreSaying s ks First)
    (sym (ap (take (length old)) adds.adds ∙ take_at old adds.more (length old) refl)) say)
    (subst (AllByRecursion Asked) behind
    (AllByRecursion-each Asked adds.more (λ k there.
    let of = saying s c routes known path part k
    (AllByRecursion-at (IsAbout routes part path) adds.more k adds.each there) in (
      of_part c path part (path_of routes k) of.tree of.at of.stands,
      λ choice possible.
          let says = of.says choice possible in
          let does =
          does_at c part (label_set_of s.labels choice) (path_of routes k) of.tree of.at in
          (λ h. does.0 (says.0 h), λ h. says.1 (does.1 h)),
    ))))
    (subst (λ ks. Ascend (map (path_of routes) ks)) behind
    (part_ascends s.labels c routes known part path old new adds)))
