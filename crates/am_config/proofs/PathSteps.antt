-- A path read step by step: the positions so far, and those that are left in the text.
use Rattle.std.proofs.Common.{◌≡◌, ℕ, ◌<◌, ◌≤◌, List, [], ◌∷◌, ◌++◌, length, map, Option, Some}
use Rattle.std.proofs.Common.{None, Bor, sym, subst, ◌∙◌, arith, append-nil, append_assoc}
use Rattle.std.proofs.Common.{length-append}
use Rattle.std.specs.Iterator.{AlwaysYields}
use Rattle.std.specs.List.{AllByRecursion}
use Rattle.am_universe.proofs.DistinctLists.{all_push}
use Rattle.am_config.specs.declared.limits.TheConstants.{MAX_PATH_STEPS, MAX_CHILD_POSITION}
use Rattle.am_config.specs.Path.{numeral, IsPath}

abbrev AreChildPositions : List ℕ → Type 0
AreChildPositions = AllByRecursion (λ p. p ≤ MAX_CHILD_POSITION)

among_all : (ps : List ℕ) (p : ℕ) (rest : List ℕ) → AreChildPositions (ps ++ (p ∷ rest))
    → p ≤ MAX_CHILD_POSITION
among_all [] p rest h = h.0
among_all (q ∷ qs) p rest h = among_all qs p rest h.1

module _ {S : Type 0} (steps : S → Option (Bor (List ℕ)) → S → Type 0) where
  -- a prefix of the path is read, and `s` yields the steps that are left
  pub record IsReadSoFar (path front : List ℕ) (s : S) : Type 0 where
    pub left : List ℕ
    pub all : path ≡ front ++ left
    pub yields : AlwaysYields steps (λ x. x.now) s (map numeral left)
    pub short : length front ≤ MAX_PATH_STEPS
    pub small : AreChildPositions front

  -- the next step that is read, after which `t` yields the steps that are left
  pub record IsNext (path front text : List ℕ) (t : S) : Type 0 where
    pub position : ℕ
    pub rest : List ℕ
    pub is : numeral position ≡ text
    pub all : path ≡ front ++ (position ∷ rest)
    pub yields : AlwaysYields steps (λ x. x.now) t (map numeral rest)

  pub next_step : (path front : List ℕ) (s t : S) (part : Bor (List ℕ))
      → IsReadSoFar path front s → steps s (Some part) t → IsNext path front part.now t
  next_step path front s t part h goes = by h.left h.all h.yields
    where
      by : (left : List ℕ) → path ≡ front ++ left
          → AlwaysYields steps (λ x. x.now) s (map numeral left) → IsNext path front part.now t
      by [] all yields = absurd (yields part t goes)
      by (p ∷ ps) all yields =
          let now = yields.1 part t goes in
          record { position = p; rest = ps; is = sym now.0; all = all; yields = now.1 }

  -- if no step is left, the whole path is read
  pub all_read : (path front : List ℕ) (s t : S) → IsReadSoFar path front s → steps s None t
      → (front ≡ path) × IsPath path
  all_read path front s t h goes = by h.left h.all h.yields
    where
      by : (left : List ℕ) → path ≡ front ++ left
          → AlwaysYields steps (λ x. x.now) s (map numeral left) → (front ≡ path) × IsPath path
      by [] all yields =
          let same : front ≡ path = sym (append-nil front) ∙ sym all in
          (same, subst IsPath same (record { steps = h.short; positions = h.small }))
      by (p ∷ ps) all yields = absurd (yields.0 t goes)

  pub step_read : (path front text : List ℕ) (s t : S) (p : ℕ)
      (next : IsNext path front text t) → IsReadSoFar path front s
      → p ≡ next.position → p ≤ MAX_CHILD_POSITION → length front < MAX_PATH_STEPS
      → IsReadSoFar path (front ++ (p ∷ [])) t
  step_read path front text s t p next h is small room = record {
    left = next.rest;
    all = rw is (next.all ∙ sym (append_assoc front (next.position ∷ []) next.rest));
    yields = next.yields;
    short = omega (arith, length-append front (p ∷ []));
    small = all_push (λ q. q ≤ MAX_CHILD_POSITION) front p h.small small;
  }

  pub too_large : (path front text : List ℕ) (t : S) (next : IsNext path front text t)
      → MAX_CHILD_POSITION < next.position → IsPath path → ⊥
  too_large path front text t next large h =
      let small : next.position ≤ MAX_CHILD_POSITION =
      among_all front next.position next.rest (subst AreChildPositions next.all h.positions)
      in
      omega arith
