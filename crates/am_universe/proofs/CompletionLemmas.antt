-- The whole choices that begin with a prefix, as a walk from label to label finds them.
use Rattle.std.proofs.Common.{◌≡◌, ◌≢◌, ℕ, zero, suc, ◌+◌, ◌<◌, ◌≤◌, Bool, true, false, cond, List, [], ◌∷◌, ◌++◌, length, map, slice_index, nat_lt, nat_eq, ◌&&◌, inl, inr, ap, ◌∙◌, refl, arith, eq-eqb}
use Rattle.std.specs.List.{range_with_len, flat_map, filter, starts_with}
use Rattle.std.proofs.lemmas.List.{append-nil, map-append}
use Rattle.std.proofs.lemmas.List.Elements.{filter-append}
use Rattle.std.proofs.lemmas.Grind.{common_steps}
use Rattle.std.proofs.lemmas.Bool.{and_parts, ne_eqb}
use Rattle.std.proofs.lemmas.Bool.Decides.{nat_tests}
use Rattle.std.proofs.Math.Nat.{eq-or-lt_of_le}
use Rattle.am_universe.specs.Choice.{choices, admits, IsWhole}
use Rattle.am_universe.specs.Completions.{completions}
use Rattle.am_universe.proofs.ChoiceLemmas.{behind}

-- The whole choices below a prefix, label by label. They are its completions if the sizes admit it.
abbrev pub below : List ℕ → List ℕ → List (List ℕ)
below sizes [] = choices sizes
below [] (p ∷ prefix) = []
below (size ∷ sizes) (p ∷ prefix) = map (λ c. p ∷ c) (below sizes prefix)

-- ---- The choices below a prefix are its completions.

-- The choices of a list that begin with a prefix.
abbrev beginning : List ℕ → List (List ℕ) → List (List ℕ)
beginning prefix cs = filter (λ c. starts_with nat_eq c prefix) cs

all_kept : {X : Type 0} (xs : List X) → filter (λ x. true) xs ≡ xs
all_kept [] = refl
all_kept (x ∷ xs) = ap (λ l. x ∷ l) (all_kept xs)

none_kept : {X : Type 0} (xs : List X) → filter (λ x. false) xs ≡ []
none_kept [] = refl
none_kept (x ∷ xs) = none_kept xs

map_of_cond : {X Y : Type 0} (f : X → Y) (b : Bool) (x : X) (xs : List X) → cond b (f x ∷ map f xs) (map f xs) ≡ map f (cond b (x ∷ xs) xs)
map_of_cond f true x xs = refl
map_of_cond f false x xs = refl

pub filter_of_map : {X Y : Type 0} (f : X → Y) (test : Y → Bool) (xs : List X) → filter test (map f xs) ≡ map f (filter (λ x. test (f x)) xs)
filter_of_map f test [] = refl
filter_of_map f test (x ∷ xs) = ap (λ l. cond (test (f x)) (f x ∷ l) l) (filter_of_map f test xs) ∙ map_of_cond f (test (f x)) x (filter (λ x. test (f x)) xs)

-- Of the choices that begin with q, those that begin with p and a prefix.
at_one : (p q : ℕ) (prefix : List ℕ) (cs : List (List ℕ)) → beginning (p ∷ prefix) (map (λ c. q ∷ c) cs) ≡ map (λ c. q ∷ c) (filter (λ c. nat_eq p q && starts_with nat_eq c prefix) cs)
at_one p q prefix cs = filter_of_map (λ c. q ∷ c) (λ c. starts_with nat_eq c (p ∷ prefix)) cs

at_same : (p : ℕ) (prefix : List ℕ) (cs : List (List ℕ)) → beginning (p ∷ prefix) (map (λ c. p ∷ c) cs) ≡ map (λ c. p ∷ c) (beginning prefix cs)
at_same p prefix cs = at_one p p prefix cs ∙ ap (λ b. map (λ c. p ∷ c) (filter (λ c. b && starts_with nat_eq c prefix) cs)) (eq-eqb p p refl)

at_other : (p q : ℕ) (prefix : List ℕ) (cs : List (List ℕ)) → p ≢ q → beginning (p ∷ prefix) (map (λ c. q ∷ c) cs) ≡ []
at_other p q prefix cs other =
    at_one p q prefix cs ∙ ap (λ b. map (λ c. q ∷ c) (filter (λ c. b && starts_with nat_eq c prefix) cs)) (ne_eqb p q other) ∙ ap (map (λ c. q ∷ c)) (none_kept cs)

-- Of the choices that begin with one of `count` positions from `first`, those that begin with p and
-- a prefix. There are none if p is before these positions. If p is one of them, they are the
-- choices that begin with the prefix, each after p.
at_none : (p first count : ℕ) (prefix : List ℕ) (cs : List (List ℕ)) → p < first → beginning (p ∷ prefix) (behind first count cs) ≡ []
at_none p first zero prefix cs h = refl
at_none p first (suc count) prefix cs h = grind (arith, common_steps, filter-append, at_other, at_none p (first + 1) count prefix cs)

pub at_its_own : (p first count : ℕ) (prefix : List ℕ) (cs : List (List ℕ)) → first ≤ p → p < first + count → beginning (p ∷ prefix) (behind first count cs) ≡ map (λ c. p ∷ c) (beginning prefix cs)
at_its_own p first zero prefix cs low high = absurd (omega arith)
at_its_own p first (suc count) prefix cs low high =
    filter-append (λ c. starts_with nat_eq c (p ∷ prefix)) (map (λ c. first ∷ c) cs) (behind (first + 1) count cs)
    ∙ elim (eq-or-lt_of_le low) [
      | inl e ↦ rw (e, at_same p prefix cs, at_none p (p + 1) count prefix cs (omega arith)) (append-nil (map (λ c. p ∷ c) (beginning prefix cs)))
      | inr l ↦ rw (at_other p first prefix cs (λ e. omega (arith, l, e)), at_its_own p (first + 1) count prefix cs (omega (arith, l)) (omega arith)) refl
    ]

pub completions_are_below : (sizes prefix : List ℕ) → admits sizes prefix ≡ true → completions sizes prefix ≡ below sizes prefix
completions_are_below sizes [] a = all_kept (choices sizes)
completions_are_below [] (p ∷ prefix) a = cc
completions_are_below (size ∷ sizes) (p ∷ prefix) a =
    let parts = and_parts (nat_lt p size) (admits sizes prefix) a in
    let high : p < 0 + size = grind (arith, nat_tests, parts.0) in
    at_its_own p 0 size prefix (choices sizes) (omega arith) high ∙ ap (map (λ c. p ∷ c)) (completions_are_below sizes prefix parts.1)

-- ---- The choices below a prefix, by the next position.

-- Below a whole choice there is only the choice itself.
below_whole : (sizes c : List ℕ) → length c ≡ length sizes → below sizes c ≡ c ∷ []
below_whole [] [] e = refl
below_whole [] (p ∷ c) e = absurd (omega arith)
below_whole (size ∷ sizes) [] e = absurd (omega arith)
below_whole (size ∷ sizes) (p ∷ c) e = ap (map (λ d. p ∷ d)) (below_whole sizes c (omega arith))

-- A whole choice is its own only completion.
pub completions_of_whole : (sizes c : List ℕ) → IsWhole sizes c → completions sizes c ≡ c ∷ []
completions_of_whole sizes c w = completions_are_below sizes c w.0 ∙ below_whole sizes c w.1

pub map_of_flat_map : {X : Type 0} (p : ℕ) (f : X → List (List ℕ)) (xs : List X) → map (λ c. p ∷ c) (flat_map f xs) ≡ flat_map (λ x. map (λ c. p ∷ c) (f x)) xs
map_of_flat_map p f [] = refl
map_of_flat_map p f (x ∷ xs) = map-append (λ c. p ∷ c) (f x) (flat_map f xs) ∙ ap (λ t. map (λ c. p ∷ c) (f x) ++ t) (map_of_flat_map p f xs)

-- A range that is longer by one number.
pub range_more : (first count : ℕ) → range_with_len first (suc count) ≡ range_with_len first count ++ (first + count) ∷ []
range_more first zero = ap (λ n. n ∷ []) (omega arith)
range_more first (suc count) = ap (λ t. first ∷ t) (range_more (first + 1) count ∙ ap (λ n. range_with_len (first + 1) count ++ n ∷ []) (omega arith))

-- An admitted prefix with one more position below the size of the next label is admitted.
admitted_first : (p size : ℕ) (b : Bool) → p < size → b ≡ true → (nat_lt p size && b) ≡ true
admitted_first p size b h e = grind (arith, nat_tests)

pub admits_next : (sizes prefix : List ℕ) (p : ℕ) → admits sizes prefix ≡ true → length prefix < length sizes → p < slice_index sizes (length prefix) → admits sizes (prefix ++ p ∷ []) ≡ true
admits_next [] prefix p a h k = absurd (omega arith)
admits_next (size ∷ sizes) [] p a h k = admitted_first p size true k refl
admits_next (size ∷ sizes) (q ∷ prefix) p a h k =
    let parts = and_parts (nat_lt q size) (admits sizes prefix) a in
    let rest = admits_next sizes prefix p parts.1 (omega arith) k in
    rw (parts.0, rest) refl
