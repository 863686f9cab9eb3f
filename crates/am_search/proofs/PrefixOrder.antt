-- The order of prefixes as in a dictionary: a prefix comes before those that begin with it.
use Rattle.std.proofs.Common.{◌≡◌, ◌≢◌, ◌⊎◌, ℕ, zero, suc, ◌<◌, ◌≤◌, Bool, true, false, nat_eq, ◌&&◌, List, [], ◌∷◌, ◌++◌, length, slice_index, take, ap, sym, ◌∙◌, refl, arith, eq-eqb, rules}
use Rattle.std.specs.List.{starts_with, list_all}
use Rattle.std.specs.Ordering.{is_lt}
use Rattle.std.proofs.lemmas.Bool.{false≢true, and_parts, and_from, ne_eqb, eqb-true, cases_order}
use Rattle.std.proofs.lemmas.List.Folds.{list_all-map}
use Rattle.std.proofs.lemmas.Grind.{common_steps}
use Rattle.am_universe.proofs.ChoiceLemmas.{same_first, less_first}
use Rattle.am_search.specs.Start.{comes_before}
use Rattle.am_search.specs.Visits.{proper_fronts}
use Rattle.am_search.proofs.ChoiceOrder.{not_back}

-- ---- Position by position.

pub before_nothing : (x : List ℕ) → comes_before x [] ≡ false
before_nothing [] = refl
before_nothing (p ∷ x) = refl

pub before_less : (p q : ℕ) (x y : List ℕ) → p < q → comes_before (p ∷ x) (q ∷ y) ≡ true
before_less p q x y h = ap is_lt (less_first p q x y h)

pub before_same : (p : ℕ) (x y : List ℕ) → comes_before (p ∷ x) (p ∷ y) ≡ comes_before x y
before_same p x y = ap is_lt (same_first p x y)

pub before_parts : (p q : ℕ) (x y : List ℕ) → comes_before (p ∷ x) (q ∷ y) ≡ true → (p < q) ⊎ ((p ≡ q) × (comes_before x y ≡ true))
before_parts p q x y h = grind (arith, common_steps, cases_order, before_same, not_back, before_less)

pub begins_itself : (x : List ℕ) → starts_with nat_eq x x ≡ true
begins_itself [] = refl
begins_itself (p ∷ x) = and_from (nat_eq p p) (starts_with nat_eq x x) (eq-eqb p p refl) (begins_itself x)

pub begins_same : (p : ℕ) (x y : List ℕ) → starts_with nat_eq (p ∷ x) (p ∷ y) ≡ starts_with nat_eq x y
begins_same p x y = ap (λ b. b && starts_with nat_eq x y) (eq-eqb p p refl)

pub begins_other : (p q : ℕ) (x y : List ℕ) → p ≢ q → starts_with nat_eq (p ∷ x) (q ∷ y) ≡ false
begins_other p q x y other = ap (λ b. b && starts_with nat_eq x y) (ne_eqb q p (λ e. other (sym e)))

pub begins_parts : (p q : ℕ) (x y : List ℕ) → starts_with nat_eq (p ∷ x) (q ∷ y) ≡ true → (p ≡ q) × (starts_with nat_eq x y ≡ true)
begins_parts p q x y h = grind (arith, common_steps, and_parts)

-- ---- Of three, one begins with another.

pub begins_through : (a b x : List ℕ) → starts_with nat_eq b a ≡ true → starts_with nat_eq x b ≡ true → starts_with nat_eq x a ≡ true
begins_through [] b x h k = refl
begins_through (p ∷ a) [] x h k = absurd (false≢true h)
begins_through (p ∷ a) (q ∷ b) [] h k = absurd (false≢true k)
begins_through (p ∷ a) (q ∷ b) (r ∷ x) h k = grind (arith, common_steps, begins_parts, begins_same, begins_through a b x)

-- what begins with a prefix does not come before it
pub begins_behind : (prefix x : List ℕ) → starts_with nat_eq x prefix ≡ true → comes_before x prefix ≡ false
begins_behind [] x h = before_nothing x
begins_behind (p ∷ prefix) [] h = absurd (false≢true h)
begins_behind (p ∷ prefix) (q ∷ x) h = grind (arith, common_steps, begins_parts, before_same, begins_behind prefix x)

-- what comes after a prefix and does not begin with it comes after all that do
pub before_beside : (prefix x y : List ℕ) → comes_before prefix x ≡ true → starts_with nat_eq x prefix ≡ false → starts_with nat_eq y prefix ≡ true → comes_before y x ≡ true
before_beside [] x y less other h = absurd (false≢true (sym other))
before_beside (p ∷ prefix) [] y less other h = absurd (false≢true less)
before_beside (p ∷ prefix) (q ∷ x) [] less other h = absurd (false≢true h)
before_beside (p ∷ prefix) (q ∷ x) (r ∷ y) less other h =
    search (rules, begins_parts, before_parts, before_less, begins_same, before_same, before_beside prefix x y)

-- what comes before a prefix comes before all that begin with it
pub before_begins : (f prefix x : List ℕ) → comes_before f prefix ≡ true → starts_with nat_eq x prefix ≡ true → comes_before f x ≡ true
before_begins f [] x less h = absurd (false≢true (sym (before_nothing f) ∙ less))
before_begins f (p ∷ prefix) [] less h = absurd (false≢true h)
before_begins [] (p ∷ prefix) (q ∷ x) less h = refl
before_begins (r ∷ f) (p ∷ prefix) (q ∷ x) less h =
    grind (arith, common_steps, begins_parts, before_parts, before_less, before_same, before_begins f prefix x)

-- what comes neither before a prefix nor begins with it comes after it
pub other_before : (prefix f : List ℕ) → starts_with nat_eq f prefix ≡ false → comes_before f prefix ≡ false → comes_before prefix f ≡ true
other_before [] f other not_less = absurd (false≢true (sym other))
other_before (p ∷ prefix) [] other not_less = absurd (false≢true (sym not_less))
other_before (p ∷ prefix) (q ∷ f) other not_less =
    grind (arith, common_steps, cases_order, before_less, before_same, other_before prefix f, begins_same)

-- ---- A prefix with one position more.

pub begins_pushed : (prefix : List ℕ) (p : ℕ) → starts_with nat_eq (prefix ++ p ∷ []) prefix ≡ true
begins_pushed [] p = refl
begins_pushed (q ∷ prefix) p = begins_same q (prefix ++ p ∷ []) prefix ∙ begins_pushed prefix p

pub before_pushed : (prefix : List ℕ) (p : ℕ) → comes_before prefix (prefix ++ p ∷ []) ≡ true
before_pushed [] p = refl
before_pushed (q ∷ prefix) p = before_same q prefix (prefix ++ p ∷ []) ∙ before_pushed prefix p

pub begins_front : (prefix x : List ℕ) (p : ℕ) → starts_with nat_eq x (prefix ++ p ∷ []) ≡ true → starts_with nat_eq x prefix ≡ true
begins_front [] x p h = refl
begins_front (q ∷ prefix) [] p h = absurd (false≢true h)
begins_front (q ∷ prefix) (r ∷ x) p h = grind (arith, common_steps, begins_parts, and_from, begins_front prefix x p)

-- a choice that begins with a prefix has the positions of the prefix
pub begins_at : (c prefix : List ℕ) (i : ℕ) → starts_with nat_eq c prefix ≡ true → i < length prefix → slice_index c i ≡ slice_index prefix i
begins_at c [] i e h = absurd (omega arith)
begins_at [] (p ∷ prefix) i e h = cc
begins_at (q ∷ c) (p ∷ prefix) zero e h = search (rules, eqb-true, and_parts)
begins_at (q ∷ c) (p ∷ prefix) (suc i) e h = search (rules, begins_at c prefix i, and_parts)

-- what stands between a prefix and the prefix with one more position has a smaller position there
pub record HasLess (prefix x : List ℕ) (p : ℕ) : Type 0 where
  pub position : ℕ
  pub rest : List ℕ
  pub less : position < p
  pub is : x ≡ prefix ++ position ∷ rest

pub between_pushed : (prefix x : List ℕ) (p : ℕ) → comes_before prefix x ≡ true → comes_before x (prefix ++ p ∷ []) ≡ true → HasLess prefix x p
between_pushed [] [] p low high = absurd (false≢true low)
between_pushed [] (q ∷ x) p low high = grind (arith, common_steps, before_parts, before_nothing)
between_pushed (r ∷ prefix) [] p low high = absurd (false≢true low)
between_pushed (r ∷ prefix) (q ∷ x) p low high = grind (arith, common_steps, before_parts, between_pushed prefix x p)

pub begins_one : (prefix rest f : List ℕ) (p q : ℕ) → starts_with nat_eq f (prefix ++ p ∷ []) ≡ true → q < p → starts_with nat_eq f (prefix ++ q ∷ rest) ≡ false
begins_one [] rest [] p q h less = absurd (false≢true h)
begins_one [] rest (r ∷ f) p q h less = grind (arith, common_steps, begins_parts, begins_other)
begins_one (s ∷ prefix) rest [] p q h less = refl
begins_one (s ∷ prefix) rest (r ∷ f) p q h less =
    grind (arith, common_steps, begins_parts, begins_same, begins_one prefix rest f p q)

-- ---- The positions at the front of a choice.

pub taken_is : (prefix c : List ℕ) → starts_with nat_eq c prefix ≡ true → take (length prefix) c ≡ prefix
taken_is [] c h = refl
taken_is (p ∷ prefix) [] h = absurd (false≢true h)
taken_is (p ∷ prefix) (q ∷ c) h = grind (arith, common_steps, begins_parts, taken_is prefix c)

pub begins_length : (prefix c : List ℕ) → starts_with nat_eq c prefix ≡ true → length prefix ≤ length c
begins_length [] c h = omega arith
begins_length (p ∷ prefix) [] h = absurd (false≢true h)
begins_length (p ∷ prefix) (q ∷ c) h = omega (arith, begins_length prefix c (begins_parts q p c prefix h).1)

-- if a list begins with another of the same length, they are the same
pub begins_whole : (c d : List ℕ) → length c ≡ length d → starts_with nat_eq c d ≡ true → c ≡ d
begins_whole [] [] e h = refl
begins_whole (p ∷ c) (q ∷ d) e h = grind (arith, common_steps, begins_parts, begins_whole c d)
begins_whole c d e h = absurd (omega arith)

-- ---- Proper fronts.

-- the proper fronts of a prefix are the empty one, and those that begin with its first position
pub fronts_parts : (test : List ℕ → Bool) (p : ℕ) (prefix : List ℕ) → list_all test (proper_fronts (p ∷ prefix)) ≡ true
    → (test [] ≡ true) × (list_all (λ front. test (p ∷ front)) (proper_fronts prefix) ≡ true)
fronts_parts test p prefix h = grind (arith, common_steps, and_parts, list_all-map)

pub fronts_from : (test : List ℕ → Bool) (p : ℕ) (prefix : List ℕ) → test [] ≡ true → list_all (λ front. test (p ∷ front)) (proper_fronts prefix) ≡ true
    → list_all test (proper_fronts (p ∷ prefix)) ≡ true
fronts_from test p prefix first others = grind (arith, common_steps, and_from, list_all-map)

-- if all proper fronts of a prefix pass a test, each shorter prefix passes it
pub front_passes : (test : List ℕ → Bool) (prefix x : List ℕ) → list_all test (proper_fronts x) ≡ true → starts_with nat_eq x prefix ≡ true → comes_before prefix x ≡ true → test prefix ≡ true
front_passes test prefix [] all h less = absurd (false≢true (sym (before_nothing prefix) ∙ less))
front_passes test [] (q ∷ x) all h less = (fronts_parts test q x all).0
front_passes test (p ∷ prefix) (q ∷ x) all h less =
    let same = (begins_parts q p x prefix h).0 in
    let rest = (begins_parts q p x prefix h).1 in
    ap (λ r. test (r ∷ prefix)) (sym same)
    ∙ front_passes (λ front. test (q ∷ front)) prefix x (fronts_parts test q x all).1 rest
    (sym (before_same q prefix x) ∙ ap (λ r. comes_before (r ∷ prefix) (q ∷ x)) same ∙ less)

-- the proper fronts of a prefix with one more position are those of the prefix, and the prefix
pub fronts_pushed : (test : List ℕ → Bool) (prefix : List ℕ) (p : ℕ) → list_all test (proper_fronts prefix) ≡ true → test prefix ≡ true → list_all test (proper_fronts (prefix ++ p ∷ [])) ≡ true
fronts_pushed test [] p all last = and_from (test []) true last refl
fronts_pushed test (q ∷ prefix) p all last =
    let parts = fronts_parts test q prefix all in
    fronts_from test q (prefix ++ p ∷ []) parts.0 (fronts_pushed (λ front. test (q ∷ front)) prefix p parts.1 last)
