-- The prefix beside another: which one it is among all that are admitted.
use Rattle.std.proofs.Common.{◌≡◌, ◌⊎◌, ℕ, zero, suc, ◌+◌, ◌<◌, ◌≤◌, Bool, true, false, nat_eq, nat_lt, List, [], ◌∷◌, length, take, Some, None, sym, subst, refl, inl, inr, arith, rules}
use Rattle.std.specs.List.{starts_with, list_all}
use Rattle.std.proofs.lemmas.Bool.{false≢true, and_parts, and_from}
use Rattle.std.proofs.lemmas.Bool.Decides.{nat_tests}
use Rattle.std.proofs.lemmas.Grind.{common_steps}
use Rattle.am_universe.specs.Choice.{admits}
use Rattle.am_search.specs.Start.{comes_before}
use Rattle.am_search.specs.Visits.{proper_fronts}
use Rattle.am_search.specs.NextPrefix.{next_beside}
use Rattle.am_search.proofs.ChoiceOrder.{not_back}
use Rattle.am_search.proofs.PrefixOrder.{before_nothing, before_less, before_same, before_parts, begins_same, begins_other, fronts_parts, fronts_from}

-- ---- By cases on what comes beside the rest.

-- either the rest changes, or the first position becomes greater and nothing follows it
pub record IsRestBeside (sizes prefix : List ℕ) (p : ℕ) (next : List ℕ) : Type 0 where
  pub rest : List ℕ
  pub beside : next_beside sizes prefix ≡ Some rest
  pub is : next ≡ p ∷ rest

pub record IsFirstBeside (size : ℕ) (sizes prefix : List ℕ) (p : ℕ) (next : List ℕ) : Type 0 where
  pub none : next_beside sizes prefix ≡ None
  pub below : p + 1 < size
  pub is : next ≡ (p + 1) ∷ []

pub beside_parts : (size : ℕ) (sizes prefix : List ℕ) (p : ℕ) (next : List ℕ) → next_beside (size ∷ sizes) (p ∷ prefix) ≡ Some next
    → IsRestBeside sizes prefix p next ⊎ IsFirstBeside size sizes prefix p next
beside_parts size sizes prefix p next e = grind (arith, common_steps)

none_parts : (size : ℕ) (sizes prefix : List ℕ) (p : ℕ) → next_beside (size ∷ sizes) (p ∷ prefix) ≡ None → (next_beside sizes prefix ≡ None) × (size ≤ p + 1)
none_parts size sizes prefix p e = grind (arith, common_steps, nat_tests)

-- ---- Where nothing comes beside a prefix.

pub none_beside : (sizes prefix x : List ℕ) → next_beside sizes prefix ≡ None → admits sizes prefix ≡ true → admits sizes x ≡ true → comes_before prefix x ≡ true → starts_with nat_eq x prefix ≡ true
none_beside sizes [] x e a b less = refl
none_beside [] (p ∷ prefix) x e a b less = cc
none_beside (size ∷ sizes) (p ∷ prefix) [] e a b less = absurd (false≢true less)
none_beside (size ∷ sizes) (p ∷ prefix) (q ∷ x) e a b less =
    grind (arith, common_steps, none_parts, and_parts, nat_tests, before_parts, begins_same, none_beside sizes prefix x)

-- ---- What comes beside a prefix.

pub record IsBeside (sizes prefix next : List ℕ) : Type 0 where
  pub admitted : admits sizes next ≡ true
  pub after : comes_before prefix next ≡ true
  pub apart : starts_with nat_eq next prefix ≡ false
  -- of all that come after the prefix and do not begin with it, this one is the first
  pub least : (x : List ℕ) → admits sizes x ≡ true → comes_before prefix x ≡ true → starts_with nat_eq x prefix ≡ false → comes_before x next ≡ false
  -- its proper fronts are some of those of the prefix
  pub fronts : (test : List ℕ → Bool) → list_all test (proper_fronts prefix) ≡ true → list_all test (proper_fronts next) ≡ true

behind_rest : (size : ℕ) (sizes prefix rest : List ℕ) (p : ℕ) → nat_lt p size ≡ true → IsBeside sizes prefix rest → IsBeside (size ∷ sizes) (p ∷ prefix) (p ∷ rest)
behind_rest size sizes prefix rest p below h =
    grind (arith, common_steps, and_from, before_same, begins_same, fronts_parts, fronts_from, false≢true, before_parts, not_back, before_less, and_parts)

behind_last : (size : ℕ) (sizes prefix : List ℕ) (p : ℕ) → admits sizes prefix ≡ true → next_beside sizes prefix ≡ None → p + 1 < size → IsBeside (size ∷ sizes) (p ∷ prefix) ((p + 1) ∷ [])
behind_last size sizes prefix p a none below =
    grind (arith, common_steps, before_less, begins_other, fronts_from, fronts_parts, before_parts, none_beside, begins_same, before_nothing)

pub beside_is : (sizes prefix next : List ℕ) → admits sizes prefix ≡ true → next_beside sizes prefix ≡ Some next → IsBeside sizes prefix next
beside_is sizes [] next a e = cc
beside_is [] (p ∷ prefix) next a e = cc
beside_is (size ∷ sizes) (p ∷ prefix) next a e =
    let here = and_parts (nat_lt p size) (admits sizes prefix) a in
    elim (beside_parts size sizes prefix p next e) [
      | inl h ↦ subst (IsBeside (size ∷ sizes) (p ∷ prefix)) (sym h.is) (behind_rest size sizes prefix h.rest p here.0 (beside_is sizes prefix h.rest here.1 h.beside))
      | inr h ↦ subst (IsBeside (size ∷ sizes) (p ∷ prefix)) (sym h.is) (behind_last size sizes prefix p here.1 h.none h.below)
    ]

-- ---- What comes beside a choice, and beside the positions at its front.

pub none_of_front : (sizes c : List ℕ) (n : ℕ) → next_beside sizes c ≡ None → next_beside sizes (take n c) ≡ None
none_of_front sizes c zero e = refl
none_of_front sizes [] (suc n) e = refl
none_of_front [] (p ∷ c) (suc n) e = refl
none_of_front (size ∷ sizes) (p ∷ c) (suc n) e = grind (arith, common_steps, none_parts, none_of_front sizes c n)

-- if the prefix beside a choice has at most `n` positions, it is beside the first `n` positions too
pub beside_front : (sizes c next : List ℕ) (n : ℕ) → next_beside sizes c ≡ Some next → length next ≤ n → next_beside sizes (take n c) ≡ Some next
beside_front sizes [] next n e h = cc
beside_front [] (p ∷ c) next n e h = cc
beside_front (size ∷ sizes) (p ∷ c) next zero e h = search (rules, beside_parts)
beside_front (size ∷ sizes) (p ∷ c) next (suc n) e h = search (rules, beside_parts, beside_front sizes c, none_of_front)

-- if it is longer, it begins with the first `n` positions
pub beside_begins : (sizes c next : List ℕ) (n : ℕ) → next_beside sizes c ≡ Some next → n < length next → starts_with nat_eq next (take n c) ≡ true
beside_begins sizes c next zero e h = refl
beside_begins sizes [] next (suc n) e h = cc
beside_begins [] (p ∷ c) next (suc n) e h = cc
beside_begins (size ∷ sizes) (p ∷ c) next (suc n) e h = search (rules, beside_parts, begins_same, beside_begins sizes c)
