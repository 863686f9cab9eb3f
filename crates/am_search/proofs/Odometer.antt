-- The first completion of a prefix, and the prefix beside it, as the code finds them.
use Rattle.std.proofs.Common.{◌≡◌, subst, ℕ, zero, suc, ◌+◌, ◌<◌, ◌≤◌, true, cond, List, [], ◌∷◌, ◌++◌, length, map, slice_index, slice_get, nat_lt, Some, ap, ◌∙◌, refl, arith, rules}
use Rattle.std.specs.Prelude.{option_map}
use Rattle.std.specs.List.{AllByRecursion}
use Rattle.std.proofs.lemmas.Bool.{and_parts, and_from}
use Rattle.std.proofs.lemmas.Bool.Decides.{nat_tests}
use Rattle.std.proofs.lemmas.Option.{get_or_from_slice_get}
use Rattle.std.proofs.lemmas.Grind.{common_steps}
use Rattle.am_universe.specs.Choice.{choices, admits}
use Rattle.am_universe.specs.declared.limits.TheConstants.{MAX_VALUES}
use Rattle.am_universe.specs.Completions.{completions}
use Rattle.am_universe.proofs.ListLemmas.{AllByRecursion-at}
use Rattle.am_universe.proofs.ChoiceLemmas.{behind}
use Rattle.am_universe.proofs.CompletionLemmas.{admits_next, below, completions_are_below}
use Rattle.am_search.specs.NextPrefix.{next_beside}
use Rattle.am_search.proofs.ChoiceOrder.{in_at}

-- ---- A prefix and the position 0 of each label left.

abbrev pub filled : List ℕ → List ℕ → List ℕ
filled [] prefix = prefix
filled (size ∷ sizes) [] = 0 ∷ filled sizes []
filled (size ∷ sizes) (p ∷ prefix) = p ∷ filled sizes prefix

pub filled_pushed : (sizes prefix : List ℕ) → length prefix < length sizes → filled sizes (prefix ++ 0 ∷ []) ≡ filled sizes prefix
filled_pushed [] prefix h = absurd (omega arith)
filled_pushed (size ∷ sizes) [] h = refl
filled_pushed (size ∷ sizes) (p ∷ prefix) h = ap (λ c. p ∷ c) (filled_pushed sizes prefix (omega arith))

pub filled_whole : (sizes prefix : List ℕ) → length prefix ≡ length sizes → filled sizes prefix ≡ prefix
filled_whole [] prefix h = refl
filled_whole (size ∷ sizes) [] h = absurd (omega arith)
filled_whole (size ∷ sizes) (p ∷ prefix) h = ap (λ c. p ∷ c) (filled_whole sizes prefix (omega arith))

abbrev pub ArePositive : List ℕ → Type 0
ArePositive = AllByRecursion (λ size. 0 < size)

-- the first choice of all
record IsFirst (sizes : List ℕ) : Type 0 where
  others : List (List ℕ)
  is : choices sizes ≡ filled sizes [] ∷ others

first_behind : (size : ℕ) (cs : List (List ℕ)) (c : List ℕ) (others : List (List ℕ)) → 0 < size → cs ≡ c ∷ others → (more : List (List ℕ)) × (behind 0 size cs ≡ (0 ∷ c) ∷ more)
first_behind zero cs c others some e = absurd (omega arith)
first_behind (suc n) cs c others some e = (_, ap (behind 0 (suc n)) e)

first_choice : (sizes : List ℕ) → ArePositive sizes → IsFirst sizes
first_choice [] h = record { others = []; is = refl }
first_choice (size ∷ sizes) h =
    let rest = first_choice sizes h.1 in
    let r = first_behind size (choices sizes) (filled sizes []) rest.others h.0 rest.is in
    record { others = r.0; is = r.1 }

got_mapped : (f : List ℕ → List ℕ) (cs : List (List ℕ)) (c : List ℕ) → slice_get cs 0 ≡ Some c → slice_get (map f cs) 0 ≡ Some (f c)
got_mapped f [] c e = cc
got_mapped f (d ∷ ds) c e = ap (option_map f) e

first_below : (sizes prefix : List ℕ) → ArePositive sizes → admits sizes prefix ≡ true → slice_get (below sizes prefix) 0 ≡ Some (filled sizes prefix)
first_below sizes [] some a = ap (λ cs. slice_get cs 0) (first_choice sizes some).is
first_below [] (p ∷ prefix) some a = cc
first_below (size ∷ sizes) (p ∷ prefix) some a = search (rules, got_mapped, below, first_below sizes prefix, and_parts)

pub first_completion_is : (sizes prefix : List ℕ) → ArePositive sizes → admits sizes prefix ≡ true → slice_get (completions sizes prefix) 0 ≡ Some (filled sizes prefix)
first_completion_is sizes prefix some a = ap (λ cs. slice_get cs 0) (completions_are_below sizes prefix a) ∙ first_below sizes prefix some a

-- ---- The next prefix, not longer, that does not begin with a prefix: the last position that can be greater is.

pub beside_last : (sizes prefix : List ℕ) (p : ℕ) → length prefix < length sizes
    → next_beside sizes (prefix ++ p ∷ []) ≡ cond (nat_lt (p + 1) (slice_index sizes (length prefix))) (Some (prefix ++ (p + 1) ∷ [])) (next_beside sizes prefix)
beside_last [] prefix p h = absurd (omega arith)
beside_last (size ∷ sizes) [] p h = refl
beside_last (size ∷ sizes) (q ∷ prefix) p h = grind (arith, common_steps, beside_last sizes prefix p)

-- ---- Position by position.

pub positive : (sizes : List ℕ) → AllByRecursion (λ size. (0 < size) × (size ≤ MAX_VALUES)) sizes → ArePositive sizes
positive [] h = tt
positive (size ∷ sizes) h = (h.0.0, positive sizes h.1)

pub positive_at : (sizes : List ℕ) (i : ℕ) → ArePositive sizes → i < length sizes → 0 < slice_index sizes i
positive_at sizes i h k = AllByRecursion-at (λ size. 0 < size) sizes (slice_index sizes i) h (in_at sizes i 0 k)

pub admits_at_most : (ns c : List ℕ) → admits ns c ≡ true → length c ≤ length ns
admits_at_most ns [] a = omega arith
admits_at_most [] (p ∷ c) a = cc
admits_at_most (n ∷ ns) (p ∷ c) a = omega (arith, admits_at_most ns c (and_parts (nat_lt p n) (admits ns c) a).1)

-- a prefix and one more position are admitted
pub record IsAdmittedWith (ns prefix : List ℕ) (p : ℕ) : Type 0 where
  pub front : admits ns prefix ≡ true
  pub label : length prefix < length ns
  pub below : p < slice_index ns (length prefix)

admitted_with : (ns prefix : List ℕ) (p : ℕ) → admits ns (prefix ++ p ∷ []) ≡ true → IsAdmittedWith ns prefix p
admitted_with [] [] p a = cc
admitted_with [] (q ∷ prefix) p a = cc
admitted_with (n ∷ ns) [] p a = search (rules, and_parts, below, nat_tests)
admitted_with (n ∷ ns) (q ∷ prefix) p a = search (rules, and_parts, admitted_with ns prefix p, and_from, below)

pub popped : (ns before prefix : List ℕ) (p : ℕ) → admits ns before ≡ true → before ≡ prefix ++ p ∷ [] → IsAdmittedWith ns prefix p
popped ns before prefix p a same = admitted_with ns prefix p (subst (λ c. admits ns c ≡ true) same a)

pub size_at : (ns : List ℕ) (n i size : ℕ) → i ≡ n → slice_get ns i ≡ Some size → slice_index ns n ≡ size
size_at ns n i size same is = get_or_from_slice_get ns n size 0 (subst (λ k. slice_get ns k ≡ Some size) same is)

pub nothing_greater : (sizes prefix : List ℕ) (p : ℕ) → length prefix < length sizes → slice_index sizes (length prefix) ≤ p + 1 → next_beside sizes (prefix ++ p ∷ []) ≡ next_beside sizes prefix
nothing_greater sizes prefix p h k = grind (arith, common_steps, beside_last)

pub beside_found : (sizes prefix : List ℕ) (p : ℕ) → length prefix < length sizes → p + 1 < slice_index sizes (length prefix) → next_beside sizes (prefix ++ p ∷ []) ≡ Some (prefix ++ (p + 1) ∷ [])
beside_found sizes prefix p h k = grind (arith, common_steps, beside_last)

-- the rules by which `complete` and `go_beside` of the search are proved
pub ruleset completed = (admits_next, positive, positive_at, admits_at_most, filled_pushed, filled_whole, first_completion_is)

pub ruleset beside = (popped, size_at, beside_found, nothing_greater)
