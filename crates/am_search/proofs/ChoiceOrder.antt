-- The order of choices, and lists of choices that ascend in it.
use Rattle.std.proofs.Common.{◌≡◌, ℕ, zero, suc, ◌-◌, ◌<◌, Bool, true, false, not, cond, ◌&&◌, List, [], ◌∷◌, length, take, drop, get_or, Option, Some, None, IfSome, slice_get, ap, sym, subst, ◌∙◌, refl, inl, inr, arith, rules}
use Rattle.std.specs.List.{filter, find}
use Rattle.std.specs.List.Sorted.{IsStrictlySortedBy}
use Rattle.std.specs.Ordering.{nat_cmp, is_lt, ordering_reverse}
use Rattle.std.specs.declared.cmp.Ordering.{Ordering}
use Rattle.std.specs.declared.cmp.Ordering.TheVariants.{Less}
use Rattle.std.specs.Cmp.Lexicographic.{slice_cmp}
use Rattle.std.proofs.lemmas.Bool.{false≢true}
use Rattle.std.proofs.lemmas.Cmp.{nat_list_cmp_total}
use Rattle.std.proofs.lemmas.List.Elements.{Contains-get_or}
use Rattle.std.proofs.lemmas.Option.{slice_get_within, get_or_from_slice_get}
use Rattle.std.proofs.lemmas.Grind.{common_steps}
use Rattle.am_universe.proofs.ListLemmas.{IsIn, IsIn-from_Contains, AllByRecursion-at}
use Rattle.am_search.specs.Start.{comes_before, at_or_after}

-- ---- The order.

is_less : (o : Ordering) → is_lt o ≡ true → o ≡ Less
is_less Less h = refl
is_less o h = absurd (false≢true h)

not_both : (o : Ordering) → o ≡ ordering_reverse o → is_lt o ≡ false
not_both Less e = ap is_lt e
not_both o e = refl

pub not_itself : (c : List ℕ) → comes_before c c ≡ false
not_itself c = not_both (slice_cmp nat_cmp c c) (nat_list_cmp_total.antisymm c c)

pub before_trans : (a b c : List ℕ) → comes_before a b ≡ true → comes_before b c ≡ true → comes_before a c ≡ true
before_trans a b c h k = ap is_lt (nat_list_cmp_total.trans a b c (is_less _ h) (is_less _ k))

pub not_back : (a b : List ℕ) → comes_before a b ≡ true → comes_before b a ≡ false
not_back a b h = ap is_lt (nat_list_cmp_total.antisymm b a) ∙ ap (λ o. is_lt (ordering_reverse o)) (is_less _ h)

-- ---- Filters.

pub filter_step : {X : Type 0} (test : X → Bool) (x : X) (xs : List X) (b : Bool) → test x ≡ b → filter test (x ∷ xs) ≡ cond b (x ∷ filter test xs) (filter test xs)
filter_step test x xs b e = ap (λ b. cond b (x ∷ filter test xs) (filter test xs)) e

pub filter_all : {X : Type 0} (test : X → Bool) (xs : List X) → ((y : X) → IsIn xs y → test y ≡ true) → filter test xs ≡ xs
filter_all test [] h = refl
filter_all test (x ∷ xs) h = filter_step test x xs true (h x (inl refl)) ∙ ap (λ l. x ∷ l) (filter_all test xs (λ y i. h y (inr i)))

pub filter_none : {X : Type 0} (test : X → Bool) (xs : List X) → ((y : X) → IsIn xs y → test y ≡ false) → filter test xs ≡ []
filter_none test [] h = refl
filter_none test (x ∷ xs) h = filter_step test x xs false (h x (inl refl)) ∙ filter_none test xs (λ y i. h y (inr i))

pub filter_same : {X : Type 0} (f g : X → Bool) (xs : List X) → ((y : X) → IsIn xs y → f y ≡ g y) → filter f xs ≡ filter g xs
filter_same f g [] h = refl
filter_same f g (x ∷ xs) h = filter_step f x xs (g x) (h x (inl refl)) ∙ ap (λ l. cond (g x) (x ∷ l) l) (filter_same f g xs (λ y i. h y (inr i)))

-- a filter by one test, and then by another
pub twice : {X : Type 0} (f g : X → Bool) (xs : List X) → filter g (filter f xs) ≡ filter (λ x. f x && g x) xs
twice f g [] = refl
twice f g (x ∷ xs) = grind (arith, common_steps, twice f g xs)

pub filters_swapped : {X : Type 0} (f g : X → Bool) (xs : List X) → filter f (filter g xs) ≡ filter g (filter f xs)
filters_swapped {X} f g xs =
    let same : (x : X) → (g x && f x) ≡ (f x && g x) = λ x. grind (arith, common_steps) in
    twice g f xs ∙ filter_same _ _ xs (λ x i. same x) ∙ sym (twice f g xs)

pub in_filter : {X : Type 0} (test : X → Bool) (xs : List X) (y : X) → IsIn (filter test xs) y → IsIn xs y × (test y ≡ true)
in_filter test [] y h = absurd h
in_filter test (x ∷ xs) y h = grind (arith, common_steps, in_filter test xs y)

-- a filter keeps all members that pass the test
pub into_filter : {X : Type 0} (test : X → Bool) (xs : List X) (x : X) → IsIn xs x → test x ≡ true → IsIn (filter test xs) x
into_filter test [] x i h = absurd i
into_filter test (y ∷ xs) x (inl e) h = subst (λ l. IsIn l x) (sym (filter_step test y xs true (ap test e ∙ h))) (inl e)
into_filter test (y ∷ xs) x (inr i) h = grind (arith, common_steps, into_filter test xs x i h)

-- what is at an index of a list is a member
pub got_at : {X : Type 0} (xs : List X) (k : ℕ) (x : X) → slice_get xs k ≡ Some x → IsIn xs x
got_at xs k x e = IsIn-from_Contains xs x (k, slice_get_within xs k x e, get_or_from_slice_get xs k x x e)

-- if none passes, none is found
pub none_found : {X : Type 0} (test : X → Bool) (xs : List X) → ((x : X) → IsIn xs x → test x ≡ false)
    → find test xs ≡ None
none_found test [] none = refl
none_found test (x ∷ xs) none = rw (none x (inl refl)) (none_found test xs (λ y i. none y (inr i)))

-- the first that passes is a member
pub found_in : (test : List ℕ → Bool) (xs : List (List ℕ)) → IfSome (find test xs) (λ f. IsIn xs f)
found_in test [] = tt
found_in test (x ∷ xs) = grind (arith, common_steps, found_in test xs)

-- ---- Lists of choices that ascend.

abbrev pub Ascends : List (List ℕ) → Type 0
Ascends = IsStrictlySortedBy (slice_cmp nat_cmp)

pub above_first : (x : List ℕ) (xs : List (List ℕ)) (y : List ℕ) → Ascends (x ∷ xs) → IsIn xs y → comes_before x y ≡ true
unfolding IsStrictlySortedBy
above_first x xs y s i = ap is_lt (AllByRecursion-at (λ z. slice_cmp nat_cmp x z ≡ Less) xs y s.0 i)

pub ascends_rest : (x : List ℕ) (xs : List (List ℕ)) → Ascends (x ∷ xs) → Ascends xs
unfolding IsStrictlySortedBy
ascends_rest x xs s = s.1

-- the first one is the member that no other comes before
pub first_is : (xs : List (List ℕ)) (c : List ℕ) → Ascends xs → IsIn xs c → ((x : List ℕ) → IsIn xs x → comes_before x c ≡ false) → slice_get xs 0 ≡ Some c
first_is [] c s i least = absurd i
first_is (x ∷ xs) c s (inl e) least = ap Some e
first_is (x ∷ xs) c s (inr i) least = absurd (false≢true (sym (least x (inl refl)) ∙ above_first x xs c s i))

-- all members are at or after the first one
pub from_first : (x : List ℕ) (xs : List (List ℕ)) → Ascends (x ∷ xs) → at_or_after (Some x) (x ∷ xs) ≡ x ∷ xs
from_first x xs s = grind (arith, common_steps, filter_step, not_itself, filter_all, not_back, above_first)

-- all members but the first one come after it
after_first : (x : List ℕ) (xs : List (List ℕ)) → Ascends (x ∷ xs) → filter (comes_before x) (x ∷ xs) ≡ xs
after_first x xs s = filter_step (comes_before x) x xs false (not_itself x) ∙ filter_all (comes_before x) xs (λ y i. above_first x xs y s i)

from_later : (x : List ℕ) (xs : List (List ℕ)) (o : Option (List ℕ)) → Ascends (x ∷ xs) → IfSome o (λ f. IsIn xs f) → at_or_after o (x ∷ xs) ≡ at_or_after o xs
from_later x xs None s h = refl
from_later x xs (Some f) s h = filter_step (λ d. not (comes_before d f)) x xs false (ap not (above_first x xs f s h))

-- from a member on: the member, and those that come after it
pub from_member : (xs : List (List ℕ)) (c : List ℕ) → Ascends xs → IsIn xs c → at_or_after (Some c) xs ≡ c ∷ filter (comes_before c) xs
from_member [] c s i = absurd i
from_member (x ∷ xs) c s (inl e) = grind (arith, common_steps, from_first, after_first)
from_member (x ∷ xs) c s (inr i) =
    grind (arith, common_steps, above_first, from_later, from_member xs c, ascends_rest, filter_step, not_back)

-- from the first member after a choice on, all come after the choice
pub from_found : (xs : List (List ℕ)) (c : List ℕ) → Ascends xs → at_or_after (find (comes_before c) xs) xs ≡ filter (comes_before c) xs
from_found [] c s = refl
from_found (x ∷ xs) c s =
    grind (arith, common_steps, from_found xs c, ascends_rest, from_first, filter_all, before_trans, above_first, from_later, found_in, filter_step)

-- from a member on: the member, and those from the first after it on
pub member_then_rest : (xs : List (List ℕ)) (c : List ℕ) → Ascends xs → IsIn xs c → at_or_after (Some c) xs ≡ c ∷ at_or_after (find (comes_before c) xs) xs
member_then_rest xs c s i = from_member xs c s i ∙ ap (λ l. c ∷ l) (sym (from_found xs c s))

-- ---- What is left behind so many of them.

pub in_at : {X : Type 0} (ys : List X) (k : ℕ) (d : X) → k < length ys → IsIn ys (get_or ys k d)
in_at ys k d h = IsIn-from_Contains ys (get_or ys k d) (Contains-get_or ys k d h)

after_nth : (xs : List (List ℕ)) (n : ℕ) → Ascends xs → n < length xs → filter (comes_before (get_or xs n [])) xs ≡ drop (suc n) xs
after_nth [] n s h = absurd (omega arith)
after_nth (x ∷ xs) zero s h = after_first x xs s
after_nth (x ∷ xs) (suc n) s h = search (rules, above_first, in_at, filter_step, not_back, after_nth xs n, ascends_rest)

-- after the last of the first `n` come the others
pub after_taken : (xs : List (List ℕ)) (n : ℕ) → Ascends xs → 0 < n → n < length xs → filter (comes_before (get_or xs (n - 1) [])) xs ≡ drop n xs
after_taken xs n s some h =
    let same : suc (n - 1) ≡ n = omega arith in
    after_nth xs (n - 1) s (omega arith) ∙ ap (λ k. drop k xs) same

-- the members up to the index `n` are those that the member at `n` does not come before
up_to_nth : (xs : List (List ℕ)) (n : ℕ) → Ascends xs → n < length xs → filter (λ d. not (comes_before (get_or xs n []) d)) xs ≡ take (suc n) xs
up_to_nth [] n s h = absurd (omega arith)
up_to_nth (x ∷ xs) zero s h = search (rules, filter_step, not_itself, filter_none, above_first)
up_to_nth (x ∷ xs) (suc n) s h = search (rules, above_first, in_at, filter_step, not_back, up_to_nth xs n, ascends_rest)

pub up_to_taken : (xs : List (List ℕ)) (n : ℕ) → Ascends xs → 0 < n → n < length xs → filter (λ d. not (comes_before (get_or xs (n - 1) []) d)) xs ≡ take n xs
up_to_taken xs n s some h =
    let same : suc (n - 1) ≡ n = omega arith in
    up_to_nth xs (n - 1) s (omega arith) ∙ ap (λ k. take k xs) same

pub taken_last : (xs : List (List ℕ)) (n : ℕ) → 0 < n → n < length xs → IsIn xs (get_or xs (n - 1) [])
taken_last xs n some h = in_at xs (n - 1) [] (omega arith)
