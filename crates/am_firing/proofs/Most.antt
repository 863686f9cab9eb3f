-- The first of some numbers that is the largest.
use Rattle.std.proofs.Common.{◌≡◌, ◌<◌, ◌≤◌, ◌+◌, ◌&&◌, ℕ, suc, nat_le, List, [], ◌∷◌, ◌++◌}
use Rattle.std.proofs.Common.{length, Bool, true, false, refl, ap, ◌∙◌, inl, inr, arith, Some, None}
use Rattle.std.specs.List.{find, enumerate_from}
use Rattle.std.proofs.lemmas.Bool.{cases_Bool, and_parts, and_from, leb-true}
use Rattle.std.proofs.lemmas.Bool.Decides.{nat_tests}
use Rattle.std.proofs.lemmas.List.Folds.{find-append}
use Rattle.std.proofs.lemmas.Option.{same_Some}
use Rattle.am_universe.proofs.ListLemmas.{IsIn}
use Rattle.am_firing.specs.Wide.{is_many, is_most, widest}

and_false : (b : Bool) → (b && false) ≡ false
and_false true = refl
and_false false = refl

not_most : (xs : List ℕ) (n x : ℕ) → IsIn xs n → x < n → is_most xs x ≡ false
not_most [] n x i lt = absurd i
not_most (y ∷ ys) n x (inl same) lt =
    let no : nat_le y x ≡ false = grind (arith, nat_tests) in rw no refl
not_most (y ∷ ys) n x (inr later) lt = elim (cases_Bool (nat_le y x)) [
  | inl le ↦ rw le (not_most ys n x later lt)
  | inr above ↦ rw above refl
]

-- where a search ends
find_in : {X : Type 0} (test : X → Bool) (xs : List X) (x : X) → find test xs ≡ Some x → IsIn xs x
find_in test [] x e = absurd (cc)
find_in test (y ∷ ys) x e = elim (cases_Bool (test y)) [
  | inl passes ↦ let same : y ≡ x = same_Some y x (rw passes at e) in inl same
  | inr fails ↦ inr (find_in test ys x (rw fails at e))
]

find_none : {X : Type 0} (test : X → Bool) (xs : List X)
    → ((x : X) → IsIn xs x → test x ≡ false) → find test xs ≡ None
find_none test [] each = refl
find_none test (x ∷ xs) each =
    rw (each x (inl refl)) (find_none test xs (λ y i. each y (inr i)))

find_same : {X : Type 0} (p q : X → Bool) (xs : List X)
    → ((x : X) → IsIn xs x → p x ≡ q x) → find p xs ≡ find q xs
find_same p q [] each = refl
find_same p q (x ∷ xs) each =
    let later = find_same p q xs (λ y i. each y (inr i)) in
    rw (each x (inl refl), later) refl

numbered_push : {X : Type 0} (from : ℕ) (xs : List X) (x : X)
    → enumerate_from from (xs ++ x ∷ []) ≡ enumerate_from from xs ++ (from + length xs, x) ∷ []
numbered_push from [] x = let e : from ≡ from + 0 = omega arith in rw (← e) refl
numbered_push from (y ∷ ys) x =
    let e : (from + 1) + length ys ≡ from + suc (length ys) = omega arith in
    let later = numbered_push (from + 1) ys x in
    ap (λ zs. (from, y) ∷ zs) (rw e at later)

numbered_in : {X : Type 0} (from : ℕ) (xs : List X) (p : ℕ × X) → IsIn (enumerate_from from xs) p → IsIn xs p.1
numbered_in from [] p i = absurd i
numbered_in from (x ∷ xs) p (inl same) = inl (ap (λ q. q.1) same)
numbered_in from (x ∷ xs) p (inr later) = inr (numbered_in (from + 1) xs p later)

most_in : (xs : List ℕ) (n x : ℕ) → is_most xs n ≡ true → IsIn xs x → x ≤ n
most_in [] n x all i = absurd i
most_in (y ∷ ys) n x all (inl same) =
    let parts = and_parts (nat_le y n) (is_most ys n) all in
    let le : y ≤ n = leb-true y n parts.0 in omega (arith, same)
most_in (y ∷ ys) n x all (inr later) =
    most_in ys n x (and_parts (nat_le y n) (is_most ys n) all).1 later

most_push : (xs : List ℕ) (n x : ℕ) → is_most xs n ≡ true → x ≤ n → is_most (xs ++ x ∷ []) n ≡ true
most_push [] n x all le = grind (arith, nat_tests, and_from)
most_push (y ∷ ys) n x all le =
    let parts = and_parts (nat_le y n) (is_most ys n) all in
    and_from (nat_le y n) (is_most (ys ++ x ∷ []) n) parts.0 (most_push ys n x parts.1 le)

most_more : (xs : List ℕ) (n m : ℕ) → is_most xs n ≡ true → n ≤ m → is_most xs m ≡ true
most_more [] n m all le = refl
most_more (y ∷ ys) n m all le =
    let parts = and_parts (nat_le y n) (is_most ys n) all in
    let here : nat_le y m ≡ true = grind (arith, nat_tests) in
    and_from (nat_le y m) (is_most ys m) here (most_more ys n m parts.1 le)

pub record IsMostSoFar (xs : List ℕ) (k n : ℕ) : Type 0 where
  pub all : is_most xs n ≡ true
  pub first : 0 < n → find (λ f. nat_le n f.1) (enumerate_from 0 xs) ≡ Some (k, n)

pub most_of_none : IsMostSoFar [] 0 0
most_of_none = record { all = refl; first = λ lt. absurd (omega (arith, lt)) }

pub most_takes : (xs : List ℕ) (k n x : ℕ) → IsMostSoFar xs k n → n < x
    → IsMostSoFar (xs ++ x ∷ []) (length xs) x
most_takes xs k n x so_far lt =
    let below : find (λ f. nat_le x f.1) (enumerate_from 0 xs) ≡ None =
    find_none (λ (f : ℕ × ℕ). nat_le x f.1) (enumerate_from 0 xs) (λ f i.
    let le = most_in xs n f.1 so_far.all (numbered_in 0 xs f i) in grind (arith, nat_tests)) in
    let here : nat_le x x ≡ true = grind (arith, nat_tests) in
    let at : 0 + length xs ≡ length xs = omega arith in
    record {
      all = most_push xs x x (most_more xs n x so_far.all (omega arith)) (omega arith);
      first = λ _. rw (numbered_push 0 xs x, find-append (λ (f : ℕ × ℕ). nat_le x f.1), below, here, at) refl;
    }

pub most_keeps : (xs : List ℕ) (k n x : ℕ) → IsMostSoFar xs k n → x ≤ n
    → IsMostSoFar (xs ++ x ∷ []) k n
most_keeps xs k n x so_far le = record {
  all = most_push xs n x so_far.all le;
  first = λ some. rw (numbered_push 0 xs x, find-append (λ (f : ℕ × ℕ). nat_le n f.1), so_far.first some) refl;
}

-- the most is many, or none is
pub widest_is : (xs : List ℕ) (k n : ℕ) → IsMostSoFar xs k n → is_many xs n ≡ true
    → widest xs ≡ Some (k, n)
widest_is xs k n whole many =
    let ten : 10 ≤ n = leb-true 10 n (and_parts (nat_le 10 n) _ many).0 in
    let found = whole.first (omega arith) in
    let there : IsIn xs n = numbered_in 0 xs (k, n) (find_in (λ (f : ℕ × ℕ). nat_le n f.1) _ _ found) in
    find_same (λ (f : ℕ × ℕ). is_many xs f.1 && is_most xs f.1) (λ f. nat_le n f.1) (enumerate_from 0 xs) (λ f i.
    let le = most_in xs n f.1 whole.all (numbered_in 0 xs f i) in
    elim (cases_Bool (nat_le n f.1)) [
      | inl ge ↦ let same : f.1 ≡ n = (let h = leb-true n f.1 ge in omega arith) in
          rw (ge, same) (and_from _ _ many whole.all)
      | inr less ↦ let lt : f.1 < n = grind (arith, nat_tests) in
          rw (less, not_most xs n f.1 there lt) (and_false (is_many xs f.1))
    ])
    ∙ found

pub widest_none : (xs : List ℕ) (k n : ℕ) → IsMostSoFar xs k n → is_many xs n ≡ false
    → widest xs ≡ None
widest_none xs k n whole few =
    find_none (λ (f : ℕ × ℕ). is_many xs f.1 && is_most xs f.1) (enumerate_from 0 xs) (λ f i.
    let le = most_in xs n f.1 whole.all (numbered_in 0 xs f i) in
    elim (cases_Bool (nat_le n f.1)) [
      | inl ge ↦ let same : f.1 ≡ n = (let h = leb-true n f.1 ge in omega arith) in
          rw (same, few) refl
      | inr less ↦
          let lt : f.1 < n = grind (arith, nat_tests) in
          let there : IsIn xs n = numbered_in 0 xs (k, n) (find_in (λ (f : ℕ × ℕ). nat_le n f.1) _ _ (whole.first (omega arith))) in
          rw (not_most xs n f.1 there lt) (and_false (is_many xs f.1))
    ])

-- the most that is not zero has a position
numbered_within : {X : Type 0} (from : ℕ) (xs : List X) (p : ℕ × X)
    → IsIn (enumerate_from from xs) p → p.0 < from + length xs
numbered_within from [] p i = absurd i
numbered_within from (x ∷ xs) p (inl same) = omega (arith, ap (λ q. q.0) same)
numbered_within from (x ∷ xs) p (inr later) =
    let h = numbered_within (from + 1) xs p later in omega (arith, h)

pub widest_within : (xs : List ℕ) (k n : ℕ) → IsMostSoFar xs k n → 0 < n → k < length xs
widest_within xs k n whole some =
    let h = numbered_within 0 xs (k, n)
    (find_in (λ (f : ℕ × ℕ). nat_le n f.1) _ _ (whole.first some)) in omega (arith, h)
