-- Lists that begin or end with elements that pass a test.
use Rattle.std.proofs.Common.{◌≡◌, refl, sym, ◌∙◌, inl, inr, ℕ, ◌+◌, ◌-◌, ◌<◌, List, [], ◌∷◌, ◌++◌, length, take, drop, get_or, Bool, true, false, arith, reverse}
use Rattle.std.specs.Prelude.{◌==◌}
use Rattle.std.specs.List.{prefix_len, suffix_len, list_all}
use Rattle.std.proofs.lemmas.List.{drop_at, take_at, length-append, length-reverse, get_or-reverse, get_or-drop, get_or-take, get_or_past, length-drop, length-take-le, get_or_append_left, get_or-append-add}
use Rattle.std.proofs.lemmas.List.Sums.{prefix_len_is, prefix_len_passes, prefix_len_stops, prefix_len-le-length, suffix_len_is, suffix_len-le-length, list_all-from_AllPass, AllPass-from_list_all}
use Rattle.std.proofs.lemmas.Bool.{and_parts, cases_lt, eqb-true}

-- ---- from the front

pub one_byte : (c : ℕ) (text : List ℕ) → 0 < c → (get_or text 0 0 == c) ≡ true → text ≡ c ∷ drop 1 text
one_byte c [] l e = absurd (omega (arith, eqb-true 0 c e))
one_byte c (d ∷ text) l e = rw (eqb-true d c e) refl

pub prefix_all : (p : ℕ → Bool) (xs : List ℕ) → list_all p xs ≡ true → prefix_len p xs ≡ length xs
prefix_all p xs h =
    prefix_len_is p xs (length xs) 0 (omega arith) (λ k l. AllPass-from_list_all p xs h k 0 l)
    (λ l. absurd (omega arith))

pub prefix_whole : (p : ℕ → Bool) (xs ys : List ℕ) → list_all p xs ≡ true → p (get_or ys 0 0) ≡ false → prefix_len p (xs ++ ys) ≡ length xs
prefix_whole p [] [] h e = refl
prefix_whole p [] (y ∷ ys) h e = rw e refl
prefix_whole p (x ∷ xs) ys h e =
    let parts = and_parts (p x) (list_all p xs) h in
    let more = prefix_whole p xs ys parts.1 e in
    rw (parts.0, more) (omega arith)

pub drop_prefix : (p : ℕ → Bool) (xs ys : List ℕ) → list_all p xs ≡ true → p (get_or ys 0 0) ≡ false → drop (prefix_len p (xs ++ ys)) (xs ++ ys) ≡ ys
drop_prefix p xs ys h e = drop_at xs ys (prefix_len p (xs ++ ys)) (sym (prefix_whole p xs ys h e))

pub take_prefix : (p : ℕ → Bool) (xs ys : List ℕ) → list_all p xs ≡ true → p (get_or ys 0 0) ≡ false → take (prefix_len p (xs ++ ys)) (xs ++ ys) ≡ xs
take_prefix p xs ys h e = take_at xs ys (prefix_len p (xs ++ ys)) (sym (prefix_whole p xs ys h e))

pub all_of_prefix : (p : ℕ → Bool) (xs : List ℕ) → list_all p (take (prefix_len p xs) xs) ≡ true
all_of_prefix p xs = list_all-from_AllPass p (take (prefix_len p xs) xs) (λ k d l.
    let n = length-take-le (prefix_len p xs) xs (prefix_len-le-length p xs) in
    rw (get_or-take (prefix_len p xs) xs k d (omega arith)) (prefix_len_passes p xs k d (omega arith)))

pub first_after_prefix : (p : ℕ → Bool) (xs : List ℕ) → p 0 ≡ false → p (get_or (drop (prefix_len p xs) xs) 0 0) ≡ false
first_after_prefix p xs z =
    let at : get_or (drop (prefix_len p xs) xs) 0 0 ≡ get_or xs (prefix_len p xs) 0 =
    (let n : prefix_len p xs + 0 ≡ prefix_len p xs = omega arith in get_or-drop (prefix_len p xs) xs 0 0 ∙ rw n refl) in
    elim (cases_lt (prefix_len p xs) (length xs)) [
      | inl l ↦ rw at (prefix_len_stops p xs 0 l)
      | inr l ↦ rw (at, get_or_past xs (prefix_len p xs) 0 l) z
    ]

-- ---- from the end

pub all_of_suffix : (p : ℕ → Bool) (xs : List ℕ) → list_all p (drop (length xs - suffix_len p xs) xs) ≡ true
all_of_suffix p xs = list_all-from_AllPass p (drop (length xs - suffix_len p xs) xs) (λ k d l.
    let n = length-drop (length xs - suffix_len p xs) xs in
    let s = suffix_len-le-length p xs in
    let j : ℕ = suffix_len p xs - 1 - k in
    let back : length xs - 1 - j ≡ (length xs - suffix_len p xs) + k = omega arith in
    let there = get_or-reverse xs j d (omega arith) in
    let passes = prefix_len_passes p (reverse xs) j d (omega arith) in
    rw (get_or-drop (length xs - suffix_len p xs) xs k d, ← back, ← there) passes)

pub last_before_suffix : (p : ℕ → Bool) (xs : List ℕ) → suffix_len p xs < length xs → p (get_or xs (length xs - suffix_len p xs - 1) 0) ≡ false
last_before_suffix p xs l =
    let there = get_or-reverse xs (suffix_len p xs) 0 l in
    let back : length xs - 1 - suffix_len p xs ≡ length xs - suffix_len p xs - 1 = omega arith in
    let stops = prefix_len_stops p (reverse xs) 0 (omega (arith, length-reverse xs)) in
    rw (← back, ← there) stops

pub take_before_suffix : (p : ℕ → Bool) (xs ys : List ℕ) → list_all p ys ≡ true → p (get_or xs (length xs - 1) 0) ≡ false → take (length (xs ++ ys) - suffix_len p (xs ++ ys)) (xs ++ ys) ≡ xs
take_before_suffix p xs ys h e =
    let n = length-append xs ys in
    let s = suffix_len_is p (xs ++ ys) (length xs) 0 (omega arith)
    (λ k a b.
    let j : ℕ = k - length xs in
    let at : length xs + j ≡ k = omega arith in
    rw (← at, get_or-append-add xs ys j 0) (AllPass-from_list_all p ys h j 0 (omega arith)))
    (λ l. rw (get_or_append_left xs ys 0 (length xs - 1) (omega arith)) e) in
    take_at xs ys (length (xs ++ ys) - suffix_len p (xs ++ ys)) (omega arith)
