-- How routes stand relative to each other, step by step.
use Rattle.std.proofs.Common.{◌≡◌, ◌⊎◌, inl, inr, ◌<◌, ◌+◌, ℕ, List, [], ◌∷◌, length, true, false}
use Rattle.std.proofs.Common.{refl, sym, ap, ◌∙◌, arith}
use Rattle.std.specs.Prelude.{◌==◌, ◌&&◌, IsTrue}
use Rattle.std.specs.Ordering.{nat_cmp}
use Rattle.std.specs.declared.cmp.Ordering.TheVariants.{Less}
use Rattle.std.specs.Cmp.Lexicographic.{slice_cmp}
use Rattle.std.proofs.lemmas.Bool.{false≢true, and_parts, and_from, ltb-true}
use Rattle.std.proofs.lemmas.Bool.Decides.{nat_tests}
use Rattle.std.proofs.lemmas.Grind.{common_steps}
use Rattle.am_universe.proofs.ChoiceLemmas.{same_first, less_first}
use Rattle.am_config.specs.Path.{leads_through}
use Rattle.am_search.proofs.PrefixOrder.{begins_parts, begins_same}
use Rattle.am_lint.specs.Places.{stands_before, is_child_of}

-- ---- Earlier siblings.

pub same_step : (p : ℕ) (path other : List ℕ)
    → stands_before (p ∷ path) (p ∷ other) ≡ stands_before path other
same_step p path [] = grind (arith, nat_tests)
same_step p path (r ∷ other) =
    let same : (p == p) ≡ true = grind (arith, nat_tests) in
    rw same refl

pub no_way : (path other : List ℕ) → length path < 1 → stands_before path other ≡ false
no_way [] [] none = refl
no_way [] (q ∷ other) none = refl
no_way (p ∷ path) other none = absurd (omega arith)

pub no_other : (path other : List ℕ) → length other < 1 → stands_before path other ≡ false
no_other path [] none = refl
no_other path (q ∷ other) none = absurd (omega arith)

pub ruleset before_nowhere = (no_way, no_other)

-- ---- Children.

pub same_child : (p : ℕ) (path other : List ℕ)
    → is_child_of (p ∷ path) (p ∷ other) ≡ is_child_of path other
same_child p path other =
    let shorter : (length (p ∷ other) == length (p ∷ path) + 1) ≡ (length other == length path + 1) =
    grind (arith, nat_tests) in
    λ i. shorter i && begins_same p other path i

inner_child : (p k : ℕ) (path q : List ℕ) → IsTrue (is_child_of (p ∷ path) (k ∷ q))
    → (k ≡ p) × IsTrue (is_child_of path q)
inner_child p k path q child =
    let same = (begins_parts k p q path
    (and_parts _ (leads_through (p ∷ path) (k ∷ q)) child).1).0 in
    (same, sym (ap (λ n. is_child_of (p ∷ path) (n ∷ q)) same ∙ same_child p path q) ∙ child)

-- ---- The way to an earlier sibling, or to a child.

pub before_below : (path q r : List ℕ) → IsTrue (stands_before path q)
    → IsTrue (leads_through r q) → (r ≡ q) ⊎ IsTrue (leads_through r path)
before_below path q [] stands leads = inr refl
before_below path [] (x ∷ r) stands leads = absurd (false≢true stands)
before_below [] (k ∷ q) (x ∷ r) stands leads = absurd (false≢true stands)
before_below (p ∷ path) (k ∷ []) (x ∷ []) stands leads =
    grind (arith, common_steps, begins_parts)
before_below (p ∷ path) (k ∷ []) (x ∷ y ∷ r) stands leads =
    absurd (false≢true (begins_parts k x [] (y ∷ r) leads).1)
before_below (p ∷ path) (k ∷ o ∷ q) (x ∷ r) stands leads =
    grind (arith, common_steps, nat_tests, and_parts, begins_parts, begins_same, before_below path (o ∷ q) r)

pub child_below : (path q r : List ℕ) → IsTrue (is_child_of path q)
    → IsTrue (leads_through r q) → (r ≡ q) ⊎ IsTrue (leads_through r path)
child_below path q [] child leads = inr refl
child_below path [] (x ∷ r) child leads = absurd (false≢true leads)
child_below [] (k ∷ []) (x ∷ []) child leads =
    grind (arith, common_steps, begins_parts)
child_below [] (k ∷ []) (x ∷ y ∷ r) child leads =
    absurd (false≢true (begins_parts k x [] (y ∷ r) leads).1)
child_below [] (k ∷ o ∷ q) (x ∷ r) child leads =
    grind (arith, common_steps, nat_tests, and_parts)
child_below (p ∷ path) (k ∷ q) (x ∷ r) child leads =
    grind (arith, common_steps, inner_child, begins_parts, begins_same, child_below path q r)

-- ---- What stands before an earlier sibling, or before a child.

pub before_through : (path q o : List ℕ) → IsTrue (stands_before path q)
    → IsTrue (stands_before q o) → IsTrue (stands_before path o)
before_through path q [] first second = absurd (false≢true second)
before_through path [] (x ∷ o) first second = absurd (false≢true second)
before_through [] (k ∷ q) (x ∷ o) first second = absurd (false≢true first)
before_through (p ∷ path) (k ∷ []) (x ∷ []) first second = grind (arith, common_steps, nat_tests)
before_through (p ∷ path) (k ∷ []) (x ∷ y ∷ o) first second =
    absurd (false≢true (and_parts (k == x) false second).1)
before_through (p ∷ path) (k ∷ m ∷ q) (x ∷ []) first second =
    grind (arith, common_steps, nat_tests, and_parts)
before_through (p ∷ path) (k ∷ m ∷ q) (x ∷ y ∷ o) first second =
    grind (arith, common_steps, nat_tests, and_parts, and_from, before_through path (m ∷ q) (y ∷ o))

pub child_before : (path q o : List ℕ) → IsTrue (is_child_of path q)
    → IsTrue (stands_before q o) → IsTrue (is_child_of path o) ⊎ IsTrue (stands_before path o)
child_before path q [] child before = absurd (false≢true before)
child_before path [] (x ∷ o) child before = absurd (false≢true before)
child_before [] (k ∷ q) (x ∷ []) child before = inl refl
child_before [] (k ∷ q) (x ∷ y ∷ o) child before =
    grind (arith, common_steps, nat_tests, and_parts, no_way)
child_before (p ∷ path) (k ∷ q) (x ∷ []) child before =
    grind (arith, common_steps, nat_tests, inner_child)
child_before (p ∷ path) (k ∷ q) (x ∷ y ∷ o) child before =
    grind (arith, common_steps, nat_tests, and_parts, and_from, inner_child, same_child, child_before path q (y ∷ o))

pub before_less : (q o : List ℕ) → IsTrue (stands_before q o) → slice_cmp nat_cmp o q ≡ Less
before_less q [] before = absurd (false≢true before)
before_less [] (x ∷ o) before = absurd (false≢true before)
before_less (p ∷ q) (x ∷ []) before = less_first x p [] q (ltb-true x p before)
before_less (p ∷ q) (x ∷ y ∷ o) before =
    grind (arith, common_steps, nat_tests, and_parts, same_first, before_less q (y ∷ o))
