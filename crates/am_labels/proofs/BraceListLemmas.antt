-- The first index of a range at which a test passes.
use Rattle.std.proofs.Common.{option_map, ◌≡◌, ℕ, zero, suc, ◌+◌, ◌<◌, ◌≤◌, inl, inr, Bool, true}
use Rattle.std.proofs.Common.{false, cond, Option, Some, None, refl, ap, ◌∙◌, arith}
use Rattle.std.proofs.lemmas.Bool.{cases_lt}
use Rattle.std.specs.List.{find, range_with_len}

pub find_at : (test : ℕ → Bool) (start count i : ℕ) → start ≤ i → i < start + count → ((k : ℕ) → k < i → test k ≡ false) → test i ≡ true → find test (range_with_len start count) ≡ Some i
find_at test start zero i le lt before here = absurd (omega arith)
find_at test start (suc count) i le lt before here =
    elim (cases_lt start i) [
      | inl less ↦ rw (before start less) (find_at test (start + 1) count i (omega arith) (omega arith) before here)
      | inr not_less ↦
          let same : start ≡ i = omega arith in
          let passes : test start ≡ true = ap test same ∙ here in
          rw passes (ap (λ (n : ℕ). Some n) same)
    ]

pub find_none : (test : ℕ → Bool) (start count : ℕ) → ((k : ℕ) → k < start + count → test k ≡ false) → find test (range_with_len start count) ≡ None
find_none test start zero none = refl
find_none test start (suc count) none = rw (none start (omega arith)) (find_none test (start + 1) count (λ k h. none k (omega arith)))

-- A list in braces has a length only if its text begins with `{` and a closing brace follows.
pub opened : (b : Bool) (o : Option ℕ) (n : ℕ) → cond b (option_map (λ i. i + 1) o) None ≡ Some n → (b ≡ true) × ((i : ℕ) × (o ≡ Some i) × (i + 1 ≡ n))
opened true (Some i) n e = (refl, (i, refl, cc))
opened b o n e = absurd cc
