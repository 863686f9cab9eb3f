-- A set of the values that were seen, beside the list of them.
use Rattle.std.proofs.Common.{◌≡◌, ℕ, Bool, true, false, ◌||◌, List, [], ◌∷◌, ◌++◌, Option, Some, None}
use Rattle.std.proofs.Common.{HashSet, nat_eq, refl, sym, ap, ap₂, ◌∙◌}
use Rattle.std.specs.Borrow.{Bor}
use Rattle.std.specs.Cmp.Lexicographic.{nat_list_eq_equiv, pointwise}
use Rattle.std.specs.HashSet.{PutsKey}
use Rattle.std.specs.List.{list_any}
use Rattle.std.specs.Option.{option_eq}
use Rattle.std.proofs.lemmas.Bool.{false≢true}
use Rattle.std.proofs.lemmas.List.Folds.{list_any-append}
use Rattle.std.proofs.lemmas.List.Sorted.{list_any-IsPermutation}
use Rattle.am_universe.specs.Universe.{Values, same_value}
use Rattle.am_list_files.specs.SeenValues.{AreSeen, seen_value}

-- keys are equal if their values are the same
abbrev same_key : Option (Bor (List ℕ)) → Option (Bor (List ℕ)) → Bool
same_key = option_eq (λ s t. pointwise nat_eq s.now t.now)

same_key_is : (x k : Option (Bor (List ℕ)))
    → same_key x k ≡ same_value (seen_value k) (seen_value x)
same_key_is None None = refl
same_key_is None (Some k) = refl
same_key_is (Some x) None = refl
same_key_is (Some x) (Some k) = nat_list_eq_equiv.symm x.now k.now

any_key_is : (x : Option (Bor (List ℕ))) (keys : List (Option (Bor (List ℕ))))
    → list_any (same_key x) keys
    ≡ list_any (λ key. same_value (seen_value key) (seen_value x)) keys
any_key_is x [] = refl
any_key_is x (k ∷ keys) = ap₂ ◌||◌ (same_key_is x k) (any_key_is x keys)

other_way : (new before : Bool) → (new || before) ≡ (before || (new || false))
other_way true true = refl
other_way true false = refl
other_way false true = refl
other_way false false = refl

module _ {S : Type 0} (seen : HashSet (Option (Bor (List ℕ))) S) (before : Values)
    (x : Option (Bor (List ℕ))) (are : AreSeen seen before) where
  -- a key is there if its value is among those that were seen
  pub seen_is : list_any (same_key x) seen.keys
      ≡ list_any (λ other. same_value other (seen_value x)) before
  seen_is = any_key_is x seen.keys ∙ are (seen_value x)

  -- a value that was not seen is seen then
  pub seen_more : (more : HashSet (Option (Bor (List ℕ))) S) (added : Bool) → added ≡ true
      → PutsKey seen more x added → AreSeen more (before ++ seen_value x ∷ [])
  seen_more more false added is = absurd (false≢true added)
  seen_more more true added is = λ value.
      let test : Option (Bor (List ℕ)) → Bool = λ key. same_value (seen_value key) value in
      let same : Option (List ℕ) → Bool = λ other. same_value other value in
      sym (list_any-IsPermutation test (x ∷ seen.keys) more.keys is)
      ∙ ap (λ b. test x || b) (are value)
      ∙ other_way (test x) (list_any same before)
      ∙ sym (list_any-append same before (seen_value x ∷ []))
