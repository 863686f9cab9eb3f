-- Texts that are not among others, as the code finds them by a set, and which of them are new.
use Rattle.std.proofs.Common.{◌≡◌, ℕ, Bool, true, false, Bor, List, [], ◌∷◌, ◌++◌, Contains}
use Rattle.std.proofs.Common.{append_assoc, refl, sym, subst, inl, inr}
use Rattle.std.specs.Prelude.{IsPermutation}
use Rattle.std.specs.Bool.{MatchBool}
use Rattle.std.specs.Cmp.Lexicographic.{bytes_decides}
use Rattle.std.specs.List.{AllByRecursion, list_any}
use Rattle.am_universe.specs.Text.{same_text}
use Rattle.am_universe.proofs.DistinctLists.{all_push}
use Rattle.am_universe.proofs.ListLemmas.{IsIn, IsIn-left, IsIn-right, IsIn-split}
use Rattle.am_universe.proofs.ListLemmas.{IsIn-from_Contains, Contains-from_IsIn}
use Rattle.am_universe.proofs.ListLemmas.{AllByRecursion-at, AllByRecursion-each}
use Rattle.am_labels.specs.Matcher.{Matcher}
use Rattle.am_labels.proofs.Passing.{any_in}
use Rattle.am_classes.specs.Alike.{HasAlikeIn}
use Rattle.am_classes.specs.Truths.{AreNewIn}
use Rattle.am_classes.proofs.AlikeLemmas.{alike_itself}
use Rattle.am_complete.proofs.NeededTexts.{all_from}
use Rattle.am_complete.proofs.RepresentativeTexts.{all_moved}

-- ---- A set of texts.

-- what is so of the keys of a set and of one more is so of the keys with that one
pub keys_put : {K : Type 0} (P : K → Type 0) (old new : List K) (k : K) (added : Bool)
    → AllByRecursion P old → P k
    → MatchBool added (IsPermutation (k ∷ old) new) (new ≡ old) → AllByRecursion P new
keys_put P old new k true all is moved = all_moved P (k ∷ old) new moved (is, all)
keys_put P old new k false all is same = subst (AllByRecursion P) (sym same) all

-- a text that is found in a set of texts is one of them
pub found_there : (there : List (List ℕ)) (keys : List (Bor (List ℕ))) (x : List ℕ)
    → AllByRecursion (λ k. Contains there k.now) keys
    → list_any (λ k. same_text x k.now) keys ≡ true → Contains there x
found_there there keys x all found =
    let k = any_in (λ k. same_text x k.now) keys found in
    subst (Contains there) (sym ((bytes_decides x k.0.now).0 k.2))
    (AllByRecursion-at (λ y. Contains there y.now) keys k.0 all k.1)

-- ---- Texts beside others.

-- some are among the texts, and each text is one of them or among the others
abbrev pub AreBeside : (others texts beside : List (List ℕ)) → Type 0
AreBeside others texts beside =
    AllByRecursion (Contains texts) beside × AllByRecursion (Contains (others ++ beside)) texts

within : (xs ys texts : List (List ℕ)) → ((y : List ℕ) → IsIn xs y → IsIn ys y)
    → AllByRecursion (Contains xs) texts → AllByRecursion (Contains ys) texts
within xs ys texts more all =
    AllByRecursion-each (Contains ys) texts (λ y i. Contains-from_IsIn ys y
    (more y (IsIn-from_Contains xs y (AllByRecursion-at (Contains xs) texts y all i))))

module _ (others texts beside : List (List ℕ)) (x : List ℕ) (h : AreBeside others texts beside) where
  from_more : AllByRecursion (Contains (texts ++ x ∷ [])) beside
  from_more = within texts (texts ++ x ∷ []) beside (λ y i. IsIn-left texts (x ∷ []) y i) h.0

  pub one_among : Contains others x → AreBeside others (texts ++ x ∷ []) beside
  one_among there = (
    from_more,
    all_push (Contains (others ++ beside)) texts x h.1 (Contains-from_IsIn (others ++ beside) x
        (IsIn-left others beside x (IsIn-from_Contains others x there))),
  )

  pub one_beside : AreBeside others (texts ++ x ∷ []) (beside ++ x ∷ [])
  one_beside =
      let more = beside ++ x ∷ [] in (
        all_push (Contains (texts ++ x ∷ [])) beside x from_more
            (Contains-from_IsIn (texts ++ x ∷ []) x (IsIn-right texts (x ∷ []) x (inl refl))),
        all_push (Contains (others ++ more)) texts x
            (within (others ++ beside) (others ++ more) texts (λ y i.
            subst (λ ys. IsIn ys y) (append_assoc others beside (x ∷ []))
            (IsIn-left (others ++ beside) (x ∷ []) y i)) h.1)
            (Contains-from_IsIn (others ++ more) x
            (IsIn-right others more x (IsIn-right beside (x ∷ []) x (inl refl)))),
      )

-- what is new of the texts beside those that are there is new of all of them
pub new_beside : (ms : List Matcher) (others there wanted beside texts : List (List ℕ))
    → others ≡ there → AreBeside others wanted beside → AreNewIn ms there beside texts
    → AreNewIn ms there wanted texts
new_beside ms others there wanted beside texts same h new =
    let all = subst (λ xs. AllByRecursion (Contains (xs ++ beside)) wanted) same h.1 in
    record {
      from = all_from (Contains wanted) beside texts h.0 new.from;
      apart = new.apart;
      new = new.new;
      cover = AllByRecursion-each (HasAlikeIn ms (there ++ texts)) wanted (λ x i.
          elim (IsIn-split there beside x (IsIn-from_Contains (there ++ beside) x
          (AllByRecursion-at (Contains (there ++ beside)) wanted x all i))) [
            | inl a ↦ (
              x,
              Contains-from_IsIn (there ++ texts) x (IsIn-left there texts x a),
              alike_itself ms x,
            )
            | inr b ↦ AllByRecursion-at (HasAlikeIn ms (there ++ texts)) beside x new.cover b
          ]);
    }

pub none_new : (ms : List Matcher) (there texts : List (List ℕ)) → texts ≡ []
    → AreNewIn ms there texts texts
none_new ms there [] none =
    record { from = tt; apart = λ i j x y at_x at_y same. absurd cc; new = tt; cover = tt }
none_new ms there (x ∷ texts) none = absurd cc
