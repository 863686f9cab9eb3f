-- Tests of lists: that all items pass, or that some item does.
use Rattle.std.proofs.Common.{◌≢◌, ◌↔◌, inl, List, [], ◌∷◌, Bool, Contains, refl, arith}
use Rattle.std.specs.Prelude.{IsTrue}
use Rattle.std.specs.List.{AllByRecursion, list_all, list_any}
use Rattle.std.proofs.lemmas.Bool.{and_parts, and_from}
use Rattle.std.proofs.lemmas.List.Folds.{Any-from_list_any, list_any-from_Any}
use Rattle.std.proofs.lemmas.Grind.{common_steps}
use Rattle.am_universe.proofs.ListLemmas.{IsIn}

-- all items pass a test exactly if `P` holds of all, where the test decides `P`
pub all_exactly : {X : Type 0} (test : X → Bool) (P : X → Type 0)
    → ((x : X) → IsTrue (test x) ↔ P x) → (xs : List X)
    → IsTrue (list_all test xs) ↔ AllByRecursion P xs
all_exactly test P each [] = (λ h. tt, λ h. refl)
all_exactly test P each (x ∷ xs) = grind (arith, common_steps, all_exactly test P each xs, and_parts, and_from)

-- an item that passes, if some item does
pub some_passes : {X : Type 0} (test : X → Bool) (xs : List X) → IsTrue (list_any test xs)
    → (x : X) × Contains xs x × IsTrue (test x)
some_passes test xs h =
    let r = Any-from_list_any test xs h in (r.1, (r.0, r.2, r.3), r.4)

pub passes_among : {X : Type 0} (test : X → Bool) (xs : List X) (x : X) → Contains xs x
    → IsTrue (test x) → IsTrue (list_any test xs)
passes_among test xs x there passes =
    list_any-from_Any test xs (there.0, x, there.1, there.2, passes)

pub one_of : {X : Type 0} (xs : List X) → xs ≢ [] → (x : X) × IsIn xs x
one_of [] some = absurd (some refl)
one_of (x ∷ xs) some = (x, inl refl)
