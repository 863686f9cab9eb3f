-- Lists of ways, whatever test decides the literals: several lists joined, and ways with the same
-- literals added in front.
use Rattle.std.proofs.Common.{◌≡◌, List, [], ◌∷◌, ◌++◌, map, Bool, true, false, ◌&&◌, ◌||◌, arith}
use Rattle.std.proofs.Common.{refl, ap, ◌∙◌}
use Rattle.std.specs.List.{flat_map, list_all, list_any}
use Rattle.std.proofs.lemmas.List.Folds.{list_any-append, list_all-append}
use Rattle.std.proofs.lemmas.Grind.{common_steps}
use Rattle.am_eval.specs.Conditions.{Literal, some_way_holds}

pub some_way-append : (holds : Literal → Bool) (ands more : List (List Literal))
    → some_way_holds holds (ands ++ more)
    ≡ (some_way_holds holds ands || some_way_holds holds more)
some_way-append holds ands more = list_any-append (list_all holds) ands more

pub some_way-joined : (holds : Literal → Bool) {X : Type 0} (f : X → List (List Literal))
    (xs : List X)
    → some_way_holds holds (flat_map f xs) ≡ list_any (λ x. some_way_holds holds (f x)) xs
some_way-joined holds f [] = refl
some_way-joined holds f (x ∷ xs) =
    some_way-append holds (f x) (flat_map f xs)
    ∙ ap (λ b. some_way_holds holds (f x) || b) (some_way-joined holds f xs)

-- what is in front of each way may be tested once
shared : (a b rest : Bool) → ((a && b) || (a && rest)) ≡ (a && (b || rest))
shared true b rest = refl
shared false b rest = refl

none_is_false : (a : Bool) → false ≡ (a && false)
none_is_false true = refl
none_is_false false = refl

pub some_way-literal : (holds : Literal → Bool) (l : Literal) (ands : List (List Literal))
    → some_way_holds holds (map (λ way. l ∷ way) ands) ≡ (holds l && some_way_holds holds ands)
some_way-literal holds l [] = none_is_false (holds l)
some_way-literal holds l (way ∷ ands) =
    grind (arith, common_steps, some_way-literal holds l ands, shared)

pub some_way-front : (holds : Literal → Bool) (front : List Literal) (ands : List (List Literal))
    → some_way_holds holds (map (λ way. front ++ way) ands)
    ≡ (list_all holds front && some_way_holds holds ands)
some_way-front holds front [] = none_is_false (list_all holds front)
some_way-front holds front (way ∷ ands) =
    grind (arith, common_steps, some_way-front holds front ands, list_all-append, shared)
