use Rattle.std.proofs.Common.{◌≡◌, ◌==◌, [], ◌∷◌, List, ℕ, Bool, false, get_or, length, refl, ◌∙◌, rules, tests, arith}
use Rattle.std.specs.List.{list_all}
use Rattle.std.proofs.lemmas.Bool.Decides.{nat_tests}
use Rattle.std.proofs.lemmas.Iterator.{YieldsList-from_slice}
use Rattle.std.proofs.lemmas.Iterator.Search.{all_from_yields_List}
use Rattle.am_firing.specs.Going.{are_all_marked}
use Rattle.am_firing.proofs.hiding_lines.are_all_marked.Goals as goal

-- if there are positions, the test is that of each
some_marked : (marks : List Bool) (positions : List ℕ) → false ≡ (length positions == 0)
    → list_all (λ i. get_or marks i false) positions ≡ are_all_marked marks positions
some_marked marks [] some = absurd (grind (arith, nat_tests))
some_marked marks (i ∷ positions) some = refl

pub returns-then-not-is_empty : goal.returns-then-not-is_empty
returns-then-not-is_empty c =
    let marks = c.args.marks.now in
    let positions = c.args.positions.now in
    all_from_yields_List (λ i. get_or marks i false) _ _ c.all.result c.all.ensures.ran
    (YieldsList-from_slice positions cc) (λ x b q k. search (rules, tests))
    ∙ some_marked marks positions c.if-not-is_empty.ensures
