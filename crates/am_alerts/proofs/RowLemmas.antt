-- The alerts that end at routes.
use Rattle.std.proofs.Common.{◌≡◌, ◌++◌, ◌∷◌, ◌&&◌, ◌||◌, ℕ, List, [], Bool, true, false, if◌then◌else◌, Some, None, refl, ap, ◌∙◌, append-nil}
use Rattle.std.specs.List.{cons_option, list_any}
use Rattle.std.proofs.lemmas.List.Elements.{filter_map-append}
use Rattle.am_eval.specs.declared.reach.Reach.{Reach}
use Rattle.am_eval.specs.Question.{reaches}
use Rattle.am_alerts.specs.declared.route_ends.RouteEnds.{RouteEnds}
use Rattle.am_alerts.specs.AlertLabels.{flag}
use Rattle.am_alerts.specs.RouteEnds.{path_if_end, ends_of}

one_row : (b : Bool) (path : List ℕ) (ends : List (List ℕ))
    → ends ++ cons_option (if b then Some path else None) [] ≡ (if b then ends ++ path ∷ [] else ends)
one_row true path ends = refl
one_row false path ends = append-nil ends

-- one more route
pub pushed_row : (rows : List RouteEnds) (row : RouteEnds) (i : ℕ)
    → ends_of (rows ++ row ∷ []) i
    ≡ (if flag row.alerts.items i then ends_of rows i ++ row.path ∷ [] else ends_of rows i)
pushed_row rows row i =
    filter_map-append (path_if_end i) rows (row ∷ []) ∙ one_row (flag row.alerts.items i) row.path (ends_of rows i)

one_reaches : (b : Bool) (reach : Reach) (path end : List ℕ) (ends : List (List ℕ))
    → ((b && reaches reach path end) || list_any (reaches reach path) ends)
    ≡ list_any (reaches reach path) (cons_option (if b then Some end else None) ends)
one_reaches true reach path end ends = refl
one_reaches false reach path end ends = refl

-- a route that is reached is one of the ends
pub any_end : (reach : Reach) (path : List ℕ) (i : ℕ) (rows : List RouteEnds)
    → list_any (λ row. flag row.alerts.items i && reaches reach path row.path) rows ≡ list_any (reaches reach path) (ends_of rows i)
any_end reach path i [] = refl
any_end reach path i (row ∷ rows) =
    ap (λ b. (flag row.alerts.items i && reaches reach path row.path) || b) (any_end reach path i rows)
    ∙ one_reaches (flag row.alerts.items i) reach path row.path (ends_of rows i)
