-- A list for each alert.
use Rattle.std.specs.Prelude.{◌≡◌, ◌++◌, ◌∷◌, ℕ, List, [], map, length, slice_get, slice_index_or}
use Rattle.std.specs.Prelude.{Some}
use Rattle.std.specs.Prelude.{Bool, true, false}
use Rattle.std.specs.Global.{Vec}
use Rattle.am_universe.specs.LabelSet.{LabelMap}
use Rattle.am_config.specs.ConfigFile.{Rule}
use Rattle.am_eval.specs.Silencing.{positions_where}
use Rattle.am_eval.specs.Inhibition.{inhibits}

-- The list of the alert at a position.
abbrev pub list_at : {X : Type 0} → List (Vec X) → ℕ → List X
list_at lists i = slice_index_or (map (λ v. v.items) lists) i []

-- There is a list for each alert, and it depends on the labels of the alert.
abbrev pub AreLists : {X : Type 0} → List LabelMap → (LabelMap → List X) → List (Vec X) → Type 0
AreLists alerts list lists =
    (length lists ≡ length alerts)
    × ((i : ℕ) (s : LabelMap) → slice_get alerts i ≡ Some s → list_at lists i ≡ list s)

-- Behind the list of each alert there are more items.
abbrev pub AddsToAll : {X : Type 0} → List LabelMap → (LabelMap → List X) → List (Vec X)
    → List (Vec X) → Type 0
AddsToAll alerts more before after =
    (i : ℕ) (s : LabelMap) → slice_get alerts i ≡ Some s
    → list_at after i ≡ list_at before i ++ more s

-- There are no ends.
abbrev pub ends_nowhere : List (List ℕ) → Bool
ends_nowhere [] = true
ends_nowhere (end ∷ ends) = false

-- What inhibits an alert by a rule at a position.
abbrev pub inhibitors_by : List LabelMap → LabelMap → ℕ × Rule → List (ℕ × ℕ)
inhibitors_by alerts s rule =
    map (λ i. (rule.0, i)) (positions_where (λ a. inhibits rule.1 a s) 0 alerts)
