-- Which text stands for a class.
use Rattle.std.specs.Prelude.{◌≡◌, ◌⊎◌, ℕ, List, Contains, IsTrue, string_bytes}
use Rattle.std.specs.List.{AllZip}
use Rattle.am_classes.specs.declared.tested.Tested.{Tested}
use Rattle.am_classes.specs.Truths.{has_same_hits}

-- A text is chosen for a wanted one: it is that text, or a usual one with the same hits. And
-- texts are chosen for each of some texts.
-- Source: own choice.
-- Example: for `team=~"db.*"`, `other` may be chosen for `web`, and not for `db`.
abbrev pub IsChosen : List Tested → Tested → List ℕ → Type 0
IsChosen usual wanted text =
    (text ≡ string_bytes wanted.text)
    ⊎ ((t : Tested) × Contains usual t × (text ≡ string_bytes t.text)
    × IsTrue (has_same_hits wanted t))

abbrev pub AreChosenEach : List Tested → List Tested → List (List ℕ) → Type 0
AreChosenEach usual wanted texts = AllZip (IsChosen usual) wanted texts
