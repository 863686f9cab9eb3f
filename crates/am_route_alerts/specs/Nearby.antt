-- Choices near one that meets literals. (This project's own.)
use Rattle.std.specs.Prelude.{◌≡◌, ◌==◌, ℕ, List, Bool, true, not, length, slice_get, Some}
use Rattle.std.specs.Prelude.{IsFalse, IfSome, Contains}
use Rattle.std.specs.Global.{Vec}
use Rattle.std.specs.List.{list_all}
use Rattle.am_first_sets.specs.declared.candidate.Candidate.{Candidate}
use Rattle.am_first_sets.specs.Literals.{meets}
use Rattle.am_route_alerts.specs.declared.hints.Hints.{Hints}
use Rattle.am_route_alerts.specs.declared.nearby.Nearby.{Nearby}

-- A literal does not ask about a label: its cube has no mask of it.
abbrev pub is_free : ℕ → Candidate → Bool
is_free label k = list_all (λ m. not (m.label == label)) k.cube.now.masks

-- A list has the positions of all literals that ask about a label.
abbrev pub ListsAsking : List Candidate → ℕ → List ℕ → Type 0
ListsAsking ks label list =
    (i : ℕ) (k : Candidate) → slice_get ks i ≡ Some k → IsFalse (is_free label k)
    → Contains list i

-- A choice meets the named literals, and there is such a list for each label.
pub record IsNearby (ks : List Candidate) (nearby : Nearby) : Type 0 where
  pub met : meets nearby.choice ks ≡ true
  pub long : length nearby.asking.items ≡ length nearby.choice
  pub lists : (label : ℕ) (list : Vec ℕ) → slice_get nearby.asking.items label ≡ Some list
      → ListsAsking ks label list.items

-- The choice of some hints is such a choice, if there is one.
abbrev pub AreHints : List Candidate → Hints → Type 0
AreHints ks hints = IfSome hints.nearby (IsNearby ks)
