-- Which of some inhibition rules is refused first. (This project's own.)
use Rattle.std.specs.Prelude.{◌≡◌, ◌⊎◌, ℕ, List, Some, slice_get, take}
use Rattle.std.specs.List.{AllByRecursion}
use Rattle.am_universe.specs.declared.kind.Kind.{Kind}
use Rattle.am_universe.specs.declared.kind.Kind.TheVariants as kinds
use Rattle.am_universe.specs.Universe.{Label}
use Rattle.am_labels.specs.Space.{Space}
use Rattle.am_config.specs.ConfigFile.{Rule}
use Rattle.am_classes.specs.declared.alphabet.Alphabet.{Alphabet}
use Rattle.am_idle.specs.Lists.{StandsForLists, IsRefusalForLists}
use Rattle.am_idle.specs.Rules.{sides_of}

-- A rule is not refused: there is a universe that stands for every alert, for its two sides; or it
-- is unproved.
-- Source: own choice.
-- Example: a rule with the sides `team="db"` and `team="web"` is not, if nothing is impossible.
abbrev pub IsRuleAccepted : Alphabet → Space → Rule → Type 0
IsRuleAccepted a s rule =
    ((u : List Label) × StandsForLists a s (sides_of rule) u)
    ⊎ IsRefusalForLists a s (sides_of rule) kinds.Unproved

-- A rule is refused, as `limit`: there is no room for the labels that its two sides and the
-- impossible lists ask about.
-- Source: own choice.
-- Example: a rule is refused if its sides have 65 matchers with `=`, each for a different label.
abbrev pub IsRuleRefused : Alphabet → Space → Rule → Kind → Type 0
IsRuleRefused a s rule kind =
    (kind ≡ kinds.Limit) × IsRefusalForLists a s (sides_of rule) kind

-- The first rule that is refused is the one at a position.
-- Source: own choice.
-- Example: if the first of three rules is not refused and the second is, it is the one at 1.
pub record IsFirstRefusedRule (a : Alphabet) (s : Space) (rules : List Rule) (position : ℕ)
    (kind : Kind) : Type 0 where
  pub rule : Rule
  pub there : slice_get rules position ≡ Some rule
  pub before : AllByRecursion (IsRuleAccepted a s) (take position rules)
  pub refused : IsRuleRefused a s rule kind
