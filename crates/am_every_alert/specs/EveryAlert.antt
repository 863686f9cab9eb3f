-- Alerts, whether their labels are declared or not, and which matchers are true of them.
use Rattle.std.specs.Prelude.{◌≡◌, ◌≢◌, ℕ, List, [], Some, IsTrue}
use Rattle.std.specs.List.{AllByRecursion}
use Rattle.std.specs.FinMap.{get}
use Rattle.am_universe.specs.LabelSet.{LabelMap}
use Rattle.am_labels.specs.Matcher.{Matcher, condition_holds}
use Rattle.am_labels.specs.Space.{Space, is_possible}
use Rattle.am_classes.specs.declared.alphabet.Alphabet.{Alphabet}
use Rattle.am_classes.specs.Alphabet.{IsOver}
use Rattle.am_eval.specs.World.{World}
use Rattle.am_eval.specs.Routing.{ends, receivers}
use Rattle.am_eval.specs.Silencing.{is_silenced}
use Rattle.am_eval.specs.Inhibition.{is_inhibited}

-- A label set that an alert may have: no name is the empty text, and the values are over an
-- alphabet. Over Unicode that is every alert; over ASCII the alert is *ordinary*.
-- Source: Prometheus data model, "Metric names and labels", which since version 3 allows any UTF-8
-- in names. Own choices: an alert may have no label, and names need not be UTF-8 here.
-- Example: `{team="db"}` is one, and so is a label set with the name `job-name`. One with the value
-- `é` is not ordinary.
abbrev pub IsAlert : Alphabet → LabelMap → Type 0
IsAlert a s = (name text : List ℕ) → get s name ≡ Some text → (name ≢ []) × IsOver a text

-- An alert of a space: no impossible list matches it. Its labels need not be declared.
-- Source: own choice.
-- Example: if `env=prod,team=""` is impossible, `{env="dev"}` is one, and `{env="prod"}` is not.
abbrev pub IsAlertOf : Alphabet → Space → LabelMap → Type 0
IsAlertOf a s alert = IsAlert a alert × IsTrue (is_possible s.impossible alert)

-- Two label sets meet the same of some matchers: each matcher has the same truth on both.
-- Source: own choice.
-- Example: `{team="db"}` and `{team="web"}` meet the same of `team!="ops"`.
abbrev pub MeetsTheSame : List Matcher → LabelMap → LabelMap → Type 0
MeetsTheSame ms s t = AllByRecursion (λ m. condition_holds s m ≡ condition_holds t m) ms

-- Two label sets are treated alike in a world: they end at the same routes and go to the same
-- receivers, both or neither are silenced, and both or neither are inhibited.
-- Source: own choice.
-- Example: if no matcher and no `equal` names `env`, `{env="dev"}` and `{}` are treated alike.
pub record AreTreatedAlike (w : World) (s t : LabelMap) : Type 0 where
  pub same_ends : ends s w.config ≡ ends t w.config
  pub same_receivers : receivers s w.config ≡ receivers t w.config
  pub same_silenced : is_silenced w s ≡ is_silenced w t
  pub same_inhibited : is_inhibited w s ≡ is_inhibited w t
