-- What decides which alerts inhibit others by a rule, as it is kept in memory.
use Rattle.std.specs.Prelude.{◌≡◌, ℕ, List, map, vec_len}
use Rattle.std.specs.Borrow.{Bor}
use Rattle.std.specs.Global.{Vec}
use Rattle.am_universe.specs.LabelSet.{LabelMap, value_of}
use Rattle.am_labels.specs.Matcher.{all_hold}
use Rattle.am_config.specs.ConfigFile.{Rule}
use Rattle.am_firing.specs.declared.wide.Deciding.{Deciding}

-- Texts, without their location in memory. And the values of an alert for some labels.
abbrev pub texts_of : Vec (Bor (List ℕ)) → List (List ℕ)
texts_of texts = map (λ t. t.now) texts.items

abbrev pub values_of : List (List ℕ) → LabelMap → List (List ℕ)
values_of names alert = map (value_of alert) names

-- It is known for each of some alerts whether the sides of a rule match it, and which values it has
-- for the labels in `equal`.
pub record IsDecidedBy (rule : Rule) (alerts : List LabelMap) (deciding : Deciding) : Type 0 where
  pub source : deciding.source.items ≡ map (λ alert. all_hold alert rule.source) alerts
  pub target : deciding.target.items ≡ map (λ alert. all_hold alert rule.target) alerts
  pub values : map texts_of deciding.values.items ≡ map (values_of rule.equal) alerts

-- It is known of equally many alerts.
pub record HaveOneLength (deciding : Deciding) : Type 0 where
  pub target : vec_len deciding.target ≡ vec_len deciding.source
  pub values : vec_len deciding.values ≡ vec_len deciding.source
