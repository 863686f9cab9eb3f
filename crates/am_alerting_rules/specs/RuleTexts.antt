-- The texts of alerting rules. (RFC 8259, section 8.1: JSON text, in which they are written, is
-- UTF-8.)
use Rattle.std.specs.List.{AllByRecursion}
use Rattle.std.specs.Str.{IsUtf8}
use Rattle.am_alerting_rules.specs.RulesFile.{AlertingRule}

-- The name of a rule, and the text of each label that it sets, are UTF-8.
pub record HasUtf8Texts (r : AlertingRule) : Type 0 where
  pub name : IsUtf8 r.name
  pub labels : AllByRecursion (λ l. IsUtf8 l.1) r.labels
