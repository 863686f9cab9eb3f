-- A worked example of an inhibition rule, and what it says.
use Rattle.std.specs.Prelude.{[], ◌∷◌, codes}
use Rattle.serde_json.specs.Data.{Data, string, array, object, no_items, item, no_members, member}
use Rattle.am_labels.specs.declared.op.Op.TheVariants.{Equal}
use Rattle.am_config.specs.ConfigFile.{Rule}

-- The JSON value of the rule: alerts of the severity `critical` inhibit those of the severity
-- `warning` in the same cluster. `equal` has the name `cluster` twice.
abbrev pub rule_example : Data
rule_example = object
    (member (codes "equal")
    (array (item (string (codes "cluster")) (item (string (codes "cluster")) no_items)))
    (member (codes "source_match")
    (object (member (codes "severity") (string (codes "critical")) no_members))
    (member (codes "target_match")
    (object (member (codes "severity") (string (codes "warning")) no_members)) no_members)))

-- What it says.
abbrev pub example_rule : Rule
example_rule = record {
  source = record { name = codes "severity"; op = Equal; value = codes "critical" } ∷ [];
  target = record { name = codes "severity"; op = Equal; value = codes "warning" } ∷ [];
  equal = codes "cluster" ∷ codes "cluster" ∷ [];
}
