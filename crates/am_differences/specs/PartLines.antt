-- The lines of parts that differ. (This project's own.)
use Rattle.std.specs.Prelude.{ℕ, List, [], ◌∷◌, ◌++◌, map, length, codes, ◌==◌, Option, Some, None}
use Rattle.std.specs.Prelude.{if◌then◌else◌}
use Rattle.serde_json.specs.Find.{as_str}
use Rattle.am_config.specs.ConfigFile.{Rule}
use Rattle.am_config.specs.WholeConfig.{WholeConfiguration}
use Rattle.am_report_texts.specs.Line.{Line, Piece, Words, Value, Word, Name, Text, Texts, Matchers}
use Rattle.am_report_texts.specs.declared.lines.Field.TheVariants as field_is
use Rattle.am_report_texts.specs.declared.lines.Level.TheVariants as level_is
use Rattle.am_differences.specs.Parts.{receiver_parts, interval_parts, field_parts}
use Rattle.am_differences.specs.Differences.{Difference, differences, HaveSameParts}
use Rattle.am_differences.specs.RuleParts.{NamedRule, named_rules, rules_only_in, HaveSameRules}
use Rattle.am_differences.specs.declared.differences.Presence.{Presence}
use Rattle.am_differences.specs.declared.differences.Presence.TheVariants as presence_is

-- ---- What differs.

-- The parts of two configurations say the same: the receivers, the inhibition rules, the time
-- intervals, and all other fields of the files but `route`.
-- Source: own choice.
-- Example: if the new file has the same inhibition rules in another order, and nothing else is new,
-- they do. If it lacks one of them, they do not.
pub record SayTheSame (old new : WholeConfiguration) : Type 0 where
  pub receivers : HaveSameParts (receiver_parts old.rest) (receiver_parts new.rest)
  pub rules : HaveSameRules (named_rules old) (named_rules new)
  pub intervals : HaveSameParts (interval_parts old.rest) (interval_parts new.rest)
  pub fields : HaveSameParts (field_parts old.rest) (field_parts new.rest)

-- ---- The lines.

abbrev pub presence_word : Presence → List ℕ
presence_word presence_is.OnlyInOld = codes "only in old"
presence_word presence_is.OnlyInNew = codes "only in new"
presence_word presence_is.InBoth = codes "differs"

-- The line of a part that has a name, after a word for what it is.
-- Source: own choice.
-- Example: `receiver "db-pager" differs`.
abbrev pub named_line : List ℕ → Difference → Line
named_line word d = record {
  level = level_is.Plain;
  pieces = Value field_is.Part (Word word) ∷ Words (codes " ")
      ∷ Value field_is.Name (Text d.0) ∷ Words (codes " ")
      ∷ Value field_is.Kind (Word (presence_word d.1)) ∷ [];
}

-- The line of a field.
-- Source: own choice.
-- Example: `differs: global`.
abbrev pub field_line : Difference → Line
field_line d = record {
  level = level_is.Plain;
  pieces = Value field_is.Kind (Word (codes "differs")) ∷ Words (codes ": ")
      ∷ Value field_is.Name (Name d.0) ∷ [];
}

-- The line of an inhibition rule that is only in one file. It has the name of the rule, if this is
-- a text.
-- Source: own choice.
-- Example: `rule only in old: source {severity="critical"} target {severity="warning"} equal
-- "team"`, in one line.
abbrev pub equal_words : List (List ℕ) → List ℕ
equal_words names = if length names == 0 then [] else codes " equal "

abbrev pub name_pieces : Option (List ℕ) → List Piece
name_pieces None = []
name_pieces (Some name) = Value field_is.Name (Text name) ∷ Words (codes " ") ∷ []

abbrev pub sides_pieces : Presence → Rule → List Piece
sides_pieces presence r =
    Value field_is.Kind (Word (presence_word presence)) ∷ Words (codes ": source ")
    ∷ Value field_is.Source (Matchers r.source) ∷ Words (codes " target ")
    ∷ Value field_is.Target (Matchers r.target) ∷ Words (equal_words r.equal)
    ∷ Value field_is.Equal (Texts r.equal) ∷ []

abbrev pub rule_line : Presence → NamedRule → Line
rule_line presence r = record {
  level = level_is.Plain;
  pieces = Value field_is.Part (Word (codes "rule")) ∷ Words (codes " ")
      ∷ (name_pieces (as_str r.1) ++ sides_pieces presence r.0);
}

-- All lines: of receivers, of rules, of time intervals, and of other fields.
abbrev pub receiver_lines : WholeConfiguration → WholeConfiguration → List Line
receiver_lines old new =
    map (named_line (codes "receiver"))
    (differences (receiver_parts old.rest) (receiver_parts new.rest))

abbrev pub rule_lines : WholeConfiguration → WholeConfiguration → List Line
rule_lines old new =
    map (rule_line presence_is.OnlyInOld) (rules_only_in (named_rules old) (named_rules new))
    ++ map (rule_line presence_is.OnlyInNew) (rules_only_in (named_rules new) (named_rules old))

abbrev pub interval_lines : WholeConfiguration → WholeConfiguration → List Line
interval_lines old new =
    map (named_line (codes "time interval"))
    (differences (interval_parts old.rest) (interval_parts new.rest))

abbrev pub field_lines : WholeConfiguration → WholeConfiguration → List Line
field_lines old new = map field_line (differences (field_parts old.rest) (field_parts new.rest))

abbrev pub part_lines : WholeConfiguration → WholeConfiguration → List Line
part_lines old new =
    receiver_lines old new
    ++ (rule_lines old new ++ (interval_lines old new ++ field_lines old new))
