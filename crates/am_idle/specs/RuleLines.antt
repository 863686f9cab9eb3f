-- What is said of an inhibition rule, as lines. (This project's own.)
use Rattle.std.specs.Prelude.{ℕ, List, [], ◌∷◌, Option, Some, None, codes, ⊤, slice_get}
use Rattle.std.specs.List.{filter_map}
use Rattle.am_labels.specs.Matcher.{Matcher}
use Rattle.am_config.specs.ConfigFile.{Rule}
use Rattle.am_report_texts.specs.Line.{Line, Piece, Words, Value, Word, Number, Matchers}
use Rattle.am_report_texts.specs.declared.lines.Field.TheVariants as field_is
use Rattle.am_report_texts.specs.declared.lines.Level.{Level}
use Rattle.am_report_texts.specs.declared.lines.Level.TheVariants as level_is
use Rattle.am_idle.specs.declared.rules.IdleReason.{IdleReason}
use Rattle.am_idle.specs.declared.rules.IdleReason.TheVariants as reason_is
use Rattle.am_idle.specs.declared.rule_findings.RuleFinding.{RuleFinding}
use Rattle.am_idle.specs.declared.rule_findings.RuleFinding.TheVariants as finding_is
use Rattle.am_idle.specs.Rules.{AreWithin}

-- The matchers at some positions of a list.
-- Source: own choice.
-- Example: of `team="db",env="prod",team="web"` those at 0 and 2 are `team="db",team="web"`.
abbrev pub matchers_at : List Matcher → List ℕ → List Matcher
matchers_at ms positions = filter_map (slice_get ms) positions

-- The matchers of the two sides that contradict each other. If none is to blame, no alert is
-- possible at all.
-- Source: own choice.
-- Example: `source {severity="critical"} and target {severity="warning"} exclude each other through
-- equal`.
abbrev pub contradiction_pieces : Rule → List ℕ → List ℕ → List Piece
contradiction_pieces rule [] [] = Value field_is.Reason (Word (codes "no alert is possible")) ∷ []
contradiction_pieces rule [] (j ∷ targets) =
    Value field_is.Reason (Word (codes "no alert matches target")) ∷ Words (codes " ")
    ∷ Value field_is.Target (Matchers (matchers_at rule.target (j ∷ targets))) ∷ []
contradiction_pieces rule (i ∷ sources) [] =
    Value field_is.Reason (Word (codes "no alert matches source")) ∷ Words (codes " ")
    ∷ Value field_is.Source (Matchers (matchers_at rule.source (i ∷ sources))) ∷ []
contradiction_pieces rule (i ∷ sources) (j ∷ targets) =
    Words (codes "source ")
    ∷ Value field_is.Source (Matchers (matchers_at rule.source (i ∷ sources)))
    ∷ Words (codes " and target ")
    ∷ Value field_is.Target (Matchers (matchers_at rule.target (j ∷ targets)))
    ∷ Words (codes " ")
    ∷ Value field_is.Reason (Word (codes "exclude each other through equal")) ∷ []

-- Why a rule is idle.
abbrev pub idle_pieces : Rule → IdleReason → List Piece
idle_pieces rule (reason_is.Contradiction source target) =
    contradiction_pieces rule source.items target.items
idle_pieces rule reason_is.Both = Value field_is.Reason
    (Word (codes "each two alerts that match source and target match both sides")) ∷ []

-- What is not known of the two sides of a rule.
-- Source: own choice.
-- Example: `it is not known which alerts match source {team=~"\\bdb"} and target {team="web"}`.
abbrev pub not_known_pieces : List ℕ → Rule → List Piece
not_known_pieces reason rule =
    Value field_is.Reason (Word reason)
    ∷ Words (codes " source ") ∷ Value field_is.Source (Matchers rule.source)
    ∷ Words (codes " and target ") ∷ Value field_is.Target (Matchers rule.target) ∷ []

-- The word for what is said of a rule, and what is said. A rule that is idle or undecided is a
-- finding, and one that is unproved a note.
abbrev pub rule_kind : RuleFinding → List ℕ
rule_kind (finding_is.Idle reason) = codes "idle"
rule_kind finding_is.Unproved = codes "unproved"
rule_kind (finding_is.Undecided evidence) = codes "undecided"

abbrev pub rule_level : RuleFinding → Level
rule_level (finding_is.Idle reason) = level_is.Finding
rule_level finding_is.Unproved = level_is.Note
rule_level (finding_is.Undecided evidence) = level_is.Finding

abbrev pub finding_pieces : Rule → RuleFinding → List Piece
finding_pieces rule (finding_is.Idle reason) = idle_pieces rule reason
finding_pieces rule finding_is.Unproved =
    not_known_pieces (codes "it is not known which alerts match") rule
finding_pieces rule (finding_is.Undecided evidence) =
    not_known_pieces (codes "it is not known whether an alert inhibits another by") rule

-- The line of the rule at a position; and the lines of a rule: none if nothing is said of it.
-- Source: own choice.
-- Example: `rule 3 idle: no alert matches source {team="db",team="web"}`.
abbrev pub rule_line : ℕ → Rule → RuleFinding → Line
rule_line position rule finding = record {
  level = rule_level finding;
  pieces = Words (codes "rule ") ∷ Value field_is.Rule (Number position) ∷ Words (codes " ")
      ∷ Value field_is.Kind (Word (rule_kind finding)) ∷ Words (codes ": ")
      ∷ finding_pieces rule finding;
}

abbrev pub rule_lines : ℕ → Rule → Option RuleFinding → List Line
rule_lines position rule None = []
rule_lines position rule (Some finding) = rule_line position rule finding ∷ []

-- The positions that a reason has are positions in the sides of the rule.
abbrev pub HasPositionsIn : Rule → IdleReason → Type 0
HasPositionsIn rule (reason_is.Contradiction source target) =
    AreWithin rule.source source.items × AreWithin rule.target target.items
HasPositionsIn rule reason_is.Both = ⊤

-- The positions that a finding has, if it has any, are such.
abbrev pub HasPositions : Rule → RuleFinding → Type 0
HasPositions rule (finding_is.Idle reason) = HasPositionsIn rule reason
HasPositions rule finding_is.Unproved = ⊤
HasPositions rule (finding_is.Undecided evidence) = ⊤

abbrev pub HasPositionsIfAny : Rule → Option RuleFinding → Type 0
HasPositionsIfAny rule None = ⊤
HasPositionsIfAny rule (Some finding) = HasPositions rule finding
