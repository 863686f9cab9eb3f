-- Universes narrowed to the alerts of a rule: a label that these alerts have with one text alone
-- keeps one value, which the matchers cannot tell from that text. (This project's own.)
use Rattle.std.specs.Prelude.{ℕ, List, [], ◌∷◌, Bool, Option, Some, None, option_map}
use Rattle.std.specs.Prelude.{find, position, unwrap_or, if◌then◌else◌, ◌&&◌, ◌||◌}
use Rattle.std.specs.Option.{option_map_or}
use Rattle.std.specs.List.{list_all}
use Rattle.am_universe.specs.Text.{same_text}
use Rattle.am_universe.specs.LabelSet.{value_at}
use Rattle.am_universe.specs.Universe.{Label}
use Rattle.am_labels.specs.declared.op.Op.TheVariants.{Equal}
use Rattle.am_labels.specs.Matcher.{Matcher}
use Rattle.am_labels.specs.Space.{Space}
use Rattle.am_classes.specs.declared.alphabet.Alphabet.{Alphabet}
use Rattle.am_classes.specs.Alphabet.{is_over}
use Rattle.am_classes.specs.Truths.{alike}
use Rattle.am_complete.specs.AskedLabel.{AskedLabel}
use Rattle.am_complete.specs.Complete.{texts_of_label}
use Rattle.am_complete.specs.LabelState.{is_declared}
use Rattle.am_outcomes.specs.MatchedPart.{matched_part}
use Rattle.am_alerting_rules.specs.RulesFile.{AlertingRule}
use Rattle.am_alerting_rules.specs.RuleAlerts.{fixed_labels}

-- The matchers that ask about the label of a name.
abbrev pub matchers_on : List AskedLabel → List ℕ → List Matcher
matchers_on asked name =
    option_map_or (λ l. l.matchers) (find (λ l. same_text l.name name) asked) []

-- The text that some labels have under a name, if one of them has it.
abbrev pub fixed_text : List (List ℕ × List ℕ) → List ℕ → Option (List ℕ)
fixed_text fixed name = option_map (λ l. l.1) (find (λ l. same_text l.0 name) fixed)

-- The position of the first value of a label that matchers cannot tell from a text.
-- Source: own choice.
-- Example: to `team=~"db|sql"` alone, of the values absence and `db` the second is alike to `sql`.
abbrev pub alike_position : List Matcher → List ℕ → Label → Option ℕ
alike_position ms text label = position (λ t. alike ms t text) (texts_of_label (Some label))

-- How a label of a universe is narrowed to alerts with some labels: to the position of a value, or
-- not at all. There is no answer if the label has a text to which no value is alike.
abbrev pub narrowing_at : List Matcher → Option (List ℕ) → Label → Option (Option ℕ)
narrowing_at ms None label = Some None
narrowing_at ms (Some text) label = option_map (λ i. Some i) (alike_position ms text label)

-- The same for each label of a universe, in order.
abbrev pub kept_before : Option (Option ℕ) → Option (List (Option ℕ)) → Option (List (Option ℕ))
kept_before None rest = None
kept_before (Some kept) rest = option_map (λ all. kept ∷ all) rest

abbrev pub narrowing :
    List AskedLabel → List (List ℕ × List ℕ) → List Label → Option (List (Option ℕ))
narrowing asked fixed [] = Some []
narrowing asked fixed (label ∷ u) =
    kept_before (narrowing_at (matchers_on asked label.name) (fixed_text fixed label.name) label)
    (narrowing asked fixed u)

-- Absence stands for the text of a label: a universe does not declare the label, and matchers
-- cannot tell the text from absence. For a label that the universe declares, `narrowing` says what
-- stands for the text.
-- Source: own choice.
-- Example: if `team` is not declared and `team="web"` alone is asked, absence stands for `db`, and
-- not for `web`.
abbrev pub absence_stands : List AskedLabel → List Label → List ℕ × List ℕ → Bool
absence_stands asked u l = is_declared u l.0 || alike (matchers_on asked l.0) [] l.1

-- How a universe is narrowed to the alerts of a rule over an alphabet. There is no answer if one of
-- the texts that these alerts have is not over the alphabet, or if nothing stands for it in the
-- universe. Then the rule has no alert that counts.
-- Source: own choice.
-- Example: let `team` be absent or `db`, for `team="db"`. For a rule that sets `team` to `web` the
-- label keeps absence, and for one that does not set it, it keeps both values.
abbrev pub are_over : Alphabet → List (List ℕ × List ℕ) → Bool
are_over a fixed = list_all (λ l. is_over a l.1) fixed

abbrev pub rule_narrowing :
    Alphabet → List AskedLabel → List Label → AlertingRule → Option (List (Option ℕ))
rule_narrowing a asked u r =
    if are_over a (fixed_labels r) && list_all (absence_stands asked u) (fixed_labels r)
    then narrowing asked (fixed_labels r) u else None

-- The matchers that narrow a universe: for each label that keeps one value, that which asks for its
-- text, where absence is the empty text.
-- Source: own choice.
-- Example: if `team` keeps `db`, and `env` keeps absence, they are `team="db"` and `env=""`.
abbrev pub kept_matcher : Label → ℕ → Matcher
kept_matcher label i =
    record { name = label.name; op = Equal; value = unwrap_or (value_at label i) [] }

abbrev pub kept_matchers : List Label → List (Option ℕ) → List Matcher
kept_matchers [] kept = []
kept_matchers (label ∷ u) [] = []
kept_matchers (label ∷ u) (None ∷ kept) = kept_matchers u kept
kept_matchers (label ∷ u) (Some i ∷ kept) = kept_matcher label i ∷ kept_matchers u kept

-- A space that is narrowed: the label sets that have these texts.
abbrev pub narrowed : Space → List (Option ℕ) → Space
narrowed s kept = matched_part s (kept_matchers s.labels kept)
