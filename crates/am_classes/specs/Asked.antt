-- What matchers ask about a text.
use Rattle.std.specs.Prelude.{◌≡◌, ◌⊎◌, List}
use Rattle.std.specs.List.{AllByRecursion}
use Rattle.am_labels.specs.declared.op.Comparison.TheVariants.{Text, Pattern}
use Rattle.am_labels.specs.Matcher.{Matcher, comparison}
use Rattle.am_classes.specs.declared.questions.Questions.{Questions}
use Rattle.am_classes.specs.State.{named_texts, patterns_of}
use Rattle.am_classes.specs.Named.{AreEachOnce, named_over, other_patterns}

-- These are the questions of matchers, each of which compares with a text or with a pattern:
-- whether a text is one of those that they name, and which of the other patterns find it.
-- Source: own choice.
-- Example: `team=~"db|web"` and `team=~"w.*"` ask whether a text is `db` or `web`, and whether
-- `w.*` finds it.
pub record AreAsked (ms : List Matcher) (q : Questions) : Type 0 where
  pub texts : AreEachOnce (named_over q.alphabet ms) (named_texts q)
  pub patterns : AreEachOnce (other_patterns ms) (patterns_of q)
  pub only : AllByRecursion (λ m. (comparison m.op ≡ Text) ⊎ (comparison m.op ≡ Pattern)) ms
