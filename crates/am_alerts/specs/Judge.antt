-- Tests of the values of labels, and the answers that are known.
use Rattle.std.specs.Prelude.{◌≡◌, ℕ, List, [], Bool, All, slice_index_or}
use Rattle.std.specs.Borrow.{Bor}
use Rattle.am_universe.specs.Text.{same_text}
use Rattle.am_labels.specs.Matcher.{Matcher as LabelMatcher, holds}
use Rattle.am_alerts.specs.declared.judge.ValueTest.{ValueTest}
use Rattle.am_alerts.specs.declared.judge.ValueTest.TheVariants.{Matcher, Equal}
use Rattle.am_alerts.specs.declared.judge.Answer.{Answer}
use Rattle.am_alerts.specs.declared.judge.Judge.{Judge}

-- The truth of a test on the value of a label.
abbrev pub passes : ValueTest → List ℕ → Bool
passes (Matcher m) value = holds m.op m.value value
passes (Equal text) value = same_text text.now value

-- A test is that of a matcher, whatever the label.
abbrev pub IsTestOf : ValueTest → LabelMatcher → Type 0
IsTestOf test m = (value : List ℕ) → passes test value ≡ holds m.op m.value value

-- The text at a place, or the empty text if there is none.
abbrev pub text_at : List (Bor (List ℕ)) → ℕ → List ℕ
text_at values place =
    (slice_index_or values place (record { ref_ptr = (0, 0); now = [] })).now

-- These answers are those of a test, each on the value at its place.
abbrev pub AreAnswers : List (Bor (List ℕ)) → ValueTest → List Answer → Type 0
AreAnswers values test answers =
    All (λ answer. answer.passes ≡ passes test (text_at values answer.place)) answers

-- A judge knows only answers of its test.
pub record IsSound (values : List (Bor (List ℕ))) (judge : Judge) : Type 0 where
  pub found : AreAnswers values judge.test judge.found.items
  pub before : AreAnswers values judge.test judge.before.items
