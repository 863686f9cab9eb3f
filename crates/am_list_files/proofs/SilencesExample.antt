-- What the worked example of an export of silences says.
use Rattle.std.proofs.Common.{◌≡◌, ℕ, List, [], ◌∷◌, pos, Some, codes, refl, inl, inr, true, false, ◌∙◌}
use Rattle.std.proofs.Common.{IsTrue, arith}
use Rattle.jiff.proofs.OnLiterals.{jiff_on_literals}
use Rattle.am_labels.specs.MatcherRefusals.{has_valid_pattern}
use Rattle.am_list_files.specs.Instant.{instant_of}
use Rattle.am_list_files.specs.Instant.Reading.{instant_read}
use Rattle.am_list_files.specs.SilencesFile.{SaysSilenceMatcher, SaysSilences}
use Rattle.am_list_files.specs.SilencesExample.{team_json, severity_json, silence_example}
use Rattle.am_list_files.specs.SilencesExample.{silences_example, team_matcher, severity_matcher}
use Rattle.am_list_files.specs.SilencesExample.{example_silences}

begins : instant_of (codes "2024-05-01T10:00:00Z") ≡ Some (pos 1714557600000000000)
unfolding jiff_on_literals
begins = instant_read (codes "2024-05-01T10:00:00Z") ∙ refl

finishes : instant_of (codes "2024-05-01T12:00:00+01:00") ≡ Some (pos 1714561200000000000)
unfolding jiff_on_literals
finishes = instant_read (codes "2024-05-01T12:00:00+01:00") ∙ refl

team_says : SaysSilenceMatcher team_json team_matcher
team_says = record {
  name = refl;
  named = λ e. cc;
  value = refl;
  is_regex = false;
  regex = inr refl;
  is_equal = true;
  equal = inl (refl, refl);
  op = refl;
  valid_pattern = refl;
}

severity_says : (pattern : List ℕ) → IsTrue (has_valid_pattern (severity_matcher pattern))
    → SaysSilenceMatcher (severity_json pattern) (severity_matcher pattern)
severity_says pattern valid = record {
  name = refl;
  named = λ e. cc;
  value = refl;
  is_regex = true;
  regex = inr refl;
  is_equal = false;
  equal = inr refl;
  op = refl;
  valid_pattern = valid;
}

pub says : (pattern : List ℕ) → IsTrue (has_valid_pattern (severity_matcher pattern))
    → SaysSilences (silences_example pattern) (example_silences pattern)
says pattern valid = inr (record {
  items = silence_example pattern ∷ [];
  is_array = refl;
  few = omega arith;
  each = (
    record {
      items = team_json ∷ severity_json pattern ∷ [];
      is_array = refl;
      some = λ e. cc;
      few = omega arith;
      matchers = (team_says, (severity_says pattern valid, tt));
      starts = (codes "2024-05-01T10:00:00Z", refl, begins);
      ends = (codes "2024-05-01T12:00:00+01:00", refl, finishes);
    },
    tt,
  );
})
