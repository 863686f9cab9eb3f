-- A value says silences exactly if reading it finds no fault, and then it says the silences that
-- reading gives.
use Rattle.std.proofs.Common.{◌≡◌, ◌≢◌, ℕ, ◌≤◌, List, [], ◌∷◌, length, true, false}
use Rattle.std.proofs.Common.{Some, None, refl, sym, subst}
use Rattle.std.specs.Prelude.{codes, IsTrue}
use Rattle.std.specs.List.{AllZip}
use borrow.Author.Tests.{le-ltb}
use Rattle.serde_json.specs.Data.{Data, string}
use Rattle.am_universe.specs.declared.kind.Kind.TheVariants as kinds
use Rattle.am_labels.specs.declared.limits.TheConstants.{MAX_MATCHERS}
use Rattle.am_labels.specs.Matcher.{Matcher}
use Rattle.am_labels.specs.MatcherRefusals.{has_valid_pattern}
use Rattle.am_list_files.specs.declared.limits.TheConstants.{MAX_SILENCES}
use Rattle.am_json.specs.Json.{field}
use Rattle.am_json.specs.Pointer.{refusal_here, to_field}
use Rattle.am_list_files.specs.Instant.{instant_of}
use Rattle.am_list_files.specs.SilencesFile.{Silence, flagged_op, SaysSilenceMatcher}
use Rattle.am_list_files.specs.SilencesFile.{SaysInstant, SaysSilence, SaysSilences}
use Rattle.am_list_files.specs.SilencesForm.{matcher_count_fault}
use Rattle.am_list_files.specs.SilencesForm.{label_name_form}
use Rattle.am_list_files.specs.SilencesForm.{silence_matcher_form}
use Rattle.am_list_files.specs.SilencesForm.{silence_matchers_form}
use Rattle.am_list_files.specs.SilencesForm.{required_instant_form}
use Rattle.am_list_files.specs.SilencesForm.{silence_form, silences_form}
use Rattle.am_json.proofs.Deciding.{accept_decides, behind_decides, boolean_decides}
use Rattle.am_json.proofs.Deciding.{cause_decides, checked_decides, found_decides, items_decide}
use Rattle.am_json.proofs.Deciding.{said_as, text_decides, then_decides, within_decides}
use Rattle.am_json.proofs.Deciding.{object_of}
use Rattle.am_json.proofs.Items.{each_decide, or_null_decides}
use Rattle.am_json.proofs.Readings.{Decides, check_count_ok}
use Rattle.am_list_files.proofs.Matching.{checked_matcher_decides, named_decides, same_matcher}

-- ---- A matcher.

name_decides : (d : Data)
    → Decides (λ name. (field (codes "name") d ≡ Some (string name)) × (name ≢ []))
    ((label_name_form d).result)
unfolding label_name_form
name_decides d =
    checked_decides (text_decides (codes "name") d)
    (λ name. within_decides (to_field (codes "name")) (named_decides name))

matcher_decides : (d : Data) → Decides (SaysSilenceMatcher d) ((silence_matcher_form d).result)
unfolding silence_matcher_form
matcher_decides d =
    behind_decides (λ m said. object_of (codes "name") d (string m.name) said.name)
    (said_as
    (then_decides (name_decides d)
    (λ name. then_decides (text_decides (codes "value") d)
    (λ value. then_decides (boolean_decides false (codes "isRegex") d)
    (λ is_regex. then_decides (boolean_decides true (codes "isEqual") d)
    (λ is_equal. within_decides (to_field (codes "value"))
    (checked_matcher_decides
    (record { name = name; op = flagged_op is_regex is_equal; value = value })))))))
    (λ m (name, named, (value, valued, (is_regex, regex, (is_equal, equal, (is, valid))))).
    subst (λ (n : Matcher). SaysSilenceMatcher d n) is (record {
      name = named.0;
      named = named.1;
      value = valued;
      is_regex = is_regex;
      regex = regex;
      is_equal = is_equal;
      equal = equal;
      op = refl;
      valid_pattern = valid;
    }))
    (λ m said.
    let same = same_matcher m m.name (flagged_op said.is_regex said.is_equal) refl said.op in
    let valid =
    subst (λ (n : Matcher). IsTrue (has_valid_pattern n)) (sym same) said.valid_pattern in (
      m.name,
      (said.name, said.named),
      (m.value, said.value, (said.is_regex, said.regex, (said.is_equal, said.equal, (same, valid)))),
    )))

-- ---- The matchers of a silence.

count_fits : (items : List Data) → matcher_count_fault (length items) ≡ None
    → (items ≢ []) × (length items ≤ MAX_MATCHERS)
count_fits [] h = absurd cc
count_fits (d ∷ ds) h =
    (λ e. cc, check_count_ok MAX_MATCHERS (length (d ∷ ds)) tt (rw h refl))

fits_count : (items : List Data) → items ≢ [] → length items ≤ MAX_MATCHERS
    → matcher_count_fault (length items) ≡ None
fits_count [] some few = absurd (some refl)
fits_count (d ∷ ds) some few = rw (le-ltb MAX_MATCHERS (length (d ∷ ds)) few) refl

-- an array of matchers
abbrev SaysMatchers : List Data → List Matcher → Type 0
SaysMatchers items ms =
    (items ≢ []) × (length items ≤ MAX_MATCHERS) × AllZip SaysSilenceMatcher items ms

matchers_decide : (items : List Data)
    → Decides (SaysMatchers items) ((silence_matchers_form items).result)
unfolding silence_matchers_form
matchers_decide items =
    said_as
    (then_decides (cause_decides (matcher_count_fault (length items)))
    (λ _. each_decide SaysSilenceMatcher silence_matcher_form matcher_decides items))
    (λ ms (_, none, each). let fits = count_fits items none in (fits.0, fits.1, each))
    (λ ms (some, few, each). (tt, fits_count items some few, each))

-- ---- A silence.

instant_decides : (key : List ℕ) (d : Data)
    → Decides (SaysInstant key d) ((required_instant_form key d).result)
unfolding required_instant_form
instant_decides key d =
    then_decides (text_decides key d)
    (λ text. within_decides (to_field key)
    (found_decides (instant_of text) (refusal_here kinds.BadTime)))

silence_decides : (d : Data) → Decides (SaysSilence d) ((silence_form d).result)
unfolding silence_form
silence_decides d =
    behind_decides (λ s said. object_of (codes "startsAt") d (string said.starts.0) said.starts.1)
    (said_as
    (then_decides (items_decide (codes "matchers") d)
    (λ items. then_decides (within_decides (to_field (codes "matchers")) (matchers_decide items))
    (λ matchers. then_decides (instant_decides (codes "startsAt") d)
    (λ starts. then_decides (instant_decides (codes "endsAt") d)
    (λ ends. accept_decides
    (record { matchers = matchers; starts = starts; ends = ends }))))))
    (λ s (items, is_array, (matchers, (some, few, said), (starts, begins, (ends, finishes, is)))).
    subst (λ (found : Silence). SaysSilence d found) is (record {
      items = items;
      is_array = is_array;
      some = some;
      few = few;
      matchers = said;
      starts = begins;
      ends = finishes;
    }))
    (λ s said. (
      said.items,
      said.is_array,
      (
        s.matchers,
        (said.some, said.few, said.matchers),
        (s.starts, said.starts, (s.ends, said.ends, refl)),
      ),
    )))

-- ---- All silences.

pub silences_decide : (d : Data) → Decides (SaysSilences d) ((silences_form d).result)
silences_decide = or_null_decides SaysSilence silence_form silence_decides MAX_SILENCES
