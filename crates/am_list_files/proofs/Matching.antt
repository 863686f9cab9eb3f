-- Matchers whose name and pattern are accepted, and those that are refused.
use Rattle.std.proofs.Common.{◌≡◌, ◌≢◌, ℕ, List, [], ◌∷◌, ◌++◌, Bool, true, false, cond, Option}
use Rattle.std.proofs.Common.{Some, None, IsTrue, inl, inr, refl, sym, ◌∙◌}
use Rattle.std.proofs.lemmas.Bool.{and_parts}
use Rattle.am_universe.specs.declared.kind.Kind.{Kind}
use Rattle.am_labels.specs.declared.op.Op.{Op}
use Rattle.am_labels.specs.Matcher.{Matcher, takes_pattern}
use Rattle.am_labels.specs.Pattern.{is_pattern}
use Rattle.am_labels.specs.PatternProfile.{in_profile}
use Rattle.am_labels.specs.MatcherRefusals.{has_valid_pattern, have_valid_patterns, pattern_refusal}
use Rattle.am_labels.specs.MatcherRefusals.{PatternsRefusedFor}
use Rattle.am_json.specs.Objections.{Objection, a_fault, a_pattern, first_fault, patterns_before}
use Rattle.am_json.specs.Pointer.{Refusal, refusal_here}
use Rattle.am_json.specs.Reading.{IsPatternRefusal, MayRefuse, refuse_for}
use Rattle.am_list_files.specs.MatcherFaults.{check_matcher, check_patterns, label_name_fault}
use Rattle.am_list_files.specs.MatcherFaults.{has_profile_pattern, pattern_objections}
use Rattle.am_json.proofs.FormLaws.{unless_ok}
use Rattle.am_json.proofs.Deciding.{accept_decides, cause_decides, said_as, then_decides}
use Rattle.am_json.proofs.Readings.{Decides, pattern_right}

-- ---- Patterns.

-- what the pattern of the first matcher adds to the objections of the others
first_of : (profile valid : Bool) (r : Refusal) (more : List Objection)
    → first_fault ((cond profile (a_pattern [] ∷ []) [] ++ cond valid [] (a_fault r ∷ [])) ++ more)
    ≡ cond valid (first_fault more) (Some r)
first_of true true r more = refl
first_of true false r more = refl
first_of false true r more = refl
first_of false false r more = refl

met_of : (profile valid : Bool) (r : Refusal) (more : List Objection)
    → patterns_before ((cond profile (a_pattern [] ∷ []) [] ++ cond valid [] (a_fault r ∷ []))
    ++ more)
    ≡ cond profile ([] ∷ []) [] ++ cond valid (patterns_before more) []
met_of true true r more = refl
met_of true false r more = refl
met_of false true r more = refl
met_of false false r more = refl

abbrev fault_in : List Matcher → Option Refusal
fault_in ms = first_fault (pattern_objections ms)

fault_is : (m : Matcher) (ms : List Matcher)
    → fault_in (m ∷ ms)
    ≡ cond (has_valid_pattern m) (fault_in ms) (Some (refusal_here (pattern_refusal m.value)))
fault_is m ms =
    first_of (has_profile_pattern m) (has_valid_pattern m) (refusal_here (pattern_refusal m.value))
    (pattern_objections ms)

met_is : (m : Matcher) (ms : List Matcher)
    → patterns_before (pattern_objections (m ∷ ms))
    ≡ cond (has_profile_pattern m) ([] ∷ []) []
    ++ cond (has_valid_pattern m) (patterns_before (pattern_objections ms)) []
met_is m ms =
    met_of (has_profile_pattern m) (has_valid_pattern m) (refusal_here (pattern_refusal m.value))
    (pattern_objections ms)

-- valid patterns have no fault
sound_passes : (ms : List Matcher) → IsTrue (have_valid_patterns ms) → fault_in ms ≡ None
sound_passes [] h = refl
sound_passes (m ∷ ms) h =
    let split = and_parts (has_valid_pattern m) (have_valid_patterns ms) h in
    fault_is m ms ∙ rw split.0 (sound_passes ms split.1)

sound_by : (m : Matcher) (ms : List Matcher) (b : Bool) → has_valid_pattern m ≡ b
    → cond b (fault_in ms) (Some (refusal_here (pattern_refusal m.value))) ≡ None
    → (fault_in ms ≡ None → IsTrue (have_valid_patterns ms))
    → IsTrue (have_valid_patterns (m ∷ ms))
sound_by m ms true is h rest = rw (is, rest h) refl
sound_by m ms false is h rest = absurd cc

passes_sound : (ms : List Matcher) → fault_in ms ≡ None → IsTrue (have_valid_patterns ms)
passes_sound [] h = refl
passes_sound (m ∷ ms) h =
    sound_by m ms (has_valid_pattern m) refl (sym (fault_is m ms) ∙ h) (passes_sound ms)

pub patterns_decide : (ms : List Matcher)
    → Decides (λ _. IsTrue (have_valid_patterns ms)) ((check_patterns ms).result)
patterns_decide ms = record {
  says = λ x h. passes_sound ms (unless_ok (fault_in ms) tt x h);
  reads = λ x valid. rw (sound_passes ms valid) refl;
}

refused_first : (m : Matcher) (after : List Matcher) (takes profile pattern : Bool)
    → takes_pattern m.op ≡ takes → in_profile m.value ≡ profile → is_pattern m.value ≡ pattern
    → takes ≡ true
    → MayRefuse (check_patterns (m ∷ after)) (refusal_here (pattern_refusal m.value))
refused_first m after true true pattern t p q h = inr (rw (met_is m after, t, p) (inl refl))
refused_first m after true false pattern t p q h = inl (rw (fault_is m after, t, p) refl)
refused_first m after false profile pattern t p q h = absurd cc

refused_behind : (x : Matcher) (ms : List Matcher) (r : Refusal) → has_valid_pattern x ≡ true
    → MayRefuse (check_patterns ms) r → MayRefuse (check_patterns (x ∷ ms)) r
refused_behind x ms r sound (inl h) = inl (rw (fault_is x ms, sound) h)
refused_behind x ms r sound (inr h) =
    let met = patterns_before (pattern_objections ms) in
    let later : IsPatternRefusal (cond (has_valid_pattern x) met []) r = rw sound h in
    inr (rw (met_is x ms) (pattern_right (cond (has_profile_pattern x) ([] ∷ []) [])
    (cond (has_valid_pattern x) met []) r later))

refused_at : (before : List Matcher) (m : Matcher) (after : List Matcher)
    → IsTrue (have_valid_patterns before) → IsTrue (takes_pattern m.op)
    → MayRefuse (check_patterns (before ++ m ∷ after)) (refusal_here (pattern_refusal m.value))
refused_at [] m after sound takes =
    refused_first m after (takes_pattern m.op) (in_profile m.value) (is_pattern m.value) refl refl
    refl takes
refused_at (x ∷ before) m after sound takes =
    let split = and_parts (has_valid_pattern x) (have_valid_patterns before) sound in
    refused_behind x (before ++ m ∷ after) (refusal_here (pattern_refusal m.value)) split.0
    (refused_at before m after split.1 takes)

pub patterns_refused : (ms : List Matcher) (kind : Kind) → PatternsRefusedFor ms kind
    → MayRefuse (check_patterns ms) (refusal_here kind)
patterns_refused ms kind refused =
    rw (refused.parts, refused.value.kind_is)
    (refused_at refused.before refused.refused refused.after refused.earlier
    refused.value.pattern)

-- ---- The name of a label.

named_passes : (name : List ℕ) → name ≢ [] → label_name_fault name ≡ None
named_passes [] h = absurd (h refl)
named_passes (c ∷ cs) h = refl

name_is_some : (name : List ℕ) → label_name_fault name ≡ None → name ≢ []
name_is_some [] h = absurd cc
name_is_some (c ∷ cs) h = λ e. cc

pub named_decides : (name : List ℕ)
    → Decides (λ _. name ≢ []) ((refuse_for (label_name_fault name)).result)
named_decides name =
    said_as (cause_decides (label_name_fault name)) (λ _ none. name_is_some name none)
    (λ _ some. named_passes name some)

-- ---- One matcher.

pub checked_matcher_decides : (n : Matcher)
    → Decides (λ m. (n ≡ m) × IsTrue (has_valid_pattern n)) ((check_matcher n).result)
checked_matcher_decides n =
    said_as (then_decides (patterns_decide (n ∷ [])) (λ _. accept_decides n))
    (λ m (_, valid, is). (is, (and_parts (has_valid_pattern n) true valid).0))
    (λ m (is, valid). (tt, rw valid refl, is))

pub same_matcher : (m : Matcher) (name : List ℕ) (op : Op) → m.name ≡ name → m.op ≡ op
    → record { name = name; op = op; value = m.value } ≡ m
same_matcher m name op n o = rw (← n, ← o) refl
