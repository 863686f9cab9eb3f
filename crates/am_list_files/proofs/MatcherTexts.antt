-- Matcher texts that are read, and those that are refused.
use Rattle.std.proofs.Common.{◌≡◌, ◌≢◌, ℕ, ◌≤◌, List, [], length, Bool, true, false, cond, Option}
use Rattle.std.proofs.Common.{Some}
use Rattle.std.proofs.Common.{None, Result, Ok, Err, IsTrue, inl, inr, refl, sym, subst}
use Rattle.std.specs.Prelude.{IsErrAnd}
use Rattle.am_universe.specs.declared.kind.Kind.{Kind}
use Rattle.am_universe.specs.declared.kind.Kind.TheVariants as kinds
use Rattle.am_labels.specs.declared.limits.TheConstants.{MAX_MATCHERS}
use Rattle.am_labels.specs.Matcher.{Matcher}
use Rattle.am_labels.specs.PatternProfile.{in_profile}
use Rattle.am_labels.specs.MatcherText.{Spells}
use Rattle.am_labels.specs.MatcherReading.{read_list}
use Rattle.am_labels.specs.MatcherRefusals.{have_valid_patterns, pattern_refusal, TextRefusedFor}
use Rattle.am_labels.proofs.MatcherTextWhole.{list_is_read, list_is_spelled}
use Rattle.am_json.specs.declared.read_error.ReadError.{ReadError}
use Rattle.am_json.specs.declared.read_error.ReadError.TheVariants as errors
use Rattle.am_json.specs.Pointer.{Refusal, refusal_here, refusal_within}
use Rattle.am_json.specs.Reading.{Reading, ◌>>=◌, accept, accept_or, reading_within, check_count}
use Rattle.am_json.specs.Reading.{MayRefuse, IsRefusalOrMemory, Gives}
use Rattle.am_list_files.specs.MatcherFaults.{check_patterns}
use Rattle.am_list_files.specs.MatcherTexts.{matcher_text_form, text_refusal}
use Rattle.am_json.proofs.Readings.{refuses_first, refuses_later, refuses_within, check_count_fits}
use Rattle.am_json.proofs.Readings.{Decides, check_count_over}
use Rattle.am_json.proofs.Deciding.{accept_decides, count_decides, found_decides, said_as}
use Rattle.am_json.proofs.Deciding.{then_decides, within_decides}
use Rattle.am_list_files.proofs.Matching.{patterns_decide, patterns_refused}

abbrev err_of : ReadError → Result (List Matcher) ReadError
err_of e = Err e

refused_is_no_memory : (found : Refusal) → err_of (errors.Refused found) ≡ err_of errors.Memory → ⊥
refused_is_no_memory found h = cc

-- a text that is read says the list that it spells
pub spelled_decides : (part limit : List ℕ) (text : List ℕ)
    → Decides (λ ms. Spells text ms × (length ms ≤ MAX_MATCHERS) × IsTrue (have_valid_patterns ms))
    ((matcher_text_form part limit text).result)
unfolding matcher_text_form
spelled_decides part limit text =
    said_as
    (then_decides
    (within_decides part (found_decides (read_list text) (refusal_here kinds.BadMatcher)))
    (λ ms. then_decides (within_decides limit (count_decides MAX_MATCHERS (length ms)))
    (λ _. then_decides (within_decides part (patterns_decide ms)) (λ _. accept_decides ms))))
    (λ all (ms, read, (_, few, (_, valid, is))).
    subst (λ (ns : List Matcher).
    Spells text ns × (length ns ≤ MAX_MATCHERS) × IsTrue (have_valid_patterns ns)) is
    (list_is_spelled text ms read, few, valid))
    (λ all (spells, few, valid). (all, list_is_read text all spells, (tt, few, (tt, valid, refl))))

none_read : (text : List ℕ) (found : Option (List Matcher)) → read_list text ≡ found
    → ((ms : List Matcher) → Spells text ms → ⊥) → read_list text ≡ None
none_read text None is none = is
none_read text (Some ms) is none = absurd (none ms (list_is_spelled text ms is))

text_patterns : (part limit : List ℕ) (text : List ℕ) (ms : List Matcher) (r : Refusal)
    → Spells text ms → length ms ≤ MAX_MATCHERS → MayRefuse (check_patterns ms) r
    → MayRefuse (matcher_text_form part limit text) (refusal_within part r)
unfolding matcher_text_form
text_patterns part limit text ms r spells le h =
    let read : (accept_or [] (read_list text) (refusal_here kinds.BadMatcher)).result ≡ Ok ms =
    rw (list_is_read text ms spells) refl in
    let first : (reading_within part
    (accept_or [] (read_list text) (refusal_here kinds.BadMatcher))).result ≡ Ok ms = rw read
    refl in
    let second : (reading_within limit (check_count MAX_MATCHERS (length ms))).result ≡ Ok tt =
    rw (check_count_fits MAX_MATCHERS (length ms) le) refl in
    let patterns : List Matcher → Reading (List Matcher) =
    λ ns. reading_within part (check_patterns ns) >>= λ _. accept ns in
    let few : List Matcher → Reading (List Matcher) =
    λ ns. reading_within limit (check_count MAX_MATCHERS (length ns)) >>= λ _. patterns ns in
    let third =
    refuses_first (reading_within part (check_patterns ms)) (λ _. accept ms)
    (refusal_within part r) (refuses_within part (check_patterns ms) r h) in
    let behind =
    refuses_later (reading_within limit (check_count MAX_MATCHERS (length ms)))
    (λ _. patterns ms) tt (refusal_within part r) second third in
    refuses_later (reading_within part
    (accept_or [] (read_list text) (refusal_here kinds.BadMatcher))) few ms
    (refusal_within part r) first behind

pattern_text_refusal : (part limit : List ℕ) (profile : Bool)
    → text_refusal part limit (cond profile kinds.Pattern kinds.PatternProfile) ≡ refusal_within
    part (refusal_here (cond profile kinds.Pattern kinds.PatternProfile))
pattern_text_refusal part limit true = refl
pattern_text_refusal part limit false = refl

text_refused : (part limit : List ℕ) (text : List ℕ) (kind : Kind) → TextRefusedFor text kind
    → MayRefuse (matcher_text_form part limit text) (text_refusal part limit kind)
unfolding matcher_text_form
text_refused part limit text kind (inl bad) =
    rw bad.0 (inl (rw (none_read text (read_list text) refl bad.1) refl))
text_refused part limit text kind (inr s) =
    elim s.refused [
      | inl long ↦ rw long.1
          (inl (rw (
            list_is_read text s.list s.spelled,
            check_count_over MAX_MATCHERS (length s.list) long.0,
          ) refl))
      | inr short ↦
          let is : kind ≡ pattern_refusal short.1.refused.value = short.1.value.kind_is in
          let at =
          text_patterns part limit text s.list (refusal_here kind) s.spelled short.0
          (patterns_refused s.list kind short.1) in
          let same : text_refusal part limit kind ≡ refusal_within part (refusal_here kind) =
          rw is (pattern_text_refusal part limit (in_profile short.1.refused.value)) in
          subst (λ (r : Refusal). MayRefuse (matcher_text_form part limit text) r) (sym same) at
    ]

pub text_fails : (part limit : List ℕ) (text : List ℕ) (kind : Kind)
    (result : Result (List Matcher) ReadError) → (kind ≢ kinds.Memory → TextRefusedFor text kind)
    → IsErrAnd result (λ e. IsRefusalOrMemory e (text_refusal part limit kind))
    → (kind ≡ kinds.Memory → result ≡ Err errors.Memory)
    → Gives (λ ms. ms) result (matcher_text_form part limit text)
text_fails part limit text kind (Ok ms) refused is memory = absurd is
text_fails part limit text kind (Err errors.Memory) refused is memory = tt
text_fails part limit text kind (Err (errors.Refused found)) refused is memory =
    rw is (text_refused part limit text kind (refused (λ e. refused_is_no_memory found (memory e))))

refused_here : (kind : Kind) → text_refusal [] [] kind ≡ refusal_here kind
refused_here kinds.Limit = refl
refused_here kind = refl

-- the same, if all faults of a text are at the value that is looked at
pub text_refused_here : (text : List ℕ) (kind : Kind) → (kind ≢ kinds.Memory
    → TextRefusedFor text kind) → kind ≢ kinds.Memory
    → MayRefuse (matcher_text_form [] [] text) (refusal_here kind)
text_refused_here text kind refused other =
    subst (λ (r : Refusal). MayRefuse (matcher_text_form [] [] text) r) (refused_here kind)
    (text_refused [] [] text kind (refused other))
