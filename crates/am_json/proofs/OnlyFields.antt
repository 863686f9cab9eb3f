-- A value with only some of its fields, to a reader that asks for no other field.
use Rattle.std.proofs.Common.{◌≡◌, ℕ, List, [], ◌++◌, Bool, true, false, Ordering, Less, Equal}
use Rattle.std.proofs.Common.{Greater, Some, Option, Result, Ok, Err, nat_cmp, refl, sym, ap}
use Rattle.std.proofs.Common.{◌∙◌}
use Rattle.std.specs.Prelude.{if◌then◌else◌, option_and_then}
use Rattle.std.specs.Cmp.Lexicographic.{slice_cmp}
use Rattle.std.specs.Ordering.{match_ordering}
use Rattle.std.proofs.lemmas.List.{append-nil}
use Rattle.serde_json.specs.Data.{Data, object, Members, no_members, member}
use Rattle.serde_json.specs.Find.{get_member}
use Rattle.am_json.specs.declared.read_error.ReadError.{ReadError}
use Rattle.am_json.specs.Json.{is_one_of, only_members, only_fields, non_null, field}
use Rattle.am_json.specs.Pointer.{Refusal}
use Rattle.am_json.specs.Reading.{Reading, ◌>>=◌, accept, result_then, patterns_then}
use Rattle.am_json.specs.Reading.{read_json, read_json_fields, Gives}
use Rattle.am_json.proofs.KeptMembers.{same_key}
use Rattle.am_json.proofs.Readings.{Leads, fails_led}

-- ---- The fields with these names.

module _ (names : List (List ℕ)) where
  passed : (b : Bool) (key other : List ℕ) (e : Data) (rest : Members) (found : Option Data)
      → get_member key (member other e rest) ≡ get_member key rest → get_member key rest ≡ found
      → get_member key (if b then member other e rest else rest) ≡ found
  passed true key other e rest found skips is = skips ∙ is
  passed false key other e rest found skips is = is

  found_at : (o : Ordering) (key other : List ℕ) (e : Data) (rest : Members)
      → slice_cmp nat_cmp key other ≡ o → is_one_of key names ≡ true
      → get_member key (only_members names rest) ≡ get_member key rest
      → get_member key (only_members names (member other e rest))
      ≡ match_ordering o (get_member key rest) (Some e) (get_member key rest)
  found_at Equal key other e rest is named later =
      let too : is_one_of other names ≡ true = rw (← same_key key other is) named in
      rw (too, is) refl
  found_at Less key other e rest is named later =
      passed (is_one_of other names) key other e (only_members names rest) (get_member key rest)
      (rw is refl) later
  found_at Greater key other e rest is named later =
      passed (is_one_of other names) key other e (only_members names rest) (get_member key rest)
      (rw is refl) later

  get_named : (key : List ℕ) (ms : Members) → is_one_of key names ≡ true
      → get_member key (only_members names ms) ≡ get_member key ms
  get_named key no_members named = refl
  get_named key (member other e rest) named =
      found_at (slice_cmp nat_cmp key other) key other e rest refl named
      (get_named key rest named)

  -- they are the same
  pub field_named : (key : List ℕ) (d : Data) → is_one_of key names ≡ true
      → field key (only_fields names d) ≡ field key d
  field_named key (object ms) named = ap (option_and_then non_null) (get_named key ms named)
  field_named key d named = refl

-- ---- A file.

pub gives_led : {X Y : Type 0} (view : X → Y) (returned : Result X ReadError)
    (rest whole : Reading Y) → Leads rest whole → Gives view returned rest
    → Gives view returned whole
gives_led view (Ok x) rest whole leads gives = sym leads.result ∙ gives
gives_led view (Err e) rest whole leads gives = fails_led e rest whole leads gives

module _ {A B : Type 0} (kept : A → A) (f : A → Reading B)
    (same : (x : A) → f (kept x) ≡ f x) where
  same_result : (r : Result A Refusal)
      → result_then (result_then r (λ x. Ok (kept x))) (λ x. (f x).result)
      ≡ result_then r (λ x. (f x).result)
  same_result (Ok x) = ap (λ (m : Reading B). m.result) (same x)
  same_result (Err r) = refl

  same_patterns : (before : List (List ℕ)) (r : Result A Refusal)
      → (before ++ patterns_then r (λ x. []))
      ++ patterns_then (result_then r (λ x. Ok (kept x))) (λ x. (f x).patterns)
      ≡ before ++ patterns_then r (λ x. (f x).patterns)
  same_patterns before (Ok x) = rw (append-nil before, same x) refl
  same_patterns before (Err r) = ap (λ (ps : List (List ℕ)). ps ++ []) (append-nil before)

  kept_leads : (m : Reading A) → Leads ((m >>= λ x. accept (kept x)) >>= f) (m >>= f)
  kept_leads m = record {
    result = same_result m.result;
    patterns = λ r h. rw (← same_patterns m.patterns m.result) h;
  }

-- a form that does not ask for other fields gives the same for the fields of the file as for the
-- whole file
pub fields_lead : {B : Type 0} (names : List (List ℕ)) (form : Data → Reading B) (bytes : List ℕ)
    → ((d : Data) → form (only_fields names d) ≡ form d)
    → Leads (read_json_fields names bytes >>= form) (read_json bytes >>= form)
unfolding read_json_fields
fields_lead names form bytes same = kept_leads (only_fields names) form same (read_json bytes)
