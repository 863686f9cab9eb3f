-- Forms are lawful if their parts are; and what follows for every lawful form.
use Rattle.std.proofs.Common.{◌≡◌, ◌↔◌, ℕ, List, [], ◌∷◌, ◌++◌, map, Bool, true, false, cond}
use Rattle.std.proofs.Common.{Option, Some, None, Result, Ok, Err, inl, inr, refl, sym, ap, ◌∙◌}
use Rattle.std.specs.Result.{result_map_both}
use Rattle.serde_json.specs.Data.{Data}
use Rattle.am_universe.specs.declared.kind.Kind.TheVariants as kinds
use Rattle.am_json.specs.Objections.{Objection, a_fault, a_pattern, first_fault, patterns_before}
use Rattle.am_json.specs.Objections.{IsRefusedFor, objections_within}
use Rattle.am_json.specs.OptionalItems.{optional_items, read_optional_items, read_optional_array}
use Rattle.am_json.specs.Pointer.{Refusal, refusal_within}
use Rattle.am_json.specs.Reading.{Form, IsLawful, IsPatternRefusal, MayRefuse, Reading}
use Rattle.am_json.specs.Reading.{StopsAtFirst}
use Rattle.am_json.specs.Reading.{accept, accept_or, boolean_or, check_only_fields}
use Rattle.am_json.specs.Reading.{ok_unless, patterns_then, read_boolean_or, read_counted}
use Rattle.am_json.specs.Reading.{read_each}
use Rattle.am_json.specs.Reading.{read_item_array, read_items, read_items_or_null, read_json}
use Rattle.am_json.specs.Reading.{read_next_item, reading_within, refuse}
use Rattle.am_json.specs.Reading.{refuse_where, required_items, required_text, result_then}
use Rattle.am_json.specs.Reading.{stopped_at_first, ◌>>=◌}
use Rattle.am_json.specs.ReadingLaw.{IsReadExactly}
use Rattle.am_json.proofs.Readings.{Decides, fault_decides, says_one}

-- ---- One after the other.

then_result : {A B : Type 0} (os : List Objection) (x : A) (f : A → Reading B)
    → StopsAtFirst (f x) → result_then (ok_unless (first_fault os) x) (λ y. (f y).result)
    ≡ ok_unless (first_fault (os ++ (f x).objections)) (f x).taken
then_result [] x f law = law.result
then_result (a_fault r ∷ os) x f law = refl
then_result (a_pattern pointer ∷ os) x f law = then_result os x f law

then_patterns : {A B : Type 0} (os : List Objection) (x : A) (f : A → Reading B)
    → StopsAtFirst (f x)
    → patterns_before os ++ patterns_then (ok_unless (first_fault os) x) (λ y. (f y).patterns)
    ≡ patterns_before (os ++ (f x).objections)
then_patterns [] x f law = law.patterns
then_patterns (a_fault r ∷ os) x f law = refl
then_patterns (a_pattern pointer ∷ os) x f law =
    ap (λ (ps : List (List ℕ)). pointer ∷ ps) (then_patterns os x f law)

pub then_stops : {A B : Type 0} (m : Reading A) (f : A → Reading B) → StopsAtFirst m
    → ((x : A) → StopsAtFirst (f x)) → StopsAtFirst (m >>= f)
then_stops {A} {B} m f law laws = record {
  result =
      ap (λ (read : Result A Refusal). result_then read (λ y. (f y).result)) law.result
      ∙ then_result m.objections m.taken f (laws m.taken);
  patterns =
      (λ i. law.patterns i ++ patterns_then (law.result i) (λ y. (f y).patterns))
      ∙ then_patterns m.objections m.taken f (laws m.taken);
}

-- ---- A part.

within_result : {A : Type 0} (part : List ℕ) (os : List Objection) (x : A)
    → result_map_both (λ y. y) (refusal_within part) (ok_unless (first_fault os) x)
    ≡ ok_unless (first_fault (objections_within part os)) x
within_result part [] x = refl
within_result part (a_fault r ∷ os) x = refl
within_result part (a_pattern pointer ∷ os) x = within_result part os x

within_patterns : (part : List ℕ) (os : List Objection)
    → map (λ pointer. part ++ pointer) (patterns_before os)
    ≡ patterns_before (objections_within part os)
within_patterns part [] = refl
within_patterns part (a_fault r ∷ os) = refl
within_patterns part (a_pattern pointer ∷ os) =
    ap (λ (ps : List (List ℕ)). (part ++ pointer) ∷ ps) (within_patterns part os)

pub within_stops : {A : Type 0} (part : List ℕ) (m : Reading A) → StopsAtFirst m
    → StopsAtFirst (reading_within part m)
within_stops {A} part m law = record {
  result =
      ap (λ (read : Result A Refusal). result_map_both (λ y. y) (refusal_within part) read)
      law.result ∙ within_result part m.objections m.taken;
  patterns =
      ap (λ (ps : List (List ℕ)). map (λ pointer. part ++ pointer) ps) law.patterns
      ∙ within_patterns part m.objections;
}

-- ---- What is found, and checks.

pub accept_stops : {A : Type 0} (x : A) → StopsAtFirst (accept x)
accept_stops x = record { result = refl; patterns = refl }

pub accept_or_stops : {A : Type 0} (stand_in : A) (found : Option A) (r : Refusal)
    → StopsAtFirst (accept_or stand_in found r)
accept_or_stops stand_in None r = record { result = refl; patterns = refl }
accept_or_stops stand_in (Some x) r = record { result = refl; patterns = refl }

pub refuse_stops : {A : Type 0} (stand_in : A) (r : Refusal) → StopsAtFirst (refuse stand_in r)
refuse_stops stand_in r = record { result = refl; patterns = refl }

pub stopped_stops : {A : Type 0} (taken : A) (os : List Objection)
    → StopsAtFirst (stopped_at_first taken os)
stopped_stops taken os = record { result = refl; patterns = refl }

pub refuse_where_stops : (found : Option Refusal) → StopsAtFirst (refuse_where found)
refuse_where_stops None = record { result = refl; patterns = refl }
refuse_where_stops (Some r) = record { result = refl; patterns = refl }

pub if_stops : {A : Type 0} (b : Bool) (m n : Reading A) → StopsAtFirst m → StopsAtFirst n
    → StopsAtFirst (cond b m n)
if_stops true m n law other = law
if_stops false m n law other = other

-- the rules by which a form is lawful
pub ruleset stops = (
  then_stops,
  within_stops,
  accept_stops,
  accept_or_stops,
  refuse_stops,
  refuse_where_stops,
  stopped_stops,
  if_stops,
)

-- ---- The parts of an object, and items.

pub only_fields_stop : (known : List (List ℕ)) (d : Data) → StopsAtFirst (check_only_fields known d)
unfolding check_only_fields
only_fields_stop known d = search stops

pub text_stops : (key : List ℕ) (d : Data) → StopsAtFirst (required_text key d)
unfolding required_text
text_stops key d = search stops

pub items_stop : (key : List ℕ) (d : Data) → StopsAtFirst (required_items key d)
unfolding required_items
items_stop key d = search stops

pub optional_stops : (found : Option Data) → StopsAtFirst (optional_items found)
optional_stops None = accept_stops []
optional_stops (Some d) = search stops

pub optional_items_stop : (key : List ℕ) (d : Data) → StopsAtFirst (read_optional_items key d)
unfolding read_optional_items
optional_items_stop key d = search (stops, optional_stops)

boolean_stops : (default : Bool) (found : Option Data) → StopsAtFirst (boolean_or default found)
boolean_stops default None = accept_stops default
boolean_stops default (Some d) = search stops

pub boolean_or_stops : (default : Bool) (key : List ℕ) (d : Data)
    → StopsAtFirst (read_boolean_or default key d)
unfolding read_boolean_or
boolean_or_stops default key d = search (stops, boolean_stops)

pub each_stops : {A X : Type 0} (read : A → X → Reading A)
    → ((before : A) (x : X) → StopsAtFirst (read before x)) → (before : A) (xs : List X)
    → StopsAtFirst (read_each read before xs)
unfolding read_each
each_stops read law before [] = accept_stops before
each_stops read law before (x ∷ xs) =
    then_stops (read before x) (λ next. read_each read next xs) (law before x)
    (λ next. each_stops read law next xs)

pub next_stops : {A : Type 0} (read : List A → Data → Reading A)
    → ((before : List A) (d : Data) → StopsAtFirst (read before d)) → (before : List A) (d : Data)
    → StopsAtFirst (read_next_item read before d)
unfolding read_next_item
next_stops read law before d = search (stops, law)

pub read_items_stop : {A : Type 0} (read : List A → Data → Reading A)
    → ((before : List A) (d : Data) → StopsAtFirst (read before d)) → (before : List A)
    (items : List Data) → StopsAtFirst (read_items read before items)
read_items_stop read law before items =
    each_stops (read_next_item read) (next_stops read law) before items

module _ {A : Type 0} (read : Form Data A) (law : IsLawful read) (limit : ℕ) where
  pub counted_stop : (items : List Data) → StopsAtFirst (read_counted limit read items)
  unfolding read_counted
  counted_stop items =
      search (stops, read_items_stop (λ _ item. read item) (λ _ item. law item))

  pub array_stops : (d : Data) → StopsAtFirst (read_item_array limit read d)
  unfolding read_item_array
  array_stops d = search (stops, counted_stop)

  pub or_null_stop : (d : Data) → StopsAtFirst (read_items_or_null limit read d)
  or_null_stop d = search (stops, array_stops)

  pub optional_array_stops : (key : List ℕ) (d : Data)
      → StopsAtFirst (read_optional_array key limit read d)
  unfolding read_optional_array
  optional_array_stops key d = search (stops, optional_items_stop, counted_stop)

-- the rules for all of these parts
pub ruleset all_stop = (
  stops,
  only_fields_stop,
  text_stops,
  items_stop,
  optional_items_stop,
  boolean_or_stops,
  each_stops,
  next_stops,
  counted_stop,
  array_stops,
  optional_array_stops,
)

-- the form of a file is lawful if the form of its value is
pub file_stops : {A : Type 0} (form : Form Data A) → IsLawful form
    → IsLawful (λ bytes. read_json bytes >>= form)
unfolding read_json
file_stops form law bytes = search (stops, law)

-- ---- Forms in which no pattern is met.

patterns_none : {A : Type 0} (result : Result A Refusal) (patterns : A → List (List ℕ))
    → ((x : A) → patterns x ≡ []) → patterns_then result patterns ≡ []
patterns_none (Ok x) patterns none = none x
patterns_none (Err r) patterns none = refl

pub then_plain : {A B : Type 0} (m : Reading A) (f : A → Reading B) → m.patterns ≡ []
    → ((x : A) → (f x).patterns ≡ []) → (m >>= f).patterns ≡ []
then_plain m f none more = rw (none, patterns_none m.result (λ x. (f x).patterns) more) refl

pub within_plain : {A : Type 0} (part : List ℕ) (m : Reading A) → m.patterns ≡ []
    → (reading_within part m).patterns ≡ []
within_plain part m none = rw none refl

pub if_plain : {A : Type 0} (b : Bool) (m n : Reading A) → m.patterns ≡ [] → n.patterns ≡ []
    → (cond b m n).patterns ≡ []
if_plain true m n none other = none
if_plain false m n none other = other

pub ruleset plain = (then_plain, within_plain, if_plain)

pub each_plain : {A X : Type 0} (read : A → X → Reading A)
    → ((before : A) (x : X) → (read before x).patterns ≡ []) → (before : A) (xs : List X)
    → (read_each read before xs).patterns ≡ []
unfolding read_each
each_plain read none before [] = refl
each_plain read none before (x ∷ xs) =
    then_plain (read before x) (λ next. read_each read next xs) (none before x)
    (λ next. each_plain read none next xs)

next_plain : {A : Type 0} (read : List A → Data → Reading A)
    → ((before : List A) (d : Data) → (read before d).patterns ≡ []) → (before : List A) (d : Data)
    → (read_next_item read before d).patterns ≡ []
unfolding read_next_item
next_plain read none before d = search (plain, none)

module _ {A : Type 0} (read : Form Data A) (none : (d : Data) → (read d).patterns ≡ []) (limit : ℕ)
  where
    array_plain : (d : Data) → (read_item_array limit read d).patterns ≡ []
    unfolding read_item_array read_counted
    array_plain d =
        search (
          plain,
          each_plain (read_next_item (λ _ item. read item))
              (next_plain (λ _ item. read item) (λ _ item. none item)),
        )

    pub or_null_plain : (d : Data) → (read_items_or_null limit read d).patterns ≡ []
    or_null_plain d = search (plain, array_plain)

pub file_plain : {A : Type 0} (form : Form Data A) → ((d : Data) → (form d).patterns ≡ [])
    → (bytes : List ℕ) → (read_json bytes >>= form).patterns ≡ []
unfolding read_json
file_plain form none bytes = search (plain, none)

-- ---- What follows for every lawful form.

pub unless_ok : {A : Type 0} (found : Option Refusal) (x y : A) → ok_unless found x ≡ Ok y
    → found ≡ None
unless_ok None x y e = refl
unless_ok (Some r) x y e = absurd cc

unless_err : {A : Type 0} (found : Option Refusal) (x : A) (r : Refusal)
    → (ok_unless found x ≡ Err r) ↔ (found ≡ Some r)
unless_err None x r = (λ e. absurd cc, λ e. absurd cc)
unless_err (Some s) x r = (λ e. cc, λ e. cc)

-- the refusal of a pattern that is met is for one of the objections, and so is the first fault
met_refused : (os : List Objection) (r : Refusal) → IsPatternRefusal (patterns_before os) r
    → IsRefusedFor os r
met_refused [] r met = met
met_refused (a_fault found ∷ os) r met = absurd met
met_refused (a_pattern pointer ∷ os) r (inl is) = inl is
met_refused (a_pattern pointer ∷ os) r (inr met) = inr (met_refused os r met)

first_refused : (os : List Objection) (r : Refusal) → first_fault os ≡ Some r → IsRefusedFor os r
first_refused [] r e = absurd cc
first_refused (a_fault found ∷ os) r e = cc
first_refused (a_pattern pointer ∷ os) r e = inr (first_refused os r e)

-- if there is no fault, only a pattern may be refused
only_pattern : (os : List Objection) (r : Refusal) → first_fault os ≡ None → IsRefusedFor os r
    → r.kind ≡ kinds.Pattern
only_pattern [] r none refused = absurd refused
only_pattern (a_fault found ∷ os) r none refused = absurd cc
only_pattern (a_pattern pointer ∷ os) r none (inl is) = ap (λ (s : Refusal). s.kind) is
only_pattern (a_pattern pointer ∷ os) r none (inr refused) = only_pattern os r none refused

pub record FormLaws {X A : Type 0} (Says : X → A → Type 0) (form : Form X A) : Type 0 where
  -- reading gives exactly what is said, and refuses for exactly the first fault
  pub exact : IsReadExactly Says form (λ x r. first_fault (form x).objections ≡ Some r)
  -- something is said exactly if there is no fault
  pub sound : (x : X) → ((a : A) × Says x a) ↔ (first_fault (form x).objections ≡ None)
  -- a refusal that may occur is for one of the objections
  pub refused : (x : X) (r : Refusal) → MayRefuse (form x) r → IsRefusedFor (form x).objections r
  -- and if something is said, only a pattern may be refused
  pub accepted : (x : X) (a : A) (r : Refusal) → Says x a → IsRefusedFor (form x).objections r
      → r.kind ≡ kinds.Pattern

module _ {X A : Type 0} (Says : X → A → Type 0) (form : Form X A)
    (decides : (x : X) → Decides (Says x) (form x).result) (law : IsLawful form) where
  first : (x : X) (r : Refusal)
      → ((form x).result ≡ Err r) ↔ (first_fault (form x).objections ≡ Some r)
  first x r =
      let by = unless_err (first_fault (form x).objections) (form x).taken r in
      (λ e. by.0 (sym (law x).result ∙ e), λ e. (law x).result ∙ by.1 e)

  none : (x : X) (a : A) → Says x a → first_fault (form x).objections ≡ None
  none x a said =
      unless_ok (first_fault (form x).objections) (form x).taken a
      (sym (law x).result ∙ (decides x).reads a said)

  pub form_laws : FormLaws Says form
  form_laws = record {
    exact = record {
      read = λ x a. ((decides x).reads a, (decides x).says a);
      one = λ x a b. says_one (decides x) a b;
      faults = λ x. fault_decides (decides x);
      first = first;
    };
    sound = λ x. (
      λ said. none x said.0 said.1,
      λ e. (
        (form x).taken,
        (decides x).says (form x).taken
            ((law x).result ∙ ap (λ (found : Option Refusal). ok_unless found (form x).taken) e),
      ),
    );
    refused = λ x r. elim [
      | inl e ↦ first_refused (form x).objections r ((first x r).0 e)
      | inr met ↦ met_refused (form x).objections r
          (rw (law x).patterns at met)
    ];
    accepted = λ x a r said refused.
        only_pattern (form x).objections r (none x a said) refused;
  }

-- if no pattern is met, the only refusal is the first fault
pub plain_refused : {X A : Type 0} {Says : X → A → Type 0} {form : Form X A} → FormLaws Says form
    → (x : X) (r : Refusal) → (form x).patterns ≡ [] → MayRefuse (form x) r
    → first_fault (form x).objections ≡ Some r
plain_refused {form = form} laws x r none (inl e) = (laws.exact.first x r).0 e
plain_refused {form = form} laws x r none (inr met) = absurd (rw none at met)

-- a value that says something has no first fault
pub says_no_fault : {X A : Type 0} {Says : X → A → Type 0} {form : Form X A} → FormLaws Says form
    → (x : X) (a : A) (r : Refusal) → Says x a → first_fault (form x).objections ≡ Some r → ⊥
says_no_fault {A = A} laws x a r said is =
    let both : Ok a ≡ Err r = sym ((laws.exact.read x a).0 said) ∙ (laws.exact.first x r).1 is in
    absurd cc
