-- What the answer of a reader says about the reading, and what a reading without a fault says about
-- its steps.
use Rattle.std.proofs.Common.{◌≡◌, ◌≢◌, ℕ, ◌<◌, ◌≤◌, List, [], ◌∷◌, ◌++◌, map, Option, Some, None}
use Rattle.std.proofs.Common.{Result, Ok, Err, ◌↔◌, inl, inr, refl, sym}
use Rattle.std.proofs.Common.{ap, ◌∙◌, arith}
use Rattle.std.specs.Prelude.{⊤, ok_or, IsErrAnd, IfOk}
use Rattle.std.specs.Result.{result_err, result_map_both}
use Rattle.std.proofs.lemmas.Grind.{common_steps}
use borrow.Author.Tests.{lt-ltb, le-ltb}
use Rattle.am_universe.specs.declared.kind.Kind.{Kind}
use Rattle.am_universe.specs.declared.kind.Kind.TheVariants as kinds
use Rattle.am_universe.specs.declared.place.Place.{Place}
use Rattle.am_universe.specs.declared.fault.Fault.{Fault}
use Rattle.am_json.specs.declared.read_error.ReadError.{ReadError}
use Rattle.am_json.specs.declared.read_error.ReadError.TheVariants as errors
use Rattle.am_json.specs.Pointer.{Refusal, refusal_here, refusal_within}
use Rattle.am_json.specs.Reading.{Reading, result_then, patterns_then, ◌>>=◌, reading_within}
use Rattle.am_json.specs.Reading.{refuse_for, check_count, IsPatternRefusal, MayRefuse}
use Rattle.am_json.specs.Reading.{IsRefusalOrMemory, Fails, Gives, IsReadingWithin, IsFaultOf}
use Rattle.am_json.specs.Reading.{IsRefusalAt, IsFoundOrRefused}

-- ---- Patterns that were met.

pub pattern_left : (xs ys : List (List ℕ)) (r : Refusal) → IsPatternRefusal xs r
    → IsPatternRefusal (xs ++ ys) r
pattern_left [] ys r h = absurd h
pattern_left (x ∷ xs) ys r (inl is) = inl is
pattern_left (x ∷ xs) ys r (inr h) = inr (pattern_left xs ys r h)

pub pattern_right : (xs ys : List (List ℕ)) (r : Refusal) → IsPatternRefusal ys r
    → IsPatternRefusal (xs ++ ys) r
pattern_right [] ys r h = h
pattern_right (x ∷ xs) ys r h = inr (pattern_right xs ys r h)

pub pattern_within : (part : List ℕ) (xs : List (List ℕ)) (r : Refusal) → IsPatternRefusal xs r
    → IsPatternRefusal (map (λ pointer. part ++ pointer) xs) (refusal_within part r)
pattern_within part [] r h = absurd h
pattern_within part (x ∷ xs) r (inl is) = inl (ap (refusal_within part) is)
pattern_within part (x ∷ xs) r (inr h) = inr (pattern_within part xs r h)

-- ---- What is left to read, and the whole.

-- what is left gives the same result as the whole, and meets no pattern that the whole does not
-- meet
pub record Leads {A : Type 0} (rest whole : Reading A) : Type 0 where
  pub result : rest.result ≡ whole.result
  pub patterns : (r : Refusal) → IsPatternRefusal rest.patterns r
      → IsPatternRefusal whole.patterns r

pub leads-refl : {A : Type 0} (m : Reading A) → Leads m m
leads-refl m = record { result = refl; patterns = λ r h. h }

pub refuses_led : {A : Type 0} (rest whole : Reading A) (r : Refusal) → Leads rest whole
    → MayRefuse rest r → MayRefuse whole r
refuses_led rest whole r leads (inl h) = inl (sym leads.result ∙ h)
refuses_led rest whole r leads (inr h) = inr (leads.patterns r h)

pub fails_led : {A : Type 0} (e : ReadError) (rest whole : Reading A) → Leads rest whole
    → Fails e rest → Fails e whole
fails_led errors.Memory rest whole leads h = tt
fails_led (errors.Refused r) rest whole leads h = refuses_led rest whole r leads h

-- if the first step fails
pub refuses_first : {A B : Type 0} (m : Reading A) (f : A → Reading B) (r : Refusal) → MayRefuse m r
    → MayRefuse (m >>= f) r
refuses_first m f r (inl h) = inl (rw h refl)
refuses_first m f r (inr h) =
    inr (pattern_left m.patterns (patterns_then m.result (λ x. (f x).patterns)) r h)

pub fails_first : {A B : Type 0} (e : ReadError) (m : Reading A) (f : A → Reading B) → Fails e m
    → Fails e (m >>= f)
fails_first errors.Memory m f h = tt
fails_first (errors.Refused r) m f h = refuses_first m f r h

-- if the first step gives a value
pub leads_on : {A B : Type 0} (m : Reading A) (f : A → Reading B) (x : A) (whole : Reading B)
    → m.result ≡ Ok x
    → Leads (m >>= f) whole → Leads (f x) whole
leads_on m f x whole gives leads =
    let same : result_then m.result (λ y. (f y).result) ≡ (f x).result = rw gives refl in
    let later : patterns_then m.result (λ y. (f y).patterns) ≡ (f x).patterns = rw gives refl in
    record {
      result = sym same ∙ leads.result;
      patterns =
          λ r h. leads.patterns r (pattern_right m.patterns
          (patterns_then m.result (λ y. (f y).patterns)) r (rw later h));
    }

pub refuses_later : {A B : Type 0} (m : Reading A) (f : A → Reading B) (x : A) (r : Refusal)
    → m.result ≡ Ok x → MayRefuse (f x) r → MayRefuse (m >>= f) r
refuses_later m f x r gives h =
    refuses_led (f x) (m >>= f) r (leads_on m f x (m >>= f) gives (leads-refl (m >>= f))) h

pub fails_later : {A B : Type 0} (e : ReadError) (m : Reading A) (f : A → Reading B) (x : A)
    → m.result ≡ Ok x → Fails e (f x) → Fails e (m >>= f)
fails_later e m f x gives h =
    fails_led e (f x) (m >>= f) (leads_on m f x (m >>= f) gives (leads-refl (m >>= f))) h

pub gives_later : {A B X : Type 0} (view : X → B) (returned : Result X ReadError) (m : Reading A)
    (f : A → Reading B) (x : A) → m.result ≡ Ok x → Gives view returned (f x)
    → Gives view returned (m >>= f)
gives_later view (Ok v) m f x gives h = rw gives h
gives_later view (Err e) m f x gives h = fails_later e m f x gives h

-- ---- A part.

pub refuses_within : {A : Type 0} (part : List ℕ) (m : Reading A) (r : Refusal) → MayRefuse m r
    → MayRefuse (reading_within part m) (refusal_within part r)
refuses_within part m r (inl h) = inl (rw h refl)
refuses_within part m r (inr h) = inr (pattern_within part m.patterns r h)

-- an error that reports a refusal
pub fails_refused : {A : Type 0} (e : ReadError) (m : Reading A) (r : Refusal)
    → IsRefusalOrMemory e r → MayRefuse m r → Fails e m
fails_refused errors.Memory m r tells h = tt
fails_refused (errors.Refused found) m r tells h = rw tells h

within_refused : {X Y : Type 0} (view : X → Y) (part : List ℕ) (r : Refusal)
    (seen : Result X ReadError) (m : Reading Y) → MayRefuse m r
    → IsErrAnd seen (λ e. IsRefusalOrMemory e (refusal_within part r))
    → Gives view seen (reading_within part m)
within_refused view part r (Ok x) m refuses is = absurd is
within_refused view part r (Err e) m refuses is =
    fails_refused e (reading_within part m) (refusal_within part r) is
    (refuses_within part m r refuses)

-- what reading a part gave, as seen from the value that has the part
pub within_gives : {X Y : Type 0} (view : X → Y) (part : List ℕ) (read seen : Result X ReadError)
    (m : Reading Y) → Gives view read m
    → IsReadingWithin part read seen → Gives view seen (reading_within part m)
within_gives view part (Ok x) seen m gives is = rw (is, gives) refl
within_gives view part (Err errors.Memory) seen m gives is = rw is tt
within_gives view part (Err (errors.Refused r)) seen m gives is =
    within_refused view part r seen m gives is

-- the rules that the steps of a reader need
pub ruleset steps = (pattern_left, pattern_right, within_gives)

pub within_if_ok : {X : Type 0} (part : List ℕ) (read seen : Result X ReadError) (P : X → Type 0)
    → IfOk read P → IsReadingWithin part read seen → IfOk seen P
within_if_ok part (Ok x) seen P h is = rw is h
within_if_ok part (Err errors.Memory) seen P h is = rw is tt
within_if_ok part (Err (errors.Refused r)) (Ok x) P h is = absurd is
within_if_ok part (Err (errors.Refused r)) (Err e) P h is = tt

-- ---- An error of a kind, which may be that memory ran out.

no_memory : (found : Refusal) → errors.Refused found ≡ errors.Memory → ⊥
no_memory found h = cc

here_fails : {A : Type 0} (kind : Kind) (e : ReadError) (m : Reading A)
    → IsRefusalOrMemory e (refusal_here kind)
    → (kind ≡ kinds.Memory → e ≡ errors.Memory)
    → (kind ≢ kinds.Memory → MayRefuse m (refusal_here kind)) → Fails e m
here_fails kind errors.Memory m tells memory refuses = tt
here_fails kind (errors.Refused found) m tells memory refuses =
    fails_refused (errors.Refused found) m (refusal_here kind) tells
    (refuses (λ h. no_memory found (memory h)))

-- what was found or refused, if the reading gives that value, or may fail with that refusal
pub found_gives : {X Y : Type 0} (view : X → Y) (found : Result X Kind) (seen : Result X ReadError)
    (m : Reading Y) → IsFoundOrRefused found seen
    → ((x : X) → found ≡ Ok x → m.result ≡ Ok (view x))
    → ((kind : Kind) → found ≡ Err kind → kind ≢ kinds.Memory
    → MayRefuse m (refusal_here kind)) → Gives view seen m
found_gives view (Ok x) seen m is gives refuses = rw is (gives x refl)
found_gives view (Err kind) (Ok x) m is gives refuses = absurd is
found_gives view (Err kind) (Err e) m is gives refuses =
    here_fails kind e m is.0 is.1 (refuses kind refl)

-- ---- Steps that have no fault.

-- the value of a step that has no fault
pub bind_ok : {A B : Type 0} (r : Result A Refusal) (f : A → Result B Refusal) (y : B)
    → result_then r f ≡ Ok y → (x : A) × (r ≡ Ok x) × (f x ≡ Ok y)
bind_ok (Ok x) f y h = (x, refl, h)
bind_ok (Err r) f y h = absurd cc

pub within_ok : {A : Type 0} (part : List ℕ) (r : Result A Refusal) (x : A)
    → result_map_both (λ y. y) (refusal_within part) r ≡ Ok x → r ≡ Ok x
within_ok part (Ok y) x h = h
within_ok part (Err r) x h = absurd cc

pub refuse_for_ok : (cause : Option Kind) (x : ⊤) → (refuse_for cause).result ≡ Ok x → cause ≡ None
refuse_for_ok None x h = refl
refuse_for_ok (Some kind) x h = absurd cc

pub check_count_ok : (limit count : ℕ) (x : ⊤) → (check_count limit count).result ≡ Ok x
    → count ≤ limit
check_count_ok limit count x h = grind (arith, common_steps)

pub check_count_fits : (limit count : ℕ) → count ≤ limit → (check_count limit count).result ≡ Ok tt
check_count_fits limit count le = rw (le-ltb limit count le) refl

pub check_count_over : (limit count : ℕ) → limit < count
    → (check_count limit count).result ≡ Err (refusal_here kinds.Limit)
check_count_over limit count lt = rw (lt-ltb limit count lt) refl

pub ok_or_some : {A : Type 0} (o : Option A) (r : Refusal) (x : A) → ok_or o r ≡ Ok x → o ≡ Some x
ok_or_some (Some y) r x h = cc
ok_or_some None r x h = absurd cc

-- ---- The fault of a file.

pub fault_of_file : {A : Type 0} (place : Place) (e : ReadError) (fault : Fault) (m : Reading A)
    (RefusedFor : Refusal → Type 0) → ((r : Refusal) → MayRefuse m r → RefusedFor r)
    → IsFaultOf place e fault → Fails e m → IsRefusalAt place RefusedFor fault
fault_of_file place errors.Memory fault m RefusedFor refused is fails other = absurd (other is)
fault_of_file place (errors.Refused r) fault m RefusedFor refused is fails other =
    (is.0, rw is.1 (refused r fails))

-- ---- What is said, if a reading decides it.

-- a reading gives exactly what is said
pub record Decides {A : Type 0} (Says : A → Type 0) (reading : Result A Refusal) : Type 0 where
  pub says : (x : A) → reading ≡ Ok x → Says x
  pub reads : (x : A) → Says x → reading ≡ Ok x

abbrev read_as : {A : Type 0} → A → Result A Refusal
read_as x = Ok x

pub same_read : {A : Type 0} (x y : A) → read_as x ≡ read_as y → x ≡ y
same_read x y h = cc

pub says_one : {A : Type 0} {Says : A → Type 0} {reading : Result A Refusal} → Decides Says reading
    → (x y : A) → Says x → Says y → x ≡ y
says_one decides x y said again = same_read x y (sym (decides.reads x said) ∙ decides.reads y again)

value_of_none : {A : Type 0} (reading : Result A Refusal) → result_err reading ≡ None
    → (x : A) × (reading ≡ Ok x)
value_of_none (Ok x) h = (x, refl)
value_of_none (Err r) h = absurd cc

pub fault_decides : {A : Type 0} {Says : A → Type 0} {reading : Result A Refusal}
    → Decides Says reading → (result_err reading ≡ None) ↔ ((x : A) × Says x)
fault_decides {A} {Says} {reading} decides = (
  λ h. let found = value_of_none reading h in
      (found.0, decides.says found.0 found.1),
  λ said. rw (decides.reads said.0 said.1) refl,
)
