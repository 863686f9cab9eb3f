-- Forms: what is made of a value, part by part. For each value, a form says what the value is taken
-- for, what there is to object to, in order, and what reading the value gives. Reading stops at the
-- first fault. (This project's own.)
use Rattle.std.specs.Prelude.{◌≡◌, ◌≢◌, ◌⊎◌, ℕ, List, [], ◌∷◌, ◌++◌, length, map}
use Rattle.std.specs.Prelude.{Option, Some, None, option_map, ok_or, unwrap_or, Result, Ok, Err}
use Rattle.std.specs.Prelude.{Bool, IsErrAnd, if◌then◌else◌, string_bytes, ⊤}
use Rattle.std.specs.Result.{result_map_both}
use Rattle.serde_json.specs.Data.{Data, null, Members, no_members}
use Rattle.serde_json.specs.Find as find
use Rattle.am_universe.specs.declared.kind.Kind.{Kind}
use Rattle.am_universe.specs.declared.kind.Kind.TheVariants as kinds
use Rattle.am_universe.specs.declared.place.Place.{Place}
use Rattle.am_universe.specs.declared.fault.Fault.{Fault}
use Rattle.am_json.specs.declared.read_error.ReadError.{ReadError}
use Rattle.am_json.specs.declared.read_error.ReadError.TheVariants as errors
use Rattle.am_json.specs.declared.limits.TheConstants.{MAX_FILE_BYTES}
use Rattle.am_json.specs.Json.{json_of, is_null, field, unknown_field, items_of, only_fields}
use Rattle.am_json.specs.Objections.{Objection, a_fault, objections_within, first_fault}
use Rattle.am_json.specs.Objections.{patterns_before, limit_fault}
use Rattle.am_json.specs.Pointer.{Refusal, refusal_here, refusal_within, to_field, to_item}

-- ---- Readings.

-- What a form makes of a value. The value is always taken for something: a stand-in, such as the
-- empty text, replaces a part at fault. So the value alone determines the objections to all parts.
-- After the first fault, an objection may be due to a stand-in. Reading the value stops at the
-- first fault. The engine may refuse to build a pattern that its grammar reads, so reading may also
-- stop earlier, at any pattern of the profile.
pub record Reading (A : Type 0) : Type 0 where
  -- what reading the value gives, or the first fault, if the engine builds each pattern that its
  -- grammar reads
  pub result : Result A Refusal
  -- the pointers of the patterns of the profile that reading meets, in order
  pub patterns : List (List ℕ)
  -- what the value is taken for
  pub taken : A
  -- what there is to object to, in order
  pub objections : List Objection

-- A form: it says what is made of each value.
abbrev pub Form : Type 0 → Type 0 → Type 0
Form X A = X → Reading A

-- The refusal, if there is one, and otherwise the value.
abbrev pub ok_unless : {A : Type 0} → Option Refusal → A → Result A Refusal
ok_unless None x = Ok x
ok_unless (Some r) x = Err r

-- Reading stops at the first fault: it meets the patterns before that fault. If there is no fault,
-- it gives what the value is taken for.
pub record StopsAtFirst {A : Type 0} (m : Reading A) : Type 0 where
  pub result : m.result ≡ ok_unless (first_fault m.objections) m.taken
  pub patterns : m.patterns ≡ patterns_before m.objections

-- The reading of a value that is taken for this and has these objections. It stops at the first
-- fault.
abbrev pub stopped_at_first : {A : Type 0} → A → List Objection → Reading A
stopped_at_first taken objections = record {
  taken = taken;
  objections = objections;
  result = ok_unless (first_fault objections) taken;
  patterns = patterns_before objections;
}

-- A form is lawful if reading stops at the first fault, whatever the value.
abbrev pub IsLawful : {X A : Type 0} → Form X A → Type 0
IsLawful {X} form = (x : X) → StopsAtFirst (form x)

-- The value is accepted.
abbrev pub accept : {A : Type 0} → A → Reading A
accept x = record { taken = x; objections = []; result = Ok x; patterns = [] }

-- One objection if there is a refusal, and none otherwise.
abbrev pub fault_where : Option Refusal → List Objection
fault_where None = []
fault_where (Some r) = a_fault r ∷ []

-- The objection of this refusal if nothing was found, and none otherwise.
abbrev pub missing_where : {A : Type 0} → Option A → Refusal → List Objection
missing_where None r = a_fault r ∷ []
missing_where (Some x) r = []

-- What was found is accepted. If nothing was found, the value is refused with this refusal, and
-- taken for the stand-in.
abbrev pub accept_or : {A : Type 0} → A → Option A → Refusal → Reading A
accept_or stand_in found r = record {
  taken = unwrap_or found stand_in;
  objections = missing_where found r;
  result = ok_or found r;
  patterns = [];
}

-- The value is refused with this refusal, and taken for the stand-in.
abbrev pub refuse : {A : Type 0} → A → Refusal → Reading A
refuse stand_in r =
    record { taken = stand_in; objections = a_fault r ∷ []; result = Err r; patterns = [] }

-- The value is refused if there is a refusal, and accepted otherwise.
abbrev pub refuse_where : Option Refusal → Reading ⊤
refuse_where found = record {
  taken = tt;
  objections = fault_where found;
  result = ok_unless found tt;
  patterns = [];
}

-- The result of the next step, which gets the value that was read; or the refusal if there is no
-- such value.
abbrev pub result_then : {A B : Type 0} → Result A Refusal → (A → Result B Refusal)
    → Result B Refusal
result_then (Ok x) f = f x
result_then (Err r) f = Err r

-- The patterns that are met in the next step, which gets the value that was read; none if there is
-- no such value.
abbrev pub patterns_then : {A : Type 0} → Result A Refusal → (A → List (List ℕ)) → List (List ℕ)
patterns_then (Ok x) f = f x
patterns_then (Err r) f = []

-- Two steps, one after the other. The objections are those of the first step, and then those of the
-- second, which gets what the first was taken for.
infixl 10 ◌>>=◌
abbrev pub ◌>>=◌ : {A B : Type 0} → Reading A → (A → Reading B) → Reading B
m >>= f = record {
  result = result_then m.result (λ x. (f x).result);
  patterns = m.patterns ++ patterns_then m.result (λ x. (f x).patterns);
  taken = (f m.taken).taken;
  objections = m.objections ++ (f m.taken).objections;
}

-- The reading of a part, as seen from the value that has the part: the pointer to the part is put
-- in front of each pointer.
abbrev pub reading_within : {A : Type 0} → List ℕ → Reading A → Reading A
reading_within part m = record {
  taken = m.taken;
  objections = objections_within part m.objections;
  result = result_map_both (λ x. x) (refusal_within part) m.result;
  patterns = map (λ pointer. part ++ pointer) m.patterns;
}

-- The refusal is that of a pattern at one of these pointers: its kind is `Pattern`.
abbrev pub IsPatternRefusal : List (List ℕ) → Refusal → Type 0
IsPatternRefusal [] r = ⊥
IsPatternRefusal (pointer ∷ more) r =
    (r ≡ record { kind = kinds.Pattern; pointer = pointer }) ⊎ IsPatternRefusal more r

-- A reading may fail with this refusal: it is the first fault, or the refusal of a pattern that the
-- reading meets.
abbrev pub MayRefuse : {A : Type 0} → Reading A → Refusal → Type 0
MayRefuse m r = (m.result ≡ Err r) ⊎ IsPatternRefusal m.patterns r

-- ---- What a reader returns.

-- The error is this refusal, or memory ran out.
abbrev pub IsRefusalOrMemory : ReadError → Refusal → Type 0
IsRefusalOrMemory errors.Memory r = Unit {0}
IsRefusalOrMemory (errors.Refused found) r = found ≡ r

-- The error of a reader is a refusal that the reading may fail with, unless memory ran out.
abbrev pub Fails : {Y : Type 0} → ReadError → Reading Y → Type 0
Fails errors.Memory reading = Unit {0}
Fails (errors.Refused r) reading = MayRefuse reading r

-- A reader returned a value that `view` maps to what the reading gives; or it failed with a refusal
-- that the reading may fail with, or because memory ran out.
abbrev pub Gives : {X Y : Type 0} → (X → Y) → Result X ReadError → Reading Y → Type 0
Gives view (Ok x) reading = reading.result ≡ Ok (view x)
Gives view (Err e) reading = Fails e reading

-- What was found, or else a refusal of this kind, of the whole value that is looked at, unless
-- memory ran out. The kind `Memory` means that memory ran out.
abbrev pub IsFoundOrRefused : {X : Type 0} → Result X Kind → Result X ReadError → Type 0
IsFoundOrRefused (Ok x) seen = seen ≡ Ok x
IsFoundOrRefused (Err kind) seen =
    IsErrAnd seen
    (λ e. IsRefusalOrMemory e (refusal_here kind) × (kind ≡ kinds.Memory → e ≡ errors.Memory))

-- What reading a part returned, as seen from the value that has the part.
abbrev pub IsReadingWithin : {X : Type 0} → List ℕ → Result X ReadError → Result X ReadError
    → Type 0
IsReadingWithin part (Ok x) seen = seen ≡ Ok x
IsReadingWithin part (Err errors.Memory) seen = seen ≡ Err errors.Memory
IsReadingWithin part (Err (errors.Refused r)) seen =
    IsErrAnd seen (λ e. IsRefusalOrMemory e (refusal_within part r))

-- ---- The fault of a file.

-- The refusal that a fault reports: its kind and its pointer.
abbrev pub refusal_of : Fault → Refusal
refusal_of fault = record { kind = fault.kind; pointer = string_bytes fault.pointer }

-- A fault reports this refusal, in the file at this place.
abbrev pub IsFaultAt : Place → Refusal → Fault → Type 0
IsFaultAt place r fault = (fault.place ≡ place) × (refusal_of fault ≡ r)

-- A fault reports the error of a reader, in the file at this place.
abbrev pub IsFaultOf : Place → ReadError → Fault → Type 0
IsFaultOf place errors.Memory fault = fault.kind ≡ kinds.Memory
IsFaultOf place (errors.Refused r) fault = IsFaultAt place r fault

-- A fault is at this place, and reports a refusal for which `MayBe` holds, unless memory ran out.
abbrev pub IsRefusalAt : Place → (Refusal → Type 0) → Fault → Type 0
IsRefusalAt place MayBe fault =
    fault.kind ≢ kinds.Memory → (fault.place ≡ place) × MayBe (refusal_of fault)

-- ---- Checks.

-- The value is refused for this cause, if there is one.
abbrev pub refuse_for : Option Kind → Reading ⊤
refuse_for cause = refuse_where (option_map refusal_here cause)

-- The value is refused as `limit` if the count is more than the limit.
abbrev pub check_count : ℕ → ℕ → Reading ⊤
check_count limit count = refuse_for (limit_fault limit count)

-- ---- The kinds of values.

-- The members of an object. A value of another kind is refused as `shape`.
abbrev pub as_object : Data → Reading Members
as_object d = accept_or no_members (find.as_object d) (refusal_here kinds.Shape)

-- The text that the value is. A value of another kind is refused as `shape`.
abbrev pub as_text : Data → Reading (List ℕ)
as_text d = accept_or [] (find.as_str d) (refusal_here kinds.Shape)

-- The items of an array. A value of another kind is refused as `shape`.
abbrev pub as_items : Data → Reading (List Data)
as_items d = accept_or [] (items_of d) (refusal_here kinds.Shape)

-- ---- The fields of an object.

-- The value is refused as `unknown-field`, at the unknown field, if there is one.
abbrev pub refuse_unknown_field : Option (List ℕ) → Reading ⊤
refuse_unknown_field found =
    refuse_where
    (option_map (λ key. refusal_within (to_field key) (refusal_here kinds.UnknownField)) found)

-- The value is an object with no other fields than these. It is refused as `shape` if it is not an
-- object, and otherwise as `unknown-field` at the least unknown field, if there is one.
unfoldable pub check_only_fields : List (List ℕ) → Data → Reading ⊤
check_only_fields known d = do
  members ← as_object d
  refuse_unknown_field (unknown_field known members)

-- A required field. If it is absent, the value is refused as `shape`, at the field.
abbrev pub required_field : List ℕ → Data → Reading Data
required_field key d =
    accept_or null (field key d) (refusal_within (to_field key) (refusal_here kinds.Shape))

-- The text in a required field.
unfoldable pub required_text : List ℕ → Data → Reading (List ℕ)
required_text key d = do
  value ← required_field key d
  reading_within (to_field key) (as_text value)

-- The items of the array in a required field.
unfoldable pub required_items : List ℕ → Data → Reading (List Data)
required_items key d = do
  value ← required_field key d
  reading_within (to_field key) (as_items value)

-- The truth value that the value is, or the default if there is no value. A value of another kind
-- is refused as `shape`.
abbrev pub boolean_or : Bool → Option Data → Reading Bool
boolean_or default None = accept default
boolean_or default (Some d) = accept_or default (find.as_bool d) (refusal_here kinds.Shape)

-- The truth value in a field, or the default if the field is absent.
unfoldable pub read_boolean_or : Bool → List ℕ → Data → Reading Bool
read_boolean_or default key d = reading_within (to_field key) (boolean_or default (field key d))

-- ---- One behind the other.

-- What is read of a list. For each element, `read` gets what was read so far, and gives that with
-- the element included.
unfoldable pub read_each : {A X : Type 0} → (A → X → Reading A) → A → List X → Reading A
read_each read before [] = accept before
read_each read before (x ∷ xs) = do
  next ← read before x
  read_each read next xs

-- The items before an item, with the item added. The position of the item is the number of items
-- before it.
unfoldable pub read_next_item : {A : Type 0} → (List A → Data → Reading A) → List A → Data
    → Reading (List A)
read_next_item read before d = do
  x ← reading_within (to_item (length before)) (read before d)
  accept (before ++ x ∷ [])

-- The items that were read already, with these items added. For each item, `read` also gets the
-- items before it.
abbrev pub read_items : {A : Type 0} → (List A → Data → Reading A) → List A → List Data
    → Reading (List A)
read_items read = read_each (read_next_item read)

-- `read_counted` reads each item of a list by itself, and refuses more items than the limit.
-- `read_item_array` does so for an array. `read_items_or_null` also takes `null`, which has no
-- items.
unfoldable pub read_counted : {A : Type 0} → ℕ → (Data → Reading A) → List Data → Reading (List A)
read_counted limit read items = do
  _ ← check_count limit (length items)
  read_items (λ before item. read item) [] items

unfoldable pub read_item_array : {A : Type 0} → ℕ → (Data → Reading A) → Data → Reading (List A)
read_item_array limit read d = do
  items ← as_items d
  read_counted limit read items

abbrev pub read_items_or_null : {A : Type 0} → ℕ → (Data → Reading A) → Data → Reading (List A)
read_items_or_null limit read d = if is_null d then accept [] else read_item_array limit read d

-- ---- A file.

-- The JSON value of a file. The bytes are refused as `limit` if there are too many, and as
-- `not-json` if they have no JSON value.
unfoldable pub read_json : List ℕ → Reading Data
read_json bytes = do
  _ ← check_count MAX_FILE_BYTES (length bytes)
  accept_or null (json_of bytes) (refusal_here kinds.NotJson)

-- The JSON value of a file, with only these fields if it is an object. It is refused as the whole
-- value is.
unfoldable pub read_json_fields : List (List ℕ) → List ℕ → Reading Data
read_json_fields names bytes = do
  d ← read_json bytes
  accept (only_fields names d)
