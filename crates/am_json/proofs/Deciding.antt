-- A reading decides what is said if its parts do.
use Rattle.std.proofs.Common.{◌≡◌, ◌⊎◌, ◌≤◌, ℕ, List, [], length, Bool, true}
use Rattle.std.proofs.Common.{Option, Some, None, Result, Ok, ap, option_and_then, inl, inr}
use Rattle.std.proofs.Common.{arith, refl, subst, sym, ◌∙◌}
use Rattle.std.specs.Prelude.{⊤, ok_or}
use Rattle.std.specs.Result.{result_map_both}
use Rattle.std.proofs.Math.Bool.{and-false}
use Rattle.std.proofs.lemmas.Grind.{common_steps}
use Rattle.std.proofs.lemmas.Option.{option_and_then_some}
use Rattle.serde_json.specs.Data.{Data, null, boolean, string, object, Members, no_members, member}
use Rattle.serde_json.specs.Find as find
use Rattle.am_universe.specs.declared.kind.Kind.{Kind}
use Rattle.am_universe.specs.declared.kind.Kind.TheVariants as kinds
use Rattle.am_json.specs.declared.limits.TheConstants.{MAX_FILE_BYTES}
use Rattle.am_json.specs.Json.{json_of, is_null, field}
use Rattle.am_json.specs.Json.{SaysBooleanOr, FileSays}
use Rattle.am_json.specs.Json.{unknown_field, items_of, AreOnlyFields, HasOnlyFields}
use Rattle.am_json.specs.OptionalItems.{HasItems, optional_items, read_optional_items}
use Rattle.am_json.specs.Pointer.{Refusal, refusal_here, refusal_within, to_field}
use Rattle.am_json.specs.Reading.{◌>>=◌, Reading, as_items, as_object, as_text, boolean_or}
use Rattle.am_json.specs.Reading.{check_count, check_only_fields, read_boolean_or, read_json}
use Rattle.am_json.specs.Reading.{reading_within, refuse_for, refuse_unknown_field}
use Rattle.am_json.specs.Reading.{required_field, required_items, required_text, result_then}
use Rattle.am_json.proofs.Readings.{Decides, bind_ok, check_count_fits, check_count_ok, ok_or_some}
use Rattle.am_json.proofs.Readings.{refuse_for_ok, same_read, within_ok}

-- ---- One after the other.

-- The second step may use what is said of the value of the first.
pub then_decides_where : {A B : Type 0} {P : A → Type 0} {Q : A → B → Type 0}
    {r : Result A Refusal} {f : A → Result B Refusal} → Decides P r
    → ((x : A) → P x → Decides (Q x) (f x)) → Decides (λ y. (x : A) × P x × Q x y) (result_then r f)
then_decides_where {r = r} {f = f} first next = record {
  says = λ y h.
      let x = bind_ok r f y h in
      let said = first.says x.0 x.1 in
      (x.0, said, (next x.0 said).says y x.2);
  reads = λ y said. rw (first.reads said.0 said.1) ((next said.0 said.1).reads y said.2);
}

pub then_decides : {A B : Type 0} {P : A → Type 0} {Q : A → B → Type 0} {r : Result A Refusal}
    {f : A → Result B Refusal} → Decides P r → ((x : A) → Decides (Q x) (f x))
    → Decides (λ y. (x : A) × P x × Q x y) (result_then r f)
then_decides first next = then_decides_where first (λ x _. next x)

-- after a check that passes whenever something is said
pub behind_decides : {A B : Type 0} {Q : B → Type 0} {r : Result A Refusal} {next : Result B Refusal}
    → ((y : B) → Q y → (x : A) × (r ≡ Ok x)) → Decides Q next
    → Decides Q (result_then r (λ _. next))
behind_decides {r = r} {next = next} passes rest = record {
  says = λ y h. let x = bind_ok r (λ _. next) y h in rest.says y x.2;
  reads = λ y said. rw ((passes y said).1) (rest.reads y said);
}

-- the same for an equivalent statement
pub said_as : {A : Type 0} {P Q : A → Type 0} {r : Result A Refusal} → Decides P r
    → ((x : A) → P x → Q x) → ((x : A) → Q x → P x) → Decides Q r
said_as decides to from = record {
  says = λ x h. to x (decides.says x h);
  reads = λ x said. decides.reads x (from x said);
}

pub accept_decides : {A : Type 0} (x : A) → Decides (λ y. x ≡ y) (Ok x)
accept_decides x = record {
  says = λ y h. same_read x y h;
  reads = λ y is. ap (λ z. Ok z) is;
}

-- a value that is checked, and then accepted
pub checked_decides : {A : Type 0} {P C : A → Type 0} {r : Result A Refusal}
    {check : A → Result ⊤ Refusal} → Decides P r → ((x : A) → Decides (λ _. C x) (check x))
    → Decides (λ x. P x × C x) (result_then r (λ x. result_then (check x) (λ _. Ok x)))
checked_decides {P = P} {C = C} first passes =
    said_as (then_decides first (λ x. then_decides (passes x) (λ _. accept_decides x)))
    (λ y (x, said, (_, fits, is)). subst (λ z. P z × C z) is (said, fits))
    (λ y (said, fits). (y, said, (tt, fits, refl)))

pub within_decides : {A : Type 0} {P : A → Type 0} {r : Result A Refusal} (part : List ℕ)
    → Decides P r → Decides P (result_map_both (λ x. x) (refusal_within part) r)
within_decides {r = r} part inner = record {
  says = λ x h. inner.says x (within_ok part r x h);
  reads = λ x said. rw (inner.reads x said) refl;
}

-- a value that may be absent
pub optional_decides : {A : Type 0} {P : A → Type 0} {Q : Data → A → Type 0}
    (read : Option Data → Result A Refusal) → Decides P (read None)
    → ((v : Data) → Decides (Q v) (read (Some v))) → (found : Option Data)
    → Decides (λ x. ((found ≡ None) × P x) ⊎ ((v : Data) × (found ≡ Some v) × Q v x)) (read found)
optional_decides read none some None =
    said_as none (λ x said. inl (refl, said))
    (λ x. elim [ inl absent ↦ absent.1 | inr there ↦ absurd cc ])
optional_decides {Q = Q} read none some (Some v) =
    said_as (some v) (λ x said. inr (v, refl, said))
    (λ x. elim [
      | inl absent ↦ absurd cc
      | inr there ↦ let same : there.0 ≡ v = cc in subst (λ w. Q w x) same there.2
    ])

-- ---- The kinds of values.

pub found_decides : {A : Type 0} (found : Option A) (r : Refusal)
    → Decides (λ x. found ≡ Some x) (ok_or found r)
found_decides found r = record {
  says = λ x h. ok_or_some found r x h;
  reads = λ x is. rw is refl;
}

pub cause_decides : (cause : Option Kind) → Decides (λ _. cause ≡ None) ((refuse_for cause).result)
cause_decides cause = record { says = λ x h. refuse_for_ok cause x h; reads = λ x is. rw is refl }

pub count_decides : (limit count : ℕ)
    → Decides (λ _. count ≤ limit) ((check_count limit count).result)
count_decides limit count = record {
  says = λ x h. check_count_ok limit count x h;
  reads = λ x few. check_count_fits limit count few;
}

object_is : (d : Data) (ms : Members) → find.as_object d ≡ Some ms → d ≡ object ms
object_is (object ns) ms h = cc
object_is d ms h = absurd cc

text_is : (d : Data) (t : List ℕ) → find.as_str d ≡ Some t → d ≡ string t
text_is (string s) t h = cc
text_is d t h = absurd cc

boolean_is : (d : Data) (b : Bool) → find.as_bool d ≡ Some b → d ≡ boolean b
boolean_is (boolean c) b h = cc
boolean_is d b h = absurd cc

pub as_object_decides : (d : Data) → Decides (λ ms. d ≡ object ms) ((as_object d).result)
as_object_decides d =
    said_as (found_decides (find.as_object d) (refusal_here kinds.Shape)) (object_is d)
    (λ ms is. rw is refl)

pub as_text_decides : (d : Data) → Decides (λ t. d ≡ string t) ((as_text d).result)
as_text_decides d =
    said_as (found_decides (find.as_str d) (refusal_here kinds.Shape)) (text_is d)
    (λ t is. rw is refl)

pub as_items_decides : (d : Data) → Decides (λ items. items_of d ≡ Some items) ((as_items d).result)
as_items_decides d = found_decides (items_of d) (refusal_here kinds.Shape)

-- ---- An object that has no fields but these.

null_is : (d : Data) → is_null d ≡ true → d ≡ null
null_is null h = refl
null_is d h = absurd cc

none_says : (known : List (List ℕ)) (ms : Members) → unknown_field known ms ≡ None
    → AreOnlyFields known ms
none_says known no_members h = tt
none_says known (member key d rest) h =
    grind (arith, common_steps, null_is, none_says known rest)

only_none : (known : List (List ℕ)) (ms : Members) → AreOnlyFields known ms
    → unknown_field known ms ≡ None
only_none known no_members only = refl
only_none known (member key d rest) only =
    grind (arith, common_steps, and-false, only_none known rest)

not_refused : (found : Option (List ℕ)) (x : ⊤) → (refuse_unknown_field found).result ≡ Ok x
    → found ≡ None
not_refused None x h = refl
not_refused (Some key) x h = absurd cc

unknown_decides : (known : List (List ℕ)) (ms : Members)
    → Decides (λ _. AreOnlyFields known ms)
    ((refuse_unknown_field (unknown_field known ms)).result)
unknown_decides known ms = record {
  says = λ x h. none_says known ms (not_refused (unknown_field known ms) x h);
  reads = λ x only. rw (only_none known ms only) refl;
}

pub only_fields_decide : (known : List (List ℕ)) (d : Data)
    → Decides (λ _. HasOnlyFields known d) ((check_only_fields known d).result)
unfolding check_only_fields
only_fields_decide known d = then_decides (as_object_decides d) (unknown_decides known)

-- ---- A field that has to be there.

-- a value with a field is an object
pub object_of : (key : List ℕ) (d : Data) (v : Data) → field key d ≡ Some v
    → (ms : Members) × ((as_object d).result ≡ Ok ms)
object_of key (object ms) v h = (ms, refl)
object_of key d v h = absurd cc

pub field_decides : {A : Type 0} {P : Data → A → Type 0} (read : Data → Reading A) (key : List ℕ)
    (d : Data) → ((v : Data) → Decides (P v) ((read v).result))
    → Decides (λ x. (v : Data) × (field key d ≡ Some v) × P v x)
    ((required_field key d >>= λ v. reading_within (to_field key) (read v)).result)
field_decides read key d each =
    then_decides
    (found_decides (field key d) (refusal_within (to_field key) (refusal_here kinds.Shape)))
    (λ v. within_decides (to_field key) (each v))

pub text_decides : (key : List ℕ) (d : Data)
    → Decides (λ t. field key d ≡ Some (string t)) ((required_text key d).result)
unfolding required_text
text_decides key d =
    said_as (field_decides as_text key d as_text_decides)
    (λ t (v, there, is). there ∙ ap (λ (x : Data). Some x) is)
    (λ t there. (string t, there, refl))

pub items_decide : (key : List ℕ) (d : Data)
    → Decides (λ items. option_and_then items_of (field key d) ≡ Some items)
    ((required_items key d).result)
unfolding required_items
items_decide key d =
    said_as (field_decides as_items key d as_items_decides)
    (λ items (v, there, has). rw there has)
    (λ items said. option_and_then_some items_of (field key d) items said
    (λ v there has. (v, there, has)))

-- ---- A field that may be absent.

pub boolean_decides : (default : Bool) (key : List ℕ) (d : Data)
    → Decides (SaysBooleanOr default key d) ((read_boolean_or default key d).result)
unfolding read_boolean_or
boolean_decides default key d =
    within_decides (to_field key)
    (said_as
    (optional_decides (λ found. (boolean_or default found).result) (accept_decides default)
    (λ v. found_decides (find.as_bool v) (refusal_here kinds.Shape)) (field key d))
    (λ b. elim [
      | inl absent ↦ inl (absent.0, sym absent.1)
      | inr there ↦
          inr (there.1 ∙ ap (λ (x : Data). Some x) (boolean_is there.0 b there.2))
    ])
    (λ b. elim [
      | inl absent ↦ inl (absent.0, sym absent.1)
      | inr there ↦ inr (boolean b, there, refl)
    ]))

-- the items of an array
pub optional_items_decide : (key : List ℕ) (d : Data)
    → Decides (HasItems key d) ((read_optional_items key d).result)
unfolding read_optional_items
optional_items_decide key d =
    within_decides (to_field key)
    (said_as
    (optional_decides (λ found. (optional_items found).result) (accept_decides [])
    as_items_decides (field key d))
    (λ items. elim [
      | inl absent ↦ inl (absent.0, sym absent.1)
      | inr there ↦ inr (rw there.1 there.2)
    ])
    (λ items. elim [
      | inl absent ↦ inl (absent.0, sym absent.1)
      | inr has ↦
          inr (option_and_then_some items_of (field key d) items has (λ v there is. (v, there, is)))
    ]))

-- ---- A file.

pub json_decides : (bytes : List ℕ)
    → Decides (λ d. (length bytes ≤ MAX_FILE_BYTES) × (json_of bytes ≡ Some d))
    ((read_json bytes).result)
unfolding read_json
json_decides bytes =
    said_as
    (then_decides (count_decides MAX_FILE_BYTES (length bytes))
    (λ _. found_decides (json_of bytes) (refusal_here kinds.NotJson)))
    (λ d (_, few, is). (few, is)) (λ d (few, is). (tt, few, is))

-- if reading decides what a JSON value says, it decides what the bytes of a file say
pub file_decided : {A : Type 0} (Says : Data → A → Type 0) (read : Data → Reading A)
    → ((d : Data) → Decides (Says d) ((read d).result)) → (bytes : List ℕ)
    → Decides (FileSays Says bytes) ((read_json bytes >>= read).result)
file_decided Says read decides bytes =
    said_as (then_decides (json_decides bytes) decides)
    (λ x (d, (few, is), said). (few, d, is, said)) (λ x (few, d, is, said). (d, (few, is), said))
