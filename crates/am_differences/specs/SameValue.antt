-- JSON values that are the same.
use Rattle.std.specs.Prelude.{ℕ, ℤ, pos, ◌-◌, ◌^◌, ◌==◌, Bool, true, false, not, ◌&&◌, nat_lt}
use Rattle.std.specs.Prelude.{Float, if◌then◌else◌}
use Rattle.std.specs.Int.{w64}
use Rattle.std.specs.Ordering.{int_eq}
use Rattle.std.specs.Float.{binary64, float_to_signed, float_to_unsigned}
use Rattle.std.specs.Float.Ieee.{of_int, eq}
use Rattle.serde_json.specs.Data.{Num, unsigned, negative, float, Data, null, boolean, number}
use Rattle.serde_json.specs.Data.{string, array, object, Items, no_items, item, Members, no_members}
use Rattle.serde_json.specs.Data.{member}
use Rattle.serde_json.specs.Find.{to_float}
use Rattle.am_universe.specs.Text.{same_text}

-- A float is this integer, which is not negative: without its fraction it is the integer, and the
-- integer rounded to a float is this float. The largest integer of 64 bits is left out: it is no
-- float, and all floats above it are cut to it.
abbrev pub is_natural : ℕ → Float → Bool
is_natural n x =
    nat_lt n (2 ^ 64 - 1) && ((float_to_unsigned w64 x == n) && eq (of_int binary64 (pos n)) x)

-- The same for a negative integer.
abbrev pub is_negative : ℤ → Float → Bool
is_negative z x = int_eq (float_to_signed w64 x) z && eq (of_int binary64 z) x

-- A number as a float, the nearest one if it is an integer.
abbrev pub float_of : Num → Float
float_of n = to_float n

-- Numbers are the same if what is kept of them has the same value. `serde_json` keeps an integer of
-- 64 bits as it is, and any other number as the nearest float. So numbers of more digits than a
-- float has may be the same here.
-- Source: own choice. RFC 8259, section 6, leaves the precision of numbers open.
-- Example: 1, 1.0 and 10e-1 are the same, and so are 0 and -0.0.
abbrev pub same_number : Num → Num → Bool
same_number (unsigned a) (unsigned b) = a == b
same_number (unsigned a) (negative b) = false
same_number (unsigned a) (float y) = is_natural a y
same_number (negative a) (unsigned b) = false
same_number (negative a) (negative b) = int_eq a b
same_number (negative a) (float y) = is_negative a y
same_number (float x) (unsigned b) = is_natural b x
same_number (float x) (negative b) = is_negative b x
same_number (float x) (float y) = eq x y

abbrev pub same_boolean : Bool → Bool → Bool
same_boolean a b = if a then b else not b

-- JSON values are the same if they are of one kind and have the same parts. The members of an
-- object are kept in the order of their keys, so their order in the file does not count.
-- Source: RFC 8259, section 1: an object is an unordered collection.
-- Example: `{"a": 1, "b": []}` and `{"b": [], "a": 1.0}` are the same. `[1, 2]` and `[2, 1]` are
-- not.
abbrev mutual
  pub same_value : Data → Data → Bool
  same_value null null = true
  same_value (boolean a) (boolean b) = same_boolean a b
  same_value (number a) (number b) = same_number a b
  same_value (string a) (string b) = same_text a b
  same_value (array ds) (array es) = same_items ds es
  same_value (object ms) (object ns) = same_members ms ns
  same_value a b = false

  pub same_items : Items → Items → Bool
  same_items no_items no_items = true
  same_items (item a ds) (item b es) = same_value a b && same_items ds es
  same_items ds es = false

  pub same_members : Members → Members → Bool
  same_members no_members no_members = true
  same_members (member k a ms) (member l b ns) =
      (same_text k l && same_value a b) && same_members ms ns
  same_members ms ns = false
