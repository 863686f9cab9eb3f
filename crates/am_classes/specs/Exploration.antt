-- States of a label that are listed, each with a text that leads to it.
use Rattle.std.specs.Prelude.{◌≡◌, ◌<◌, ◌≤◌, ◌+◌, ◌-◌, ℕ, List, [], ◌∷◌, Option, Some, slice_get}
use Rattle.std.specs.Prelude.{if◌then◌else◌, nat_lt, length, IsSome, true}
use Rattle.std.specs.List.{AllByRecursion}
use Rattle.am_classes.specs.declared.questions.Questions.{Questions}
use Rattle.am_classes.specs.declared.label_state.LabelState.{LabelState}
use Rattle.am_classes.specs.declared.reached_state.ReachedState.{ReachedState}
use Rattle.am_classes.specs.declared.tail.Tail.{Tail}
use Rattle.am_scan.specs.declared.byte_set.ByteSet.{ByteSet}
use Rattle.am_scan.specs.Sight.{is_scanned}
use Rattle.am_classes.specs.Utf8.{tail_with}
use Rattle.am_classes.specs.declared.limits.TheConstants.{MAX_STATES}
use Rattle.am_classes.specs.Fronts.{fronts_of}
use Rattle.am_classes.specs.Automata.{MakeSame, numbers_of}
use Rattle.am_classes.specs.State.{FollowsLabel, named_texts}

-- Each state follows the text beside it.
abbrev pub AreListed : Questions → List ReachedState → Type 0
AreListed q listed =
    (k : ℕ) (item : ReachedState) → slice_get listed k ≡ Some item
    → FollowsLabel q item.state item.text.items

-- One of the listed states follows a text, and the text beside it has at most `n` bytes.
abbrev pub HasState : Questions → List ReachedState → ℕ → List ℕ → Type 0
HasState q listed n text =
    (k : ℕ) × (item : ReachedState) × (slice_get listed k ≡ Some item)
    × FollowsLabel q item.state text × (length item.text.items ≤ n)

-- The text beside each state has `n` bytes.
abbrev pub HaveLength : ℕ → List ReachedState → Type 0
HaveLength n listed =
    (k : ℕ) (item : ReachedState) → slice_get listed k ≡ Some item → length item.text.items ≡ n

-- States with shorter texts come first, and no text has more than `n` bytes.
-- Source: own choice; the term for such a search is breadth first.
-- Example: with the texts ``, `a`, `b` and `ba` this is so for each `n` from 2 on.
pub record AreShortFirst (n : ℕ) (listed : List ReachedState) : Type 0 where
  pub order : (i j : ℕ) (x y : ReachedState) → slice_get listed i ≡ Some x
      → slice_get listed j ≡ Some y → i ≤ j → length x.text.items ≤ length y.text.items
  pub most : (k : ℕ) (x : ReachedState) → slice_get listed k ≡ Some x → length x.text.items ≤ n

-- Two states have the same tail, and neither has a front or a live pattern.
-- Source: own choice.
-- Example: if `db.*` is the only pattern, `x` and `y` lead to such states.
pub record IsSameSpent (one other : LabelState) : Type 0 where
  pub tails : one.tail ≡ other.tail
  pub fronts : (one.fronts.items ≡ []) × (other.fronts.items ≡ [])
  pub live : (one.live.items ≡ []) × (other.live.items ≡ [])

-- A byte before a text that a state follows leads to a text that a listed state follows, unless no
-- text that has only the bytes that are tried has such a byte there. The text beside the listed
-- state is at most one byte longer.
-- Source: own choice.
-- Example: if `a` and `ba` have the same listed state, `b` leads from it to itself.
abbrev pub LeadsOn : Questions → List ReachedState → ReachedState → ℕ → Type 0
LeadsOn q listed item byte =
    (text : List ℕ) (tail : Tail) → FollowsLabel q item.state text
    → tail_with (is_scanned q.bytes) (byte ∷ text) ≡ Some tail
    → HasState q listed (length item.text.items + 1) (byte ∷ text)

-- For each class there is at most one byte, and it leads on. The patterns treat this byte and the
-- class alike.
-- Source: own choice.
-- Example: over ASCII, if `db.*` is the only pattern, `z` may stand for all bytes but `d`, `b` and
-- the line feed.
abbrev pub AreLed : Questions → List ReachedState → ReachedState → List (Option ℕ) → Type 0
AreLed q listed item led =
    (class byte : ℕ) → slice_get led class ≡ Some (Some byte)
    → MakeSame q.automata.items class byte × LeadsOn q listed item byte

-- The byte at a place of the order in which bytes are tried: those from `a` to `~`, those from the
-- blank on, those before the blank, and those after `~`.
-- Source: own choice.
-- Example: `a` is at place 0, and the blank is at place 30.
abbrev pub byte_at : ℕ → ℕ
byte_at place =
    if nat_lt place 30 then place + 97
    else if nat_lt place 95 then place + 2
    else if nat_lt place 127 then place - 95
    else place

-- A byte is among some bytes; and each byte of a set is.
abbrev pub HasByte : List ℕ → ℕ → Type 0
HasByte bytes byte = (k : ℕ) × (slice_get bytes k ≡ Some byte)

abbrev pub HasEachByte : ByteSet → List ℕ → Type 0
HasEachByte set bytes =
    (byte : ℕ) → byte < 256 → is_scanned set byte ≡ true → HasByte bytes byte

-- No text leads out of what is listed, from the states before position `at`.
-- Source: own choice; the term is that of finite automata, whose states are closed under steps.
-- Example: over Unicode, if nothing is asked about a text, a list with one state for each tail is
-- closed, whatever the position is.
pub record IsClosed (q : Questions) (listed : List ReachedState) (at : ℕ) : Type 0 where
  pub first : HasState q listed 0 []
  pub leads : (k byte : ℕ) (item : ReachedState) → k < at → slice_get listed k ≡ Some item
      → byte < 256 → LeadsOn q listed item byte

-- More texts than the states that are explored, each an end of texts that have only the bytes that
-- are tried. No two have the same tail, the same fronts and the same numbers.
-- Source: own choice.
-- Example: this is never so if nothing is asked about a text: then the tails alone differ.
abbrev pub HasManyLabelStates : Questions → Type 0
HasManyLabelStates q =
    (texts : List (List ℕ)) × (MAX_STATES < length texts)
    × AllByRecursion (λ text. IsSome (tail_with (is_scanned q.bytes) text)) texts
    × ((i j : ℕ) (x y : List ℕ) → slice_get texts i ≡ Some x → slice_get texts j ≡ Some y
    → tail_with (is_scanned q.bytes) x ≡ tail_with (is_scanned q.bytes) y
    → fronts_of (named_texts q) x ≡ fronts_of (named_texts q) y
    → numbers_of q.automata.items x ≡ numbers_of q.automata.items y → i ≡ j)
