-- Which bytes are enough to stand for all texts.
use Rattle.std.specs.Prelude.{◌≡◌, ◌⊎◌, ℕ, List, Some, slice_get, true, length}
use Rattle.am_labels.specs.Pattern.{finds}
use Rattle.am_scan.specs.Sight.{is_scanned, IsScanned}
use Rattle.am_scan.specs.declared.byte_set.ByteSet.{ByteSet}
use Rattle.am_classes.specs.declared.alphabet.Alphabet.{Alphabet}
use Rattle.am_classes.specs.Alphabet.{has_byte, IsOver}

-- A text stands for another: it is as long, the same patterns find it, and if one of the two is
-- named, they are the same.
-- Source: own choice.
-- Example: for the pattern `\w`, `ª` stands for `é`, unless one of them is named.
pub record StandsFor (named patterns : List (List ℕ)) (x text : List ℕ) : Type 0 where
  pub len : length x ≡ length text
  pub same : (k : ℕ) (n : List ℕ) → slice_get named k ≡ Some n → (n ≡ x) ⊎ (n ≡ text) → x ≡ text
  pub found : (k : ℕ) (p : List ℕ) → slice_get patterns k ≡ Some p → finds p x ≡ finds p text

-- Bytes are of an alphabet; and they are enough: for each text over the alphabet, one stands that
-- has only these bytes.
-- Source: own choice.
-- Example: for the pattern `\w`, the bytes of ASCII and those of six characters are enough.
abbrev pub AreOf : Alphabet → ByteSet → Type 0
AreOf a bytes = (b : ℕ) → is_scanned bytes b ≡ true → has_byte a b ≡ true

abbrev pub AreEnough : Alphabet → List (List ℕ) → List (List ℕ) → ByteSet → Type 0
AreEnough a named patterns bytes =
    (text : List ℕ) → IsOver a text
    → (x : List ℕ) × IsOver a x × IsScanned bytes x × StandsFor named patterns x text
