-- Texts over an alphabet.
use Rattle.std.proofs.Common.{◌≡◌, ℕ, true, List, [], ◌∷◌, String, string_bytes, refl}
use Rattle.std.specs.Str.{IsUtf8}
use Rattle.std.specs.declared.alloc.Global.{Global}
use Rattle.std.proofs.lemmas.Str.{IsUtf8-nil, IsUtf8-string_bytes}
use Rattle.am_classes.specs.declared.alphabet.Alphabet.{Alphabet}
use Rattle.am_classes.specs.declared.alphabet.Alphabet.TheVariants.{Unicode, Ascii}
use Rattle.am_classes.specs.declared.questions.Questions.{Questions}
use Rattle.am_classes.specs.declared.label_state.LabelState.{LabelState}
use Rattle.am_scan.specs.Sight.{is_scanned}
use Rattle.am_classes.specs.Alphabet.{has_byte, is_over, IsOver, IsOrdinary}
use Rattle.am_classes.specs.State.{FollowsLabel}
use Rattle.am_classes.proofs.TailLemmas.{bytes_of_tail}

-- each byte of a text is one of Unicode
pub all_over_unicode : (text : List ℕ) → is_over Unicode text ≡ true
all_over_unicode [] = refl
all_over_unicode (b ∷ text) = all_over_unicode text

-- the empty text is over each alphabet
pub nil_over : (a : Alphabet) → IsOver a []
nil_over Unicode = IsUtf8-nil
nil_over Ascii = refl

-- a text in UTF-8 is over an alphabet exactly if its bytes are of the alphabet
pub over_from : (a : Alphabet) (text : List ℕ) → IsUtf8 text → is_over a text ≡ true → IsOver a text
over_from Unicode text utf8 over = utf8
over_from Ascii text utf8 over = over

pub is_over_from : (a : Alphabet) (text : List ℕ) → IsOver a text → is_over a text ≡ true
is_over_from Unicode text over = all_over_unicode text
is_over_from Ascii text over = over

-- a text in memory is UTF-8, so it is over an alphabet if its bytes are, or if it is ordinary
pub string_over : (a : Alphabet) (text : String Global) → is_over a (string_bytes text) ≡ true
    → IsOver a (string_bytes text)
string_over a text = over_from a (string_bytes text) (IsUtf8-string_bytes text)

pub ordinary_over : (a : Alphabet) (text : String Global) → IsOrdinary (string_bytes text)
    → IsOver a (string_bytes text)
ordinary_over Unicode text ordinary = IsUtf8-string_bytes text
ordinary_over Ascii text ordinary = ordinary

-- a text in memory that a state follows is over the alphabet
pub followed_over : (q : Questions) (state : LabelState) (text : String Global)
    → FollowsLabel q state (string_bytes text) → IsOver q.alphabet (string_bytes text)
followed_over q state text follows =
    string_over q.alphabet text
    (bytes_of_tail (is_scanned q.bytes) (has_byte q.alphabet) (λ b small. q.own b) (string_bytes text) state.tail follows.tail)
