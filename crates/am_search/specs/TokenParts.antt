-- A token part by part: a letter, a form, and positions.
use Rattle.std.specs.Prelude.{ℕ, List, ◌++◌, codes, Option, Some, None}
use Rattle.hex.specs.Hex.{encode_lower}
use Rattle.am_search.specs.declared.start.Start.{Start}
use Rattle.am_search.specs.Token.{token_text, old_token_text}

-- What follows the letter of a token: a form, which has a fingerprint or is the old form, and then
-- the text of the positions.
abbrev pub form_text : Option (List ℕ) → List ℕ → List ℕ
form_text None positions = codes "1:" ++ positions
form_text (Some fingerprint) positions =
    codes "2:" ++ (encode_lower fingerprint ++ (codes ":" ++ positions))

-- The token of a start, with a fingerprint or in the old form.
abbrev pub spelled_text : Option (List ℕ) → Start → List ℕ
spelled_text None start = old_token_text start
spelled_text (Some fingerprint) start = token_text fingerprint start
