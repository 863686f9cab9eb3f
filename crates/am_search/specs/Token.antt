-- Tokens: starts as texts. A page after which more may follow ends with a token, and a later call
-- takes it.
use Rattle.std.specs.Prelude.{◌≡◌, ◌≢◌, ◌⊎◌, ℕ, List, ◌++◌, map, length, codes}
use Rattle.std.specs.List.{join_with_byte}
use Rattle.std.specs.Fmt.{decimal}
use Rattle.hex.specs.Hex.{IsBytes, encode_lower}
use Rattle.am_universe.specs.declared.kind.Kind.{Kind}
use Rattle.am_universe.specs.declared.kind.Kind.TheVariants as kinds
use Rattle.am_search.specs.declared.start.Start.{Start}
use Rattle.am_search.specs.declared.start.Start.TheVariants.{At, After}
use Rattle.am_search.specs.Start.{IsStart}

-- The byte `.`, which stands between two positions.
abbrev pub full_stop : ℕ
full_stop = 46

-- Positions in decimal, without leading zeros, joined by full stops.
abbrev pub positions_text : List ℕ → List ℕ
positions_text c = join_with_byte full_stop (map decimal c)

-- The bytes can be a fingerprint of inputs: there are 16 of them.
abbrev pub IsFingerprint : List ℕ → Type 0
IsFingerprint bytes = (length bytes ≡ 16) × IsBytes bytes

-- The token that is written for a start and the fingerprint of the inputs that it was made from:
-- `s2:` for a prefix, or `t2:` for a whole choice, the fingerprint as 32 digits, `0` to `9` and `a`
-- to `f`, then `:` and the positions.
-- Source: own choice.
-- Example: under the fingerprint of 16 bytes 10 the token of `At` 0 12 is
-- `s2:0a0a0a0a0a0a0a0a0a0a0a0a0a0a0a0a:0.12`.
abbrev pub token_text : List ℕ → Start → List ℕ
token_text fingerprint (At prefix) =
    codes "s2:" ++ (encode_lower fingerprint ++ (codes ":" ++ positions_text prefix))
token_text fingerprint (After c) =
    codes "t2:" ++ (encode_lower fingerprint ++ (codes ":" ++ positions_text c))

-- The token of a start in the old form, which has no fingerprint: `s1:` and the positions of a
-- prefix, or `t1:` and the positions of a whole choice.
-- Source: own choice.
-- Example: the old token of `At` 0 12 is `s1:0.12`, and that of `After` the empty choice is `t1:`.
abbrev pub old_token_text : Start → List ℕ
old_token_text (At prefix) = codes "s1:" ++ positions_text prefix
old_token_text (After c) = codes "t1:" ++ positions_text c

-- The text is read as the start, over labels of these sizes and for inputs with this fingerprint:
-- it is the start's token in the old form, or the token that is written for these inputs.
-- Source: own choice.
-- Example: over the sizes 2 and 3 the text `t1:0.2` is read as `After` 0 2, whatever the inputs.
abbrev pub ReadsToken : List ℕ → List ℕ → List ℕ → Start → Type 0
ReadsToken sizes fingerprint text start = IsStart sizes start
    × ((old_token_text start ≡ text) ⊎ (token_text fingerprint start ≡ text))

-- The text is not a token over labels of these sizes, whatever the inputs.
abbrev pub IsNoToken : List ℕ → List ℕ → Type 0
IsNoToken sizes text = (fingerprint : List ℕ) (start : Start) → IsFingerprint fingerprint
    → ReadsToken sizes fingerprint text start → ⊥

-- The text is the token that is written for a start over labels of these sizes and for inputs with
-- a fingerprint other than this one.
pub record IsTokenOfOthers (sizes fingerprint text : List ℕ) : Type 0 where
  pub start : Start
  pub other : List ℕ
  pub is_start : IsStart sizes start
  pub is_fingerprint : IsFingerprint other
  pub is_written : token_text other start ≡ text
  pub differs : other ≢ fingerprint

-- Why a text is refused as a token: it is not a token, or it is a token of other inputs.
-- Source: own choice.
-- Example: over the sizes 2 and 3 a text that begins with `t2:` and has the positions 0 3 is
-- `bad-token`, whatever its digits are; with the positions 0 2 and the digits of another
-- fingerprint it is `other-inputs`.
abbrev pub RefusesToken : List ℕ → List ℕ → List ℕ → Kind → Type 0
RefusesToken sizes fingerprint text kind =
    ((kind ≡ kinds.BadToken) × IsNoToken sizes text)
    ⊎ ((kind ≡ kinds.OtherInputs) × IsTokenOfOthers sizes fingerprint text)
