-- What a call that writes did to a sink. Contracts see two things of a sink, which its trait
-- declares: `taken`, the bytes that it has taken, and `failures`, how many takes failed.
use Rattle.std.specs.Prelude.{◌≡◌, ℕ, ◌+◌, ◌<◌, List, ◌++◌, length, take, Result, OnOk, IfErr}
use Rattle.am_universe.specs.declared.kind.Kind.{Kind}
use Rattle.am_universe.specs.declared.kind.Kind.TheVariants as kinds

-- The new bytes are the old ones, followed by a proper prefix of the text.
unfoldable pub GrowsByProperPrefix : List ℕ → List ℕ → List ℕ → Type 0
GrowsByProperPrefix old new text =
    (count : ℕ) × (count < length text) × (new ≡ old ++ take count text)

-- Between two states of a sink, the whole text was taken, and no take failed.
pub record Wrote {S : Type 0} (taken : S → List ℕ) (failures : S → ℕ) (before after : S)
    (text : List ℕ) : Type 0 where
  pub all : taken after ≡ taken before ++ text
  pub none_failed : failures after ≡ failures before

-- Between two states of a sink, a proper prefix of the text was taken, and exactly one take failed.
pub record WroteInPart {S : Type 0} (taken : S → List ℕ) (failures : S → ℕ) (before after : S)
    (text : List ℕ) : Type 0 where
  pub part : GrowsByProperPrefix (taken before) (taken after) text
  pub one_failed : failures after ≡ failures before + 1

-- A call tried to write the text. If it returned `Ok`, it wrote all of it, and no take failed. If
-- it returned `Err`, which is then `Kind::Write`, it wrote a proper prefix, and exactly one take
-- failed.
-- Source: own choice.
-- Example: a call that is to write `{}` and returns `Err` has written nothing or `{`.
pub record Writes {S T : Type 0} (taken : S → List ℕ) (failures : S → ℕ) (before after : S)
    (text : List ℕ) (result : Result T Kind) : Type 0 where
  pub ok : OnOk result (Wrote taken failures before after text)
  pub err : IfErr result (λ kind.
      (kind ≡ kinds.Write) × WroteInPart taken failures before after text)
