-- Texts that some matchers cannot tell apart. Here the matchers are those of one label, and each is
-- tested on a text, whatever the name of the matcher is.
use Rattle.std.specs.Prelude.{◌≡◌, ℕ, List, Some, slice_get, Contains, false}
use Rattle.std.specs.List.{AllByRecursion}
use Rattle.am_labels.specs.Matcher.{Matcher, holds}
use Rattle.am_classes.specs.declared.alphabet.Alphabet.{Alphabet}
use Rattle.am_classes.specs.Alphabet.{IsOver}
use Rattle.am_classes.specs.Named.{names_texts}

-- Two texts are alike to matchers: each matcher has the same truth on both.
-- Source: own choice; the term is that of Myhill and Nerode, who call two texts equivalent if no
-- test tells them apart.
-- Example: to `team=~"db.*"` and `team!="web"` the texts `db` and `db2` are alike, and `db` and
-- `web` are not.
abbrev pub AreAlike : List Matcher → List ℕ → List ℕ → Type 0
AreAlike ms x y = AllByRecursion (λ m. holds m.op m.value x ≡ holds m.op m.value y) ms

-- One of some texts is alike to a text.
-- Source: own choice.
-- Example: to `team="db"` alone, `web` is alike to `ops`, so one of `db` and `web` is.
abbrev pub HasAlikeIn : List Matcher → List (List ℕ) → List ℕ → Type 0
HasAlikeIn ms texts text = (x : List ℕ) × Contains texts x × AreAlike ms x text

-- Some texts cover all texts over an alphabet: whatever text is over it, one of them is alike to
-- that text.
-- Source: own choice.
-- Example: to `team="db"` alone, `db` and the empty text cover all. To `team=~".*"` alone, the
-- empty text covers all that are over ASCII. Over Unicode it does not, because `.` does not match a
-- line feed.
abbrev pub Covers : Alphabet → List Matcher → List (List ℕ) → Type 0
Covers a ms texts = (text : List ℕ) → IsOver a text → HasAlikeIn ms texts text

-- No two of some texts are alike.
-- Source: own choice.
-- Example: to `team="db"` alone, `db` and `web` are apart; `db`, `web` and `ops` are not.
abbrev pub AreApart : List Matcher → List (List ℕ) → Type 0
AreApart ms texts =
    (i j : ℕ) (x y : List ℕ) → slice_get texts i ≡ Some x → slice_get texts j ≡ Some y
    → AreAlike ms x y → i ≡ j

-- One of some matchers takes a pattern that is no alternation of plain texts. If none does, the
-- classes of texts can always be computed. `MayBePastLimits` says when they can if one does.
-- Source: Alertmanager configuration reference 0.25, "<matcher>": `=~` and `!~` take patterns.
-- Example: one of `team="db"` and `team=~"w.*"` does. `team="db"` and `team=~"db|web"` do not.
abbrev pub HasOtherPattern : List Matcher → Type 0
HasOtherPattern ms = (m : Matcher) × Contains ms m × (names_texts m ≡ false)
