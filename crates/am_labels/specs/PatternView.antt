-- A compiled pattern, and what it searches for.
use Rattle.std.specs.Prelude.{◌≡◌, ℕ, ◌<◌, List, length, All, Bool, None, is_some, if◌then◌else◌}
use Rattle.regex_hir.specs.Re.{Rest}
use Rattle.regex_hir.specs.Find.{first_between}
use Rattle.regex_hir.specs.Text.{is_boundary}
use Rattle.regex_nfa.specs.Run.{run}
use Rattle.regex_nfa.specs.declared.nfa.Nfa.{Nfa}
use Rattle.am_labels.specs.Pattern.{finds}

-- The first match of the compiled pattern, from its start state, at a position where a character
-- begins.
-- Source: own choice.
-- Example: inside a character of several bytes there is no match.
abbrev pub start_at : Nfa → List ℕ → Rest
start_at nfa hay i = if is_boundary hay i then run nfa hay (length hay) nfa.start i else None

-- The compiled pattern matches somewhere in a text.
-- Source: own choice.
-- Example: what is compiled from `^(?:db)$` does so in `db`.
abbrev pub has_match : Nfa → List ℕ → Bool
has_match nfa text = is_some (first_between (start_at nfa text) 0 (length text))

-- The compiled pattern matches somewhere in a text exactly if the pattern finds the text.
-- Source: own choice.
-- Example: what is compiled from `^(?:db)$` does so for the pattern `db`.
abbrev pub IsSearchFor : Nfa → List ℕ → Type 0
IsSearchFor nfa p =
    (text : List ℕ) → All (λ b. b < 256) text → has_match nfa text ≡ finds p text
