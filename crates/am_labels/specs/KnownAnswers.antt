-- What a search answered for some texts.
use Rattle.std.specs.Prelude.{◌≡◌, ℕ, List, Bool, All, string_bytes}
use Rattle.am_labels.specs.declared.known_answers.KnownAnswers.{KnownAnswers}

-- Each answer is true of its text.
-- Source: own choice.
-- Example: of a search for `db`, no for `web` is one.
abbrev pub AreAnswers : (List ℕ → Bool) → KnownAnswers → Type 0
AreAnswers truth known = All (λ k. k.answer ≡ truth (string_bytes k.text)) known.answers.items
