-- What is compiled from an anchored pattern searches for the pattern.
use Rattle.std.proofs.Common.{◌≡◌, ℕ, ◌+◌, ◌≤◌, ◌<◌, List, length, Option, Some, None, is_some, refl, sym, ap, ◌∙◌, arith}
use Rattle.std.proofs.Common.{Bool, true, false, ◌||◌, option_map}
use Rattle.std.specs.Option.{option_or}
use Rattle.std.specs.Prelude.{chars}
use Rattle.std.proofs.lemmas.Grind.{common_steps}
use Rattle.std.proofs.lemmas.Option.{slice_get_past, slice_get-get_or}
use Rattle.regex_hir.specs.Find.{find_str, first_between}
use Rattle.regex_hir.specs.Meaning.{meaning}
use Rattle.regex_hir.specs.declared.hir.Hir.{Hir}
use Rattle.regex_hir.specs.Re.{Rest, Trace}
use Rattle.regex_hir.proofs.FindLemmas.{first_between_cong, first_between_unfold, first_between_past}
use Rattle.regex_nfa.specs.declared.nfa.Nfa.{Nfa}
use Rattle.regex_compile.specs.Implements.{Implements}
use Rattle.regex_syntax.specs.Brackets.{Nested}
use Rattle.regex_syntax.specs.Grammar.{Names, read}
use Rattle.regex_syntax.specs.Verdict.{Reads, default_config}
use Rattle.regex_syntax.proofs.CapturesLemmas.{spans, find_str_alike}
use Rattle.regex_syntax.proofs.Written.{is_some-option_map}
use Rattle.regex_hir.specs.Re.{Re}
use Rattle.am_labels.specs.Pattern.{anchored_pattern, pattern_reading, is_pattern}
use Rattle.am_labels.specs.PatternView.{start_at, IsSearchFor}

module _ (nfa : Nfa) (hir : Hir) (implements : Implements nfa (meaning hir)) (p : List ℕ) (names : Names)
    (reads : Reads default_config (anchored_pattern p) hir names) where
  -- the compiled pattern searches as the tree does
  by_tree : (text : List ℕ) → first_between (start_at nfa text) 0 (length text) ≡ find_str (meaning hir) text 0
  unfolding find_str
  by_tree text = grind (arith, common_steps, first_between_cong)

  -- by what the grammar reads, if it reads anything
  read_by : (o : Option (Nested Re × Names)) → read default_config (chars (anchored_pattern p)) ≡ o
      → (is_pattern p ≡ true) × IsSearchFor nfa p
  unfolding Reads pattern_reading
  read_by None e = absurd (rw e at reads)
  read_by (Some found) e =
      let same = rw e at reads in (
        rw e refl,
        λ text bytes.
            ap is_some (by_tree text)
            ∙ sym (is_some-option_map spans _) ∙ ap is_some (find_str_alike (meaning hir) found.0.value same.1 text bytes 0)
            ∙ is_some-option_map spans _ ∙ rw e refl,
      )

  pub is_pattern-compiled : is_pattern p ≡ true
  is_pattern-compiled = (read_by _ refl).0

  pub IsSearchFor-compiled : IsSearchFor nfa p
  IsSearchFor-compiled = (read_by _ refl).1

-- ---- The search of a text, position by position.

-- a position gives a match, or the later ones do
here_or : {A : Type 0} (o : Option Trace) (f : Trace → A) (later : Option A)
    → is_some (option_or (option_map f o) later) ≡ (is_some o || is_some later)
here_or None f later = refl
here_or (Some t) f later = refl

or_nothing : (b : Bool) → (b || false) ≡ b
or_nothing true = refl
or_nothing false = refl

module _ (at : Rest) where
  pub here_or_later : (start last : ℕ) → start ≤ last
      → is_some (first_between at start last)
      ≡ (is_some (at start) || is_some (first_between at (start + 1) last))
  here_or_later start last within =
      ap is_some (first_between_unfold at start last within)
      ∙ here_or (at start) _ (first_between at (start + 1) last)

  pub nothing_past : (start last : ℕ) → last < start
      → is_some (first_between at start last) ≡ false
  nothing_past start last past = ap is_some (first_between_past at start last past)

  -- a search at one position
  pub at_one : (i : ℕ) → is_some (first_between at i i) ≡ is_some (at i)
  at_one i =
      here_or_later i i (omega arith)
      ∙ ap (λ b. is_some (at i) || b) (nothing_past (i + 1) i (omega arith))
      ∙ or_nothing (is_some (at i))

pub ruleset reads = (slice_get_past, slice_get-get_or)
