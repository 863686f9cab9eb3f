-- An assertion sees no more of the bytes beside it than their kinds.
use Rattle.std.proofs.Common.{◌≡◌, ℕ, zero, suc, ◌+◌, ◌-◌, ◌<◌, ◌≤◌, Bool, true, false, ◌&&◌, ◌||◌, cond, eqb, Option, Some, None, is_some, refl, sym, arith, List, [], ◌∷◌, length, slice_get, ap, ◌∙◌, ⊎_elim, rules}
use Rattle.std.specs.List.{list_all}
use Rattle.std.proofs.lemmas.Bool.{and_parts, cases_Bool, cases_lt, cond_both, or_parts}
use Rattle.std.proofs.lemmas.Option.{none-some, slice_get-get_or}
use Rattle.std.proofs.lemmas.Grind.{common_steps}
use Rattle.ucd_perl.specs.Perl.{is_word_byte, is_word_char}
use Rattle.ucd_perl.proofs.PerlLemmas.{is_word_char-ascii}
use Rattle.regex_hir.specs.Looks.{holds, holds_between}
use Rattle.regex_hir.specs.Text.{is_some_and, byte_before, char_at, char_of_len_before, char_before}
use Rattle.regex_hir.specs.declared.look.Look as look
use Rattle.regex_hir.specs.declared.look.Look.TheVariants.{Start, End, StartLf, EndLf, StartCrlf, EndCrlf, WordAscii, WordAsciiNegate, WordUnicode, WordUnicodeNegate, WordStartAscii, WordEndAscii, WordStartUnicode, WordEndUnicode, WordStartHalfAscii, WordEndHalfAscii, WordStartHalfUnicode, WordEndHalfUnicode}
use Rattle.regex_hir.proofs.AttemptLemmas.{cond_some}
use Rattle.regex_hir.proofs.OptionLemmas.{none_of_no_value, option_or_cases}
use Rattle.regex_hir.proofs.TextLemmas.{byte_before-add-one, byte_before_some, char_at_ascii, char_at_fits, char_at_past, char_before_ascii, char_before-zero}
use Rattle.regex_nfa.specs.Sides.{is_unicode_look}
use Rattle.regex_nfa.proofs.LookLemmas.{holds_between_bytes}
use Rattle.regex_nfa.specs.declared.nfa.Nfa.{Nfa}
use Rattle.regex_nfa.specs.declared.state.State.{State}
use Rattle.regex_nfa.specs.declared.state.State.TheVariants.{Look}
use Rattle.regex_nfa.specs.States.{state_at}
use Rattle.am_scan.specs.Sight.{kind_beside, sees, sees_state, is_scanned, IsScanned}
use Rattle.am_scan.specs.declared.byte_set.ByteSet.{ByteSet}
use Rattle.am_scan.specs.declared.sight.Sight.{Sight}

-- the byte on a side, if there is one, is of ASCII
abbrev IsAsciiSide : Option ℕ → Type 0
IsAsciiSide o = (b : ℕ) → o ≡ Some b → b < 128

-- the kind of a byte, by what is seen
abbrev known_by : Bool → Bool → ℕ → ℕ
known_by lines words b = cond (lines && (eqb b 10 || eqb b 13)) b (cond (words && is_word_byte b) 97 0)

-- if lines are seen, a byte is a line feed exactly if its kind is
lf_byte : (lines words : Bool) (b : ℕ) → lines ≡ true → eqb (known_by lines words b) 10 ≡ eqb b 10
lf_byte false words b e = absurd cc
lf_byte true words b e = grind (arith, common_steps, cond_both, or_parts)

-- if lines are seen, a byte is a carriage return exactly if its kind is
cr_byte : (lines words : Bool) (b : ℕ) → lines ≡ true → eqb (known_by lines words b) 13 ≡ eqb b 13
cr_byte false words b e = absurd cc
cr_byte true words b e = grind (arith, common_steps, cond_both, or_parts)

-- if words are seen, a byte is of a word exactly if its kind is
word_byte : (lines words : Bool) (b : ℕ) → words ≡ true → is_word_byte (known_by lines words b) ≡ is_word_byte b
word_byte lines false b e = absurd cc
word_byte lines true b e = search (rules, cond_both)

-- the kind of a byte of ASCII is of ASCII
kind_is_ascii : (lines words : Bool) (b : ℕ) → b < 128 → known_by lines words b < 128
kind_is_ascii lines words b small = grind (arith, common_steps, cond_both)

module _ (sight : Sight) where
  -- there is a kind exactly if there is a byte
  edge-kind : (o : Option ℕ) → is_some (kind_beside sight o) ≡ is_some o
  edge-kind None = refl
  edge-kind (Some b) = refl

  -- the byte on a side is a line feed exactly if its kind is
  lf-kind : sight.lines ≡ true → (o : Option ℕ) → is_some_and (kind_beside sight o) (λ b. eqb b 10) ≡ is_some_and o (λ b. eqb b 10)
  lf-kind lines None = refl
  lf-kind lines (Some b) = lf_byte sight.lines sight.words b lines

  -- the byte on a side is a carriage return exactly if its kind is
  cr-kind : sight.lines ≡ true → (o : Option ℕ) → is_some_and (kind_beside sight o) (λ b. eqb b 13) ≡ is_some_and o (λ b. eqb b 13)
  cr-kind lines None = refl
  cr-kind lines (Some b) = cr_byte sight.lines sight.words b lines

  -- the byte on a side is of a word exactly if its kind is
  word_byte-kind : sight.words ≡ true → (o : Option ℕ) → is_some_and (kind_beside sight o) is_word_byte ≡ is_some_and o is_word_byte
  word_byte-kind words None = refl
  word_byte-kind words (Some b) = word_byte sight.lines sight.words b words

  -- the character on a side of ASCII is of a word exactly if its kind is
  word_char-kind : sight.words ≡ true → (o : Option ℕ) → IsAsciiSide o → is_some_and (kind_beside sight o) is_word_char ≡ is_some_and o is_word_char
  word_char-kind words None ascii = refl
  word_char-kind words (Some b) ascii = search (rules, is_word_char-ascii, kind_is_ascii, word_byte)

  -- an assertion holds between two characters of one byte exactly if it holds between their kinds
  pub holds_between-kinds : (l : look.Look) (a b : Option ℕ) → sees sight l ≡ true →
      (sight.words ≡ true → IsAsciiSide a × IsAsciiSide b) →
      holds_between l (record { byte = a; char = a }) (record { byte = b; char = b })
      ≡ holds_between l (record { byte = kind_beside sight a; char = kind_beside sight a }) (record { byte = kind_beside sight b; char = kind_beside sight b })
  unfolding holds_between
  holds_between-kinds Start a b h ascii = simp edge-kind
  holds_between-kinds End a b h ascii = simp edge-kind
  holds_between-kinds StartLf a b h ascii = simp (edge-kind, lf-kind h)
  holds_between-kinds EndLf a b h ascii = simp (edge-kind, lf-kind h)
  holds_between-kinds StartCrlf a b h ascii = simp (edge-kind, lf-kind h, cr-kind h)
  holds_between-kinds EndCrlf a b h ascii = simp (edge-kind, lf-kind h, cr-kind h)
  holds_between-kinds WordAscii a b h ascii = simp (word_byte-kind h)
  holds_between-kinds WordAsciiNegate a b h ascii = simp (word_byte-kind h)
  holds_between-kinds WordStartAscii a b h ascii = simp (word_byte-kind h)
  holds_between-kinds WordEndAscii a b h ascii = simp (word_byte-kind h)
  holds_between-kinds WordStartHalfAscii a b h ascii = simp (word_byte-kind h)
  holds_between-kinds WordEndHalfAscii a b h ascii = simp (word_byte-kind h)
  holds_between-kinds WordUnicode a b h ascii = grind (arith, common_steps, word_char-kind)
  holds_between-kinds WordUnicodeNegate a b h ascii = grind (arith, common_steps, edge-kind, word_char-kind)
  holds_between-kinds WordStartUnicode a b h ascii = grind (arith, common_steps, word_char-kind)
  holds_between-kinds WordEndUnicode a b h ascii = grind (arith, common_steps, word_char-kind)
  holds_between-kinds WordStartHalfUnicode a b h ascii = simp (edge-kind, word_char-kind h a (ascii h).0)
  holds_between-kinds WordEndHalfUnicode a b h ascii = simp (edge-kind, word_char-kind h b (ascii h).1)

  -- if words are not seen, no assertion asks about characters
  pub not_unicode : (l : look.Look) → sees sight l ≡ true → sight.words ≡ false → is_unicode_look l ≡ false
  not_unicode Start h none = refl
  not_unicode End h none = refl
  not_unicode StartLf h none = refl
  not_unicode EndLf h none = refl
  not_unicode StartCrlf h none = refl
  not_unicode EndCrlf h none = refl
  not_unicode l h none = absurd cc

-- each byte of a scanned text is scanned
pub scanned_at : (bytes : ByteSet) (xs : List ℕ) (k b : ℕ) → list_all (is_scanned bytes) xs ≡ true → slice_get xs k ≡ Some b → is_scanned bytes b ≡ true
scanned_at bytes [] k b h e = absurd (none-some b e)
scanned_at bytes (x ∷ xs) zero b h e = let same : x ≡ b = cc in ap (is_scanned bytes) (sym same) ∙ (and_parts _ _ h).0
scanned_at bytes (x ∷ xs) (suc k) b h e = scanned_at bytes xs k b (and_parts (is_scanned bytes x) _ h).1 e

module _ (hay : List ℕ) (i : ℕ) where
  -- a position without a byte is at or after the end of the text
  past_end : slice_get hay i ≡ None → length hay ≤ i
  past_end e =
      ⊎_elim (λ inside. absurd (none-some _ (sym e ∙ slice_get-get_or hay i 0 inside))) (λ past. past) (cases_lt i (length hay))

  -- a character that ends at a position ends within the text
  fits : (n c : ℕ) → char_of_len_before hay n i ≡ Some c → i ≤ length hay
  fits n c e = grind (arith, common_steps, cond_some, and_parts, char_at_fits)

  -- so no character ends after the text
  char_before_past : length hay < i → char_before hay i ≡ None
  unfolding char_before
  char_before_past past =
      let not_of : (n c : ℕ) → char_of_len_before hay n i ≡ Some c → ⊥ = λ n c e. absurd (omega (arith, fits n c e)) in
      none_of_no_value _ (λ c e.
      ⊎_elim (not_of 1 c) (λ others.
      ⊎_elim (not_of 2 c) (λ rest.
      ⊎_elim (not_of 3 c) (λ four. not_of 4 c four.1)
      (option_or_cases _ _ c rest.1)) (option_or_cases _ _ c others.1)) (option_or_cases _ _ c e))

  -- in a text of ASCII, the character at a position is the byte there
  char_at_is : (o : Option ℕ) → slice_get hay i ≡ o → IsAsciiSide o → char_at hay i ≡ o
  char_at_is None e ascii = char_at_past hay i (past_end e)
  char_at_is (Some b) e ascii = char_at_ascii hay i b e (ascii b refl)

-- and the character before a position is the byte before it
char_before_is : (hay : List ℕ) (i : ℕ) (o : Option ℕ) → byte_before hay i ≡ o → IsAsciiSide o → char_before hay i ≡ o
char_before_is hay i (Some b) e ascii = char_before_ascii hay i b e (ascii b refl)
char_before_is hay zero None e ascii = char_before-zero hay
char_before_is hay (suc i) None e ascii =
    let one : suc i ≡ i + 1 = omega arith in
    let past = past_end hay i (sym (byte_before-add-one hay i) ∙ ap (byte_before hay) (sym one) ∙ e) in
    char_before_past hay (suc i) (omega arith)

-- What is seen is enough for the assertions of the compiled pattern, over these texts.
pub record IsSeen (nfa : Nfa) (sight : Sight) (bytes : ByteSet) : Type 0 where
  pub all : list_all (sees_state sight) nfa.states.items ≡ true
  pub words_in_ascii : sight.words ≡ true → (b : ℕ) → is_scanned bytes b ≡ true → b < 128

-- if what is seen is enough for all states, it is enough for the state with each number
seen_at : (sight : Sight) (states : List State) → list_all (sees_state sight) states ≡ true → (q : ℕ) → sees_state sight (state_at states q) ≡ true
unfolding sees_state
seen_at sight [] h q = refl
seen_at sight (s ∷ states) h zero = (and_parts _ _ h).0
seen_at sight (s ∷ states) h (suc q) = seen_at sight states (and_parts (sees_state sight s) _ h).1 q

module _ (nfa : Nfa) (sight : Sight) (bytes : ByteSet) (seen : IsSeen nfa sight bytes) where
  -- what is seen is enough for the assertion of the state with a number
  sees_look : (q : ℕ) (l : look.Look) (next : ℕ) → state_at nfa.states.items q ≡ Look l next → sees sight l ≡ true
  unfolding sees_state
  sees_look q l next e = sym (ap (sees_state sight) e) ∙ seen_at sight nfa.states.items seen.all q

  -- so the assertion holds exactly if it holds between the kinds
  pub holds-kinds : (hay : List ℕ) (i : ℕ) → IsScanned bytes hay → (q : ℕ) (l : look.Look) (next : ℕ) → state_at nfa.states.items q ≡ Look l next →
      holds l hay i
      ≡ holds_between l (record { byte = kind_beside sight (byte_before hay i); char = kind_beside sight (byte_before hay i) })
      (record { byte = kind_beside sight (slice_get hay i); char = kind_beside sight (slice_get hay i) })
  unfolding holds
  holds-kinds hay i scanned q l next e =
      let asks = sees_look q l next e in
      ⊎_elim
      (λ words.
      let small : (k b : ℕ) → slice_get hay k ≡ Some b → b < 128 =
      λ k b at. seen.words_in_ascii words b (scanned_at bytes hay k b scanned at) in
      let before : IsAsciiSide (byte_before hay i) = λ b at. small (i - 1) b (byte_before_some hay i b at).1 in
      let after : IsAsciiSide (slice_get hay i) = λ b at. small i b at in
      rw (char_before_is hay i _ refl before, char_at_is hay i _ refl after)
      (holds_between-kinds sight l (byte_before hay i) (slice_get hay i) asks (λ _. (before, after))))
      (λ none.
      holds_between_bytes l (byte_before hay i) (slice_get hay i) _ _ (byte_before hay i) (slice_get hay i) (not_unicode sight l asks none)
      ∙ holds_between-kinds sight l (byte_before hay i) (slice_get hay i) asks (λ words. absurd cc))
      (cases_Bool sight.words)
