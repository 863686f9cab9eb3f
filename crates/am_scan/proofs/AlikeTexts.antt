-- A pattern that asks nothing of alike characters finds alike texts both or neither.
use Rattle.std.proofs.Common.{◌≡◌, ◌⊎◌, inl, inr, ℕ, zero, suc, ◌+◌, ◌-◌, ◌*◌, ◌/◌, ◌%◌, ◌<◌, ◌≤◌, Bool, true, false, cond, List, [], ◌∷◌, ◌++◌, All, length, drop, map, replicate, Option, Some, None, is_some, slice_get, nat_lt, get_or, lt-ltb, le-ltb, le-leb, ne_eqb, refl, sym, ap, ap₂, subst, ◌∙◌, arith, length-append, length-drop, drop-drop, append_assoc}
use Rattle.std.specs.Char.{IsScalar, len_utf8}
use Rattle.std.specs.List.{AllByRecursion}
use Rattle.std.specs.Option.{option_or}
use Rattle.std.specs.Str.{chars}
use Rattle.std.proofs.lemmas.Bool.{and_parts, cases_eq, cases_lt, false_from_ne_true, lt-leb}
use Rattle.std.proofs.lemmas.List.{drop_at, length-map, map-append}
use Rattle.std.proofs.lemmas.List.Elements.{All-append, All-cons, All-nil}
use Rattle.std.proofs.lemmas.Nat.{div_below, mod_below}
use Rattle.std.proofs.lemmas.Option.{slice_get-get_or, slice_get-map, slice_get_past}
use Rattle.std.proofs.lemmas.Str.{drop_past_char, encode_ascii, encode_same, length-encode, len_utf8_ascii, len_utf8_bounds}
use lib.Utf8.{scalar, scalars, encode, encodes, scalar_cases}
use Rattle.regex_class.specs.Ranges.{in_ranges}
use Rattle.regex_hir.specs.Find.{find_str, first_between}
use Rattle.regex_hir.specs.Looks.{holds, holds_between}
use Rattle.regex_hir.specs.Meaning.{meaning}
use Rattle.regex_hir.specs.Re.{Re, Rest, accept, attempt, more_rounds, prefer, rounds, write, empty, literal, byte_in, char_in, look, cat, alt, group, plus}
use Rattle.regex_hir.specs.Text.{byte_before, has_bytes_at, is_boundary, is_some_and}
use Rattle.regex_hir.specs.declared.hir.Hir.{Hir}
use Rattle.regex_hir.specs.declared.look.Look as look_type
use Rattle.regex_hir.proofs.FindLemmas.{first_between_cong}
use Rattle.regex_hir.proofs.TextLemmas.{byte_before-zero, byte_before-add-one, char_at_from, char_at_past, has_bytes_at_parts, has_bytes_at_from}
use Rattle.regex_nfa.proofs.LookLemmas.{holds_between_bytes}
use Rattle.regex_syntax.specs.Brackets.{Nested}
use Rattle.regex_syntax.specs.Grammar.{Names, read}
use Rattle.regex_syntax.specs.Verdict.{Reads, default_config}
use Rattle.regex_syntax.proofs.CapturesLemmas.{spans, find_str_alike}
use Rattle.regex_syntax.proofs.Written.{is_some-option_map}
use Rattle.am_labels.specs.Pattern.{anchored_pattern, finds, pattern_reading}
use Rattle.am_scan.specs.declared.character_sets.CharacterSets.{CharacterSets}
use Rattle.am_scan.specs.declared.sight.Sight.{Sight}
use Rattle.am_scan.specs.Characters.{AreAlike, AreAlikeTexts, CannotTell, IsAlone, IsBlind}
use Rattle.am_scan.specs.Sight.{kind_of, kind_beside, sees}
use Rattle.am_scan.proofs.Places.{all_at_place, get_kept}
use Rattle.am_scan.proofs.SightLemmas.{holds_between-kinds, not_unicode}
use Rattle.am_scan.proofs.StepLemmas.{same_boundary, slice_get-drop}

-- what assertions see that ask about lines
abbrev lines : Sight
lines = record { lines = true; words = false }

-- ---- The bytes of characters.

-- a byte that is not of ASCII has no kind of its own
wide_kind : (b : ℕ) → 128 ≤ b → kind_of lines b ≡ 0
wide_kind b wide = rw (ne_eqb b 10 (λ e. omega (arith, wide, e)), ne_eqb b 13 (λ e. omega (arith, wide, e))) refl

-- the bytes of a character, by how many there are
module _ (c : ℕ) where
  two_bytes : 128 ≤ c → c < 2048 → encode c ≡ (192 + c / 64) ∷ (128 + c % 64) ∷ []
  unfolding encode
  two_bytes from to = rw (le-ltb c 128 from, lt-ltb c 2048 to) refl

  three_bytes : 2048 ≤ c → c < 65536 → encode c ≡ (224 + c / 4096) ∷ (128 + c / 64 % 64) ∷ (128 + c % 64) ∷ []
  unfolding encode
  three_bytes from to = rw (le-ltb c 128 (omega (arith, from)), le-ltb c 2048 from, lt-ltb c 65536 to) refl

  four_bytes : 65536 ≤ c → encode c ≡ (240 + c / 262144) ∷ (128 + c / 4096 % 64) ∷ (128 + c / 64 % 64) ∷ (128 + c % 64) ∷ []
  unfolding encode
  four_bytes from = rw (le-ltb c 128 (omega (arith, from)), le-ltb c 2048 (omega (arith, from)), le-ltb c 65536 from) refl

-- A character that is not of ASCII begins with a byte from 192 on, and continues with bytes from
-- 128 to 191.
abbrev Continues : ℕ → Type 0
Continues b = (128 ≤ b) × (b < 192)

record IsWide (bytes : List ℕ) : Type 0 where
  first : ℕ
  more : List ℕ
  is : bytes ≡ first ∷ more
  lead : 192 ≤ first
  top : first < 256
  continues : AllByRecursion Continues more

continued : (n : ℕ) → Continues (128 + n % 64)
continued n = let small = mod_below n 64 (omega arith) in (omega arith, omega (arith, small))

is_wide : (c : ℕ) → 128 ≤ c → c < 1114112 → IsWide (encode c)
is_wide c wide most = elim (cases_lt c 2048) [
  | inl two ↦ (
      let high = div_below c 64 32 (omega arith) (omega (arith, two)) in
      record { first = 192 + c / 64; more = (128 + c % 64) ∷ []; is = two_bytes c wide two; lead = omega arith; top = omega (arith, high); continues = (continued c, tt) })
  | inr up ↦ elim (cases_lt c 65536) [
    | inl three ↦ (
        let high = div_below c 4096 16 (omega arith) (omega (arith, three)) in
        record { first = 224 + c / 4096; more = (128 + c / 64 % 64) ∷ (128 + c % 64) ∷ []; is = three_bytes c up three; lead = omega arith; top = omega (arith, high); continues = (continued (c / 64), (continued c, tt)) })
    | inr four ↦ (
        let high = div_below c 262144 5 (omega arith) (omega (arith, most)) in
        record { first = 240 + c / 262144; more = (128 + c / 4096 % 64) ∷ (128 + c / 64 % 64) ∷ (128 + c % 64) ∷ []; is = four_bytes c four; lead = omega arith; top = omega (arith, high); continues = (continued (c / 4096), (continued (c / 64), (continued c, tt))) })
  ]
]

scalar_most : (c : ℕ) → IsScalar c → c < 1114112
scalar_most c scalar = elim (scalar_cases c scalar) [ inl low ↦ omega (arith, low) | inr high ↦ high.1 ]

-- the kinds of bytes that are not of ASCII
kinds_wide : (bytes : List ℕ) → AllByRecursion Continues bytes → map (kind_of lines) bytes ≡ replicate (length bytes) 0
kinds_wide [] wide = refl
kinds_wide (b ∷ bytes) wide = ap₂ ◌∷◌ (wide_kind b wide.0.0) (kinds_wide bytes wide.1)

wide_kinds : (c : ℕ) → 128 ≤ c → IsScalar c → map (kind_of lines) (encode c) ≡ replicate (len_utf8 c) 0
wide_kinds c wide scalar =
    let w = is_wide c wide (scalar_most c scalar) in
    ap (map (kind_of lines)) w.is ∙ ap₂ ◌∷◌ (wide_kind w.first (omega (arith, w.lead))) (kinds_wide w.more w.continues)
    ∙ ap (λ n. replicate n 0) (sym (ap length w.is) ∙ length-encode c)

-- each byte of a text is below 256
all_from : (P : ℕ → Type 0) (xs : List ℕ) → AllByRecursion P xs → All P xs
all_from P [] h = All-nil P
all_from P (x ∷ xs) h = All-cons P x xs h.0 (all_from P xs h.1)

below : (bytes : List ℕ) → AllByRecursion Continues bytes → AllByRecursion (λ b. b < 256) bytes
below [] h = tt
below (b ∷ bytes) h = (omega (arith, h.0.1), below bytes h.1)

pub char_below : (c : ℕ) → IsScalar c → All (λ b. b < 256) (encode c)
char_below c scalar = elim (cases_lt c 128) [
  | inl small ↦ subst (All (λ b. b < 256)) (sym (encode_ascii c small)) (All-cons (λ b. b < 256) c [] (omega (arith, small)) (All-nil _))
  | inr wide ↦ (
      let w = is_wide c wide (scalar_most c scalar) in
      subst (All (λ b. b < 256)) (sym w.is) (All-cons (λ b. b < 256) w.first w.more w.top (all_from (λ b. b < 256) w.more (below w.more w.continues))))
]

pub text_below : (cs : List ℕ) → scalars cs ≡ true → All (λ b. b < 256) (encodes cs)
text_below [] h = All-nil (λ b. b < 256)
text_below (c ∷ cs) h =
    let both = and_parts (scalar c) _ h in
    All-append (λ b. b < 256) (encode c) (encodes cs) (char_below c both.0) (text_below cs both.1)

-- a condition that is the same, and what follows from it
cond_same : {A : Type 0} (a b : Bool) (x y z : A) → a ≡ b → (a ≡ true → x ≡ y) → cond a x z ≡ cond b y z
cond_same a b x y z same h = subst (λ t. cond a x z ≡ cond t y z) same (go a h)
  where
    go : (t : Bool) → (t ≡ true → x ≡ y) → cond t x z ≡ cond t y z
    go true f = f refl
    go false f = refl

module _ (s : CharacterSets) where
  -- ---- Alike characters and texts.

  pub same_len : (c d : ℕ) → AreAlike s c d → len_utf8 c ≡ len_utf8 d
  same_len c d (inl same) = ap len_utf8 same
  same_len c d (inr kind) = kind.len

  same_kinds : (c d : ℕ) → IsScalar c → IsScalar d → AreAlike s c d → map (kind_of lines) (encode c) ≡ map (kind_of lines) (encode d)
  same_kinds c d one other (inl same) = ap (λ x. map (kind_of lines) (encode x)) same
  same_kinds c d one other (inr kind) = wide_kinds c kind.wide.0 one ∙ ap (λ n. replicate n 0) kind.len ∙ sym (wide_kinds d kind.wide.1 other)

  text_kinds : (cs ds : List ℕ) → scalars cs ≡ true → scalars ds ≡ true → AreAlikeTexts s cs ds → map (kind_of lines) (encodes cs) ≡ map (kind_of lines) (encodes ds)
  text_kinds [] [] one other alike = refl
  text_kinds [] (d ∷ ds) one other alike = absurd alike
  text_kinds (c ∷ cs) [] one other alike = absurd alike
  text_kinds (c ∷ cs) (d ∷ ds) one other alike =
      let this = and_parts (scalar c) _ one in
      let that = and_parts (scalar d) _ other in
      map-append (kind_of lines) (encode c) (encodes cs) ∙ ap₂ ◌++◌ (same_kinds c d this.0 that.0 alike.0) (text_kinds cs ds this.1 that.1 alike.1)
      ∙ sym (map-append (kind_of lines) (encode d) (encodes ds))

  -- Whether a text begins with one of which each character is alike to itself alone is the same for
  -- alike texts.
  Begins : (ls cs ds : List ℕ) → Type 0
  Begins ls cs ds =
      ((c : List ℕ) × (d : List ℕ) × (encodes cs ≡ encodes ls ++ encodes c) × (encodes ds ≡ encodes ls ++ encodes d) × (scalars c ≡ true) × (scalars d ≡ true) × AreAlikeTexts s c d)
      ⊎ (((rest : List ℕ) → encodes cs ≡ encodes ls ++ rest → ⊥) × ((rest : List ℕ) → encodes ds ≡ encodes ls ++ rest → ⊥))

  no_bytes : (l : ℕ) (ls rest : List ℕ) → [] ≡ encodes (l ∷ ls) ++ rest → ⊥
  no_bytes l ls rest e =
      omega (arith, ap length e, length-append (encodes (l ∷ ls)) rest, length-append (encode l) (encodes ls), length-encode l, len_utf8_bounds l)

  begins : (ls cs ds : List ℕ) → AllByRecursion (IsAlone s) ls → scalars cs ≡ true → scalars ds ≡ true → AreAlikeTexts s cs ds → Begins ls cs ds
  unfolding Begins
  begins [] cs ds alone one other alike = inl (cs, ds, refl, refl, one, other, alike)
  begins (l ∷ ls) [] [] alone one other alike = inr (no_bytes l ls, no_bytes l ls)
  begins (l ∷ ls) [] (d ∷ ds) alone one other alike = absurd alike
  begins (l ∷ ls) (c ∷ cs) [] alone one other alike = absurd alike
  begins (l ∷ ls) (c ∷ cs) (d ∷ ds) alone one other alike =
      elim (cases_eq l c) [
        | inl same ↦ (
            let also : l ≡ d = alone.0 d (inl (subst (λ x. AreAlike s x d) (sym same) alike.0)) in
            elim (begins ls cs ds alone.1 (and_parts (scalar c) _ one).1 (and_parts (scalar d) _ other).1 alike.1) [
              | inl both ↦ inl (
                both.0,
                both.1,
                ap₂ (λ x t. encode x ++ t) (sym same) both.2 ∙ sym (append_assoc (encode l) (encodes ls) (encodes both.0)),
                ap₂ (λ x t. encode x ++ t) (sym also) both.3 ∙ sym (append_assoc (encode l) (encodes ls) (encodes both.1)),
                both.4,
                both.5,
                both.6,
              )
              | inr none ↦ inr (
                (λ rest e. none.0 rest (encode_same c l (encodes cs) (encodes ls ++ rest) (e ∙ append_assoc (encode l) (encodes ls) rest)).1),
                (λ rest e. none.1 rest (encode_same d l (encodes ds) (encodes ls ++ rest) (e ∙ append_assoc (encode l) (encodes ls) rest)).1),
              )
            ])
        | inr apart ↦ inr (
          (λ rest e. apart (sym (encode_same c l (encodes cs) (encodes ls ++ rest) (e ∙ append_assoc (encode l) (encodes ls) rest)).0)),
          (λ rest e.
              let last = (encode_same d l (encodes ds) (encodes ls ++ rest) (e ∙ append_assoc (encode l) (encodes ls) rest)).0 in
              apart (alone.0 c (inr (subst (λ x. AreAlike s c x) last alike.0)))),
        )
      ]

  module _ (x y : List ℕ) (kinds : map (kind_of lines) x ≡ map (kind_of lines) y) where
    lengths : length x ≡ length y
    lengths = sym (length-map x (kind_of lines)) ∙ ap length kinds ∙ length-map y (kind_of lines)

    -- The texts are alike from a position on.
    record At (i : ℕ) : Type 0 where
      cs : List ℕ
      ds : List ℕ
      first : drop i x ≡ encodes cs
      second : drop i y ≡ encodes ds
      scalar : (scalars cs ≡ true) × (scalars ds ≡ true)
      alike : AreAlikeTexts s cs ds

    -- ---- What assertions see.

    kind_after : (i : ℕ) → kind_beside lines (slice_get x i) ≡ kind_beside lines (slice_get y i)
    kind_after i = sym (slice_get-map (kind_of lines) x i) ∙ ap (λ zs. slice_get zs i) kinds ∙ slice_get-map (kind_of lines) y i

    kind_before : (i : ℕ) → kind_beside lines (byte_before x i) ≡ kind_beside lines (byte_before y i)
    kind_before zero = ap (kind_beside lines) (byte_before-zero x ∙ sym (byte_before-zero y))
    kind_before (suc i) =
        let one : suc i ≡ i + 1 = omega arith in
        ap (λ n. kind_beside lines (byte_before x n)) one ∙ ap (kind_beside lines) (byte_before-add-one x i) ∙ kind_after i
        ∙ sym (ap (kind_beside lines) (byte_before-add-one y i)) ∙ sym (ap (λ n. kind_beside lines (byte_before y n)) one)

    by_kinds : (l : look_type.Look) → sees lines l ≡ true → (hay : List ℕ) (i : ℕ) →
        holds l hay i
        ≡ holds_between l (record { byte = kind_beside lines (byte_before hay i); char = kind_beside lines (byte_before hay i) })
        (record { byte = kind_beside lines (slice_get hay i); char = kind_beside lines (slice_get hay i) })
    unfolding holds
    by_kinds l asks hay i =
        holds_between_bytes l (byte_before hay i) (slice_get hay i) _ _ (byte_before hay i) (slice_get hay i) (not_unicode lines l asks refl)
        ∙ holds_between-kinds lines l (byte_before hay i) (slice_get hay i) asks (λ words. absurd cc)

    same_look : (l : look_type.Look) → sees lines l ≡ true → (i : ℕ) → holds l x i ≡ holds l y i
    same_look l asks i =
        by_kinds l asks x i
        ∙ ap₂ (λ a b. holds_between l (record { byte = a; char = a }) (record { byte = b; char = b })) (kind_before i) (kind_after i)
        ∙ sym (by_kinds l asks y i)

    -- ---- What a part of a pattern does.

    ended : (hay : List ℕ) (i : ℕ) → drop i hay ≡ [] → length hay ≤ i
    ended hay i e = omega (arith, ap length e, length-drop i hay)

    next_at : (i c d : ℕ) (cs ds : List ℕ) → drop i x ≡ encodes (c ∷ cs) → drop i y ≡ encodes (d ∷ ds) → scalars (c ∷ cs) ≡ true → scalars (d ∷ ds) ≡ true
        → AreAlikeTexts s (c ∷ cs) (d ∷ ds) → At (i + len_utf8 c)
    next_at i c d cs ds first second one other alike = record {
      cs = cs;
      ds = ds;
      first = drop_past_char x (encodes cs) i c first;
      second = ap (λ n. drop (i + n) y) (same_len c d alike.0) ∙ drop_past_char y (encodes ds) i d second;
      scalar = ((and_parts (scalar c) _ one).1, (and_parts (scalar d) _ other).1);
      alike = alike.1;
    }

    first_byte : (hay : List ℕ) (i c : ℕ) (cs : List ℕ) → drop i hay ≡ encodes (c ∷ cs) → slice_get hay i ≡ slice_get (encode c ++ encodes cs) 0
    first_byte hay i c cs e = sym (slice_get-drop hay i) ∙ ap (λ zs. slice_get zs 0) e

    not_in_ascii : (rs : List (ℕ × ℕ)) → ((b : ℕ) → in_ranges rs b ≡ true → b < 128) → (hay : List ℕ) (i c : ℕ) (cs : List ℕ) → drop i hay ≡ encodes (c ∷ cs) →
        128 ≤ c → IsScalar c → is_some_and (slice_get hay i) (in_ranges rs) ≡ false
    not_in_ascii rs ascii hay i c cs e wide scalar =
        let w = is_wide c wide (scalar_most c scalar) in
        ap (λ o. is_some_and o (in_ranges rs)) (first_byte hay i c cs e ∙ ap (λ bytes. slice_get (bytes ++ encodes cs) 0) w.is)
        ∙ false_from_ne_true _ (λ has. omega (arith, ascii w.first has, w.lead))

    module _ (k m : Rest) (h : (i : ℕ) → At i → k i ≡ m i) (i : ℕ) where
      one_byte : (rs : List (ℕ × ℕ)) → ((b : ℕ) → in_ranges rs b ≡ true → b < 128) → (cs ds : List ℕ) → drop i x ≡ encodes cs → drop i y ≡ encodes ds →
          scalars cs ≡ true → scalars ds ≡ true → AreAlikeTexts s cs ds → attempt x (byte_in rs) k i ≡ attempt y (byte_in rs) m i
      unfolding attempt
      one_byte rs ascii [] [] first second one other alike =
          rw (slice_get_past x i (ended x i first), slice_get_past y i (ended y i second)) refl
      one_byte rs ascii [] (d ∷ ds) first second one other alike = absurd alike
      one_byte rs ascii (c ∷ cs) [] first second one other alike = absurd alike
      one_byte rs ascii (c ∷ cs) (d ∷ ds) first second one other alike =
          let this = (and_parts (scalar c) _ one).0 in
          let that = (and_parts (scalar d) _ other).0 in
          elim (cases_lt c 128) [
            | inl small ↦ (
                let same : c ≡ d = elim alike.0 [ inl e ↦ e | inr kind ↦ absurd (omega (arith, small, kind.wide.0)) ] in
                let here : slice_get x i ≡ Some c = first_byte x i c cs first ∙ ap (λ bytes. slice_get (bytes ++ encodes cs) 0) (encode_ascii c small) in
                let there : slice_get y i ≡ Some c =
                first_byte y i d ds second ∙ ap (λ e. slice_get (encode e ++ encodes ds) 0) (sym same) ∙ ap (λ bytes. slice_get (bytes ++ encodes ds) 0) (encode_ascii c small) in
                rw (here, there) (cond_same (in_ranges rs c) (in_ranges rs c) (k (i + 1)) (m (i + 1)) None refl
                (λ has. subst (λ n. k (i + n) ≡ m (i + n)) (len_utf8_ascii c small) (h (i + len_utf8 c) (next_at i c d cs ds first second one other alike)))))
            | inr wide ↦ (
                let also : 128 ≤ d = elim alike.0 [ inl e ↦ omega (arith, wide, e) | inr kind ↦ kind.wide.1 ] in
                rw (not_in_ascii rs ascii x i c cs first wide this, not_in_ascii rs ascii y i d ds second also that) refl)
          ]

      one_char : (rs : List (ℕ × ℕ)) → ((c d : ℕ) → AreAlike s c d → in_ranges rs c ≡ in_ranges rs d) → (cs ds : List ℕ) → drop i x ≡ encodes cs → drop i y ≡ encodes ds →
          scalars cs ≡ true → scalars ds ≡ true → AreAlikeTexts s cs ds → attempt x (char_in rs) k i ≡ attempt y (char_in rs) m i
      unfolding attempt
      one_char rs same [] [] first second one other alike =
          rw (char_at_past x i (ended x i first), char_at_past y i (ended y i second)) refl
      one_char rs same [] (d ∷ ds) first second one other alike = absurd alike
      one_char rs same (c ∷ cs) [] first second one other alike = absurd alike
      one_char rs same (c ∷ cs) (d ∷ ds) first second one other alike =
          let this = (and_parts (scalar c) _ one).0 in
          let that = (and_parts (scalar d) _ other).0 in
          rw (char_at_from x i c (encodes cs) this first, char_at_from y i d (encodes ds) that second)
          (cond_same (in_ranges rs c) (in_ranges rs d) (k (i + len_utf8 c)) (m (i + len_utf8 d)) None (same c d alike.0)
          (λ has. h (i + len_utf8 c) (next_at i c d cs ds first second one other alike) ∙ ap (λ n. m (i + n)) (same_len c d alike.0)))

      some_bytes : (bs ls : List ℕ) → encodes ls ≡ bs → AllByRecursion (IsAlone s) ls → At i → attempt x (literal bs) k i ≡ attempt y (literal bs) m i
      unfolding attempt Begins
      some_bytes bs ls is alone at = elim (begins ls at.cs at.ds alone at.scalar.0 at.scalar.1 at.alike) [
        | inl both ↦ (
            let one : drop i x ≡ bs ++ encodes both.0 = at.first ∙ both.2 ∙ ap (λ t. t ++ encodes both.0) is in
            let other : drop i y ≡ bs ++ encodes both.1 = at.second ∙ both.3 ∙ ap (λ t. t ++ encodes both.1) is in
            rw (has_bytes_at_from x i bs (encodes both.0) one, has_bytes_at_from y i bs (encodes both.1) other)
            (h (i + length bs) (record {
              cs = both.0;
              ds = both.1;
              first = sym (drop-drop (length bs) i x) ∙ ap (drop (length bs)) one ∙ drop_at bs (encodes both.0) (length bs) refl;
              second = sym (drop-drop (length bs) i y) ∙ ap (drop (length bs)) other ∙ drop_at bs (encodes both.1) (length bs) refl;
              scalar = (both.4, both.5);
              alike = both.6;
            })))
        | inr none ↦ (
            let not_here : has_bytes_at x i bs ≡ false =
            false_from_ne_true _ (λ has. none.0 _ (sym at.first ∙ has_bytes_at_parts x i bs has ∙ ap (λ t. t ++ drop (i + length bs) x) (sym is))) in
            let also : has_bytes_at y i bs ≡ false =
            false_from_ne_true _ (λ has. none.1 _ (sym at.second ∙ has_bytes_at_parts y i bs has ∙ ap (λ t. t ++ drop (i + length bs) y) (sym is))) in
            rw (not_here, also) refl)
      ]

    -- further rounds of a loop
    same_rounds : (greedy : Bool) (a b : Rest → Rest) → ((k m : Rest) → ((i : ℕ) → At i → k i ≡ m i) → (i : ℕ) → At i → a k i ≡ b m i) →
        (k m : Rest) → ((i : ℕ) → At i → k i ≡ m i) → (n j : ℕ) → At j → rounds greedy a k n j ≡ rounds greedy b m n j
    unfolding rounds
    same_rounds greedy a b body k m h zero j at = h j at
    same_rounds greedy a b body k m h (suc n) j at =
        ap₂ (prefer greedy)
        (body (λ l. cond (nat_lt j l) (rounds greedy a k n l) None) (λ l. cond (nat_lt j l) (rounds greedy b m n l) None)
        (λ l then. cond_same (nat_lt j l) (nat_lt j l) _ _ None refl (λ _. same_rounds greedy a b body k m h n l then)) j at)
        (h j at)

    -- a part goes the same way in alike texts
    attempt_same : (re : Re) → IsBlind s re → (k m : Rest) → ((i : ℕ) → At i → k i ≡ m i) → (i : ℕ) → At i → attempt x re k i ≡ attempt y re m i
    unfolding attempt
    attempt_same empty blind k m h i at = h i at
    attempt_same (literal bs) blind k m h i at = some_bytes k m h i bs blind.0 blind.2 blind.3 at
    attempt_same (byte_in rs) blind k m h i at = one_byte k m h i rs blind at.cs at.ds at.first at.second at.scalar.0 at.scalar.1 at.alike
    attempt_same (char_in rs) blind k m h i at = one_char k m h i rs blind at.cs at.ds at.first at.second at.scalar.0 at.scalar.1 at.alike
    attempt_same (look l) blind k m h i at = cond_same (holds l x i) (holds l y i) (k i) (m i) None (same_look l blind i) (λ _. h i at)
    attempt_same (cat a b) blind k m h i at = attempt_same a blind.0 (attempt x b k) (attempt y b m) (attempt_same b blind.1 k m h) i at
    attempt_same (alt a b) blind k m h i at = ap₂ option_or (attempt_same a blind.0 k m h i at) (attempt_same b blind.1 k m h i at)
    attempt_same (group n a) blind k m h i at =
        ap (write (2 * n) i) (attempt_same a blind (λ j. write (2 * n + 1) j (k j)) (λ j. write (2 * n + 1) j (m j)) (λ j then. ap (write (2 * n + 1) j) (h j then)) i at)
    attempt_same (plus greedy a) blind k m h i at =
        attempt_same a blind (λ j. cond (nat_lt i j) (more_rounds x greedy (attempt x a) k j) (k j)) (λ j. cond (nat_lt i j) (more_rounds y greedy (attempt y a) m j) (m j))
        (λ j then. both (nat_lt i j) _ _ (k j) (m j)
        (same_rounds greedy (attempt x a) (attempt y a) (attempt_same a blind) k m h (length x - j) j then ∙ ap (λ n. rounds greedy (attempt y a) m (n - j) j) lengths) (h j then)) i at
      where
        both : {A : Type 0} (b : Bool) (p q u v : A) → p ≡ q → u ≡ v → cond b p u ≡ cond b q v
        both true p q u v e f = e
        both false p q u v e f = f

  -- ---- Where matches may begin.

  starts : (cs : List ℕ) → scalars cs ≡ true → is_boundary (encodes cs) 0 ≡ true
  unfolding is_boundary
  starts [] h = refl
  starts (c ∷ cs) h = elim (cases_lt c 128) [
    | inl small ↦ rw (encode_ascii c small, lt-leb 128 c small) refl
    | inr wide ↦ (
        let w = is_wide c wide (scalar_most c (and_parts (scalar c) _ h).0) in
        rw (w.is, le-leb 128 w.first (omega (arith, w.lead)), lt-leb w.first 191 (omega (arith, w.lead))) refl)
  ]

  -- a text is not alike inside a character, and no match begins there
  inside : (c i : ℕ) (rest : List ℕ) → IsScalar c → 0 < i → i < len_utf8 c → is_boundary (encode c ++ rest) i ≡ false
  unfolding is_boundary
  inside c zero rest scalar some within = absurd (omega (arith, some))
  inside c (suc i) rest scalar some within = elim (cases_lt c 128) [
    | inl small ↦ absurd (omega (arith, within, len_utf8_ascii c small))
    | inr wide ↦ (
        let w = is_wide c wide (scalar_most c scalar) in
        let short : i < length w.more = omega (arith, within, length-encode c, ap length w.is) in
        let there : slice_get (w.more ++ rest) i ≡ Some (get_or w.more i 0) = get_kept w.more rest _ i (slice_get-get_or w.more i 0 short) in
        let continues = all_at_place Continues w.more i (get_or w.more i 0) w.continues (slice_get-get_or w.more i 0 short) in
        rw (w.is, there, le-leb 128 _ continues.0, le-leb (get_or w.more i 0) 191 (omega (arith, continues.1))) refl)
  ]

  behind : (xs ys : List ℕ) (m : ℕ) → drop (length xs + m) (xs ++ ys) ≡ drop m ys
  behind xs ys m = sym (drop-drop m (length xs) (xs ++ ys)) ∙ ap (drop m) (drop_at xs ys (length xs) refl)

  Places : (x y : List ℕ) (i : ℕ) → Type 0
  Places x y i =
      ((cs : List ℕ) × (ds : List ℕ) × (drop i x ≡ encodes cs) × (drop i y ≡ encodes ds) × (scalars cs ≡ true) × (scalars ds ≡ true) × AreAlikeTexts s cs ds)
      ⊎ ((is_boundary x i ≡ false) × (is_boundary y i ≡ false))

  places : (cs ds : List ℕ) → scalars cs ≡ true → scalars ds ≡ true → AreAlikeTexts s cs ds → (i : ℕ) → Places (encodes cs) (encodes ds) i
  unfolding Places
  places cs ds one other alike zero = inl (cs, ds, refl, refl, one, other, alike)
  places [] [] one other alike (suc i) = inl ([], [], refl, refl, refl, refl, tt)
  places [] (d ∷ ds) one other alike (suc i) = absurd alike
  places (c ∷ cs) [] one other alike (suc i) = absurd alike
  places (c ∷ cs) (d ∷ ds) one other alike (suc i) =
      let this = and_parts (scalar c) _ one in
      let that = and_parts (scalar d) _ other in
      let len = same_len c d alike.0 in
      elim (cases_lt (suc i) (len_utf8 c)) [
        | inl within ↦ inr (inside c (suc i) (encodes cs) this.0 (omega arith) within, inside d (suc i) (encodes ds) that.0 (omega arith) (omega (arith, within, len)))
        | inr past ↦ (
            let m = suc i - len_utf8 c in
            let first : suc i ≡ length (encode c) + m = omega (arith, past, length-encode c) in
            let second : suc i ≡ length (encode d) + m = omega (arith, past, length-encode d, len) in
            let one_rest : drop (suc i) (encode c ++ encodes cs) ≡ drop m (encodes cs) = ap (λ n. drop n (encode c ++ encodes cs)) first ∙ behind (encode c) (encodes cs) m in
            let other_rest : drop (suc i) (encode d ++ encodes ds) ≡ drop m (encodes ds) = ap (λ n. drop n (encode d ++ encodes ds)) second ∙ behind (encode d) (encodes ds) m in
            elim (places cs ds this.1 that.1 alike.1 m) [
              | inl at ↦ inl (at.0, at.1, one_rest ∙ at.2, other_rest ∙ at.3, at.4, at.5, at.6)
              | inr none ↦ inr (
                same_boundary (encode c ++ encodes cs) (suc i) (drop m (encodes cs)) one_rest ∙ sym (same_boundary (encodes cs) m _ refl) ∙ none.0,
                same_boundary (encode d ++ encodes ds) (suc i) (drop m (encodes ds)) other_rest ∙ sym (same_boundary (encodes ds) m _ refl) ∙ none.1,
              )
            ])
      ]

  module _ (re : Re) (blind : IsBlind s re) (cs ds : List ℕ) (one : scalars cs ≡ true) (other : scalars ds ≡ true) (alike : AreAlikeTexts s cs ds) where
    try : (i : ℕ) → cond (is_boundary (encodes cs) i) (attempt (encodes cs) re accept i) None ≡ cond (is_boundary (encodes ds) i) (attempt (encodes ds) re accept i) None
    unfolding Places
    try i = elim (places cs ds one other alike i) [
      | inl at ↦
          cond_same (is_boundary (encodes cs) i) (is_boundary (encodes ds) i) _ _ None
          (same_boundary (encodes cs) i (encodes at.0) at.2 ∙ starts at.0 at.4 ∙ sym (same_boundary (encodes ds) i (encodes at.1) at.3 ∙ starts at.1 at.5))
          (λ _. attempt_same (encodes cs) (encodes ds) (text_kinds cs ds one other alike) re blind accept accept (λ j then. refl) i
          (record { cs = at.0; ds = at.1; first = at.2; second = at.3; scalar = (at.4, at.5); alike = at.6 }))
      | inr none ↦ rw (none.0, none.1) refl
    ]

    search_same : find_str re (encodes cs) 0 ≡ find_str re (encodes ds) 0
    unfolding find_str
    search_same =
        first_between_cong _ _ 0 (length (encodes cs)) (λ i from to. try i)
        ∙ ap (first_between (λ i. cond (is_boundary (encodes ds) i) (attempt (encodes ds) re accept i) None) 0) (lengths (encodes cs) (encodes ds) (text_kinds cs ds one other alike))

module _ (s : CharacterSets) (hir : Hir) (names : Names) (p : List ℕ) (reads : Reads default_config (anchored_pattern p) hir names) (blind : IsBlind s (meaning hir)) where
  -- the pattern finds what its tree finds
  by_tree : (o : Option (Nested Re × Names)) → read default_config (chars (anchored_pattern p)) ≡ o → (text : List ℕ) → All (λ b. b < 256) text →
      is_some (find_str (meaning hir) text 0) ≡ finds p text
  unfolding Reads pattern_reading
  by_tree None e text bytes = absurd (rw e at reads)
  by_tree (Some found) e text bytes =
      let same = rw e at reads in
      sym (is_some-option_map spans _) ∙ ap is_some (find_str_alike (meaning hir) found.0.value same.1 text bytes 0) ∙ is_some-option_map spans _ ∙ rw e refl

  pub cannot_tell : CannotTell s p
  cannot_tell cs ds one other alike =
      sym (by_tree _ refl (encodes cs) (text_below cs one)) ∙ ap is_some (search_same s (meaning hir) blind cs ds one other alike) ∙ by_tree _ refl (encodes ds) (text_below ds other)
