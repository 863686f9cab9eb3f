-- Bytes that are enough to stand for all texts.
use Rattle.std.proofs.Common.{◌≡◌, ◌⊎◌, ◌+◌, ◌<◌, ℕ, true, List, [], ◌∷◌, length, chars, inl, inr, refl, sym, ap, ap₂, subst, ◌∙◌, length-append}
use Rattle.std.specs.List.{AllByRecursion, list_all}
use Rattle.std.proofs.lemmas.Bool.{and_from, and_parts}
use Rattle.std.proofs.lemmas.List.Folds.{list_all-append}
use Rattle.std.proofs.lemmas.Str.{chars-encodes, encodes-chars, length-encode, scalars-chars}
use lib.Utf8.{scalar, scalars, encode, encodes}
use Rattle.am_labels.specs.Pattern.{finds}
use Rattle.am_scan.specs.Characters.{AreAlikeTexts, CannotTell, HaveRepresentatives, IsAlone, Narrows}
use Rattle.am_scan.specs.Sight.{is_scanned, IsScanned}
use Rattle.am_scan.specs.declared.byte_set.ByteSet.{ByteSet}
use Rattle.am_scan.specs.declared.character_sets.CharacterSets.{CharacterSets}
use Rattle.am_scan.proofs.AlikeTexts.{same_len}
use Rattle.am_scan.proofs.Places.{all_at_place}
use Rattle.am_classes.specs.declared.alphabet.Alphabet.{Alphabet}
use Rattle.am_classes.specs.declared.alphabet.Alphabet.TheVariants.{Unicode, Ascii}
use Rattle.am_classes.specs.declared.tail.Tail.TheVariants.{Whole}
use Rattle.am_classes.specs.Alphabet.{has_byte, is_printable, IsOver}
use Rattle.am_classes.specs.Enough.{AreEnough}
use Rattle.am_classes.proofs.OverLemmas.{all_over_unicode}
use Rattle.am_classes.proofs.TailLemmas.{bytes_of_tail}
use Rattle.am_classes.proofs.Utf8Lemmas.{utf8_whole}

-- A text stands for itself.
pub own_bytes : (a : Alphabet) (named patterns : List (List ℕ)) (bytes : ByteSet)
    → ((text : List ℕ) → IsOver a text → IsScanned bytes text) → AreEnough a named patterns bytes
own_bytes a named patterns bytes all = λ text over. (
  text,
  over,
  all text over,
  record { len = refl; same = λ k n at is. refl; found = λ k p at. refl },
)

pub all_bytes : (named patterns : List (List ℕ)) (bytes : ByteSet)
    → ((b : ℕ) → b < 256 → is_scanned bytes b ≡ true) → AreEnough Unicode named patterns bytes
all_bytes named patterns bytes full = own_bytes Unicode named patterns bytes (λ text utf8.
    bytes_of_tail (has_byte Unicode) (is_scanned bytes) (λ b small yes. full b small) text Whole
    (utf8_whole (has_byte Unicode) text utf8 (all_over_unicode text)))

pub printable_bytes : (named patterns : List (List ℕ)) (bytes : ByteSet)
    → ((b : ℕ) → is_scanned bytes b ≡ is_printable b) → AreEnough Ascii named patterns bytes
printable_bytes named patterns bytes is = own_bytes Ascii named patterns bytes (λ text over.
    (λ i. list_all (λ b. is b i) text) ∙ over)

-- ---- Texts of alike characters.

-- a pattern that cannot tell texts apart still cannot when more is told apart
pub tell_narrowed : (s t : CharacterSets) → Narrows s t → (p : List ℕ) → CannotTell s p → CannotTell t p
tell_narrowed s t narrows p tell cs ds one other alike = tell cs ds one other (texts cs ds alike)
  where
    texts : (cs ds : List ℕ) → AreAlikeTexts t cs ds → AreAlikeTexts s cs ds
    texts [] [] alike = tt
    texts [] (d ∷ ds) alike = absurd alike
    texts (c ∷ cs) [] alike = absurd alike
    texts (c ∷ cs) (d ∷ ds) alike = (narrows c d alike.0, texts cs ds alike.1)

module _ (s : CharacterSets) where
  same_length : (cs ds : List ℕ) → AreAlikeTexts s cs ds → length (encodes cs) ≡ length (encodes ds)
  same_length [] [] alike = refl
  same_length [] (d ∷ ds) alike = absurd alike
  same_length (c ∷ cs) [] alike = absurd alike
  same_length (c ∷ cs) (d ∷ ds) (here, rest) =
      length-append (encode c) (encodes cs)
      ∙ ap₂ ◌+◌ (length-encode c ∙ same_len s c d here ∙ sym (length-encode d)) (same_length cs ds rest)
      ∙ sym (length-append (encode d) (encodes ds))

  alone_same : (cs ds ns : List ℕ) → AllByRecursion (IsAlone s) ns → (ns ≡ ds) ⊎ (ns ≡ cs)
      → AreAlikeTexts s cs ds → cs ≡ ds
  alone_same [] [] ns alone is alike = refl
  alone_same [] (d ∷ ds) ns alone is alike = absurd alike
  alone_same (c ∷ cs) [] ns alone is alike = absurd alike
  alone_same (c ∷ cs) (d ∷ ds) ns alone (inl is) alike =
      let own = subst (AllByRecursion (IsAlone s)) is alone in
      ap₂ ◌∷◌ (sym (own.0 c (inr alike.0))) (alone_same cs ds ds own.1 (inl refl) alike.1)
  alone_same (c ∷ cs) (d ∷ ds) ns alone (inr is) alike =
      let own = subst (AllByRecursion (IsAlone s)) is alone in
      ap₂ ◌∷◌ (own.0 d (inl alike.0)) (alone_same cs ds cs own.1 (inr refl) alike.1)

  module _ (bytes : ByteSet) (have : HaveRepresentatives s bytes) where
    like : (cs : List ℕ) → scalars cs ≡ true
        → (ds : List ℕ) × (scalars ds ≡ true) × AreAlikeTexts s cs ds × IsScanned bytes (encodes ds)
    like [] e = ([], refl, tt, refl)
    like (c ∷ cs) e =
        let both = and_parts (scalar c) (scalars cs) e in
        let d = have c both.0 in
        let rest = like cs both.1 in (
          d.0 ∷ rest.0,
          and_from (scalar d.0) (scalars rest.0) d.1 rest.1,
          (d.2, rest.2),
          list_all-append (is_scanned bytes) (encode d.0) (encodes rest.0)
              ∙ and_from _ _ d.3 rest.3,
        )

    -- if named texts stand by themselves, and patterns cannot tell alike texts apart
    pub enough : (named patterns : List (List ℕ))
        → AllByRecursion (λ text. AllByRecursion (IsAlone s) (chars text)) named
        → AllByRecursion (CannotTell s) patterns → AreEnough Unicode named patterns bytes
    enough named patterns alone tell = λ text utf8.
        let cs = chars text in
        let one = scalars-chars text utf8 in
        let is = encodes-chars text utf8 in
        let ds = like cs one in
        let x = encodes ds.0 in (
          x,
          (ds.0, (ds.1, refl)),
          ds.3,
          record {
            len = sym (same_length cs ds.0 ds.2) ∙ ap length is;
            same = λ k n at is_one.
                let own = all_at_place (λ text. AllByRecursion (IsAlone s) (chars text)) named k n alone at in
                let here : (chars n ≡ ds.0) ⊎ (chars n ≡ cs) = elim is_one [
                  | inl first ↦ inl (ap chars first ∙ chars-encodes ds.0 ds.1)
                  | inr second ↦ inr (ap chars second)
                ] in
                ap encodes (sym (alone_same cs ds.0 (chars n) own here ds.2)) ∙ is;
            found = λ k p at.
                sym (all_at_place (CannotTell s) patterns k p tell at cs ds.0 one ds.1 ds.2)
                ∙ ap (λ t. finds p t) is;
          },
        )
