-- What is before an end in some texts.
use Rattle.std.proofs.Common.{◌≡◌, ◌↔◌, ℕ, List, [], ◌∷◌, ◌++◌, length, map, Bor, Some, slice_get, Bool, true, false, ap, sym, ◌∙◌, subst, refl, arith, append_assoc, length-append}
use Rattle.std.specs.List.{list_any, filter}
use Rattle.std.proofs.lemmas.Bool.{and_parts, or_parts, eqb-true, ltb-true}
use Rattle.std.proofs.lemmas.List.{append-nil, take_all, take_more, take_at, get_or_at}
use Rattle.std.proofs.lemmas.Grind.{common_steps}
use Rattle.am_universe.proofs.ListLemmas.{IsIn, IsIn-map, IsIn-unmap}
use Rattle.am_universe.proofs.Members.{at_in, in_at}
use Rattle.am_universe.proofs.UniverseLemmas.{list_any-map}
use Rattle.am_labels.proofs.Passing.{any_in, in_any, passes_from_kept, kept_from_passes}
use Rattle.am_classes.specs.Fronts.{ends_with, without_last, fronts_of, is_nothing}

-- A text that ends with a byte, and what is before the byte.
parts : (byte : ℕ) (text : List ℕ) → ends_with byte text ≡ true → without_last text ++ byte ∷ [] ≡ text
parts byte text ends = grind (arith, common_steps, and_parts, take_more, take_all, eqb-true, ltb-true)

ends : (front : List ℕ) (byte : ℕ) → ends_with byte (front ++ byte ∷ []) ≡ true
ends front byte = grind (arith, common_steps, length-append, get_or_at)

before : (front : List ℕ) (byte : ℕ) → without_last (front ++ byte ∷ []) ≡ front
before front byte = take_at front (byte ∷ []) _ (omega (arith, length-append front (byte ∷ [])))

-- What is before an end in one of the texts: it and the end are a text.
pub text_of_front : (texts : List (List ℕ)) (end front : List ℕ) → IsIn (fronts_of texts end) front
    → IsIn texts (front ++ end)
text_of_front texts [] front h = subst (IsIn texts) (sym (append-nil front)) h
text_of_front texts (byte ∷ end) front h =
    let shorter = fronts_of texts end in
    let whole = IsIn-unmap without_last (filter (ends_with byte) shorter) front h in
    let kept = passes_from_kept (ends_with byte) shorter whole.0 whole.1 in
    let is : whole.0 ≡ front ++ byte ∷ [] =
    sym (parts byte whole.0 kept.1) ∙ ap (λ f. f ++ byte ∷ []) whole.2 in
    subst (IsIn texts) (append_assoc front (byte ∷ []) end)
    (text_of_front texts end (front ++ byte ∷ []) (subst (IsIn shorter) is kept.0))

pub front_of_text : (texts : List (List ℕ)) (end front : List ℕ) → IsIn texts (front ++ end)
    → IsIn (fronts_of texts end) front
front_of_text texts [] front h = subst (IsIn texts) (append-nil front) h
front_of_text texts (byte ∷ end) front h =
    let shorter = fronts_of texts end in
    let whole = front_of_text texts end (front ++ byte ∷ [])
    (subst (IsIn texts) (sym (append_assoc front (byte ∷ []) end)) h) in
    let kept = kept_from_passes (ends_with byte) shorter (front ++ byte ∷ []) whole (ends front byte) in
    subst (IsIn (fronts_of texts (byte ∷ end))) (before front byte)
    (IsIn-map without_last (filter (ends_with byte) shorter) (front ++ byte ∷ []) kept)

nothing_is : (front : List ℕ) → is_nothing front ≡ true → front ≡ []
nothing_is [] e = refl
nothing_is (b ∷ front) e = absurd (omega (arith, eqb-true (length (b ∷ front)) 0 e))

-- One of the fronts is empty exactly if the end is one of the texts.
pub nothing_before : (fronts : List (Bor (List ℕ))) (texts : List (List ℕ)) (end : List ℕ)
    → map (λ f. f.now) fronts ≡ fronts_of texts end
    → (list_any (λ f. is_nothing f.now) fronts ≡ true) ↔ ((k : ℕ) × (slice_get texts k ≡ Some end))
nothing_before fronts texts end is =
    let same : list_any is_nothing (fronts_of texts end) ≡ list_any (λ (f : Bor (List ℕ)). is_nothing f.now) fronts =
    ap (list_any is_nothing) (sym is) ∙ list_any-map is_nothing (λ (f : Bor (List ℕ)). f.now) fronts in (
      λ found.
          let front = any_in is_nothing (fronts_of texts end) (same ∙ found) in
          let there = subst (IsIn (fronts_of texts end)) (nothing_is front.0 front.2) front.1 in
          at_in texts end (text_of_front texts end [] there),
      λ named.
          let there = front_of_text texts end [] (in_at texts named.0 end named.1) in
          sym same ∙ in_any is_nothing (fronts_of texts end) [] there refl,
    )

none_kept : {X : Type 0} (test : X → Bool) (xs : List X) → list_any test xs ≡ false
    → filter test xs ≡ []
none_kept test [] none = refl
none_kept test (x ∷ xs) none =
    let fails = or_parts (test x) (list_any test xs) none in rw fails.0 (none_kept test xs fails.1)

-- If none of the fronts ends with a byte, no text ends with it and the end.
pub none_before : (byte : ℕ) (fronts : List (Bor (List ℕ))) (texts : List (List ℕ)) (end : List ℕ)
    → map (λ f. f.now) fronts ≡ fronts_of texts end
    → list_any (λ f. ends_with byte f.now) fronts ≡ false → fronts_of texts (byte ∷ end) ≡ []
none_before byte fronts texts end is none =
    ap (map without_last) (none_kept (ends_with byte) (fronts_of texts end)
    (ap (list_any (ends_with byte)) (sym is)
    ∙ list_any-map (ends_with byte) (λ (f : Bor (List ℕ)). f.now) fronts ∙ none))
