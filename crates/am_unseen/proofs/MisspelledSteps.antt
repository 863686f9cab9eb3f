-- The values that are no alternatives, value by value, and an alternative that is told or not.
use Rattle.std.proofs.Common.{◌≡◌, ℕ, ◌+◌, ◌<◌, List, [], ◌∷◌, ◌++◌, sym, ap, ◌∙◌, Bool, true, refl, inl, inr, ◌&&◌}
use Rattle.std.proofs.Common.{false, not, Option, Some, None, is_some, option_map, cond}
use Rattle.std.proofs.Common.{length, get_or, take, map, Bor, append-nil}
use Rattle.std.specs.List.{list_any, flat_map}
use Rattle.std.proofs.lemmas.Bool.{and_left, and_right, and_from, cases_Bool}
use Rattle.std.proofs.lemmas.List.Elements.{filter_agree}
use Rattle.am_universe.specs.Text.{same_text}
use Rattle.am_labels.specs.declared.op.Op.TheVariants.{Equal}
use Rattle.am_labels.specs.Matcher.{Matcher, negates}
use Rattle.am_classes.specs.Named.{alternatives_of}
use Rattle.am_complete.specs.declared.origin.Origin.{Origin}
use Rattle.am_complete.specs.FoundState.{begins}
use Rattle.am_unseen.specs.Similar.{most_similar}
use Rattle.am_unseen.specs.Unseen.{UnseenMatcher, values_beside, meant, misspelled, misses}
use Rattle.am_unseen.specs.Unseen.{is_true_of_one, unseen_beside}
use Rattle.am_unseen.specs.Search.{placed_at}
use Rattle.std.proofs.lemmas.List.{map-append}
use Rattle.am_report_texts.specs.EachOnce.{each_once}
use Rattle.am_unseen.proofs.EachOnce.{there_once}

-- ---- The other values.

-- texts that are taken once leave the same values
pub beside_once : (texts values : List (List ℕ))
    → values_beside (each_once texts) values ≡ values_beside texts values
beside_once texts values =
    filter_agree (λ v. not (list_any (same_text v) (each_once texts)))
    (λ v. not (list_any (same_text v) texts)) (λ v. ap not (there_once texts v)) values

-- ---- An alternative.

module _ (values others : List (List ℕ)) (placed : Origin × Matcher) (text : List ℕ) where
  abbrev told : Bool → List UnseenMatcher
  told b = cond b (meant placed text (most_similar text others)) []

  pub empty_text : begins text ≡ false → [] ≡ misspelled values others placed text
  empty_text none =
      sym (ap told (and_left (begins text) (not (list_any (same_text text) values)) none))

  pub seen_text : list_any (same_text text) values ≡ true
      → [] ≡ misspelled values others placed text
  seen_text there =
      sym (ap told (and_right (begins text) (not (list_any (same_text text) values)) (ap not there)))

  pub told_text : (similar : Option (Bor (List ℕ))) → begins text ≡ true
      → list_any (same_text text) values ≡ false → is_some similar ≡ true
      → option_map (λ v. v.now) similar ≡ most_similar text others
      → record {
        origin = placed.0;
        matcher = record { name = placed.1.name; op = Equal; value = text };
        similar = option_map (λ v. v.now) similar;
      } ∷ [] ≡ misspelled values others placed text
  told_text None some none found is = absurd (cc)
  told_text (Some v) some none found is =
      ap (meant placed text) is
      ∙ sym (ap told (and_from (begins text) (not (list_any (same_text text) values)) some (ap not none)))

-- ---- At another origin.

module _ (origin : Origin) (name : List ℕ) (placed : Origin × Matcher) where
  abbrev moved : Origin × Matcher
  moved = (origin, record { name = name; op = placed.1.op; value = placed.1.value })

  meant_moved : (text : List ℕ) (similar : Option (List ℕ))
      → map (placed_at origin name) (meant placed text similar) ≡ meant moved text similar
  meant_moved text None = refl
  meant_moved text (Some value) = refl

  misspelled_moved : (values others texts : List (List ℕ))
      → map (placed_at origin name) (flat_map (misspelled values others placed) texts)
      ≡ flat_map (misspelled values others moved) texts
  misspelled_moved values others [] = refl
  misspelled_moved values others (text ∷ texts) =
      let b = begins text && not (list_any (same_text text) values) in
      let one : map (placed_at origin name) (misspelled values others placed text)
      ≡ misspelled values others moved text = elim (cases_Bool b) [
        | inl told ↦ rw told (meant_moved text (most_similar text others))
        | inr other ↦ rw other refl
      ] in
      map-append (placed_at origin name) (misspelled values others placed text)
      (flat_map (misspelled values others placed) texts)
      ∙ (λ i. one i ++ misspelled_moved values others texts i)

  -- what a matcher asks for is the same elsewhere
  pub unseen_moved : (values : List (List ℕ))
      → map (placed_at origin name) (unseen_beside values placed) ≡ unseen_beside values moved
  unseen_moved values = elim (cases_Bool (misses placed.1 values)) [
    | inl all ↦ rw all refl
    | inr some ↦
        let found = not (negates placed.1.op) && is_true_of_one placed.1 values in
        let texts = alternatives_of placed.1 in
        rw some (elim (cases_Bool found) [
          | inl there ↦ rw there (misspelled_moved values (values_beside texts values) texts)
          | inr none ↦ rw none refl
        ])
  ]
