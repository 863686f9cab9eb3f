-- First mentions: each name once, one more mention, and those of matchers.
use Rattle.std.proofs.Common.{◌≡◌, ℕ, List, [], ◌∷◌, ◌++◌, refl, sym, ap, ◌∙◌, true}
use Rattle.std.proofs.Common.{false, cond, map, fold}
use Rattle.std.proofs.Common.{inl, inr}
use Rattle.std.specs.List.{list_any}
use Rattle.std.proofs.lemmas.Bool.{cases_Bool}
use Rattle.std.proofs.lemmas.List.{map_push}
use Rattle.std.proofs.lemmas.List.Folds.{fold-map}
use Rattle.am_universe.specs.Text.{same_text}
use Rattle.am_universe.proofs.UniverseLemmas.{list_any-map}
use Rattle.am_labels.specs.Matcher.{Matcher}
use Rattle.am_complete.specs.declared.origin.Origin.{Origin}
use Rattle.am_report_texts.specs.EachOnce.{with_text, each_once}
use Rattle.am_unseen.specs.Search.{Mentions, mentioned, after_mention}
use Rattle.am_unseen.specs.UnseenNames.{Mention, mention_of, mentioned_by}
use Rattle.am_unseen.specs.UnseenNames.{with_mention, first_mentions}

-- ---- Each name once.

once_more : (firsts : List Mention) (m : Mention)
    → map (λ first. first.1) (with_mention firsts m)
    ≡ with_text (map (λ first. first.1) firsts) m.1
once_more firsts m =
    let known = list_any-map (same_text m.1) (λ (first : Mention). first.1) firsts in
    elim (cases_Bool (list_any (λ (first : Mention). same_text m.1 first.1) firsts)) [
      | inl there ↦ rw (there, known ∙ there) refl
      | inr new ↦
          rw (new, known ∙ new) (map_push (λ (first : Mention). first.1) firsts m)
    ]

names_after : (firsts all : List Mention)
    → map (λ first. first.1) (fold with_mention firsts all)
    ≡ fold with_text (map (λ first. first.1) firsts) (map (λ m. m.1) all)
names_after firsts [] = refl
names_after firsts (m ∷ all) =
    names_after (with_mention firsts m) all
    ∙ ap (λ names. fold with_text names (map (λ (n : Mention). n.1) all)) (once_more firsts m)

pub names_once : (all : List Mention)
    → map (λ first. first.1) (first_mentions all) ≡ each_once (map (λ m. m.1) all)
names_once all = names_after [] all

-- ---- What is kept.

-- the names that are kept are those of the first mentions
module _ (s : Mentions) (is : s.names ≡ map (λ first. first.1) s.firsts) (m : Mention) where
  known : list_any (same_text m.1) s.names
      ≡ list_any (λ (first : Mention). same_text m.1 first.1) s.firsts
  known = ap (list_any (same_text m.1)) is ∙ list_any-map (same_text m.1) (λ (first : Mention). first.1) s.firsts

  firsts_more : (mentioned s m).firsts ≡ with_mention s.firsts m
  firsts_more = elim (cases_Bool (list_any (same_text m.1) s.names)) [
    | inl there ↦ rw (there, sym known ∙ there) refl
    | inr new ↦ rw (new, sym known ∙ new) refl
  ]

  kept_more : (mentioned s m).names ≡ map (λ first. first.1) (mentioned s m).firsts
  kept_more = elim (cases_Bool (list_any (same_text m.1) s.names)) [
    | inl there ↦ rw there is
    | inr new ↦
        rw new (ap (λ names. names ++ m.1 ∷ []) is
        ∙ sym (map_push (λ (first : Mention). first.1) s.firsts m))
  ]

-- a new name, and a known one
module _ (s : Mentions) (m : Mention) (names : List (List ℕ)) (firsts : List Mention)
    (named : names ≡ with_text s.names m.1) where
  pub new_name : list_any (same_text m.1) s.names ≡ false → firsts ≡ s.firsts ++ m ∷ []
      → record { names = names; firsts = firsts } ≡ mentioned s m
  new_name new more =
      let all : names ≡ s.names ++ m.1 ∷ [] =
      named ∙ ap (λ b. cond b s.names (s.names ++ m.1 ∷ [])) new in
      (λ i. record { names = all i; firsts = more i })
      ∙ sym (ap (λ b. cond b s (record { names = s.names ++ m.1 ∷ []; firsts = s.firsts ++ m ∷ [] })) new)

  pub known_name : list_any (same_text m.1) s.names ≡ true → firsts ≡ s.firsts
      → record { names = names; firsts = firsts } ≡ mentioned s m
  known_name there same =
      let all : names ≡ s.names = named ∙ ap (λ b. cond b s.names (s.names ++ m.1 ∷ [])) there in
      (λ i. record { names = all i; firsts = same i })
      ∙ sym (ap (λ b. cond b s (record { names = s.names ++ m.1 ∷ []; firsts = s.firsts ++ m ∷ [] })) there)

firsts_after : (s : Mentions) (all : List Mention) → s.names ≡ map (λ first. first.1) s.firsts
    → (fold mentioned s all).firsts ≡ fold with_mention s.firsts all
firsts_after s [] is = refl
firsts_after s (m ∷ all) is =
    firsts_after (mentioned s m) all (kept_more s is m)
    ∙ ap (λ firsts. fold with_mention firsts all) (firsts_more s is m)

pub firsts_are : (all : List Mention)
    → (fold mentioned (record { names = []; firsts = [] }) all).firsts ≡ first_mentions all
firsts_are all = firsts_after (record { names = []; firsts = [] }) all refl

-- ---- Of matchers.

pub by_matchers : (s : Mentions) (placed : List (Origin × Matcher))
    → fold after_mention s placed ≡ fold mentioned s (mentioned_by placed)
by_matchers s placed = sym (fold-map mentioned mention_of s placed)
