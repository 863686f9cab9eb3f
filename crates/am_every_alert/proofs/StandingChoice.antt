-- A choice of a universe that meets the same of some matchers as a label set, label by label.
use Rattle.std.proofs.Common.{◌≡◌, ℕ, suc, ◌<◌, List, [], ◌∷◌, length, map, Some, true, refl}
use Rattle.std.proofs.Common.{sym, ap, ◌∙◌, subst, inl, inr, nat_lt, arith}
use Rattle.std.specs.Prelude.{slice_get, option_and_then, unwrap_or, Contains}
use Rattle.std.specs.Cmp.Lexicographic.{bytes_decides}
use Rattle.std.proofs.lemmas.Bool.{both_ways, cases_Bool, lt-ltb, and_from}
use Rattle.am_universe.specs.Universe.{Label, Values, IsLabel, IsUniverse, names, sizes}
use Rattle.am_universe.specs.Choice.{admits, IsWhole}
use Rattle.am_universe.specs.LabelSet.{LabelMap, value_at, value_of, label_set_of}
use Rattle.am_universe.proofs.ListLemmas.{IsIn, IsIn-from_Contains, IsIn-unmap, AllByRecursion-each}
use Rattle.am_universe.proofs.ListLemmas.{AllByRecursion-at}
use Rattle.am_universe.proofs.LabelSetLemmas.{value_of_declared, value_of_undeclared}
use Rattle.am_labels.specs.Matcher.{Matcher, holds, condition_holds}
use Rattle.am_labels.proofs.Passing.{any_in, in_any}
use Rattle.am_classes.specs.Alike.{AreAlike, HasAlikeIn}
use Rattle.am_complete.specs.Complete.{about, label_texts, HasAlike}
use Rattle.am_complete.specs.LabelState.{is_declared}
use Rattle.am_every_alert.specs.EveryAlert.{MeetsTheSame}
use Rattle.am_complete.proofs.Alike.{is_about, only}
use Rattle.am_complete.proofs.LabelTexts.{has_name, declared_texts, unnamed_texts}
use Rattle.am_complete.proofs.CompleteUniverses.{some_about}

-- ---- The texts of a declared label.

-- the text of a label at a position; absence is the empty text
abbrev text_at : Label → ℕ → List ℕ
text_at l p = unwrap_or (value_at l p) []

-- each text of a declared label is at some position
position_of : (vs : Values) (x : List ℕ) → IsIn (map (λ v. unwrap_or v []) vs) x
    → (p : ℕ) × (p < length vs) × (unwrap_or (option_and_then (λ v. v) (slice_get vs p)) [] ≡ x)
position_of [] x h = absurd h
position_of (v ∷ vs) x (inl e) = (0, omega arith, e)
position_of (v ∷ vs) x (inr h) =
    let r = position_of vs x h in (suc r.0, omega (arith, r.1), r.2)

-- ---- A choice by a position for each label.

-- a position of a label for which `P` holds
abbrev HasPosition : (Label → ℕ → Type 0) → Label → Type 0
HasPosition P l = (p : ℕ) × (p < length l.values) × P l p

-- the label is in the universe, and the choice has such a position for it
abbrev StandsIn : (Label → ℕ → Type 0) → List Label → List ℕ → Label → Type 0
StandsIn P u c l =
    (i : ℕ) × (p : ℕ) × (slice_get u i ≡ Some l) × (slice_get c i ≡ Some p) × P l p

chosen : (P : Label → ℕ → Type 0) (l : Label) (u : List Label) (p : ℕ) (c : List ℕ) → P l p
    → ((m : Label) → IsIn u m → StandsIn P u c m)
    → (m : Label) → IsIn (l ∷ u) m → StandsIn P (l ∷ u) (p ∷ c) m
chosen P l u p c here rest m (inl same) =
    (0, p, ap Some same, refl, subst (λ k. P k p) same here)
chosen P l u p c here rest m (inr later) =
    let r = rest m later in (suc r.0, r.1, r.2, r.3, r.4)

choice_of : (P : Label → ℕ → Type 0) (u : List Label)
    → ((l : Label) → IsIn u l → HasPosition P l)
    → (c : List ℕ) × IsWhole (sizes u) c × ((l : Label) → IsIn u l → StandsIn P u c l)
choice_of P [] each = ([], (refl, refl), λ l h. absurd h)
choice_of P (l ∷ u) each =
    let first = each l (inl refl) in
    let r = choice_of P u (λ m h. each m (inr h)) in
    let admitted : admits (sizes (l ∷ u)) (first.0 ∷ r.0) ≡ true =
    and_from (nat_lt first.0 (length l.values)) (admits (sizes u) r.0)
    (lt-ltb first.0 (length l.values) first.1) r.1.0 in
    (first.0 ∷ r.0, (admitted, ap suc r.1.1), chosen P l u first.0 r.0 first.2 r.2)

-- ---- The position of a label whose text is alike to that of a label set.

module _ (u : List Label) (ms : List Matcher) (s : LabelMap) (h : IsUniverse u)
    (each : (m : Matcher) → IsIn ms m → HasAlike u ms m.name (value_of s m.name)) where
  abbrev IsAlikeAt : Label → ℕ → Type 0
  IsAlikeAt l p = AreAlike (about l.name ms) (text_at l p) (value_of s l.name)

  alike_position : (l : Label) → IsIn u l → HasPosition IsAlikeAt l
  alike_position l i = elim (some_about l.name ms) [
    | inl none ↦ (
      0,
      (AllByRecursion-at IsLabel u l h.labels i).some_value,
      subst (λ ns. AreAlike ns (text_at l 0) (value_of s l.name)) (sym none) tt,
    )
    | inr on ↦
        let alike : HasAlike u ms l.name (value_of s l.name) =
        subst (λ name. HasAlike u ms name (value_of s name)) on.2 (each on.0 on.1) in
        let there = subst (λ texts. IsIn texts alike.0) (declared_texts u l h i)
        (IsIn-from_Contains (label_texts u l.name) alike.0 alike.1) in
        let at = position_of l.values alike.0 there in (
          at.0,
          at.1,
          subst (λ x. AreAlike (about l.name ms) x (value_of s l.name)) (sym at.2) alike.2,
        )
  ]

  -- at the label of each matcher, the text of the choice is alike to that of the label set
  alike_there : (c : List ℕ) → ((l : Label) → IsIn u l → StandsIn IsAlikeAt u c l)
      → (m : Matcher) → IsIn ms m
      → AreAlike (about m.name ms) (value_of (label_set_of u c) m.name) (value_of s m.name)
  alike_there c stands m i = elim (cases_Bool (is_declared u m.name)) [
    | inl some ↦
        let l = any_in (has_name m.name) u some in
        let at = stands l.0 l.1 in
        let value = value_of_declared u c at.0 l.0 at.1 h at.2 at.3 in
        subst (λ name. AreAlike (about name ms) (value_of (label_set_of u c) name) (value_of s name))
        ((bytes_decides l.0.name m.name).0 l.2)
        (subst (λ x. AreAlike (about l.0.name ms) x (value_of s l.0.name)) (sym value) at.4)
    | inr none ↦
        let fresh : Contains (names u) m.name → ⊥ = λ there.
        let l = IsIn-unmap (λ l. l.name) u m.name (IsIn-from_Contains (names u) m.name there) in
        both_ways (is_declared u m.name) none
        (in_any (has_name m.name) u l.0 l.1 ((bytes_decides l.0.name m.name).1 l.2)) in
        let alike = subst (λ texts. HasAlikeIn (about m.name ms) texts (value_of s m.name))
        (unnamed_texts u m.name fresh) (each m i) in
        subst (λ x. AreAlike (about m.name ms) x (value_of s m.name))
        (sym (value_of_undeclared u c m.name fresh ∙ only [] alike.0 alike.1)) alike.2
  ]

  pub standing_choice : (c : List ℕ) × IsWhole (sizes u) c × MeetsTheSame ms (label_set_of u c) s
  standing_choice =
      let r = choice_of IsAlikeAt u alike_position in
      let set = label_set_of u r.0 in (
        r.0,
        r.1,
        AllByRecursion-each (λ m. condition_holds set m ≡ condition_holds s m) ms (λ m i.
            AllByRecursion-at
            (λ n. holds n.op n.value (value_of set m.name) ≡ holds n.op n.value (value_of s m.name))
            (about m.name ms) m (alike_there r.0 r.2 m i) (is_about m.name ms m i refl)),
      )
