-- The narrowing of one label more.
use Rattle.std.proofs.Common.{◌≡◌, ℕ, zero, suc, ◌+◌, ◌<◌, ◌≤◌, List, [], ◌∷◌, ◌++◌, length}
use Rattle.std.proofs.Common.{drop, get_or, set, subst, Option, Some, None, option_map, slice_get, refl, ap, sym, ◌∙◌}
use Rattle.std.proofs.Common.{◌||◌, append_assoc, append-nil}
use Rattle.std.specs.List.{AllZip, list_any}
use Rattle.std.proofs.lemmas.List.{drop_all}
use Rattle.am_universe.specs.Text.{same_text}
use Rattle.am_universe.specs.Universe.{Label}
use Rattle.am_universe.proofs.Members.{left_at}
use Rattle.am_labels.specs.Matcher.{Matcher}
use Rattle.am_complete.specs.AskedLabel.{AskedLabel}
use Rattle.am_complete.specs.LabelState.{is_declared}
use Rattle.am_complete.proofs.LabelStates.{stands_at}
use Rattle.am_complete.proofs.Pushed.{zip_right}
use Rattle.am_rule_outcomes.specs.declared.label_texts.LabelTexts.{LabelTexts}
use Rattle.am_rule_outcomes.specs.NarrowingView.{AreLabelTexts, IsLabelTexts}
use Rattle.am_rule_outcomes.specs.Narrowing.{fixed_text, kept_before, matchers_on, narrowing}
use Rattle.am_rule_outcomes.specs.Narrowing.{narrowing_at}

-- ---- Lists that belong together, item by item.

pub zip_length : {A B : Type 0} (R : A → B → Type 0) (xs : List A) (ys : List B) → AllZip R xs ys
    → length xs ≡ length ys
zip_length R [] [] all = refl
zip_length R [] (y ∷ ys) all = absurd all
zip_length R (x ∷ xs) [] all = absurd all
zip_length R (x ∷ xs) (y ∷ ys) all = ap suc (zip_length R xs ys all.1)

zip_set : {A B : Type 0} (R : A → B → Type 0) (xs : List A) (ys : List B) (i : ℕ) (x : A) (y : B)
    → slice_get xs i ≡ Some x → R x y → AllZip R xs ys → AllZip R xs (set ys i y)
zip_set R [] ys i x y at here all = absurd cc
zip_set R (z ∷ xs) [] i x y at here all = absurd all
zip_set R (z ∷ xs) (w ∷ ys) zero x y at here all =
    let is : x ≡ z = cc in (subst (λ a. R a y) is here, all.1)
zip_set R (z ∷ xs) (w ∷ ys) (suc i) x y at here all = (all.0, zip_set R xs ys i x y at here all.1)

-- the label at a position, whose texts are there
pub record LabelAt (asked : List AskedLabel) (u : List Label) (i : ℕ) (texts : LabelTexts)
    : Type 0 where
  pub label : Label
  pub at : slice_get u i ≡ Some label
  pub is : IsLabelTexts (matchers_on asked label.name) label texts

pub label_at : (asked : List AskedLabel) (u : List Label) (labels : List LabelTexts) (i : ℕ)
    (texts : LabelTexts) → AreLabelTexts asked u labels → i < length labels
    → texts ≡ get_or labels i texts → LabelAt asked u i texts
label_at asked u labels i texts are within read =
    let r = zip_right (λ (l : Label) t. IsLabelTexts (matchers_on asked l.name) l t) u labels i texts
    are (stands_at labels i texts within read) in
    record { label = r.0; at = r.1; is = r.2 }

pub texts_kept : (asked : List AskedLabel) (u : List Label) (labels : List LabelTexts) (i : ℕ)
    (before after : LabelTexts) → AreLabelTexts asked u labels → i < length labels
    → before ≡ get_or labels i before
    → ((ms : List Matcher) (label : Label) → IsLabelTexts ms label before → IsLabelTexts ms label after)
    → AreLabelTexts asked u (set labels i after)
texts_kept asked u labels i before after are within read same =
    let here = label_at asked u labels i before are within read in
    zip_set (λ (l : Label) t. IsLabelTexts (matchers_on asked l.name) l t) u labels i here.label after
    here.at (same (matchers_on asked here.label.name) here.label here.is) are

-- the same labels are declared
pub same_declared : (asked : List AskedLabel) (u : List Label) (labels : List LabelTexts)
    (name : List ℕ) → AreLabelTexts asked u labels
    → list_any (λ (t : LabelTexts). same_text t.name.now name) labels ≡ is_declared u name
same_declared asked [] [] name are = refl
same_declared asked [] (t ∷ labels) name are = absurd are
same_declared asked (l ∷ u) [] name are = absurd are
same_declared asked (l ∷ u) (t ∷ labels) name are =
    λ i. same_text (are.0.name i) name || same_declared asked u labels name are.1 i

-- ---- Narrowings.

-- a narrowing with some positions in front of it
abbrev pub behind : List (Option ℕ) → Option (List (Option ℕ)) → Option (List (Option ℕ))
behind kept rest = option_map (λ all. kept ++ all) rest

kept_behind : (kept : List (Option ℕ)) (one : Option ℕ) (rest : Option (List (Option ℕ)))
    → behind kept (kept_before (Some one) rest) ≡ behind (kept ++ one ∷ []) rest
kept_behind kept one None = refl
kept_behind kept one (Some rest) = ap Some (sym (append_assoc kept (one ∷ []) rest))

module _ (asked : List AskedLabel) (fixed : List (List ℕ × List ℕ)) (u : List Label) where
  abbrev at_label : Label → Option (Option ℕ)
  at_label label = narrowing_at (matchers_on asked label.name) (fixed_text fixed label.name) label

  next_label : (i : ℕ) (label : Label) → slice_get u i ≡ Some label
      → narrowing asked fixed (drop i u)
      ≡ kept_before (at_label label) (narrowing asked fixed (drop (i + 1) u))
  next_label i label at = ap (narrowing asked fixed) (left_at u i label at)

  pub narrowed_more : (i : ℕ) (label : Label) (kept : List (Option ℕ)) (one : Option ℕ)
      → slice_get u i ≡ Some label → at_label label ≡ Some one
      → narrowing asked fixed u ≡ behind kept (narrowing asked fixed (drop i u))
      → narrowing asked fixed u ≡ behind (kept ++ one ∷ []) (narrowing asked fixed (drop (i + 1) u))
  narrowed_more i label kept one at is so_far =
      so_far ∙ ap (behind kept) (next_label i label at
      ∙ ap (λ k. kept_before k (narrowing asked fixed (drop (i + 1) u))) is)
      ∙ kept_behind kept one (narrowing asked fixed (drop (i + 1) u))

  pub narrowed_none : (i : ℕ) (label : Label) (kept : List (Option ℕ)) → slice_get u i ≡ Some label
      → at_label label ≡ None → narrowing asked fixed u ≡ behind kept (narrowing asked fixed (drop i u))
      → narrowing asked fixed u ≡ None
  narrowed_none i label kept at is so_far =
      so_far ∙ ap (behind kept) (next_label i label at
      ∙ ap (λ k. kept_before k (narrowing asked fixed (drop (i + 1) u))) is)

  pub narrowed_all : (i : ℕ) (kept : List (Option ℕ)) → length u ≤ i
      → narrowing asked fixed u ≡ behind kept (narrowing asked fixed (drop i u))
      → narrowing asked fixed u ≡ Some kept
  narrowed_all i kept end so_far =
      so_far ∙ ap (λ rest. behind kept (narrowing asked fixed rest)) (drop_all i u end)
      ∙ ap Some (append-nil kept)
