-- A text is among texts that are taken once exactly if it is among all of them.
use Rattle.std.proofs.Common.{◌≡◌, ◌⊎◌, ℕ, List, [], ◌∷◌, fold}
use Rattle.std.proofs.Common.{sym, subst, ◌∙◌, inl, inr, arith}
use Rattle.std.specs.List.{list_any}
use Rattle.std.proofs.lemmas.Bool.{cases_Bool}
use Rattle.std.proofs.lemmas.Grind.{common_steps}
use Rattle.std.specs.Cmp.Lexicographic.{bytes_decides}
use Rattle.am_universe.specs.Text.{same_text}
use Rattle.am_universe.proofs.ListLemmas.{IsIn, IsIn-left, IsIn-right}
use Rattle.am_eval.proofs.RouteConditions.{same_test}
use Rattle.am_labels.proofs.Passing.{any_in, in_any}
use Rattle.am_complete.proofs.Pushed.{in_pushed}
use Rattle.am_report_texts.specs.EachOnce.{with_text, each_once}

-- ---- One more text.

added : (texts : List (List ℕ)) (text other : List ℕ) → IsIn (with_text texts text) other
    → IsIn texts other ⊎ (text ≡ other)
added texts text other i = grind (arith, common_steps, cases_Bool, in_pushed)

there_still : (texts : List (List ℕ)) (text other : List ℕ) → IsIn texts other ⊎ (text ≡ other)
    → IsIn (with_text texts text) other
there_still texts text other (inl old) = grind (arith, common_steps, cases_Bool, IsIn-left)
there_still texts text other (inr same) = elim (cases_Bool (list_any (same_text text) texts)) [
  | inl some ↦
      let r = any_in (same_text text) texts some in
      rw some (subst (IsIn texts) (sym ((bytes_decides text r.0).0 r.2) ∙ same) r.1)
  | inr none ↦ rw none (IsIn-right texts (text ∷ []) other (inl same))
]

-- ---- All texts.

pub once_in : (before texts : List (List ℕ)) (text : List ℕ)
    → IsIn (fold with_text before texts) text → IsIn before text ⊎ IsIn texts text
once_in before [] text i = inl i
once_in before (t ∷ texts) text i =
    grind (arith, common_steps, once_in (with_text before t) texts text i, added)

pub in_once : (before texts : List (List ℕ)) (text : List ℕ) → IsIn before text ⊎ IsIn texts text
    → IsIn (fold with_text before texts) text
in_once before [] text (inl i) = i
in_once before [] text (inr i) = absurd i
in_once before (t ∷ texts) text (inl old) =
    in_once (with_text before t) texts text (inl (there_still before t text (inl old)))
in_once before (t ∷ texts) text (inr (inl same)) =
    in_once (with_text before t) texts text (inl (there_still before t text (inr same)))
in_once before (t ∷ texts) text (inr (inr later)) =
    in_once (with_text before t) texts text (inr later)

-- ---- A test of a text.

pub there_once : (texts : List (List ℕ)) (text : List ℕ)
    → list_any (same_text text) (each_once texts) ≡ list_any (same_text text) texts
there_once texts text =
    let test = same_text text in
    same_test (list_any test (each_once texts)) (list_any test texts) (
      λ some. let r = any_in test (each_once texts) some in
          elim (once_in [] texts r.0 r.1) [
            | inl none ↦ absurd none
            | inr there ↦ in_any test texts r.0 there r.2
          ],
      λ some. let r = any_in test texts some in
          in_any test (each_once texts) r.0 (in_once [] texts r.0 (inr r.1)) r.2,
    ) (λ some. some, λ some. some)
