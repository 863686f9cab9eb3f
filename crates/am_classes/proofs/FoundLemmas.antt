-- A set has the patterns that find each candidate.
use Rattle.std.proofs.Common.{◌≡◌, ℕ, Bool, true, cond, List, [], ◌∷◌, ◌++◌, nat_eq, sym, ◌∙◌}
use Rattle.std.specs.Cmp.Lexicographic.{pointwise}
use Rattle.std.specs.Global.{Vec}
use Rattle.std.specs.List.{list_any}
use Rattle.std.proofs.lemmas.List.Folds.{list_any-append}
use Rattle.std.proofs.lemmas.Slice.Eq.{bytes_eq-Decides}
use Rattle.am_universe.proofs.Members.{at_in, in_at}
use Rattle.am_labels.proofs.Passing.{any_in, in_any}
use Rattle.am_classes.specs.Candidates.{HasFound}
use Rattle.am_classes.specs.Truths.{are_same}
use Rattle.am_classes.specs.declared.candidate.Candidate.{Candidate}
use Rattle.am_classes.proofs.TestedTexts.{any_more}

module _ (candidates : List Candidate) (found : Vec ℕ) where
  pub has_from_seen : list_any (λ c. are_same c.found found) candidates ≡ true → HasFound candidates found.items
  has_from_seen some =
      let one = any_in (λ c. are_same c.found found) candidates some in
      let at = at_in candidates one.0 one.1 in
      (at.0, one.0, at.1, (bytes_eq-Decides one.0.found.items found.items).0 one.2)

  pub seen_from_has : HasFound candidates found.items → list_any (λ c. are_same c.found found) candidates ≡ true
  seen_from_has has =
      in_any (λ c. are_same c.found found) candidates has.1 (in_at candidates has.0 has.1 has.2)
      ((bytes_eq-Decides has.1.found.items found.items).1 has.3)

  -- one candidate more
  pub found_more : (x : Candidate) (own : Vec ℕ) (before now : Bool) → own.items ≡ x.found.items
      → before ≡ list_any (λ c. are_same c.found found) candidates
      → now ≡ cond (are_same own found) true before
      → now ≡ list_any (λ c. are_same c.found found) (candidates ++ x ∷ [])
  found_more x own before now is was e =
      e ∙ (λ i. cond (pointwise nat_eq (is i) found.items) true (was i))
      ∙ any_more (are_same x.found found) _
      ∙ sym (list_any-append (λ c. are_same c.found found) candidates (x ∷ []))
