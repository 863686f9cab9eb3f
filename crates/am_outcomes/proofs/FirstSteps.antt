-- Keys that are kept with the choices that came first.
use Rattle.std.proofs.Common.{◌≡◌, Bool, false, cond, List, [], ◌∷◌, ◌++◌, Option, Some, None, is_some}
use Rattle.std.proofs.Common.{refl, ap, sym, ◌∙◌}
use Rattle.std.specs.List.{list_any}
use Rattle.std.specs.Map.{lookup}
use Rattle.std.proofs.lemmas.Map.Made.{is_some-lookup}
use Rattle.am_universe.proofs.UniverseLemmas.{list_any-map}
use Rattle.indexmap.specs.IndexMap.{IndexMap, insert_entry}
use Rattle.indexmap.proofs.CallerLemmas.{insert_entry-new}
use Rattle.am_outcomes.specs.Outcomes.{with_first}

none_is : {X : Type 0} (o : Option X) → is_some o ≡ false → o ≡ None
none_is None e = refl
none_is (Some x) e = absurd cc

module _ {K X : Type 0} (eq : K → K → Bool) where
  pub looked_up : (es : List (K × X)) (key : K)
      → is_some (lookup (eq key) es) ≡ list_any (λ e. eq key e.0) es
  looked_up es key =
      is_some-lookup (eq key) es ∙ list_any-map (eq key) (λ (e : K × X). e.0) es

  pub added : {S : Type 0} (m : IndexMap K X S) (key : K) (x : X)
      → list_any (λ e. eq key e.0) m.entries ≡ false
      → insert_entry eq m.entries key x ≡ with_first eq m.entries (key, x)
  added m key x new =
      insert_entry-new eq m key x (none_is (lookup (eq key) m.entries) (looked_up m.entries key ∙ new))
      ∙ sym (ap (λ b. cond b m.entries (m.entries ++ (key, x) ∷ [])) new)
