-- Rows: the truths on the values of a label, value by value.
use Rattle.std.proofs.Common.{◌≡◌, ℕ, ◌+◌, ◌<◌, Bool, List, [], ◌∷◌, ◌++◌, length, map, take, get_or, Option, Some, None, option_map, unwrap_or, refl, sym, ap, ◌∙◌}
use Rattle.std.proofs.lemmas.List.{take_more, map-append}
use Rattle.am_universe.specs.Universe.{Values}
use Rattle.am_labels.specs.Matcher.{Matcher}
use Rattle.am_labels.specs.Row.{truth_on_value}

pub unwrapped : {A B : Type 0} (f : A → B) (o : Option A) (d : A) → f (unwrap_or o d) ≡ unwrap_or (option_map f o) (f d)
unwrapped f None d = refl
unwrapped f (Some x) d = refl

-- The truths with that on one more value.
pub truths_more : (m : Matcher) (vs : Values) (j : ℕ) (truths : List Bool) → truths ≡ map (truth_on_value m) (take j vs) → j < length vs
    → truths ++ truth_on_value m (get_or vs j None) ∷ [] ≡ map (truth_on_value m) (take (j + 1) vs)
truths_more m vs j truths e h = ap (λ t. t ++ truth_on_value m (get_or vs j None) ∷ []) e ∙ sym (ap (map (truth_on_value m)) (take_more vs j None h) ∙ map-append (truth_on_value m) (take j vs) (get_or vs j None ∷ []))
