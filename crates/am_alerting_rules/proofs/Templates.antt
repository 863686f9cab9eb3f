-- Templates are the texts in which `{{` stands.
use Rattle.std.proofs.Common.{◌≡◌, ◌++◌, ◌↔◌, Bool, List, [], codes, ap, eqb-true, false, nat_eq}
use Rattle.std.proofs.Common.{inl, inr, refl, sym, true, ℕ, ◌∷◌}
use Rattle.std.specs.List.{starts_with}
use Rattle.std.specs.Str.Iter.{HasSubslice}
use Rattle.std.proofs.lemmas.Bool.{and_parts, false_from_ne_true, or_cases, or_right}
use Rattle.am_alerting_rules.specs.RuleAlerts.{is_template}

at_front : (s : List ℕ) → starts_with nat_eq s (codes "{{") ≡ true → HasSubslice s (codes "{{")
at_front [] h = absurd cc
at_front (c ∷ []) h = let wrong = (and_parts (nat_eq 123 c) false h).1 in absurd cc
at_front (c ∷ d ∷ cs) h =
    let first = and_parts _ _ h in
    let second = and_parts _ _ first.1 in
    ([], cs, rw (← eqb-true _ c first.0, ← eqb-true _ d second.0) refl)

behind : (c : ℕ) (cs x : List ℕ) → HasSubslice cs x → HasSubslice (c ∷ cs) x
behind c cs x (before, after, is) = (c ∷ before, after, ap (λ (xs : List ℕ). c ∷ xs) is)

has_braces : (s : List ℕ) → is_template s ≡ true → HasSubslice s (codes "{{")
has_braces [] h = absurd cc
has_braces (c ∷ cs) h =
    elim (or_cases _ _ h) [
      | inl front ↦ at_front (c ∷ cs) front
      | inr later ↦ behind c cs (codes "{{") (has_braces cs later)
    ]

with_braces : (before after : List ℕ) → is_template (before ++ (codes "{{" ++ after)) ≡ true
with_braces [] after = refl
with_braces (c ∷ before) after = or_right _ _ (with_braces before after)

braces_stand : (s : List ℕ) → HasSubslice s (codes "{{") → is_template s ≡ true
braces_stand s (before, after, is) = rw is (with_braces before after)

-- the answer of a search for `{{`
pub template_found : (s : List ℕ) (found : Bool) → (found ≡ true) ↔ HasSubslice s (codes "{{")
    → found ≡ is_template s
template_found s true stands = sym (braces_stand s (stands.0 refl))
template_found s false stands =
    sym (false_from_ne_true (is_template s)
    (λ h. let wrong : false ≡ true = stands.1 (has_braces s h) in absurd cc))
