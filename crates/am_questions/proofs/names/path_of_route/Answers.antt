-- If no route is at a path with the text, the text is the path of no route.
use Rattle.std.proofs.Common.{◌≡◌, ℕ, List, Option, Some, None, sym, ◌∙◌, refl, subst, ap}
use Rattle.std.proofs.Common.{inl, inr}
use Rattle.std.specs.Prelude.{IsTrue, is_some}
use Rattle.am_config.specs.ConfigFile.{Configuration, IsConfig}
use Rattle.am_config.specs.ConfigView.{config_view}
use Rattle.am_config.specs.Path.{path_text, route_at, IsPath}
use Rattle.am_config.proofs.PathTexts.{path_text-injective}
use Rattle.am_config.proofs.Paths.{path_of_route}
use Rattle.am_questions.specs.QuestionText.{IsPathOfRoute}
use Rattle.am_questions.proofs.names.path_of_route.Goals as goal

something : {X : Type 0} (o : Option X) → IsTrue (is_some o) → (x : X) × (o ≡ Some x)
something None h = absurd cc
something (Some x) h = (x, refl)

-- the path with the text is beyond what any route can have
beyond_routes : (c : Configuration) (text p path : List ℕ) → IsConfig c
    → path_text p ≡ text → (IsPath p → ⊥) → IsPathOfRoute c text path → ⊥
beyond_routes c text p path sound is beyond h =
    let route = something (route_at c.root path) h.1 in
    let same : path ≡ p = path_text-injective path p (sym h.0 ∙ sym is) in
    beyond (subst IsPath same (path_of_route c path route.0 sound route.1))

-- no route is at the path with the text
no_route_there : (c : Configuration) (text p path : List ℕ) → path_text p ≡ text
    → route_at c.root p ≡ None → IsPathOfRoute c text path → ⊥
no_route_there c text p path is none h =
    let route = something (route_at c.root path) h.1 in
    let same : p ≡ path = path_text-injective p path (is ∙ h.0) in
    let found : None ≡ Some route.0 = sym none ∙ ap (route_at c.root) same ∙ route.1 in
    absurd cc

pub returns-in_default-clause-none : goal.returns-in_default-clause-none
returns-in_default-clause-none c = (
  refl,
  λ path h.
      let config = config_view c.args.config.now in
      let text = c.args.text.now in
      elim c.in_default.ensures.refused [
        | inl none ↦ none.1 path (sym h.0)
        | inr there ↦ beyond_routes config text there.1 path c.args.config.now.sound there.2 there.3 h
      ],
)

pub returns-in-None-clause-none : goal.returns-in-None-clause-none
returns-in-None-clause-none c = (
  refl,
  λ path h.
      no_route_there (config_view c.args.config.now) c.args.text.now c.in-Ok.path path
      c.in-Ok.ensures.ok.0 c.in-None.ensures.none h,
)
