-- What is found about routes over universes that stand for alerts is true of these alerts.
use Rattle.std.proofs.Common.{◌≡◌, List, Option, Some, None, IfSome}
use Rattle.std.proofs.Common.{sym, subst, ◌∙◌}
use Rattle.std.specs.Prelude.{Vec, length}
use Rattle.std.specs.Global.{Global}
use Rattle.std.specs.Vec.{with_items}
use Rattle.std.specs.List.{AllByRecursion, AllZip}
use Rattle.std.proofs.lemmas.List.{with_items_is}
use Rattle.std.proofs.lemmas.List.Elements.{length_all_zip}
use Rattle.am_universe.specs.Universe.{Label}
use Rattle.am_labels.specs.Space.{Space}
use Rattle.am_config.specs.ConfigFile.{Configuration}
use Rattle.am_config.specs.RoutePaths.{all_routes}
use Rattle.am_classes.specs.declared.alphabet.Alphabet.{Alphabet}
use Rattle.am_classes.specs.declared.alphabet.Alphabet.TheVariants.{Unicode, Ascii}
use Rattle.am_lint.specs.declared.found.FoundRoute.{FoundRoute}
use Rattle.am_lint.specs.FoundView.{IsFoundIn, IsLookedAt, IsSameButEvery}
use Rattle.am_lint.proofs.Transfer.{StandsForAlerts}
use Rattle.am_lint.proofs.FoundLemmas.{IsFoundSo}
use Rattle.am_lint.proofs.FoundOver.{found_over_ascii, found_over_unicode}
use Rattle.am_every_alert.specs.Deciding.{space_of}
use Rattle.am_outcomes.specs.Configurations.{One}
use Rattle.am_reports.specs.Made.{StandsForAll, alphabet_over}

-- what is found about each route is true, with choices of some labels and, for every alert, of
-- those of a universe that stands for every alert
abbrev pub AreFoundSo : Alphabet → Space → List Label → Configuration → List FoundRoute → Type 0
AreFoundSo a s v c found =
    StandsForAll a s.impossible (One c) v
    × (u : List Label) × AllZip (IsFoundSo a s u v c) (all_routes c) found

-- a space with these labels and the impossible lists of another space
abbrev pub IsSpaceWith : Space → List Label → Space → Type 0
IsSpaceWith s u o = (o.labels ≡ u) × (o.impossible ≡ s.impossible)

stands : (a : Alphabet) (s o : Space) (c : Configuration) (u : List Label)
    → StandsForAll a s.impossible (One c) u → IsSpaceWith s u o → StandsForAlerts a o c
stands a s o c u h is =
    let same : space_of s.impossible u ≡ o =
    λ i. record { labels = sym is.0 i; impossible = sym is.1 i } in
    subst (λ (t : Space). StandsForAlerts a t c) same h.stands

module _ (s o : Space) (c : Configuration) (u : List Label)
    (over : StandsForAll Ascii s.impossible (One c) u) (is : IsSpaceWith s u o) where
  pub found_ordinary : (every : Option (List Label)) (found : List FoundRoute)
      → every ≡ None → AllZip (IsFoundIn o c) (all_routes c) found
      → AllByRecursion (λ route. route.every ≡ None) found
      → AreFoundSo (alphabet_over every) s o.labels c found
  found_ordinary every found none so once =
      subst (λ (x : Option (List Label)). AreFoundSo (alphabet_over x) s o.labels c found) (sym none) (
        rw is.0 over,
        o.labels,
        found_over_ascii s o c (stands Ascii s o c u over is) is.1 o.labels found so once,
      )

  pub found_every : (every : Option (List Label)) (v : List Label) (e : Space)
      (old : Vec FoundRoute Global) (new : List FoundRoute) → every ≡ Some v
      → IfSome every (StandsForAll Unicode s.impossible (One c)) → IsSpaceWith s v e
      → AllZip (IsFoundIn o c) (all_routes c) old.items → AllZip IsSameButEvery old.items new
      → AllByRecursion (λ route. IsLookedAt e c route.path route.ordinary route.every) new
      → AreFoundSo (alphabet_over every) s e.labels c (with_items old new).items
  found_every every v e old new some all at so same looked =
      let stands_all : StandsForAll Unicode s.impossible (One c) v = rw some at all in
      let long : length new ≡ old.len =
      sym (length_all_zip IsSameButEvery old.items new same) ∙ sym old.ok.0 in
      let found : AreFoundSo Unicode s e.labels c new = (
        rw at.0 stands_all,
        o.labels,
        found_over_unicode s o c (stands Ascii s o c u over is) is.1 e
            (stands Unicode s e c v stands_all at) at.1 old.items new so same looked,
      ) in
      subst (λ (x : Option (List Label)).
      AreFoundSo (alphabet_over x) s e.labels c (with_items old new).items) (sym some)
      (subst (λ (items : List FoundRoute). AreFoundSo Unicode s e.labels c items)
      (sym (with_items_is old new long)) found)
