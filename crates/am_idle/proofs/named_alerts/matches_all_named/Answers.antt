-- What holds over the universe that is made holds over every ordinary alert with an alertname.
use Rattle.std.proofs.Common.{◌≡◌, List, [], ◌∷◌, subst}
use Rattle.am_labels.specs.Matcher.{Matcher}
use Rattle.am_labels.specs.Space.{Space}
use Rattle.am_classes.specs.declared.alphabet.Alphabet.TheVariants.{Ascii}
use Rattle.am_every_alert.specs.Deciding.{space_of}
use Rattle.am_idle.specs.Extent.{MatchesAll, MatchesNotAll}
use Rattle.am_idle.specs.Lists.{StandsForLists}
use Rattle.am_idle.specs.NamedAlerts.{named_matchers}
use Rattle.am_idle.proofs.FoundSets.{if_found}
use Rattle.am_idle.proofs.ListsStand.{IsNamedSet, all_named, not_all_named}
use Rattle.am_idle.proofs.named_alerts.matches_all_named.Goals as goal
use Rattle.am_idle.proofs.named_alerts.matches_all_named.Goals.{In_ok-found_or_used_up}

declared : (c : In_ok-found_or_used_up)
    → c.declare.new.self ≡ space_of c.args.space.now.impossible c.in_ok-universe.universe
declared c = λ i. record {
  labels = c.declare.ensures.labels i;
  impossible = c.declare.ensures.impossible i;
}

stands : (c : In_ok-found_or_used_up) → StandsForLists Ascii c.args.space.now
    (c.args.matchers.now ∷ named_matchers ∷ []) c.in_ok-universe.universe
stands c =
    subst (λ (named : List Matcher). StandsForLists Ascii c.args.space.now
    (c.args.matchers.now ∷ named ∷ []) c.in_ok-universe.universe) c.in_ok-named.ensures
    c.in_ok-universe.ensures.stands

pub returns-clause-all : goal.returns-clause-all
returns-clause-all c =
    let at = (goal.at.returns-clause-all c).In_ok-found_or_used_up in
    if_found _ _ (λ all each is. all_named c.args.space.now c.in_ok-universe.universe
    c.args.matchers.now (stands at)
    (subst (λ (s : Space). MatchesAll (IsNamedSet s) c.args.matchers.now) (declared at) (each is)))
    c.matches_all_in-all.result c.in_ok-found_or_used_up.field-0 c.in_ok-found_or_used_up.ensures
    (rw c.in_ok-named.ensures at c.matches_all_in-all.ensures.all)

pub returns-clause-not_all : goal.returns-clause-not_all
returns-clause-not_all c =
    let at = (goal.at.returns-clause-not_all c).In_ok-found_or_used_up in
    if_found _ _ (λ all some is. not_all_named c.args.space.now c.in_ok-universe.universe
    c.args.matchers.now (stands at)
    (subst (λ (s : Space). MatchesNotAll (IsNamedSet s) c.args.matchers.now) (declared at)
    (some is))) c.matches_all_in-all.result c.in_ok-found_or_used_up.field-0
    c.in_ok-found_or_used_up.ensures
    (rw c.in_ok-named.ensures at c.matches_all_in-all.ensures.not_all)
