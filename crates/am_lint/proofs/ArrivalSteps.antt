-- What the first literals for a route say, and which reasons follow from those that are named.
use Rattle.std.proofs.Common.{◌≡◌, ℕ, List, [], ◌++◌, length, take, refl, ap, ◌∙◌}
use Rattle.std.specs.Prelude.{⊤}
use Rattle.std.proofs.lemmas.List.{take_at, append_assoc}
use Rattle.am_universe.proofs.ListLemmas.{IsIn-from_Contains}
use Rattle.am_labels.specs.Space.{Space}
use Rattle.am_config.specs.ConfigFile.{Configuration}
use Rattle.am_first_sets.specs.declared.candidate.Candidate.{Candidate}
use Rattle.am_lint.specs.declared.literals.Literals.{Literals}
use Rattle.am_lint.specs.declared.literals.Part.TheVariants.{Way, Before, Children}
use Rattle.am_lint.specs.declared.table.TableRoute.{TableRoute}
use Rattle.am_lint.specs.Table.{IsTableOf, IsRoute}
use Rattle.am_lint.specs.Literals.{AreLiterals, AreBlamed, AreTakers}
use Rattle.am_eval.specs.Reaching.{EndsAt, Enters, SomeIs, IsSetOf}
use Rattle.am_lint.specs.Reasons.{IsReasonWhy, MatchesWay, Misses, IsExcludedBy, IsTakenBy}
use Rattle.am_lint.specs.Reasons.{IsHandedTo, EachTakesSome}
use Rattle.am_lint.proofs.EnteringLemmas.{way_exactly, enters_exactly, ends_exactly}
use Rattle.am_lint.proofs.LiteralTruth.{AreFront, nothing_said, more_said}
use Rattle.am_lint.proofs.NamedReasons.{IsOfPart, part_reason}
use Rattle.am_lint.proofs.Takers.{each_takes, before_taking, children_taking}

-- what is known of the literals for a route, and of the first of them
pub record AreKnown (s : Space) (c : Configuration) (routes : List TableRoute) (path : List ℕ)
    (on_way to_enter : ℕ) (all : List Candidate) : Type 0 where
  pub ending : AreFront s all (EndsAt c path)
  pub entering : AreFront s (take to_enter all) (Enters c path)
  pub matching : AreFront s (take on_way all) (MatchesWay c path)
  pub handed : (paths : List (List ℕ)) → AreTakers s routes to_enter all paths
      → IsHandedTo (IsSetOf s) c path paths
  pub taken : (paths : List (List ℕ)) → AreTakers s routes on_way (take to_enter all) paths
      → SomeIs (IsSetOf s) (MatchesWay c path) → IsTakenBy (IsSetOf s) c path paths
  pub excluded : (paths : List (List ℕ)) → AreBlamed s routes 0 (take on_way all) paths
      → IsExcludedBy (IsSetOf s) c path paths

module _ (s : Space) (c : Configuration) (routes : List TableRoute)
    (known : IsTableOf s.labels c routes) (path : List ℕ) (there : IsRoute c path)
    (found : Literals) (are : AreLiterals routes path found) where
  -- ---- What an alert has to meet.

  on_way : AreFront s are.on_way (MatchesWay c path)
  on_way =
      more_said s c routes known path Way [] are.on_way are.way (λ set. ⊤) (MatchesWay c path)
      (nothing_said s) (λ set. way_exactly c path set there)

  to_enter : AreFront s are.to_enter (Enters c path)
  to_enter =
      more_said s c routes known path Before are.on_way are.to_enter are.before
      (MatchesWay c path) (Enters c path) on_way (λ set. enters_exactly c path set there)

  to_end : AreFront s found.all.items (EndsAt c path)
  to_end =
      more_said s c routes known path Children are.to_enter found.all.items are.children
      (Enters c path) (EndsAt c path) to_enter (ends_exactly c path)

  enter_first : take found.to_enter found.all.items ≡ are.to_enter
  enter_first =
      (λ i. take (are.many_to_enter i) (are.children.adds i))
      ∙ take_at are.to_enter are.children.more (length are.to_enter) refl

  way_first : take found.on_way found.all.items ≡ are.on_way
  way_first =
      (λ i. take (are.many_on_way i) ((are.children.adds
      ∙ ap (λ ks. ks ++ are.children.more) are.before.adds
      ∙ append_assoc are.on_way are.before.more are.children.more) i))
      ∙ take_at are.on_way (are.before.more ++ are.children.more) (length are.on_way) refl

  -- ---- Reasons.

  taken_by : (paths : List (List ℕ))
      → IsReasonWhy (IsSetOf s) (IsOfPart c path Before) (MatchesWay c path) (Misses c) paths
      → SomeIs (IsSetOf s) (MatchesWay c path)
      → EachTakesSome (IsSetOf s) c (MatchesWay c path) paths
      → IsTakenBy (IsSetOf s) c path paths
  taken_by paths why some each = (
    λ none. why.enough some.0 some.1 (
      some.2,
      λ q among. absurd (IsIn-from_Contains [] q (rw none at among)),
    ),
    why,
    each,
  )

  pub known_of : AreKnown s c routes path found.on_way found.to_enter found.all.items
  known_of = record {
    ending = to_end;
    entering = rw enter_first to_enter;
    matching = rw way_first on_way;
    handed = λ paths named.
        let at = rw are.many_to_enter at named in (
          part_reason s c routes known path Children are.to_enter found.all.items are.children
              (Enters c path) to_enter.say paths at.0,
          each_takes s c routes known path Children are.to_enter found.all.items are.children
              (Enters c path) to_enter.say (children_taking c path) paths at,
        );
    taken = λ paths named some.
        let at = rw (enter_first, are.many_on_way) at named in
        taken_by paths (part_reason s c routes known path Before are.on_way are.to_enter are.before
        (MatchesWay c path) on_way.say paths at.0) some
        (each_takes s c routes known path Before are.on_way are.to_enter are.before
        (MatchesWay c path) on_way.say (before_taking c path) paths at);
    excluded = λ paths named.
        part_reason s c routes known path Way [] are.on_way are.way (λ set. ⊤)
        (nothing_said s).say paths (rw way_first at named);
  }
