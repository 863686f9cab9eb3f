use Rattle.std.proofs.Common.{◌<◌, length, ◌≡◌, ◌++◌, List, [], ℕ, Bor, map, sym, ap, ◌∙◌, subst, arith}
use Rattle.std.specs.List.{AllByRecursion}
use Rattle.std.specs.Option.{option_map_or}
use Rattle.std.proofs.lemmas.Result.{err_from_is_err_and}
use Rattle.std.proofs.lemmas.Grind.{common_steps}
use Rattle.am_universe.specs.Universe.{Label, IsUniverse, names}
use Rattle.am_universe.proofs.ListLemmas.{IsIn}
use Rattle.am_complete.specs.AskedLabel.{AskedLabel}
use Rattle.am_complete.specs.Covering.{CoversEachBut}
use Rattle.am_complete.specs.Room.{AreUnproved}
use Rattle.am_complete.specs.Missing.{MissingTexts, IsWhole, open_positions, AreTooLarge}
use Rattle.am_complete.specs.Missing.{names_to_declare}
use Rattle.am_complete.proofs.MadeUniverses.{keeps, adds, covers_each, within_asked, are_unproved}
use Rattle.am_complete.proofs.MadeUniverses.{in_order, complete, made_over}
use Rattle.am_complete.proofs.RepresentativeTexts.{adds_representatives}
use Rattle.am_complete.proofs.RoomBeside.{names_distinct, can_be_declared, no_room, named_before}
use Rattle.am_complete.proofs.RoomBeside.{names_allowed}
use Rattle.am_complete.proofs.made_universe.universe_beside.Goals as goal
use Rattle.am_complete.proofs.made_universe.universe_beside.Goals.{After-as_slice-3}

-- the names are those of the space, and those that are to be declared
beside : (c : After-as_slice-3) → map (λ (n : Bor (List ℕ)). n.now) c.as_slice-2.result.now
    ≡ names c.args.space.now.labels
    ++ names_to_declare c.args.space.now.labels c.in_ok-missing.missing.items
beside c = grind (arith, common_steps)

universe : (c : After-as_slice-3) → IsUniverse c.args.space.now.labels
universe c = subst IsUniverse c.universe.ensures.labels c.in_ok-names.ensures.universe

pub universe_of-requires-clause-distinct : goal.universe_of-requires-clause-distinct
universe_of-requires-clause-distinct c =
    grind (arith, common_steps, beside, names_distinct, universe)

pub universe_of-requires-clause-labels : goal.universe_of-requires-clause-labels
universe_of-requires-clause-labels c =
    grind (arith, common_steps, beside, can_be_declared, universe)

pub returns-in_err-universe-clause-limit : goal.returns-in_err-universe-clause-limit
returns-in_err-universe-clause-limit c =
    let s = c.args.space.now in
    let missing : List MissingTexts = c.in_ok-missing.missing.items in
    let here = (goal.at.returns-in_err-universe-clause-limit c).After-as_slice-3 in
    let fault = err_from_is_err_and c.from_residual-in_err-universe.result
    c.from_residual-in_err-universe.ensures.1 in
    rw (fault.1, fault.2) (λ limit.
    no_room c.args.alphabet c.args.allowed s c.args.asked.now missing (universe here)
    c.in_ok-missing.ensures.missing c.requires.1.distinct
    (subst (AreTooLarge s missing) (beside here)
    (subst (λ (ms : List MissingTexts). AreTooLarge s ms
    (map (λ (n : Bor (List ℕ)). n.now) c.as_slice-2.result.now)) c.as_slice-3.ensures.value
    (c.in_err-universe.ensures.limit limit))))

pub returns : goal.returns
returns c =
    let a = c.args.alphabet in
    let allowed = c.args.allowed in
    let s = c.args.space.now in
    let asked : List AskedLabel = c.args.asked.now in
    let missing : List MissingTexts = c.in_ok-missing.missing.items in
    let v : List Label = c.in_ok-universe.universe in
    let positions : List ℕ = c.in_ok-unproved.unproved.items in
    let here = (goal.at.returns c).After-as_slice-3 in
    let zip = c.in_ok-missing.ensures.missing in
    let is = c.in_ok-universe.ensures.universe in
    let are : names v ≡ names s.labels ++ names_to_declare s.labels missing =
    c.in_ok-universe.ensures.names ∙ beside here in
    let whole = subst (λ (ms : List MissingTexts). AllByRecursion (IsWhole s ms) v)
    c.as_slice-3.ensures.value c.in_ok-universe.ensures.whole in
    let opens : positions ≡ open_positions missing =
    c.in_ok-unproved.ensures ∙ ap open_positions c.as_slice-4.ensures.value in
    let covers = subst (CoversEachBut a s.impossible v asked) (sym opens)
    (covers_each a allowed s asked missing v zip c.requires.1.distinct is are whole) in
    record {
      universe = is;
      keeps = keeps s missing v (universe here) is are whole;
      names = names_allowed a allowed s asked missing (universe here) zip c.requires.1.distinct v are;
      adds = λ ms asks. adds a allowed s asked missing v ms zip is whole (λ name i.
          named_before a allowed s asked missing (universe here) zip c.requires.1.distinct name
          (subst (λ (ns : List (List ℕ)). IsIn ns name) are i)) asks;
      order = in_order a allowed s asked missing v zip c.requires.1.distinct are;
      covers = covers;
      within = subst (AllByRecursion (λ i. i < length asked)) (sym opens)
          (within_asked a allowed s asked missing zip);
      unproved = subst (AreUnproved a allowed s asked) (sym opens) (are_unproved a allowed s asked missing zip);
      representatives = λ ms may_lack asks closed.
          adds_representatives a allowed s (option_map_or (λ a. a.now) c.args.alerts []) asked missing zip
          c.in_ok-missing.ensures.representatives v ms may_lack is whole asks
          (λ strict. sym opens ∙ closed strict);
      complete = complete a allowed s asked v positions is covers;
      over = made_over a allowed s asked missing v zip whole;
      kind = tt;
      limit = tt;
    }
