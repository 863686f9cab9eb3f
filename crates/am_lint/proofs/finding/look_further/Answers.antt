-- One more route is looked at.
use Rattle.std.proofs.Common.{◌≡◌, ◌<◌, length, Some, refl, sym, ap, ◌∙◌, subst, slice_get, arith}
use Rattle.std.proofs.Common.{ℕ, List}
use Rattle.std.specs.List.{AllByRecursion}
use Rattle.std.proofs.lemmas.List.{take_all}
use Rattle.std.proofs.lemmas.Option.{slice_get_read}
use Rattle.am_universe.proofs.ListLemmas.{AllByRecursion-at}
use Rattle.am_universe.proofs.Members.{in_at}
use Rattle.am_config.specs.ConfigFile.{Configuration}
use Rattle.am_config.specs.ConfigView.{config_view}
use Rattle.am_lint.specs.declared.found.FoundRoute.{FoundRoute}
use Rattle.am_lint.specs.FoundView.{IsSameButEvery, IsLookedAt}
use Rattle.am_lint.specs.Table.{IsRoute, table_config}
use Rattle.am_lint.proofs.TableLemmas.{zip_right}
use Rattle.am_lint.proofs.LookingSteps.{same_all, one_set, looked_more}
use Rattle.am_lint.proofs.finding.look_further.Goals as goal

pub loop-i-init : goal.loop-i-init
loop-i-init c = record { same = same_all c.args.found.now; looked = tt }

pub look_further_at-requires : goal.look_further_at-requires
look_further_at-requires c =
    let config = config_view c.args.config.now in
    let found = c.loop-i.found in
    let i = c.loop-i.i in
    let route = c.index-found-i.result in
    let within : i < length found = omega (arith, c.loop-i-test.true, c.loop-i.auto.found) in
    let at : slice_get found i ≡ Some route =
    slice_get_read found (length found) i route refl within c.index-found-i.is in
    let r = zip_right IsSameButEvery c.args.found.now found route c.loop-i.invariant.same
    (in_at found i route at) in
    let there : IsRoute config r.0.path =
    AllByRecursion-at (λ (x : FoundRoute). IsRoute config x.path) c.args.found.now r.0
    c.requires.routes r.1 in
    let same : config ≡ table_config c.in_ok-table.table = sym c.in_ok-table.ensures.config in
    record {
      knows = c.in_ok-table.ensures.knows;
      there = subst (λ (p : List ℕ). IsRoute (table_config c.in_ok-table.table) p)
          (sym r.2.0 ∙ ap (λ (x : FoundRoute). x.path) c.index-found-i.is)
          (subst (λ (k : Configuration). IsRoute k r.0.path) same there);
    }

pub loop-i-preserved : goal.loop-i-preserved
loop-i-preserved c =
    let s = c.args.space.now in
    let config = config_view c.args.config.now in
    let found = c.loop-i.found in
    let i = c.loop-i.i in
    let route = c.index-found-i.result in
    let within : i < length found = omega (arith, c.loop-i-test.true, c.loop-i.auto.found) in
    let at : slice_get found i ≡ Some route =
    slice_get_read found (length found) i route refl within c.index-found-i.is in
    let new = c.look_further_at.new.route in
    record {
      same = one_set c.args.found.now found i route new c.loop-i.invariant.same at
          (subst (λ (r : FoundRoute). IsSameButEvery r new) (sym c.index-found-i.is)
          c.in_ok-look_further_at.ensures.same);
      looked = looked_more
          (λ (r : FoundRoute). IsLookedAt s config r.path r.ordinary r.every) found i new within
          c.loop-i.invariant.looked
          (rw (c.in_ok-table.ensures.space, c.in_ok-table.ensures.config)
          at c.in_ok-look_further_at.ensures.looked);
    }

pub returns : goal.returns
returns c =
    let s = c.args.space.now in
    let config = config_view c.args.config.now in
    record {
      same = c.loop-i.invariant.same;
      looked = subst
          (AllByRecursion (λ (r : FoundRoute). IsLookedAt s config r.path r.ordinary r.every))
          (take_all c.loop-i.i c.loop-i.found
          (omega (arith, c.loop-i-test.false, c.loop-i.auto.found))) c.loop-i.invariant.looked;
    }
