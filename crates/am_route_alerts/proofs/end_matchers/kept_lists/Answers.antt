-- One literal more is named, and its list is kept, or it is not.
use Rattle.std.proofs.Common.{◌≡◌, ◌+◌, List, Some, length, map, take, slice_get}
use Rattle.std.proofs.Common.{Bor, refl, sym, ap, ◌∙◌, subst, append-nil}
use Rattle.std.specs.Global.{Vec}
use Rattle.std.specs.List.{flat_map}
use Rattle.std.proofs.lemmas.List.{map_push}
use Rattle.std.proofs.lemmas.Option.{slice_get_read}
use Rattle.am_labels.specs.Matcher.{Matcher}
use Rattle.am_first_sets.specs.declared.candidate.Candidate.{Candidate}
use Rattle.am_lint.specs.Table.{table_space, table_config}
use Rattle.am_route_alerts.specs.KeptLists.{IsKeptList, AreKeptLists}
use Rattle.am_route_alerts.specs.MatcherCubes.{MeetsAll, cubes_at}
use Rattle.am_route_alerts.specs.Shortened.{IsShortened}
use Rattle.am_route_alerts.proofs.ZipLists.{zip_passed, zip_taken}
use Rattle.am_route_alerts.proofs.LiteralRoutes.{own_about}
use Rattle.am_route_alerts.proofs.KnownMatchers.{each_known, known_matchers, one_ranged}
use Rattle.am_route_alerts.proofs.end_matchers.kept_lists.Goals as goal
use Rattle.am_route_alerts.proofs.end_matchers.kept_lists.Goals.{else-literals-i}
use Rattle.am_route_alerts.proofs.end_matchers.kept_lists.Goals.{then-literals-i+in_ok-list+in_ok-shortened+in_ok-push}

pub shortened-requires-clause-cubes : goal.shortened-requires-clause-cubes
shortened-requires-clause-cubes c =
    rw c.as_slice-list.ensures.value (each_known _ _ _ c.in_ok-list.ensures.cubes
    (own_about (table_space c.args.table.now).labels (table_config c.args.table.now)
    c.args.cubes.now c.requires.cubes _))

pub loop-i-preserved : goal.loop-i-preserved
loop-i-preserved c =
    let s = table_space c.args.table.now in
    let cubes = c.args.cubes.now in
    let given = c.args.given.now in
    let ks = c.args.literals.now in
    let i = c.loop-i.i in
    let k = c.index-literals-i.result in
    let is_named = λ (l : Candidate). l.named in
    let view = λ (list : Vec (Bor Matcher)). map (λ (m : Bor Matcher). m.now) list.items in
    let before = map view c.loop-i.lists.items in
    let at : slice_get ks i ≡ Some k =
    slice_get_read ks (length ks) i k refl c.loop-i-test.true c.index-literals-i.is in
    elim c.if-literals-i.branch [
      | then-literals-i+in_ok-list+in_ok-shortened+in_ok-push w ↦
          let list = w.in_ok-shortened.field-0 in
          let are = w.in_ok-list.ensures.cubes
          ∙ ap (flat_map (λ (l : Candidate). cubes_at cubes l.tag)) (one_ranged ks i k at)
          ∙ append-nil (cubes_at cubes k.tag) in
          let kept : IsKeptList s cubes given k (view list) =
          subst (λ (ms : List Matcher). IsShortened (MeetsAll s given) ms (view list))
          (ap (map (λ known. known.matcher.now)) w.as_slice-list.ensures.value
          ∙ known_matchers w.in_ok-list.list.items (cubes_at cubes k.tag) are)
          w.in_ok-shortened.ensures.shortened in
          subst (AreKeptLists s cubes given (take (i + 1) ks))
          (sym (ap (λ (v : Vec (Vec (Bor Matcher))). map view v.items) w.lists-is
          ∙ ap (map view) w.in_ok-push.ensures.items ∙ map_push view c.loop-i.lists.items list))
          (zip_taken (IsKeptList s cubes given) is_named ks i k before (view list) at
          (ap is_named c.index-literals-i.is ∙ w.if-literals-i.true) kept c.loop-i.invariant)
      | else-literals-i w ↦
          subst (λ (v : Vec (Vec (Bor Matcher))).
          AreKeptLists s cubes given (take (i + 1) ks) (map view v.items)) (sym w.lists-is)
          (zip_passed (IsKeptList s cubes given) is_named ks i k before at
          (ap is_named c.index-literals-i.is ∙ w.if-literals-i.false) c.loop-i.invariant)
    ]
