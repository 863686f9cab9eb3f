use Rattle.std.proofs.Common.{◌≡◌, ◌++◌, List, ℕ, Some, sym, ap, ◌∙◌}
use Rattle.std.proofs.lemmas.Map.Text.{btree_map_updates_str}
use Rattle.std.proofs.lemmas.Result.{IfOk-weaker}
use Rattle.am_unseen.specs.Unseen.{seen_values}
use Rattle.am_unseen.specs.Search.{Search, kept_at}
use Rattle.am_unseen.proofs.KeptMaps.{one_fewer}
use Rattle.am_unseen.proofs.search.Search.take_values.Goals as goal

-- the sets of the other labels are left
pub invariant_of-self : goal.invariant_of-self
invariant_of-self c =
    let known = c.self.inside.alerts.now ++ c.self.inside.rules.now in
    one_fewer (λ name values. values ≡ seen_values known name) c.self.inside.seen c.remove.new.self
    c.args.name.now c.self.invariant
    (btree_map_updates_str c.args.name.now c.self.inside.seen c.remove.new.self _ c.remove.ensures.updates)

pub invariant_of-self-2 : goal.invariant_of-self-2
invariant_of-self-2 c =
    let known = c.self.inside.alerts.now ++ c.self.inside.rules.now in
    one_fewer (λ name values. values ≡ seen_values known name) c.self.inside.seen c.remove.new.self
    c.args.name.now c.self.invariant
    (btree_map_updates_str c.args.name.now c.self.inside.seen c.remove.new.self _ c.remove.ensures.updates)

pub returns-in-Some-clause-values : goal.returns-in-Some-clause-values
returns-in-Some-clause-values c =
    c.self.invariant c.args.name.now c.in-Some.values (sym c.in-Some.ensures.value)
    ∙ ap (λ (s : Search). seen_values s.known c.args.name.now) c.self.view_is

pub returns-clause-values : goal.returns-clause-values
returns-clause-values c =
    IfOk-weaker c.of.result _ _ (λ known e. e ∙ c.in_ok-values.ensures
    ∙ ap (λ (s : Search). seen_values s.known c.args.name.now) c.self.view_is) c.of.ensures
