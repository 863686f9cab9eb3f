-- The values of a label are put back, unless memory runs out.
use Rattle.std.proofs.Common.{◌≡◌, ◌++◌, List, ℕ, sym, ap, ◌∙◌}
use Rattle.std.proofs.lemmas.Map.Text.{btree_map_updates_str}
use Rattle.am_unseen.specs.Unseen.{seen_values}
use Rattle.am_unseen.specs.Search.{Search}
use Rattle.am_unseen.proofs.KeptMaps.{one_more, as_before}
use Rattle.am_unseen.proofs.search.Search.unseen_by.Goals as goal

pub invariant_of-self : goal.invariant_of-self
invariant_of-self c =
    let known = c.self.inside.alerts.now ++ c.self.inside.rules.now in
    as_before (λ name values. values ≡ seen_values known name) c.self.inside.seen c.insert.new.self
    c.name-2.result.now c.self.invariant c.in_err-insert.ensures.err

pub invariant_of-self-2 : goal.invariant_of-self-2
invariant_of-self-2 c =
    let known = c.self.inside.alerts.now ++ c.self.inside.rules.now in
    let name = c.name-2.result.now in
    one_more (λ name values. values ≡ seen_values known name) c.self.inside.seen c.insert.new.self
    name c.self.invariant c.unseen.new.self
    (c.in_ok-unseen.ensures.same ∙ c.in_ok-values.ensures.values
    ∙ (λ i. seen_values (sym (c.self.view_is ∙ c.in_ok-values.ensures.same) i).known
    ((c.name.ensures.name ∙ sym c.name-2.ensures.name) i)))
    (btree_map_updates_str name c.self.inside.seen c.insert.new.self _ c.in_ok-insert.ensures.updates)
