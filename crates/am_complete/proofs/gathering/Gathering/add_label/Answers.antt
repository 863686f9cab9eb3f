use Rattle.std.proofs.Common.{◌≡◌, ◌++◌, ◌∷◌, [], ap, sym, ◌∙◌, subst, refl}
use Rattle.std.proofs.lemmas.Map.Text.{btree_map_updates_str}
use Rattle.am_complete.specs.Gathering.{IsIndexed}
use Rattle.am_complete.proofs.GatheringLemmas.{indexed_push}
use Rattle.am_complete.proofs.gathering.Gathering.add_label.Goals as goal

pub invariant_of-self-2 : goal.invariant_of-self-2
invariant_of-self-2 c =
    let label = c.in_ok-label.label in
    let longer : c.push.new.self.items ≡ c.self.inside.labels.items ++ label ∷ [] =
    rw (c.in-Ok.ensures.items, c.in_ok-reserve.ensures.items) refl in
    subst (IsIndexed c.insert.new.self) (sym longer)
    (indexed_push c.self.inside.positions c.insert.new.self c.self.inside.labels.items label
    c.name.result.now c.len.result c.self.invariant
    (ap (λ l. l.name) c.in_ok-label.ensures ∙ sym c.name.ensures.name)
    (rw (c.name.ensures.name, c.self.view_is) c.requires)
    (c.len.ensures ∙ c.in_ok-reserve.ensures.len ∙ c.self.inside.labels.ok.0)
    (btree_map_updates_str c.name.result.now c.self.inside.positions c.insert.new.self _
    c.in_ok-insert.ensures.updates))
