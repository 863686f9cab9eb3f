-- The call on the map in memory changes the view in the same way: it removes or inserts the value.
use Rattle.std.proofs.Common.{◌≡◌, string_bytes, ap, sym, ◌∙◌, subst, arith}
use Rattle.std.proofs.lemmas.Bool.Decides.{nat_tests}
use Rattle.am_universe.specs.LabelSet.{with_value, HasTextsAlone}
use Rattle.am_universe.specs.LabelSetView.{label_map_of}
use Rattle.am_universe.proofs.LabelMapLemmas.{removed_with, inserted_with, HasTextsAlone-with_value}
use Rattle.am_universe.proofs.label_set.LabelSet.put.Goals as goal
use Rattle.am_universe.proofs.label_set.LabelSet.put.Goals.{After-drop-name, in-Some-2, in-None-2}

removed : (c : After-drop-name) → label_map_of c.remove.new.self.entries ≡ with_value (label_map_of c.self.inside.values.entries) (string_bytes c.args.name) (string_bytes c.args.value)
removed c = removed_with c.self.inside.values c.remove.new.self _ _ _ c.as_str.ensures.value (grind (arith, nat_tests)) c.remove.ensures.updates

pub invariant_of-self : goal.invariant_of-self
invariant_of-self c = subst HasTextsAlone (sym (removed c)) (HasTextsAlone-with_value _ _ _ c.self.invariant)

pub invariant_of-self-in_ok-insert : goal.invariant_of-self-in_ok-insert
invariant_of-self-in_ok-insert c =
    let is = inserted_with c.self.inside.values c.insert.new.self _ c.args.value (λ e. grind (arith, nat_tests)) c.in_ok-insert.ensures.updates in
    subst HasTextsAlone (sym is) (HasTextsAlone-with_value _ _ _ c.self.invariant)

pub invariant_of-self-in_ok-insert-2 : goal.invariant_of-self-in_ok-insert-2
invariant_of-self-in_ok-insert-2 c =
    let is = inserted_with c.self.inside.values c.insert.new.self _ c.args.value (λ e. grind (arith, nat_tests)) c.in_ok-insert.ensures.updates in
    subst HasTextsAlone (sym is) (HasTextsAlone-with_value _ _ _ c.self.invariant)

pub returns-then-is_empty-clause-ok : goal.returns-then-is_empty-clause-ok
returns-then-is_empty-clause-ok c = removed c ∙ ap (λ s. with_value s (string_bytes c.args.name) (string_bytes c.args.value)) c.self.view_is

pub returns-in_ok-insert-clause-ok : goal.returns-in_ok-insert-clause-ok
returns-in_ok-insert-clause-ok c =
    let is = inserted_with c.self.inside.values c.insert.new.self _ c.args.value (λ e. grind (arith, nat_tests)) c.in_ok-insert.ensures.updates ∙ ap (λ s. with_value s (string_bytes c.args.name) (string_bytes c.args.value)) c.self.view_is in
    elim c.match-branch-2.branch [ in-Some-2 w ↦ w.self-is ∙ is | in-None-2 w ↦ w.self-is ∙ is ]
