use Rattle.std.proofs.Common.{◌≡◌, sym, ◌∙◌, subst, map, refl, true, false, [], ◌∷◌, ◌++◌}
use Rattle.std.specs.List.{list_any}
use Rattle.std.proofs.lemmas.List.{map-append}
use Rattle.std.proofs.lemmas.Map.Text.{btree_map_updates_str}
use Rattle.am_complete.specs.AskedLabel.{AskedLabel, same_op, asks_same, with_matcher}
use Rattle.am_complete.specs.Operators.{operators_with, HasOperatorsOf}
use Rattle.am_complete.proofs.OperatorLemmas.{one_matcher_more, PutsOperator}
use Rattle.am_complete.proofs.asked_label.AskedLabel.add.Goals as goal

pub returns-then-contains-clause-ok : goal.returns-then-contains-clause-ok
returns-then-contains-clause-ok c =
    let m = c.args.matcher.now in
    let asked : list_any (λ op. same_op op m.op) (operators_with c.self.inside.operators m.value)
    ≡ c.contains.result =
    rw (c.contains.ensures.value, c.operators_beside-found.ensures, c.op-op.ensures.op) refl in
    let some : list_any (asks_same m) (map (λ x. x.now) c.self.inside.matchers.items) ≡ true =
    sym (c.self.invariant.1 m) ∙ asked ∙ c.if-contains.true in
    subst (λ (l : AskedLabel). l ≡ with_matcher m l) c.self.view_is (rw some refl)

pub invariant_of-self-2 : goal.invariant_of-self-2
invariant_of-self-2 c =
    let m = c.args.matcher.now in
    let operators = c.self.inside.operators in
    let longer : map (λ x. x.now) c.push-2.new.self.items
    ≡ map (λ x. x.now) c.self.inside.matchers.items ++ m ∷ [] =
    rw (c.in-Ok.ensures.items, c.in_ok-reserve.ensures.items, map-append) refl in
    let puts : PutsOperator operators m c.push.new.self c.insert.new.self = (
      rw (
        c.in_ok-push.ensures.items,
        c.in_ok-operators.ensures.items,
        c.operators_beside-found.ensures,
        c.op-op.ensures.op,
      ) refl,
      rw (← c.value.ensures.value)
          (btree_map_updates_str c.value.result.now operators c.insert.new.self _
          c.in_ok-insert.ensures.updates),
    ) in (
      c.self.invariant.0,
      subst (HasOperatorsOf c.insert.new.self) (sym longer)
          (one_matcher_more operators c.insert.new.self _ m c.push.new.self c.self.invariant.1 puts),
    )

pub returns-clause-ok : goal.returns-clause-ok
returns-clause-ok c =
    let m = c.args.matcher.now in
    let asked : list_any (λ op. same_op op m.op) (operators_with c.self.inside.operators m.value)
    ≡ c.contains.result =
    rw (c.contains.ensures.value, c.operators_beside-found.ensures, c.op-op.ensures.op) refl in
    let none : list_any (asks_same m) (map (λ x. x.now) c.self.inside.matchers.items) ≡ false =
    sym (c.self.invariant.1 m) ∙ asked ∙ c.if-contains.false in
    rw (
      ← c.self.view_is,
      none,
      c.in-Ok.ensures.items,
      c.in_ok-reserve.ensures.items,
      map-append,
    ) refl
