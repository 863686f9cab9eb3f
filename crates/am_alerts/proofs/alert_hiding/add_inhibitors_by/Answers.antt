use Rattle.std.proofs.Common.{◌≡◌, ◌<◌, ◌++◌, ◌∷◌, [], ◌+◌, ◌&&◌, not, ℕ, List, Bool, true, false, if◌then◌else◌, inl, inr, refl, sym, ap, ◌∙◌, map, drop, arith, length}
use Rattle.std.proofs.lemmas.List.{get_or_default}
use Rattle.std.proofs.lemmas.Option.{slice_get_cases}
use Rattle.am_universe.proofs.Members.{left_at}
use Rattle.am_labels.specs.Matcher.{all_hold}
use Rattle.am_eval.specs.Silencing.{positions_where}
use Rattle.am_eval.specs.Inhibition.{inhibits, have_equal, is_two_sided}
use Rattle.am_alerts.specs.AlertLabels.{flag}
use Rattle.am_alerts.specs.AlertLists.{list_at}
use Rattle.am_alerts.proofs.AlertListLemmas.{added}
use Rattle.am_alerts.proofs.alert_hiding.add_inhibitors_by.Goals as goal
use Rattle.am_alerts.proofs.alert_hiding.add_inhibitors_by.Goals.{then-index+in_ok-muted+in_ok-push_where, else-index}

mapped_if : {X Y : Type 0} (f : X → Y) (b : Bool) (x : X) (left : List X)
    → (if b then f x ∷ map f left else map f left) ≡ map f (if b then x ∷ left else left)
mapped_if f true x left = refl
mapped_if f false x left = refl

pub push_where-requires : goal.push_where-requires
push_where-requires c =
    ap length c.as_slice.ensures.value ∙ c.in_ok-muted.ensures.count
    ∙ sym (c.loop-firing.auto.found ∙ c.requires)

pub loop-firing-preserved : goal.loop-firing-preserved
loop-firing-preserved c = λ k s at.
    let alerts = c.args.labels.now in
    let rule = c.args.rule.now in
    let firing = c.loop-firing.firing in
    let at_position = λ (n : ℕ). let pair : ℕ × ℕ = (c.args.position, n) in pair in
    let here = at_position firing in
    let before = list_at c.loop-firing.found k in
    let after = positions_where (λ a. inhibits rule a s) (firing + 1) (drop (firing + 1) alerts) in
    elim (slice_get_cases alerts firing).1 [
      | inl there ↦
          let a = there.0 in
          let next : list_at c.if-index.found k ≡ (if inhibits rule a s then before ++ here ∷ [] else before) =
          elim c.if-index.branch [
            | then-index+in_ok-muted+in_ok-push_where b ↦
                ap (λ lists. list_at lists k) b.found-is
                ∙ b.in_ok-push_where.ensures.pushed k
                ∙ ap (λ f. if f then before ++ here ∷ [] else before)
                (ap (λ flags. flag flags k) b.as_slice.ensures.value
                ∙ (b.in_ok-muted.ensures.muted a there.2).1 k s at)
            | else-index b ↦
                let source = c.in_ok-source.source.items in
                let within : firing < length source =
                omega (arith, there.1, c.in_ok-source.ensures.matching.0) in
                let none : false ≡ all_hold a rule.source =
                sym b.if-index.false ∙ c.index.ensures
                ∙ get_or_default source firing c.index.result.now false within
                ∙ c.in_ok-source.ensures.matching.1 firing a there.2
                ∙ ap (all_hold a) c.source.ensures.source in
                ap (λ lists. list_at lists k) b.found-is
                ∙ ap (λ x. if ((x && all_hold s rule.target) && have_equal rule.equal a s)
                && not ((x && all_hold a rule.target) && is_two_sided rule s)
                then before ++ here ∷ [] else before) none
          ] in
          added (inhibits rule a s) here before (list_at c.if-index.found k) (map at_position after) next
          ∙ ap (λ xs. before ++ xs) (mapped_if at_position (inhibits rule a s) firing after)
          ∙ ap (λ xs. before ++ map at_position (positions_where (λ a. inhibits rule a s) firing xs))
          (sym (left_at alerts firing a there.2))
          ∙ c.loop-firing.invariant k s at
      | inr past ↦ absurd (omega (
        arith,
        past.0,
        c.loop-firing-test.true,
        c.len-firing-end.ensures.count,
        ap length c.alerts.ensures.alerts,
      ))
    ]
