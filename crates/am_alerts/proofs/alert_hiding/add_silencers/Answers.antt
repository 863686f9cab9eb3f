use Rattle.std.proofs.Common.{◌≡◌, ◌++◌, ◌∷◌, [], ◌+◌, ◌&&◌, if◌then◌else◌, Some, inl, inr, sym, ap, ◌∙◌, drop, arith, length}
use Rattle.std.specs.Prelude.{slice_get}
use Rattle.std.proofs.lemmas.Option.{slice_get_cases, same_Some}
use Rattle.am_universe.proofs.Members.{left_at}
use Rattle.am_list_files.specs.SilencesFile.{Silence}
use Rattle.am_labels.specs.Matcher.{all_hold}
use Rattle.am_eval.specs.Silencing.{hides, positions_where}
use Rattle.am_alerts.specs.AlertLabels.{flag}
use Rattle.am_alerts.specs.AlertLists.{list_at}
use Rattle.am_alerts.proofs.AlertListLemmas.{added}
use Rattle.am_alerts.proofs.alert_hiding.add_silencers.Goals as goal
use Rattle.am_alerts.proofs.alert_hiding.add_silencers.Goals.{then-active+in_ok-hidden+in_ok-push_where, else-active}

pub loop-i-preserved : goal.loop-i-preserved
loop-i-preserved c = λ k s at.
    let w = c.args.world.now in
    let i = c.loop-i.i in
    let before = list_at c.loop-i.found k in
    let left = positions_where (hides w s) (i + 1) (drop (i + 1) w.silences) in
    elim (slice_get_cases w.silences i).1 [
      | inl there ↦
          let silence = there.0 in
          let here : slice_get w.silences i ≡ Some silence = there.2 in
          let active = c.active.ensures.active silence here in
          let next : list_at c.if-active.found k
          ≡ (if hides w s silence then before ++ i ∷ [] else before) =
          elim c.if-active.branch [
            | then-active+in_ok-hidden+in_ok-push_where b ↦
                let same : b.get.result.now ≡ silence =
                same_Some b.get.result.now silence (sym b.get.ensures.silence
                ∙ ap (λ xs. slice_get xs i) b.silences-then-active.ensures.silences ∙ here) in
                ap (λ lists. list_at lists k) b.found-is
                ∙ b.in_ok-push_where.ensures.pushed k
                ∙ ap (λ f. if f then before ++ i ∷ [] else before)
                (ap (λ flags. flag flags k) b.as_slice.ensures.value
                ∙ b.in_ok-hidden.ensures.matching.1 k s at
                ∙ ap (all_hold s) (b.matchers.ensures.matchers ∙ ap (λ (x : Silence). x.matchers) same)
                ∙ ap (λ a. a && all_hold s silence.matchers) (sym b.if-active.true ∙ active))
            | else-active b ↦
                ap (λ lists. list_at lists k) b.found-is
                ∙ ap (λ a. if a && all_hold s silence.matchers then before ++ i ∷ [] else before)
                (sym b.if-active.false ∙ active)
          ] in
          added (hides w s silence) i before (list_at c.if-active.found k) left next
          ∙ ap (λ xs. before ++ positions_where (hides w s) i xs) (sym (left_at w.silences i silence here))
          ∙ c.loop-i.invariant k s at
      | inr past ↦ absurd (omega (arith, past.0, c.loop-i-test.true, c.len-i-end.ensures.count, ap length c.silences.ensures.silences))
    ]
