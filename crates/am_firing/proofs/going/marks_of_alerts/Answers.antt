-- The marks of one more alert.
use Rattle.std.proofs.Common.{◌≡◌, ◌==◌, ◌<◌, ◌∷◌, [], List, ℕ, length, map, Some, ap, sym, subst, ◌∙◌, append_assoc}
use Rattle.std.specs.Prelude.{slice_get}
use Rattle.std.specs.List.{All, list_any, range_with_len}
use Rattle.std.proofs.lemmas.List.{map-append}
use Rattle.std.proofs.lemmas.List.Elements.{All-from_recursion}
use Rattle.am_universe.proofs.Members.{left_at}
use Rattle.am_config.specs.ConfigFile.{Configuration}
use Rattle.am_config.specs.ConfigView.{config_view}
use Rattle.am_eval.specs.Routing.{receivers}
use Rattle.am_firing.specs.Going.{marks_of}
use Rattle.am_firing.proofs.Declared.{receivers_declared}
use Rattle.am_firing.proofs.going.marks_of_alerts.Goals as goal

pub marks_at-requires : goal.marks_at-requires
marks_at-requires c =
    let config = config_view c.config.result.now in
    let alert = c.get.result.now in
    let all : c.as_slice.result.now ≡ receivers alert config =
    c.as_slice.ensures.value ∙ c.in_ok-receivers.ensures.receivers in
    let count : c.receivers-count.result ≡ length config.receivers =
    c.receivers-count.ensures.count
    ∙ ap (λ (k : Configuration). length k.receivers) (c.config-in-loop-i.ensures.config ∙ sym c.config.ensures.config) in
    subst (λ (xs : List ℕ). All (λ position. position < c.receivers-count.result) xs) (sym all)
    (subst (λ (n : ℕ). All (λ position. position < n) (receivers alert config)) (sym count)
    (All-from_recursion (λ position. position < length config.receivers) (receivers alert config)
    (receivers_declared config alert c.config.result.now.sound)))

pub loop-i-preserved : goal.loop-i-preserved
loop-i-preserved c =
    let w = c.args.world.now in
    let i = c.loop-i.i in
    let alert = c.get.result.now in
    let all : c.as_slice.result.now ≡ receivers alert w.config =
    c.as_slice.ensures.value ∙ c.in_ok-receivers.ensures.receivers
    ∙ ap (receivers alert) c.config.ensures.config in
    let count : c.receivers-count.result ≡ length w.config.receivers =
    c.receivers-count.ensures.count
    ∙ ap (λ (k : Configuration). length k.receivers) c.config-in-loop-i.ensures.config in
    let at : slice_get w.alerts i ≡ Some alert =
    ap (λ xs. slice_get xs i) (sym c.alerts-in-loop-i.ensures.alerts) ∙ c.get.ensures.alert in
    let is : c.in_ok-marks_at.field-0.items ≡ marks_of w.config alert =
    c.in_ok-marks_at.ensures
    ∙ (λ k. map (λ r. list_any (λ position. position == r) (all k)) (range_with_len 0 (count k))) in
    rw (c.in_ok-push.ensures.items, map-append, is)
    (append_assoc _ (marks_of w.config alert ∷ []) _
    ∙ (rw (left_at w.alerts i alert at) at c.loop-i.invariant))
