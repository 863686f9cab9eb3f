use Rattle.std.proofs.Common.{◌≡◌, ◌≤◌, ◌<◌, ◌+◌, Bool, true, false, length, take, drop, Some, refl, sym, ap, ◌∙◌, arith, ◌&&◌}
use Rattle.std.specs.Prelude.{slice_get}
use mathlib.Core.Bool.{beq}
use Rattle.std.proofs.lemmas.Bool.{false≢true}
use Rattle.std.proofs.lemmas.List.{take_all, take-append-drop}
use Rattle.std.proofs.lemmas.List.Folds.{list_all_more, list_all-append}
use Rattle.std.proofs.lemmas.Option.{get_or_from_slice_get, slice_get_within, IfSome_then}
use Rattle.am_universe.specs.LabelSet.{value_of}
use Rattle.am_labels.specs.Matcher.{all_hold, condition_holds}
use Rattle.am_alerts.specs.Judge.{passes}
use Rattle.am_alerts.specs.AlertLabels.{flag, Keeps}
use Rattle.am_alerts.proofs.AlertLabelLemmas.{Keeps-both}
use Rattle.am_alerts.proofs.alert_labels.AlertLabels.matched.Goals as goal

is_false : (b : Bool) → beq b true ≡ false → b ≡ false
is_false true e = e
is_false false e = refl

none_left : (a p q x : Bool) → x ≡ (a && p) → x ≡ false → x ≡ (a && (p && q))
none_left true true q x e f = absurd (false≢true (sym f ∙ e))
none_left true false q x e f = f
none_left false p q x e f = f

pub kept-requires-clause-sound : goal.kept-requires-clause-sound
kept-requires-clause-sound c =
    c.in_ok-judge.ensures.sound c.self.inside.sorted.values.keys
    (IfSome_then c.loop-i.last c.loop-i.invariant.last (λ known is. is.0))

pub loop-i-preserved : goal.loop-i-preserved
loop-i-preserved c =
    let alerts = c.args.self.now in
    let ms = c.args.matchers.now in
    let i = c.loop-i.i in
    let m = c.get-matcher.result.now in
    let there : slice_get ms i ≡ Some m = c.get-matcher.ensures.matcher in
    let kept = c.in_ok-left-2.ensures.kept in
    let judge = c.in_ok-judge.judge in
    let next : Keeps alerts (λ s. condition_holds s m) c.loop-i.left.items c.in_ok-left-2.left.items = (
      kept.0 ∙ ap length c.self.view_is,
      λ k s at. kept.1 k s (ap (λ alerts. slice_get alerts k) c.self.view_is ∙ at)
          ∙ ap (λ n. flag c.loop-i.left.items k && passes judge.test (value_of s n)) c.name.ensures.name
          ∙ ap (λ b. flag c.loop-i.left.items k && b) (c.in_ok-judge.ensures.test (value_of s m.name)),
    ) in
    record {
      kept = Keeps-both alerts (λ s. all_hold s (take i ms)) (λ s. condition_holds s m)
          (λ s. all_hold s (take (i + 1) ms)) c.args.among.now c.loop-i.left.items c.in_ok-left-2.left.items
          (λ s. list_all_more (condition_holds s) ms i m (slice_get_within ms i m there)
          ∙ ap (λ n. all_hold s (take i ms) && condition_holds s n) (get_or_from_slice_get ms i m m there))
          c.loop-i.invariant.kept next;
      last = (
        c.in_ok-left-2.ensures.sound,
        λ value. ap (λ t. passes t value) c.in_ok-left-2.ensures.test ∙ c.in_ok-judge.ensures.test value,
      );
    }

pub returns-then-not-contains : goal.returns-then-not-contains
returns-then-not-contains c =
    let ms = c.args.matchers.now in
    let i = c.loop-i.i in
    let left = c.loop-i.left.items in
    record {
      matched = (
        c.loop-i.invariant.kept.0,
        λ k s at.
            let within : k < length left =
            omega (arith, slice_get_within c.args.self.now k s at, c.loop-i.invariant.kept.0) in
            let none : flag left k ≡ false = is_false (flag left k)
            (ap (λ flags. beq (flag flags k) true) (sym c.deref.ensures.value)
            ∙ c.if-not-contains.ensures.cases k false (omega arith)
            (omega (arith, within, ap length c.deref.ensures.value))) in
            none_left (flag c.args.among.now k) (all_hold s (take i ms)) (all_hold s (drop i ms)) (flag left k)
            (c.loop-i.invariant.kept.1 k s at) none
            ∙ ap (λ b. flag c.args.among.now k && b)
            (sym (list_all-append (condition_holds s) (take i ms) (drop i ms))
            ∙ ap (all_hold s) (take-append-drop i ms)),
      );
    }

pub returns : goal.returns
returns c =
    let ms = c.args.matchers.now in
    let all : length ms ≤ c.loop-i.i =
    omega (arith, c.len-i-end.ensures.len, c.loop-i-test.false) in
    record {
      matched = (
        c.loop-i.invariant.kept.0,
        λ k s at. c.loop-i.invariant.kept.1 k s at
            ∙ ap (λ xs. flag c.args.among.now k && all_hold s xs) (take_all c.loop-i.i ms all),
      );
    }
