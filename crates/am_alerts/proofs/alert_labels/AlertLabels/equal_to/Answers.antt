use Rattle.std.proofs.Common.{◌≡◌, ◌+◌, ℕ, List, Bool, true, false, take, refl, sym, ap, ◌∙◌, ◌&&◌, string_bytes, length}
use Rattle.std.specs.Prelude.{slice_get}
use Rattle.std.specs.List.{list_all}
use Rattle.std.proofs.lemmas.List.{take_all, map_more}
use Rattle.std.proofs.lemmas.List.Folds.{list_all-append}
use Rattle.am_universe.specs.LabelSet.{LabelMap, value_of}
use Rattle.am_universe.specs.Text.{same_text}
use Rattle.am_config.specs.RouteView.{names_of}
use Rattle.am_eval.specs.Inhibition.{have_equal}
use Rattle.am_alerts.specs.Judge.{passes}
use Rattle.am_alerts.specs.AlertLabels.{flag, Keeps}
use Rattle.am_alerts.proofs.AlertLabelLemmas.{Keeps-both}
use Rattle.am_alerts.proofs.alert_labels.AlertLabels.equal_to.Goals as goal

and_true : (b : Bool) → (b && true) ≡ b
and_true true = refl
and_true false = refl

pub kept-requires-clause-sound : goal.kept-requires-clause-sound
kept-requires-clause-sound c = c.of-judge.ensures.sound c.self.inside.sorted.values.keys

pub loop-name-preserved : goal.loop-name-preserved
loop-name-preserved c =
    let names = c.args.names.now in
    let set = c.args.set.now in
    let i = c.loop-name.name-index in
    let name = string_bytes c.name-item.result in
    let kept = c.in_ok-left-2.ensures.kept in
    let same = λ (s : LabelMap) (n : List ℕ). same_text (value_of set n) (value_of s n) in
    let next : Keeps c.args.self.now (λ s. same s name) c.loop-name.left.items c.in_ok-left-2.left.items = (
      kept.0 ∙ ap length c.self.view_is,
      λ k s at. kept.1 k s (ap (λ alerts. slice_get alerts k) c.self.view_is ∙ at)
          ∙ ap (λ t. flag c.loop-name.left.items k && passes t (value_of s c.deref-in-loop-name.result.now))
          c.of-judge.ensures.test
          ∙ (λ j. flag c.loop-name.left.items k
          && same_text ((c.get.ensures.value ∙ ap (value_of set) c.deref.ensures) j)
          (value_of s (c.deref-in-loop-name.ensures j))),
    ) in
    Keeps-both c.args.self.now (λ s. have_equal (names_of (take i names)) set s) (λ s. same s name)
    (λ s. have_equal (names_of (take (i + 1) names)) set s) c.args.among.now c.loop-name.left.items
    c.in_ok-left-2.left.items
    (λ s.
    ap (list_all (same s)) (map_more string_bytes names i c.name-item.result c.loop-name-test.true)
    ∙ list_all-append (same s) (names_of (take i names)) _
    ∙ ap (λ b. list_all (same s) (names_of (take i names)) && b)
    (and_true _ ∙ ap (λ n. same s (string_bytes n)) (sym c.name-item.is)))
    c.loop-name.invariant next

pub returns : goal.returns
returns c =
    let names = c.args.names.now in
    record {
      equal = (
        c.loop-name.invariant.0,
        λ k s at. c.loop-name.invariant.1 k s at
            ∙ ap (λ xs. flag c.args.among.now k && have_equal (names_of xs) c.args.set.now s)
            (take_all c.loop-name.name-index names c.loop-name-test.false),
      );
    }
