-- From the outcomes of alerts under silences to the receivers of these alerts, and how many of them
-- are silenced.
use Rattle.std.proofs.Common.{◌≡◌, ℕ, Bool, true, false, not, ◌&&◌, ◌==◌, length, List, [], ◌∷◌, map}
use Rattle.std.proofs.Common.{Contains, refl, sym, ap, ◌∙◌, subst, arith}
use Rattle.std.specs.Prelude.{if◌then◌else◌}
use Rattle.std.specs.List.{IsDistinct}
use Rattle.std.specs.Cmp.Lexicographic.{bytes_decides}
use Rattle.std.proofs.lemmas.Bool.{both_ways, cases_Bool, and_from, and_parts}
use Rattle.std.proofs.lemmas.Simd.{map-map}
use Rattle.std.proofs.lemmas.Grind.{common_steps}
use mathlib.Core.Bool.{beq}
use Rattle.am_universe.specs.LabelSet.{LabelMap}
use Rattle.am_universe.specs.Text.{same_text}
use Rattle.am_universe.proofs.ListLemmas.{IsIn, IsIn-map, IsIn-unmap, IsIn-from_Contains}
use Rattle.am_universe.proofs.ListLemmas.{Contains-from_IsIn, AllByRecursion-at}
use Rattle.am_labels.specs.Matcher.{Matcher}
use Rattle.am_labels.proofs.Passing.{any_in, in_any}
use Rattle.am_list_files.specs.AlertsFile.{labels_of}
use Rattle.am_config.specs.ConfigFile.{Configuration}
use Rattle.am_eval.specs.Routing.{receivers}
use Rattle.am_outcomes.specs.Configurations.{Silenced}
use Rattle.am_outcomes.specs.OutcomeLines.{list_at}
use Rattle.am_outcomes.specs.Outcomes.{AreOutcomesOf, firsts, is_silenced_by, outcome_of}
use Rattle.am_outcomes.proofs.FirstsLemmas.{Decides, first_is_one, first_of_key, firsts_apart}
use Rattle.am_rule_outcomes.specs.ReceiverOutcomes.{is_silenced_outcome, receiver_outcome}
use Rattle.am_rule_outcomes.specs.ReceiverOutcomes.{receiver_outcomes, receivers_of, silenced_of}
use Rattle.am_rule_outcomes.specs.ReceiverOutcomes.{some_with}
use Rattle.am_rule_outcomes.specs.RuleOutcomes.{AreRuleOutcomes, AreSilenced, RuleOutcome}
use Rattle.am_rule_outcomes.proofs.ChoiceOutcomes.{all_images}

-- a silenced alert is told by a list that is not empty
silenced_shows : (b : Bool) → not (length {A = ℕ} (if b then 0 ∷ [] else []) == 0) ≡ b
silenced_shows true = refl
silenced_shows false = refl

flags_decide : Decides beq
flags_decide a b = (λ e. grind (arith, common_steps, cases_Bool), λ e. grind (arith, common_steps, cases_Bool))

abbrev Texts : Type 0
Texts = List (List ℕ × List ℕ)

module _ (Are : LabelMap → Type 0) (c : Configuration) (silences : List (ℕ × List Matcher))
    (is_silenced : LabelMap → Bool)
    (same : (x : LabelMap) → is_silenced x ≡ is_silenced_by x silences)
    (outcomes : List (List (List ℕ) × Texts))
    (h : AreOutcomesOf Are (Silenced c silences) labels_of outcomes) where
  abbrev GoesTo : List ℕ → LabelMap → Type 0
  GoesTo rs alert = Are alert × (receivers alert c ≡ rs)

  receivers_are : (x : LabelMap) (o : List (List ℕ) × Texts) → o.0 ≡ outcome_of (Silenced c silences) x
      → receivers_of o ≡ receivers x c
  receivers_are x o e = ap (list_at 0) e

  silenced_is : (x : LabelMap) (o : List (List ℕ) × Texts) → o.0 ≡ outcome_of (Silenced c silences) x
      → is_silenced_outcome o ≡ is_silenced x
  silenced_is x o e =
      ap (λ ls. not (length (list_at 1 ls) == 0)) e ∙ silenced_shows (is_silenced_by x silences)
      ∙ sym (same x)

  is_of_alert : (o : List (List ℕ) × Texts) → IsIn outcomes o
      → Are (labels_of o.1) × (o.0 ≡ outcome_of (Silenced c silences) (labels_of o.1))
  is_of_alert o there =
      let of = AllByRecursion-at (λ (o : List (List ℕ) × Texts). Are (labels_of o.1)
      × (outcome_of (Silenced c silences) (labels_of o.1) ≡ o.0)) outcomes o h.each there in
      (of.0, sym of.1)

  has_outcome : (alert : LabelMap) → Are alert → (o : List (List ℕ) × Texts) × IsIn outcomes o
      × (o.0 ≡ outcome_of (Silenced c silences) alert)
  has_outcome alert is =
      IsIn-unmap (λ o. o.0) outcomes (outcome_of (Silenced c silences) alert)
      (IsIn-from_Contains (map (λ o. o.0) outcomes) _ (h.all alert is))

  -- ---- The receivers.

  abbrev keyed : List (List ℕ) × Texts → List ℕ × Texts
  keyed o = (receivers_of o, o.1)

  abbrev each_once : List (List ℕ × Texts)
  each_once = firsts same_text (map keyed outcomes)

  goes_to : (f : List ℕ × Texts) → IsIn each_once f → GoesTo f.0 (labels_of f.1)
  goes_to f there =
      let from = IsIn-unmap keyed outcomes f (first_is_one same_text (map keyed outcomes) f there) in
      let of = is_of_alert from.0 from.1 in
      subst (λ (g : List ℕ × Texts). GoesTo g.0 (labels_of g.1)) from.2
      (of.0, sym (receivers_are (labels_of from.0.1) from.0 of.1))

  same_receivers : map (λ (f : List ℕ × Texts). f.0) each_once
      ≡ map (λ (o : RuleOutcome). o.receivers) (receiver_outcomes outcomes)
  same_receivers = sym (map-map (λ (o : RuleOutcome). o.receivers) (receiver_outcome outcomes) each_once)

  all_go : (alert : LabelMap) → Are alert
      → Contains (map (λ (o : RuleOutcome). o.receivers) (receiver_outcomes outcomes)) (receivers alert c)
  all_go alert is =
      let o = has_outcome alert is in
      let first = first_of_key same_text bytes_decides (map keyed outcomes) (keyed o.0)
      (IsIn-map keyed outcomes o.0 o.1) in
      let keys : List (List ℕ) = map (λ (f : List ℕ × Texts). f.0) each_once in
      subst (λ rs. Contains rs (receivers alert c)) same_receivers
      (Contains-from_IsIn keys (receivers alert c)
      (subst (IsIn keys) (first.2 ∙ receivers_are alert o.0 o.2)
      (IsIn-map (λ (f : List ℕ × Texts). f.0) each_once first.0 first.1)))

  -- ---- Whether they are silenced.

  -- some outcome with these receivers is silenced, or not, exactly if some such alert is
  module _ (b : Bool) (rs : List ℕ) where
    abbrev passes : List (List ℕ) × Texts → Bool
    passes o = same_text (receivers_of o) rs && beq (is_silenced_outcome o) b

    some_passes : some_with b outcomes rs ≡ true
        → (alert : LabelMap) × GoesTo rs alert × (is_silenced alert ≡ b)
    some_passes e =
        let o = any_in passes outcomes e in
        let both = and_parts (same_text (receivers_of o.0) rs) (beq (is_silenced_outcome o.0) b) o.2 in
        let of = is_of_alert o.0 o.1 in
        let alert = labels_of o.0.1 in (
          alert,
          (
            of.0,
            sym (receivers_are alert o.0 of.1) ∙ (bytes_decides (receivers_of o.0) rs).0 both.0,
          ),
          sym (silenced_is alert o.0 of.1) ∙ (flags_decide (is_silenced_outcome o.0) b).0 both.1,
        )

    passes_some : (alert : LabelMap) → GoesTo rs alert → is_silenced alert ≡ b
        → some_with b outcomes rs ≡ true
    passes_some alert goes e =
        let o = has_outcome alert goes.0 in
        in_any passes outcomes o.0 o.1
        (and_from (same_text (receivers_of o.0) rs) (beq (is_silenced_outcome o.0) b)
        ((bytes_decides (receivers_of o.0) rs).1 (receivers_are alert o.0 o.2 ∙ goes.1))
        ((flags_decide (is_silenced_outcome o.0) b).1 (silenced_is alert o.0 o.2 ∙ e)))

  -- if none is, each alert is the other way
  none_passes : (b : Bool) (rs : List ℕ) → some_with b outcomes rs ≡ false → (alert : LabelMap)
      → GoesTo rs alert → is_silenced alert ≡ not b
  none_passes b rs none alert goes =
      let apart : is_silenced alert ≡ b → ⊥ =
      λ e. both_ways (some_with b outcomes rs) none (passes_some b rs alert goes e) in
      grind (arith, common_steps, cases_Bool)

  are_silenced : (rs : List ℕ) (some others : Bool) → some_with true outcomes rs ≡ some
      → some_with false outcomes rs ≡ others
      → AreSilenced is_silenced (GoesTo rs) (silenced_of some others)
  are_silenced rs false others none e = none_passes true rs none
  are_silenced rs true true some other =
      let one = some_passes true rs some in
      let firing = some_passes false rs other in
      record {
        one = one.0;
        one_is = one.1;
        one_silenced = one.2;
        other = firing.0;
        other_is = firing.1;
        other_fires = firing.2;
      }
  are_silenced rs true false some none = none_passes false rs none

  pub rule_outcomes_are : AreRuleOutcomes Are c is_silenced (receiver_outcomes outcomes)
  rule_outcomes_are = record {
    each = all_images (λ (o : RuleOutcome). GoesTo o.receivers (labels_of o.first))
        (receiver_outcome outcomes) each_once goes_to;
    all = all_go;
    once = subst (IsDistinct same_text) same_receivers
        (firsts_apart same_text bytes_decides (map keyed outcomes));
    silenced = all_images (λ (o : RuleOutcome). AreSilenced is_silenced (GoesTo o.receivers) o.silenced)
        (receiver_outcome outcomes) each_once (λ f i.
        are_silenced f.0 (some_with true outcomes f.0) (some_with false outcomes f.0) refl refl);
  }
