-- Which matchers tell the outcome of an alert.
use Rattle.std.proofs.Common.{◌≡◌, ◌||◌, ℕ, List, [], ◌∷◌, map, refl, ap}
use Rattle.std.specs.Prelude.{if◌then◌else◌}
use Rattle.std.specs.List.{filter_map, flat_map}
use Rattle.am_universe.specs.LabelSet.{LabelMap}
use Rattle.am_labels.specs.Matcher.{Matcher}
use Rattle.am_config.specs.ConfigFile.{Configuration, options_of}
use Rattle.am_config.specs.Path.{route_at}
use Rattle.am_eval.specs.Routing.{receiver_at}
use Rattle.am_asked.specs.Asked.{route_matchers}
use Rattle.am_differences.specs.Options.{differing_options}
use Rattle.am_every_alert.specs.EveryAlert.{MeetsTheSame}
use Rattle.am_every_alert.proofs.TreatedAlike.{all_alike, front_met, rest_met, same_ends}
use Rattle.am_every_alert.proofs.TreatedAlike.{same_receivers}
use Rattle.am_outcomes.specs.Configurations.{Configurations, One, Pair, Silenced, Ends, Matched}
use Rattle.am_outcomes.specs.Handling.{route_pairs}
use Rattle.am_outcomes.specs.Outcomes.{is_silenced_by, outcome_of}
use Rattle.am_rule_outcomes.specs.StandsForOutcomes.{outcome_matchers}

-- the outcome of an alert under two configurations, by its ends
abbrev by_ends : Configuration → Configuration → List (List ℕ) → List (List ℕ) → List (List ℕ)
by_ends old new before after =
    filter_map (receiver_at old) before ∷ filter_map (receiver_at new) after
    ∷ differing_options (map (λ p. (options_of p.0, options_of p.1))
    (route_pairs old new (filter_map (route_at old.root) before)
    (filter_map (route_at new.root) after))) ∷ []

module _ (x y : LabelMap) where
  silenced_alike : (silences : List (ℕ × List Matcher))
      → MeetsTheSame (flat_map (λ silence. silence.1) silences) x y
      → is_silenced_by x silences ≡ is_silenced_by y silences
  silenced_alike [] met = refl
  silenced_alike (silence ∷ silences) met =
      let rest = flat_map (λ (other : ℕ × List Matcher). other.1) silences in
      λ i. all_alike x y silence.1 (front_met x y silence.1 rest met) i
      || silenced_alike silences (rest_met x y silence.1 rest met) i

  pub told_by_matchers : (k : Configurations) → MeetsTheSame (outcome_matchers k) x y
      → outcome_of k x ≡ outcome_of k y
  told_by_matchers (One c) met = ap (λ rs. rs ∷ []) (same_receivers x y c met)
  told_by_matchers (Pair old new) met =
      let before = route_matchers old.root in
      let after = route_matchers new.root in
      let first = same_ends x y old (front_met x y before after met) in
      let second = same_ends x y new (rest_met x y before after met) in
      λ i. by_ends old new (first i) (second i)
  told_by_matchers (Silenced c silences) met =
      let routes = route_matchers c.root in
      let others = flat_map (λ (silence : ℕ × List Matcher). silence.1) silences in
      let same = same_receivers x y c (front_met x y routes others met) in
      let silenced = silenced_alike silences (rest_met x y routes others met) in
      λ i. same i ∷ (if silenced i then 0 ∷ [] else []) ∷ []
  told_by_matchers (Ends c) met =
      ap (λ ends. filter_map (receiver_at c) ends ∷ ends) (same_ends x y c met)
  told_by_matchers (Matched ms) met =
      ap (λ b. (if b then 0 ∷ [] else []) ∷ []) (all_alike x y ms met)
