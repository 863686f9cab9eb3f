-- An alert is silenced exactly if some way to be silenced holds, and inhibited exactly if some way
-- to be inhibited does.
use Rattle.std.proofs.Common.{◌≡◌, List, ℕ, [], ◌∷◌, map, Bool, true, false, not, ◌&&◌, rules}
use Rattle.std.proofs.Common.{refl, sym, ◌∙◌, arith}
use Rattle.std.specs.List.{filter, list_all, list_any}
use Rattle.std.specs.Cmp.Lexicographic.{texts_ties}
use Rattle.std.proofs.lemmas.Bool.{cases_Bool}
use Rattle.std.proofs.lemmas.List.Folds.{list_all-append, list_all-map}
use Rattle.std.proofs.lemmas.Grind.{common_steps}
use Rattle.am_universe.specs.LabelSet.{LabelMap, value_of}
use Rattle.am_universe.specs.Text.{same_text}
use Rattle.am_universe.proofs.LabelMapLemmas.{flips}
use Rattle.am_labels.specs.Matcher.{all_hold, condition_holds}
use Rattle.am_config.specs.ConfigFile.{Rule}
use Rattle.am_list_files.specs.SilencesFile.{Silence}
use Rattle.am_eval.specs.World.{World}
use Rattle.am_eval.specs.Silencing.{is_active, is_silenced}
use Rattle.am_eval.specs.Inhibition.{have_equal, inhibits, is_inhibited}
use Rattle.am_eval.specs.Conditions.{literal_holds, some_way_holds, matching}
use Rattle.am_eval.specs.Conditions.{silencing_ways, same_value, inhibiting_way, inhibiting_ways}
use Rattle.am_eval.proofs.SomeWay.{some_way-joined}

same_text-turned : (a b : List ℕ) → same_text a b ≡ same_text b a
same_text-turned a b = texts_ties a b ∙ flips a b

-- matchers that ask for the values of a firing alert say that both alerts have the same values
pub same_values : (firing s : LabelMap) (names : List (List ℕ))
    → all_hold s (map (same_value firing) names) ≡ have_equal names firing s
same_values firing s names =
    list_all-map (condition_holds s) (same_value firing) names
    ∙ (λ i. list_all (λ name. same_text-turned (value_of s name) (value_of firing name) i) names)

and_nothing : (b : Bool) → (b && true) ≡ b
and_nothing true = refl
and_nothing false = refl

-- the tests of a rule in the order of its definition, and in the order of its way
in_order : (fires both matched other equal : Bool)
    → (fires && matched && equal && not ((fires && both) && (other && matched)))
    ≡ (fires && ((matched && equal) && not (both && other)))
in_order fires both matched other equal = grind (arith, common_steps)

way_holds : (rule : Rule) (firing s : LabelMap)
    → inhibits rule firing s
    ≡ (all_hold firing rule.source && list_all (literal_holds s) (inhibiting_way rule firing))
way_holds rule firing s = grind (arith, common_steps, list_all-append, same_values, in_order)

-- ---- What passes two tests is one of those that pass the first, and passes the second.

any_kept : {X Y : Type 0} (test : X → Bool) (f : X → Y) (says : Y → Bool) (xs : List X)
    → list_any (λ x. test x && says (f x)) xs ≡ list_any says (map f (filter test xs))
any_kept test f says [] = refl
any_kept test f says (x ∷ xs) = grind (arith, common_steps, cases_Bool, any_kept test f says xs)

pub silenced_condition : (w : World) (s : LabelMap)
    → is_silenced w s ≡ some_way_holds (literal_holds s) (silencing_ways w)
silenced_condition w s =
    let all = λ (silence : Silence). sym (and_nothing (all_hold s silence.matchers)) in
    (λ i. list_any (λ silence. is_active w.instant silence && all silence i) w.silences)
    ∙ any_kept (is_active w.instant) (λ silence. matching silence.matchers ∷ [])
    (list_all (literal_holds s)) w.silences

by_rule : (rule : Rule) (s : LabelMap) (alerts : List LabelMap)
    → list_any (λ firing. inhibits rule firing s) alerts
    ≡ some_way_holds (literal_holds s)
    (map (inhibiting_way rule) (filter (λ firing. all_hold firing rule.source) alerts))
by_rule rule s alerts = search (rules, way_holds, any_kept)

pub inhibited_condition : (w : World) (s : LabelMap)
    → is_inhibited w s ≡ some_way_holds (literal_holds s) (inhibiting_ways w)
inhibited_condition w s =
    (λ i. list_any (λ rule. by_rule rule s w.alerts i) w.config.rules)
    ∙ sym (some_way-joined (literal_holds s) (λ rule.
    map (inhibiting_way rule) (filter (λ firing. all_hold firing rule.source) w.alerts))
    w.config.rules)
