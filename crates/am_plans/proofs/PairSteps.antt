-- The lists of a pair of a rule and a firing alert say what its condition says.
use Rattle.std.proofs.Common.{◌≡◌, ℕ, Bool, true, false, not, ◌&&◌, List, [], ◌∷◌, ◌++◌, map, cond}
use Rattle.std.proofs.Common.{Option, Some, None, option_map, length, get_or, Contains, ◌<◌, ◌≤◌}
use Rattle.std.proofs.Common.{◌⊎◌, ◌||◌, zero, suc, inl, inr, refl, sym, ap, ◌∙◌, arith, String}
use Rattle.std.proofs.Common.{string_bytes}
use Rattle.std.specs.Prelude.{slice_get}
use Rattle.std.specs.List.{list_all, list_any}
use Rattle.std.proofs.lemmas.Bool.{cases_lt, and_right, or_right}
use Rattle.std.specs.declared.alloc.Global.{Global}
use Rattle.std.specs.declared.vec.Vec.{Vec}
use Rattle.std.proofs.lemmas.List.{length-map, map-append}
use Rattle.std.proofs.lemmas.Option.{slice_get-map, same_Some, slice_get_read, slice_get_within}
use Rattle.std.proofs.lemmas.Simd.{map-map}
use Rattle.am_universe.specs.LabelSet.{LabelMap}
use Rattle.am_universe.proofs.UniverseLemmas.{list_any-map}
use Rattle.am_universe.specs.Universe.{Label}
use Rattle.am_labels.specs.Row.{TruthRow, row_of}
use Rattle.am_labels.specs.Matcher.{all_hold}
use Rattle.am_config.specs.ConfigFile.{Rule}
use Rattle.am_judged_lists.specs.Verdicts.{verdict_of_list}
use Rattle.am_eval.specs.declared.pair.Pair.{Pair}
use Rattle.am_eval.specs.declared.property.Property.TheVariants.{Inhibited}
use Rattle.am_eval.specs.Question.{Is}
use Rattle.am_eval.specs.World.{World}
use Rattle.am_eval.specs.Conditions.{Literal, some_way_holds, inhibiting_way, not_matching}
use Rattle.am_eval.specs.Conditions.{same_value, pair_way}
use Rattle.am_eval.specs.Pairs.{pairs_of}
use Rattle.am_eval.proofs.Inhibitors.{rule_within}
use Rattle.am_judged_lists.specs.declared.certainty.Certainty.{Certainty}
use Rattle.am_plans.specs.declared.pair_lists.PairList.{PairList}
use Rattle.am_plans.specs.declared.pair_lists.PairLists.{PairLists}
use Rattle.am_plans.specs.declared.pair_lists.PairSide.{PairSide}
use Rattle.am_search.specs.declared.verdict.Verdict.{Verdict}
use Rattle.am_judged_lists.specs.Cube.{MaskedLabels, verdict_at}
use Rattle.am_judged_lists.specs.Places.{NoneBetween}
use Rattle.am_judged_lists.specs.Certainty.{passes, other}
use Rattle.am_plans.specs.Verdicts.{kleene_not, verdict_of_literal, verdict_of_simple}
use Rattle.am_plans.specs.PairsByLists.{source_fails, pair_by, inhibited_by}
use Rattle.am_plans.specs.PairsByLists.{AreSources, AreTargets, way_of_pair, side_fails, some_pair}
use Rattle.am_plans.proofs.Kleene.{passes_not, passes_simple}
use Rattle.am_judged_lists.proofs.ListLemmas.{and_true}
use Rattle.am_eval.proofs.PairConditions.{ways_of_pairs}

-- ---- What stands at a position of two lists of which the same is made.

same_at : {X Y Z : Type 0} (f : X → Z) (g : Y → Z) (xs : List X) (ys : List Y) (i : ℕ) (y : Y)
    → map f xs ≡ map g ys → slice_get ys i ≡ Some y → option_map f (slice_get xs i) ≡ Some (g y)
same_at f g xs ys i y same here =
    sym (slice_get-map f xs i) ∙ ap (λ zs. slice_get zs i) same ∙ slice_get-map g ys i
    ∙ ap (option_map g) here

pub rule_at : (w : World) (rules : List Rule) (pair : Pair) (rule : Rule)
    → Contains (pairs_of w.config.rules w.alerts) pair → rules ≡ w.config.rules
    → rule ≡ get_or rules pair.rule rule → slice_get w.config.rules pair.rule ≡ Some rule
rule_at w rules pair rule h e is =
    ap (λ rs. slice_get rs pair.rule) (sym e)
    ∙ slice_get_read rules (length rules) pair.rule rule refl (rule_within w rules pair h e) is

-- ---- The rows of a pair.

pub targets_within : (u : List Label) (targets : List (Vec TruthRow Global)) (rules : List Rule)
    (i : ℕ) → AreTargets u targets rules → i < length rules → i < length targets
targets_within u targets rules i same within =
    omega (
      arith,
      ap length same,
      within,
      length-map targets (λ (rows : Vec TruthRow Global). rows.items),
      length-map rules (λ (rule : Rule). map (row_of u) rule.target),
    )

pub target_at : (u : List Label) (targets : List (Vec TruthRow Global)) (rules : List Rule)
    (i : ℕ) (rows : Vec TruthRow Global) (rule : Rule) → AreTargets u targets rules
    → slice_get targets i ≡ Some rows → slice_get rules i ≡ Some rule
    → rows.items ≡ map (row_of u) rule.target
target_at u targets rules i rows rule same at_rows at_rule =
    let items : Vec TruthRow Global → List TruthRow = λ rows. rows.items in
    same_Some (items rows) (map (row_of u) rule.target)
    (sym (ap (option_map items) at_rows)
    ∙ same_at items (λ (rule : Rule). map (row_of u) rule.target) targets rules i rule same at_rule)

-- the rows of a target side, and those of the alert's values
pub rows_of_pair : (u : List Label) (targets : List (Vec TruthRow Global)) (rules : List Rule)
    (i : ℕ) (rows : Vec TruthRow Global) (rule : Rule) (firing : LabelMap)
    (front values : List TruthRow) (names : List (String Global)) → AreTargets u targets rules
    → rows ≡ get_or targets i rows → slice_get rules i ≡ Some rule → front ≡ rows.items
    → values ≡ map (λ name. row_of u (same_value firing (string_bytes name))) names
    → map string_bytes names ≡ rule.equal
    → front ++ values ≡ map (row_of u) (rule.target ++ map (same_value firing) rule.equal)
rows_of_pair u targets rules i rows rule firing front values names same is at_rule e f h =
    let within = targets_within u targets rules i same (slice_get_within rules i rule at_rule) in
    let at_rows = slice_get_read targets (length targets) i rows refl within is in
    let ms = map (same_value firing) rule.equal in
    let of_values : values ≡ map (row_of u) ms =
    f ∙ sym (map-map (λ name. row_of u (same_value firing name)) string_bytes names)
    ∙ ap (map (λ name. row_of u (same_value firing name))) h
    ∙ sym (map-map (row_of u) (same_value firing) rule.equal) in
    ap (λ rs. rs ++ values) (e ∙ target_at u targets rules i rows rule same at_rows at_rule)
    ∙ ap (λ rs. map (row_of u) rule.target ++ rs) of_values
    ∙ sym (map-append (row_of u) rule.target ms)

-- ---- The verdict of a pair.

source_at : (prefix : List ℕ) (m : Certainty)
    (source : Option MaskedLabels) (v : Verdict) → option_map (λ source. verdict_at source prefix) source ≡ Some v
    → source_fails prefix m source ≡ not (passes (other m) v)
source_at prefix m None v e = absurd (cc)
source_at prefix m (Some source) v e =
    ap (λ v. not (passes (other m) v)) (same_Some (verdict_at source prefix) v e)

pub source_by_both : (u : List Label) (rules : List Rule)
    (prefix : List ℕ) (m : Certainty) (sources : List MaskedLabels) (i : ℕ)
    (rule : Rule) → AreSources u prefix sources rules → slice_get rules i ≡ Some rule
    → (both : Bool)
    → (not both || source_fails prefix m (slice_get sources i))
    ≡ list_all (λ l. passes m (verdict_of_literal u prefix l))
    (cond both (not_matching rule.source ∷ []) [])
source_by_both u rules prefix m sources i rule are at_rule true =
    let v = verdict_of_list u rule.source prefix in
    source_at prefix m (slice_get sources i) v
    (same_at (λ source. verdict_at source prefix) (λ (rule : Rule). verdict_of_list u rule.source prefix)
    sources rules i rule are at_rule)
    ∙ sym (passes_not m v) ∙ sym (and_true (passes m (kleene_not v)))
source_by_both u rules prefix m sources i rule are at_rule false = refl

pub pair_truth : (u : List Label) (w : World)
    (prefix : List ℕ) (m : Certainty) (sources : List MaskedLabels) (list : MaskedLabels) (pair : Pair)
    (rule : Rule) (firing : LabelMap) → AreSources u prefix sources w.config.rules
    → slice_get w.config.rules pair.rule ≡ Some rule → slice_get w.alerts pair.alert ≡ Some firing
    → pair.both ≡ all_hold firing rule.target
    → verdict_at list prefix
    ≡ verdict_of_list u (rule.target ++ map (same_value firing) rule.equal) prefix
    → pair_by prefix m sources
    (record { list = list; side = record { rule = pair.rule; both = pair.both } })
    ≡ way_of_pair u w prefix m pair
pair_truth u w prefix m sources list pair rule firing are at_rule at_alert which exact =
    let holds : Literal → Bool = λ l. passes m (verdict_of_literal u prefix l) in
    let v = verdict_of_list u (rule.target ++ map (same_value firing) rule.equal) prefix in
    let way : pair_way w.config.rules w.alerts pair ≡ inhibiting_way rule firing =
    rw (at_rule, at_alert) refl in
    let fails = source_fails prefix m (slice_get sources pair.rule) in
    ap (λ v. passes m v && (not pair.both || fails)) exact
    ∙ ap (λ b. passes m v && (not b || fails)) which
    ∙ ap (λ b. passes m v && b)
    (source_by_both u w.config.rules prefix m sources pair.rule rule are at_rule
    (all_hold firing rule.target))
    ∙ sym (ap (list_all holds) way)

-- ---- All pairs.

-- pairs by their lists, and by what they require of their source sides
some_of_pairs : (prefix : List ℕ) (m : Certainty) (sources : List MaskedLabels)
    (pairs : List PairList)
    → some_pair (λ cube. passes m (verdict_at cube prefix)) (side_fails prefix m sources)
    (map (λ (pair : PairList). pair.list) pairs) (map (λ (pair : PairList). pair.side) pairs)
    ≡ list_any (pair_by prefix m sources) pairs
some_of_pairs prefix m sources [] = refl
some_of_pairs prefix m sources (pair ∷ pairs) =
    ap (λ b. pair_by prefix m sources pair || b) (some_of_pairs prefix m sources pairs)

pub pairs_truth : (u : List Label) (w : World) (prefix : List ℕ) (m : Certainty)
    (lists : PairLists) (pairs : List PairList)
    → lists.lists ≡ map (λ (pair : PairList). pair.list) pairs
    → lists.sides.items ≡ map (λ (pair : PairList). pair.side) pairs
    → list_any (pair_by prefix m lists.sources.items) pairs
    ≡ list_any (way_of_pair u w prefix m) (pairs_of w.config.rules w.alerts)
    → inhibited_by prefix lists m ≡ passes m (verdict_of_simple u w (Is Inhibited) prefix)
pairs_truth u w prefix m lists pairs of_lists of_sides same =
    let holds : Literal → Bool = λ l. passes m (verdict_of_literal u prefix l) in
    (λ i. some_pair (λ cube. passes m (verdict_at cube prefix))
    (side_fails prefix m lists.sources.items) (of_lists i) (of_sides i))
    ∙ some_of_pairs prefix m lists.sources.items pairs
    ∙ same
    ∙ sym (list_any-map (list_all holds) (pair_way w.config.rules w.alerts)
    (pairs_of w.config.rules w.alerts))
    ∙ ap (some_way_holds holds) (ways_of_pairs w)
    ∙ sym (passes_simple m u w (Is Inhibited) prefix)

-- ---- One pair after the other.

-- two cases: no pair inhibits, or one does
pub no_pair : (test : MaskedLabels → Bool) (fails : PairSide → Bool) (vs : List MaskedLabels)
    (sides : List PairSide)
    → ((j : ℕ) (v : MaskedLabels) (side : PairSide) → slice_get vs j ≡ Some v
    → slice_get sides j ≡ Some side → (test v && fails side) ≡ false)
    → some_pair test fails vs sides ≡ false
no_pair test fails [] sides none = refl
no_pair test fails (v ∷ vs) [] none = refl
no_pair test fails (v ∷ vs) (side ∷ sides) none =
    rw (none 0 v side refl refl)
    (no_pair test fails vs sides (λ j w other at with. none (suc j) w other at with))

pub this_pair : (test : MaskedLabels → Bool) (fails : PairSide → Bool) (vs : List MaskedLabels)
    (sides : List PairSide) (i : ℕ) (side : PairSide) → i < length vs
    → ((v : MaskedLabels) → slice_get vs i ≡ Some v → test v ≡ true) → slice_get sides i ≡ Some side
    → fails side ≡ true → some_pair test fails vs sides ≡ true
this_pair test fails [] sides i side h found at e = absurd (omega (arith, h))
this_pair test fails (v ∷ vs) [] zero side h found at e = absurd (cc)
this_pair test fails (v ∷ vs) [] (suc i) side h found at e = absurd (cc)
this_pair test fails (v ∷ vs) (other ∷ sides) zero side h found at e =
    rw (found v refl, ap fails (same_Some other side at) ∙ e) refl
this_pair test fails (v ∷ vs) (other ∷ sides) (suc i) side h found at e =
    or_right (test v && fails other) (some_pair test fails vs sides)
    (this_pair test fails vs sides i side (omega arith) found at e)

-- no pair before the index `i` inhibits
abbrev pub NoPairBefore : (MaskedLabels → Bool) → (PairSide → Bool) → List MaskedLabels → List PairSide → ℕ
    → Type 0
NoPairBefore test fails vs sides i =
    (j : ℕ) (v : MaskedLabels) (side : PairSide) → j < i → slice_get vs j ≡ Some v
    → slice_get sides j ≡ Some side → (test v && fails side) ≡ false

-- nor does one from `from` on: up to `to` no verdict passes, and there the pairs end
pub no_pair_to_end : (test : MaskedLabels → Bool) (fails : PairSide → Bool) (vs : List MaskedLabels)
    (sides : List PairSide) (from to : ℕ) → NoPairBefore test fails vs sides from
    → NoneBetween test vs from to → (length vs ≤ to) ⊎ (length sides ≤ to)
    → some_pair test fails vs sides ≡ false
no_pair_to_end test fails vs sides from to before none end =
    no_pair test fails vs sides (λ j v side here with. elim (cases_lt j from) [
      | inl past ↦ before j v side past here with
      | inr behind ↦
          let low : j < to = elim end [
            | inl all ↦ omega (arith, all, slice_get_within vs j v here)
            | inr out ↦ omega (arith, out, slice_get_within sides j side with)
          ] in
          ap (λ b. b && fails side) (none j v behind low here)
    ])

pub no_pair_more : (test : MaskedLabels → Bool) (fails : PairSide → Bool) (vs : List MaskedLabels)
    (sides : List PairSide) (from i next : ℕ) (side : PairSide)
    → NoPairBefore test fails vs sides from → NoneBetween test vs from i
    → slice_get sides i ≡ Some side → fails side ≡ false
    → ((j : ℕ) (x y : PairSide) → i ≤ j → j < next → slice_get sides i ≡ Some x
    → slice_get sides j ≡ Some y → y ≡ x)
    → NoPairBefore test fails vs sides next
no_pair_more test fails vs sides from i next side before none at spared same j v other low here with =
    elim (cases_lt j i) [
      | inl first ↦ elim (cases_lt j from) [
        | inl past ↦ before j v other past here with
        | inr behind ↦ ap (λ b. b && fails other) (none j v behind first here)
      ]
      | inr last ↦
          and_right (test v) (fails other) (ap fails (same j side other last low at with) ∙ spared)
    ]
