-- For two alerts that may meet in a rule there are two choices that may meet, and that meet the
-- same of its matchers. The label sets of two such choices are alerts that may meet. So what is
-- found of a rule among the choices of a universe that stands for every alert is true of every
-- alert.
use Rattle.std.proofs.Common.{◌≡◌, ◌↔◌, ◌<◌, ℕ, List, [], ◌∷◌, length, map, Bool, true, cond}
use Rattle.std.proofs.Common.{Option, Some, None, refl, sym, ap, ◌∙◌, subst, inl, inr, arith}
use Rattle.std.specs.Prelude.{◌&&◌, ◌==◌, IsTrue, IsFalse, IfSome, slice_get, slice_index}
use Rattle.std.specs.Prelude.{unwrap_or}
use Rattle.std.specs.List.{cons_option, list_any, range_with_len}
use Rattle.std.specs.Cmp.Lexicographic.{bytes_decides}
use Rattle.std.proofs.lemmas.Bool.{cases_Bool, and_parts, and_from, both_ways, eqb-true, eq-eqb}
use Rattle.std.proofs.lemmas.Grind.{common_steps}
use Rattle.std.proofs.lemmas.Bool.{not-true, or_cases, cases_lt, cond_both, cond-true, cond-false}
use Rattle.std.proofs.lemmas.Bool.{false_from_ne_true}
use Rattle.std.proofs.lemmas.List.{get_or_past}
use Rattle.std.proofs.lemmas.List.FromFn.{get_or-map-range_with_len, length-map-range_with_len}
use Rattle.std.proofs.lemmas.List.Quantifiers.{position-Some}
use Rattle.am_universe.specs.Text.{same_text}
use Rattle.am_universe.specs.Universe.{Label, IsUniverse, sizes, label_position}
use Rattle.am_universe.specs.Choice.{IsWhole}
use Rattle.am_universe.specs.LabelSet.{LabelMap, value_of, label_set_of}
use Rattle.am_universe.proofs.LabelSetLemmas.{same_text-itself}
use Rattle.am_universe.proofs.ListLemmas.{IsIn, AllByRecursion-each, AllByRecursion-at}
use Rattle.am_universe.proofs.Members.{in_at}
use Rattle.am_universe.proofs.UniverseLemmas.{no_label}
use Rattle.am_universe.proofs.WholeChoiceLemmas.{admitted_at, admits_each}
use Rattle.am_labels.specs.declared.op.Op.TheVariants.{Equal}
use Rattle.am_labels.specs.Matcher.{Matcher, holds, condition_holds, all_hold}
use Rattle.am_labels.specs.Row.{is_reached, truth_among, truths_of}
use Rattle.am_labels.specs.Space.{Space}
use Rattle.am_labels.proofs.Passing.{any_in, in_any}
use Rattle.am_labels.proofs.RowLawLemmas.{row_decides}
use Rattle.am_config.specs.ConfigFile.{Rule}
use Rattle.am_eval.specs.Inhibition.{have_equal, is_two_sided, inhibits}
use Rattle.am_judged_lists.specs.Pairs.{is_shared, are_same_at}
use Rattle.am_judged_lists.proofs.ListLemmas.{all_pass, each_both, each_passes, some_passes}
use Rattle.am_classes.specs.declared.alphabet.Alphabet.{Alphabet}
use Rattle.am_complete.specs.Complete.{impossible_matchers}
use Rattle.am_every_alert.specs.EveryAlert.{MeetsTheSame}
use Rattle.am_every_alert.specs.Deciding.{deciding_matchers, space_of}
use Rattle.am_every_alert.proofs.SpaceAlerts.{space_choice, alert_of_set}
use Rattle.am_every_alert.proofs.TreatedAlike.{front_met, rest_met, all_alike, same_possible}
use Rattle.am_idle.specs.declared.rules.IdleReason.{IdleReason}
use Rattle.am_idle.specs.declared.rules.IdleReason.TheVariants as reason_is
use Rattle.am_idle.specs.declared.rule_findings.RuleFinding.{RuleFinding}
use Rattle.am_idle.specs.declared.rule_findings.RuleFinding.TheVariants as finding_is
use Rattle.am_idle.specs.Lists.{listed_matchers}
use Rattle.am_idle.specs.Lists.{StandsForLists}
use Rattle.am_idle.specs.RuleChoices.{labels_named, AreMeeting, IsFoundOf}
use Rattle.am_idle.specs.RuleLines.{HasPositionsIn, HasPositionsIfAny}
use Rattle.am_idle.specs.Rules.{MayMeet, SomeMeet, SomeInhibit, Matches, MeetsAt, MeetsAtBut}
use Rattle.am_idle.specs.Rules.{IsWhyNone, IsIdle, IsIdleReason, IsRuleFinding}

-- ---- The labels of some names.

-- each of the labels has one of the names
name_of_shared : (u : List Label) (names : List (List ℕ)) (i : ℕ)
    → is_shared (labels_named u names) i ≡ true
    → (name : List ℕ) × IsIn names name × (label_position u name ≡ Some i)
name_of_shared u [] i is = absurd (cc)
name_of_shared u (name ∷ names) i is =
    grind (arith, common_steps, cases_Bool, or_cases, eqb-true, name_of_shared u names i)

-- names with the same position are the same
same_name : (u : List Label) (name other : List ℕ) (i : ℕ) → label_position u name ≡ Some i
    → label_position u other ≡ Some i → name ≡ other
same_name u name other i is also =
    let first = position-Some (λ l. same_text l.name name) u i no_label is in
    let second = position-Some (λ l. same_text l.name other) u i no_label also in
    sym ((bytes_decides _ name).0 first.1) ∙ (bytes_decides _ other).0 second.1

-- ---- Values by the positions of a choice.

parts_same : (o : Option ℕ) (truths : List Bool) (c d : List ℕ) → length c ≡ length d
    → IfSome o (λ i. slice_index c i ≡ slice_index d i)
    → (is_reached o (length c) && truth_among o truths (slice_index c (unwrap_or o 0)))
    ≡ (is_reached o (length d) && truth_among o truths (slice_index d (unwrap_or o 0)))
parts_same None truths c d long same = refl
parts_same (Some i) truths c d long same =
    λ j. is_reached (Some i) (long j) && truth_among (Some i) truths (same j)

if_some : {X : Type 0} (o : Option X) (P : X → Type 0) → ((x : X) → o ≡ Some x → P x) → IfSome o P
if_some None P so = tt
if_some (Some x) P so = so x refl

module _ (u : List Label) (h : IsUniverse u) where
  abbrev set_of : List ℕ → LabelMap
  set_of c = label_set_of u c

  -- choices with the same position at the label of a name have the same value for it
  same_value : (name c d : List ℕ) → IsWhole (sizes u) c → IsWhole (sizes u) d
      → IfSome (label_position u name) (λ i. slice_index c i ≡ slice_index d i)
      → value_of (set_of c) name ≡ value_of (set_of d) name
  same_value name c d first second same =
      let value = value_of (set_of d) name in
      let m : Matcher = record { name = name; op = Equal; value = value } in
      let o = label_position u name in
      (bytes_decides (value_of (set_of c) name) value).0
      (row_decides u c m h first
      ∙ parts_same o (truths_of u m o) c d (first.1 ∙ sym second.1) same
      ∙ sym (row_decides u d m h second) ∙ same_text-itself value)

  cons_same : (o : Option ℕ) (rest c d : List ℕ)
      → are_same_at (cons_option o rest) c d ≡ true
      → IfSome o (λ i. slice_index c i ≡ slice_index d i) × (are_same_at rest c d ≡ true)
  cons_same None rest c d same = (tt, same)
  cons_same (Some i) rest c d same = grind (arith, common_steps, and_parts, eqb-true)

  -- choices that have the same positions at the labels of names have the same values for these
  pub equal_values : (names : List (List ℕ)) (c d : List ℕ) → IsWhole (sizes u) c
      → IsWhole (sizes u) d → are_same_at (labels_named u names) c d ≡ true
      → have_equal names (set_of c) (set_of d) ≡ true
  equal_values [] c d first second same = refl
  equal_values (name ∷ names) c d first second same =
      let parts = cons_same (label_position u name) (labels_named u names) c d same in
      let values = same_value name c d first second parts.0 in
      and_from (same_text (value_of (set_of c) name) (value_of (set_of d) name))
      (have_equal names (set_of c) (set_of d)) ((bytes_decides _ _).1 values)
      (equal_values names c d first second parts.1)

-- label sets that agree in all of some names have the same value for each of them
equal_at : (names : List (List ℕ)) (x y : LabelMap) (name : List ℕ)
    → have_equal names x y ≡ true → IsIn names name → value_of x name ≡ value_of y name
equal_at names x y name same there =
    let test = λ (n : List ℕ). same_text (value_of x n) (value_of y n) in
    (bytes_decides (value_of x name) (value_of y name)).0
    (AllByRecursion-at (λ n. test n ≡ true) names name (each_passes test names same) there)

-- ---- A choice that has the positions of another at some labels.

module _ (u : List Label) (h : IsUniverse u) (names : List (List ℕ)) (c d : List ℕ)
    (first : IsWhole (sizes u) c) (second : IsWhole (sizes u) d) where
  abbrev shared : List ℕ
  shared = labels_named u names

  abbrev picked : ℕ → ℕ
  picked i = cond (is_shared shared i) (slice_index c i) (slice_index d i)

  -- the second choice, with the positions of the first at the labels of the names
  abbrev partner : List ℕ
  partner = map picked (range_with_len 0 (length c))

  partner_long : length partner ≡ length c
  partner_long = length-map-range_with_len picked 0 (length c)

  partner_at : (i : ℕ) → slice_index partner i ≡ picked i
  partner_at i = grind (
    arith,
    common_steps,
    cases_lt,
    cases_Bool,
    get_or_past,
    get_or-map-range_with_len picked 0 (length c) i i 0,
    partner_long,
    first.1,
    second.1,
  )

  partner_whole : IsWhole (sizes u) partner
  partner_whole = (
    admits_each (sizes u) partner (omega (arith, partner_long, first.1)) (λ i low.
        subst (λ p. p < slice_index (sizes u) i) (sym (partner_at i))
        (cond_both (is_shared shared i) (slice_index c i) (slice_index d i)
        (λ p. p < slice_index (sizes u) i)
        (λ is. admitted_at (sizes u) c i first.0 (omega (arith, low, partner_long)))
        (λ other. admitted_at (sizes u) d i second.0
        (omega (arith, low, partner_long, first.1, second.1))))),
    partner_long ∙ first.1,
  )

  partner_same : are_same_at shared c partner ≡ true
  partner_same =
      all_pass (λ i. slice_index c i == slice_index partner i) shared
      (AllByRecursion-each (λ i. (slice_index c i == slice_index partner i) ≡ true) shared
      (λ i among. eq-eqb (slice_index c i) (slice_index partner i)
      (sym (partner_at i ∙ cond-true (is_shared shared i) (slice_index c i) (slice_index d i)
      (some_passes (λ j. j == i) shared i among (eq-eqb i i refl))))))

  module _ (x y : LabelMap) (equal : have_equal names x y ≡ true) where
    -- the partner meets each matcher exactly if the second alert does
    partner_meets : (m : Matcher)
        → condition_holds (label_set_of u c) m ≡ condition_holds x m
        → condition_holds (label_set_of u d) m ≡ condition_holds y m
        → condition_holds (label_set_of u partner) m ≡ condition_holds y m
    partner_meets m as_first as_second =
        let named = λ (name : List ℕ). same_text name m.name in
        elim (cases_Bool (list_any named names)) [
          | inl is ↦
              let r = any_in named names is in
              let there = subst (IsIn names) ((bytes_decides r.0 m.name).0 r.2) r.1 in
              let same = equal_values u h names c partner first partner_whole partner_same in
              ap (holds m.op m.value)
              (sym (equal_at names (label_set_of u c) (label_set_of u partner) m.name same there))
              ∙ as_first ∙ ap (holds m.op m.value) (equal_at names x y m.name equal there)
          | inr is_not ↦
              ap (holds m.op m.value) (same_value u h m.name partner d partner_whole second
              (if_some (label_position u m.name) (λ i. slice_index partner i ≡ slice_index d i)
              (λ i at. partner_at i
              ∙ cond-false (is_shared shared i) (slice_index c i) (slice_index d i)
              (false_from_ne_true (is_shared shared i) (λ is.
              let r = name_of_shared u names i is in
              both_ways (list_any named names) is_not (in_any named names r.0 r.1
              ((bytes_decides r.0 m.name).1 (same_name u r.0 m.name i r.2 at))))))))
              ∙ as_second
        ]

    partner_met : (ms : List Matcher) → MeetsTheSame ms (label_set_of u c) x
        → MeetsTheSame ms (label_set_of u d) y → MeetsTheSame ms (label_set_of u partner) y
    partner_met ms as_first as_second =
        each_both (λ m. condition_holds (label_set_of u c) m ≡ condition_holds x m)
        (λ m. condition_holds (label_set_of u d) m ≡ condition_holds y m)
        (λ m. condition_holds (label_set_of u partner) m ≡ condition_holds y m) ms partner_meets
        as_first as_second

-- ---- Matchers of lists.

-- a matcher of a list is met by a label set exactly if it is by an alert that meets the same
same_at : (ms : List Matcher) (set alert : LabelMap) (i : ℕ) (m : Matcher)
    → MeetsTheSame ms set alert → slice_get ms i ≡ Some m
    → condition_holds set m ≡ condition_holds alert m
same_at ms set alert i m met at =
    AllByRecursion-at (λ n. condition_holds set n ≡ condition_holds alert n) ms m met
    (in_at ms i m at)

-- what matches a list meets each matcher of it
meets_all : (ms : List Matcher) (positions : List ℕ) (set : LabelMap) → Matches ms set
    → MeetsAt ms positions set
meets_all ms positions set all i m there at =
    AllByRecursion-at (λ n. condition_holds set n ≡ true) ms m
    (each_passes (condition_holds set) ms all) (in_at ms i m at)

module _ (rule : Rule) where
  -- ---- What inhibits.

  inhibits_exactly : (x y : LabelMap) → IsTrue (inhibits rule x y)
      ↔ (IsTrue (have_equal rule.equal x y) × IsTrue (all_hold x rule.source)
      × IsTrue (all_hold y rule.target) × IsFalse (is_two_sided rule x && is_two_sided rule y))
  inhibits_exactly x y = grind (arith, common_steps, and_parts, and_from, not-true)

  module _ (a : Alphabet) (s : Space) where
    none_inhibits : (SomeInhibit (MayMeet a s rule) rule → ⊥) → IsIdle a s rule
    none_inhibits none x y first second = false_from_ne_true (inhibits rule x y) (λ is.
        let h = (inhibits_exactly x y).0 is in
        none (x, y, (first, second, h.0), h.1, h.2, h.3))

    -- the reason why there are none shows that the rule is idle
    pub idle_by : (reason : IdleReason) → IsWhyNone (MayMeet a s rule) rule reason
        → IsIdle a s rule
    idle_by (reason_is.Contradiction source target) why =
        none_inhibits (λ two.
        why.enough (
          two.0,
          two.1,
          two.2,
          meets_all rule.source source.items two.0 two.3,
          meets_all rule.target target.items two.1 two.4,
        ))
    idle_by reason_is.Both why = none_inhibits why.1

    -- ---- Over every alert.

    module _ (u : List Label)
        (stands : StandsForLists a s (rule.source ∷ rule.target ∷ []) u) where
      abbrev made : Space
      made = space_of s.impossible u

      abbrev listed : List Matcher
      listed = listed_matchers (rule.source ∷ rule.target ∷ [])

      -- a label set meets the same of the matchers of each side as an alert
      abbrev IsLike : LabelMap → LabelMap → Type 0
      IsLike set alert = MeetsTheSame rule.source set alert × MeetsTheSame rule.target set alert

      sides_met : (set alert : LabelMap) → MeetsTheSame listed set alert → IsLike set alert
      sides_met set alert met =
          let targets = listed_matchers (rule.target ∷ []) in (
            front_met set alert rule.source targets met,
            front_met set alert rule.target [] (rest_met set alert rule.source targets met),
          )

      alerts_meet : (x y : LabelMap) → AreMeeting made rule.equal x y → MayMeet a s rule x y
      alerts_meet x y (c, d, first, second, same, is, also) =
          rw (is, also) (
            alert_of_set a made listed stands (label_set_of u c) (c, first, refl),
            alert_of_set a made listed stands (label_set_of u d) (d, second, refl),
            equal_values u stands.universe rule.equal c d first.0 second.0 same,
          )

      sets_meet : (x y : LabelMap) → MayMeet a s rule x y
          → (p : LabelMap) × (q : LabelMap) × AreMeeting made rule.equal p q × IsLike p x
          × IsLike q y
      sets_meet x y (first, second, equal) =
          let impossible = impossible_matchers s.impossible in
          let deciding = deciding_matchers s listed in
          let one = space_choice a made deciding x stands.universe stands.complete first in
          let two = space_choice a made deciding y stands.universe stands.complete second in
          let e = partner u stands.universe rule.equal one.0 two.0 one.1 two.1 in
          let met = partner_met u stands.universe rule.equal one.0 two.0 one.1 two.1 x y equal
          deciding one.2 two.2 in
          let p = label_set_of u one.0 in
          let q = label_set_of u e in
          let possible = same_possible p x s.impossible (rest_met p x listed impossible one.2) in
          let also = same_possible q y s.impossible (rest_met q y listed impossible met) in (
            p,
            q,
            (
              one.0,
              e,
              (one.1, possible ∙ first.1),
              (
                partner_whole u stands.universe rule.equal one.0 two.0 one.1 two.1,
                also ∙ second.1,
              ),
              partner_same u stands.universe rule.equal one.0 two.0 one.1 two.1,
              refl,
              refl,
            ),
            sides_met p x (front_met p x listed impossible one.2),
            sides_met q y (front_met q y listed impossible met),
          )

      some_over : (First Second : LabelMap → Type 0)
          → SomeMeet (AreMeeting made rule.equal) First Second
          → SomeMeet (MayMeet a s rule) First Second
      some_over First Second two =
          (two.0, two.1, alerts_meet two.0 two.1 two.2, two.3, two.4)

      -- what no two label sets do that may meet, no two alerts do, if it passes from alerts to
      -- label sets that are like them
      none_over : (Do : LabelMap → LabelMap → Type 0)
          → ((p q x y : LabelMap) → IsLike p x → IsLike q y → Do x y → Do p q)
          → ((p q : LabelMap) → AreMeeting made rule.equal p q → Do p q → ⊥)
          → (x y : LabelMap) → MayMeet a s rule x y → Do x y → ⊥
      none_over Do told none x y meet they_do =
          let r = sets_meet x y meet in
          none r.0 r.1 r.2 (told r.0 r.1 x y r.3 r.4 they_do)

      same_sides : (set alert : LabelMap) → IsLike set alert
          → is_two_sided rule set ≡ is_two_sided rule alert
      same_sides set alert like = λ i.
          all_alike set alert rule.source like.0 i && all_alike set alert rule.target like.1 i

      why_over : (reason : IdleReason)
          → IsWhyNone (AreMeeting made rule.equal) rule reason
          → IsWhyNone (MayMeet a s rule) rule reason
      why_over (reason_is.Contradiction source target) why = record {
        in_source = why.in_source;
        in_target = why.in_target;
        source_order = why.source_order;
        target_order = why.target_order;
        enough = λ (x, y, meet, first, second). none_over
            (λ p q. MeetsAt rule.source source.items p × MeetsAt rule.target target.items q)
            (λ p q x y as_first as_second met. (
              λ i m there at. same_at rule.source p x i m as_first.0 at ∙ met.0 i m there at,
              λ i m there at. same_at rule.target q y i m as_second.1 at ∙ met.1 i m there at,
            )) (λ p q met so. why.enough (p, q, met, so.0, so.1)) x y meet (first, second);
        source_needed = λ i there.
            some_over (MeetsAtBut rule.source source.items i) (MeetsAt rule.target target.items)
            (why.source_needed i there);
        target_needed = λ i there.
            some_over (MeetsAt rule.source source.items) (MeetsAtBut rule.target target.items i)
            (why.target_needed i there);
      }
      why_over reason_is.Both why = (
        some_over (Matches rule.source) (Matches rule.target) why.0,
        λ (x, y, meet, fires, mutes, apart). none_over
            (λ p q. IsTrue (all_hold p rule.source) × IsTrue (all_hold q rule.target)
            × IsFalse (is_two_sided rule p && is_two_sided rule q))
            (λ p q x y first second they_do. (
              all_alike p x rule.source first.0 ∙ they_do.0,
              all_alike q y rule.target second.1 ∙ they_do.1,
              (λ i. same_sides p x first i && same_sides q y second i) ∙ they_do.2,
            )) (λ p q met so. why.1 (p, q, met, so.0, so.1, so.2)) x y meet (fires, mutes, apart),
      )

      pub found_over : (finding : Option IdleReason)
          → IsFoundOf (AreMeeting made rule.equal) rule finding → IsIdleReason a s rule finding
      found_over None two =
          let meet = alerts_meet two.0 two.1 two.2 in (
            two.0,
            two.1,
            meet.0,
            meet.1,
            (inhibits_exactly two.0 two.1).1 (meet.2, two.3, two.4, two.5),
          )
      found_over (Some reason) why =
          let over = why_over reason why in (idle_by reason over, over)

-- the positions in a reason are positions in the sides
pub reason_positions : (Meet : LabelMap → LabelMap → Type 0) (rule : Rule) (reason : IdleReason)
    → IsWhyNone Meet rule reason → HasPositionsIn rule reason
reason_positions Meet rule (reason_is.Contradiction source target) why =
    (why.in_source, why.in_target)
reason_positions Meet rule reason_is.Both why = tt

-- so are those of a finding
pub positions_told : (a : Alphabet) (s : Space) (rule : Rule) (finding : Option RuleFinding)
    → IsRuleFinding a s rule finding → HasPositionsIfAny rule finding
positions_told a s rule None is = tt
positions_told a s rule (Some (finding_is.Idle reason)) is =
    reason_positions (MayMeet a s rule) rule reason is.1
positions_told a s rule (Some finding_is.Unproved) is = tt
positions_told a s rule (Some (finding_is.Undecided evidence)) is = tt
