-- What holds of silences: which of them hide an alert, and at which instants.
use Rattle.std.proofs.Common.{◌≡◌, ◌≢◌, ◌↔◌, ℕ, ◌+◌, ℤ, ◌≤ℤ◌, List, [], ◌∷◌, map, Option, Some}
use Rattle.std.proofs.Common.{None, Bool, ◌&&◌, ◌||◌, not, refl, sym, ap, subst, ◌∙◌}
use Rattle.std.proofs.Common.{◌<ℤ◌, arith, Contains}
use Rattle.std.specs.Prelude.{slice_get, IsTrue, IsFalse}
use Rattle.std.specs.List.{AllByRecursion, filter, list_any, enumerate_from}
use Rattle.std.specs.List.Sorted.{IsStrictlySortedBy}
use Rattle.std.specs.Ordering.{nat_cmp}
use Rattle.std.proofs.lemmas.Bool.{cases_Bool, and_parts, and_from}
use Rattle.std.proofs.lemmas.Int.{ints}
use Rattle.std.proofs.lemmas.List.Kept.{IsStrictlySortedBy-filter}
use Rattle.std.proofs.lemmas.Grind.{common_steps}
use Rattle.am_universe.specs.LabelSet.{LabelMap, label_set_of}
use Rattle.am_universe.proofs.ListLemmas.{IsIn, IsIn-from_Contains, Contains-from_IsIn, IsIn-map}
use Rattle.am_universe.proofs.ListLemmas.{IsIn-unmap, IsStrictlySortedBy-map, AllByRecursion-each}
use Rattle.am_universe.proofs.Members.{at_in, in_at, item_at, numbered_at}
use Rattle.am_labels.specs.Matcher.{condition_holds, all_hold}
use Rattle.am_labels.specs.Space.{Space, all_choices}
use Rattle.am_labels.proofs.Passing.{any_in, in_any, passes_from_kept, kept_from_passes}
use Rattle.am_list_files.specs.SilencesFile.{Silence}
use Rattle.am_eval.specs.World.{World}
use Rattle.am_eval.specs.Silencing.{is_active, hides, is_silenced, positions_where, silencers}
use Rattle.am_eval.specs.Silencing.{at_instant, IsSteady}
use Rattle.am_eval.specs.Tree.{Part, Not, And, Or}
use Rattle.am_eval.specs.declared.property.Property.TheVariants.{Silenced}
use Rattle.am_eval.specs.Question.{Question, Simple, Is, holds_of}
use Rattle.am_eval.specs.Question.{satisfies, answers}
use Rattle.am_eval.proofs.ConditionLaws.{same_property}
use Rattle.am_eval.proofs.HidingConditions.{silenced_condition}
use Rattle.am_eval.proofs.ListTests.{some_passes, passes_among, one_of}
use Rattle.am_eval.proofs.PairLemmas.{Numbers, numbers_ascend}
use Rattle.am_eval.proofs.SimpleParts.{braces_hold}

-- ---- Silencers.

-- the positions of the items that pass are the numbers of the numbered items that pass
positions_are : {X : Type 0} (test : X → Bool) (from : ℕ) (xs : List X)
    → positions_where test from xs
    ≡ map (λ p. p.0) (filter (λ p. test p.1) (enumerate_from from xs))
positions_are test from [] = refl
positions_are test from (x ∷ xs) = grind (arith, common_steps, cases_Bool, positions_are test (from + 1) xs)

module _ (w : World) (s : LabelMap) where
  -- the silences that hide an alert, each with its number
  abbrev hiding : List (ℕ × Silence)
  hiding = filter (λ p. hides w s p.1) (enumerate_from 0 w.silences)

  silencers_are : silencers w s ≡ map (λ p. p.0) hiding
  silencers_are = positions_are (hides w s) 0 w.silences

  pub exactly : (i : ℕ) → (Contains (silencers w s) i
      ↔ ((silence : Silence) × (slice_get w.silences i ≡ Some silence)
      × IsTrue (hides w s silence)))
  exactly i =
      let numbered = enumerate_from 0 w.silences in
      let passes = λ (p : ℕ × Silence). hides w s p.1 in (
        λ h.
            let r = IsIn-unmap (λ (p : ℕ × Silence). p.0) hiding i
            (subst (λ (found : List ℕ). IsIn found i) silencers_are
            (IsIn-from_Contains (silencers w s) i h)) in
            let kept = passes_from_kept passes numbered r.0 r.1 in
            (r.0.1, ap (slice_get w.silences) (sym r.2) ∙ item_at w.silences r.0 kept.0, kept.1),
        λ h.
            let there = numbered_at 0 w.silences i h.0 h.1 i (omega arith) in
            subst (λ (found : List ℕ). Contains found i) (sym silencers_are)
            (Contains-from_IsIn (map (λ p. p.0) hiding) i
            (IsIn-map (λ (p : ℕ × Silence). p.0) hiding (i, h.0)
            (kept_from_passes passes numbered (i, h.0) there h.2))),
      )

  pub some : IsTrue (is_silenced w s) ↔ (silencers w s ≢ [])
  some = (
    λ silenced none.
        let one = any_in (hides w s) w.silences silenced in
        let at = at_in w.silences one.0 one.1 in
        let there = (exactly at.0).1 (one.0, at.1, one.2) in
        IsIn-from_Contains [] at.0 (subst (λ (found : List ℕ). Contains found at.0) none there),
    λ found.
        let one = one_of (silencers w s) found in
        let h = (exactly one.0).0 (Contains-from_IsIn (silencers w s) one.0 one.1) in
        in_any (hides w s) w.silences h.0 (in_at w.silences one.0 h.0 h.1) h.2,
  )

  pub ascending : IsStrictlySortedBy nat_cmp (silencers w s)
  ascending = rw silencers_are
      (IsStrictlySortedBy-map Numbers nat_cmp (λ p. p.0) hiding (λ p q. refl)
      (IsStrictlySortedBy-filter Numbers (λ p. hides w s p.1) (enumerate_from 0 w.silences)
      (numbers_ascend 0 w.silences)))

-- ---- Instants.

hidden_by_none : (w : World) (s : LabelMap) (silences : List Silence)
    → AllByRecursion (λ silence. IsFalse (is_active w.instant silence)) silences
    → IsFalse (list_any (hides w s) silences)
hidden_by_none w s [] h = refl
hidden_by_none w s (silence ∷ silences) h =
    grind (arith, common_steps, hidden_by_none w s silences)

pub inactive : (w : World) (s : LabelMap)
    → AllByRecursion (λ silence. IsFalse (is_active w.instant silence)) w.silences
    → IsFalse (is_silenced w s)
inactive w s = hidden_by_none w s w.silences

pub no_instant : (w : World) (s : LabelMap) → w.instant ≡ None → IsFalse (is_silenced w s)
no_instant w s e =
    inactive w s (AllByRecursion-each (λ silence. IsFalse (is_active w.instant silence)) w.silences
    (λ silence there. ap (λ instant. is_active instant silence) e))

no_such_instant : (given : Option ℤ) (silence : Silence) → silence.ends ≤ℤ silence.starts
    → IsFalse (is_active given silence)
no_such_instant None silence ended = refl
no_such_instant (Some instant) silence ended = grind (arith, common_steps, ints)

pub never_active : (w : World) (s : LabelMap) (silence : Silence)
    → silence.ends ≤ℤ silence.starts → IsFalse (hides w s silence)
never_active w s silence ended =
    ap (λ active. active && all_hold s silence.matchers) (no_such_instant w.instant silence ended)

abbrev AreSame : World → World → Type 0
AreSame w v =
    (w.config ≡ v.config) × (w.alerts ≡ v.alerts)
    × (filter (is_active w.instant) w.silences ≡ filter (is_active v.instant) v.silences)

same_part : (w v : World) (s : LabelMap) (simple : Simple) → AreSame w v
    → holds_of w simple s ≡ holds_of v simple s
same_part w v s simple same = grind (arith, common_steps, same_property, silenced_condition)

same_truth : (w v : World) (s : LabelMap) (question : Question) → AreSame w v
    → satisfies w question s ≡ satisfies v question s
same_truth w v s (Part simple) same = same_part w v s simple same
same_truth w v s (Not q) same = ap not (same_truth w v s q same)
same_truth w v s (And q r) same = λ i. same_truth w v s q same i && same_truth w v s r same i
same_truth w v s (Or q r) same = λ i. same_truth w v s q same i || same_truth w v s r same i

pub same_active : (s : Space) (w v : World) (question : Question) → w.config ≡ v.config
    → w.alerts ≡ v.alerts
    → filter (is_active w.instant) w.silences ≡ filter (is_active v.instant) v.silences
    → answers s w question ≡ answers s v question
same_active s w v question config alerts active =
    λ i. filter (λ choice. same_truth w v (label_set_of s.labels choice) question (config, alerts, active) i)
    (all_choices s)

all_steady : (from to : ℤ) (silences : List Silence) → from ≤ℤ to
    → AllByRecursion (IsSteady from to) silences
    → filter (is_active (Some from)) silences ≡ filter (is_active (Some to)) silences
all_steady from to [] later steady = refl
all_steady from to (silence ∷ silences) later steady =
    grind (arith, common_steps, all_steady from to silences later)

pub steady : (s : Space) (w : World) (from to : ℤ) (question : Question) → from ≤ℤ to
    → AllByRecursion (IsSteady from to) w.silences
    → answers s (at_instant w from) question ≡ answers s (at_instant w to) question
steady s w from to question later each =
    same_active s (at_instant w from) (at_instant w to) question refl refl
    (all_steady from to w.silences later each)

-- ---- What it is to be silenced.

-- an instant at which the silence is active
abbrev IsActiveAt : Option ℤ → Silence → ℤ → Type 0
IsActiveAt given silence instant =
    (given ≡ Some instant) × (silence.starts ≤ℤ instant) × (instant <ℤ silence.ends)

active_at : (given : Option ℤ) (silence : Silence) → IsTrue (is_active given silence)
    → (instant : ℤ) × IsActiveAt given silence instant
active_at None silence h = absurd (cc)
active_at (Some instant) silence h = grind (arith, common_steps, and_parts, ints)

at_active : (given : Option ℤ) (silence : Silence) (instant : ℤ)
    → IsActiveAt given silence instant → IsTrue (is_active given silence)
at_active given silence instant h = grind (arith, common_steps, ints)

pub while_one_matches : (w : World) (s : LabelMap) → (IsTrue (holds_of w (Is Silenced) s)
    ↔ ((instant : ℤ) × (silence : Silence) × (w.instant ≡ Some instant)
    × Contains w.silences silence
    × (silence.starts ≤ℤ instant) × (instant <ℤ silence.ends)
    × AllByRecursion (λ m. IsTrue (condition_holds s m)) silence.matchers))
while_one_matches w s =
    let all_match = braces_hold w s in
    grind (arith, common_steps, some_passes, and_parts, active_at, at_active, passes_among, and_from)
