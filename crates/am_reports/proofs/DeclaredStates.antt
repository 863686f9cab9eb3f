-- The state of the label at a position of a space, and what follows from it.
use Rattle.std.proofs.Common.{◌≡◌, ◌⊎◌, ℕ, List, map, take, Some, slice_get, string_bytes}
use Rattle.std.proofs.Common.{Option, None, option_map, refl, sym, ap, subst, inl, inr, ◌∙◌}
use Rattle.std.specs.Prelude.{IsTrue}
use Rattle.std.specs.List.{AllByRecursion}
use Rattle.std.proofs.lemmas.Bool.{false≢true}
use Rattle.std.proofs.lemmas.Option.{slice_get-map}
use Rattle.am_universe.specs.declared.place.Place.{Place}
use Rattle.am_universe.specs.Universe.{Label, IsLabel, IsUniverse, names}
use Rattle.am_universe.proofs.LabelPairLemmas.{at_place}
use Rattle.am_labels.specs.Matcher.{Matcher}
use Rattle.am_labels.specs.Space.{Space}
use Rattle.am_json.specs.Pointer.{Refusal}
use Rattle.am_classes.specs.declared.alphabet.Alphabet.{Alphabet}
use Rattle.am_complete.specs.declared.label_state.Completeness.{Completeness}
use Rattle.am_complete.specs.declared.label_state.Completeness.TheVariants as state_is
use Rattle.am_complete.specs.declared.label_state.LabelState.{LabelState}
use Rattle.am_complete.specs.Complete.{IsSpaceCompleteAt}
use Rattle.am_complete.specs.AskedLabel.{AskedLabel}
use Rattle.am_complete.specs.LabelState.{IsSoAt, IsSoIfNamed, is_settled, reported_names}
use Rattle.am_complete.proofs.CompleteUniverses.{space_complete_without_matchers}
use Rattle.am_complete.proofs.Pushed.{got_front}
use Rattle.am_outcomes.specs.Configurations.{Configurations}
use Rattle.am_reports.specs.RoutingLabels.{routing_matchers}
use Rattle.am_reports.specs.RoutingLabels.{labels_of_routes}
use Rattle.am_reports.specs.Made.{AreDeclaredWhole, IsDeclaredRefusal, LacksValue, IsUndecided}
use Rattle.am_reports.specs.Made.{IsStateRefusal}

-- ---- The state at a position.

mapped : {A B : Type 0} (f : A → B) (o : Option A) (b : B) → option_map f o ≡ Some b
    → (a : A) × (o ≡ Some a) × (f a ≡ b)
mapped f None b e = absurd (cc)
mapped f (Some a) b e = (a, refl, cc)

-- the state at this position is that of the label there, and what it says is true
pub told_at : (a : Alphabet) (s : Space) (ms : List Matcher) (asked : List AskedLabel)
    (states : List LabelState) (i : ℕ) (l : Label) → IsUniverse s.labels
    → map (λ state. string_bytes state.name) states ≡ reported_names s.labels asked
    → AllByRecursion
    (λ state. IsSoIfNamed a s ms asked (string_bytes state.name) state.completeness) states
    → slice_get s.labels i ≡ Some l
    → (state : LabelState) × (slice_get states i ≡ Some state)
    × (string_bytes state.name ≡ l.name) × IsSoAt a s ms asked l.name state.completeness
told_at a s ms asked states i l is reported each at =
    let name_of = λ (state : LabelState). string_bytes state.name in
    let name_there = got_front (names s.labels) _ i l.name
    (slice_get-map (λ (k : Label). k.name) s.labels i ∙ ap (option_map (λ (k : Label). k.name)) at) in
    let found = mapped name_of (slice_get states i) l.name
    (sym (slice_get-map name_of states i)
    ∙ subst (λ (ns : List (List ℕ)). slice_get ns i ≡ Some l.name) (sym reported) name_there) in
    let so = at_place
    (λ state. IsSoIfNamed a s ms asked (string_bytes state.name) state.completeness) states i
    found.0 each found.1 in (
      found.0,
      found.1,
      found.2,
      subst (λ (name : List ℕ). IsSoIfNamed a s ms asked name found.0.completeness) found.2 so
          (at_place IsLabel s.labels i l is.labels at).name,
    )

-- ---- What follows from it.

pub whole_by : (a : Alphabet) (s : Space) (ms : List Matcher) (asked : List AskedLabel)
    (name : List ℕ) (found : Completeness) → IsUniverse s.labels → IsTrue (is_settled found)
    → IsSoAt a s ms asked name found → IsSpaceCompleteAt a s ms name
whole_by a s ms asked name (state_is.Complete classes) is settled so = so.0
whole_by a s ms asked name (state_is.Lacks text) is settled so =
    absurd (false≢true settled)
whole_by a s ms asked name state_is.Unasked is settled so =
    space_complete_without_matchers a s ms name is so
whole_by a s ms asked name state_is.Undeclarable is settled so =
    absurd (false≢true settled)
whole_by a s ms asked name (state_is.Unproved origin) is settled so =
    absurd (false≢true settled)

pub refused_by : (a : Alphabet) (s : Space) (k : Configurations) (i : ℕ) (l : Label)
    (found : Completeness) (place : Place) (r : Refusal) → slice_get s.labels i ≡ Some l
    → AreDeclaredWhole a s k (take i s.labels) → IsStateRefusal k i l.name found place r
    → IsSoAt a s (routing_matchers s k) (labels_of_routes k s.impossible) l.name found
    → IsDeclaredRefusal a s k place r
refused_by a s k i l found place r at before refused so = record {
  position = i;
  label = l;
  there = at;
  before = before;
  refused = by found refused so;
}
  where
    by : (found : Completeness) → IsStateRefusal k i l.name found place r
        → IsSoAt a s (routing_matchers s k) (labels_of_routes k s.impossible) l.name found
        → LacksValue a s k i l place r ⊎ IsUndecided a s k l place r
    by (state_is.Complete classes) refused so = absurd refused
    by (state_is.Lacks text) refused so =
        inl ((λ whole. so.3 (whole (string_bytes text) so.1 so.2)), refused)
    by state_is.Unasked refused so = absurd refused
    by state_is.Undeclarable refused so = inl (so.1, refused)
    by (state_is.Unproved origin) refused so =
        inr (so.0.0, so.0.1, so.0.2, so.1, rw (so.0.2, so.0.3) refused)
