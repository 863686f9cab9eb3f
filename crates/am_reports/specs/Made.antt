-- Universes that are made in memory for the routes of one or two configurations, and why none is
-- made. (This project's own.)
use Rattle.std.specs.Prelude.{◌≡◌, ◌⊎◌, ℕ, List, [], ◌++◌, Option, Some, None, slice_get, take}
use Rattle.std.specs.Prelude.{Contains, codes, decimal}
use Rattle.std.specs.List.{AllByRecursion}
use Rattle.am_universe.specs.declared.kind.Kind.TheVariants as kinds
use Rattle.am_universe.specs.declared.place.Place.{Place}
use Rattle.am_universe.specs.declared.place.Place.TheVariants as places
use Rattle.am_universe.specs.Universe.{Label}
use Rattle.am_labels.specs.Matcher.{Matcher}
use Rattle.am_labels.specs.Space.{Space}
use Rattle.am_json.specs.Pointer.{Refusal}
use Rattle.am_config.specs.ConfigFile.{Configuration}
use Rattle.am_classes.specs.declared.alphabet.Alphabet.{Alphabet}
use Rattle.am_classes.specs.declared.alphabet.Alphabet.TheVariants.{Unicode, Ascii}
use Rattle.am_complete.specs.declared.allowed_names.AllowedNames.TheVariants as allowed_are
use Rattle.am_complete.specs.declared.origin.Origin.{Origin}
use Rattle.am_complete.specs.declared.label_state.Completeness.{Completeness}
use Rattle.am_complete.specs.declared.label_state.Completeness.TheVariants as state_is
use Rattle.am_complete.specs.AskedLabel.{AskedLabel}
use Rattle.am_complete.specs.Complete.{about, IsSpaceCompleteAt}
use Rattle.am_complete.specs.Covering.{AddsNeeded, AddsInOrder}
use Rattle.am_classes.specs.Limits.{MayBePastLimits}
use Rattle.am_every_alert.specs.Deciding.{StandsFor, space_of}
use Rattle.am_asked.specs.OriginPointer.{origin_pointer}
use Rattle.am_asked.specs.Made.{NoRoomFor, UnprovedFor}
use Rattle.am_outcomes.specs.Configurations.{Configurations, One}
use Rattle.am_reports.specs.RoutingLabels.{routing_matchers}
use Rattle.am_rule_outcomes.specs.StandsForOutcomes.{outcome_matchers}
use Rattle.am_reports.specs.RoutingLabels.{labels_of_routes, first_place}

-- A universe stands for every alert over an alphabet that no impossible list matches: it is
-- complete for the matchers of the routes and of these lists, its texts are over the alphabet, and
-- it has nothing that is not needed for that. Its labels are in the order in which the routes, and
-- then the lists, ask about them.
-- Source: own choice.
-- Example: for one route with `team="db"`, the universe in which `team` may be absent or `db` does
-- so over each alphabet. It does not if `team` may also be `web`.
pub record StandsForAll (a : Alphabet) (lists : List (List Matcher)) (k : Configurations)
    (u : List Label) : Type 0 where
  pub stands : StandsFor a (space_of lists u) (outcome_matchers k)
  pub adds : AddsNeeded a (space_of lists []) (routing_matchers (space_of lists u) k) u
  pub order : AddsInOrder [] (labels_of_routes k lists) u

-- No universe is made, since there is no room for the labels that are asked about, or since some of
-- them are unproved. The refusal of an unproved label is at the file of the first matcher on it. No
-- label is unproved for its name.
-- Source: own choice.
-- Example: this is so if 65 routes ask about 65 labels, each with one matcher `=`.
abbrev pub IsMadeRefusal :
    Alphabet → List (List Matcher) → Configurations → Place → Refusal → Type 0
IsMadeRefusal a lists k place r =
    let s = space_of lists [] in
    let asked = labels_of_routes k lists in
    NoRoomFor a allowed_are.Any s asked place r
    ⊎ UnprovedFor a allowed_are.Any s asked (λ l. first_place k l.name l.first) place r

-- ---- Labels that a universe file declares.

-- A label of a space lacks no value for the matchers of the routes and of the impossible lists: the
-- space has a value for each class of texts that the label may have. And the same for each label of
-- a list.
abbrev pub IsDeclaredWhole : Alphabet → Space → Configurations → Label → Type 0
IsDeclaredWhole a s k label = IsSpaceCompleteAt a s (routing_matchers s k) label.name

abbrev pub AreDeclaredWhole : Alphabet → Space → Configurations → List Label → Type 0
AreDeclaredWhole a s k labels = AllByRecursion (IsDeclaredWhole a s k) labels

-- The alphabet of the alerts that count, by the universe for all alerts, which is made only if they
-- all count.
abbrev pub alphabet_over : Option (List Label) → Alphabet
alphabet_over None = Ascii
alphabet_over (Some u) = Unicode

-- No universe is made for the alerts that count, or none for ordinary alerts.
abbrev pub IsRoutesRefusal :
    Alphabet → List (List Matcher) → Configuration → Place → Refusal → Type 0
IsRoutesRefusal a lists c place r =
    IsMadeRefusal a lists (One c) place r ⊎ IsMadeRefusal Ascii lists (One c) place r

-- The refusal of a label at a position, which lacks a value; and that of a label of this name that
-- is unproved, at the file of the first matcher on it, which has this origin.
abbrev pub IsIncompleteAt : ℕ → Place → Refusal → Type 0
IsIncompleteAt position place r =
    (place ≡ places.Universe)
    × (r ≡ record { kind = kinds.Incomplete; pointer = codes "/labels/" ++ decimal position })

abbrev pub IsUnprovedAt : Configurations → List ℕ → Origin → Place → Refusal → Type 0
IsUnprovedAt k name origin place r =
    (place ≡ first_place k name origin)
    × (r ≡ record { kind = kinds.Unproved; pointer = origin_pointer origin })

-- A label of a space, at a position, is refused since it lacks a value.
-- Source: own choice.
-- Example: if `team` may be `db` or `web`, and a route asks for `team="db"`, it lacks no value. If
-- it may only be `db`, the refusal is `incomplete` at `/labels/0`.
abbrev pub LacksValue : Alphabet → Space → Configurations → ℕ → Label → Place → Refusal → Type 0
LacksValue a s k position label place r =
    (IsDeclaredWhole a s k label → ⊥) × IsIncompleteAt position place r

-- A label of a space is refused since its classes could not be computed: a matcher on it takes a
-- pattern that is no alternation of plain texts, and if all such patterns are made of plain
-- characters, `.*` and bars, there are too many states or classes.
-- Source: own choice.
-- Example: `team` is declared, and a route has `team=~"\bdb"`, over Unicode.
abbrev pub IsUndecided : Alphabet → Space → Configurations → Label → Place → Refusal → Type 0
IsUndecided a s k label place r =
    (asked : AskedLabel) × Contains (labels_of_routes k s.impossible) asked
    × (asked.name ≡ label.name) × MayBePastLimits a (about label.name (routing_matchers s k))
    × IsUnprovedAt k asked.name asked.first place r

-- A label that the space declares is refused at this place, for one of these reasons. No label
-- before it lacks a value.
pub record IsDeclaredRefusal (a : Alphabet) (s : Space) (k : Configurations) (place : Place)
    (r : Refusal) : Type 0 where
  pub position : ℕ
  pub label : Label
  pub there : slice_get s.labels position ≡ Some label
  pub before : AreDeclaredWhole a s k (take position s.labels)
  pub refused : LacksValue a s k position label place r ⊎ IsUndecided a s k label place r

-- How a label at a position is refused, by its state.
abbrev pub IsStateRefusal :
    Configurations → ℕ → List ℕ → Completeness → Place → Refusal → Type 0
IsStateRefusal k position name (state_is.Complete classes) place r = ⊥
IsStateRefusal k position name (state_is.Lacks text) place r = IsIncompleteAt position place r
IsStateRefusal k position name state_is.Unasked place r = ⊥
IsStateRefusal k position name state_is.Undeclarable place r = IsIncompleteAt position place r
IsStateRefusal k position name (state_is.Unproved origin) place r =
    IsUnprovedAt k name origin place r
