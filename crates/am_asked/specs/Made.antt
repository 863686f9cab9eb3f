-- Universes that are made for the labels that matchers ask about, and why none is made. (This
-- project's own.)
use Rattle.std.specs.Prelude.{◌≡◌, ℕ, List, [], Bool, false, Some, slice_get}
use Rattle.std.specs.List.{AllByRecursion}
use Rattle.am_universe.specs.declared.kind.Kind.TheVariants as kinds
use Rattle.am_universe.specs.declared.place.Place.{Place}
use Rattle.am_universe.specs.declared.place.Place.TheVariants as places
use Rattle.am_universe.specs.LabelSet.{LabelMap}
use Rattle.am_universe.specs.Universe.{Label, IsUniverse}
use Rattle.am_labels.specs.Matcher.{Matcher}
use Rattle.am_labels.specs.Space.{Space}
use Rattle.am_json.specs.Pointer.{Refusal, refusal_here}
use Rattle.am_classes.specs.declared.alphabet.Alphabet.{Alphabet}
use Rattle.am_complete.specs.AskedLabel.{AskedLabel}
use Rattle.am_complete.specs.declared.allowed_names.AllowedNames.{AllowedNames}
use Rattle.am_complete.specs.AllowedNames.{MayHaveLabel}
use Rattle.am_complete.specs.Complete.{IsSpaceComplete}
use Rattle.am_complete.specs.Covering.{CoversEachBut, KeepsLabels, AddsNeeded, AddsInOrder}
use Rattle.am_complete.specs.Covering.{HasTextsOver}
use Rattle.am_complete.specs.Representatives.{AddsRepresentatives}
use Rattle.am_complete.specs.Room.{HaveNoRoom, AreUnproved}
use Rattle.am_asked.specs.OriginPointer.{origin_pointer}

-- A space in which the same is impossible as in the given one, and no label is declared.
abbrev pub undeclared : Space → Space
undeclared s = record { labels = []; impossible = s.impossible }

-- A universe is made for matchers, and for the labels that they ask about, from the labels of a
-- space. With the impossible lists of the space it is complete for the matchers, unless it may lack
-- values. It keeps the labels and values of the space, and adds only what is needed. The labels
-- that it adds have names that it may declare, and are in the order in which they are asked about.
-- Its new texts may stand for their classes, as those of alerts may. If the texts of the space are
-- over the alphabet, so are its own.
-- Source: own choice.
-- Example: from a space without labels, for `team="db"`, it has `team` with absence and `db`.
pub record IsMadeBeside (a : Alphabet) (allowed : AllowedNames) (may_lack : Bool) (s : Space)
    (asked : List AskedLabel) (alerts : List LabelMap) (ms : List Matcher) (u : List Label)
    : Type 0 where
  pub universe : IsUniverse u
  pub complete : may_lack ≡ false
      → IsSpaceComplete a (record { labels = u; impossible = s.impossible }) ms
  pub keeps : KeepsLabels s.labels u
  pub names : AllByRecursion (λ l. MayHaveLabel allowed s.labels l.name) u
  pub adds : AddsNeeded a s ms u
  pub order : AddsInOrder s.labels asked u
  pub representatives : AddsRepresentatives may_lack a s alerts ms u
  pub over : HasTextsOver a s.labels → HasTextsOver a u

-- ---- Why no universe is made.

-- There is no room for the labels that are asked about: one of them needs more values than a label
-- may have, or, together with those of the space, more labels have to be declared than a universe
-- may have.
-- Source: own choice.
-- Example: this is so if 65 routes ask about 65 labels, each with one matcher `=`.
abbrev pub NoRoomFor :
    Alphabet → AllowedNames → Space → List AskedLabel → Place → Refusal → Type 0
NoRoomFor a allowed s asked place r =
    (place ≡ places.Universe) × HaveNoRoom a allowed s asked × (r ≡ refusal_here kinds.Limit)

-- Some universe keeps the labels of a space, declares beside them only names that it may declare,
-- and covers each label that is asked about, except those at some positions.
-- Source: own choice.
-- Example: if 65 labels are asked about, and one of them is at such a position, there may be one.
abbrev pub HaveRoomBut : Alphabet → AllowedNames → Space → List AskedLabel → List ℕ → Type 0
HaveRoomBut a allowed s asked unproved =
    (u : List Label) × IsUniverse u × KeepsLabels s.labels u
    × AllByRecursion (λ l. MayHaveLabel allowed s.labels l.name) u
    × CoversEachBut a s.impossible u asked unproved

-- A label is the first of those that are unproved, and there is room for the others.
-- Source: own choice.
-- Example: over Unicode, if a route has `team=~"\bdb"` and no label before `team` has a pattern,
-- `team` may be the first.
pub record IsFirstUnproved (a : Alphabet) (allowed : AllowedNames) (s : Space)
    (asked : List AskedLabel) (label : AskedLabel) : Type 0 where
  pub unproved : List ℕ
  pub labels : AreUnproved a allowed s asked unproved
  pub room : HaveRoomBut a allowed s asked unproved
  pub position : ℕ
  pub first : slice_get unproved 0 ≡ Some position
  pub there : slice_get asked position ≡ Some label

-- Some labels are unproved, though there is room for the others. The refusal is at the place of the
-- first matcher on the first of these labels, and points to what that matcher stands in.
-- Source: own choice.
-- Example: over Unicode, if the first child of the top-level route has `team=~"\bdb"`, and no
-- matcher before it is on `team`, the pointer is `/route/routes/0`.
abbrev pub UnprovedFor : Alphabet → AllowedNames → Space → List AskedLabel → (AskedLabel → Place)
    → Place → Refusal → Type 0
UnprovedFor a allowed s asked place_of place r =
    (label : AskedLabel) × IsFirstUnproved a allowed s asked label × (place ≡ place_of label)
    × (r ≡ record { kind = kinds.Unproved; pointer = origin_pointer label.first })
