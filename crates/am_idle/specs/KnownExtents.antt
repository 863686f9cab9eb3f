-- Which alerts lists of matchers match, as it is kept while silences are looked at. (This project's
-- own.)
use Rattle.std.specs.Prelude.{◌≡◌, ◌⊎◌, List, [], ◌∷◌, Result, Ok, Err, true}
use Rattle.std.specs.List.{AllByRecursion}
use Rattle.am_universe.specs.declared.kind.Kind.{Kind}
use Rattle.am_universe.specs.declared.kind.Kind.TheVariants as kinds
use Rattle.am_universe.specs.Universe.{Label}
use Rattle.am_labels.specs.Space.{Space}
use Rattle.am_labels.specs.Matcher.{Matcher}
use Rattle.am_classes.specs.declared.alphabet.Alphabet.{Alphabet}
use Rattle.am_every_alert.specs.EveryAlert.{IsAlertOf}
use Rattle.am_first_sets.specs.Budget.{looks_of}
use Rattle.am_first_sets.specs.Looks.{is_limit}
use Rattle.am_idle.specs.declared.known_extents.Extent.{Extent}
use Rattle.am_idle.specs.declared.known_extents.Extent.TheVariants as extent_is
use Rattle.am_idle.specs.declared.silences.SilenceFinding.{SilenceFinding}
use Rattle.am_idle.specs.declared.silences.SilenceFinding.TheVariants as finding_is
use Rattle.am_idle.specs.Lists.{StandsForLists, IsRefusalForLists}
use Rattle.am_idle.specs.Extent.{MatchesNone, MatchesOne, MatchesAll, MatchesNotAll}
use Rattle.am_idle.specs.NamedAlerts.{IsNamedAlert}
use Rattle.am_idle.specs.Silences.{IsNotKnown}

-- A list of matchers matches no alert that counts; or some, and not all ordinary ones that have an
-- alertname; or all of these.
abbrev pub HasExtent : Alphabet → Space → List Matcher → Extent → Type 0
HasExtent a s ms extent_is.Nothing = MatchesNone (IsAlertOf a s) ms
HasExtent a s ms extent_is.Part =
    MatchesOne (IsAlertOf a s) ms × MatchesNotAll (IsNamedAlert s) ms
HasExtent a s ms extent_is.All = MatchesAll (IsNamedAlert s) ms

-- A universe that stands for every alert is made for a list.
abbrev pub IsMade : Alphabet → Space → List Matcher → Type 0
IsMade a s ms = (u : List Label) × StandsForLists a s (ms ∷ []) u

-- It is known which alerts a list matches; and which alerts each of some lists matches.
abbrev pub IsKnown : Alphabet → Space → List Matcher × Extent → Type 0
IsKnown a s (ms, extent) = IsMade a s ms × HasExtent a s ms extent

abbrev pub AreKnown : Alphabet → Space → List (List Matcher × Extent) → Type 0
AreKnown a s known = AllByRecursion (IsKnown a s) known

-- It is not known which alerts a list matches, and this is said of a silence with the list.
abbrev pub IsSaidIfNotKnown : Alphabet → Space → List Matcher → SilenceFinding → Type 0
IsSaidIfNotKnown a s ms finding_is.Idle = ⊥
IsSaidIfNotKnown a s ms finding_is.All = ⊥
IsSaidIfNotKnown a s ms finding_is.Unused = ⊥
IsSaidIfNotKnown a s ms finding_is.Unproved = IsNotKnown a s ms
IsSaidIfNotKnown a s ms (finding_is.Undecided evidence) = is_limit (looks_of evidence) ≡ true

-- What is found of a list that is not refused; and that a list is refused.
abbrev pub IsFound : Alphabet → Space → List Matcher → Result Extent SilenceFinding → Type 0
IsFound a s ms (Ok extent) = IsKnown a s (ms, extent)
IsFound a s ms (Err finding) =
    (IsMade a s ms ⊎ IsRefusalForLists a s (ms ∷ []) kinds.Unproved)
    × IsSaidIfNotKnown a s ms finding

abbrev pub IsRefused : Alphabet → Space → List Matcher → Kind → Type 0
IsRefused a s ms kind = (kind ≡ kinds.Limit) × IsRefusalForLists a s (ms ∷ []) kind
