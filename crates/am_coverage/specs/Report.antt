-- What the reports say, line by line, over all label sets of a universe. (This project's own.)
use Rattle.std.specs.Prelude.{◌≡◌, ℕ, List, ◌++◌, Option, Some, None, codes, false, length}
use Rattle.std.specs.List.{AllZip, flat_map, range_with_len}
use Rattle.am_universe.specs.LabelSet.{LabelMap, label_set_of}
use Rattle.am_labels.specs.Space.{Space, IsChoiceOf}
use Rattle.am_config.specs.ConfigFile.{Configuration}
use Rattle.am_config.specs.RoutePaths.{paths_of}
use Rattle.am_eval.specs.Reaching.{EndsAt, Enters, GoesTo, SomeIs, NoneIs, IsSetOf, IsDead}
use Rattle.am_eval.specs.Reaching.{IsNeverEntered}
use Rattle.am_search.specs.Start.{comes_before}
use Rattle.am_coverage.specs.declared.coverage.RouteCoverage.{RouteCoverage}
use Rattle.am_coverage.specs.declared.coverage.RouteCoverage.TheVariants as route_is
use Rattle.am_coverage.specs.WrittenCoverage.{route_line, receiver_line}

-- This choice is the first of a space, in declared order, whose label set has a property. Without a
-- choice, no label set of the space has it.
-- Source: own choice.
-- Example: if the label sets of the choices 0 0, 0 1 and 1 1 have the property, and no others do,
-- the first is 0 0.
pub record IsFirstChoice (s : Space) (Is : LabelMap → Type 0) (choice : List ℕ) : Type 0 where
  pub possible : IsChoiceOf s choice
  pub has : Is (label_set_of s.labels choice)
  pub first : (other : List ℕ) → IsChoiceOf s other → Is (label_set_of s.labels other)
      → comes_before other choice ≡ false

abbrev pub IsFirst : Space → (LabelMap → Type 0) → Option (List ℕ) → Type 0
IsFirst s Is None = NoneIs (IsSetOf s) Is
IsFirst s Is (Some choice) = IsFirstChoice s Is choice

-- What is said of a route is true over all label sets: it is live, and this choice is the first
-- whose label set ends there; or it is dead, and some label set enters it; or none enters it.
-- Source: own choice.
-- Example: a route with the matcher `team=ops` is never entered if the universe does not declare
-- that value. A route whose children match all that it matches is dead, and it is entered if some
-- label set ends below it.
abbrev pub IsCoverage : Space → Configuration → List ℕ → RouteCoverage → Type 0
IsCoverage s c path (route_is.Live choice) = IsFirstChoice s (EndsAt c path) choice
IsCoverage s c path route_is.Entered =
    IsDead (IsSetOf s) c path × SomeIs (IsSetOf s) (Enters c path)
IsCoverage s c path route_is.NeverEntered = IsNeverEntered (IsSetOf s) c path

-- The line of a route says a coverage that is true of it.
-- Source: own choice.
-- Example: `/ live {team="web"}`, `/0 dead entered` and `/1 dead never-entered` are three lines.
abbrev pub IsRouteLine : Space → Configuration → List ℕ → List ℕ → Type 0
IsRouteLine s c path line =
    (coverage : RouteCoverage) × IsCoverage s c path coverage
    × (line ≡ route_line s.labels (record { path = path; coverage = coverage }))

-- The line of a receiver says what is true of it over all label sets: it is live, and this choice
-- is the first whose label set goes to it; or it is unmatched, as no label set goes to it.
-- Source: own choice.
-- Example: `"dba" live {team="db"}` and `"idle" unmatched` are two lines.
abbrev pub IsReceiverLine : Space → Configuration → ℕ → List ℕ → Type 0
IsReceiverLine s c receiver line =
    (choice : Option (List ℕ)) × IsFirst s (GoesTo c receiver) choice
    × (line ≡ receiver_line s.labels c.receivers (record { receiver = receiver; choice = choice }))

-- The report on some things has the line of each, in order, and then `# end`. The report of routes
-- is on all paths, in preorder, and that of receivers on all receivers, in declared order.
-- Source: own choice.
-- Example: the report of routes of a configuration with the top-level route alone has two lines.
pub record IsReport {K : Type 0} (IsLine : K → List ℕ → Type 0) (things : List K)
    (report : List ℕ) : Type 0 where
  pub lines : List (List ℕ)
  pub each : AllZip IsLine things lines
  pub joined : report ≡ flat_map (λ line. line) lines ++ codes "# end\n"

abbrev pub IsRoutesReport : Space → Configuration → List ℕ → Type 0
IsRoutesReport s c = IsReport (IsRouteLine s c) (paths_of c)

abbrev pub IsReceiversReport : Space → Configuration → List ℕ → Type 0
IsReceiversReport s c = IsReport (IsReceiverLine s c) (range_with_len 0 (length c.receivers))
