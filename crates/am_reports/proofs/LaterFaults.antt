-- The first fault after those of the inputs.
use Rattle.std.proofs.Common.{◌≡◌, ℕ, List, [], ◌∷◌, ◌++◌, append_assoc, Bool, true, false, inl, inr}
use Rattle.std.proofs.Common.{refl, sym, subst, Option, Some, None}
use Rattle.std.specs.Prelude.{if◌then◌else◌, unwrap_or}
use Rattle.am_universe.specs.declared.place.Place.{Place}
use Rattle.am_universe.specs.declared.place.Place.TheVariants as places
use Rattle.am_universe.proofs.ListLemmas.{IsIn}
use Rattle.am_labels.specs.Matcher.{Matcher}
use Rattle.am_labels.specs.Space.{Space}
use Rattle.am_json.specs.Pointer.{Refusal}
use Rattle.am_alerting_rules.specs.RulesFile.{AlertingRule}
use Rattle.am_config.specs.ConfigFile.{Configuration}
use Rattle.am_config.specs.WholeConfig.{WholeConfiguration}
use Rattle.am_eval.specs.World.{World}
use Rattle.am_files.specs.Faults.{Stage, IsFirstFaultOfCall, later_stages}
use Rattle.am_files.specs.Files.{config_of}
use Rattle.am_files.specs.AcceptedWorld.{world_stages}
use Rattle.am_files.proofs.FirstFaults.{first_behind_world}
use Rattle.am_classes.specs.declared.alphabet.Alphabet.{Alphabet}
use Rattle.am_classes.specs.declared.alphabet.Alphabet.TheVariants.{Ascii}
use Rattle.am_complete.specs.declared.origin.Origin.{Origin}
use Rattle.am_complete.specs.declared.origin.Origin.TheVariants as origin_is
use Rattle.am_asked.specs.OriginPointer.{matcher_places}
use Rattle.am_files.proofs.FirstFaults.{refused_later}
use Rattle.am_asked.proofs.MatcherPlaces.{origin_in}
use Rattle.am_outcomes.specs.Configurations.{Configurations, One, Pair, Silenced, Ends}
use Rattle.am_outcomes.specs.Configurations.{Matched}
use Rattle.am_reports.specs.RoutingLabels.{asks_of, first_place}
use Rattle.am_reports.specs.ReportInputs.{ReportInputs, AcceptsReportInputs}
use Rattle.am_reports.specs.CompareInputs.{CompareInputs, AcceptsCompareInputs}
use Rattle.am_reports.specs.Made.{IsMadeRefusal, IsDeclaredRefusal}
use Rattle.am_reports.specs.CutOff.{IsCutOff, routes_file}
use Rattle.am_reports.specs.LaterStages.{IsOutcomesRefusal}
use Rattle.am_reports.specs.OutcomesReport.{outcomes_promise, RefusesOutcomes}
use Rattle.am_reports.specs.AskedReceivers.{ArePositions, IsUnknownReceiver, receivers_stage}
use Rattle.am_reports.specs.RoutesReport.{routes_promise, RefusesRoutes, IsUnmadeRefusal}
use Rattle.am_reports.specs.Comparing.{compare_promise, IsComparisonRefusal, RefusesComparison}
use Rattle.am_reports.specs.Linting.{lint_promise, RefusesLint, IsLintRefusal}
use Rattle.am_asked.specs.Made.{undeclared}
use Rattle.am_reports.specs.RulesOutcomes.{IsRulesRefusal}
use Rattle.am_reports.specs.RulesReach.{IsReachRefusal}
use Rattle.am_reports.specs.RulesFile.{rules_stage}
use Rattle.am_reports.specs.WorldInputs.{WorldInputs, AcceptsWorldInputs, world_input_stages}
use Rattle.am_reports.specs.WhereReport.{where_promise, RefusesWhere, silenced_by}

-- ---- The places.

old_or_new : (b : Bool) → IsIn matcher_places (if b then places.Old else places.New)
old_or_new true = inr (inr (inl refl))
old_or_new false = inr (inr (inr (inl refl)))

first_in : (k : Configurations) (name : List ℕ) (o : Origin)
    → IsIn matcher_places (first_place k name o)
first_in (One c) name o = origin_in o
first_in (Pair old new) name (origin_is.Route path) = old_or_new (asks_of old name)
first_in (Pair old new) name (origin_is.Rule position) = origin_in (origin_is.Rule position)
first_in (Pair old new) name (origin_is.Silence position) = origin_in (origin_is.Silence position)
first_in (Pair old new) name (origin_is.Question position) =
    origin_in (origin_is.Question position)
first_in (Pair old new) name (origin_is.Impossible position) =
    origin_in (origin_is.Impossible position)
first_in (Silenced c silences) name o = origin_in o
first_in (Ends c) name o = origin_in o
first_in (Matched ms) name o = origin_in o

made_in : (a : Alphabet) (lists : List (List Matcher)) (k : Configurations) (place : Place)
    (r : Refusal) → IsMadeRefusal a lists k place r → IsIn matcher_places place
made_in a lists k place r (inl full) = inl (sym full.0)
made_in a lists k place r (inr unproved) =
    subst (IsIn matcher_places) (sym unproved.2)
    (first_in k unproved.0.name unproved.0.first)

declared_in : (a : Alphabet) (s : Space) (k : Configurations) (place : Place) (r : Refusal)
    → IsDeclaredRefusal a s k place r → IsIn matcher_places place
declared_in a s k place r found = elim found.refused [
  | inl lacks ↦ inl (sym lacks.1.0)
  | inr undecided ↦
      subst (IsIn matcher_places) (sym undecided.4.0)
      (first_in k undecided.0.name undecided.0.first)
]

-- the file whose routes are named is one of the places
cut_in : (k : Configurations) (place : Place) (r : Refusal) → IsCutOff (routes_file k) [] place r
    → IsIn matcher_places place
cut_in (One c) place r cut = inr (inl (sym cut.place_is))
cut_in (Pair old new) place r cut = inr (inr (inr (inl (sym cut.place_is))))
cut_in (Silenced c silences) place r cut = inr (inl (sym cut.place_is))
cut_in (Ends c) place r cut = inr (inl (sym cut.place_is))
cut_in (Matched ms) place r cut = inr (inl (sym cut.place_is))

outcomes_in : (a : Alphabet) (s : Space) (k : Configurations) (place : Place) (r : Refusal)
    → IsOutcomesRefusal a s k place r → IsIn matcher_places place
outcomes_in a s k place r (inl declared) = declared_in a s k place r declared
outcomes_in a s k place r (inr (whole, inl made)) = made_in a s.impossible k place r made
outcomes_in a s k place r (inr (whole, inr (inl many))) = inl (sym many.0)
outcomes_in a s k place r (inr (whole, inr (inr cut))) = cut_in k place r cut

unmade_in : (a : Alphabet) (s : Space) (c : Configuration) (place : Place) (r : Refusal)
    → IsUnmadeRefusal a s c place r → IsIn matcher_places place
unmade_in a s c place r (inl declared) = declared_in a s (One c) place r declared
unmade_in a s c place r (inr (whole, inl made)) = made_in a s.impossible (One c) place r made
unmade_in a s c place r (inr (whole, inr cut)) = inr (inl (sym cut.1.place_is))

rules_in : (a : Alphabet) (s : Space) (k : Configurations) (rules : List AlertingRule)
    (place : Place) (r : Refusal) → IsRulesRefusal a s k rules place r → IsIn matcher_places place
rules_in a s k rules place r (inl declared) = declared_in a s k place r declared
rules_in a s k rules place r (inr (whole, inl made)) = made_in a s.impossible k place r made
rules_in a s k rules place r (inr (whole, inr (inl many))) = inl (sym many.0)
rules_in a s k rules place r (inr (whole, inr (inr cut))) = cut_in k place r cut

reach_in : (a : Alphabet) (s : Space) (c : Configuration) (alerting : Option (List AlertingRule))
    (place : Place) (r : Refusal) → IsReachRefusal a s c alerting place r
    → IsIn matcher_places place
reach_in a s c None place r refused = absurd refused
reach_in a s c (Some rules) place r refused = rules_in a s (Ends c) rules place r refused

lint_in : (a : Alphabet) (s : Space) (w : World) (alerting : Option (List AlertingRule))
    (place : Place) (r : Refusal) → IsLintRefusal a s w alerting place r → IsIn matcher_places place
lint_in a s w alerting place r (inl declared) =
    declared_in a s (One w.config) place r declared
lint_in a s w alerting place r (inr (whole, inl (inl every))) =
    made_in a s.impossible (One w.config) place r every
lint_in a s w alerting place r (inr (whole, inl (inr ordinary))) =
    made_in Ascii s.impossible (One w.config) place r ordinary
lint_in a s w alerting place r (inr (whole, inr (inl rule))) = inr (inl (sym rule.2))
lint_in a s w alerting place r (inr (whole, inr (inr (inl silence)))) =
    inr (inr (inr (inr (inl (sym silence.2)))))
lint_in a s w alerting place r (inr (whole, inr (inr (inr reach)))) =
    reach_in a (undeclared s) w.config alerting place r reach

comparison_in : (a : Alphabet) (s : Space) (k : Configurations) (rules : Option (List AlertingRule))
    (place : Place) (r : Refusal) → IsComparisonRefusal a s k rules place r
    → IsIn matcher_places place
comparison_in a s k None place r refused = outcomes_in a s k place r refused
comparison_in a s k (Some rules) place r refused = rules_in a s k rules place r refused

-- ---- The first faults.

pub outcomes_refused : (inputs : ReportInputs) (s : Space) (c : Configuration) (place : Place)
    (r : Refusal) → AcceptsReportInputs inputs s c
    → IsOutcomesRefusal inputs.alphabet s (One c) place r
    → IsFirstFaultOfCall (outcomes_promise inputs).stages place r
outcomes_refused inputs s c place r accepts refused =
    inr (
      (s, accepts.says_universe),
      inr (
        (c, accepts.says_config),
        refused_later (RefusesOutcomes inputs) place r (s, c, accepts, refused) matcher_places
            (outcomes_in inputs.alphabet s (One c) place r refused),
      ),
    )

-- a name of `routes` is that of no receiver
pub names_refused : (inputs : ReportInputs) (names : List (List ℕ)) (s : Space)
    (c : Configuration) (place : Place) (r : Refusal) → AcceptsReportInputs inputs s c
    → place ≡ places.Question → IsUnknownReceiver c names r
    → IsFirstFaultOfCall (routes_promise inputs names).stages place r
names_refused inputs names s c place r accepts at unknown =
    inr (
      (s, accepts.says_universe),
      inr ((c, accepts.says_config), inl (at, (c, accepts.says_config, unknown))),
    )

pub routes_refused : (inputs : ReportInputs) (names : List (List ℕ)) (s : Space)
    (c : Configuration) (positions : List ℕ) (place : Place) (r : Refusal)
    → AcceptsReportInputs inputs s c → ArePositions c names positions
    → IsUnmadeRefusal inputs.alphabet s c place r
    → IsFirstFaultOfCall (routes_promise inputs names).stages place r
routes_refused inputs names s c positions place r accepts are refused =
    inr (
      (s, accepts.says_universe),
      inr (
        (c, accepts.says_config),
        inr (
          (c, accepts.says_config, positions, are),
          refused_later (RefusesRoutes inputs) place r (s, c, accepts, refused) matcher_places
              (unmade_in inputs.alphabet s c place r refused),
        ),
      ),
    )

pub comparison_refused : (inputs : CompareInputs) (s : Space) (old new : WholeConfiguration)
    (rules : Option (List AlertingRule)) (place : Place) (r : Refusal)
    → AcceptsCompareInputs inputs s old new rules
    → IsComparisonRefusal inputs.alphabet s (Pair old.config new.config) rules place r
    → IsFirstFaultOfCall (compare_promise inputs).stages place r
comparison_refused inputs s old new rules place r accepts refused =
    let later = refused_later (RefusesComparison inputs) place r
    (s, old, new, rules, accepts, refused) matcher_places
    (comparison_in inputs.alphabet s (Pair old.config new.config) rules place r refused) in
    inr (
      (s, accepts.says_universe),
      inr (
        (old, accepts.says_old),
        inr ((new, accepts.says_new), inr ((rules, accepts.says_rules), later)),
      ),
    )

-- ---- The first faults of `lint` and of `where`.

module _ (inputs : WorldInputs) (s : Space) (w : World) (rules : Option (List AlertingRule))
    (accepts : AcceptsWorldInputs inputs s w rules) (place : Place) (r : Refusal) where
  -- if the inputs are accepted, a first fault of the later stages is one of all stages
  behind_rules : (later : List Stage) → IsFirstFaultOfCall later place r
      → IsFirstFaultOfCall (world_input_stages inputs ++ later) place r
  behind_rules later behind =
      inr (
        (s, accepts.says_universe),
        subst (λ stages. IsFirstFaultOfCall stages place r)
            (sym (append_assoc (world_stages inputs.files) (rules_stage inputs.rules ∷ []) later))
            (first_behind_world inputs.files w (rules_stage inputs.rules ∷ later) place r
            accepts.accepts_world (inr ((rules, accepts.says_rules), behind))),
      )

  pub lint_refused : IsLintRefusal inputs.alphabet s w rules place r
      → IsFirstFaultOfCall (lint_promise inputs).stages place r
  lint_refused refused =
      behind_rules (later_stages matcher_places (RefusesLint inputs))
      (refused_later (RefusesLint inputs) place r (s, w, rules, accepts, refused) matcher_places
      (lint_in inputs.alphabet s w rules place r refused))

  module _ (names : List (List ℕ)) where
    abbrev refused_stages : List Stage
    refused_stages = later_stages matcher_places (RefusesWhere inputs)

    abbrev names_stage : Stage
    names_stage = receivers_stage (config_of inputs.files.config) names

    -- a name of `where` is that of no receiver
    pub where_names_refused : place ≡ places.Question → IsUnknownReceiver w.config names r
        → IsFirstFaultOfCall (where_promise inputs names).stages place r
    where_names_refused at unknown =
        behind_rules (names_stage ∷ refused_stages)
        (inl (at, (w.config, accepts.accepts_world.accepts_files.says_config, unknown)))

    pub where_refused : (positions : List ℕ) → ArePositions w.config names positions
        → IsRulesRefusal inputs.alphabet s (silenced_by w) (unwrap_or rules []) place r
        → IsFirstFaultOfCall (where_promise inputs names).stages place r
    where_refused positions are refused =
        behind_rules (names_stage ∷ refused_stages)
        (inr (
          (w.config, accepts.accepts_world.accepts_files.says_config, positions, are),
          refused_later (RefusesWhere inputs) place r (s, w, rules, accepts, refused) matcher_places
              (rules_in inputs.alphabet s (silenced_by w) (unwrap_or rules []) place r refused),
        ))
