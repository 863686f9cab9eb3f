-- Which fault of a call comes first. (This project's own.)
use Rattle.std.specs.Prelude.{◌≡◌, ◌≢◌, ◌⊎◌, ◌<◌, ◌≤◌, ℕ, List, [], ◌∷◌, length, map, ⊤}
use Rattle.std.specs.Prelude.{Option, Some, None}
use Rattle.am_universe.specs.declared.kind.Kind.TheVariants as kinds
use Rattle.am_universe.specs.declared.place.Place.{Place}
use Rattle.am_universe.specs.declared.place.Place.TheVariants as places
use Rattle.am_universe.specs.declared.fault.Fault.{Fault}
use Rattle.am_universe.specs.LabelSet.{LabelMap}
use Rattle.am_labels.specs.ParsedLabelSet.{WordsSpellSet, SetWordsRefusedFor}
use Rattle.am_labels.specs.Space.{Space}
use Rattle.am_json.specs.Pointer.{Refusal, refusal_here}
use Rattle.am_json.specs.Reading.{refusal_of}
use Rattle.am_list_files.specs.UniverseFile.{FileSaysUniverse}
use Rattle.am_list_files.specs.UniverseForm.{UniverseFileRefusedFor}
use Rattle.am_config.specs.ConfigFile.{Configuration, FileSaysConfig}
use Rattle.am_config.specs.ConfigForm.{ConfigFileRefusedFor}
use Rattle.am_list_files.specs.SilencesFile.{Silence}
use Rattle.am_list_files.specs.SilencesForm.{SilencesFileRefusedFor}
use Rattle.am_list_files.specs.AlertsForm.{IsFirstFaultOfAlertsFile}
use Rattle.am_eval.specs.declared.limits.TheConstants.{MAX_PAIRS}
use Rattle.am_eval.specs.Pairs.{pairs_of}
use Rattle.am_files.specs.Files.{SaysSilencesIfAny, SaysAlertsIfAny, SaysUniverseIfAny}
use Rattle.am_files.specs.AskedInstant.{instant_fault}

-- A stage of a call, which reads one of its inputs. It has the place of its faults, what it means
-- that the input is accepted, and what the input may be refused for.
pub record Stage : Type 1 where
  pub place : Place
  pub accepts : Type 0
  pub refuses : Refusal → Type 0

-- The first fault of a call with these stages in this order, unless memory runs out: one stage
-- refuses its input for this fault, and every earlier stage accepts its own input.
-- Source: own choice.
-- Example: if both files of `dead` are `{`, the first fault is the `not-json` of the universe file.
abbrev pub IsFirstFaultOfCall : List Stage → Place → Refusal → Type 0
IsFirstFaultOfCall [] place r = ⊥
IsFirstFaultOfCall (stage ∷ later) place r =
    ((place ≡ stage.place) × stage.refuses r) ⊎ (stage.accepts × IsFirstFaultOfCall later place r)

-- The fault is the first fault of a call with these stages in this order, unless memory ran out.
abbrev pub IsFirstFault : List Stage → Fault → Type 0
IsFirstFault stages fault =
    fault.kind ≢ kinds.Memory → IsFirstFaultOfCall stages fault.place (refusal_of fault)

-- ---- The stages that there are.

-- The bytes of a file say a configuration.
abbrev pub SaysSomeConfig : List ℕ → Type 0
SaysSomeConfig bytes = (configuration : Configuration) × FileSaysConfig bytes configuration

-- Why the bytes of a file of silences are refused, if there is one.
abbrev pub SilencesRefusedFor : Option (List ℕ) → Refusal → Type 0
SilencesRefusedFor None r = ⊥
SilencesRefusedFor (Some bytes) r = SilencesFileRefusedFor bytes r

-- Why the instant is refused: for its text, or because there is no text beside this file of
-- silences. Such a fault has the empty pointer.
abbrev pub InstantRefusedFor : Option (List ℕ) → Option (List ℕ) → Refusal → Type 0
InstantRefusedFor silences at r = (instant_fault silences at ≡ Some r.kind) × (r.pointer ≡ [])

-- Why the bytes of a file of alerts are refused, if there is one.
abbrev pub AlertsRefusedFor : Option (List ℕ) → Refusal → Type 0
AlertsRefusedFor None r = ⊥
AlertsRefusedFor (Some bytes) r = IsFirstFaultOfAlertsFile bytes r

-- The files say a configuration and alerts, and these do not have too many pairs.
pub record SaysFewPairs (config : List ℕ) (file : Option (List ℕ)) : Type 0 where
  pub configuration : Configuration
  pub says_config : FileSaysConfig config configuration
  pub alerts : List LabelMap
  pub says_alerts : SaysAlertsIfAny file alerts
  pub few : length (pairs_of configuration.rules alerts) ≤ MAX_PAIRS

-- The files say a configuration and alerts, and these have too many pairs. Such a fault has the
-- empty pointer.
-- Source: own choice.
-- Example: let each source side match each alert. Then 128 rules and 128 alerts are accepted. With
-- a 129th such rule there are 16,512 pairs, and the fault is `limit`.
pub record PairsRefusedFor (config : List ℕ) (file : Option (List ℕ)) (r : Refusal)
    : Type 0 where
  pub configuration : Configuration
  pub says_config : FileSaysConfig config configuration
  pub alerts : List LabelMap
  pub says_alerts : SaysAlertsIfAny file alerts
  pub many : MAX_PAIRS < length (pairs_of configuration.rules alerts)
  pub refusal : r ≡ refusal_here kinds.Limit

-- Why the words are refused as a label set. Such a fault has the empty pointer.
abbrev pub SetStageRefusedFor : List (List ℕ) → Refusal → Type 0
SetStageRefusedFor words r = SetWordsRefusedFor words r.kind × (r.pointer ≡ [])

-- The stage of the universe file.
abbrev pub universe_stage : List ℕ → Stage
universe_stage bytes = record {
  place = places.Universe;
  accepts = (space : Space) × FileSaysUniverse bytes space;
  refuses = UniverseFileRefusedFor bytes;
}

-- Why the bytes of a universe file are refused, if there is one; and its stage.
abbrev pub UniverseRefusedFor : Option (List ℕ) → Refusal → Type 0
UniverseRefusedFor None r = ⊥
UniverseRefusedFor (Some bytes) r = UniverseFileRefusedFor bytes r

abbrev pub universe_stage_if_any : Option (List ℕ) → Stage
universe_stage_if_any file = record {
  place = places.Universe;
  accepts = (s : Space) × SaysUniverseIfAny file s;
  refuses = UniverseRefusedFor file;
}

-- The stage of the configuration file.
abbrev pub config_stage : List ℕ → Stage
config_stage bytes = record {
  place = places.Config;
  accepts = SaysSomeConfig bytes;
  refuses = ConfigFileRefusedFor bytes;
}

-- The stage of the file of silences, if there is one.
abbrev pub silences_stage : Option (List ℕ) → Stage
silences_stage file = record {
  place = places.Silences;
  accepts = (silences : List Silence) × SaysSilencesIfAny file silences;
  refuses = SilencesRefusedFor file;
}

-- The stage of the file of alerts, if there is one.
abbrev pub alerts_stage : Option (List ℕ) → Stage
alerts_stage file = record {
  place = places.Alerts;
  accepts = (alerts : List LabelMap) × SaysAlertsIfAny file alerts;
  refuses = AlertsRefusedFor file;
}

-- The stage of the text of the instant, if there is one, beside a file of silences, if there is
-- one.
abbrev pub instant_stage : Option (List ℕ) → Option (List ℕ) → Stage
instant_stage silences at = record {
  place = places.Instant;
  accepts = instant_fault silences at ≡ None;
  refuses = InstantRefusedFor silences at;
}

-- The stage of the pairs of the rules of a configuration file and the alerts of a file, if there is
-- one.
abbrev pub pairs_stage : List ℕ → Option (List ℕ) → Stage
pairs_stage config file = record {
  place = places.Alerts;
  accepts = SaysFewPairs config file;
  refuses = PairsRefusedFor config file;
}

-- The stage of the words of a label set.
abbrev pub set_stage : List (List ℕ) → Stage
set_stage words = record {
  place = places.Set;
  accepts = (set : LabelMap) × WordsSpellSet words set;
  refuses = SetStageRefusedFor words;
}

-- The stages after those of the inputs, for what the inputs say. It may be refused at each of these
-- places.
abbrev pub later_stages : List Place → (Place → Refusal → Type 0) → List Stage
later_stages at_places Refuses =
    map (λ place. record { place = place; accepts = ⊤; refuses = Refuses place }) at_places
