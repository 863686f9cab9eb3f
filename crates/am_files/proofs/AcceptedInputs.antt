-- Inputs that are accepted have no first fault, except a pattern that the engine may refuse.
use Rattle.std.proofs.Common.{◌≡◌, ℕ, List, ◌∷◌, ◌++◌, length, Option, None, Some}
use Rattle.std.proofs.Common.{sym, ap, ◌∙◌, inl, inr, arith}
use Rattle.std.proofs.lemmas.Grind.{common_steps}
use Rattle.am_universe.specs.declared.kind.Kind.TheVariants as kinds
use Rattle.am_universe.specs.declared.place.Place.{Place}
use Rattle.am_universe.specs.LabelSet.{LabelMap}
use Rattle.am_labels.specs.Space.{Space}
use Rattle.am_json.specs.Pointer.{Refusal}
use Rattle.am_json.proofs.FormLaws.{says_no_fault}
use Rattle.am_list_files.specs.UniverseFile.{FileSaysUniverse}
use Rattle.am_list_files.specs.UniverseForm.{UniverseFileRefusedFor}
use Rattle.am_list_files.specs.SilencesFile.{Silence}
use Rattle.am_list_files.proofs.UniverseLaws.{universe_file_laws}
use Rattle.am_list_files.proofs.SilencesLaws.{silences_file_laws}
use Rattle.am_list_files.proofs.AlertsLaws.{alerts_file_laws}
use Rattle.am_config.specs.ConfigFile.{Configuration, FileSaysConfig}
use Rattle.am_config.specs.ConfigForm.{ConfigFileRefusedFor}
use Rattle.am_config.proofs.ConfigLaws.{config_file_laws}
use Rattle.am_eval.specs.World.{World}
use Rattle.am_eval.specs.Pairs.{pairs_of}
use Rattle.am_files.specs.Files.{config_of, SaysSilencesIfAny, SaysAlertsIfAny}
use Rattle.am_files.specs.AskedInstant.{instant_fault}
use Rattle.am_files.specs.Faults.{Stage, IsFirstFaultOfCall, SilencesRefusedFor, AlertsRefusedFor}
use Rattle.am_files.specs.Faults.{InstantRefusedFor, PairsRefusedFor}
use Rattle.am_files.specs.Files.{Files}
use Rattle.am_files.specs.AcceptedWorld.{AcceptsFiles, AcceptsWorld, world_stages}

-- ---- Files.

pub universe_accepted : (bytes : List ℕ) (s : Space) (r : Refusal) → FileSaysUniverse bytes s
    → UniverseFileRefusedFor bytes r → r.kind ≡ kinds.Pattern
universe_accepted = universe_file_laws.accepted

pub config_accepted : (bytes : List ℕ) (c : Configuration) (r : Refusal) → FileSaysConfig bytes c
    → ConfigFileRefusedFor bytes r → r.kind ≡ kinds.Pattern
config_accepted = config_file_laws.accepted

silences_accepted : (file : Option (List ℕ)) (silences : List Silence) (r : Refusal)
    → SaysSilencesIfAny file silences → SilencesRefusedFor file r → r.kind ≡ kinds.Pattern
silences_accepted None silences r said refused = absurd refused
silences_accepted (Some bytes) silences r said refused =
    silences_file_laws.accepted bytes silences r said refused

alerts_accepted : (file : Option (List ℕ)) (alerts : List LabelMap) (r : Refusal)
    → SaysAlertsIfAny file alerts → AlertsRefusedFor file r → ⊥
alerts_accepted None alerts r said refused = refused
alerts_accepted (Some bytes) alerts r said refused =
    says_no_fault alerts_file_laws bytes alerts r said refused

-- a file says at most one space, one configuration, one list of alerts, and one list of silences
pub one_space : (bytes : List ℕ) (s t : Space) → FileSaysUniverse bytes s
    → FileSaysUniverse bytes t → s ≡ t
one_space = universe_file_laws.exact.one

pub one_configuration : (bytes : List ℕ) (c d : Configuration) → FileSaysConfig bytes c
    → FileSaysConfig bytes d → c ≡ d
one_configuration = config_file_laws.exact.one

pub alerts_once : (file : Option (List ℕ)) (alerts others : List LabelMap)
    → SaysAlertsIfAny file alerts → SaysAlertsIfAny file others → alerts ≡ others
alerts_once None alerts others said again = said ∙ sym again
alerts_once (Some bytes) alerts others said again =
    alerts_file_laws.exact.one bytes alerts others said again

silences_once : (file : Option (List ℕ)) (silences others : List Silence)
    → SaysSilencesIfAny file silences → SaysSilencesIfAny file others → silences ≡ others
silences_once None silences others said again = said ∙ sym again
silences_once (Some bytes) silences others said again =
    silences_file_laws.exact.one bytes silences others said again

-- ---- Worlds.

-- files are accepted as at most one world
pub one_world : (inputs : Files) (w x : World) → AcceptsWorld inputs w
    → AcceptsWorld inputs x → w ≡ x
one_world inputs w x said again =
    let config : w.config ≡ x.config = one_configuration (config_of inputs.config) w.config x.config
    said.accepts_files.says_config again.accepts_files.says_config in
    let silences : w.silences ≡ x.silences = silences_once inputs.silences w.silences x.silences
    said.accepts_files.says_silences again.accepts_files.says_silences in
    let alerts : w.alerts ≡ x.alerts = alerts_once inputs.alerts w.alerts x.alerts said.accepts_files.says_alerts
    again.accepts_files.says_alerts in
    let instant : w.instant ≡ x.instant = said.asks_instant ∙ sym again.asks_instant in
    grind (arith, common_steps)

instant_accepted : (silences at : Option (List ℕ)) (r : Refusal)
    → instant_fault silences at ≡ None → InstantRefusedFor silences at r → ⊥
instant_accepted silences at r accepted refused =
    let both : Some r.kind ≡ None = sym refused.0 ∙ accepted in absurd (cc)

pairs_accepted : (inputs : Files) (w : World) (r : Refusal) → AcceptsWorld inputs w
    → PairsRefusedFor (config_of inputs.config) inputs.alerts r → ⊥
pairs_accepted inputs w r accepts refused =
    let config : refused.configuration ≡ w.config =
    one_configuration (config_of inputs.config) refused.configuration w.config refused.says_config
    accepts.accepts_files.says_config in
    let alerts : refused.alerts ≡ w.alerts =
    alerts_once inputs.alerts refused.alerts w.alerts refused.says_alerts accepts.accepts_files.says_alerts in
    let same : pairs_of refused.configuration.rules refused.alerts
    ≡ pairs_of w.config.rules w.alerts = λ k. pairs_of (config k).rules (alerts k) in
    omega (arith, ap length same, refused.many, accepts.accepts_files.few_pairs)

-- the first fault of some stages is a fault of the first stage, or the first fault of the later
-- ones
pub by_stage : (P : Type 0) (stage : Stage) (later : List Stage) (place : Place) (r : Refusal)
    → (stage.refuses r → P) → (IsFirstFaultOfCall later place r → P)
    → IsFirstFaultOfCall (stage ∷ later) place r → P
by_stage P stage later place r here behind (inl refused) = here refused.1
by_stage P stage later place r here behind (inr first) = behind first.1

-- if a world is accepted, the first fault is that of the later stages, or `pattern`
pub world_accepted : (P : Type 0) (inputs : Files) (w : World) (later : List Stage)
    (place : Place) (r : Refusal) → AcceptsWorld inputs w → (r.kind ≡ kinds.Pattern → P)
    → (IsFirstFaultOfCall later place r → P)
    → IsFirstFaultOfCall (world_stages inputs ++ later) place r → P
world_accepted P inputs w later place r accepts pattern behind = by
  where
    said : AcceptsFiles inputs w
    said = accepts.accepts_files

    by : IsFirstFaultOfCall (world_stages inputs ++ later) place r → P
    by (inl config) =
        pattern (config_accepted (config_of inputs.config) w.config r said.says_config config.1)
    by (inr (_, inl silences)) =
        pattern (silences_accepted inputs.silences w.silences r said.says_silences silences.1)
    by (inr (_, inr (_, inl alerts))) =
        absurd (alerts_accepted inputs.alerts w.alerts r said.says_alerts alerts.1)
    by (inr (_, inr (_, inr (_, inl instant)))) =
        absurd (instant_accepted inputs.silences inputs.at r accepts.has_instant instant.1)
    by (inr (_, inr (_, inr (_, inr (_, inl pairs))))) =
        absurd (pairs_accepted inputs w r accepts pairs.1)
    by (inr (_, inr (_, inr (_, inr (_, inr first))))) = behind first.1
