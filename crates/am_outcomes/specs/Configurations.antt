-- The configurations whose outcomes are looked for, the silences that may hide alerts, the matchers
-- that may match them, and what is tried on an alert.
use Rattle.std.specs.Prelude.{ℕ, List, [], ◌∷◌, map}
use Rattle.am_labels.specs.Matcher.{Matcher}
use Rattle.am_config.specs.ConfigFile.{Configuration}
use Rattle.am_config.specs.ConfigView.{config_view}
use Rattle.am_outcomes.specs.declared.configs.ActiveSilence.{ActiveSilence}
use Rattle.am_outcomes.specs.declared.configs.Configs.{Configs}
use Rattle.am_outcomes.specs.declared.configs.Configs.TheVariants as configs_is

-- One configuration; an old one and a new one that is compared with it; one configuration, and the
-- silences that are active, each with its position in the file and its matchers; one configuration,
-- of which the ends of alerts are looked for; or no configuration, but one list of matchers, which
-- may match alerts.
pub data Configurations : Type 0 where
  One : Configuration → Configurations
  Pair : Configuration → Configuration → Configurations
  Silenced : Configuration → List (ℕ × List Matcher) → Configurations
  Ends : Configuration → Configurations
  Matched : List Matcher → Configurations

-- What is tried on an alert, one after the other: the routes of some configurations, and then lists
-- of matchers until one matches.
pub record Tried : Type 0 where
  pub configurations : List Configuration
  pub lists : List (List Matcher)

-- What is tried for the outcome of an alert: the routes of each configuration, in order, and then
-- the matchers of each silence, or the list of matchers.
-- Source: own choice.
-- Example: under one configuration and two silences, the matchers of the second silence are tried
-- on the alerts that the first one does not match.
abbrev pub matchers_of_each : List (ℕ × List Matcher) → List (List Matcher)
matchers_of_each silences = map (λ silence. silence.1) silences

abbrev pub tried_of : Configurations → Tried
tried_of (One c) = record { configurations = c ∷ []; lists = [] }
tried_of (Pair old new) = record { configurations = old ∷ new ∷ []; lists = [] }
tried_of (Silenced c silences) =
    record { configurations = c ∷ []; lists = matchers_of_each silences }
tried_of (Ends c) = record { configurations = c ∷ []; lists = [] }
tried_of (Matched ms) = record { configurations = []; lists = ms ∷ [] }

-- The configurations and silences that the code has.
abbrev pub silences_view : List ActiveSilence → List (ℕ × List Matcher)
silences_view silences = map (λ silence. (silence.position, silence.matchers.now)) silences

abbrev pub configurations_of : Configs → Configurations
configurations_of (configs_is.One config) = One (config_view config.now)
configurations_of (configs_is.Pair old new) = Pair (config_view old.now) (config_view new.now)
configurations_of (configs_is.Silenced config silences) =
    Silenced (config_view config.now) (silences_view silences.now)
configurations_of (configs_is.Ends config) = Ends (config_view config.now)
configurations_of (configs_is.Matched matchers) = Matched matchers.now
