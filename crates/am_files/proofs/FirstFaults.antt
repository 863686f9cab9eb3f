-- The first fault of some stages, if more stages come before or after them.
use Rattle.std.proofs.Common.{◌≡◌, List, [], ◌∷◌, ◌++◌, inl, inr, Result, Ok, Err, IfErr, arith}
use Rattle.std.proofs.Common.{sym, subst}
use Rattle.std.specs.Result.{IsErrAnd}
use Rattle.std.proofs.lemmas.Grind.{common_steps}
use Rattle.am_universe.specs.declared.fault.Fault.{Fault}
use Rattle.am_universe.specs.declared.place.Place.{Place}
use Rattle.am_json.specs.Pointer.{Refusal}
use Rattle.am_universe.specs.LabelSet.{LabelMap}
use Rattle.am_universe.proofs.ListLemmas.{IsIn}
use Rattle.am_list_files.specs.SilencesFile.{Silence}
use Rattle.am_config.specs.ConfigFile.{Configuration, FileSaysConfig}
use Rattle.am_eval.specs.World.{World}
use Rattle.am_files.specs.Faults.{Stage, IsFirstFaultOfCall, SaysFewPairs, later_stages}
use Rattle.am_files.specs.Files.{Files, config_of, SaysSilencesIfAny, SaysAlertsIfAny}
use Rattle.am_files.specs.AcceptedWorld.{AcceptsFiles, AcceptsWorld, file_stages, pair_stages, timeless_stages, world_stages}

-- more stages after them change nothing
pub first_of_more : (stages later : List Stage) (place : Place) (r : Refusal)
    → IsFirstFaultOfCall stages place r → IsFirstFaultOfCall (stages ++ later) place r
first_of_more [] later place r h = absurd h
first_of_more (stage ∷ stages) later place r (inl here) = inl here
first_of_more (stage ∷ stages) later place r (inr behind) =
    inr (behind.0, first_of_more stages later place r behind.1)

-- files that are accepted say few pairs
says_few : (files : Files) (world : World) → AcceptsFiles files world
    → SaysFewPairs (config_of files.config) files.alerts
says_few files world accepts = grind (arith, common_steps)

-- if the files say something, a first fault of the later stages is one of all stages
pub behind_read : (files : Files) (configuration : Configuration) (silences : List Silence)
    (alerts : List LabelMap) (later : List Stage) (place : Place) (r : Refusal)
    → FileSaysConfig (config_of files.config) configuration
    → SaysSilencesIfAny files.silences silences → SaysAlertsIfAny files.alerts alerts
    → IsFirstFaultOfCall later place r → IsFirstFaultOfCall (file_stages files ++ later) place r
behind_read files configuration silences alerts later place r config hidden firing behind =
    inr ((configuration, config), inr ((silences, hidden), inr ((alerts, firing), behind)))

-- and also if the files are accepted
behind_files : (files : Files) (world : World) (later : List Stage) (place : Place) (r : Refusal)
    → AcceptsFiles files world → IsFirstFaultOfCall later place r
    → IsFirstFaultOfCall (file_stages files ++ later) place r
behind_files files world later place r accepts =
    behind_read files world.config world.silences world.alerts later place r accepts.says_config
    accepts.says_silences accepts.says_alerts

pub first_behind_timeless : (files : Files) (world : World) (later : List Stage) (place : Place)
    (r : Refusal) → AcceptsFiles files world → IsFirstFaultOfCall later place r
    → IsFirstFaultOfCall (timeless_stages files ++ later) place r
first_behind_timeless files world later place r accepts behind =
    behind_files files world (pair_stages files ++ later) place r accepts
    (inr (says_few files world accepts, behind))

pub first_behind_world : (files : Files) (world : World) (later : List Stage) (place : Place)
    (r : Refusal) → AcceptsWorld files world → IsFirstFaultOfCall later place r
    → IsFirstFaultOfCall (world_stages files ++ later) place r
first_behind_world files world later place r accepts behind = grind (arith, common_steps, behind_files, says_few)

-- what holds of a fault holds of the fault that `?` makes of it
pub handed_on : {T : Type 0} (P : Fault → Type 0) (fault : Fault) (result : Result T Fault)
    → IsErrAnd result (λ f. f ≡ fault) → P fault → IfErr result P
handed_on P fault (Ok x) h holds = tt
handed_on P fault (Err f) h holds = subst P (sym h) holds

-- if `Q` follows from `P` for each fault, it follows for the fault of a result
pub if_failed : {T : Type 0} (P Q : Fault → Type 0) (result : Result T Fault)
    → ((fault : Fault) → P fault → Q fault) → IfErr result P → IfErr result Q
if_failed P Q (Ok x) f h = tt
if_failed P Q (Err fault) f h = f fault h

-- what the inputs say is refused at one of the places
module _ (Refuses : Place → Refusal → Type 0) (place : Place) (r : Refusal)
    (refused : Refuses place r) where
  pub refused_later : (at_places : List Place) → IsIn at_places place
      → IsFirstFaultOfCall (later_stages at_places Refuses) place r
  refused_later [] there = absurd there
  refused_later (p ∷ at_places) (inl same) =
      inl (sym same, subst (λ (q : Place). Refuses q r) (sym same) refused)
  refused_later (p ∷ at_places) (inr there) = inr (tt, refused_later at_places there)
