-- The receivers that a command is asked about, by their names. (This project's own.)
use Rattle.std.specs.Prelude.{◌≡◌, ℕ, List, [], ◌∷◌, Option, Some, None, Contains}
use Rattle.std.specs.List.{AllZip}
use Rattle.am_universe.specs.declared.kind.Kind.TheVariants as kinds
use Rattle.am_universe.specs.declared.place.Place.TheVariants as places
use Rattle.am_json.specs.Pointer.{Refusal, refusal_here}
use Rattle.am_config.specs.ConfigFile.{Configuration, FileSaysConfig, receiver_position}
use Rattle.am_files.specs.Faults.{Stage}

-- The positions of the receivers that have these names.
-- Source: own choice.
-- Example: of the receivers `default` and `db-mail`, the name `db-mail` has the position 1.
abbrev pub ArePositions : Configuration → List (List ℕ) → List ℕ → Type 0
ArePositions c names positions =
    AllZip (λ name position. receiver_position c name ≡ Some position) names positions

-- The positions of the receivers that are asked about: those with these names, or, without names,
-- of all receivers, for which `None` stands.
abbrev pub AreAsked : Configuration → List (List ℕ) → Option (List ℕ) → Type 0
AreAsked c [] asked = asked ≡ None
AreAsked c (name ∷ names) asked =
    (positions : List ℕ) × ArePositions c (name ∷ names) positions × (asked ≡ Some positions)

-- One of the names is that of no receiver. Such a fault has the empty pointer.
-- Source: own choice.
-- Example: the receiver `ops` is unknown if only `default` is declared.
abbrev pub IsUnknownReceiver : Configuration → List (List ℕ) → Refusal → Type 0
IsUnknownReceiver c names r =
    ((name : List ℕ) × Contains names name × (receiver_position c name ≡ None))
    × (r ≡ refusal_here kinds.UnknownReceiver)

-- The stage of the names, over the bytes of the configuration file.
abbrev pub receivers_stage : List ℕ → List (List ℕ) → Stage
receivers_stage config names = record {
  place = places.Question;
  accepts = (c : Configuration) × FileSaysConfig config c
      × (positions : List ℕ) × ArePositions c names positions;
  refuses = λ r. (c : Configuration) × FileSaysConfig config c × IsUnknownReceiver c names r;
}
