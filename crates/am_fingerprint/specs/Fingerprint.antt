-- The fingerprint of the inputs of a run. (This project's own, over SHA-256 of FIPS 180-4.)
use Rattle.std.specs.Prelude.{ℕ, List, [], ◌∷◌, ◌++◌, length, take, ◌<◌, ◌^◌}
use Rattle.std.specs.Prelude.{Option, Some, None, IfSome, option_copied}
use Rattle.std.specs.List.{flat_map, AllByRecursion}
use Rattle.std.specs.Int.{w64, to_be_bytes}
use Rattle.sha2.specs.Sha256.{sha256}
use Rattle.am_fingerprint.specs.declared.limits.TheConstants.{FINGERPRINT_BYTES}
use Rattle.am_fingerprint.specs.declared.parts.Parts.{Parts}

-- A part as it is joined to others. An absent part is the byte 0. Any other part is the byte 1, its
-- length in bytes as 8 bytes, the most significant first, and its bytes.
-- Source: own choice.
-- Example: for the part `any` it is 1, seven times 0, 3, and the three bytes of `any`.
abbrev pub part_bytes : Option (List ℕ) → List ℕ
part_bytes None = 0 ∷ []
part_bytes (Some bytes) = 1 ∷ (to_be_bytes w64 (length bytes) ++ bytes)

-- Parts joined, one after the other.
abbrev pub joined_parts : List (Option (List ℕ)) → List ℕ
joined_parts parts = flat_map part_bytes parts

-- The fingerprint of some parts: the first 16 bytes of the SHA-256 digest of the parts joined.
-- Source: own choice, over FIPS 180-4, section 6.2.
-- Example: if a run has only a universe file `{"labels":[]}` and a question `any` as inputs, 38
-- bytes are digested.
abbrev pub fingerprint_of : List (Option (List ℕ)) → List ℕ
fingerprint_of parts = take FINGERPRINT_BYTES (sha256 (joined_parts parts))

-- The parts are ones that a machine can hold: the length of each is below 2 ^ 64.
abbrev pub AreParts : List (Option (List ℕ)) → Type 0
AreParts = AllByRecursion (λ part. IfSome part (λ bytes. length bytes < 2 ^ 64))

-- The six parts that a call is given, in the order in which they are joined: universe,
-- configuration, silences, alerts, instant, question. The first and the last are always there.
-- Source: own choice.
-- Example: for a universe file and a question alone, the four parts between them are absent.
abbrev pub parts_of : Parts → List (Option (List ℕ))
parts_of parts =
    Some parts.universe.now
    ∷ option_copied parts.config
    ∷ option_copied parts.silences
    ∷ option_copied parts.alerts
    ∷ option_copied parts.instant
    ∷ Some parts.question.now
    ∷ []
