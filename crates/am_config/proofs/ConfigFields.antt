-- Of a file, reading a configuration asks for three fields.
use Rattle.std.proofs.Common.{◌≡◌, ℕ, List, [], ◌∷◌, codes, refl}
use Rattle.serde_json.specs.Data.{Data, object}
use Rattle.am_json.specs.Json.{only_fields}
use Rattle.am_json.specs.OptionalItems.{read_optional_array, read_optional_items}
use Rattle.am_json.specs.Reading.{◌>>=◌, read_json_fields, required_items}
use Rattle.am_json.proofs.OnlyFields.{field_named, fields_lead}
use Rattle.am_json.proofs.Readings.{Leads}
use Rattle.am_config.specs.ConfigForm.{receivers_form, rules_form, config_form}
use Rattle.am_config.specs.ConfigForm.{config_file_form}

abbrev pub config_fields : List (List ℕ)
config_fields = codes "receivers" ∷ codes "route" ∷ codes "inhibit_rules" ∷ []

same_receivers : (d : Data) → receivers_form (only_fields config_fields d) ≡ receivers_form d
unfolding receivers_form required_items
same_receivers d = rw (field_named config_fields (codes "receivers") d refl) refl

same_rules : (d : Data) → rules_form (only_fields config_fields d) ≡ rules_form d
unfolding read_optional_array read_optional_items
same_rules d = rw (field_named config_fields (codes "inhibit_rules") d refl) refl

same_config : (d : Data) → config_form (only_fields config_fields d) ≡ config_form d
unfolding config_form
same_config (object ms) =
    rw (
      same_receivers (object ms),
      field_named config_fields (codes "route") (object ms) refl,
      same_rules (object ms),
    ) refl
same_config d = refl

-- what these fields give is what the file gives
pub fields_of_file : (bytes : List ℕ)
    → Leads (read_json_fields config_fields bytes >>= config_form) (config_file_form bytes)
unfolding config_file_form
fields_of_file bytes = fields_lead config_fields config_form bytes same_config
