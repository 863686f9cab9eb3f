-- Inhibition rules: a value says a rule exactly if reading it finds no fault, and then it says the
-- rule that reading gives.
use Rattle.std.proofs.Common.{false, refl, subst}
use Rattle.std.specs.Prelude.{codes}
use Rattle.serde_json.specs.Data.{Data}
use Rattle.am_config.specs.declared.limits.TheConstants.{MAX_EQUAL_NAMES}
use Rattle.am_config.specs.ConfigFile.{Rule, rule_fields, source_matcher_fields}
use Rattle.am_config.specs.ConfigFile.{target_matcher_fields, SaysEqualName, SaysRule}
use Rattle.am_config.specs.ConfigForm.{equal_name_form, rule_form}
use Rattle.am_json.proofs.Deciding.{accept_decides, as_text_decides, checked_decides}
use Rattle.am_json.proofs.Deciding.{only_fields_decide, said_as, then_decides}
use Rattle.am_json.proofs.Items.{optional_array_decides}
use Rattle.am_json.proofs.Readings.{Decides}
use Rattle.am_list_files.proofs.Matching.{named_decides}
use Rattle.am_config.proofs.MatchersSay.{matchers_decide}

equal_name_decides : (d : Data) → Decides (SaysEqualName d) ((equal_name_form d).result)
unfolding equal_name_form
equal_name_decides d = checked_decides (as_text_decides d) named_decides

pub rule_decides : (d : Data) → Decides (SaysRule d) ((rule_form d).result)
unfolding rule_form
rule_decides d =
    said_as
    (then_decides (only_fields_decide rule_fields d)
    (λ _. then_decides (matchers_decide source_matcher_fields false d)
    (λ source. then_decides (matchers_decide target_matcher_fields false d)
    (λ target. then_decides
    (optional_array_decides SaysEqualName equal_name_form equal_name_decides MAX_EQUAL_NAMES
    (codes "equal") d)
    (λ equal. accept_decides (record { source = source; target = target; equal = equal }))))))
    (λ rule (_, only, (source, (s, _), (target, (t, _), (equal, e, is)))).
    subst (λ (r : Rule). SaysRule d r) is (record {
      only = only;
      source = s;
      target = t;
      equal = e;
    }))
    (λ rule said. (
      tt,
      said.only,
      (
        rule.source,
        (said.source, λ e. absurd cc),
        (
          rule.target,
          (said.target, λ e. absurd cc),
          (rule.equal, said.equal, refl),
        ),
      ),
    ))
