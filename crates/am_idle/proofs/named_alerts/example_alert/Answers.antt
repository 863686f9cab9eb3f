-- The example is the alert `{alertname="Watchdog"}`.
use Rattle.std.proofs.Common.{◌≡◌, ◌≢◌, [], List, ℕ, sym, ◌∙◌, refl, subst}
use Rattle.std.specs.Prelude.{codes}
use Rattle.am_universe.specs.LabelSet.{with_value}
use Rattle.am_classes.specs.declared.alphabet.Alphabet.TheVariants.{Ascii}
use Rattle.am_every_alert.specs.EveryAlert.{IsAlert}
use Rattle.am_idle.specs.NamedAlerts.{HasAlertname}
use Rattle.am_idle.proofs.NamedSets.{one_label, one_label_alert, one_label_text}
use Rattle.am_idle.proofs.named_alerts.example_alert.Goals as goal
use Rattle.am_idle.proofs.named_alerts.example_alert.Goals.{In_ok-put}

abbrev name : List ℕ
name = codes "alertname"

abbrev text : List ℕ
text = codes "Watchdog"

some : text ≢ []
some = λ none. cc

is_example : (c : In_ok-put) → c.put.new.self ≡ one_label name text
is_example c =
    c.in_ok-put.ensures.ok
    ∙ (λ i. with_value (c.empty-set.ensures.empty i) (c.in_ok-name.ensures.ok i)
    (c.in_ok-from_str.ensures.ok i))

pub returns-clause-alert : goal.returns-clause-alert
returns-clause-alert c =
    subst (IsAlert Ascii) (sym (is_example (goal.at.returns-clause-alert c).In_ok-put))
    (one_label_alert Ascii name text (λ none. cc) some refl)

pub returns-clause-named : goal.returns-clause-named
returns-clause-named c =
    subst HasAlertname (sym (is_example (goal.at.returns-clause-named c).In_ok-put))
    (λ none. some (sym (one_label_text name text some) ∙ none))
