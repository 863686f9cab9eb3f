-- What is over ASCII is over Unicode too: texts, alerts and the texts of a universe; and what is
-- complete over Unicode is complete over ASCII.
use Rattle.std.proofs.Common.{◌≡◌, ℕ, ◌<◌, true, List, [], ◌∷◌, Option, Some, None, ltb-true, arith}
use Rattle.std.specs.Prelude.{IfSome, nat_lt}
use Rattle.std.specs.List.{AllByRecursion}
use Rattle.std.specs.Str.{IsUtf8}
use Rattle.std.proofs.lemmas.Bool.{and_parts}
use Rattle.std.proofs.lemmas.Str.{IsUtf8-nil}
use Rattle.am_universe.specs.Universe.{Label}
use Rattle.am_universe.specs.LabelSet.{LabelMap}
use Rattle.am_universe.proofs.ListLemmas.{AllByRecursion-at, AllByRecursion-each}
use Rattle.am_labels.specs.Matcher.{Matcher}
use Rattle.am_labels.specs.Space.{Space}
use Rattle.am_classes.specs.declared.alphabet.Alphabet.TheVariants.{Unicode, Ascii}
use Rattle.am_classes.specs.Alphabet.{is_printable, IsOrdinary, IsOver}
use Rattle.am_complete.specs.Complete.{IsCompleteAt, IsComplete, IsSpaceComplete}
use Rattle.am_complete.specs.Covering.{HasTextsOver}
use Rattle.am_every_alert.specs.EveryAlert.{IsAlert, IsAlertOf}
use Rattle.am_json.proofs.StringTexts.{ascii_then}

-- ---- Texts.

pub is_ascii : (b : ℕ) → is_printable b ≡ true → b < 128
is_ascii b e =
    let below = ltb-true b 127 (and_parts (nat_lt 31 b) (nat_lt b 127) e).1 in omega (arith, below)

pub ordinary_is_utf8 : (text : List ℕ) → IsOrdinary text → IsUtf8 text
ordinary_is_utf8 [] h = IsUtf8-nil
ordinary_is_utf8 (b ∷ text) h =
    let parts = and_parts (is_printable b) _ h in
    ascii_then b text (is_ascii b parts.0) (ordinary_is_utf8 text parts.1)

-- ---- Universes and spaces.

pub complete_at_over_ascii : (u : List Label) (ms : List Matcher) (name : List ℕ)
    → IsCompleteAt Unicode u ms name → IsCompleteAt Ascii u ms name
complete_at_over_ascii u ms name complete text ordinary =
    complete text (ordinary_is_utf8 text ordinary)

pub complete_over_ascii : (u : List Label) (ms : List Matcher) → IsComplete Unicode u ms
    → IsComplete Ascii u ms
complete_over_ascii u ms complete name some text ordinary =
    complete name some text (ordinary_is_utf8 text ordinary)

pub space_complete_over_ascii : (s : Space) (ms : List Matcher) → IsSpaceComplete Unicode s ms
    → IsSpaceComplete Ascii s ms
space_complete_over_ascii s ms complete name some text ordinary =
    complete name some text (ordinary_is_utf8 text ordinary)

value_over_unicode : (v : Option (List ℕ)) → IfSome v (IsOver Ascii) → IfSome v (IsOver Unicode)
value_over_unicode None h = tt
value_over_unicode (Some text) h = ordinary_is_utf8 text h

pub texts_over_unicode : (u : List Label) → HasTextsOver Ascii u → HasTextsOver Unicode u
texts_over_unicode u texts =
    AllByRecursion-each (λ l. AllByRecursion (λ v. IfSome v (IsOver Unicode)) l.values) u (λ l i.
    let values = AllByRecursion-at (λ k. AllByRecursion (λ v. IfSome v (IsOver Ascii)) k.values) u l
    texts i in
    AllByRecursion-each (λ v. IfSome v (IsOver Unicode)) l.values (λ v j.
    value_over_unicode v (AllByRecursion-at (λ w. IfSome w (IsOver Ascii)) l.values v values j)))

-- ---- Alerts.

pub alert_over_unicode : (s : LabelMap) → IsAlert Ascii s → IsAlert Unicode s
alert_over_unicode s alert name text e =
    let r = alert name text e in (r.0, ordinary_is_utf8 text r.1)

pub alert_of_space_over_unicode : (s : Space) (alert : LabelMap) → IsAlertOf Ascii s alert
    → IsAlertOf Unicode s alert
alert_of_space_over_unicode s alert is = (alert_over_unicode alert is.0, is.1)
