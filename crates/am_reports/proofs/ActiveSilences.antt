-- The silences of a world that are active.
use Rattle.std.proofs.Common.{◌≡◌, ℕ, ℤ, ◌+◌, List, [], ◌∷◌, map, Option, refl, arith}
use Rattle.std.specs.Prelude.{◌&&◌}
use Rattle.std.specs.List.{filter, enumerate_from, list_any}
use Rattle.std.proofs.lemmas.Bool.{cases_Bool}
use Rattle.std.proofs.lemmas.Grind.{common_steps}
use Rattle.am_universe.specs.LabelSet.{LabelMap}
use Rattle.am_labels.specs.Matcher.{Matcher, all_hold}
use Rattle.am_list_files.specs.SilencesFile.{Silence}
use Rattle.am_eval.specs.Silencing.{is_active, is_silenced}
use Rattle.am_eval.specs.World.{World}
use Rattle.am_reports.specs.ActiveSilences.{active_silences}

-- the active ones among numbered silences
abbrev pub active_among : Option ℤ → List (ℕ × Silence) → List (ℕ × List Matcher)
active_among instant silences =
    map (λ silence. (silence.0, silence.1.matchers))
    (filter (λ silence. is_active instant silence.1) silences)

-- an alert is silenced exactly if one of the active silences matches it
silenced_among : (instant : Option ℤ) (s : LabelMap) (from : ℕ) (silences : List Silence)
    → list_any (λ silence. all_hold s silence.1) (active_among instant (enumerate_from from silences))
    ≡ list_any (λ silence. is_active instant silence && all_hold s silence.matchers) silences
silenced_among instant s from [] = refl
silenced_among instant s from (silence ∷ silences) =
    grind (arith, common_steps, cases_Bool, silenced_among instant s (from + 1) silences)

pub silenced_by_active : (w : World) (s : LabelMap)
    → list_any (λ silence. all_hold s silence.1) (active_silences w) ≡ is_silenced w s
silenced_by_active w s = silenced_among w.instant s 0 w.silences
