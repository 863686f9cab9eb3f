-- Examples: universes that are complete for `team="db"` and for `team=~".*"`, and others that are
-- not.
use Rattle.std.proofs.Common.{◌≡◌, [], ◌∷◌, codes, true, false, not, ◌&&◌, ◌||◌, refl, sym, ap, ◌∙◌}
use Rattle.std.proofs.Common.{None, inl, inr, true≢false, arith}
use Rattle.std.proofs.lemmas.Bool.{cases_Bool}
use Rattle.std.proofs.lemmas.Str.{IsUtf8-nil}
use Rattle.am_universe.specs.Text.{same_text}
use Rattle.am_universe.specs.Universe.{Label, IsUniverse, any_label_fault}
use Rattle.am_universe.proofs.LabelFaultLemmas.{added_is_universe}
use Rattle.am_universe.proofs.UniverseLemmas.{IsUniverse-empty}
use Rattle.am_universe.proofs.ListLemmas.{IsIn-from_Contains, Contains-from_IsIn}
use Rattle.am_json.proofs.StringTexts.{ascii_then}
use Rattle.am_labels.specs.Pattern.{finds}
use Rattle.am_eval.specs.RoutingExamples.{team_db}
use Rattle.am_classes.specs.declared.alphabet.Alphabet.{Alphabet}
use Rattle.am_classes.specs.declared.alphabet.Alphabet.TheVariants.{Unicode, Ascii}
use Rattle.am_classes.proofs.OverLemmas.{nil_over}
use Rattle.am_complete.specs.Complete.{HasAlike, IsCompleteAt, IsComplete, IsSpaceCompleteAt}
use Rattle.am_complete.specs.Complete.{IsSpaceComplete}
use Rattle.am_every_alert.specs.CompleteExample.{team_universe, db_or_absent, db_alone, team_not_db}
use Rattle.am_every_alert.specs.CompleteExample.{db_alone_possible, any_line, absent_alone}
use Rattle.am_every_alert.proofs.AnyLine.{finds_ordinary, finds_none, line_feed}
use Rattle.am_every_alert.proofs.CompleteSpaces.{complete_by_names, space_complete_by_names}

-- a single label without a fault is a universe
lone : (l : Label) → any_label_fault [] l ≡ None → IsUniverse (l ∷ [])
lone l fine = added_is_universe [] l IsUniverse-empty fine

complete_at_team : (a : Alphabet)
    → IsCompleteAt a (team_universe db_or_absent) (team_db ∷ []) (codes "team")
complete_at_team a text valid = elim (cases_Bool (same_text text (codes "db"))) [
  | inl db ↦ (
    codes "db",
    Contains-from_IsIn (codes "db" ∷ [] ∷ []) (codes "db") (inl refl),
    (sym db, tt),
  )
  | inr other ↦
      ([], Contains-from_IsIn (codes "db" ∷ [] ∷ []) [] (inr (inl refl)), (sym other, tt))
]

pub complete : (a : Alphabet) → IsComplete a (team_universe db_or_absent) (team_db ∷ [])
complete a =
    complete_by_names a (team_universe db_or_absent) (team_db ∷ []) (lone _ refl)
    ((λ named. complete_at_team a), tt)

pub incomplete : (a : Alphabet) → IsComplete a (team_universe db_alone) (team_db ∷ []) → ⊥
incomplete a complete =
    by (complete (codes "team") (λ e. cc) [] (nil_over a))
  where
    by : HasAlike (team_universe db_alone) (team_db ∷ []) (codes "team") [] → ⊥
    by alike = elim (IsIn-from_Contains (codes "db" ∷ []) alike.0 alike.1) [
      | inl db ↦
          let e : true ≡ false = ap (λ x. same_text x (codes "db")) db ∙ alike.2.0 in absurd (cc)
      | inr none ↦ none
    ]

-- if no other team is possible
possible_at_team : (a : Alphabet)
    → IsSpaceCompleteAt a db_alone_possible (team_db ∷ team_not_db ∷ []) (codes "team")
possible_at_team a text valid may = elim (cases_Bool (same_text text (codes "db"))) [
  | inl db ↦ (
    codes "db",
    Contains-from_IsIn (codes "db" ∷ []) (codes "db") (inl refl),
    (sym db, (sym (ap not db), tt)),
  )
  | inr other ↦
      let none : true ≡ false = sym may ∙ ap (λ b. not ((not b && true) || false)) other in absurd (cc)
]

pub possible : (a : Alphabet)
    → IsSpaceComplete a db_alone_possible (team_db ∷ team_not_db ∷ [])
possible a =
    space_complete_by_names a db_alone_possible (team_db ∷ team_not_db ∷ []) (lone _ refl)
    ((λ some. possible_at_team a), ((λ some. possible_at_team a), tt))

-- if `team` is always absent
any_line_at_team : IsCompleteAt Ascii (team_universe absent_alone) (any_line ∷ []) (codes "team")
any_line_at_team text ordinary = (
  [],
  Contains-from_IsIn ([] ∷ []) [] (inl refl),
  (finds_ordinary [] refl ∙ sym (finds_ordinary text ordinary), tt),
)

pub over_ascii : IsComplete Ascii (team_universe absent_alone) (any_line ∷ [])
over_ascii =
    complete_by_names Ascii (team_universe absent_alone) (any_line ∷ []) (lone _ refl)
    ((λ named. any_line_at_team), tt)

pub not_over_unicode : IsComplete Unicode (team_universe absent_alone) (any_line ∷ []) → ⊥
not_over_unicode all =
    by (all (codes "team") (λ e. cc) line_feed (ascii_then 10 [] (omega arith) IsUtf8-nil))
  where
    by : HasAlike (team_universe absent_alone) (any_line ∷ []) (codes "team") line_feed → ⊥
    by alike = elim (IsIn-from_Contains ([] ∷ []) alike.0 alike.1) [
      | inl absent ↦
          true≢false (sym (finds_ordinary [] refl) ∙ ap (finds (codes ".*")) absent ∙ alike.2.0
          ∙ finds_none)
      | inr none ↦ none
    ]
