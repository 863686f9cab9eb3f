-- What a list of matchers matches of the label sets of a universe that is made for it, it matches of
-- every alert.
use Rattle.std.proofs.Common.{◌≡◌, Bool, true, false, List, [], ◌∷◌, ◌++◌, sym, ◌∙◌, inl, inr}
use Rattle.std.specs.Prelude.{IsTrue}
use Rattle.am_universe.specs.Universe.{Label}
use Rattle.am_universe.specs.LabelSet.{LabelMap}
use Rattle.am_labels.specs.Matcher.{Matcher, all_hold}
use Rattle.am_labels.specs.Space.{Space}
use Rattle.am_classes.specs.declared.alphabet.Alphabet.{Alphabet}
use Rattle.am_classes.specs.declared.alphabet.Alphabet.TheVariants.{Ascii}
use Rattle.am_every_alert.specs.EveryAlert.{IsAlertOf}
use Rattle.am_every_alert.specs.Deciding.{space_of}
use Rattle.am_eval.specs.Reaching.{IsSetOf}
use Rattle.am_every_alert.proofs.SpaceAlerts.{IsToldBy, each_over, some_over}
use Rattle.am_every_alert.proofs.TreatedAlike.{front_met, rest_met, all_alike}
use Rattle.am_idle.specs.Lists.{listed_matchers, StandsForLists}
use Rattle.am_idle.specs.Extent.{MatchesNone, MatchesOne, MatchesAll, MatchesNotAll}
use Rattle.am_idle.specs.NamedAlerts.{IsNamedAlert, named_matchers}
use Rattle.am_idle.proofs.NamedSets.{named_if, named_then}

-- ---- A universe for one list.

module _ (a : Alphabet) (s : Space) (u : List Label) (ms : List Matcher)
    (h : StandsForLists a s (ms ∷ []) u) where
  abbrev made : Space
  made = space_of s.impossible u

  abbrev asked : List Matcher
  asked = listed_matchers (ms ∷ [])

  -- the list matches a label set, or it does not
  abbrev Tells : Bool → LabelMap → Type 0
  Tells b set = all_hold set ms ≡ b

  told : (b : Bool) → IsToldBy asked (Tells b)
  told b x y met is = sym (all_alike x y ms (front_met x y ms [] met)) ∙ is

  pub one_over : MatchesOne (IsSetOf made) ms → MatchesOne (IsAlertOf a s) ms
  one_over = some_over a made asked h (Tells true)

  pub none_over : MatchesNone (IsSetOf made) ms → MatchesNone (IsAlertOf a s) ms
  none_over = each_over a made asked h (Tells false) (told false)

-- ---- A universe for a list and for the alerts that have an alertname.

-- a label set of a space has an alertname
abbrev pub IsNamedSet : Space → LabelMap → Type 0
IsNamedSet s set = IsSetOf s set × IsTrue (all_hold set named_matchers)

module _ (s : Space) (u : List Label) (ms : List Matcher)
    (h : StandsForLists Ascii s (ms ∷ named_matchers ∷ []) u) where
  abbrev over : Space
  over = space_of s.impossible u

  abbrev both : List Matcher
  both = listed_matchers (ms ∷ named_matchers ∷ [])

  -- a label set has an alertname, and the list matches it or not; or that is so if it has one
  abbrev Has : Bool → LabelMap → Type 0
  Has b set = IsTrue (all_hold set named_matchers) × (all_hold set ms ≡ b)

  abbrev IfNamed : Bool → LabelMap → Type 0
  IfNamed b set = IsTrue (all_hold set named_matchers) → all_hold set ms ≡ b

  told_if : (b : Bool) → IsToldBy both (IfNamed b)
  told_if b x y met is named =
      sym (all_alike x y ms (front_met x y ms (named_matchers ++ []) met))
      ∙ is (all_alike x y named_matchers (rest_met x y ms (named_matchers ++ []) met) ∙ named)

  one_named : (b : Bool)
      → (set : LabelMap) × IsNamedSet over set × (all_hold set ms ≡ b)
      → (set : LabelMap) × IsNamedAlert s set × (all_hold set ms ≡ b)
  one_named b (set, is, says) =
      let r = some_over Ascii over both h (Has b) (set, is.0, (is.1, says)) in
      (r.0, (r.1, named_then r.0 r.2.0), r.2.1)

  each_named : (b : Bool) → ((set : LabelMap) → IsNamedSet over set → all_hold set ms ≡ b)
      → (set : LabelMap) → IsNamedAlert s set → all_hold set ms ≡ b
  each_named b each alert is =
      each_over Ascii over both h (IfNamed b) (told_if b) (λ set of named. each set (of, named)) alert
      is.0 (named_if alert is.1)

  pub all_named : MatchesAll (IsNamedSet over) ms → MatchesAll (IsNamedAlert s) ms
  all_named (one, each) = (one_named true one, each_named true each)

  pub not_all_named : MatchesNotAll (IsNamedSet over) ms → MatchesNotAll (IsNamedAlert s) ms
  not_all_named (inl misses) = inl (one_named false misses)
  not_all_named (inr none) = inr (each_named false none)
