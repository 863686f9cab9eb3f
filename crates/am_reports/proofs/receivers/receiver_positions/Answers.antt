-- The positions so far, and a name that is that of no receiver.
use Rattle.std.proofs.Common.{◌≡◌, ◌<◌, ◌+◌, ℕ, List, [], ◌∷◌, ◌++◌, map, length, take, get_or, Bor}
use Rattle.std.proofs.Common.{Some, None, Contains, sym, subst, arith, rules}
use Rattle.std.proofs.lemmas.List.{take_more, map-append, get_or-map, length-map}
use Rattle.std.proofs.lemmas.List.Elements.{Contains-get_or}
use Rattle.std.proofs.lemmas.Slice.Zip.{all_zipped_more}
use Rattle.am_config.specs.ConfigFile.{Configuration, receiver_position}
use Rattle.am_config.specs.ConfigView.{config_view}
use Rattle.am_reports.specs.AskedReceivers.{ArePositions}
use Rattle.am_reports.proofs.receivers.receiver_positions.Goals as goal

abbrev texts : List (Bor (List ℕ)) → List (List ℕ)
texts names = map (λ name. name.now) names

module _ (c : Configuration) (names : List (Bor (List ℕ))) (i : ℕ) (name : Bor (List ℕ))
    (lt : i < length names) where
  abbrev here : List ℕ
  here = (get_or names i name).now

  one_more : (positions : List ℕ) (position : ℕ) → ArePositions c (texts (take i names)) positions
      → receiver_position c here ≡ Some position
      → ArePositions c (texts (take (i + 1) names)) (positions ++ position ∷ [])
  one_more positions position before is =
      rw (take_more names i name lt, map-append (λ (n : Bor (List ℕ)). n.now))
      (all_zipped_more _ (texts (take i names)) positions here position before is)

  is_unknown : receiver_position c here ≡ None
      → (unknown : List ℕ) × Contains (texts names) unknown × (receiver_position c unknown ≡ None)
  is_unknown none = (
    here,
    subst (Contains (texts names)) (get_or-map (λ (n : Bor (List ℕ)). n.now) names i name [] lt)
        (Contains-get_or (texts names) i [] (omega (arith, lt, length-map names (λ (n : Bor (List ℕ)). n.now)))),
    none,
  )

pub returns-in_default-receiver_position-clause-refused :
    goal.returns-in_default-receiver_position-clause-refused
returns-in_default-receiver_position-clause-refused c = λ remembered. (
  search rules,
  (
    is_unknown (config_view c.args.config.now) c.args.names.now c.loop-name.name-index _
        c.loop-name-test.true (sym c.in_default-receiver_position.ensures.position),
    search rules,
  ),
)

pub loop-name-preserved : goal.loop-name-preserved
loop-name-preserved c =
    rw (c.push.ensures.items, c.if-is_err.ensures.negation)
    (one_more (config_view c.args.config.now) c.args.names.now c.loop-name.name-index _
    c.loop-name-test.true c.loop-name.positions.items c.in-Some.position c.loop-name.invariant
    (sym c.in-Some.ensures.position))
