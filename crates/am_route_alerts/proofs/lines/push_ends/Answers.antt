-- The pieces behind those that were there.
use Rattle.std.proofs.Common.{◌≡◌, ◌==◌, List, [], ◌∷◌, map, true, false, length, refl}
use Rattle.std.proofs.Common.{◌∙◌, ap, arith, append_assoc}
use Rattle.std.specs.Prelude.{codes}
use Rattle.std.proofs.lemmas.Bool.Decides.{nat_tests}
use Rattle.std.proofs.lemmas.List.{map-append}
use Rattle.am_labels.specs.Matcher as spec
use Rattle.am_report_texts.specs.Line.{Words}
use Rattle.am_report_texts.specs.LineView.{piece_view}
use Rattle.am_route_alerts.specs.RouteLines.{unless_pieces}
use Rattle.am_route_alerts.proofs.lines.push_ends.Goals as goal
use Rattle.am_route_alerts.proofs.lines.push_ends.Goals.{then-not-is_empty+in_ok-push-3}
use Rattle.am_route_alerts.proofs.lines.push_ends.Goals.{else-not-is_empty}

-- the word stands there exactly if there are lists
no_word : {X : Type 0} (shown : X → List spec.Matcher) (lists : List X)
    → true ≡ (length lists == 0) → unless_pieces (map shown lists) ≡ []
no_word shown [] none = refl
no_word shown (list ∷ lists) none = absurd (grind (arith, nat_tests))

word : {X : Type 0} (shown : X → List spec.Matcher) (lists : List X)
    → false ≡ (length lists == 0)
    → unless_pieces (map shown lists) ≡ Words (codes " unless ") ∷ []
word shown [] some = absurd (grind (arith, nat_tests))
word shown (list ∷ lists) some = refl

pub returns-in_default : goal.returns-in_default
returns-in_default c = rw (c.in_default.is, c.in_ok-push.ensures.items, map-append piece_view) refl

pub returns : goal.returns
returns c =
    let lists = c.in-Some.ends.unless in
    rw (c.in-Some.is, c.in_ok-push-4.ensures.items, map-append piece_view)
    (elim c.if-not-is_empty.branch [
      | then-not-is_empty+in_ok-push-3 w ↦
          rw (
            w.pieces-is,
            w.in_ok-push-3.ensures.items,
            map-append piece_view,
            c.in_ok-push-2.ensures.items,
            map-append piece_view,
            word (λ list. map (λ m. m.now) list.items) lists.items
                (w.if-not-is_empty.ensures ∙ ap (λ n. n == 0) lists.ok.0),
          ) (simp append_assoc)
      | else-not-is_empty w ↦
          rw (
            w.pieces-is,
            c.in_ok-push-2.ensures.items,
            map-append piece_view,
            no_word (λ list. map (λ m. m.now) list.items) lists.items
                (w.if-not-is_empty.ensures ∙ ap (λ n. n == 0) lists.ok.0),
          ) (simp append_assoc)
    ])
