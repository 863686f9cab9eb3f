-- The pieces, if there are names.
use Rattle.std.proofs.Common.{◌≡◌, ◌==◌, [], ◌∷◌, ℕ, List, Bor, false, length, map, codes, refl, ap, sym, ◌∙◌, append_assoc, arith}
use Rattle.std.proofs.lemmas.Bool.Decides.{nat_tests}
use Rattle.std.proofs.lemmas.List.{map-append, take_all, length-map}
use Rattle.am_report_texts.specs.Line as spec
use Rattle.am_report_texts.specs.declared.lines.Field.TheVariants as field_is
use Rattle.am_report_texts.specs.LineView.{piece_view, pieces_view}
use Rattle.am_firing.specs.FiringLines.{lacks_pieces}
use Rattle.am_firing.proofs.wide_lines.push_lacks.Goals as goal

some_lacked : (names : List (List ℕ)) → (length names == 0) ≡ false
    → lacks_pieces names
    ≡ spec.Words (codes "; both lack ") ∷ spec.Value field_is.Lacks (spec.Names names) ∷ []
some_lacked [] some = absurd (grind (arith, nat_tests))
some_lacked (name ∷ names) some = refl

pub returns : goal.returns
returns c =
    let names = c.args.names.now in
    let now = map (λ (name : Bor (List ℕ)). name.now) names in
    let some : (length now == 0) ≡ false =
    ap (λ n. n == 0) (length-map names (λ (name : Bor (List ℕ)). name.now))
    ∙ sym c.is_empty.ensures ∙ c.if-is_empty.false in
    let all : map (λ n. n.0.now) c.loop-name.shown.items ≡ now =
    c.loop-name.invariant
    ∙ ap (map (λ (name : Bor (List ℕ)). name.now)) (take_all c.loop-name.name-index names c.loop-name-test.false) in
    rw (
      c.in_ok-push-3.ensures.items,
      map-append piece_view,
      c.in_ok-push-2.ensures.items,
      map-append piece_view,
      all,
      some_lacked now some,
    ) (append_assoc (pieces_view c.args.pieces.now.items) _ _)
