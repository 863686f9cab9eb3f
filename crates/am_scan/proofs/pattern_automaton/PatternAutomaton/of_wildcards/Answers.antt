-- The table of a pattern is made of its places.
use Rattle.std.proofs.Common.{◌≡◌, string_bytes, sym, subst, ap, ◌∙◌}
use Rattle.std.specs.List.{list_any}
use Rattle.am_labels.specs.Pattern.{finds}
use Rattle.am_labels.specs.Wildcards.{wildcards_state}
use Rattle.am_labels.proofs.WildcardMatches.{finds_wildcards}
use Rattle.am_scan.specs.WildcardPlaces.{all_places, marked_places, is_first_at, is_symbol, AreReached, AreStates}
use Rattle.am_scan.proofs.WildcardTableLemmas.{firsts_find, state_marks, symbols_are_ascii, found_by_number, same_number, many_states}
use Rattle.am_scan.proofs.pattern_automaton.PatternAutomaton.of_wildcards.Goals as goal

pub of-requires : goal.of-requires
of-requires c = λ b large.
    let is : c.as_slice-places.result.now ≡ all_places c.args.pattern.now = c.as_slice-places.ensures.value ∙ c.in_ok-places.ensures in
    ap (λ ps. is_symbol ps b) is ∙ symbols_are_ascii c.args.pattern.now c.requires b large

pub returns-in_default-clause-none : goal.returns-in_default-clause-none
returns-in_default-clause-none c =
    let is : c.as_slice-places.result.now ≡ all_places c.args.pattern.now = c.as_slice-places.ensures.value ∙ c.in_ok-places.ensures in
    let none = rw c.in_default.is at c.in_ok-rows.ensures.none in
    many_states c.args.pattern.now none.0 none.1 (subst (λ ps. AreReached ps none.0) is none.2) none.3

pub invariant_of-result : goal.invariant_of-result
invariant_of-result c =
    let p = c.args.pattern.now in
    let ps = c.as_slice-places.result.now in
    let is : ps ≡ all_places p = c.as_slice-places.ensures.value ∙ c.in_ok-places.ensures in
    let some = rw c.in-Some.is at c.in_ok-rows.ensures.some in
    let are = subst (λ symbols. AreStates ps symbols c.in-Some.rows.items some.0) c.as_slice.ensures.value some.1 in
    let own = c.in_ok-alphabet.ensures.classes in
    let name : string_bytes c.in_ok-pattern.pattern ≡ p = c.in_ok-pattern.ensures.ok in
    record {
      exact = λ text scanned utf8.
          found_by_number _ _ _ _ some.0 are own text ∙ ap (λ qs. list_any (is_first_at qs) (marked_places qs text)) is ∙ firsts_find p text
          ∙ sym (ap (λ q. finds q text) name ∙ finds_wildcards p text c.requires utf8);
      by_state = λ _ x y same.
          same_number _ _ _ _ some.0 are own x y (subst (λ qs. marked_places qs x ≡ marked_places qs y) (sym is) (state_marks p x y (subst (λ q. wildcards_state q x ≡ wildcards_state q y) name same)));
      gone = rw (c.as_slice-2.ensures.value, c.as_slice-3.ensures.value) at c.in_ok-lost.ensures;
    }
