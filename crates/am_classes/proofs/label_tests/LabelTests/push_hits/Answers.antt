use Rattle.std.proofs.Common.{◌≡◌, ◌<◌, ◌++◌, ◌∷◌, [], ℕ, List, OnOk, append-nil, false, get_or, length, slice_index_or, refl, sym, ap, ◌∙◌, subst, arith}
use Rattle.std.proofs.lemmas.Grind.{common_steps}
use Rattle.std.proofs.lemmas.Option.{slice_get_read}
use Rattle.am_scan.specs.Arrivals.{items_of}
use Rattle.am_scan.specs.Closure.{contains}
use Rattle.am_classes.specs.PatternPlaces.{is_found, is_marked}
use Rattle.am_classes.specs.Places.{places_where}
use Rattle.am_classes.proofs.PlacedPatterns.{marked_found, none_found}
use Rattle.am_classes.proofs.label_tests.LabelTests.push_hits.Goals as goal

one_found : (found : List ℕ) → length found ≡ 1 → get_or found 0 0 ∷ [] ≡ found
one_found [] count = absurd (omega (arith, count))
one_found (p ∷ []) count = refl
one_found (p ∷ q ∷ found) count = absurd (omega (arith, count))

pub returns-then-is_empty : goal.returns-then-is_empty
returns-then-is_empty c =
    let start = c.args.hits.now.items in
    let none : c.args.found.now ≡ [] = grind (arith, common_steps) in
    sym (ap (λ found. start ++ places_where (is_found found) c.args.patterns.now) none
    ∙ ap (λ ks. start ++ ks) (none_found 0 c.args.patterns.now) ∙ append-nil start)

pub returns-then-found-lists : goal.returns-then-found-lists
returns-then-found-lists c =
    let found = c.args.found.now in
    let lists = c.args.lists.now in
    let pattern = get_or found 0 0 in
    let within : pattern < length lists = c.if-found-lists.true in
    let same : c.as_slice.result.now ≡ places_where (is_found found) c.args.patterns.now =
    c.as_slice.ensures.value
    ∙ sym (ap items_of (slice_get_read lists _ pattern c.index-lists-found.result refl within c.index-lists-found.is))
    ∙ c.requires.lists pattern within
    ∙ ap (λ ks. places_where (is_found ks) c.args.patterns.now) (one_found found c.if-found-eq1.true) in
    c.in_ok-extend_from_slice.ensures.items ∙ ap (λ ks. c.args.hits.now.items ++ ks) same

pub returns : goal.returns
returns c =
    let tests = c.args.self.now in
    let found = c.args.found.now in
    let patterns = c.args.patterns.now in
    let marks = c.in_ok-marks.marks.items in
    let marked : (k : ℕ) → k < length tests.patterns.keys → slice_index_or marks k false ≡ contains found k =
    λ k within. c.in_ok-marks.ensures k (omega (arith, within, c.len.ensures.len)) in
    let same : places_where (is_marked c.as_slice-2.result.now) patterns ≡ places_where (is_found found) patterns =
    ap (λ bs. places_where (is_marked bs) patterns) c.as_slice-2.ensures.value
    ∙ marked_found tests.patterns.keys found marks marked tests.matchers.items patterns c.requires.placed in
    subst (λ ks. OnOk c.push_marked.result (c.push_marked.new.hits.items ≡ c.args.hits.now.items ++ ks))
    same c.push_marked.ensures
