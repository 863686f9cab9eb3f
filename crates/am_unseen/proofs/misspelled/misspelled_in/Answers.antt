-- The alternatives, each once, leave the same values as all of them.
use Rattle.std.proofs.Common.{◌≡◌, ◌&&◌, ℕ, List, Bor, map, not, true, refl, sym, ap, ◌∙◌}
use Rattle.std.specs.List.{flat_map}
use Rattle.std.proofs.lemmas.Bool.{and_from}
use Rattle.std.proofs.lemmas.Result.{IfOk-weaker}
use Rattle.am_classes.specs.Named.{alternatives_of}
use Rattle.am_labels.specs.Matcher.{Matcher, negates}
use Rattle.am_complete.specs.declared.origin.Origin.{Origin}
use Rattle.am_unseen.specs.Unseen.{misspelled, values_beside, is_true_of_one}
use Rattle.am_unseen.specs.Search.{texts_of}
use Rattle.am_unseen.proofs.MisspelledSteps.{beside_once}
use Rattle.am_unseen.proofs.misspelled.misspelled_in.Goals as goal

pub returns-clause-found : goal.returns-clause-found
returns-clause-found c =
    let values = texts_of c.args.values.now in
    let m = c.args.matcher.now in
    let placed : Origin × Matcher = (c.args.origin.now, m) in
    let named : map (λ (t : Bor (List ℕ)). t.now) c.in_ok-texts.texts.items ≡ alternatives_of m =
    c.in_ok-texts.ensures in
    let all : map (λ (t : Bor (List ℕ)). t.now) c.as_slice-2.result.now ≡ alternatives_of m =
    ap (map (λ (t : Bor (List ℕ)). t.now)) c.as_slice-2.ensures.value ∙ named in
    let once : values_beside (texts_of c.in_ok-but.but) values
    ≡ values_beside (alternatives_of m) values =
    ap (λ ts. values_beside ts values) c.in_ok-but.ensures
    ∙ beside_once (map (λ (t : Bor (List ℕ)). t.now) c.as_slice.result.now) values
    ∙ ap (λ ts. values_beside (map (λ (t : Bor (List ℕ)). t.now) ts) values) c.as_slice.ensures.value
    ∙ ap (λ ts. values_beside ts values) named in
    let told = and_from (not (negates m.op)) (is_true_of_one m values) (ap not c.requires.asks)
    c.requires.finds in
    IfOk-weaker c.misspelled_among.result _ _ (λ found e. e
    ∙ (λ i. flat_map (misspelled values (once i) placed) (all i)) ∙ rw told refl)
    c.misspelled_among.ensures.found
