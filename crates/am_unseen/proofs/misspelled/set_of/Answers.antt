-- One more text is put behind the others, unless it is there.
use Rattle.std.proofs.Common.{◌≡◌, ℕ, List, Bor, [], ◌∷◌, map, take, get_or, refl, sym, ap, ◌∙◌}
use Rattle.std.proofs.lemmas.List.{map_more}
use Rattle.std.proofs.lemmas.List.Sums.{fold-append}
use Rattle.am_report_texts.specs.EachOnce.{with_text, each_once}
use Rattle.am_unseen.proofs.SeenValues.{texts_inserted}
use Rattle.am_unseen.proofs.misspelled.set_of.Goals as goal

abbrev no_text : Bor (List ℕ)
no_text = record { ref_ptr = (0, 0); now = [] }

pub loop-text-preserved : goal.loop-text-preserved
loop-text-preserved c =
    let texts = c.args.texts.now in
    let i = c.loop-text.text-index in
    let text = get_or texts i no_text in
    ap (map (λ (t : Bor (List ℕ)). t.now)) c.in_ok-insert.ensures.keys
    ∙ texts_inserted _ (λ x y. refl) c.loop-text.set.keys text
    ∙ ap (λ ts. with_text ts text.now) c.loop-text.invariant
    ∙ sym (ap each_once (map_more (λ (t : Bor (List ℕ)). t.now) texts i no_text c.loop-text-test.true)
    ∙ fold-append with_text [] (map (λ (t : Bor (List ℕ)). t.now) (take i texts)) (text.now ∷ []))
