-- One more name is put behind the others, unless it is there.
use Rattle.std.proofs.Common.{◌≡◌, ℕ, List, Bor, map, fold, sym, ap, ◌∙◌, refl, string_bytes}
use Rattle.std.proofs.Common.{String}
use Rattle.std.specs.declared.alloc.Global.{Global}
use Rattle.std.specs.FinMap.{entries}
use Rattle.am_universe.specs.LabelSetView.{entry_texts}
use Rattle.am_universe.proofs.MapTextLemmas.{entries_kept}
use Rattle.am_report_texts.specs.EachOnce.{with_text}
use Rattle.am_unseen.specs.Search.{texts_of}
use Rattle.am_unseen.proofs.SeenValues.{texts_inserted}
use Rattle.am_unseen.proofs.seen.add_names.Goals as goal

-- the names with those of entries
abbrev with_entries : List (List ℕ) → List (String Global × String Global) → List (List ℕ)
with_entries texts es = fold with_text texts (map (λ e. e.0) (entry_texts es))

pub loop-name-preserved : goal.loop-name-preserved
loop-name-preserved c =
    let before = c.loop-name.names in
    let put : texts_of c.insert.new.self ≡ with_text (texts_of before) (string_bytes c.in-Some.name.now) =
    ap (map (λ (t : Bor (List ℕ)). t.now)) c.in_ok-insert.ensures.keys
    ∙ texts_inserted _ (λ x y. refl) before.keys c.as_str.result
    ∙ ap (with_text (texts_of before)) c.as_str.ensures.value in
    ap (λ texts. with_entries texts c.next.new.self) put
    ∙ sym (ap (with_entries (texts_of before)) c.in-Some.ensures.steps) ∙ c.loop-name.invariant

pub returns : goal.returns
returns c =
    let gives = c.into_iter-name-iterator.ensures.into_iter_gives in
    let kept : entries c.args.set.now ≡ entry_texts c.into_iter-name-iterator.result =
    ap entries (sym c.values-name-items.ensures.values)
    ∙ entries_kept c.values-name-items.result.now gives.5 ∙ ap entry_texts (sym gives.0) in
    sym (ap (with_entries (texts_of c.loop-name.names)) c.in-None.ensures.steps.0)
    ∙ c.loop-name.invariant
    ∙ ap (λ (es : List (List ℕ × List ℕ)). fold with_text (texts_of c.args.names.now) (map (λ e. e.0) es))
    (sym kept)
