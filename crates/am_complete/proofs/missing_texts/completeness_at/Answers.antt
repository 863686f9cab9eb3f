use Rattle.std.proofs.Common.{◌≡◌, [], ◌∷◌, List, Some, None, String, map, string_bytes, refl, sym}
use Rattle.std.proofs.Common.{ap, ◌∙◌, subst, slice_get, false, arith}
use Rattle.std.specs.Option.{option_map_or}
use Rattle.std.specs.declared.alloc.Global.{Global}
use Rattle.std.proofs.lemmas.Grind.{common_steps}
use Rattle.am_universe.proofs.ListLemmas.{IsIn, IsIn-map}
use Rattle.am_universe.proofs.Members.{in_at}
use Rattle.am_complete.specs.declared.allowed_names.AllowedNames.TheVariants as allowed_are
use Rattle.am_complete.specs.Missing.{IsMissingAt}
use Rattle.am_complete.proofs.NeededTexts.{is_complete, lacks_one}
use Rattle.am_complete.proofs.missing_texts.completeness_at.Goals as goal
use Rattle.am_complete.proofs.missing_texts.completeness_at.Goals.{In_ok-missing}

missing_is : (c : In_ok-missing) → IsMissingAt c.args.alphabet allowed_are.OfFiles c.args.space.now
    c.args.label.now c.in_ok-missing.missing
missing_is c =
    let found = rw c.in-Some.is at c.in_ok-found.ensures.some in
    (c.in_ok-missing.ensures (option_map_or (λ x. x.now) c.args.alerts []) found.0 found.1).0

no_first : (texts : List (String Global)) → slice_get texts 0 ≡ None → map string_bytes texts ≡ []
no_first [] e = refl
no_first (text ∷ texts) e = absurd (cc)

pub returns-in-Some-first : goal.returns-in-Some-first
returns-in-Some-first c =
    let s = c.args.space.now in
    let l = c.args.label.now in
    let is = subst (IsMissingAt c.args.alphabet allowed_are.OfFiles s l) (sym c.missing.view_is)
    (missing_is (goal.at.returns-in-Some-first c).In_ok-missing) in
    let texts = c.missing.inside.texts.items in
    let text = c.in-Some-first.text.now in
    let first : slice_get texts 0 ≡ Some text =
    ap (λ xs. slice_get xs 0) (sym c.deref.ensures.value) ∙ sym c.in-Some-first.ensures.value in
    let r = lacks_one c.args.alphabet allowed_are.OfFiles s l _ is (string_bytes c.in_ok-from_str-in-Some-first.field-0)
    (c.requires is.some_name)
    (subst (IsIn (map string_bytes texts))
    (sym (c.in_ok-from_str-in-Some-first.ensures.ok ∙ c.as_str.ensures.value))
    (IsIn-map string_bytes texts text (in_at texts 0 text first))) in
    (sym is.named ∙ c.if-named.true, r.0, r.1, r.2)

pub returns-in-Some-2 : goal.returns-in-Some-2
returns-in-Some-2 c =
    let s = c.args.space.now in
    let l = c.args.label.now in
    let is = subst (IsMissingAt c.args.alphabet allowed_are.OfFiles s l) (sym c.missing.view_is)
    (missing_is (goal.at.returns-in-Some-2 c).In_ok-missing) in
    let texts = c.missing.inside.texts.items in
    let text = c.in-Some-2.field-0.now in
    let first : slice_get texts 0 ≡ Some text =
    ap (λ xs. slice_get xs 0) (sym c.deref.ensures.value) ∙ sym c.in-Some-2.ensures.value in
    let r = lacks_one c.args.alphabet allowed_are.OfFiles s l _ is (string_bytes text) (c.requires is.some_name)
    (IsIn-map string_bytes texts text (in_at texts 0 text first)) in
    (sym is.named ∙ c.if-named.false, λ covers. r.2 (covers (string_bytes text) r.0 r.1))

pub returns-in-None : goal.returns-in-None
returns-in-None c =
    let s = c.args.space.now in
    let l = c.args.label.now in
    let is = subst (IsMissingAt c.args.alphabet allowed_are.OfFiles s l) (sym c.missing.view_is)
    (missing_is (goal.at.returns-in-None c).In_ok-missing) in
    is_complete c.args.alphabet allowed_are.OfFiles s l _ is c.if-all.true
    (no_first c.missing.inside.texts.items
    (ap (λ xs. slice_get xs 0) (sym c.deref.ensures.value) ∙ sym c.in-None.ensures.value))

pub returns-then-missing-le-MAX_VALUES : goal.returns-then-missing-le-MAX_VALUES
returns-then-missing-le-MAX_VALUES c =
    let is = subst (IsMissingAt c.args.alphabet allowed_are.OfFiles c.args.space.now c.args.label.now)
    (sym c.missing.view_is) (missing_is (goal.at.returns-then-missing-le-MAX_VALUES c).In_ok-missing) in
    let some_missing : c.missing.inside.all ≡ false = grind (arith, common_steps) in
    (sym c.first-then-missing-le-MAX_VALUES.ensures.first, is.limits some_missing)

pub returns : goal.returns
returns c =
    let is = subst (IsMissingAt c.args.alphabet allowed_are.OfFiles c.args.space.now c.args.label.now)
    (sym c.missing.view_is) (missing_is (goal.at.returns c).In_ok-missing) in
    (sym c.first-in-None-2.ensures.first, is.limits c.if-all.false)
