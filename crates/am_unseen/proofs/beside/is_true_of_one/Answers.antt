-- `=` compares with one text; a pattern is tried on each text until it finds one.
use Rattle.std.proofs.Common.{◌≡◌, ℕ, List, [], Bor, map, get_or, refl, sym, ap, ◌∙◌, true}
use Rattle.std.specs.Cmp.Lexicographic.{nat_list_eq_equiv}
use Rattle.std.proofs.lemmas.List.Folds.{list_any_at}
use Rattle.am_universe.specs.Text.{same_text}
use Rattle.am_labels.specs.contracts.op.Op.{the_type}
use Rattle.am_labels.specs.declared.op.Op.{Op}
use Rattle.am_labels.specs.declared.op.Op.TheVariants.{Equal}
use Rattle.am_labels.specs.Matcher.{Matcher, holds}
use denote.Enum.Bare.{sameb}
use Rattle.am_unseen.specs.Unseen.{is_true_of, is_true_of_one}
use Rattle.am_unseen.proofs.SeenValues.{passes_there}
use Rattle.am_unseen.proofs.beside.is_true_of_one.Goals as goal

is_equal : (op : Op) → sameb the_type op Equal ≡ true → op ≡ Equal
is_equal Equal e = refl
is_equal _ e = absurd cc

-- `=` is true of one text alone
equal_text : (m : Matcher) (text : List ℕ) → m.op ≡ Equal
    → same_text m.value text ≡ is_true_of m text
equal_text m text e =
    nat_list_eq_equiv.symm m.value text ∙ sym (ap (λ op. holds op m.value text) e)

pub returns-then-eq : goal.returns-then-eq
returns-then-eq c =
    let m = c.args.matcher.now in
    let equal : m.op ≡ Equal =
    sym c.op.ensures.op ∙ is_equal c.op.result (sym c.eq.ensures ∙ c.if-eq.true) in
    c.contains.ensures
    ∙ passes_there _ (is_true_of m)
    (λ k. ap (λ t. same_text t k.now) c.value.ensures.value ∙ equal_text m k.now equal)
    c.args.texts.now.keys

abbrev no_text : Bor (List ℕ)
no_text = record { ref_ptr = (0, 0); now = [] }

pub returns-then-holds : goal.returns-then-holds
returns-then-holds c =
    let m = c.args.matcher.now in
    let items = c.as_slice-text-items.result.now in
    let text = get_or items c.loop-text.text-index no_text in
    let passes : is_true_of m text.now ≡ true =
    ap (λ (n : Matcher). is_true_of n text.now) (sym c.loop-text.invariant.0)
    ∙ sym c.holds.ensures.truth ∙ c.if-holds.true in
    sym (list_any_at (λ (t : Bor (List ℕ)). is_true_of m t.now) items c.loop-text.text-index no_text
    c.loop-text-test.true passes)
    ∙ passes_there _ (is_true_of m) (λ k. refl) items
    ∙ ap (λ (ks : List (Bor (List ℕ))). is_true_of_one m (map (λ t. t.now) ks)) c.as_slice-text-items.ensures.keys
