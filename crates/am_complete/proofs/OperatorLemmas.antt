-- The operators that come with each value in some matchers on a label, with one more matcher.
use Rattle.std.proofs.Common.{◌≡◌, ℕ, Bool, true, false, cond, List, [], ◌∷◌, ◌++◌}
use Rattle.std.proofs.Common.{Option, Some, Vec, Global, refl, sym, ap, ◌∙◌, inl, inr, Bor}
use Rattle.std.proofs.Common.{bytes_eq, ◌||◌, ◌&&◌}
use Rattle.std.specs.Option.{option_map_or}
use Rattle.std.specs.BTreeMap.{BTreeMap, get_by}
use Rattle.std.specs.Map.{update}
use Rattle.std.specs.Ordering.{nat_cmp}
use Rattle.std.specs.List.{list_any}
use Rattle.std.specs.Cmp.Lexicographic.{bytes_decides, slice_cmp}
use Rattle.std.proofs.lemmas.Bool.{cases_Bool}
use Rattle.std.proofs.lemmas.List.Folds.{list_any-append}
use Rattle.am_labels.specs.declared.op.Op.{Op}
use Rattle.am_labels.specs.Matcher.{Matcher}
use Rattle.am_complete.specs.AskedLabel.{asks_same, same_op}
use Rattle.am_complete.specs.Operators.{operators_with, HasOperatorsOf}

-- an operator that comes with a value, with one more matcher, which has this value or another one
here_too : (a b : Bool) → (a || (b || false)) ≡ (a || ((b && true) || false))
here_too true b = refl
here_too false true = refl
here_too false false = refl

not_here : (a b : Bool) → a ≡ (a || ((b && false) || false))
not_here true b = refl
not_here false true = refl
not_here false false = refl

-- one more operator was put at the value of a matcher, and the map has the same at all other values
abbrev pub PutsOperator : BTreeMap (Bor (List ℕ)) (Vec Op Global) → Matcher → Vec Op Global
    → BTreeMap (Bor (List ℕ)) (Vec Op Global) → Type 0
PutsOperator before m put after =
    (put.items ≡ operators_with before m.value ++ m.op ∷ []) × ((q : List ℕ)
    → get_by (λ k. slice_cmp nat_cmp q k.now) after
    ≡ update bytes_eq (λ r. get_by (λ k. slice_cmp nat_cmp r k.now) before) m.value (Some put) q)

put_at : (b : Bool) (put : Vec Op Global) (found : Option (Vec Op Global))
    → option_map_or (λ v. v.items) (cond b (Some put) found) []
    ≡ cond b put.items (option_map_or (λ v. v.items) found [])
put_at true put found = refl
put_at false put found = refl

-- so a map that had the operators of some matchers then has those of one more
pub one_matcher_more : (before after : BTreeMap (Bor (List ℕ)) (Vec Op Global))
    (ms : List Matcher) (m : Matcher) (put : Vec Op Global) → HasOperatorsOf before ms
    → PutsOperator before m put after → HasOperatorsOf after (ms ++ m ∷ [])
one_matcher_more before after ms m put has puts n =
    let test : Op → Bool = λ op. same_op op n.op in
    let os = operators_with before n.value in
    let at : operators_with after n.value ≡ cond (bytes_eq m.value n.value) put.items os =
    ap (λ o. option_map_or (λ v. v.items) o []) (puts.1 n.value)
    ∙ put_at (bytes_eq m.value n.value) put (get_by (λ k. slice_cmp nat_cmp n.value k.now) before)
    in
    let there : list_any test (cond (bytes_eq m.value n.value) put.items os)
    ≡ (list_any (asks_same n) ms || list_any (asks_same n) (m ∷ [])) =
    elim (cases_Bool (bytes_eq m.value n.value)) [
      | inl same ↦
          let is : m.value ≡ n.value = (bytes_decides m.value n.value).0 same in
          rw (same, ← has n)
          (ap (list_any test) (puts.0 ∙ ap (λ v. operators_with before v ++ m.op ∷ []) is)
          ∙ list_any-append test os (m.op ∷ []) ∙ here_too (list_any test os) (same_op m.op n.op))
      | inr other ↦ rw (other, ← has n) (not_here (list_any test os) (same_op m.op n.op))
    ] in
    ap (list_any test) at ∙ there ∙ sym (list_any-append (asks_same n) ms (m ∷ []))
