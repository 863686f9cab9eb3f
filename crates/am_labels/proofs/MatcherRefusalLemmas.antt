-- Why a list of matchers, or its text, is refused.
use Rattle.std.proofs.Common.{◌≡◌, ◌≢◌, sym, subst, inl, inr, ℕ, suc, List, [], ◌∷◌, ◌++◌, length, ◌≤◌, arith, IsTrue, Result, Ok, Err, IfErr}
use Rattle.std.specs.List.{All}
use Rattle.am_universe.specs.declared.kind.Kind.{Kind}
use Rattle.am_universe.specs.declared.kind.Kind.TheVariants as kinds
use Rattle.am_labels.specs.declared.limits.TheConstants.{MAX_MATCHERS}
use Rattle.am_labels.specs.MatcherText.{WordsSpell}
use Rattle.am_labels.specs.Matcher.{Matcher}
use Rattle.am_labels.specs.MatcherRefusals.{have_valid_patterns, MatcherRefusedFor, PatternsRefusedFor, WordsRefusedFor}

-- What holds of all elements holds of one that follows others.
all_at : {X : Type 0} (P : X → Type 0) (xs : List X) (x : X) (rest : List X) → All P (xs ++ x ∷ rest) → P x
all_at P [] x rest h = h 0 x (omega arith)
all_at P (y ∷ ys) x rest h = all_at P ys x rest (λ k d l. h (suc k) d (omega arith))

-- A list is refused at a matcher that has a name, after others whose patterns are valid.
pub refused_at : (before : List Matcher) (x : Matcher) (after list : List Matcher) (kind : Kind)
    → before ++ x ∷ after ≡ list → All (λ s. s.name ≢ []) list
    → IsTrue (have_valid_patterns before) → MatcherRefusedFor x kind
    → PatternsRefusedFor list kind
refused_at before x after list kind e named valid_patterns refused =
    elim refused [
      | inl unnamed ↦ absurd (all_at (λ (s : Matcher). s.name ≢ []) before x after (subst (All (λ (s : Matcher). s.name ≢ [])) (sym e) named) unnamed.0)
      | inr value ↦ record {
        before = before;
        refused = x;
        after = after;
        parts = sym e;
        earlier = valid_patterns;
        value = value.1;
      }
    ]

-- Words that spell a list are refused as the list is, if the list is not too long.
pub words_refused : {X : Type 0} (r : Result X Kind) (words : List (List ℕ)) (list : List Matcher)
    → WordsSpell words list → length list ≤ MAX_MATCHERS
    → IfErr r (λ kind. kind ≢ kinds.Memory → PatternsRefusedFor list kind)
    → IfErr r (λ kind. kind ≢ kinds.Memory → WordsRefusedFor words kind)
words_refused (Ok x) words list spelled few refused = tt
words_refused (Err kind) words list spelled few refused = λ other. inr (record {
  list = list;
  spelled = spelled;
  refused = inr (few, refused other);
})
