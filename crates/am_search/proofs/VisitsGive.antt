-- What the judged prefixes give: the true choices from the start on.
use Rattle.std.proofs.Common.{◌≡◌, ℕ, zero, suc, ◌+◌, ◌<◌, ◌≤◌, Bool, true, false, not, cond, nat_lt, ◌&&◌, List, [], ◌∷◌, ◌++◌, length, map, Option, Some, None, ap, sym, ◌∙◌, refl, inl, inr, arith, append-nil, rules}
use Rattle.std.specs.Prelude.{IsTrue}
use Rattle.std.specs.List.{filter, flat_map, list_all, AllByRecursion}
use Rattle.std.proofs.lemmas.Bool.{false≢true, and_from}
use Rattle.std.proofs.lemmas.List.Elements.{filter-append}
use Rattle.std.proofs.lemmas.Grind.{flat_map-append, common_steps}
use Rattle.std.proofs.lemmas.List.Folds.{flat_map-map, list_all-map}
use borrow.Author.Tests.{lt-ltb}
use Rattle.am_universe.specs.Choice.{choices, admits}
use Rattle.am_universe.specs.Completions.{completions}
use Rattle.am_universe.proofs.ListLemmas.{IsIn, AllByRecursion-at}
use Rattle.am_universe.proofs.ChoiceLemmas.{behind, from_behind}
use Rattle.am_universe.proofs.CompletionLemmas.{at_its_own, completions_are_below, filter_of_map, map_of_flat_map}
use Rattle.am_search.specs.declared.start.Start.{Start}
use Rattle.am_search.specs.declared.verdict.Verdict.{Verdict}
use Rattle.am_search.specs.declared.verdict.Verdict.TheVariants.{Open}
use Rattle.am_search.specs.Judge.{IsJudge, is_open, is_yes}
use Rattle.am_search.specs.Start.{comes_before, first_of_start, at_or_after, answers_from}
use Rattle.am_search.specs.Visits.{all_prefixes, proper_fronts, completions_from, given_at, given_under}
use Rattle.am_search.proofs.ChoiceOrder.{filter_all, filter_none, filter_same, filters_swapped}

-- ---- A judge that looks behind a first position.

pub completions_behind : (size : ℕ) (sizes : List ℕ) (q : ℕ) (prefix : List ℕ) → q < size → completions (size ∷ sizes) (q ∷ prefix) ≡ map (λ c. q ∷ c) (completions sizes prefix)
completions_behind size sizes q prefix below = at_its_own q 0 size prefix (choices sizes) (omega arith) (omega (arith, below))

all_behind : (P : List ℕ → Type 0) (q : ℕ) (cs : List (List ℕ)) → AllByRecursion P (map (λ c. q ∷ c) cs) → AllByRecursion (λ c. P (q ∷ c)) cs
all_behind P q [] h = tt
all_behind P q (c ∷ cs) h = (h.0, all_behind P q cs h.1)

judge_behind : (size : ℕ) (sizes : List ℕ) (truth : List ℕ → Bool) (verdict : List ℕ → Verdict) (q : ℕ) → q < size → IsJudge (size ∷ sizes) truth verdict
    → IsJudge sizes (λ c. truth (q ∷ c)) (λ prefix. verdict (q ∷ prefix))
judge_behind size sizes truth verdict q below law = record {
  limits = record { labels = omega (arith, law.limits.labels); values = law.limits.values.1 };
  yes = λ prefix a e. all_behind (λ c. IsTrue (truth c)) q (completions sizes prefix) (rw (completions_behind size sizes q prefix below) at (law.yes (q ∷ prefix) (admitted prefix a) e));
  no = λ prefix a e. all_behind (λ c. truth c ≡ false) q (completions sizes prefix) (rw (completions_behind size sizes q prefix below) at (law.no (q ∷ prefix) (admitted prefix a) e));
  whole = λ c w e. law.whole (q ∷ c) (admitted c w.0, ap suc w.1) e;
}
  where
    admitted : (prefix : List ℕ) → admits sizes prefix ≡ true → admits (size ∷ sizes) (q ∷ prefix) ≡ true
    admitted prefix a = and_from (nat_lt q size) (admits sizes prefix) (lt-ltb q size below) a

-- ---- What all prefixes give that are reached by verdicts that are `Open`.

abbrev is_reached : (List ℕ → Verdict) → List ℕ → Bool
is_reached verdict prefix = list_all (λ front. is_open (verdict front)) (proper_fronts prefix)

abbrev given_whole : List ℕ → (List ℕ → Verdict) → List ℕ → List (List ℕ)
given_whole sizes verdict prefix = cond (is_yes (verdict prefix)) (completions sizes prefix) []

abbrev all_given : List ℕ → (List ℕ → Verdict) → List (List ℕ) → List (List ℕ)
all_given sizes verdict prefixes = flat_map (given_whole sizes verdict) (filter (is_reached verdict) prefixes)

pub joined_same : {X Y : Type 0} (f g : X → List Y) (xs : List X) → ((x : X) → IsIn xs x → f x ≡ g x)
    → flat_map f xs ≡ flat_map g xs
joined_same f g [] same = refl
joined_same f g (x ∷ xs) same = ap (λ l. l ++ flat_map f xs) (same x (inl refl)) ∙ ap (λ l. g x ++ l) (joined_same f g xs (λ y i. same y (inr i)))

reached_behind : (verdict : List ℕ → Verdict) (q : ℕ) (prefix : List ℕ) → verdict [] ≡ Open → is_reached verdict (q ∷ prefix) ≡ is_reached (λ p. verdict (q ∷ p)) prefix
reached_behind verdict q prefix open_ = grind (arith, common_steps, list_all-map)

given_behind : (size : ℕ) (sizes : List ℕ) (verdict : List ℕ → Verdict) (q : ℕ) (prefix : List ℕ) → q < size
    → given_whole (size ∷ sizes) verdict (q ∷ prefix) ≡ map (λ c. q ∷ c) (given_whole sizes (λ p. verdict (q ∷ p)) prefix)
given_behind size sizes verdict q prefix below = search (rules, completions_behind)

all_given_behind : (size : ℕ) (sizes : List ℕ) (verdict : List ℕ → Verdict) (q : ℕ) (prefixes : List (List ℕ)) → q < size → verdict [] ≡ Open
    → all_given (size ∷ sizes) verdict (map (λ prefix. q ∷ prefix) prefixes) ≡ map (λ c. q ∷ c) (all_given sizes (λ p. verdict (q ∷ p)) prefixes)
all_given_behind size sizes verdict q prefixes below open_ =
    grind (arith, common_steps, filter_of_map, filter_same, reached_behind, flat_map-map, joined_same, given_behind, map_of_flat_map)

behind_open : (size : ℕ) (sizes : List ℕ) (truth : List ℕ → Bool) (verdict : List ℕ → Verdict) → verdict [] ≡ Open
    → ((q : ℕ) → q < size → all_given sizes (λ p. verdict (q ∷ p)) (all_prefixes sizes) ≡ filter (λ c. truth (q ∷ c)) (choices sizes))
    → (first count : ℕ) → first + count ≤ size → all_given (size ∷ sizes) verdict (behind first count (all_prefixes sizes)) ≡ filter truth (behind first count (choices sizes))
behind_open size sizes truth verdict open_ others first zero h = refl
behind_open size sizes truth verdict open_ others first (suc count) h =
    grind (arith, common_steps, filter-append, flat_map-append, all_given_behind, filter_of_map, others first, behind_open size sizes truth verdict open_ others (first + 1) count)

-- nothing is reached below a verdict that is not `Open`
none_reached : (size : ℕ) (verdict : List ℕ → Verdict) (prefixes : List (List ℕ)) → is_open (verdict []) ≡ false → filter (is_reached verdict) (behind 0 size prefixes) ≡ []
none_reached size verdict prefixes closed = grind (arith, common_steps, filter_none, behind, from_behind)

closed_at : (sizes : List ℕ) (verdict : List ℕ → Verdict) → is_open (verdict []) ≡ false → all_given sizes verdict (all_prefixes sizes) ≡ given_whole sizes verdict []
closed_at [] verdict e = append-nil (given_whole [] verdict [])
closed_at (size ∷ sizes) verdict e = grind (arith, common_steps, none_reached, append-nil)

unless_open : (sizes : List ℕ) (truth : List ℕ → Bool) (verdict : List ℕ → Verdict) → IsJudge sizes truth verdict
    → (verdict [] ≡ Open → all_given sizes verdict (all_prefixes sizes) ≡ filter truth (choices sizes)) → all_given sizes verdict (all_prefixes sizes) ≡ filter truth (choices sizes)
unless_open sizes truth verdict law open_ = grind (arith, common_steps, completions_are_below, closed_at, filter_all, AllByRecursion-at, filter_none)

gives_true : (sizes : List ℕ) (truth : List ℕ → Bool) (verdict : List ℕ → Verdict) → IsJudge sizes truth verdict → all_given sizes verdict (all_prefixes sizes) ≡ filter truth (choices sizes)
gives_true [] truth verdict law = unless_open [] truth verdict law (λ e. absurd (law.whole [] (refl, refl) e))
gives_true (size ∷ sizes) truth verdict law = unless_open (size ∷ sizes) truth verdict law (λ e.
    ap (λ v. cond (is_yes v) (completions (size ∷ sizes) []) [] ++ all_given (size ∷ sizes) verdict (behind 0 size (all_prefixes sizes))) e
    ∙ behind_open size sizes truth verdict e (λ q below. gives_true sizes (λ c. truth (q ∷ c)) (λ p. verdict (q ∷ p)) (judge_behind size sizes truth verdict q below law)) 0 size (omega arith))

-- ---- What they give from a start on.

-- a prefix with no completion from the start on gives nothing
nothing : {X : Type 0} (xs : List X) → nat_lt 0 (length xs) ≡ false → xs ≡ []
nothing [] e = refl
nothing (x ∷ xs) e = absurd (false≢true (sym e ∙ lt-ltb 0 (length (x ∷ xs)) (omega arith)))

none_either : (b : Bool) → cond {A = List (List ℕ)} b [] [] ≡ []
none_either true = refl
none_either false = refl

left_out : (give : List ℕ → List (List ℕ)) (a b : List ℕ → Bool) (ps : List (List ℕ)) → ((p : List ℕ) → b p ≡ false → give p ≡ [])
    → flat_map give (filter (λ p. a p && b p) ps) ≡ flat_map give (filter a ps)
left_out give a b [] none = refl
left_out give a b (p ∷ ps) none = grind (arith, common_steps, left_out give a b ps none)

from_given : (first : Option (List ℕ)) (b : Bool) (cs : List (List ℕ)) → cond b (at_or_after first cs) [] ≡ at_or_after first (cond b cs [])
from_given first true cs = refl
from_given None false cs = refl
from_given (Some c) false cs = refl

from_joined : (first : Option (List ℕ)) (f : List ℕ → List (List ℕ)) (ps : List (List ℕ)) → flat_map (λ p. at_or_after first (f p)) ps ≡ at_or_after first (flat_map f ps)
from_joined None f [] = refl
from_joined None f (p ∷ ps) = from_joined None f ps
from_joined (Some c) f [] = refl
from_joined (Some c) f (p ∷ ps) = grind (arith, common_steps, filter-append, from_joined (Some c) f ps)

from_true : (first : Option (List ℕ)) (truth : List ℕ → Bool) (cs : List (List ℕ)) → at_or_after first (filter truth cs) ≡ filter truth (at_or_after first cs)
from_true None truth cs = refl
from_true (Some c) truth cs = filters_swapped (λ d. not (comes_before d c)) truth cs

pub visited_give : (sizes : List ℕ) (truth : List ℕ → Bool) (verdict : List ℕ → Verdict) (start : Start) → IsJudge sizes truth verdict
    → given_under sizes verdict start None ≡ answers_from sizes truth start
visited_give sizes truth verdict start law =
    let first : Option (List ℕ) = first_of_start sizes start in
    left_out (given_at sizes verdict start) (is_reached verdict) (λ p. nat_lt 0 (length (completions_from sizes start p))) (all_prefixes sizes)
    (λ p e. ap (λ cs. cond (is_yes (verdict p)) cs []) (nothing (completions_from sizes start p) e) ∙ none_either (is_yes (verdict p)))
    ∙ joined_same (given_at sizes verdict start) (λ p. at_or_after first (given_whole sizes verdict p)) (filter (is_reached verdict) (all_prefixes sizes))
    (λ p i. from_given first (is_yes (verdict p)) (completions sizes p))
    ∙ from_joined first (given_whole sizes verdict) (filter (is_reached verdict) (all_prefixes sizes))
    ∙ ap (at_or_after first) (gives_true sizes truth verdict law)
    ∙ from_true first truth (choices sizes)
