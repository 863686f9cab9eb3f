-- The choices from a start on, and the pages of the answers among them.
use Rattle.std.proofs.Common.{◌≡◌, ◌↔◌, ℕ, ◌-◌, ◌<◌, ◌≤◌, Bool, true, not, List, [], ◌∷◌, ◌++◌, length, take, drop, get_or, Contains, Option, Some, None, IfSome, MatchOption, codes, ap, sym, subst, ◌∙◌, refl, inl, inr, arith, append-nil, length-drop, rules}
use Rattle.std.specs.Prelude.{IsTrue}
use Rattle.std.specs.List.{filter}
use Rattle.std.specs.List.Sorted.{IsStrictlySortedBy}
use Rattle.std.specs.Ordering.{nat_cmp}
use Rattle.std.specs.Cmp.Lexicographic.{slice_cmp}
use Rattle.std.proofs.lemmas.Bool.{false_from_ne_true, cases_lt}
use Rattle.std.proofs.lemmas.List.{take-append-drop}
use Rattle.std.proofs.lemmas.List.Kept.{IsStrictlySortedBy-filter}
use Rattle.std.proofs.lemmas.Grind.{common_steps}
use Rattle.am_universe.specs.Choice.{choices, admits, IsWhole}
use Rattle.am_universe.proofs.ListLemmas.{IsIn, IsIn-from_Contains, Contains-from_IsIn}
use Rattle.am_universe.proofs.ChoiceLemmas.{choices_sorted, whole_from_in}
use Rattle.am_search.specs.declared.start.Start.{Start}
use Rattle.am_search.specs.declared.start.Start.TheVariants.{At, After}
use Rattle.am_search.specs.declared.trailer.Trailer.{Trailer}
use Rattle.am_search.specs.declared.trailer.Trailer.TheVariants.{End, Next, Stopped}
use Rattle.am_search.specs.Judge.{AreSizes}
use Rattle.am_search.specs.Start.{comes_before, IsStart, first_of_start, at_or_after, choices_from, answers_from}
use Rattle.am_search.specs.Page.{AnswerPage, page_ending, page_from, rest_after, IsPage, IsChainOf, IsChain, start_after, all_choices_of}
use Rattle.am_search.specs.Token.{token_text}
use Rattle.am_search.specs.TrailerText.{trailer_text}
use Rattle.am_search.proofs.ChoiceOrder.{Ascends, before_trans, filter_all, filter_same, in_filter, into_filter, filters_swapped, from_found, after_taken, up_to_taken, taken_last}
use Rattle.am_search.proofs.Odometer.{filled, first_completion_is, positive}
use Rattle.am_search.proofs.Walks.{first_is_whole, before_filled, one_more}
use Rattle.am_search.proofs.PageLines.{part_page, all_page, page_of_part, page_of_all}

-- ---- The choices from a start on.

pub choices_at : (ns prefix : List ℕ) → AreSizes ns → admits ns prefix ≡ true → choices_from ns (At prefix) ≡ filter (λ c. not (comes_before c prefix)) (choices ns)
choices_at ns prefix h a =
    ap (λ o. at_or_after o (choices ns)) (first_completion_is ns prefix (positive ns h.values) a)
    ∙ filter_same _ _ (choices ns) (λ d i. ap not (before_filled ns prefix d a (whole_from_in ns d i).1))

pub none_from : (ns : List ℕ) (start : Start) → first_of_start ns start ≡ None → choices_from ns start ≡ []
none_from ns start e = ap (λ o. at_or_after o (choices ns)) e

pub begins_with : (ns c : List ℕ) (start : Start) → first_of_start ns start ≡ Some c → IsWhole ns c × (choices_from ns start ≡ c ∷ choices_from ns (After c))
begins_with ns c start e =
    let w = first_is_whole ns start c e in
    (w, ap (λ o. at_or_after o (choices ns)) e ∙ one_more ns c w)

pub some_at : (ns prefix : List ℕ) → AreSizes ns → admits ns prefix ≡ true → 0 < length (choices_from ns (At prefix))
some_at ns prefix h a = omega (arith, ap length (begins_with ns (filled ns prefix) (At prefix) (first_completion_is ns prefix (positive ns h.values) a)).1)

pub choices_after : (ns c : List ℕ) → choices_from ns (After c) ≡ filter (comes_before c) (choices ns)
choices_after ns c = from_found (choices ns) c (choices_sorted ns)

-- ---- The answers.

pub answers_exactly : (ns c : List ℕ) (truth : List ℕ → Bool) (start : Start)
    → (Contains (answers_from ns truth start) c ↔ (Contains (choices_from ns start) c × IsTrue (truth c)))
answers_exactly ns c truth start = (
  λ h. let r = in_filter truth (choices_from ns start) c (IsIn-from_Contains (answers_from ns truth start) c h) in (Contains-from_IsIn (choices_from ns start) c r.0, r.1),
  λ h. Contains-from_IsIn (answers_from ns truth start) c (into_filter truth (choices_from ns start) c (IsIn-from_Contains (choices_from ns start) c h.0) h.1),
)

sorted_nothing : Ascends []
unfolding IsStrictlySortedBy
sorted_nothing = tt

from_sorted : (ns : List ℕ) (o : Option (List ℕ)) → Ascends (at_or_after o (choices ns))
from_sorted ns None = sorted_nothing
from_sorted ns (Some c) = IsStrictlySortedBy-filter (slice_cmp nat_cmp) (λ d. not (comes_before d c)) (choices ns) (choices_sorted ns)

pub answers_sorted : (ns : List ℕ) (truth : List ℕ → Bool) (start : Start) → Ascends (answers_from ns truth start)
answers_sorted ns truth start = IsStrictlySortedBy-filter (slice_cmp nat_cmp) truth (choices_from ns start) (from_sorted ns (first_of_start ns start))

from_in_choices : (ns : List ℕ) (o : Option (List ℕ)) (c : List ℕ) → IsIn (at_or_after o (choices ns)) c → IsIn (choices ns) c
from_in_choices ns None c i = absurd i
from_in_choices ns (Some first) c i = (in_filter _ (choices ns) c i).0

from_whole : (ns c : List ℕ) (start : Start) → IsIn (choices_from ns start) c → IsWhole ns c
from_whole ns c start i = whole_from_in ns c (from_in_choices ns (first_of_start ns start) c i)

pub same_answers : (ns : List ℕ) (f g : List ℕ → Bool) (start : Start) → ((c : List ℕ) → IsWhole ns c → f c ≡ g c) → answers_from ns f start ≡ answers_from ns g start
same_answers ns f g start h = filter_same f g (choices_from ns start) (λ c i. h c (from_whole ns c start i))

-- ---- What comes after one of the answers.

-- if all that pass a test pass another, the other changes nothing
pub filter_within : {X : Type 0} (f g : X → Bool) (xs : List X) → ((x : X) → f x ≡ true → g x ≡ true) → filter f (filter g xs) ≡ filter f xs
filter_within f g xs h = filters_swapped f g xs ∙ filter_all g (filter f xs) (λ y i. h y (in_filter f xs y i).1)

-- a choice that comes after one at or after the first is at or after the first too
stays_after : (first c d : List ℕ) → not (comes_before c first) ≡ true → comes_before c d ≡ true → not (comes_before d first) ≡ true
stays_after first c d h k = grind (arith, common_steps, false_from_ne_true, before_trans)

after_from : (o : Option (List ℕ)) (cs : List (List ℕ)) (c : List ℕ) → IsIn (at_or_after o cs) c → filter (comes_before c) (at_or_after o cs) ≡ filter (comes_before c) cs
after_from None cs c i = absurd i
after_from (Some first) cs c i = grind (arith, common_steps, filter_within, stays_after, in_filter)

pub after_answer : (ns c : List ℕ) (truth : List ℕ → Bool) (start : Start) → IsIn (answers_from ns truth start) c
    → filter (comes_before c) (answers_from ns truth start) ≡ answers_from ns truth (After c)
after_answer ns c truth start i = grind (arith, common_steps, filters_swapped, after_from, in_filter, choices_after)

-- ---- Pages.

-- a page of a list is cut by its limit, or it has the whole list
pub data PageKind (ending : Trailer) (xs : List (List ℕ)) (limit : Option ℕ) (page : AnswerPage) : Type 0 where
  part : (n : ℕ) → limit ≡ Some n → 0 < n → n < length xs → page ≡ part_page xs n → PageKind ending xs limit page
  whole : page ≡ all_page ending xs → PageKind ending xs limit page

pub kind_of : (ending : Trailer) (xs : List (List ℕ)) (limit : Option ℕ) → IfSome limit (λ n. 0 < n) → PageKind ending xs limit (page_ending ending xs limit)
kind_of ending xs None h = whole refl
kind_of ending xs (Some n) h = elim (cases_lt n (length xs)) [
  | inl more ↦ part n refl h more (page_of_part ending xs n more)
  | inr few ↦ whole (page_of_all ending xs (Some n) few)
]

page_kind : (ns : List ℕ) (truth : List ℕ → Bool) (start : Start) (page : AnswerPage) (h : IsPage ns truth start page) → PageKind End (answers_from ns truth start) h.limit page
page_kind ns truth start page h = subst (PageKind End (answers_from ns truth start) h.limit) (sym h.from_start) (kind_of End (answers_from ns truth start) h.limit h.at_least_one)

-- the answers after the last of the first `n` are the others
rest_of_part : (ns : List ℕ) (truth : List ℕ → Bool) (start : Start) (n : ℕ) → 0 < n → n < length (answers_from ns truth start)
    → answers_from ns truth (After (get_or (answers_from ns truth start) (n - 1) [])) ≡ drop n (answers_from ns truth start)
rest_of_part ns truth start n some more = search (rules, taken_last, after_answer, after_taken, answers_sorted)

pub page_rest : (ns : List ℕ) (truth : List ℕ → Bool) (start : Start) (page : AnswerPage) → IsPage ns truth start page
    → answers_from ns truth start ≡ page.choices ++ rest_after ns truth page.trailer
page_rest ns truth start page h = elim (page_kind ns truth start page h) [
  | part n e some more is ↦
      let xs : List (List ℕ) = answers_from ns truth start in
      sym (take-append-drop n xs) ∙ ap (λ l. take n xs ++ l) (sym (rest_of_part ns truth start n some more)) ∙ ap (λ p. p.choices ++ rest_after ns truth p.trailer) (sym is)
  | whole is ↦ sym (append-nil (answers_from ns truth start)) ∙ ap (λ p. p.choices ++ rest_after ns truth p.trailer) (sym is)
]

-- a page that ends with `Next` is cut by its limit
pub record IsPart (xs : List (List ℕ)) (page : AnswerPage) (c : List ℕ) : Type 0 where
  pub count : ℕ
  pub some : 0 < count
  pub more : count < length xs
  pub choices : page.choices ≡ take count xs
  pub last : c ≡ get_or xs (count - 1) []

pub next_part : (ns c : List ℕ) (truth : List ℕ → Bool) (start : Start) (page : AnswerPage) → IsPage ns truth start page → page.trailer ≡ Next c → IsPart (answers_from ns truth start) page c
next_part ns c truth start page h ends = elim (page_kind ns truth start page h) [
  | part n e some more is ↦
      let both : Next c ≡ Next (get_or (answers_from ns truth start) (n - 1) []) = sym ends ∙ ap (λ p. p.trailer) is in
      record { count = n; some = some; more = more; choices = ap (λ p. p.choices) is; last = cc }
  | whole is ↦ let both : Next c ≡ End = sym ends ∙ ap (λ p. p.trailer) is in cc
]

-- its last choice is one of the choices from the start on
pub last_in : (ns c : List ℕ) (truth : List ℕ → Bool) (start : Start) (page : AnswerPage) → IsPage ns truth start page → page.trailer ≡ Next c → IsIn (choices_from ns start) c
last_in ns c truth start page h ends =
    let p = next_part ns c truth start page h ends in
    (in_filter truth (choices_from ns start) c (subst (IsIn (answers_from ns truth start)) (sym p.last) (taken_last (answers_from ns truth start) p.count p.some p.more))).0

pub next_is_start : (ns c : List ℕ) (truth : List ℕ → Bool) (start : Start) (page : AnswerPage) → IsPage ns truth start page → page.trailer ≡ Next c → IsStart ns (After c)
next_is_start ns c truth start page h ends = from_whole ns c start (last_in ns c truth start page h ends)

pub more_left : (ns c : List ℕ) (truth : List ℕ → Bool) (start : Start) (page : AnswerPage) → IsPage ns truth start page → page.trailer ≡ Next c → 0 < length (answers_from ns truth (After c))
more_left ns c truth start page h ends =
    let p = next_part ns c truth start page h ends in
    let rest = ap (λ d. answers_from ns truth (After d)) p.last ∙ rest_of_part ns truth start p.count p.some p.more in
    omega (arith, ap length rest, length-drop p.count (answers_from ns truth start), p.more)

pub up_to_trailer : (ns c : List ℕ) (truth : List ℕ → Bool) (start : Start) (page : AnswerPage) → IsPage ns truth start page → page.trailer ≡ Next c
    → page.choices ≡ filter (λ d. not (comes_before c d)) (answers_from ns truth start)
up_to_trailer ns c truth start page h ends =
    let xs : List (List ℕ) = answers_from ns truth start in
    let p = next_part ns c truth start page h ends in
    p.choices ∙ sym (up_to_taken xs p.count (answers_sorted ns truth start) p.some p.more) ∙ ap (λ b. filter (λ a. not (comes_before b a)) xs) (sym p.last)

pub to_the_end : (ns : List ℕ) (truth : List ℕ → Bool) (start : Start) (page : AnswerPage) → IsPage ns truth start page → page.trailer ≡ End → page.choices ≡ answers_from ns truth start
to_the_end ns truth start page h e = grind (arith, common_steps, page_kind)

pub never_stopped : (ns p : List ℕ) (truth : List ℕ → Bool) (start : Start) (page : AnswerPage) → IsPage ns truth start page → page.trailer ≡ Stopped p → ⊥
never_stopped ns p truth start page h ends = grind (arith, common_steps, page_kind)

pub within_limit : (ns : List ℕ) (truth : List ℕ → Bool) (start : Start) (n : ℕ)
    → length (page_from ns truth start (Some n)).choices ≤ n
within_limit ns truth start n = grind (arith, common_steps, cases_lt, page_of_part, page_of_all)

-- a page that leaves something has as many choices as its limit
pub limit_reached : (ns c : List ℕ) (truth : List ℕ → Bool) (start : Start) (n : ℕ)
    → (page_from ns truth start (Some n)).trailer ≡ Next c
    → length (page_from ns truth start (Some n)).choices ≡ n
limit_reached ns c truth start n ends = grind (arith, common_steps, cases_lt, page_of_part, page_of_all)

-- ---- Trailers.

pub trailer_next : (fingerprint c : List ℕ) (start : Start) → start_after (Next c) ≡ Some start
    → trailer_text fingerprint (Next c) ≡ codes "# next " ++ (token_text fingerprint start ++ codes "\n")
trailer_next fingerprint c start e = grind (arith, common_steps)

pub trailer_stopped : (fingerprint prefix : List ℕ) (start : Start) → start_after (Stopped prefix) ≡ Some start
    → trailer_text fingerprint (Stopped prefix) ≡ codes "# stopped " ++ (token_text fingerprint start ++ codes "\n")
trailer_stopped fingerprint prefix start e = grind (arith, common_steps)

pub trailer_end : (fingerprint : List ℕ) (trailer : Trailer) → start_after trailer ≡ None
    → trailer_text fingerprint trailer ≡ codes "# end\n"
trailer_end fingerprint End e = refl
trailer_end fingerprint (Next c) e = absurd (cc)
trailer_end fingerprint (Stopped prefix) e = absurd (cc)

-- ---- Pages in a row.

-- if each page and what its trailer leaves are the answers from its start on, the pages are too
pub pages_joined : (ns : List ℕ) (truth : List ℕ → Bool) (IsPageFrom : Start → AnswerPage → Type 0) → ((start : Start) (page : AnswerPage) → IsPageFrom start page → answers_from ns truth start ≡ page.choices ++ rest_after ns truth page.trailer)
    → (start : Start) (pages : List AnswerPage) → IsChainOf IsPageFrom start pages → all_choices_of pages ≡ answers_from ns truth start
pages_joined ns truth IsPageFrom rest start [] h = absurd h
pages_joined ns truth IsPageFrom rest start (page ∷ pages) h =
    ap (λ l. page.choices ++ l) (by page.trailer h.1 (λ next k. pages_joined ns truth IsPageFrom rest next pages k)) ∙ sym (rest start page h.0)
  where
    by : (t : Trailer) → MatchOption (start_after t) (pages ≡ []) (λ next. IsChainOf IsPageFrom next pages) → ((next : Start) → IsChainOf IsPageFrom next pages → all_choices_of pages ≡ answers_from ns truth next)
        → all_choices_of pages ≡ rest_after ns truth t
    by End e more = ap all_choices_of e
    by (Next c) k more = more (After c) k
    by (Stopped prefix) k more = more (At prefix) k

pub chain_joined : (ns : List ℕ) (truth : List ℕ → Bool) (start : Start) (pages : List AnswerPage) → IsChain ns truth start pages → all_choices_of pages ≡ answers_from ns truth start
chain_joined ns truth = pages_joined ns truth (IsPage ns truth) (page_rest ns truth)
