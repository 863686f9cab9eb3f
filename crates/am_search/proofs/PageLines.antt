-- A page that is being written: the lines of some answers are written, and the others are left.
use Rattle.std.proofs.Common.{◌≡◌, ℕ, zero, suc, ◌+◌, ◌-◌, ◌<◌, ◌≤◌, cond, List, [], ◌∷◌, ◌++◌, length, take, get_or, Option, Some, None, IfSome, refl, sym, ap, ◌∙◌, append-nil, arith}
use Rattle.std.specs.Prelude.{option_map}
use Rattle.std.specs.List.{flat_map}
use Rattle.std.proofs.lemmas.Grind.{flat_map-append, common_steps}
use borrow.Author.Tests.{lt-ltb, le-ltb}
use Rattle.am_search.specs.declared.trailer.Trailer.{Trailer}
use Rattle.am_search.specs.declared.trailer.Trailer.TheVariants.{Next}
use Rattle.am_search.specs.Page.{AnswerPage, page_ending}

-- ---- Which page it is.

abbrev pub part_page : List (List ℕ) → ℕ → AnswerPage
part_page xs n = record { choices = take n xs; trailer = Next (get_or xs (n - 1) []) }

abbrev pub all_page : Trailer → List (List ℕ) → AnswerPage
all_page ending xs = record { choices = xs; trailer = ending }

pub page_of_part : (ending : Trailer) (xs : List (List ℕ)) (n : ℕ) → n < length xs → page_ending ending xs (Some n) ≡ part_page xs n
page_of_part ending xs n h = ap (λ b. cond b (part_page xs n) (all_page ending xs)) (lt-ltb n (length xs) h)

pub page_of_all : (ending : Trailer) (xs : List (List ℕ)) (limit : Option ℕ) → IfSome limit (λ n. length xs ≤ n) → page_ending ending xs limit ≡ all_page ending xs
page_of_all ending xs None h = refl
page_of_all ending xs (Some n) h = ap (λ b. cond b (part_page xs n) (all_page ending xs)) (le-ltb n (length xs) h)

-- ---- The answers that are left, where there is room for so many more of them under the limit.

-- how a page ends whose last answer so far is `last`
abbrev pub trailer_behind : Trailer → List ℕ → List (List ℕ) → Option ℕ → Trailer
trailer_behind ending last left room = (page_ending ending (last ∷ left) (option_map (λ r. 1 + r) room)).trailer

-- before the first answer, any choice stands for the last one
pub at_the_start : (ending : Trailer) (last : List ℕ) (xs : List (List ℕ)) (limit : Option ℕ) → IfSome limit (λ n. 0 < n) → (page_ending ending xs limit).trailer ≡ trailer_behind ending last xs limit
at_the_start ending last xs None some = refl
at_the_start ending last xs (Some zero) some = absurd (omega arith)
at_the_start ending last xs (Some (suc n)) some = grind (arith, common_steps)

module _ (ending : Trailer) (last c : List ℕ) (rest : List (List ℕ)) {left : List (List ℕ)} (found : left ≡ c ∷ rest) {room : Option ℕ} where
  -- if there is no room for the next answer, the page ends before it
  pub cut_here : room ≡ Some 0 → (page_ending ending left room).choices ≡ []
  cut_here none = rw (found, none) (grind (arith, common_steps))

  pub next_here : room ≡ Some 0 → trailer_behind ending last left room ≡ Next last
  next_here none = rw (found, none) (grind (arith, common_steps))

  -- if there is room, the next answer comes first
  pub one_more : (after : Option ℕ) → room ≡ option_map (λ r. 1 + r) after → (page_ending ending left room).choices ≡ c ∷ (page_ending ending rest after).choices
  one_more None is = rw (found, is) refl
  one_more (Some r) is = rw (found, is) (grind (arith, common_steps))

  pub last_more : (after : Option ℕ) → room ≡ option_map (λ r. 1 + r) after → trailer_behind ending last left room ≡ trailer_behind ending c rest after
  last_more None is = rw (found, is) refl
  last_more (Some r) is = rw (found, is) (grind (arith, common_steps))

-- if no answer is left, the page has those that are written
pub none_left : (ending : Trailer) (room : Option ℕ) {left : List (List ℕ)} → left ≡ [] → (page_ending ending left room).choices ≡ []
none_left ending None none = none
none_left ending (Some r) none = rw none (grind (arith, common_steps))

pub ended : (ending : Trailer) (last : List ℕ) (room : Option ℕ) {left : List (List ℕ)} → left ≡ [] → trailer_behind ending last left room ≡ ending
ended ending last None none = refl
ended ending last (Some r) none = rw none (grind (arith, common_steps))

-- ---- The lines.

pub lines_more : (f : List ℕ → List ℕ) (done : List (List ℕ)) (c : List ℕ) → flat_map f done ++ f c ≡ flat_map f (done ++ c ∷ [])
lines_more f done c = ap (λ t. flat_map f done ++ t) (sym (append-nil (f c))) ∙ sym (flat_map-append f done (c ∷ []))
