-- The front of the end of a text: which bytes may come before it, and where a character begins.
use Rattle.std.proofs.Common.{◌≡◌, ℕ, ◌<◌, Bool, true, Option, Some, None, IsSome, List, [], ◌∷◌, refl, arith}
use Rattle.std.specs.List.{list_all}
use Rattle.std.proofs.lemmas.Bool.{cases_Bool, and_parts, and_from}
use Rattle.std.proofs.lemmas.Bool.Decides.{nat_tests}
use Rattle.std.proofs.lemmas.Option.{option_and_then_some}
use Rattle.std.proofs.lemmas.Grind.{common_steps}
use Rattle.am_classes.specs.declared.tail.Tail.{Tail}
use Rattle.am_classes.specs.declared.tail.Tail.TheVariants.{Whole}
use Rattle.am_classes.specs.declared.alphabet.Alphabet.TheVariants.{Unicode}
use Rattle.am_classes.specs.Utf8.{tail_step, text_step, tail_of, tail_with, is_whole}

-- What UTF-8 allows before a tail is a byte.
utf8_byte : (tail next : Tail) (b : ℕ) → tail_step tail b ≡ Some next → b < 256
utf8_byte Whole next b e = grind (arith, nat_tests)
utf8_byte tail next b e = grind (arith, nat_tests)

module _ (may : ℕ → Bool) where
  -- a byte that a text can have before a tail is one that it may have, and UTF-8 allows it there
  pub in_utf8 : (tail next : Tail) (b : ℕ) → text_step may tail b ≡ Some next
      → (may b ≡ true) × (tail_step tail b ≡ Some next)
  in_utf8 tail next b e = grind (arith, common_steps, cases_Bool)

  pub step_byte : (tail next : Tail) (b : ℕ) → text_step may tail b ≡ Some next → b < 256
  step_byte tail next b e = utf8_byte tail next b (in_utf8 tail next b e).1

  -- a text has the same tail if it may have other bytes too
  module _ (more : ℕ → Bool) (to : (b : ℕ) → b < 256 → may b ≡ true → more b ≡ true) where
    pub bytes_of_tail : (text : List ℕ) (tail : Tail) → tail_with may text ≡ Some tail
        → list_all more text ≡ true
    bytes_of_tail [] tail e = refl
    bytes_of_tail (b ∷ text) tail e =
        option_and_then_some (λ last. text_step may last b) (tail_with may text) tail e
        (λ last before step.
        and_from (more b) (list_all more text) (to b (step_byte last tail b step) (in_utf8 last tail b step).0) (bytes_of_tail text last before))

    pub tail_wider : (text : List ℕ) (tail : Tail) → tail_with may text ≡ Some tail
        → tail_with more text ≡ Some tail
    tail_wider [] tail e = e
    tail_wider (b ∷ text) tail e =
        option_and_then_some (λ last. text_step may last b) (tail_with may text) tail e
        (λ last before step.
        let both = in_utf8 last tail b step in
        rw (tail_wider text last before, to b (step_byte last tail b step) both.0) both.1)

    same_tail : (text : List ℕ) (o : Option Tail) → tail_with may text ≡ o → IsSome o
        → tail_with more text ≡ o
    same_tail text None e some = absurd cc
    same_tail text (Some tail) e some = tail_wider text tail e

    pub tail_more : (text : List ℕ) → IsSome (tail_with may text)
        → tail_with more text ≡ tail_with may text
    tail_more text some = same_tail text (tail_with may text) refl some

  -- and if it has only bytes that it may have
  pub tail_narrower : (text : List ℕ) (tail : Tail) → list_all may text ≡ true
      → tail_of Unicode text ≡ Some tail → tail_with may text ≡ Some tail
  tail_narrower [] tail all e = e
  tail_narrower (b ∷ text) tail all e =
      let both = and_parts (may b) (list_all may text) all in
      option_and_then_some (λ last. tail_step last b) (tail_of Unicode text) tail e
      (λ last before step. rw (tail_narrower text last both.1 before, both.0) step)

-- A tail that is whole.
pub whole_from : (tail : Tail) → is_whole tail ≡ true → tail ≡ Whole
whole_from Whole e = refl
whole_from tail e = absurd cc
