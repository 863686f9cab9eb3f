-- Which of some matchers are on a label.
use Rattle.std.proofs.Common.{◌≡◌, ℕ, List, [], ◌∷◌, Contains, inl, inr, arith}
use Rattle.std.specs.Cmp.Lexicographic.{bytes_decides}
use Rattle.std.proofs.lemmas.Grind.{common_steps}
use Rattle.am_universe.proofs.ListLemmas.{IsIn, IsIn-from_Contains}
use Rattle.am_universe.specs.Text.{same_text}
use Rattle.am_labels.specs.Matcher.{Matcher}
use Rattle.am_labels.proofs.Passing.{passes_from_kept, kept_from_passes}
use Rattle.am_complete.specs.Complete.{about, AreAmong}

-- a list of one element contains that element alone
pub only : {X : Type 0} (y x : X) → Contains (y ∷ []) x → y ≡ x
only y x there = grind (arith, common_steps)

-- a matcher on a label is one of the matchers, and has the label's name
pub is_about : (name : List ℕ) (ms : List Matcher) (m : Matcher) → IsIn ms m
    → m.name ≡ name → IsIn (about name ms) m
is_about name ms m i e =
    kept_from_passes (λ n. same_text n.name name) ms m i ((bytes_decides m.name name).1 e)

pub about_is : (name : List ℕ) (ms : List Matcher) (m : Matcher) → IsIn (about name ms) m
    → IsIn ms m × (m.name ≡ name)
about_is name ms m i =
    let r = passes_from_kept (λ n. same_text n.name name) ms m i in
    (r.0, (bytes_decides m.name name).0 r.1)

pub is_among : (ns ms : List Matcher) (m : Matcher) → AreAmong ns ms → IsIn ns m → IsIn ms m
is_among [] ms m h i = absurd i
is_among (n ∷ ns) ms m h (inl e) = rw (← e) (IsIn-from_Contains ms n h.0)
is_among (n ∷ ns) ms m h (inr i) = is_among ns ms m h.1 i
