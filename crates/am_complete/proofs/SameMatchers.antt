-- Equal matchers of a label, and lists that have the same matchers.
use Rattle.std.proofs.Common.{◌≡◌, ℕ, List, sym, arith}
use Rattle.std.specs.Prelude.{IsTrue}
use Rattle.std.specs.Cmp.Lexicographic.{bytes_decides}
use Rattle.std.proofs.lemmas.Bool.{and_parts}
use Rattle.std.proofs.lemmas.Grind.{common_steps}
use denote.Enum.Bare.{same_true}
use Rattle.am_universe.specs.Text.{same_text}
use Rattle.am_universe.proofs.ListLemmas.{IsIn, AllByRecursion-each, AllByRecursion-at}
use Rattle.am_labels.specs.contracts.op.Op.{the_type}
use Rattle.am_labels.specs.Matcher.{Matcher, holds}
use Rattle.am_labels.specs.Space.{Space}
use Rattle.am_classes.specs.declared.alphabet.Alphabet.{Alphabet}
use Rattle.am_classes.specs.Alike.{AreAlike, HasAlikeIn, AreApart}
use Rattle.am_classes.specs.Limits.{MayBePastLimits}
use Rattle.am_classes.proofs.LimitLemmas.{same_limits}
use Rattle.am_complete.specs.Complete.{AreAmong, HaveSameMatchers}
use Rattle.am_complete.specs.AskedLabel.{same_op, asks_same}
use Rattle.am_complete.specs.Covering.{ArePossible, CoverPossible, standing_texts, AreNeeded}
use Rattle.am_complete.specs.LabelState.{HasClasses}
use Rattle.am_complete.proofs.Alike.{is_among}
use Rattle.am_complete.proofs.AmongMatchers.{among_by}

-- ---- Equal matchers.

-- equal matchers on one label are the same matcher
pub equal_is : (m n : Matcher) → m.name ≡ n.name → IsTrue (asks_same m n) → m ≡ n
equal_is m n named h =
    let both = and_parts (same_op n.op m.op) (same_text n.value m.value) h in
    let op = sym (same_true the_type tt n.op m.op both.0) in
    let value = sym ((bytes_decides n.value m.value).0 both.1) in
    λ i. record { name = named i; op = op i; value = value i }

-- ---- The same matchers.

pub same_by : (ns ms : List Matcher) → ((m : Matcher) → IsIn ns m → IsIn ms m)
    → ((m : Matcher) → IsIn ms m → IsIn ns m) → HaveSameMatchers ns ms
same_by ns ms to from = record { there = among_by ns ms to; back = among_by ms ns from }

pub in_there : (ns ms : List Matcher) (m : Matcher) → HaveSameMatchers ns ms → IsIn ns m
    → IsIn ms m
in_there ns ms m same i = is_among ns ms m same.there i

pub in_back : (ns ms : List Matcher) (m : Matcher) → HaveSameMatchers ns ms → IsIn ms m
    → IsIn ns m
in_back ns ms m same i = is_among ms ns m same.back i

-- ---- What texts are to matchers, they are to those among them, or to those that they are among.

pub alike_among : (ns ms : List Matcher) (x y : List ℕ) → AreAmong ns ms → AreAlike ms x y
    → AreAlike ns x y
alike_among ns ms x y among h =
    AllByRecursion-each (λ m. holds m.op m.value x ≡ holds m.op m.value y) ns (λ m i.
    AllByRecursion-at (λ m. holds m.op m.value x ≡ holds m.op m.value y) ms m h
    (is_among ns ms m among i))

pub has_alike_among : (ns ms : List Matcher) (texts : List (List ℕ)) (text : List ℕ)
    → AreAmong ns ms → HasAlikeIn ms texts text → HasAlikeIn ns texts text
has_alike_among ns ms texts text among h = (h.0, h.1, alike_among ns ms h.0 text among h.2)

pub apart_among : (ns ms : List Matcher) (texts : List (List ℕ)) → AreAmong ns ms
    → AreApart ns texts → AreApart ms texts
apart_among ns ms texts among apart i j x y at_x at_y alike =
    apart i j x y at_x at_y (alike_among ns ms x y among alike)

pub cover_among : (a : Alphabet) (impossible : List (List Matcher)) (name : List ℕ)
    (ns ms : List Matcher) (texts : List (List ℕ)) → AreAmong ns ms
    → CoverPossible a impossible name ms texts → CoverPossible a impossible name ns texts
cover_among a impossible name ns ms texts among cover text over possible =
    has_alike_among ns ms texts text among (cover text over possible)

pub limits_same : (a : Alphabet) (ns ms : List Matcher) → HaveSameMatchers ns ms
    → MayBePastLimits a ns → MayBePastLimits a ms
limits_same a ns ms same =
    same_limits a ns ms (λ m i. in_there ns ms m same i) (λ m i. in_back ns ms m same i)

pub possible_among : (a : Alphabet) (impossible : List (List Matcher)) (name : List ℕ)
    (ns ms : List Matcher) (texts : List (List ℕ)) → AreAmong ns ms
    → ArePossible a impossible name ns texts → ArePossible a impossible name ms texts
possible_among a impossible name ns ms texts among h = grind (arith, common_steps, apart_among)

pub same_classes : (a : Alphabet) (impossible : List (List Matcher)) (name : List ℕ)
    (ns ms : List Matcher) (n : ℕ) → HaveSameMatchers ns ms
    → HasClasses a impossible name ns n → HasClasses a impossible name ms n
same_classes a impossible name ns ms n same h = (
  h.0,
  record {
    cover = cover_among a impossible name ms ns h.0 same.back h.1.cover;
    possible = possible_among a impossible name ns ms h.0 same.there h.1.possible;
  },
  h.2,
)

pub needed_among : (a : Alphabet) (s : Space) (name : List ℕ) (ns ms : List Matcher)
    (texts : List (List ℕ)) → AreAmong ns ms → AreNeeded a s name ns texts
    → AreNeeded a s name ms texts
needed_among a s name ns ms texts among h =
    let standing = standing_texts s name in
    record {
      possible = possible_among a s.impossible name ns ms texts among h.possible;
      new = AllByRecursion-each (λ text. HasAlikeIn ms standing text → ⊥) texts (λ text i alike.
          AllByRecursion-at (λ text. HasAlikeIn ns standing text → ⊥) texts text h.new i
          (has_alike_among ns ms standing text among alike));
    }
