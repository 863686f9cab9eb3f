-- The verdict of a question at a prefix of a choice. The verdict of each list of matchers is exact.
-- The logic of three values joins them as the question and its conditions join the lists.
use Rattle.std.specs.Prelude.{ℕ, List, [], ◌∷◌, map, if◌then◌else◌}
use Rattle.am_universe.specs.Universe.{Label}
use Rattle.am_labels.specs.Space.{Space}
use Rattle.am_search.specs.declared.verdict.Verdict.{Verdict}
use Rattle.am_search.specs.declared.verdict.Verdict.TheVariants.{Yes, No, Open}
use Rattle.am_judged_lists.specs.Verdicts.{verdict_of_list}
use Rattle.am_eval.specs.Tree.{Part, Not, And, Or}
use Rattle.am_eval.specs.Question.{Simple, Question}
use Rattle.am_eval.specs.World.{World}
use Rattle.am_eval.specs.Conditions.{Literal, not_matching, conditions_of}

-- The logic of three values. `not` exchanges `Yes` and `No`. `and` is `No` if one of its parts is,
-- otherwise `Open` if one is, and otherwise `Yes`. `or` is `Yes` if one of its parts is, otherwise
-- `Open` if one is, and otherwise `No`.
-- Source: S. C. Kleene, Introduction to Metamathematics, 1952, section 64, the strong tables.
-- Example: `kleene_and Open No` is `No`, `kleene_or Open No` is `Open`, and `kleene_not Open` is
-- `Open`.
abbrev pub kleene_not : Verdict → Verdict
kleene_not Yes = No
kleene_not No = Yes
kleene_not Open = Open

abbrev pub kleene_and : Verdict → Verdict → Verdict
kleene_and Yes v = v
kleene_and No v = No
kleene_and Open Yes = Open
kleene_and Open No = No
kleene_and Open Open = Open

abbrev pub kleene_or : Verdict → Verdict → Verdict
kleene_or Yes v = Yes
kleene_or No v = v
kleene_or Open Yes = Yes
kleene_or Open No = Open
kleene_or Open Open = Open

-- The `and` and the `or` of a list. The `and` of nothing is `Yes`, and the `or` of nothing is `No`.
abbrev pub all_of : List Verdict → Verdict
all_of [] = Yes
all_of (v ∷ vs) = kleene_and v (all_of vs)

abbrev pub any_of : List Verdict → Verdict
any_of [] = No
any_of (v ∷ vs) = kleene_or v (any_of vs)

-- The verdict of a literal: that of its list, with `Yes` and `No` exchanged if an alert must not
-- match the list.
-- Source: own choice.
-- Example: at a prefix at which `team="db"` is `Yes`, `not_matching` of `team="db"` is `No`.
abbrev pub verdict_of_literal : List Label → List ℕ → Literal → Verdict
verdict_of_literal u prefix l =
    if l.wanted then verdict_of_list u l.matchers prefix
    else kleene_not (verdict_of_list u l.matchers prefix)

-- The verdict of a simple part: a way is the `and` of its literals, and the part is the `or` of the
-- ways of its condition.
-- Source: own choice.
-- Example: `severity` may be `critical` or `warning`; `/0` has the matcher `severity="critical"`
-- and no `continue`, and `/1` has `team="db"`. At a prefix that chooses the team `db` and no
-- severity, `ends /1` is `Open`. At one that chooses the team `web` and no severity, it is `No`.
abbrev pub verdict_of_simple : List Label → World → Simple → List ℕ → Verdict
verdict_of_simple u w simple prefix =
    any_of (map (λ way. all_of (map (verdict_of_literal u prefix) way)) (conditions_of w simple))

-- The verdict of a question on the label sets of a prefix: its `not`, `and` and `or` are those of
-- three values. It does not say which label sets are possible.
-- Source: own choice.
-- Example: if `team="db"` is `Open`, `{team="db"} or not {team="db"}` is `Open` too, although it is
-- true of every label set.
abbrev pub verdict_of_question : List Label → World → Question → List ℕ → Verdict
verdict_of_question u w (Part simple) prefix = verdict_of_simple u w simple prefix
verdict_of_question u w (Not q) prefix = kleene_not (verdict_of_question u w q prefix)
verdict_of_question u w (And q r) prefix =
    kleene_and (verdict_of_question u w q prefix) (verdict_of_question u w r prefix)
verdict_of_question u w (Or q r) prefix =
    kleene_or (verdict_of_question u w q prefix) (verdict_of_question u w r prefix)

-- The verdict that the label set is possible: it matches no impossible list.
-- Source: own choice.
-- Example: `severity` may be `critical` or `warning`, and `team="web",severity="critical"` is
-- impossible. At a prefix that chooses the team `web` and no severity, the verdict is `Open`. At
-- one that chooses the team `db`, it is `Yes`.
abbrev pub verdict_of_space : Space → List ℕ → Verdict
verdict_of_space s prefix =
    all_of (map (λ ms. verdict_of_literal s.labels prefix (not_matching ms)) s.impossible)

-- The verdict that the choice is an answer: the question is true, and the label set is possible.
-- Source: own choice.
-- Example: `team` may be `db`, `web` or absent, `severity` may be `critical` or `warning`, and
-- `team="web",severity="critical"` is impossible. The verdict of `any` is `Open` at the empty
-- prefix, `Yes` at `0`, `Open` at `1`, `No` at `1.0`, and `Yes` at `1.1` and at `2`.
abbrev pub verdict_of : Space → World → Question → List ℕ → Verdict
verdict_of s w q prefix =
    kleene_and (verdict_of_question s.labels w q prefix) (verdict_of_space s prefix)
