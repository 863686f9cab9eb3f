-- Questions: what is asked of a label set, and which choices of a space are the answers.
use Rattle.std.specs.Prelude.{ℕ, List, Bool, true, not, ◌&&◌, ◌||◌, ◌==◌}
use Rattle.std.specs.List.{filter, list_any}
use Rattle.am_universe.specs.Universe.{Label}
use Rattle.am_universe.specs.LabelSet.{LabelMap, label_set_of}
use Rattle.am_universe.specs.Text.{same_text}
use Rattle.am_labels.specs.Matcher.{Matcher, all_hold}
use Rattle.am_labels.specs.Space.{Space, is_possible_choice, all_choices}
use Rattle.am_config.specs.Path.{leads_through}
use Rattle.am_eval.specs.declared.property.Property.{Property}
use Rattle.am_eval.specs.declared.property.Property.TheVariants.{Any, Silenced, Inhibited}
use Rattle.am_eval.specs.declared.reach.Reach.{Reach}
use Rattle.am_eval.specs.declared.reach.Reach.TheVariants.{Ends, Enters}
use Rattle.am_eval.specs.World.{World}
use Rattle.am_eval.specs.Routing.{ends, receivers}
use Rattle.am_eval.specs.Silencing.{is_silenced}
use Rattle.am_eval.specs.Inhibition.{is_inhibited}
use Rattle.am_eval.specs.Tree.{Tree, Part, Not, And, Or}

-- A simple part of a question: a property of the alert; a receiver, by its position; a route, by
-- its path, and how the alert reaches it; or a list of matchers in braces.
-- Source: own choice.
-- Example: `silenced` is a property. `receiver a` is the receiver at position 0 if `a` is the first
-- of the file. `enters /2` is the route at the path 2, and an alert reaches it if it ends there or
-- below it.
pub data Simple : Type 0 where
  Is : Property → Simple
  Receiver : ℕ → Simple
  Route : Reach → List ℕ → Simple
  Braces : List Matcher → Simple

-- A question about a world: simple parts, joined by `not`, `and` and `or`.
abbrev pub Question : Type 0
Question = Tree Simple

-- A label set has a property: each has `any`, one that a silence hides has `silenced`, and one that
-- a firing alert inhibits has `inhibited`. And an alert that ends at the path `end` reaches the
-- route at `path`: for `ends` the two paths are the same, and for `enters` the route may also be
-- above the end.
abbrev pub has_property : World → Property → LabelMap → Bool
has_property w Any s = true
has_property w Silenced s = is_silenced w s
has_property w Inhibited s = is_inhibited w s

abbrev pub reaches : Reach → List ℕ → List ℕ → Bool
reaches Ends path end = same_text end path
reaches Enters path end = leads_through path end

-- A simple part is true of a label set. A part about a receiver or a route that the configuration
-- does not have is false.
-- Source: own choice.
-- Example: if an alert ends at `/0/1` alone, `ends /0/1`, `enters /0/1` and `enters /0` are true,
-- and `ends /0` is false.
abbrev pub holds_of : World → Simple → LabelMap → Bool
holds_of w (Is property) s = has_property w property s
holds_of w (Receiver receiver) s = list_any (λ other. other == receiver) (receivers s w.config)
holds_of w (Route reach path) s = list_any (reaches reach path) (ends s w.config)
holds_of w (Braces matchers) s = all_hold s matchers

-- A label set satisfies a question: the question is true of it.
-- Source: own choice.
-- Example: `enters /0 and not ends /0` is true of an alert that ends below `/0`, and not of one
-- that ends at `/0`.
abbrev pub satisfies : World → Question → LabelMap → Bool
satisfies w (Part simple) s = holds_of w simple s
satisfies w (Not q) s = not (satisfies w q s)
satisfies w (And q r) s = satisfies w q s && satisfies w r s
satisfies w (Or q r) s = satisfies w q s || satisfies w r s

-- The label set of a choice satisfies a question.
abbrev pub satisfies_at : List Label → World → Question → List ℕ → Bool
satisfies_at u w q choice = satisfies w q (label_set_of u choice)

-- The answers to a question: the choices of a space, in declared order, whose label sets satisfy
-- it.
-- Source: own choice.
-- Example: let a space have the one label `team`, which may be `db` or `web`. Then the one answer
-- to `{team!="db"}` is the choice 1. If `team="web"` is impossible, there is none.
abbrev pub answers : Space → World → Question → List (List ℕ)
answers s w q = filter (satisfies_at s.labels w q) (all_choices s)

-- Whether a whole choice of the labels is an answer: it satisfies the question, and is possible.
abbrev pub is_answer : Space → World → Question → List ℕ → Bool
is_answer s w q choice = satisfies_at s.labels w q choice && is_possible_choice s choice
