-- The matchers that decide what a report says about an alert, and whether a question is true of it;
-- and spaces that stand for every alert, for such matchers.
use Rattle.std.specs.Prelude.{List, ◌++◌, ◌⊎◌, ⊤}
use Rattle.am_universe.specs.Universe.{Label, IsUniverse}
use Rattle.am_labels.specs.Matcher.{Matcher}
use Rattle.am_labels.specs.Space.{Space}
use Rattle.am_config.specs.ConfigFile.{Configuration}
use Rattle.am_eval.specs.World.{World}
use Rattle.am_eval.specs.declared.property.Property.TheVariants.{Silenced, Inhibited}
use Rattle.am_eval.specs.Question.{Question, Is}
use Rattle.am_eval.specs.Tree.{Part, Not, And, Or}
use Rattle.am_asked.specs.Asked.{route_matchers, world_matchers, question_matchers}
use Rattle.am_classes.specs.declared.alphabet.Alphabet.{Alphabet}
use Rattle.am_complete.specs.Complete.{impossible_matchers, IsSpaceComplete}
use Rattle.am_complete.specs.Covering.{HasTextsOver}

-- Some matchers, and those that say what is impossible in a space.
abbrev pub deciding_matchers : Space → List Matcher → List Matcher
deciding_matchers s ms = ms ++ impossible_matchers s.impossible

-- The matchers that decide which label sets end at a route or go to a receiver, and which are
-- possible: those of the routes, and of the impossible lists.
-- Source: own choice.
-- Example: if nothing is impossible, they are those of the routes.
abbrev pub coverage_matchers : Space → Configuration → List Matcher
coverage_matchers s c = deciding_matchers s (route_matchers c.root)

-- The matchers that decide whether a label set satisfies a question and is possible: those of the
-- world, of the question, and of the impossible lists.
-- Source: own choice.
-- Example: for the question `any`, if nothing is impossible, they are those of the world.
abbrev pub asked_matchers : Space → World → Question → List Matcher
asked_matchers s w q = deciding_matchers s (world_matchers w ++ question_matchers q)

-- A question asks what hides an alert: a part of it is `silenced` or `inhibited`. If none is, the
-- matchers of the routes and of the question decide it.
-- Source: own choice.
-- Example: `not silenced` asks it, and `receiver a or {team="db"}` does not.
abbrev pub AsksWhatHides : Question → Type 0
AsksWhatHides (Part (Is Silenced)) = ⊤
AsksWhatHides (Part (Is Inhibited)) = ⊤
AsksWhatHides (Part simple) = ⊥
AsksWhatHides (Not q) = AsksWhatHides q
AsksWhatHides (And q r) = AsksWhatHides q ⊎ AsksWhatHides r
AsksWhatHides (Or q r) = AsksWhatHides q ⊎ AsksWhatHides r

-- The space with some labels, in which some lists are impossible.
abbrev pub space_of : List (List Matcher) → List Label → Space
space_of lists u = record { labels = u; impossible = lists }

-- A space stands for every alert of it over an alphabet, for some matchers: it is complete for them
-- and for its impossible lists, and its texts are over the alphabet.
-- Source: own choice.
-- Example: for `team="db"`, if nothing is impossible, a space in which `team` may be absent or `db`
-- does so over each alphabet. It does not if `team` is always `db`.
pub record StandsFor (a : Alphabet) (s : Space) (ms : List Matcher) : Type 0 where
  pub universe : IsUniverse s.labels
  pub complete : IsSpaceComplete a s (deciding_matchers s ms)
  pub over : HasTextsOver a s.labels
