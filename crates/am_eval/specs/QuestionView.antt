-- The question that a `Question` stands for.
use Rattle.am_eval.specs.declared.question.Question as kept
use Rattle.am_eval.specs.declared.question.Question.{fold-Question}
use Rattle.am_eval.specs.declared.question.Question.TheOpen.{Question-F}
use Rattle.am_eval.specs.declared.property.Property.TheVariants.{Any, Silenced, Inhibited}
use Rattle.am_eval.specs.declared.reach.Reach.TheVariants.{Ends, Enters}
use Rattle.am_eval.specs.Tree.{Part, Not, And, Or}
use Rattle.am_eval.specs.Question.{Question, Is, Receiver, Route, Braces}

-- One level of a question, in which each smaller question is already seen.
abbrev pub view_step : Question-F Question → Question
view_step Question-F.Any = Part (Is Any)
view_step Question-F.Silenced = Part (Is Silenced)
view_step Question-F.Inhibited = Part (Is Inhibited)
view_step (Question-F.Receiver receiver) = Part (Receiver receiver)
view_step (Question-F.Ends path) = Part (Route Ends path)
view_step (Question-F.Enters path) = Part (Route Enters path)
view_step (Question-F.Braces matchers) = Part (Braces matchers)
view_step (Question-F.Not q) = Not q.value
view_step (Question-F.And q r) = And q.value r.value
view_step (Question-F.Or q r) = Or q.value r.value

-- The question that a `Question` stands for.
abbrev pub question_view : kept.Question → Question
question_view = fold-Question Question view_step
