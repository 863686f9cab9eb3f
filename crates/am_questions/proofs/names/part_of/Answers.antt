-- Each simple part means what was found for it.
use Rattle.std.proofs.Common.{◌≡◌, ◌∙◌, sym, subst, refl}
use Rattle.am_config.specs.ConfigFile.{Configuration}
use Rattle.am_config.specs.ConfigView.{config_view}
use Rattle.am_questions.specs.declared.grammar.Written as kept
use Rattle.am_eval.specs.Tree.{Part}
use Rattle.am_eval.specs.Question.{Question, Simple}
use Rattle.am_questions.specs.QuestionText.{Means, TreeMeans}
use Rattle.am_questions.specs.TreeView.{written_view}
use Rattle.am_eval.specs.declared.question.Question.TheOpen.{Question-F}
use Rattle.am_eval.specs.declared.question.Question.TheVariants as variants
use Rattle.am_eval.proofs.QuestionSeen.{seen_by}
use Rattle.am_questions.proofs.names.part_of.Goals as goal

meant_by : (config : Configuration) {w v : kept.Written} {question : Question} {simple : Simple}
    → w ≡ v → Means config (written_view v) simple → question ≡ Part simple
    → TreeMeans config (Part (written_view w)) question
meant_by config {simple = simple} is means seen =
    (simple, subst (λ (w : kept.Written). Means config (written_view w) simple) (sym is) means, seen)

pub returns-in-Is-clause-meant : goal.returns-in-Is-clause-meant
returns-in-Is-clause-meant c =
    meant_by (config_view c.args.config.now) c.in-Is.is refl c.property.ensures.property

pub returns-in-Some-clause-meant : goal.returns-in-Some-clause-meant
returns-in-Some-clause-meant c =
    meant_by (config_view c.args.config.now) c.in-Receiver.is
    (c.in-Some.receiver, sym c.receiver_position.ensures.position ∙ c.in-Some.is, refl)
    c.receiver.ensures.receiver

pub returns-in_ok-path_of_route-in-Route-clause-meant :
    goal.returns-in_ok-path_of_route-in-Route-clause-meant
returns-in_ok-path_of_route-in-Route-clause-meant c =
    meant_by (config_view c.args.config.now) c.in-Route.is
    (_, c.in_ok-path_of_route-in-Route.ensures.found, refl)
    c.route.ensures.route

pub returns-in_ok-parse_matchers-in-Braces-clause-meant :
    goal.returns-in_ok-parse_matchers-in-Braces-clause-meant
returns-in_ok-parse_matchers-in-Braces-clause-meant c =
    let h = c.in_ok-parse_matchers-in-Braces.ensures in
    meant_by (config_view c.args.config.now) c.in-Braces.is
    (_, h.spelled, h.at_most, h.valid_patterns, refl)
    (seen_by (Question-F.Braces _) (variants.rolls-Braces c.in_ok-parse_matchers-in-Braces.field-0))
