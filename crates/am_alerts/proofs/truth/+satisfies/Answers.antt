-- The outcome of an alert tells whether a part of a question is true of it.
use Rattle.std.proofs.Common.{not, length, ap, sym, ◌∙◌}
use Rattle.std.specs.Prelude.{◌==◌}
use Rattle.std.specs.List.{list_any}
use Rattle.am_eval.specs.declared.reach.Reach.TheVariants.{Ends, Enters}
use Rattle.am_eval.specs.declared.question.Question.TheOpen.{Question-F}
use Rattle.am_eval.specs.declared.question.Question.TheVariants as variants
use Rattle.am_eval.specs.Question.{reaches, satisfies}
use Rattle.am_eval.specs.Silencing.{is_silenced, silencers}
use Rattle.am_eval.specs.Inhibition.{is_inhibited, inhibitors}
use Rattle.am_eval.proofs.QuestionSeen.{seen_by}
use Rattle.am_eval.proofs.SilenceLaws as silencing
use Rattle.am_eval.proofs.InhibitionLaws as inhibition
use Rattle.am_alerts.proofs.Truths.{has_some}
use Rattle.am_alerts.proofs.truth.+satisfies.Goals as goal

pub returns-in-Silenced : goal.returns-in-Silenced
returns-in-Silenced t c =
    let w = c.args.world.now in
    let s = c.args.set.now in
    ap not (c.is_empty.ensures ∙ ap (λ xs. length xs == 0) c.requires.silencers)
    ∙ has_some (is_silenced w s) (silencers w s) (silencing.some w s)
    ∙ sym (ap (λ q. satisfies w q s)
    (seen_by Question-F.Silenced (variants.rolls-Silenced ∙ sym c.in-Silenced.is)))

pub returns-in-Inhibited : goal.returns-in-Inhibited
returns-in-Inhibited t c =
    let w = c.args.world.now in
    let s = c.args.set.now in
    ap not (c.is_empty-in-Inhibited.ensures ∙ ap (λ xs. length xs == 0) c.requires.inhibitors)
    ∙ has_some (is_inhibited w s) (inhibitors w s) (inhibition.some w s)
    ∙ sym (ap (λ q. satisfies w q s)
    (seen_by Question-F.Inhibited (variants.rolls-Inhibited ∙ sym c.in-Inhibited.is)))

pub returns-in-Receiver : goal.returns-in-Receiver
returns-in-Receiver t c =
    let w = c.args.world.now in
    let s = c.args.set.now in
    c.has_receiver.ensures
    ∙ ap (list_any (λ other. other == c.in-Receiver.receiver))
    c.requires.receivers
    ∙ sym (ap (λ q. satisfies w q s)
    (seen_by (Question-F.Receiver _) (variants.rolls-Receiver _ ∙ sym c.in-Receiver.is)))

pub returns-in-Ends : goal.returns-in-Ends
returns-in-Ends t c =
    let w = c.args.world.now in
    let s = c.args.set.now in
    let path = c.in-Ends.path in
    c.reaches.ensures
    ∙ ap (list_any (reaches Ends path)) c.requires.ends
    ∙ sym (ap (λ q. satisfies w q s)
    (seen_by (Question-F.Ends path) (variants.rolls-Ends path ∙ sym c.in-Ends.is)))

pub returns-in-Enters : goal.returns-in-Enters
returns-in-Enters t c =
    let w = c.args.world.now in
    let s = c.args.set.now in
    let path = c.in-Enters.path in
    c.reaches-in-Enters.ensures
    ∙ ap (list_any (reaches Enters path)) c.requires.ends
    ∙ sym (ap (λ q. satisfies w q s)
    (seen_by (Question-F.Enters path) (variants.rolls-Enters path ∙ sym c.in-Enters.is)))
