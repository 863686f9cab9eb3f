use Rattle.std.proofs.Common.{◌≡◌, ◌+◌, ◌∷◌, Some, slice_get, length, sym, ap, subst, ◌∙◌, arith}
use Rattle.am_classes.specs.Automata.{MakeSame}
use Rattle.am_classes.specs.State.{FollowsLabel}
use Rattle.am_scan.proofs.Places.{grows_pushed}
use Rattle.am_classes.proofs.ExplorationLemmas.{each_more, has_pushed, leads_again, leads_spent, led_at, led_kept, led_more}
use Rattle.am_classes.proofs.exploration.step_on.Goals as goal

pub returns-then-lead_alike-clause-leads : goal.returns-then-lead_alike-clause-leads
returns-then-lead_alike-clause-leads c =
    let before = c.in-Some.before in
    let class = c.from-class.result in
    let led = c.requires.led class before (led_at c.args.led.now class before c.in-Some.is) in
    let made : MakeSame c.args.questions.now.automata.items class c.args.byte =
    subst (λ k. MakeSame c.args.questions.now.automata.items k c.args.byte) (sym c.from-class.ensures) c.class_of.ensures in
    leads_again c.args.questions.now c.args.nexts.now.items c.args.item.now before c.args.byte
    (c.lead_alike.ensures.tails c.if-lead_alike.true)
    (c.lead_alike.ensures.follows c.if-lead_alike.true (λ text. sym (led.0 text) ∙ made text)) led.1

pub returns-then-has_spent-clause-leads : goal.returns-then-has_spent-clause-leads
returns-then-has_spent-clause-leads c =
    let found = c.has_spent.ensures c.if-has_spent.true in
    leads_spent c.args.questions.now c.args.nexts.now.items c.args.item.now c.args.byte c.in-Some-2.state found.0 found.1
    (subst (λ xs. slice_get xs found.0 ≡ Some found.1) c.as_slice.ensures.value found.2) found.3 c.requires.same
    (rw c.in-Some-2.is at c.in_ok-state.ensures.some)

pub returns-then-has_spent-clause-led : goal.returns-then-has_spent-clause-led
returns-then-has_spent-clause-led c =
    let q = c.args.questions.now in
    led_more q c.args.nexts.now.items c.args.item.now c.args.led.now c.from-class.result c.args.byte c.requires.led
    (subst (λ k. MakeSame q.automata.items k c.args.byte) (sym c.from-class.ensures) c.class_of.ensures)
    (returns-then-has_spent-clause-leads c)

pub returns-in_err-push-clause-led : goal.returns-in_err-push-clause-led
returns-in_err-push-clause-led c =
    led_kept c.args.questions.now c.args.nexts.now.items c.push.new.self.items c.args.item.now c.args.led.now
    (λ k x at. rw c.in_err-push.ensures.items at) c.requires.led

pub returns-clause-own : goal.returns-clause-own
returns-clause-own c =
    each_more (λ x. FollowsLabel c.args.questions.now x.state x.text.items) c.args.nexts.now.items c.push.new.self.items c.in_ok-next.next
    c.in_ok-push.ensures.items c.requires.own (subst (λ s. FollowsLabel c.args.questions.now s c.in_ok-next.next.text.items) (sym c.in_ok-next.ensures.state)
    (subst (FollowsLabel c.args.questions.now c.in-Some-2.state) (sym c.in_ok-next.ensures.text) ((rw c.in-Some-2.is at c.in_ok-state.ensures.some) c.args.item.now.text.items c.requires.follows)))

pub returns-clause-same : goal.returns-clause-same
returns-clause-same c =
    each_more (λ x. length x.text.items ≡ length c.args.item.now.text.items + 1) c.args.nexts.now.items c.push.new.self.items c.in_ok-next.next
    c.in_ok-push.ensures.items c.requires.same (omega (arith, ap length c.in_ok-next.ensures.text))

pub returns-clause-grows : goal.returns-clause-grows
returns-clause-grows c =
    grows_pushed c.args.nexts.now.items c.push.new.self.items c.in_ok-next.next c.in_ok-push.ensures.items

pub returns-clause-leads : goal.returns-clause-leads
returns-clause-leads c = λ text tail follows has.
    has_pushed c.args.questions.now c.args.nexts.now.items c.push.new.self.items c.in_ok-next.next
    (length c.args.item.now.text.items + 1) (c.args.byte ∷ text) c.in_ok-push.ensures.items
    (subst (λ s. FollowsLabel c.args.questions.now s (c.args.byte ∷ text)) (sym c.in_ok-next.ensures.state)
    ((rw c.in-Some-2.is at c.in_ok-state.ensures.some) text follows)) (omega (arith, ap length c.in_ok-next.ensures.text))

pub returns-clause-led : goal.returns-clause-led
returns-clause-led c =
    let q = c.args.questions.now in
    let item = c.args.item.now in
    let nexts = c.push.new.self.items in
    let grows = grows_pushed c.args.nexts.now.items nexts c.in_ok-next.next c.in_ok-push.ensures.items in
    led_more q nexts item c.args.led.now c.from-class.result c.args.byte
    (led_kept q c.args.nexts.now.items nexts item c.args.led.now grows c.requires.led)
    (subst (λ k. MakeSame q.automata.items k c.args.byte) (sym c.from-class.ensures) c.class_of.ensures)
    (returns-clause-leads c)
