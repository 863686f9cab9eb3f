use Rattle.std.proofs.Common.{◌≡◌, length, Some, None, false, sym, ap, ◌∙◌, refl, arith, slice_set}
use Rattle.std.specs.List.{list_any}
use Rattle.std.proofs.lemmas.Option.{slice_get_read}
use Rattle.std.proofs.lemmas.Result.{on_ok_weaker}
use Rattle.am_universe.specs.Text.{same_text}
use Rattle.am_complete.specs.Gathering.{position_in}
use Rattle.am_complete.specs.AskedLabel.{with_asked}
use Rattle.am_complete.proofs.GatheringLemmas.{within, absent_label, asked_again, name_kept}
use Rattle.am_complete.proofs.GatheringLemmas.{indexed_again}
use Rattle.am_complete.proofs.gathering.Gathering.add.Goals as goal

pub index_mut-requires : goal.index_mut-requires
index_mut-requires c =
    let positions = c.self.inside.positions in
    let at : position_in positions c.name.result.now ≡ Some c.in-Some.position =
    sym c.get.ensures.value ∙ sym c.copied.ensures ∙ c.in-Some.is in
    let lt = within positions c.self.inside.labels.items c.name.result.now
    c.in-Some.position c.self.invariant at in
    omega (arith, lt, c.self.inside.labels.ok.0)

pub invariant_of-self : goal.invariant_of-self
invariant_of-self c =
    let positions = c.self.inside.positions in
    let items = c.self.inside.labels.items in
    let i = c.in-Some.position in
    let label = c.index_mut.result.now in
    let at : position_in positions c.name.result.now ≡ Some i =
    sym c.get.ensures.value ∙ sym c.copied.ensures ∙ c.in-Some.is in
    let lt = within positions items c.name.result.now i c.self.invariant at in
    let there = slice_get_read items (length items) i label refl lt c.index_mut.ensures.value in
    indexed_again positions items i label c.add.new.self c.self.invariant there
    (name_kept c.args.matcher.now label c.add.new.self c.add.result c.add.ensures.ok
    c.add.ensures.err)

pub add_label-requires : goal.add_label-requires
add_label-requires c =
    let none : position_in c.self.inside.positions c.name.result.now ≡ None =
    sym c.get.ensures.value ∙ sym c.copied.ensures ∙ c.in-None.is in
    rw (c.name.ensures.name, c.self.view_is) at
    (absent_label c.self.inside.positions c.self.inside.labels.items c.name.result.now
    c.self.invariant none)

pub returns-in-Some-clause-ok : goal.returns-in-Some-clause-ok
returns-in-Some-clause-ok c =
    let positions = c.self.inside.positions in
    let items = c.self.inside.labels.items in
    let m = c.args.matcher.now in
    let i = c.in-Some.position in
    let label = c.index_mut.result.now in
    let at : position_in positions c.name.result.now ≡ Some i =
    sym c.get.ensures.value ∙ sym c.copied.ensures ∙ c.in-Some.is in
    let lt = within positions items c.name.result.now i c.self.invariant at in
    let there = slice_get_read items (length items) i label refl lt c.index_mut.ensures.value in
    let found : position_in positions m.name ≡ Some i =
    ap (position_in positions) (sym c.name.ensures.name) ∙ at in
    on_ok_weaker c.add.result (λ e.
    ap (slice_set items i) e
    ∙ asked_again positions items c.args.origin.now m i label c.self.invariant found there
    ∙ ap (λ labels. with_asked labels (c.args.origin.now, m)) c.self.view_is)
    c.add.ensures.ok

pub returns-in-None-clause-ok : goal.returns-in-None-clause-ok
returns-in-None-clause-ok c =
    let m = c.args.matcher.now in
    let absent : position_in c.self.inside.positions c.name.result.now ≡ None =
    sym c.get.ensures.value ∙ sym c.copied.ensures ∙ c.in-None.is in
    let none : list_any (λ l. same_text l.name m.name) c.args.self.now ≡ false =
    rw (c.name.ensures.name, c.self.view_is) at
    (absent_label c.self.inside.positions c.self.inside.labels.items c.name.result.now
    c.self.invariant absent) in
    on_ok_weaker c.add_label.result (λ e. e ∙ rw none refl) c.add_label.ensures.ok
