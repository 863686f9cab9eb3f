use Rattle.std.proofs.Common.{rules, ◌≡◌, ◌++◌, ◌∷◌, [], Some, ap, refl, sym, subst, ◌∙◌, append-nil, append_assoc}
use Rattle.std.specs.List.{flat_map}
use Rattle.std.proofs.lemmas.Grind.{flat_map-append}
use Rattle.am_universe.specs.Universe.{sizes}
use Rattle.am_universe.specs.Choice.{IsWhole}
use Rattle.am_universe.specs.WrittenLabelSet.{line}
use Rattle.am_universe.proofs.Writing.{◌⟩◌, ends, fails, wrote_then, wrote_as, wrote_nothing, writes_as}
use Rattle.am_search.specs.AnswersView.{answers_stop, state_at}
use Rattle.am_search.specs.BudgetPage.{trailer_at}
use Rattle.am_search.proofs.WalkBudgets.{same_stop}
use Rattle.am_search.proofs.PageLines.{at_the_start, cut_here, next_here, one_more, last_more, none_left, ended, lines_more}
use Rattle.am_search.proofs.page_text.write_lines.Goals as goal

pub loop-choice-init : goal.loop-choice-init
loop-choice-init g c = record {
  done = [];
  written = wrote_nothing;
  choices = refl;
  trailer = at_the_start _ _ _ c.args.limit c.requires.limit;
  judge = refl;
  table = refl;
  stop = refl;
}

pub returns-then-eq-clause-trailer : goal.returns-then-eq-clause-trailer
returns-then-eq-clause-trailer g c =
    let none : c.loop-choice.room ≡ Some 0 = search rules in
    sym (c.loop-choice.invariant.trailer ∙ next_here (trailer_at (answers_stop c.args.answers.now)) c.loop-choice.last _ _ c.in-Some.ensures.first none)

pub returns-then-eq-clause-written : goal.returns-then-eq-clause-written
returns-then-eq-clause-written g c =
    let l = c.loop-choice.invariant in
    let all = l.choices ∙ ap (λ t. l.done ++ t) (cut_here _ c.loop-choice.last _ _ c.in-Some.ensures.first (search rules)) ∙ append-nil l.done in
    ends _ (wrote_as (ap (flat_map (line c.args.table.now)) (sym all)) l.written)

pub write_line-requires : goal.write_line-requires
write_line-requires g c =
    let l = c.loop-choice.invariant in
    subst (λ ns. IsWhole ns c.in-Some.choice) (ap g.J.Judge.sizes l.judge ∙ c.requires.sizes ∙ ap sizes (sym l.table)) c.in-Some.ensures.whole

pub returns-in_err-write_line-clause-written : goal.returns-in_err-write_line-clause-written
returns-in_err-write_line-clause-written g c =
    let l = c.loop-choice.invariant in
    let f = line c.args.table.now in
    let choices = l.choices ∙ ap (λ t. l.done ++ t) (one_more _ c.loop-choice.last _ _ c.in-Some.ensures.first _ c.one_less-room.ensures) in
    writes_as (sym (ap (flat_map f) choices ∙ flat_map-append f l.done _))
    (l.written ⟩ fails _ c.from_residual.ensures (writes_as (ap (λ u. line u c.in-Some.choice) l.table) c.in_err-write_line.ensures.written))

pub loop-choice-preserved : goal.loop-choice-preserved
loop-choice-preserved g c =
    let l = c.loop-choice.invariant in
    let line_is = ap (λ u. line u c.in-Some.choice) l.table in
    record {
      done = l.done ++ c.in-Some.choice ∷ [];
      written = wrote_as (lines_more (line c.args.table.now) l.done c.in-Some.choice) (wrote_then l.written (wrote_as line_is c.in_ok-write_line.ensures.written.ok));
      choices = l.choices ∙ ap (λ t. l.done ++ t) (one_more _ c.loop-choice.last _ _ c.in-Some.ensures.first _ c.one_less-room.ensures)
          ∙ sym (append_assoc l.done (c.in-Some.choice ∷ []) _);
      trailer = l.trailer ∙ last_more _ _ _ _ c.in-Some.ensures.first _ c.one_less-room.ensures;
      judge = c.in-Some.ensures.judge ∙ l.judge;
      table = c.in_ok-write_line.ensures.same ∙ l.table;
      stop = same_stop c.next.new.self c.loop-choice.answers c.in-Some.ensures.judge c.in-Some.ensures.start c.in-Some.ensures.budget ∙ l.stop;
    }

pub returns-clause-trailer : goal.returns-clause-trailer
returns-clause-trailer g c =
    let l = c.loop-choice.invariant in
    let stop = answers_stop c.args.answers.now in
    let same : answers_stop c.next.new.self ≡ stop =
    same_stop c.next.new.self c.loop-choice.answers c.in_default.ensures.judge c.in_default.ensures.start c.in_default.ensures.budget ∙ l.stop in
    c.trailer_of.ensures stop (c.state.ensures.state ∙ c.in_default.ensures.state ∙ ap state_at same)
    ∙ sym (l.trailer ∙ ended _ _ _ c.in_default.ensures.first.0)

pub returns-clause-written : goal.returns-clause-written
returns-clause-written g c =
    let l = c.loop-choice.invariant in
    let all = l.choices ∙ ap (λ t. l.done ++ t) (none_left _ _ c.in_default.ensures.first.0) ∙ append-nil l.done in
    ends _ (wrote_as (ap (flat_map (line c.args.table.now)) (sym all)) l.written)
