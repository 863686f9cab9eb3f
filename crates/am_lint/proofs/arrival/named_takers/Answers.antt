-- The literals behind the first ones, each of which some choice of the space fails first.
use Rattle.std.proofs.Common.{ap, ◌∙◌, arith}
use Rattle.am_labels.specs.Space.{IsChoiceOf}
use Rattle.am_first_sets.specs.PossibleChoices.{IsPossible}
use Rattle.am_first_sets.proofs.ReasonLemmas.{reason_alike}
use Rattle.am_lint.specs.Literals.{named_paths}
use Rattle.am_lint.specs.Table.{table_space}
use Rattle.am_lint.proofs.NamedReasons.{left}
use Rattle.am_lint.proofs.arrival.named_takers.Goals as goal

pub leave_out_idle-requires-clause-first : goal.leave_out_idle-requires-clause-first
leave_out_idle-requires-clause-first c = λ i k at lt.
    c.requires.named i k at (omega (arith, lt, c.requires.within))

pub leave_out_idle-requires-clause-enough : goal.leave_out_idle-requires-clause-enough
leave_out_idle-requires-clause-enough c = λ d possible.
    c.requires.none d ((c.choices.ensures d).0 possible)

pub returns : goal.returns
returns c =
    let routes = c.args.table.now.routes.items in
    let old = c.args.literals.now in
    let ks = c.leave_out_idle.new.candidates in
    let n = c.args.fixed in
    record {
      takers = (
        (
          ks,
          c.in_ok-leave_out_idle.ensures.same,
          reason_alike (IsPossible c.choices.result.now)
              (IsChoiceOf (table_space c.args.table.now)) n ks c.choices.ensures
              c.in_ok-leave_out_idle.ensures.reason,
          c.in_ok-named_routes.ensures ∙ ap (named_paths routes) (left n ks),
        ),
        λ i k at behind named.
            let f = c.in_ok-leave_out_idle.ensures.each i k at behind named in
            (f.0, (c.choices.ensures f.0).0 f.1, f.2, f.3),
      );
    }
