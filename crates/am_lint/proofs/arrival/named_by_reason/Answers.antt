-- The literals behind the first ones.
use Rattle.std.proofs.Common.{ap, ◌∙◌, arith}
use Rattle.am_labels.specs.Space.{IsChoiceOf}
use Rattle.am_first_sets.specs.PossibleChoices.{IsPossible}
use Rattle.am_first_sets.proofs.ReasonLemmas.{reason_alike}
use Rattle.am_lint.specs.Literals.{named_paths}
use Rattle.am_lint.specs.Table.{table_space}
use Rattle.am_lint.proofs.NamedReasons.{left}
use Rattle.am_lint.proofs.arrival.named_by_reason.Goals as goal

pub leave_out-requires-clause-first : goal.leave_out-requires-clause-first
leave_out-requires-clause-first c = λ i k at lt.
    c.requires.named i k at (omega (arith, lt, c.requires.within))

pub leave_out-requires-clause-enough : goal.leave_out-requires-clause-enough
leave_out-requires-clause-enough c = λ d possible.
    c.requires.none d ((c.choices.ensures d).0 possible)

pub returns : goal.returns
returns c =
    let routes = c.args.table.now.routes.items in
    let old = c.args.literals.now in
    let ks = c.leave_out.new.candidates in
    let n = c.args.fixed in
    record {
      blamed = (
        ks,
        c.leave_out.ensures.same,
        reason_alike (IsPossible c.choices.result.now)
            (IsChoiceOf (table_space c.args.table.now)) n ks c.choices.ensures
            c.in_ok-leave_out.ensures.reason,
        c.in_ok-named_routes.ensures ∙ ap (named_paths routes) (left n ks),
      );
    }
