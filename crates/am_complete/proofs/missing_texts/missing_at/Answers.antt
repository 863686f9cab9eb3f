use Rattle.std.proofs.Common.{[]}
use Rattle.std.specs.Option.{option_map_or}
use Rattle.std.proofs.lemmas.Result.{IfOk-weaker}
use Rattle.am_complete.proofs.missing_texts.missing_at.Goals as goal

pub returns-in_default-clause-missing : goal.returns-in_default-clause-missing
returns-in_default-clause-missing c =
    let none = rw c.in_default.is at c.in_ok-known.ensures.none in
    IfOk-weaker c.missing_of.result _ _
    (λ m h. (h (option_map_or (λ x. x.now) c.args.alerts []) c.in_ok-found.ensures.found (λ _. none)).0)
    c.missing_of.ensures

pub returns-in_default-clause-representatives : goal.returns-in_default-clause-representatives
returns-in_default-clause-representatives c =
    let none = rw c.in_default.is at c.in_ok-known.ensures.none in
    IfOk-weaker c.missing_of.result _ _
    (λ m h. (h (option_map_or (λ x. x.now) c.args.alerts []) c.in_ok-found.ensures.found (λ _. none)).1)
    c.missing_of.ensures

pub returns-clause-missing : goal.returns-clause-missing
returns-clause-missing c =
    let known = rw c.in-Some.is at c.in_ok-known.ensures.some in
    IfOk-weaker c.missing_of-2.result _ _
    (λ m h. (h (option_map_or (λ x. x.now) c.args.alerts []) known.0 known.1).0) c.missing_of-2.ensures

pub returns-clause-representatives : goal.returns-clause-representatives
returns-clause-representatives c =
    let known = rw c.in-Some.is at c.in_ok-known.ensures.some in
    IfOk-weaker c.missing_of-2.result _ _
    (λ m h. (h (option_map_or (λ x. x.now) c.args.alerts []) known.0 known.1).1) c.missing_of-2.ensures
