use Rattle.std.proofs.Common.{◌≡◌, List, ℕ, [], Bor, get_or, map, string_bytes, ap, ◌∙◌, arith}
use Rattle.std.proofs.lemmas.Result.{err_from_is_err_and}
use Rattle.std.proofs.lemmas.Grind.{common_steps}
use Rattle.am_complete.specs.Missing.{whole_texts}
use Rattle.am_complete.proofs.RoomBeside.{name_at, names_more, whole_more, too_large_at}
use Rattle.am_complete.proofs.made_universe.universe_of.Goals as goal
use Rattle.am_complete.proofs.made_universe.universe_of.Goals.{After-as_slice}

-- the name at the position, and its texts
abbrev name_of : After-as_slice → List ℕ
name_of c = (get_or c.args.named.now c.loop-name.name-index (record { ref_ptr = (0, 0); now = [] })).now

texts_are : (c : After-as_slice) → map string_bytes c.as_slice.result.now
    ≡ whole_texts c.args.space.now c.args.missing.now (name_of c)
texts_are c = ap (map string_bytes) c.as_slice.ensures.value ∙ c.in_ok-texts.ensures

pub returns-in_err-declare-clause-limit : goal.returns-in_err-declare-clause-limit
returns-in_err-declare-clause-limit c =
    let now : Bor (List ℕ) → List ℕ = λ n. n.now in
    let i = c.loop-name.name-index in
    let here = (goal.at.returns-in_err-declare-clause-limit c).After-as_slice in
    let fault = err_from_is_err_and c.from_residual-in_err-declare.result
    c.from_residual-in_err-declare.ensures.1 in
    rw (fault.1, fault.2) (λ limit.
    too_large_at c.args.space.now c.args.missing.now c.loop-name.universe
    (map now c.args.named.now) i (name_of here) c.as_slice.result.now
    (name_at c.args.named.now i _ c.loop-name-test.true) (texts_are here)
    c.loop-name.invariant.names c.requires.distinct c.requires.labels
    (c.in_err-declare.ensures.limit limit))

pub loop-name-preserved : goal.loop-name-preserved
loop-name-preserved c = grind (arith, common_steps, name_at, names_more, texts_are, whole_more)
