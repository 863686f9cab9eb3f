use Rattle.std.proofs.Common.{◌^◌, ◌<◌, ◌∙◌, ap, arith}
use Rattle.std.proofs.lemmas.Bool.{eq-eqb, eqb-true}
use Rattle.am_judged_lists.specs.declared.list_set.TheConstants.{ROOM}
use Rattle.am_judged_lists.proofs.SetLemmas.{is_in, no_bits}
use Rattle.am_judged_lists.proofs.WordLemmas.{none_set}
use Rattle.am_judged_lists.proofs.list_set.ListSet.is_empty.Goals as goal

pub returns : goal.returns
returns c =
    let bits = c.args.self.bits in
    let fits : bits < 2 ^ ROOM = omega arith in
    record {
      empty = (
        λ e k h. ap (λ n. is_in n k) (eqb-true bits 0 e) ∙ none_set k,
        λ none. eq-eqb bits 0 (no_bits bits fits none),
      );
    }
