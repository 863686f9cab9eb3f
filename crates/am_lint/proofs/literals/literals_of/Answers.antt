use Rattle.std.proofs.Common.{List, subst, arith}
use Rattle.am_first_sets.specs.declared.candidate.Candidate.{Candidate}
use Rattle.am_lint.specs.declared.literals.Part.TheVariants.{Way}
use Rattle.am_lint.specs.Literals.{AddsPart}
use Rattle.am_lint.proofs.literals.literals_of.Goals as goal

pub returns : goal.returns
returns c =
    let routes = c.args.table.now.routes.items in
    let way = c.add_part.new.literals.items in
    record {
      on_way = way;
      to_enter = c.add_part-2.new.literals.items;
      way = subst (λ (ks : List Candidate). AddsPart routes Way c.args.path.now routes ks way)
          c.new-all.ensures.items c.in_ok-add_part.ensures;
      before = c.in_ok-add_part-2.ensures;
      children = c.in_ok-add_part-3.ensures;
      many_on_way = omega (arith, c.len-on_way.ensures);
      many_to_enter = omega (arith, c.len-to_enter.ensures);
    }
