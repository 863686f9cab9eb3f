use Rattle.am_first_sets.specs.Budget.{looks_of}
use Rattle.am_reports.proofs.cut_off.cut_off.Goals as goal

pub returns : goal.returns
returns c = record {
  refusal = λ remembered.
      let told = c.fault_at.ensures.refusal remembered in
      record {
        looks = looks_of c.args._evidence.now;
        all = c.args._evidence.now.all;
        place_is = told.0;
        refusal = told.1;
      };
}
