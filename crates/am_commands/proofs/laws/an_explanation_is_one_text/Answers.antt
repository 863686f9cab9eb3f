use Rattle.std.proofs.Common.{◌≡◌, refl, arith}
use Rattle.std.proofs.lemmas.Fmt.{decimal_digit}
use Rattle.std.proofs.lemmas.Grind.{common_steps}
use Rattle.am_labels.proofs.MatcherTextWhole.{one_list_of_words}
use Rattle.am_files.proofs.AcceptedInputs.{one_world}
use Rattle.am_commands.proofs.laws.an_explanation_is_one_text.Goals as goal

pub returns : goal.returns
returns _ = record {
  world = one_world;
  one = λ files words explanation other said again.
      let world : said.world ≡ again.world =
      one_world files said.world again.world said.accepts again.accepts in
      let set : said.set ≡ again.set = grind (arith, common_steps, one_list_of_words) in
      grind (arith, common_steps);
  rule_first = rw (decimal_digit 1 (omega arith), decimal_digit 0 (omega arith)) refl;
}
