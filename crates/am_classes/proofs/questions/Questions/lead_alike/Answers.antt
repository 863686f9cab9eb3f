use Rattle.std.proofs.Common.{◌≡◌, List, ℕ, Bor, false, arith}
use Rattle.std.specs.List.{list_any}
use Rattle.std.proofs.lemmas.Grind.{common_steps}
use Rattle.am_scan.specs.Sight.{is_scanned}
use Rattle.am_classes.specs.Fronts.{ends_with}
use Rattle.am_classes.specs.Utf8.{text_step}
use Rattle.am_classes.proofs.StateLemmas.{follows_again}
use Rattle.am_classes.proofs.questions.Questions.lead_alike.Goals as goal

pub returns-then-not-any_ends_with-clause-follows : goal.returns-then-not-any_ends_with-clause-follows
returns-then-not-any_ends_with-clause-follows c = λ yes alike text next follows before.
    let q = c.args.self.now in
    let state = c.args.state.now in
    let tails : text_step (is_scanned q.bytes) state.tail c.args.one ≡ text_step (is_scanned q.bytes) state.tail c.args.other = grind (arith, common_steps) in
    let none : list_any (λ (f : Bor (List ℕ)). ends_with c.args.one f.now) state.fronts.items ≡ false = grind (arith, common_steps) in
    let none_other : list_any (λ (f : Bor (List ℕ)). ends_with c.args.other f.now) state.fronts.items ≡ false = grind (arith, common_steps) in
    follows_again q state next text c.args.one c.args.other tails none none_other alike follows before
