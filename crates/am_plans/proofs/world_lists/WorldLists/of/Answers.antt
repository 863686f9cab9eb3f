use Rattle.std.proofs.Common.{◌∙◌}
use Rattle.std.specs.Prelude.{IsTrue}
use Rattle.am_eval.specs.QuestionView.{question_view}
use Rattle.am_plans.specs.declared.world_lists.Need.{Need}
use Rattle.am_plans.specs.declared.world_lists.Need.TheVariants.{Routes, Silences, Pairs}
use Rattle.am_plans.specs.WorldByLists.{needs_of, IsServed, world_seen}
use Rattle.am_plans.proofs.world_lists.WorldLists.of.Goals as goal

each_need : (P : Need → Type 0) → P Routes → P Silences → P Pairs → (need : Need) → P need
each_need P routes silences pairs Routes = routes
each_need P routes silences pairs Silences = silences
each_need P routes silences pairs Pairs = pairs

pub returns : goal.returns
returns c = record {
  serves = λ prefix knows.
      let q = question_view c.args.question.now in
      let seen = world_seen prefix (record {
        routes = c.in_ok-routes_if.field-0;
        silences = c.in_ok-silences_if.field-0;
        pairs = c.in_ok-pairs_if.field-0;
      }) in
      each_need (λ need. IsTrue (needs_of need q)
      → IsServed c.args.universe.now c.args.world.now prefix seen need)
      (λ asks. c.in_ok-routes_if.ensures.routes (c.needs.ensures ∙ asks) c.args.world.now prefix c.requires knows)
      (λ asks. c.in_ok-silences_if.ensures.silences (c.needs-2.ensures ∙ asks) prefix knows)
      (λ asks. c.in_ok-pairs_if.ensures.pairs (c.needs-3.ensures ∙ asks) prefix knows);
}
