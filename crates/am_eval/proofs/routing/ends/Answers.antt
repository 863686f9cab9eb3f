use Rattle.std.proofs.Common.{◌≡◌, map, refl, ◌∙◌}
use Rattle.std.proofs.lemmas.List.{map-id}
use Rattle.am_config.specs.ConfigView.{config_view}
use Rattle.am_eval.specs.Routing.{ends}
use Rattle.am_eval.proofs.routing.ends.Goals as goal

pub returns : goal.returns
returns c =
    let all = ends c.args.set.now (config_view c.args.config.now) in
    let added : c.add_ends.new.found.items ≡ map (λ below. below) all =
    rw (
      c.in_ok-add_ends.ensures.added,
      c.new-found.ensures.items,
      c.root-2.ensures.steps,
      c.root.ensures.root,
    ) refl in
    record { ends = added ∙ map-id all }
