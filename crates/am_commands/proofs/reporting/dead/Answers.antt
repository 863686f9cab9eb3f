-- What is written is a report on what the files say.
use Rattle.std.proofs.Common.{◌∙◌, arith}
use Rattle.std.proofs.lemmas.Grind.{common_steps}
use Rattle.am_config.specs.ConfigView.{config_view}
use Rattle.am_coverage.proofs.ReportFacts.{routes_reported}
use Rattle.am_files.proofs.Promises.{refused, written, nothing_told}
use Rattle.am_commands.specs.Reports.{dead_promise}
use Rattle.am_commands.proofs.reporting.dead.Goals as goal

pub write_routes-written-requires : goal.write_routes-written-requires
write_routes-written-requires g c =
    record { shown = rw (c.as_slice.ensures.value, c.universe.ensures.labels) c.in-Ok.ensures.shown }

pub returns-in_err-read : goal.returns-in_err-read
returns-in_err-read g c = grind (arith, common_steps, refused)

pub returns : goal.returns
returns g c =
    let read = c.in_ok-read.read in
    record {
      kept = written (dead_promise c.args.universe.now c.args.config.now) tt _ c.write_routes-written.result
          c.answer_of_write.result
          (record {
            space = read.space;
            configuration = config_view read.config;
            accepts = c.in_ok-read.ensures.accepts;
            reports = routes_reported read.space (config_view read.config) _
                (c.as_slice.ensures.value ∙ c.in-Ok.ensures.routes);
          })
          (nothing_told c.write_routes-written.result) (rw (← c.universe.ensures.labels) c.write_routes-written.ensures.written)
          c.answer_of_write.ensures.answer;
    }
