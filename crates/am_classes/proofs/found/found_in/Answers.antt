use Rattle.std.proofs.Common.{Some, refl, sym, ap, ◌∙◌}
use Rattle.std.proofs.lemmas.Option.{slice_get-get_or}
use Rattle.am_classes.proofs.found.found_in.Goals as goal

pub returns-then-is_same : goal.returns-then-is_same
returns-then-is_same c =
    let place = c.in-Some.place.now in
    let candidate = c.in-Some-get.candidate.now in
    let there = c.in-Some-get.ensures.lookup in (
      place,
      candidate,
      slice_get-get_or c.args.candidates.now place candidate there.3.0 ∙ ap Some (sym there.1),
      sym c.as_str.ensures.value ∙ c.if-is_same.ensures refl,
      c.as_slice.ensures.value,
    )
