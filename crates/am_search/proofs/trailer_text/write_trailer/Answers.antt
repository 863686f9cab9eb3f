use Rattle.std.proofs.Common.{ap, sym}
use Rattle.am_universe.proofs.Writing.{◌⟩◌, writes_as}
use Rattle.am_search.specs.TrailerText.{trailer_text}
use Rattle.am_search.proofs.trailer_text.write_trailer.Goals as goal

pub returns-in_ok-write_token-in-Stopped : goal.returns-in_ok-write_token-in-Stopped
returns-in_ok-write_token-in-Stopped g c = record {
  written =
      writes_as (ap (trailer_text c.args.fingerprint.now) (sym c.in-Stopped.is))
      (c.in_ok-put_all-in-Stopped.ensures.written.ok ⟩ c.in_ok-write_token-in-Stopped.ensures.written.ok ⟩ c.put_all-in-Stopped-2.ensures.written);
}
