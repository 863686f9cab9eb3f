-- One more silence, or the first that is refused.
use Rattle.std.proofs.Common.{sym, ◌∙◌, option_map, subst}
use Rattle.am_labels.specs.Space.{Space}
use Rattle.am_complete.proofs.Pushed.{one_more_passes}
use Rattle.am_idle.specs.Silences.{IsSilenceFinding, IsAccepted, IsSilenceRefused}
use Rattle.am_idle.specs.KnownExtents.{AreKnown}
use Rattle.am_idle.proofs.SilenceSteps.{zip_more, same_space}
use Rattle.am_idle.proofs.silences.find_silences.Goals as goal

pub returns-in-Err-clause-refused : goal.returns-in-Err-clause-refused
returns-in-Err-clause-refused c = λ remembered.
    let silence = c.get-silence.result.now in
    record {
      silence = silence;
      there = rw c.silences-in-loop-i.ensures.silences at c.get-silence.ensures.silence;
      before = c.loop-i.invariant.accepted;
      refused = subst (λ (t : Space).
          IsSilenceRefused c.args.alphabet t c.args.world.now silence c.in-Err.kind)
          (same_space c.loop-i.space c.args.space.now c.loop-i.invariant.labels c.requires
          c.loop-i.invariant.impossible)
          (c.in-Err.ensures.refused remembered);
    }

pub find_silence-finding-requires-clause-known : goal.find_silence-finding-requires-clause-known
find_silence-finding-requires-clause-known c =
    let kept = c.loop-i.invariant in
    subst (λ (t : Space). AreKnown c.args.alphabet t c.loop-i.known)
    (sym (same_space c.loop-i.space c.args.space.now kept.labels c.requires kept.impossible))
    kept.known

pub loop-i-preserved : goal.loop-i-preserved
loop-i-preserved c =
    let w = c.args.world.now in
    let s = c.args.space.now in
    let a = c.args.alphabet in
    let alerts = option_map (λ a. a.now) c.args.alerts in
    let i = c.loop-i.i in
    let silence = c.get-silence.result.now in
    let finding = c.in-Ok.finding in
    let kept = c.loop-i.invariant in
    let at = rw c.silences-in-loop-i.ensures.silences at c.get-silence.ensures.silence in
    let same = same_space c.loop-i.space s kept.labels c.requires kept.impossible in
    let is : IsSilenceFinding a s w alerts silence finding =
    subst (λ (t : Space). IsSilenceFinding a t w alerts silence finding) same
    c.in-Ok.ensures.found in
    let accepted : IsAccepted a s w silence =
    subst (λ (t : Space). IsAccepted a t w silence) same c.in-Ok.ensures.accepted in
    record {
      found = zip_more (IsSilenceFinding a s w alerts) w.silences i silence finding
          c.loop-i.found.items _ at c.in_ok-push_finding-in-Ok.ensures.added kept.found is;
      accepted = one_more_passes (IsAccepted a s w) w.silences i silence at kept.accepted accepted;
      known = subst (λ (t : Space). AreKnown a t c.find_silence-finding.new.known) same c.in-Ok.ensures.known;
      labels = c.find_silence-finding.ensures.labels;
      impossible = c.find_silence-finding.ensures.impossible ∙ kept.impossible;
    }
