use Rattle.std.proofs.Common.{◌≡◌, [], take, option_map}
use Rattle.std.specs.List.{AllByRecursion, AllZip}
use Rattle.am_idle.specs.Silences.{IsSilenceFinding, IsAccepted}
use Rattle.am_idle.specs.KnownExtents.{AreKnown}
use Rattle.am_idle.proofs.silences.find_silences.Given as goal

-- what is said of the silences so far is true, and none of them was refused; what is known is true
abbrev pub invariant-loop-i : goal.invariant-loop-i
invariant-loop-i l = record {
  found : AllZip (IsSilenceFinding l.alphabet l.fn.space l.world (option_map (λ a. a.now) l.alerts))
      (take l.i l.world.silences) l.found.items;
  accepted : AllByRecursion (IsAccepted l.alphabet l.fn.space l.world)
      (take l.i l.world.silences);
  known : AreKnown l.alphabet l.fn.space l.known;
  labels : l.space.labels ≡ [];
  impossible : l.space.impossible ≡ l.fn.space.impossible;
}
