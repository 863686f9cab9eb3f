-- A space that declares no label.
use Rattle.std.proofs.Common.{◌≡◌, []}
use Rattle.am_labels.specs.Space.{Space}
use Rattle.am_asked.specs.Made.{undeclared}

-- it is the same without labels
pub undeclared_is : (s : Space) → s.labels ≡ [] → s ≡ undeclared s
undeclared_is s none = λ i. record { labels = none i; impossible = s.impossible }
