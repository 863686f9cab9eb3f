use Rattle.std.proofs.Common.{◌≡◌, map, take}
use Rattle.std.specs.List.{filter}
use Rattle.am_differences.specs.Differences.{differ, presence_of}
use Rattle.am_differences.specs.PartsView.{difference_view, parts_view}
use Rattle.am_differences.proofs.differences.differences.Given as goal

abbrev pub invariant-loop-name : goal.invariant-loop-name
invariant-loop-name l =
    let olds = parts_view l.old in
    let news = parts_view l.new in
    map difference_view l.found.items
    ≡ map (λ name. (name, presence_of olds news name))
    (filter (differ olds news) (map (λ n. n.now) (take l.name-index l.name-items)))
