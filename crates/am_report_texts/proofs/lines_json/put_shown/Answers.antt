use Rattle.std.proofs.Common.{rules, map}
use Rattle.std.proofs.lemmas.Simd.{map-map}
use Rattle.am_report_texts.specs.LineData.{matchers_data, route_data}
use Rattle.am_report_texts.specs.LineView.{route_view}
use Rattle.am_report_texts.proofs.lines_json.put_shown.Goals as goal

pub returns-in-Names : goal.returns-in-Names
returns-in-Names c = rw c.in-Names.is (simp map-map (search rules))

pub returns-in-Texts : goal.returns-in-Texts
returns-in-Texts c = rw c.in-Texts.is (simp map-map (search rules))

pub returns-in-Labels : goal.returns-in-Labels
returns-in-Labels c = rw c.in-Labels.is (simp map-map (search rules))

pub returns-in-Matchers : goal.returns-in-Matchers
returns-in-Matchers c = rw c.in-Matchers.is (simp map-map (search rules))

pub returns-in-Lists : goal.returns-in-Lists
returns-in-Lists c =
    let both = map-map matchers_data (λ list. map (λ m. m.now) list.items) c.in-Lists.lists.items in
    rw (c.in-Lists.is, both) (search rules)

pub returns-in-Routes : goal.returns-in-Routes
returns-in-Routes c =
    rw (c.in-Routes.is, map-map route_data route_view c.in-Routes.routes.items) (search rules)
