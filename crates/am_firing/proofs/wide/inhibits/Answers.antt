-- The tests of a rule, by what is kept of the two alerts.
use Rattle.std.proofs.Common.{◌≡◌, List, ℕ, Bor, sym, ◌∙◌, arith}
use Rattle.std.proofs.lemmas.Bool.{cases_Bool}
use Rattle.std.proofs.lemmas.Grind.{common_steps}
use Rattle.am_universe.specs.LabelSet.{LabelMap, value_of}
use Rattle.am_universe.specs.Text.{same_text}
use Rattle.am_labels.specs.Matcher.{all_hold}
use Rattle.am_eval.specs.Inhibition.{have_equal}
use Rattle.am_firing.specs.Deciding.{texts_of, values_of}
use Rattle.am_firing.proofs.Inhibiting.{read_at, read_view, equal_by_name, compared_now}
use Rattle.am_firing.proofs.wide.inhibits.Goals as goal
use lib.Pointwise.{pointwise}

pub returns-then-not-are_two_sided : goal.returns-then-not-are_two_sided
returns-then-not-are_two_sided c = λ rule alerts alert inhibited known at there.
    let d = c.args.deciding.now in
    let source = λ (a : LabelMap). all_hold a rule.source in
    let target = λ (a : LabelMap). all_hold a rule.target in
    let sa : c.index-is_source.result.now ≡ source alert =
    read_at source alerts d.source.items c.args.firing alert _ known.source at c.index-is_source.ensures in
    let ts : c.index-is_target.result.now ≡ target inhibited =
    read_at target alerts d.target.items c.args.other inhibited _ known.target there c.index-is_target.ensures in
    let ta : c.index.result.now ≡ target alert =
    read_at target alerts d.target.items c.args.firing alert _ known.target at c.index.ensures in
    let ss : c.index-2.result.now ≡ source inhibited =
    read_at source alerts d.source.items c.args.other inhibited _ known.source there c.index-2.ensures in
    let mine : texts_of c.index-then-not-are_two_sided.result.now ≡ values_of rule.equal alert =
    read_view texts_of (values_of rule.equal) alerts d.values.items c.args.firing alert _ known.values at
    c.index-then-not-are_two_sided.ensures in
    let other : texts_of c.index-then-not-are_two_sided-2.result.now ≡ values_of rule.equal inhibited =
    read_view texts_of (values_of rule.equal) alerts d.values.items c.args.other inhibited _ known.values there
    c.index-then-not-are_two_sided-2.ensures in
    let equal : c.eq.result ≡ have_equal rule.equal alert inhibited =
    c.eq.ensures
    ∙ compared_now (λ (t : Bor (List ℕ)). t.now) same_text c.index-then-not-are_two_sided.result.now.items
    c.index-then-not-are_two_sided-2.result.now.items
    ∙ (λ i. pointwise same_text (mine i) (other i))
    ∙ sym (equal_by_name (value_of alert) (value_of inhibited) rule.equal) in
    grind (arith, common_steps, cases_Bool)

pub returns-else-not-are_two_sided : goal.returns-else-not-are_two_sided
returns-else-not-are_two_sided c = λ rule alerts alert inhibited known at there.
    let d = c.args.deciding.now in
    let source = λ (a : LabelMap). all_hold a rule.source in
    let target = λ (a : LabelMap). all_hold a rule.target in
    let sa : c.index-is_source.result.now ≡ source alert =
    read_at source alerts d.source.items c.args.firing alert _ known.source at c.index-is_source.ensures in
    let ts : c.index-is_target.result.now ≡ target inhibited =
    read_at target alerts d.target.items c.args.other inhibited _ known.target there c.index-is_target.ensures in
    let ta : c.index.result.now ≡ target alert =
    read_at target alerts d.target.items c.args.firing alert _ known.target at c.index.ensures in
    let ss : c.index-2.result.now ≡ source inhibited =
    read_at source alerts d.source.items c.args.other inhibited _ known.source there c.index-2.ensures in
    grind (arith, common_steps, cases_Bool)
