use Rattle.std.proofs.Common.{◌≡◌, ℕ, Bool, false, ◌<◌, ◌&&◌, [], length, get_or, set, ap, sym, subst, ◌∙◌}
use Rattle.std.proofs.lemmas.List.{get_or_read}
use Rattle.am_judged_lists.specs.Cube.{permits_position}
use Rattle.am_judged_lists.specs.Boxes.{is_in_part, HasChoice, IsOpen, count_positions}
use Rattle.am_judged_lists.proofs.BoxLemmas.{Keeps, choice_left, fewer_positions, open_out, not_open, kept_part}
use Rattle.am_judged_lists.proofs.position_box.PositionBox.keep.Goals as goal

-- the label is one of the box
in_box : (c : goal.After-self-1) → c.args.label < length c.self.inside.masks.items
in_box c = subst (λ b. c.args.label < length b) (sym c.self.view_is) c.requires.within

-- it is open
is_open : (c : goal.After-self-1) → IsOpen c.self.inside.masks.items c.args.cube.now c.args.label
is_open c = subst (λ b. IsOpen b c.args.cube.now c.args.label) (sym c.self.view_is) c.requires

-- its mask
read : (c : goal.After-self-1) → c.index_mut.result.now ≡ get_or c.self.inside.masks.items c.args.label []
read c = get_or_read c.self.inside.masks.items _ _ (in_box c) c.index_mut.ensures.value []

-- what is kept of it
kept : (c : goal.After-self-1)
    → Keeps (get_or c.self.inside.masks.items c.args.label []) c.keep.new.self
    (λ p. is_in_part c.args.part (permits_position c.args.cube.now c.args.label p))
kept c =
    let other = c.in-Some.mask.now in
    kept_part c.args.cube.now c.args.label c.args.part (get_or c.self.inside.masks.items c.args.label [])
    c.keep.new.self other c.in-Some.ensures.some
    (λ j. c.keep.ensures.kept j
    ∙ ap (λ m. get_or m j false && is_in_part c.args.part (get_or other j false)) (read c))

pub returns-in-Some-clause-some : goal.returns-in-Some-clause-some
returns-in-Some-clause-some c =
    let masks = c.self.inside.masks.items in
    let label = c.args.label in
    let new = c.keep.new.self in
    let test : ℕ → Bool = λ p. is_in_part c.args.part (permits_position c.args.cube.now label p) in
    subst (λ b. HasChoice b → HasChoice (set masks label new)) c.self.view_is
    (λ some. choice_left masks label new test (in_box c) (kept c) some ((is_open c).each c.args.part))

pub returns-in-Some-clause-fewer : goal.returns-in-Some-clause-fewer
returns-in-Some-clause-fewer c =
    let masks = c.self.inside.masks.items in
    let label = c.args.label in
    let new = c.keep.new.self in
    let test : ℕ → Bool = λ p. is_in_part c.args.part (permits_position c.args.cube.now label p) in
    subst (λ b. count_positions (set masks label new) < count_positions b) c.self.view_is
    (fewer_positions masks label new test (in_box c) (kept c) (c.keep.ensures.same ∙ ap length (read c))
    (open_out masks c.args.cube.now label c.args.part (is_open c)))

pub returns-in_default-clause-choices : goal.returns-in_default-clause-choices
returns-in_default-clause-choices c =
    absurd (not_open c.args.self.now c.args.cube.now c.args.label c.in_default.ensures.none c.requires)

pub returns-in_default-clause-fewer : goal.returns-in_default-clause-fewer
returns-in_default-clause-fewer c =
    absurd (not_open c.args.self.now c.args.cube.now c.args.label c.in_default.ensures.none c.requires)
