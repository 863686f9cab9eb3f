-- Rows of marks, one for each alert, and the positions that are marked in a column.
use Rattle.std.proofs.Common.{◌≡◌, ◌<◌, ◌==◌, ℕ, List, [], ◌∷◌, length, map, false, get_or, ap, sym, ◌∙◌}
use Rattle.std.proofs.Common.{Bool, not, vec_len, arith}
use Rattle.std.proofs.Math.Bool.{not-not}
use Rattle.std.proofs.lemmas.Simd.{map-map}
use Rattle.std.specs.Global.{Vec}
use Rattle.std.specs.List.{AllByRecursion, range_with_len}
use Rattle.std.proofs.lemmas.List.FromFn.{length-map-range_with_len, get_or-map-range_with_len}
use Rattle.am_universe.specs.LabelSet.{LabelMap}
use Rattle.am_config.specs.ConfigFile.{Configuration}
use Rattle.am_eval.specs.World.{World}
use Rattle.am_eval.specs.Silencing.{positions_where}
use Rattle.am_firing.specs.Unreached.{goes_to, gets_some}
use Rattle.am_firing.specs.Going.{marks_of, positions_of}
use Rattle.am_firing.proofs.Positions.{where_map, where_same, where_none}

-- each row has a mark for each receiver
pub rows_wide : (c : Configuration) (column : ℕ) → column < length c.receivers
    → (rows : List (Vec Bool)) (alerts : List LabelMap)
    → map (λ row. row.items) rows ≡ map (marks_of c) alerts
    → AllByRecursion (λ row. column < vec_len row) rows
rows_wide c column lt [] alerts same = tt
rows_wide c column lt (row ∷ rows) [] same = absurd (cc)
rows_wide c column lt (row ∷ rows) (alert ∷ alerts) same =
    let here : row.items ≡ marks_of c alert = cc in
    let later : map (λ r. r.items) rows ≡ map (marks_of c) alerts = cc in
    let long : length row.items ≡ length c.receivers =
    ap length here
    ∙ length-map-range_with_len (λ receiver. goes_to c receiver alert) 0 (length c.receivers) in
    (omega (arith, row.ok.0), rows_wide c column lt rows alerts later)

pub marked_rows : (w : World) (column : ℕ) → column < length w.config.receivers
    → (rows : List (Vec Bool)) → map (λ row. row.items) rows ≡ map (marks_of w.config) w.alerts
    → positions_where (λ row. get_or row.items column false) 0 rows ≡ positions_of w column
marked_rows w column lt rows same =
    sym (where_map (λ (row : Vec Bool). row.items) (λ marks. get_or marks column false) 0 rows)
    ∙ ap (positions_where (λ marks. get_or marks column false) 0) same
    ∙ where_map (marks_of w.config) (λ marks. get_or marks column false) 0 w.alerts
    ∙ where_same (λ alert. get_or (marks_of w.config alert) column false) (goes_to w.config column) 0 w.alerts
    (λ alert there.
    get_or-map-range_with_len (λ receiver. goes_to w.config receiver alert) 0
    (length w.config.receivers) column column false lt (omega arith))

-- ---- Receivers to which an alert goes.

pub some_positions : (w : World) (going : List (Vec ℕ))
    → map (λ positions. positions.items) going
    ≡ map (positions_of w) (range_with_len 0 (length w.config.receivers))
    → map (λ positions. not (length positions.items == 0)) going
    ≡ map (gets_some w) (range_with_len 0 (length w.config.receivers))
some_positions w going all =
    let has = λ (positions : List ℕ). not (length positions == 0) in
    let receivers = range_with_len 0 (length w.config.receivers) in
    let each = λ (receiver : ℕ).
    ap not (where_none (goes_to w.config receiver) 0 w.alerts) ∙ not-not (gets_some w receiver) in
    sym (map-map has (λ (positions : Vec ℕ). positions.items) going) ∙ ap (map has) all
    ∙ map-map has (positions_of w) receivers ∙ (λ k. map (λ receiver. each receiver k) receivers)
