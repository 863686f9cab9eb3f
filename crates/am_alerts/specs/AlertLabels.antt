-- The labels of all alerts, as they are sorted, and tests of a label of all alerts.
use Rattle.std.specs.Prelude.{◌≡◌, ◌≢◌, ◌==◌, ◌↔◌, ◌<◌, ◌≤◌, ℕ, List, [], ◌∷◌}
use Rattle.std.specs.Prelude.{map, length, Bool, false, not, All}
use Rattle.std.specs.Prelude.{◌&&◌, ◌||◌, slice_get, slice_index_or, Some}
use Rattle.std.specs.Borrow.{Bor}
use Rattle.std.specs.List.{flat_map, enumerate_from, list_any, list_all}
use Rattle.std.specs.List.Sorted.{IsPermutation}
use Rattle.std.specs.FinMap.{entries}
use Rattle.am_universe.specs.LabelSet.{LabelMap}
use Rattle.am_alerts.specs.declared.alert_labels.AlertLabel.{AlertLabel}
use Rattle.am_alerts.specs.declared.alert_labels.NameRows.{NameRows}
use Rattle.am_alerts.specs.declared.alert_labels.Row.{Row}
use Rattle.am_alerts.specs.declared.alert_labels.SortedLabels.{SortedLabels}
use Rattle.am_alerts.specs.declared.judge.ValueTest.{ValueTest}
use Rattle.am_alerts.specs.Judge.{passes, text_at}

-- A label, without its location in memory: the position of the alert, and the name and the value.
abbrev pub label_view : AlertLabel → ℕ × (List ℕ × List ℕ)
label_view l = (l.alert, (l.name.now, l.value.now))

-- The labels of an alert, and those of all alerts.
abbrev pub labels_of : ℕ × LabelMap → List (ℕ × (List ℕ × List ℕ))
labels_of alert = map (λ e. (alert.0, e)) (entries alert.1)

abbrev pub all_labels : List LabelMap → List (ℕ × (List ℕ × List ℕ))
all_labels alerts = flat_map labels_of (enumerate_from 0 alerts)

-- A text is at a place among some texts; and a label has the places of its name and of its value.
abbrev pub HasText : List (Bor (List ℕ)) → ℕ → List ℕ → Type 0
HasText texts place text = (place < length texts) × (text_at texts place ≡ text)

abbrev pub HasNamePlace : List (Bor (List ℕ)) → AlertLabel → Type 0
HasNamePlace names l = HasText names l.name_place l.name.now

abbrev pub HasPlace : List (Bor (List ℕ)) → AlertLabel → Type 0
HasPlace values l = HasText values l.place l.value.now

-- No text is there twice.
abbrev pub AreDistinct : List (Bor (List ℕ)) → Type 0
AreDistinct texts =
    (i j : ℕ) → i < j → j < length texts → text_at texts i ≢ text_at texts j

-- The labels from one position on, and before another, have a place.
abbrev pub HavePlace : List AlertLabel → ℕ → ℕ → ℕ → Type 0
HavePlace labels start end place =
    (k : ℕ) (l : AlertLabel) → start ≤ k → k < end → slice_get labels k ≡ Some l
    → l.place ≡ place

-- Rows tile a range of labels: each begins where the one before it ends, and its labels have its
-- place.
abbrev pub Tile : List AlertLabel → ℕ → ℕ → List Row → Type 0
Tile labels start end [] = start ≡ end
Tile labels start end (row ∷ rows) =
    (start < row.end) × (row.end ≤ end) × HavePlace labels start row.end row.place
    × Tile labels row.end end rows

-- The labels with a name are those in a range of positions; and rows tile this range.
pub record IsRangeOf (labels : List AlertLabel) (name : List ℕ) (range : ℕ × ℕ) : Type 0 where
  pub ordered : (range.0 ≤ range.1) × (range.1 ≤ length labels)
  pub exactly : (k : ℕ) (l : AlertLabel) → slice_get labels k ≡ Some l
      → (l.name.now ≡ name ↔ ((range.0 ≤ k) × (k < range.1)))

pub record AreNameRows (labels : List AlertLabel) (known : NameRows) : Type 0 where
  pub range : IsRangeOf labels known.name.now known.range
  pub rows : Tile labels known.range.0 known.range.1 known.rows.items

-- The labels are those of the alerts, and each name that a label has has its rows.
pub record AreSorted (sorted : SortedLabels) : Type 0 where
  pub all : IsPermutation (all_labels sorted.alerts.now) (map label_view sorted.labels.items)
  pub positions : map (λ l. l.alert) sorted.labels.items ≡ sorted.positions.items
  pub name_places : All (HasNamePlace sorted.names.keys) sorted.labels.items
  pub places : All (HasPlace sorted.values.keys) sorted.labels.items
  pub names : map (λ known. known.name.now) sorted.rows.items
      ≡ map (λ name. name.now) sorted.names.keys
  pub rows : All (AreNameRows sorted.labels.items) sorted.rows.items

-- A truth for each alert: that of a test; and those alerts of some that pass a test.
abbrev pub flag : List Bool → ℕ → Bool
flag flags i = slice_index_or flags i false

abbrev pub AreTruths : List LabelMap → (LabelMap → Bool) → List Bool → Type 0
AreTruths alerts test flags =
    (length flags ≡ length alerts)
    × ((i : ℕ) (s : LabelMap) → slice_get alerts i ≡ Some s → flag flags i ≡ test s)

abbrev pub Keeps : List LabelMap → (LabelMap → Bool) → List Bool → List Bool → Type 0
Keeps alerts test before after =
    (length after ≡ length alerts)
    × ((i : ℕ) (s : LabelMap) → slice_get alerts i ≡ Some s
    → flag after i ≡ (flag before i && test s))

-- Whether an alert is at one of some positions.
abbrev pub is_at : List ℕ → ℕ → Bool
is_at positions i = list_any (λ p. p == i) positions

-- Whether each label of an alert, among some labels, has a value that passes a test.
abbrev pub all_pass : ValueTest → List AlertLabel → ℕ → Bool
all_pass test labels i =
    list_all (λ l. passes test l.value.now || not (l.alert == i)) labels
