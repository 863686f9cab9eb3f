use Rattle.std.proofs.Common.{◌≡◌, ◌<◌, ℕ, List, [], map, length, get_or, is_some, sym, ap, ◌∙◌, subst, arith}
use Rattle.std.specs.Borrow.{Bor}
use Rattle.std.proofs.lemmas.Bool.{true≢false}
use Rattle.std.proofs.lemmas.List.{length-map, get_or-map}
use Rattle.std.proofs.lemmas.List.Quantifiers.{position-Some}
use Rattle.std.proofs.lemmas.Option.{slice_get-get_or, slice_get_within, get_or_from_slice_get}
use Rattle.std.proofs.lemmas.Slice.Eq.{bytes_eq-Decides}
use Rattle.am_universe.proofs.Members.{in_at}
use Rattle.am_alerts.specs.declared.alert_labels.NameRows.{NameRows}
use Rattle.am_alerts.specs.AlertLabels.{AreNameRows, HasNamePlace}
use Rattle.am_alerts.proofs.NamedLabels.{any_in}
use Rattle.am_alerts.proofs.alert_labels.known_rows.Goals as goal

abbrev none : Bor (List ℕ)
none = record { ref_ptr = (0, 0); now = [] }

-- there are as many rows as names
as_many : (rows : List NameRows) (names : List (Bor (List ℕ)))
    → map (λ (known : NameRows). known.name.now) rows ≡ map (λ (name : Bor (List ℕ)). name.now) names
    → length rows ≡ length names
as_many rows names same =
    sym (length-map rows (λ (known : NameRows). known.name.now)) ∙ ap length same
    ∙ length-map names (λ (name : Bor (List ℕ)). name.now)

pub returns-in-Some : goal.returns-in-Some
returns-in-Some c =
    let sorted = c.args.sorted.now in
    let rows = sorted.rows.items in
    let keys = sorted.names.keys in
    let place = c.in-Some.place in
    let known = c.index.result.now in
    let found = position-Some _ keys place none (sym c.get_index_of.ensures.index ∙ c.in-Some.is) in
    let lt : place < length rows = omega (arith, found.0, as_many rows keys c.requires.sorted.names) in
    record {
      name = ap (λ (k : NameRows). k.name.now) c.index.ensures
          ∙ sym (get_or-map (λ (k : NameRows). k.name.now) rows place known [] lt)
          ∙ ap (λ (texts : List (List ℕ)). get_or texts place []) c.requires.sorted.names
          ∙ get_or-map (λ (name : Bor (List ℕ)). name.now) keys place none [] found.0
          ∙ sym ((bytes_eq-Decides c.args.name.now (get_or keys place none).now).0 found.1);
      rows = subst (AreNameRows sorted.labels.items) (sym c.index.ensures) (c.requires.sorted.rows place known lt);
      none = tt;
    }

pub returns-in-None : goal.returns-in-None
returns-in-None c =
    let sorted = c.args.sorted.now in
    let labels = sorted.labels.items in
    let keys = sorted.names.keys in
    let name = c.args.name.now in
    record {
      name = tt;
      rows = tt;
      none = record {
        ordered = (omega arith, omega arith);
        exactly = λ k l at. (
          λ named.
              let has : HasNamePlace keys l =
              subst (HasNamePlace keys) (get_or_from_slice_get labels k l l at)
              (c.requires.sorted.name_places k l (slice_get_within labels k l at)) in
              let there = in_at keys l.name_place (get_or keys l.name_place none)
              (slice_get-get_or keys l.name_place none has.0) in
              absurd (true≢false (sym (any_in _ keys (get_or keys l.name_place none) there
              ((bytes_eq-Decides name (get_or keys l.name_place none).now).1 (sym (has.1 ∙ named))))
              ∙ sym c.get_index_of.ensures.found ∙ ap is_some c.in-None.is)),
          λ inside. absurd (omega (arith, inside)),
        );
      };
    }
