-- What contracts read from lines that borrow what they show.
use Rattle.std.specs.Prelude.{List, map, string_bytes}
use Rattle.am_report_texts.specs.Line as line
use Rattle.am_report_texts.specs.declared.lines.Line.{Line}
use Rattle.am_report_texts.specs.declared.lines.Piece.{Piece}
use Rattle.am_report_texts.specs.declared.lines.Piece.TheVariants as piece_is
use Rattle.am_report_texts.specs.declared.lines.Shown.{Shown}
use Rattle.am_report_texts.specs.declared.lines.Shown.TheVariants as shown_is
use Rattle.am_report_texts.specs.declared.lines.ShownRoute.{ShownRoute}
use Rattle.am_report_texts.specs.declared.lines.Report.{Report}

-- A route in a list, what a piece shows, a piece, pieces, a line, and a report.
abbrev pub route_view : ShownRoute → line.ShownRoute
route_view r = record {
  path = r.path;
  matchers = map (λ m. m.now) r.matchers.items;
  kind = r.kind.now;
}

abbrev pub shown_view : Shown → line.Shown
shown_view (shown_is.Word w) = line.Word w.now
shown_view (shown_is.Number n) = line.Number n
shown_view (shown_is.Name n) = line.Name n.now
shown_view (shown_is.Names ns) = line.Names (map (λ n. n.0.now) ns.items)
shown_view (shown_is.Pointer p) = line.Pointer (string_bytes p)
shown_view (shown_is.Text t) = line.Text t.now
shown_view (shown_is.Texts ts) = line.Texts (map (λ t. t.now) ts.items)
shown_view (shown_is.Path p) = line.Path p
shown_view (shown_is.Labels ls) = line.Labels (map (λ l. (l.0.now, l.1.now)) ls.items)
shown_view (shown_is.Matchers ms) = line.Matchers (map (λ m. m.now) ms.items)
shown_view (shown_is.Lists ls) = line.Lists (map (λ ms. map (λ m. m.now) ms.items) ls.items)
shown_view (shown_is.Routes rs) = line.Routes (map route_view rs.items)
shown_view (shown_is.Inhibitors is) = line.Inhibitors is.now

abbrev pub piece_view : Piece → line.Piece
piece_view (piece_is.Words w) = line.Words w.now
piece_view (piece_is.Value field shown) = line.Value field (shown_view shown)

abbrev pub pieces_view : List Piece → List line.Piece
pieces_view pieces = map piece_view pieces

abbrev pub line_view : Line → line.Line
line_view l = record { level = l.level; pieces = pieces_view l.pieces.items }

abbrev pub report_view : Report → line.Report
report_view r = record {
  lines = map line_view r.lines.items;
  last = pieces_view r.last.items;
}
