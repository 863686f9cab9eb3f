-- What a report is written as. (This project's own.)
use Rattle.std.specs.Prelude.{◌≡◌, ℕ, List, ◌++◌, Some, codes}
use Rattle.serde_json.specs.Read.{read}
use Rattle.serde_json.specs.Written.{compact_text}
use Rattle.am_report_texts.specs.declared.writing.Form.{Form}
use Rattle.am_report_texts.specs.declared.writing.Form.TheVariants as form_is
use Rattle.am_report_texts.specs.Line.{Report, report_text}
use Rattle.am_report_texts.specs.LineData.{report_data}

-- A text is a report in a form: its lines as a text, or its data as a JSON document, without
-- spaces, and a line feed. The document is read as the data.
-- Source: RFC 8259.
-- Example: a report without lines that ends in `# 0 changes` is that line, or
-- `{"changes":0,"lines":[]}` and a line feed.
abbrev pub IsWritten : Form → Report → List ℕ → Type 0
IsWritten form_is.Lines r written = written ≡ report_text r
IsWritten form_is.Json r written =
    (written ≡ compact_text (report_data r) ++ codes "\n")
    × (read (compact_text (report_data r)) ≡ Some (report_data r))
