-- The lines that are written are those of what is found.
use Rattle.am_reports.proofs.linting.report_of.Goals as goal

pub returns-clause-text : goal.returns-clause-text
returns-clause-text c =
    rw (
      c.in_ok-last.ensures.count,
      c.count_findings-findings.ensures.count,
      c.count_notes-notes.ensures.count,
      c.as_slice-2.ensures.value,
      c.as_slice-3.ensures.value,
      c.in_ok-lines.ensures,
      c.as_slice.ensures.value,
      c.in_ok-sets.ensures,
    ) at c.in_ok-text.ensures.written
