use Rattle.std.proofs.Common.{◌≡◌, List, [], ◌∷◌, ◌++◌, ap, sym, ◌∙◌, refl}
use Rattle.std.specs.List.{flat_map}
use Rattle.std.proofs.lemmas.Grind.{flat_map-append}
use Rattle.am_universe.specs.Universe.{Label, sizes}
use Rattle.am_universe.specs.WrittenLabelSet.{line}
use Rattle.am_eval.specs.Question.{is_answer}
use Rattle.am_search.specs.Page.{AnswerPage, all_choices_of}
use Rattle.am_search.specs.PageText.{lines_text}
use Rattle.am_search.proofs.Pages.{chain_joined}
use Rattle.am_search.proofs.SearchChains.{search_chain_joined}
use Rattle.am_plans.specs.Verdicts.{verdict_of}
use Rattle.am_plans.proofs.Soundness.{question_judges}
use Rattle.am_commands.proofs.laws.pages_in_a_row_have_the_lines_of_one_page.Goals as goal

-- the lines of pages, joined, are the lines of all their choices
lines_of_pages : (u : List Label) (pages : List AnswerPage) → flat_map (λ page. lines_text u page.choices) pages ≡ lines_text u (all_choices_of pages)
lines_of_pages u [] = refl
lines_of_pages u (page ∷ pages) = ap (λ rest. lines_text u page.choices ++ rest) (lines_of_pages u pages) ∙ sym (flat_map-append (line u) page.choices (all_choices_of pages))

pub returns : goal.returns
returns _ = record {
  joined = λ s w q start pages h.
      lines_of_pages s.labels pages
      ∙ ap (lines_text s.labels) (chain_joined (sizes s.labels) (is_answer s w q) start pages h);
  under_budgets = λ s w q start pages is h.
      lines_of_pages s.labels pages
      ∙ ap (lines_text s.labels) (search_chain_joined (sizes s.labels) (is_answer s w q)
      (verdict_of s w q) start pages (question_judges s w q is) h);
}
