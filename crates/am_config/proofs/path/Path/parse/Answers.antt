use Rattle.std.proofs.Common.{◌≡◌, ◌≢◌, ◌∷◌, [], lit<, refl, sym, ◌∙◌, inl, rules, tests}
use Rattle.std.specs.Cmp.Lexicographic.{bytes_decides}
use Rattle.std.specs.List.{list_all}
use Rattle.std.proofs.lemmas.Bool.{false≢true}
use Rattle.std.proofs.lemmas.Iterator.Search.{all_from_yields_List}
use Rattle.std.proofs.lemmas.Iterator.Splits.{YieldsList-from_str_split}
use Rattle.std.proofs.lemmas.Str.Pattern.{strip_prefix_char}
use Rattle.am_config.proofs.Numerals.{reads_back}
use Rattle.am_config.proofs.PathTexts.{pieces_of}
use Rattle.am_config.proofs.PathParses.{begins_with_slash, no_path, path_read, path_refused}
use Rattle.am_config.proofs.path.Path.parse.Goals as goal

pub returns-in_default-clause-refused : goal.returns-in_default-clause-refused
returns-in_default-clause-refused c =
    let none = rw c.in_default.is at (strip_prefix_char 47 c.args.text.now c.strip_prefix.result
    c.strip_prefix.ensures.cases (lit< tt)) in
    inl (
      refl,
      λ path e.
          let slash = begins_with_slash path in
          none slash.0 (sym e ∙ slash.1),
    )

pub returns-then-not-all-clause-refused : goal.returns-then-not-all-clause-refused
returns-then-not-all-clause-refused c =
    let text = c.args.text.now in
    let steps = c.in-Some.steps.now in
    let other : text ≢ 47 ∷ [] = λ e.
    false≢true (c.if-eq.ensures ∙ (bytes_decides text (47 ∷ [])).1 e) in
    let is = rw c.in-Some.is at (strip_prefix_char 47 text c.strip_prefix.result
    c.strip_prefix.ensures.cases (lit< tt)) in
    let all : c.all.result ≡ list_all reads_back (pieces_of steps) =
    all_from_yields_List reads_back _ _ _ c.all.ensures.ran
    (YieldsList-from_str_split 47 steps (lit< tt) c.split.ensures.text
    c.split.ensures.has_more c.split.ensures.pattern) (λ x b q k. search (rules, tests)) in
    inl (refl, λ path. no_path text steps path other is (sym all ∙ c.if-not-all.true))

pub returns : goal.returns
returns c =
    let text = c.args.text.now in
    let steps = c.in-Some.steps.now in
    let is = rw c.in-Some.is at (strip_prefix_char 47 text c.strip_prefix.result
    c.strip_prefix.ensures.cases (lit< tt)) in
    let all : c.all.result ≡ list_all reads_back (pieces_of steps) =
    all_from_yields_List reads_back _ _ _ c.all.ensures.ran
    (YieldsList-from_str_split 47 steps (lit< tt) c.split.ensures.text
    c.split.ensures.has_more c.split.ensures.pattern) (λ x b q k. search (rules, tests)) in
    let numerals = sym all ∙ c.if-not-all.false in
    record {
      ok = rw c.ok_or.ensures.value
          (path_read text steps c.parse_steps.result is numerals c.parse_steps.ensures);
      refused = rw c.ok_or.ensures.value
          (path_refused text steps c.parse_steps.result is numerals c.parse_steps.ensures);
    }
