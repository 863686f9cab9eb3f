-- The text is read back as the universe, with the impossible lists of the space.
use Rattle.std.proofs.Common.{◌≡◌, ℕ, List, inr, ◌<◌, ◌≤◌, length, map, string_bytes, subst}
use Rattle.std.proofs.Common.{ap, ◌∙◌}
use Rattle.std.specs.Str.{IsUtf8}
use Rattle.am_json.specs.declared.limits.TheConstants.{MAX_FILE_BYTES}
use Rattle.am_universe_command.specs.UniverseText.{universe_text}
use Rattle.am_universe_command.proofs.FileNames.{names_kept}
use Rattle.am_universe_command.proofs.SaidByText.{universe_said, texts_kept}
use Rattle.am_universe_command.proofs.making.made_text.Goals as goal

pub returns-clause-made : goal.returns-clause-made
returns-clause-made c =
    let u = c.in_ok-universe.universe in
    let lists = map string_bytes c.args.read.now.texts.items in
    let is : string_bytes c.in-Ok.text ≡ universe_text u lists =
    c.in-Ok.ensures.text ∙ ap (λ ts. universe_text u (map string_bytes ts)) c.as_slice.ensures.value in
    let utf8 = subst IsUtf8 (c.as_str.ensures.value ∙ is) c.as_str.utf8 in
    let short = subst (λ (t : List ℕ). length t ≤ MAX_FILE_BYTES) (c.as_str.ensures.value ∙ is)
    c.if-as_str-gt-MAX_FILE_BYTES.false in
    record {
      labels = u;
      text_is = is;
      says = rw is (universe_said u lists c.args.read.now.space.impossible
          c.in_ok-universe.ensures.made.universe
          (names_kept c.args.read.now.space.labels u c.requires.named
          c.in_ok-universe.ensures.made.names) c.requires.texts utf8 short);
      word_for_word = rw is (texts_kept u lists utf8 short);
      made = c.in_ok-universe.ensures.made;
    }

pub returns-then-as_str-gt-MAX_FILE_BYTES-clause-refused :
    goal.returns-then-as_str-gt-MAX_FILE_BYTES-clause-refused
returns-then-as_str-gt-MAX_FILE_BYTES-clause-refused c = λ remembered.
    let read = c.args.read.now in
    let u = c.in_ok-universe.universe in
    let lists = map string_bytes read.texts.items in
    inr (inr (record {
      stands = c.at.ensures.place (λ e. cc e) (λ e. cc e);
      labels = u;
      made = c.in_ok-universe.ensures.made;
      long = subst (λ (t : List ℕ). MAX_FILE_BYTES < length t)
          (c.as_str.ensures.value ∙ c.in-Ok.ensures.text
          ∙ ap (λ ts. universe_text u (map string_bytes ts)) c.as_slice.ensures.value)
          c.if-as_str-gt-MAX_FILE_BYTES.true;
      refusal = λ i. record { kind = c.at.ensures.kind i; pointer = c.at.ensures.pointer i };
    }))
