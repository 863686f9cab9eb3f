-- What parsing a path returns, from the pieces between its slashes.
use Rattle.std.proofs.Common.{◌≡◌, ◌≢◌, ◌⊎◌, ◌<◌, ℕ, List, [], ◌∷◌, length, Option, Some, None}
use Rattle.std.proofs.Common.{true, false, IfOk, IfErr, MatchOption, refl, sym, ap, ◌∙◌, arith, inr}
use Rattle.std.specs.Prelude.{ok_or}
use Rattle.std.specs.List.{list_all}
use Rattle.std.proofs.lemmas.Bool.{false≢true}
use Rattle.std.proofs.lemmas.List.{length-map}
use Rattle.std.proofs.lemmas.List.Splits.{length-slice_split}
use Rattle.std.specs.Prelude.{◌==◌}
use Rattle.std.specs.Str.Parse.{digits_value}
use Rattle.am_universe.specs.declared.kind.Kind.TheVariants as kinds
use Rattle.am_config.specs.Path.{path_text, IsPath}
use Rattle.am_config.proofs.Numerals.{reads_back}
use Rattle.am_config.proofs.PathTexts.{pieces_of, positions_of, pieces_of_path, path_of_pieces}
use Rattle.am_config.proofs.PathTexts.{all_read_back, read_back}

pub begins_with_slash : (path : List ℕ) → (rest : List ℕ) × (path_text path ≡ 47 ∷ rest)
begins_with_slash [] = ([], refl)
begins_with_slash (p ∷ ps) = (_, refl)

-- if a piece is not a number, no path has the text
pub no_path : (text steps path : List ℕ) → text ≢ 47 ∷ [] → text ≡ 47 ∷ steps
    → list_all reads_back (pieces_of steps) ≡ false → path_text path ≢ text
no_path text steps [] other is some e = other (sym e)
no_path text steps (p ∷ ps) other is some e =
    let pieces = pieces_of_path (p ∷ ps) steps (omega arith) (e ∙ is) in
    false≢true (sym some ∙ ap (list_all reads_back) pieces ∙ all_read_back (p ∷ ps))

-- the path that has the text, if each piece is a number
record IsPathOf (steps path : List ℕ) : Type 0 where
  some : 0 < length path
  is : path_text path ≡ 47 ∷ steps

path_of : (steps : List ℕ) → list_all reads_back (pieces_of steps) ≡ true
    → IsPathOf steps (positions_of (pieces_of steps))
path_of steps all = record {
  some = omega (
    arith,
    length-map (pieces_of steps) (digits_value 10),
    length-slice_split (λ b. b == 47) steps,
  );
  is = path_of_pieces (positions_of (pieces_of steps)) steps (read_back (pieces_of steps) all);
}

-- the result of reading the steps is right for each path that has them
abbrev IsStepsResult : List ℕ → Option (List ℕ) → Type 0
IsStepsResult steps r = (path : List ℕ) → 0 < length path → path_text path ≡ 47 ∷ steps
    → MatchOption r (IsPath path → ⊥) (λ read. (read ≡ path) × IsPath path)

pub path_read : (text steps : List ℕ) (r : Option (List ℕ)) → text ≡ 47 ∷ steps
    → list_all reads_back (pieces_of steps) ≡ true → IsStepsResult steps r
    → IfOk (ok_or r kinds.UnknownRoute) (λ path. (path_text path ≡ text) × IsPath path)
path_read text steps None is all result = tt
path_read text steps (Some read) is all result =
    let of = path_of steps all in
    let same = result (positions_of (pieces_of steps)) of.some of.is in
    (ap path_text same.0 ∙ of.is ∙ sym is, rw same.0 same.1)

pub path_refused : (text steps : List ℕ) (r : Option (List ℕ)) → text ≡ 47 ∷ steps
    → list_all reads_back (pieces_of steps) ≡ true → IsStepsResult steps r
    → IfErr (ok_or r kinds.UnknownRoute) (λ kind.
    ((kind ≡ kinds.QuestionSyntax) × ((path : List ℕ) → path_text path ≢ text))
    ⊎ ((kind ≡ kinds.UnknownRoute) × (path : List ℕ) × (path_text path ≡ text)
    × (IsPath path → ⊥)))
path_refused text steps None is all result =
    let of = path_of steps all in
    let path : List ℕ = positions_of (pieces_of steps) in
    inr (refl, path, of.is ∙ sym is, result path of.some of.is)
path_refused text steps (Some read) is all result = tt
