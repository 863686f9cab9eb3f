-- The line that ends a page. (This project's own.)
use Rattle.std.specs.Prelude.{ℕ, List, ◌++◌, codes}
use Rattle.am_search.specs.declared.start.Start.TheVariants.{At, After}
use Rattle.am_search.specs.declared.trailer.Trailer.{Trailer}
use Rattle.am_search.specs.declared.trailer.Trailer.TheVariants.{End, Next, Stopped}
use Rattle.am_search.specs.Token.{token_text}

-- The line of a trailer, with its line feed. If more answers may follow, it has the token of the
-- next page, which begins after the last choice of this page, or at the prefix at which the search
-- stopped. The token is the one that is written for inputs with this fingerprint.
-- Source: own choice.
-- Example: if more answers follow after the choice 0 12, it is `# next t2:`, the 32 digits of the
-- fingerprint, and `:0.12`. If the search stopped at the prefix 0, it is `# stopped s2:`, the
-- digits, and `:0`.
abbrev pub trailer_text : List ℕ → Trailer → List ℕ
trailer_text fingerprint End = codes "# end\n"
trailer_text fingerprint (Next c) =
    codes "# next " ++ (token_text fingerprint (After c) ++ codes "\n")
trailer_text fingerprint (Stopped prefix) =
    codes "# stopped " ++ (token_text fingerprint (At prefix) ++ codes "\n")
