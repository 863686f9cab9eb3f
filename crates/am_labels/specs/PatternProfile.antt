-- The profile of patterns. It leaves out forms that Go's engine and the crate `regex` are known to
-- refuse or to read differently, but not all of them. A pattern is cut from left to right into
-- pieces, outside and inside of classes. It is in the profile if none of them is refused. Texts are
-- lists of bytes: only ASCII bytes have a meaning of their own, and a byte from 128 on is plain or
-- part of an escape. If pieces were made of characters, the same patterns would be refused.
use Rattle.std.specs.Prelude.{◌≡◌, ℕ, zero, suc, ◌+◌, List, [], ◌∷◌, ◌++◌, length, drop, Bool}
use Rattle.std.specs.Prelude.{false, not, ◌==◌, ◌&&◌, ◌||◌, nat_eq, nat_lt, if◌then◌else◌}
use Rattle.std.specs.Prelude.{Option, is_some, option_map, unwrap_or, ⊤, codes}
use Rattle.std.specs.List.{list_any, flat_map, find, starts_with, prefix_len, position, take_while}
use Rattle.std.specs.Char.{is_ascii_digit, is_ascii_alphabetic}
use Rattle.regex_syntax.specs.Reading.{◌∈◌, begins}
use Rattle.am_universe.specs.Bytes.{backslash, left_parenthesis, hyphen, left_bracket, left_brace}
use Rattle.am_universe.specs.Bytes.{right_brace}
use Rattle.am_labels.specs.declared.pattern_profile.ClassContext.{ClassContext}
use Rattle.am_labels.specs.declared.pattern_profile.ClassContext.TheVariants.{OutsideClass}
use Rattle.am_labels.specs.declared.pattern_profile.ClassContext.TheVariants.{InsideClass}
use Rattle.am_labels.specs.declared.pattern_profile.Piece.{Piece}

-- ---- Escapes.

-- The letters that may follow a backslash.
abbrev pub is_escape_letter : ℕ → Bool
is_escape_letter c = list_any (λ letter. letter == c) (codes "dDwWsSbBtnrfvaAzxpP")

-- A backslash may not be before `<`, `>`, a digit, or any other letter.
abbrev pub is_refused_escape : ℕ → Bool
is_refused_escape c =
    c ∈ "<>" || is_ascii_digit c || is_ascii_alphabetic c && not (is_escape_letter c)

-- The length of a text up to and including its first `}`, or of all of it if it has none.
abbrev pub up_to_brace : List ℕ → ℕ
up_to_brace t = unwrap_or (option_map (λ i. i + 1) (position (λ c. c == right_brace) t)) (length t)

-- The length of the braces that belong to the escape of a byte, given the text after the byte.
abbrev pub braces_len : ℕ → List ℕ → ℕ
braces_len c t = if c ∈ "xpP" && begins "{" t then up_to_brace t else 0

-- A backslash, the byte after it, if there is one, and the braces that belong to the escape.
abbrev pub escape_piece : ClassContext → List ℕ → Piece
escape_piece context [] = record { more = 0; next = context; is_refused = false }
escape_piece context (c ∷ t) =
    record { more = 1 + braces_len c t; next = context; is_refused = is_refused_escape c }

-- ---- Outside a class.

-- A byte that the run after `(?` may have: a letter or `-`.
abbrev pub is_flag : ℕ → Bool
is_flag c = is_ascii_alphabetic c || c == hyphen

-- The letters that no run of flags may have; and a text begins with a run that has one.
abbrev pub is_refused_flag : ℕ → Bool
is_refused_flag c = c ∈ "xuR"

abbrev pub has_refused_flag : List ℕ → Bool
has_refused_flag t = list_any is_refused_flag (take_while is_flag t)

-- How many digits a text begins with.
abbrev pub digits_len : List ℕ → ℕ
digits_len t = prefix_len is_ascii_digit t

-- A count begins after the `{`: `n}`, `n,}` or `n,m}`, where each number has at least one digit.
abbrev pub begins_count : List ℕ → Bool
begins_count t =
    let after = drop (digits_len t) t in
    let most = drop 1 after in
    nat_lt 0 (digits_len t)
    && (begins "}" after || begins "," after && begins "}" (drop (digits_len most) most))

-- How many bytes follow the `[` that begins a class: a `^`, or not, and a `]` directly after that,
-- or not.
abbrev pub class_start_len : List ℕ → ℕ
class_start_len t = if begins "^]" t then 2 else if begins "^" t || begins "]" t then 1 else 0

-- The piece at a byte that is not a backslash: the `(?` before flags, the `{` before a count, the
-- beginning of a class, or a byte that stands for itself. (The flags and the count are such bytes.)
unfoldable pub outside_piece : ℕ → List ℕ → Piece
outside_piece c t =
    if c == left_parenthesis && begins "?" t then
    record { more = 1; next = OutsideClass; is_refused = has_refused_flag (drop 1 t) }
    else if c == left_brace then
    record { more = 0; next = OutsideClass; is_refused = not (begins_count t) }
    else if c == left_bracket then
    record { more = class_start_len t; next = InsideClass; is_refused = false }
    else record { more = 0; next = OutsideClass; is_refused = false }

-- ---- Inside a class.

-- Each NAME of `[:NAME:]`.
unfoldable pub class_names : List (List ℕ)
class_names =
    codes "alnum" ∷ codes "alpha" ∷ codes "ascii" ∷ codes "blank" ∷ codes "cntrl"
    ∷ codes "digit" ∷ codes "graph" ∷ codes "lower" ∷ codes "print" ∷ codes "punct"
    ∷ codes "space" ∷ codes "upper" ∷ codes "word" ∷ codes "xdigit" ∷ []

-- What may follow the `[` of a named class: each `:NAME:]` and `:^NAME:]`.
unfoldable pub named_classes : List (List ℕ)
named_classes =
    flat_map (λ name. (codes ":" ++ name ++ codes ":]") ∷ (codes ":^" ++ name ++ codes ":]") ∷ [])
    class_names

-- How many bytes follow the `[` of a named class, if one begins there.
abbrev pub named_class_len : List ℕ → Option ℕ
named_class_len t = option_map length (find (λ named. starts_with nat_eq t named) named_classes)

-- The piece at a byte that is not a backslash: a named class, the end of the class, or a byte that
-- stands for itself. Any other `[` is refused, and so are `&&`, `--` and `~~`.
unfoldable pub inside_piece : ℕ → List ℕ → Piece
inside_piece c t =
    if c == left_bracket then
    record {
      more = unwrap_or (named_class_len t) 0;
      next = InsideClass;
      is_refused = not (is_some (named_class_len t));
    }
    else if c ∈ "]" then
    record { more = 0; next = OutsideClass; is_refused = false }
    else record {
      more = 0;
      next = InsideClass;
      is_refused = c ∈ "&-~" && starts_with nat_eq t (c ∷ []);
    }

-- ---- Patterns.

-- The piece at a byte that is not a backslash.
abbrev unescaped_piece : ClassContext → ℕ → List ℕ → Piece
unescaped_piece OutsideClass c t = outside_piece c t
unescaped_piece InsideClass c t = inside_piece c t

-- The first piece of a text, given its first byte and what follows that: how many bytes more it
-- has, the context of the next piece, and whether the profile refuses it.
unfoldable pub first_piece : ClassContext → ℕ → List ℕ → Piece
first_piece context c t =
    if c == backslash then escape_piece context t else unescaped_piece context c t

-- A text is a join of these pieces: each is the first piece of what the pieces before it leave.
abbrev pub AreJoined : ClassContext → List ℕ → List Piece → Type 0
AreJoined context [] [] = ⊤
AreJoined context (c ∷ t) (piece ∷ pieces) =
    (first_piece context c t ≡ piece) × AreJoined piece.next (drop piece.more t) pieces
AreJoined context t pieces = ⊥

-- A pattern is a join of these pieces. It begins outside a class. Every pattern is the join of
-- exactly one list of pieces.
abbrev pub IsJoinOf : List ℕ → List Piece → Type 0
IsJoinOf pattern pieces = AreJoined OutsideClass pattern pieces

-- A piece that no pattern of the profile has.
abbrev pub is_refused : Piece → Bool
is_refused piece = piece.is_refused

-- A pattern is in the profile: it is a join of pieces, none of which is refused. The grammar need
-- not read it: `(` is in the profile, but is no pattern.
-- Source: own choice.
-- Example: `crit.*` is in the profile; `\<db`, `(?x)db`, `a{` and `[a&&b]` are not.
pub record IsInProfile (pattern : List ℕ) : Type 0 where
  pub pieces : List Piece
  pub is_join : IsJoinOf pattern pieces
  pub none_refused : list_any is_refused pieces ≡ false

-- The pieces of a text behind so many bytes.
unfoldable pub pieces_behind : ℕ → ClassContext → List ℕ → List Piece
pieces_behind n context [] = []
pieces_behind (suc n) context (c ∷ t) = pieces_behind n context t
pieces_behind zero context (c ∷ t) =
    let piece = first_piece context c t in piece ∷ pieces_behind piece.more piece.next t

-- No piece of a text is refused; and a pattern is in the profile, as a test.
unfoldable pub has_no_refused_piece : ClassContext → List ℕ → Bool
has_no_refused_piece context t = not (list_any is_refused (pieces_behind 0 context t))

abbrev pub in_profile : List ℕ → Bool
in_profile pattern = has_no_refused_piece OutsideClass pattern
