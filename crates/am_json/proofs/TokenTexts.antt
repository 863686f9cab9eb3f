-- The strings among the tokens of a text are UTF-8, if the text is.
use Rattle.std.proofs.Common.{◌≡◌, ℕ, ◌<◌, Bool, true, false, cond, List, [], ◌∷◌, ◌++◌, Option}
use Rattle.std.proofs.Common.{Some, None, IsUtf8, refl, sym, arith, subst, append_assoc}
use Rattle.std.specs.Prelude.{⊤}
use Rattle.std.specs.List.{AllByRecursion}
use Rattle.std.proofs.lemmas.Bool.Decides.{nat_tests}
use Rattle.std.proofs.lemmas.Grind.{common_steps}
use Rattle.json.specs.Token.{Token, key, string, bad}
use Rattle.json.specs.Text.{content, plain}
use Rattle.json.specs.Word.{ends_word, number_before, word}
use Rattle.json.specs.Lex.{Lexeme, token, comma, colon, Class, quote, backslash, operator, space}
use Rattle.json.specs.Lex.{other, class, operator_lexeme, string_token, Mode, between, in_word}
use Rattle.json.specs.Lex.{in_string, in_escape, lex_byte, lex, Place, fresh, after_value}
use Rattle.json.specs.Lex.{after_comma, after_key, begins_colon, if_allowed, place_token, punctuate}
use Rattle.json.specs.Lex.{tokens}
use Rattle.am_json.proofs.StringTexts.{beside_ascii, GivesText, content_is_text}

-- if a token is a string, its text is UTF-8
abbrev pub HasText : Token → Type 0
HasText (string s) = IsUtf8 s
HasText t = ⊤

abbrev HasTextInside : Lexeme → Type 0
HasTextInside (token t) = HasText t
HasTextInside l = ⊤

-- ---- Lexemes.

one_of : (b : Bool) (t u : Token) → HasText t → HasText u → HasText (cond b t u)
one_of true t u h k = h
one_of false t u h k = k

number_text : (xs : List ℕ) (o : Option (List ℕ)) → HasText (number_before xs o)
number_text xs None = tt
number_text xs (Some rest) = one_of (ends_word rest) _ bad tt tt

word_text : (xs : List ℕ) → HasText (word xs)
unfolding word
word_text xs = search (one_of, number_text)

operator_text : (x : ℕ) → HasTextInside (operator_lexeme x)
operator_text x = grind (arith, common_steps)

string_text : (o : Option (List ℕ)) → GivesText [] o → HasText (string_token o)
string_text None h = tt
string_text (Some s) h = h

abbrev AreLexemes : List Lexeme → Type 0
AreLexemes ls = AllByRecursion HasTextInside ls

byte_text : (m : Mode) (c : Class) (x : ℕ) (xs : List ℕ) (k : Mode → List Lexeme)
    → (c ≡ quote → IsUtf8 xs) → ((next : Mode) → AreLexemes (k next))
    → AreLexemes (lex_byte m c x xs k)
byte_text between quote x xs k u later =
    (string_text (content plain xs) (content_is_text xs (u refl)), later in_string)
byte_text between backslash x xs k u later = (tt, later in_word)
byte_text between operator x xs k u later = (operator_text x, later between)
byte_text between space x xs k u later = later between
byte_text between other x xs k u later = (word_text (x ∷ xs), later in_word)
byte_text in_word operator x xs k u later = (operator_text x, later between)
byte_text in_word space x xs k u later = later between
byte_text in_word c x xs k u later = later in_word
byte_text in_string quote x xs k u later = later between
byte_text in_string backslash x xs k u later = later in_escape
byte_text in_string c x xs k u later = later in_string
byte_text in_escape c x xs k u later = later in_string

quote_is_ascii : (x : ℕ) → class x ≡ quote → x < 128
quote_is_ascii x e = grind (arith, nat_tests)

-- what is read is a text, or what is left of one
lexeme_texts : (front : List ℕ) (m : Mode) (xs : List ℕ) → IsUtf8 (front ++ xs)
    → AreLexemes (lex m xs)
unfolding lex
lexeme_texts front m [] u = tt
lexeme_texts front m (x ∷ xs) u =
    byte_text m (class x) x xs (λ next. lex next xs)
    (λ e. (beside_ascii front x xs (quote_is_ascii x e) u).1)
    (λ next. lexeme_texts (front ++ x ∷ []) next xs
    (subst IsUtf8 (sym (append_assoc front (x ∷ []) xs)) u))

-- ---- Tokens.

abbrev pub AreTokens : List Token → Type 0
AreTokens ts = AllByRecursion HasText ts

allowed_texts : (b : Bool) (t : Token) (k : Place → List Token) (next : Place) → HasText t
    → ((p : Place) → AreTokens (k p)) → AreTokens (if_allowed b t k next)
allowed_texts true t k next h later = (h, later next)
allowed_texts false t k next h later = (tt, tt)

placed_texts : (p : Place) (t : Token) (before_colon : Bool) (k : Place → List Token) → HasText t
    → ((next : Place) → AreTokens (k next)) → AreTokens (place_token p t before_colon k)
placed_texts p (key s) b k h later = (tt, tt)
placed_texts p bad b k h later = (tt, tt)
placed_texts p (string s) true k h later = allowed_texts _ (key s) k _ tt later
placed_texts p (string s) false k h later = allowed_texts _ (string s) k _ h later
placed_texts p t b k h later = allowed_texts _ t k _ h later

token_texts : (p : Place) (ls : List Lexeme) → AreLexemes ls → AreTokens (punctuate p ls)
unfolding punctuate
token_texts fresh [] h = tt
token_texts after_value [] h = tt
token_texts p (token t ∷ ls) h =
    placed_texts p t (begins_colon ls) (λ next. punctuate next ls) h.0
    (λ next. token_texts next ls h.1)
token_texts after_value (comma ∷ ls) h = token_texts after_comma ls h.1
token_texts after_key (colon ∷ ls) h = token_texts fresh ls h.1
token_texts p ls h = (tt, tt)

pub tokens_of_text : (text : List ℕ) → IsUtf8 text → AreTokens (tokens text)
tokens_of_text text u = token_texts fresh (lex between text) (lexeme_texts [] between text u)
