-- The front of a list of lexemes is read in one way, and the code reads it as the grammar says.
use Rattle.std.proofs.Common.{◌≡◌, ◌≢◌, ℕ, List, [], ◌∷◌, ◌++◌, Option, Some, None, refl, sym, ap}
use Rattle.std.proofs.Common.{◌∙◌, append_assoc, append-nil, option_map, arith}
use Rattle.std.specs.List.{find}
use Rattle.std.proofs.lemmas.Option.{some_pair_parts}
use Rattle.std.proofs.lemmas.List.{nil_from_length, length-map}
use Rattle.std.proofs.lemmas.Bool.{eqb-true}
use Rattle.std.proofs.lemmas.Result.{err_from_is_err_and}
use Rattle.std.proofs.lemmas.Grind.{common_steps}
use Rattle.am_universe.specs.Text.{same_text}
use Rattle.am_universe.specs.declared.kind.Kind.{Kind}
use Rattle.am_config.specs.Path.{path_text}
use Rattle.am_eval.specs.declared.property.Property.TheVariants.{Any, Silenced, Inhibited}
use Rattle.am_eval.specs.declared.reach.Reach.TheVariants.{Ends, Enters}
use Rattle.am_eval.specs.Tree.{Tree, Part, Not}
use Rattle.am_questions.specs.declared.grammar.Connective.{Connective}
use Rattle.am_questions.specs.declared.grammar.Connective.TheVariants as by
use Rattle.am_questions.specs.Lexemes.{Lexeme, Open, Close, Word, BraceList}
use Rattle.am_questions.specs.Grammar as g
use Rattle.am_questions.specs.Grammar.{Written, WrittenIs, WrittenReceiver, WrittenRoute}
use Rattle.am_questions.specs.Grammar.{WrittenBraces, Keyword, NotWord, JoinWord, PropertyWord}
use Rattle.am_questions.specs.Grammar.{ReceiverWord, ReachWord, word_of, keyword, IsPart, Tier}
use Rattle.am_questions.specs.Grammar.{JoinedBy, Single, operand, joined, IsOf, IsQuestion, name_of}
use Rattle.am_questions.specs.GrammarReading.{IsNotFirst, Stops, Front, at_front, Reads, ReadsPart}
use Rattle.am_questions.specs.GrammarReading.{part_at_front, Refuses}

abbrev Same : Tree Written → Tree Written → List Lexeme → List Lexeme → Type 0
Same q r ts us = (q ≡ r) × (ts ≡ us)

-- ---- A simple part, by its first lexemes.

abbrev keyword_of : List ℕ → Option Keyword
keyword_of word =
    find (λ k. same_text (word_of k) word)
    (NotWord
    ∷ JoinWord by.And
    ∷ JoinWord by.Or
    ∷ PropertyWord Any
    ∷ PropertyWord Silenced
    ∷ PropertyWord Inhibited
    ∷ ReceiverWord
    ∷ ReachWord Ends
    ∷ ReachWord Enters
    ∷ [])

keyword_found : (k : Keyword) → keyword_of (word_of k) ≡ Some k
keyword_found k = grind (arith, common_steps)

-- the part that begins with this keyword and goes on with the lexemes, and what follows it; a path
-- is not checked
abbrev part_behind : Option Keyword → List Lexeme → Option (Written × List Lexeme)
part_behind (Some (PropertyWord p)) ts = Some (WrittenIs p, ts)
part_behind (Some ReceiverWord) (lexeme ∷ ts) =
    option_map (λ name. (WrittenReceiver name, ts)) (name_of lexeme)
part_behind (Some (ReachWord reach)) (Word text ∷ ts) = Some (WrittenRoute reach text, ts)
part_behind _ _ = None

abbrev part_at : List Lexeme → Option (Written × List Lexeme)
part_at (Word word ∷ ts) = part_behind (keyword_of word) ts
part_at (BraceList list ∷ ts) = Some (WrittenBraces list, ts)
part_at _ = None

part_is_at : {ts : List Lexeme} {w : Written} → IsPart ts w → (rest : List Lexeme)
    → part_at (ts ++ rest) ≡ Some (w, rest)
part_is_at (g.property p) rest =
    ap (λ k. part_behind k rest) (keyword_found (PropertyWord p))
part_is_at (g.receiver lexeme name is) rest =
    ap (option_map (λ name. (WrittenReceiver name, rest))) is
part_is_at (g.route reach path) rest =
    ap (λ k. part_behind k (Word (path_text path) ∷ rest)) (keyword_found (ReachWord reach))
part_is_at (g.braces list) rest = refl

-- ---- A question that no connective joins, by its first lexeme.

close_stops : (rest : List Lexeme) → Stops (JoinedBy by.Or) (Close ∷ rest)
close_stops rest = (λ us e. cc, λ us e. cc)

behind_not : {ts us rest : List Lexeme} {q : Tree Written} → ts ≡ keyword NotWord ∷ us
    → Reads Single ts q rest → (r : Tree Written) × (q ≡ Not r) × Reads Single us r rest
behind_not {us = us} e (at_front {rest = rest} (g.negated {ts = ts} is) stops) =
    let behind : us ≡ ts ++ rest = cc in (_, refl, rw behind (at_front is stops))
behind_not e (at_front (g.in_parentheses is) stops) = absurd (cc)
behind_not e (at_front {rest = rest} (g.part is) stops) =
    let at = sym (part_is_at is rest) ∙ ap part_at e in absurd (cc)

behind_open : {ts us rest : List Lexeme} {q : Tree Written} → ts ≡ Open ∷ us
    → Reads Single ts q rest → Reads (JoinedBy by.Or) us q (Close ∷ rest)
behind_open e (at_front (g.negated is) stops) = absurd (cc)
behind_open {us = us} e (at_front {rest = rest} (g.in_parentheses {ts = ts} is) stops) =
    let behind : us ≡ (ts ++ (Close ∷ [])) ++ rest = cc in
    rw (behind, append_assoc) (at_front is (close_stops rest))
behind_open e (at_front {rest = rest} (g.part is) stops) =
    let at = sym (part_is_at is rest) ∙ ap part_at e in absurd (cc)

part_once : {ts us rest left : List Lexeme} {w : Written} {q : Tree Written} → IsPart ts w
    → Reads Single us q left → ts ++ rest ≡ us → Same (Part w) q rest left
part_once {rest = rest} p (at_front (g.negated is) stops) e =
    let at = sym (part_is_at p rest) ∙ ap part_at e in absurd (cc)
part_once {rest = rest} p (at_front (g.in_parentheses is) stops) e =
    let at = sym (part_is_at p rest) ∙ ap part_at e in absurd (cc)
part_once {rest = rest} p (at_front {rest = left} (g.part o) stops) e =
    let s =
    some_pair_parts _ _ rest left (sym (part_is_at p rest) ∙ ap part_at e ∙ part_is_at o left) in
    (ap Part s.0, s.1)

-- ---- Questions that a connective joins, from the first of them on.

-- these lexemes, up to the rest, join more questions to the tree on the left
data Goes (c : Connective) : Tree Written → List Lexeme → Tree Written → List Lexeme → Type 0 where
  nothing : {q : Tree Written} {rest : List Lexeme} → Stops (JoinedBy c) rest → Goes c q rest q rest
  next : {ts us rest : List Lexeme} {q r s : Tree Written} → IsOf (operand c) ts r
      → Goes c (joined c q r) us s rest → Goes c q (keyword (JoinWord c) ∷ (ts ++ us)) s rest

stops_before : (c : Connective) (us : List Lexeme) → Stops (operand c) (keyword (JoinWord c) ∷ us)
stops_before by.And us = tt
stops_before by.Or us = λ vs e. cc

stops_parts : (c : Connective) (rest : List Lexeme) → Stops (JoinedBy c) rest
    → IsNotFirst (JoinWord c) rest × Stops (operand c) rest
stops_parts by.And rest stops = (stops, tt)
stops_parts by.Or rest stops = stops

stops_both : (c : Connective) (rest : List Lexeme) → IsNotFirst (JoinWord c) rest
    → Stops (operand c) rest → Stops (JoinedBy c) rest
stops_both by.And rest none stops = none
stops_both by.Or rest none stops = (none, stops)

stops_at : {c : Connective} {q s : Tree Written} {us rest : List Lexeme} → Goes c q us s rest
    → Stops (operand c) us
stops_at {c = c} {us = us} (nothing stops) = (stops_parts c us stops).1
stops_at {c = c} (next is goes) = stops_before c _

-- the first question of those that a connective joins, and what follows it
abbrev FirstOf : Connective → List Lexeme → Tree Written → List Lexeme → Type 0
FirstOf c ts s rest =
    (q : Tree Written) × (us : List Lexeme) × Reads (operand c) ts q us × Goes c q us s rest

chain_on : {c : Connective} {ts us rest : List Lexeme} {q s : Tree Written} → IsOf (JoinedBy c) ts q
    → Goes c q us s rest → FirstOf c (ts ++ us) s rest
chain_on (g.alone is) goes = (_, _, at_front is (stops_at goes), goes)
chain_on (g.joined_on left right) goes = rw append_assoc (chain_on left (next right goes))

first_of : {c : Connective} {ts rest : List Lexeme} {s : Tree Written}
    → Reads (JoinedBy c) ts s rest → FirstOf c ts s rest
first_of (at_front is stops) = chain_on is (nothing stops)

-- what follows if the connective is first, and if it is not
one_on : {c : Connective} {ts us rest : List Lexeme} {q s : Tree Written}
    → ts ≡ keyword (JoinWord c) ∷ us → Goes c q ts s rest
    → (r : Tree Written) × (vs : List Lexeme) × Reads (operand c) us r vs
    × Goes c (joined c q r) vs s rest
one_on {c = c} {ts = ts} e (nothing stops) = absurd ((stops_parts c ts stops).0 _ e)
one_on {us = us} e (next {ts = ts} {us = vs} is goes) =
    let behind : us ≡ ts ++ vs = cc in
    (_, _, rw behind (at_front is (stops_at goes)), goes)

none_on : {c : Connective} {ts rest : List Lexeme} {q s : Tree Written}
    → IsNotFirst (JoinWord c) ts → Goes c q ts s rest → Same q s ts rest
none_on none (nothing stops) = (refl, refl)
none_on none (next is goes) = absurd (none _ refl)

carried : {c : Connective} {q p s : Tree Written} {ts us rest : List Lexeme} → Same q p ts us
    → Goes c p us s rest → Goes c q ts s rest
carried same goes = rw (same.0, same.1) goes

-- ---- Each question is read in one way.

-- a question is read in one way, whatever follows it; if a connective joins questions, what is read
-- after them continues their tree
abbrev ReadOnce : Tier → List Lexeme → Tree Written → Type 0
ReadOnce Single ts q =
    (rest left : List Lexeme) (r : Tree Written) → Reads Single (ts ++ rest) r left
    → Same q r rest left
ReadOnce (JoinedBy c) ts q =
    (rest left : List Lexeme) (s : Tree Written) → Stops (operand c) rest
    → Reads (JoinedBy c) (ts ++ rest) s left → Goes c q rest s left

once : (tier : Tier) (ts rest left : List Lexeme) (q r : Tree Written) → ReadOnce tier ts q
    → Stops tier rest → Reads tier (ts ++ rest) r left → Same q r rest left
once Single ts rest left q r h stops reads = h rest left r reads
once (JoinedBy c) ts rest left q r h stops reads =
    let parts = stops_parts c rest stops in none_on parts.0 (h rest left r parts.1 reads)

read_once : {tier : Tier} {ts : List Lexeme} {q : Tree Written} → IsOf tier ts q
    → ReadOnce tier ts q
read_once (g.alone {c = c} is) = grind (arith, common_steps, first_of, carried, once, read_once is)
read_once (g.joined_on {c = c} {us = us} {q = q} left right) = λ rest behind s stops reads.
    let goes =
    read_once left (keyword (JoinWord c) ∷ (us ++ rest)) behind s (stops_before c (us ++ rest))
    (rw append_assoc at reads) in
    let on = one_on refl goes in
    let same = once (operand c) _ _ _ _ _ (read_once right) stops on.2 in
    carried (ap (joined c q) same.0, same.1) on.3
read_once (g.negated is) = λ rest left r reads.
    let behind = behind_not refl reads in
    let same = read_once is rest left behind.0 behind.2 in (ap Not same.0 ∙ sym behind.1, same.1)
read_once (g.in_parentheses {ts = ts} is) = λ rest left r reads.
    let inside = behind_open refl (rw append_assoc at reads) in
    let same =
    once (JoinedBy by.Or) ts (Close ∷ rest) (Close ∷ left) _ r (read_once is) (close_stops rest)
    inside in (same.0, cc)
read_once (g.part is) = λ rest left r reads. part_once is reads refl

pub same_read : {tier : Tier} {ts us rest left : List Lexeme} {q r : Tree Written}
    → Reads tier ts q rest → Reads tier us r left → ts ≡ us → Same q r rest left
same_read {tier = tier} (at_front is stops) other e =
    once tier _ _ _ _ _ (read_once is) stops (rw (sym e) at other)

-- ---- Of whole lists of lexemes.

pub whole_front : {ts rest : List Lexeme} {q : Tree Written} → Reads (JoinedBy by.Or) ts q rest
    → rest ≡ [] → IsQuestion ts q
whole_front (at_front is stops) e = rw (e, append-nil) is

pub whole_read : {ts : List Lexeme} {q : Tree Written} → IsQuestion ts q
    → Reads (JoinedBy by.Or) ts q []
whole_read {ts = ts} {q = q} is =
    let front : Reads (JoinedBy by.Or) (ts ++ []) q [] = at_front is (λ us e. cc, λ us e. cc) in
    rw append-nil at front

pub one_tree : (ts : List Lexeme) (q r : Tree Written) → IsQuestion ts q → IsQuestion ts r → q ≡ r
one_tree ts q r one other = (same_read (whole_read one) (whole_read other) refl).0

pub ruleset whole_lists =
    (err_from_is_err_and, nil_from_length, eqb-true, length-map, whole_front, whole_read, same_read)

-- ---- What the code reads: questions that a connective joins.

-- the tree of what is read so far, which the connective may continue
abbrev pub SoFar : Connective → List Lexeme → Tree Written → List Lexeme → Type 0
SoFar c = Front (JoinedBy c) (operand c)

pub first_read : {c : Connective} {ts rest : List Lexeme} {q : Tree Written}
    → Reads (operand c) ts q rest → SoFar c ts q rest
first_read (at_front is stops) = at_front (g.alone is) stops

pub next_read : {c : Connective} {ts us vs rest : List Lexeme} {q r p : Tree Written}
    → p ≡ joined c q r → us ≡ keyword (JoinWord c) ∷ vs → SoFar c ts q us
    → Reads (operand c) vs r rest → SoFar c ts p rest
next_read {c = c} tree e (at_front {front = front} is _)
    (at_front {front = more} {rest = rest} right stops) =
    rw (tree, e, ← append_assoc front (keyword (JoinWord c) ∷ more) rest)
    (at_front (g.joined_on is right) stops)

pub all_read : {c : Connective} {ts rest : List Lexeme} {q : Tree Written}
    → SoFar c ts q rest → IsNotFirst (JoinWord c) rest → Reads (JoinedBy c) ts q rest
all_read {c = c} (at_front {rest = rest} is stops) none = at_front is (stops_both c rest none stops)

-- ---- What the code reads: not joined.

pub not_read : {ts us rest : List Lexeme} {q : Tree Written} → ts ≡ keyword NotWord ∷ us
    → Reads Single us q rest → Reads Single ts (Not q) rest
not_read e (at_front is stops) = rw e (at_front (g.negated is) stops)

pub inside_read : {ts us vs rest : List Lexeme} {q : Tree Written} → ts ≡ Open ∷ us
    → Reads (JoinedBy by.Or) us q vs → vs ≡ Close ∷ rest → Reads Single ts q rest
inside_read {rest = rest} e (at_front {front = front} is stops) close =
    rw (e, close, ← append_assoc front (Close ∷ []) rest) (at_front (g.in_parentheses is) tt)

pub part_read : {ts rest : List Lexeme} {w : Written} → ReadsPart ts w rest
    → Reads Single ts (Part w) rest
part_read (part_at_front is) = at_front (g.part is) tt

-- ---- What it refuses.

abbrev IsNotRead : (Tree Written → List Lexeme → Type 0) → Type 0
IsNotRead reads = (q : Tree Written) (rest : List Lexeme) → reads q rest → ⊥

pub refused_for : {kind : Kind} {R S : Tree Written → List Lexeme → Type 0}
    → (IsNotRead R → IsNotRead S) → Refuses kind R → Refuses kind S
refused_for then refused some = let why = refused some in (why.0, then why.1)

pub first_missing : {c : Connective} {ts : List Lexeme} → IsNotRead (Reads (operand c) ts)
    → IsNotRead (Reads (JoinedBy c) ts)
first_missing none q rest reads = let first = first_of reads in none first.0 first.1 first.2

pub next_missing : {c : Connective} {ts us vs : List Lexeme} {q : Tree Written}
    → us ≡ keyword (JoinWord c) ∷ vs → SoFar c ts q us → IsNotRead (Reads (operand c) vs)
    → IsNotRead (Reads (JoinedBy c) ts)
next_missing e (at_front is stops) none s left reads =
    let on = one_on e (read_once is _ left s stops reads) in none on.0 on.1 on.2

pub not_missing : {ts us : List Lexeme} → ts ≡ keyword NotWord ∷ us
    → IsNotRead (Reads Single us) → IsNotRead (Reads Single ts)
not_missing e none q rest reads = let behind = behind_not e reads in none behind.0 rest behind.2

pub inside_missing : {ts us : List Lexeme} → ts ≡ Open ∷ us
    → IsNotRead (Reads (JoinedBy by.Or) us) → IsNotRead (Reads Single ts)
inside_missing e none q rest reads = none q (Close ∷ rest) (behind_open e reads)

pub close_missing : {ts us vs : List Lexeme} {r : Tree Written} → ts ≡ Open ∷ us
    → Reads (JoinedBy by.Or) us r vs → ((rest : List Lexeme) → vs ≢ Close ∷ rest)
    → IsNotRead (Reads Single ts)
close_missing e inside none q rest reads =
    none rest (same_read inside (behind_open e reads) refl).1

pub part_missing : {ts : List Lexeme} → IsNotFirst NotWord ts
    → ((us : List Lexeme) → ts ≢ Open ∷ us)
    → ((w : Written) (rest : List Lexeme) → ReadsPart ts w rest → ⊥) → IsNotRead (Reads Single ts)
part_missing no_not no_open no_part q rest (at_front (g.negated is) stops) = no_not _ refl
part_missing no_not no_open no_part q rest (at_front (g.in_parentheses is) stops) = no_open _ refl
part_missing no_not no_open no_part q rest (at_front (g.part is) stops) =
    no_part _ rest (part_at_front is)
