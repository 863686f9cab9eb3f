-- The members with some names, of members that go in one after another.
use Rattle.std.proofs.Common.{◌≡◌, ℕ, List, Bool, true, false, Ordering, Less, Equal, Greater}
use Rattle.std.proofs.Common.{is_eq, nat_cmp, refl, sym, ap, ◌∙◌}
use Rattle.std.specs.Prelude.{⊤, if◌then◌else◌}
use Rattle.std.specs.Cmp.Lexicographic.{slice_cmp}
use Rattle.std.specs.Ordering.{match_ordering, ordering_reverse}
use Rattle.std.proofs.lemmas.Cmp.{nat_list_cmp_total}
use Rattle.std.proofs.lemmas.Map.Text.{is_eq-slice_cmp}
use Rattle.std.proofs.lemmas.Slice.Eq.{bytes_eq-Decides}
use Rattle.serde_json.specs.Data.{Data, Members, no_members, member, put}
use Rattle.am_json.specs.Json.{is_one_of, only_members}

-- ---- Members in the order of their keys.

abbrev IsBelow : List ℕ → List ℕ → Type 0
IsBelow key other = slice_cmp nat_cmp key other ≡ Less

-- the key is below those of all members
abbrev IsBelowAll : List ℕ → Members → Type 0
IsBelowAll key no_members = ⊤
IsBelowAll key (member other d rest) = IsBelow key other × IsBelowAll key rest

-- the keys of the members ascend
abbrev pub Ascend : Members → Type 0
Ascend no_members = ⊤
Ascend (member key d rest) = IsBelowAll key rest × Ascend rest

below_too : (key other : List ℕ) (ms : Members) → IsBelow key other → IsBelowAll other ms
    → IsBelowAll key ms
below_too key other no_members lt below = tt
below_too key other (member first d rest) lt below =
    (nat_list_cmp_total.trans key other first lt below.0, below_too key other rest lt below.1)

-- keys that compare as equal are the same
pub same_key : (key other : List ℕ) → slice_cmp nat_cmp key other ≡ Equal → key ≡ other
same_key key other e =
    (bytes_eq-Decides key other).0 (sym (is_eq-slice_cmp key other) ∙ ap is_eq e)

above : (key other : List ℕ) → slice_cmp nat_cmp key other ≡ Greater → IsBelow other key
above key other e = nat_list_cmp_total.antisymm other key ∙ ap ordering_reverse e

below_put_at : (o : Ordering) (low key other : List ℕ) (d e : Data) (rest : Members)
    → IsBelow low key → IsBelowAll low (member other e rest) → IsBelowAll low (put key d rest)
    → IsBelowAll low (match_ordering o (member key d (member other e rest)) (member other d rest)
    (member other e (put key d rest)))
below_put_at Less low key other d e rest lt below later = (lt, below)
below_put_at Equal low key other d e rest lt below later = below
below_put_at Greater low key other d e rest lt below later = (below.0, later)

below_put : (low key : List ℕ) (d : Data) (ms : Members) → IsBelow low key → IsBelowAll low ms
    → IsBelowAll low (put key d ms)
below_put low key d no_members lt below = (lt, tt)
below_put low key d (member other e rest) lt below =
    below_put_at (slice_cmp nat_cmp key other) low key other d e rest lt below
    (below_put low key d rest lt below.1)

put_ascends_at : (o : Ordering) (key other : List ℕ) (d e : Data) (rest : Members)
    → slice_cmp nat_cmp key other ≡ o → Ascend (member other e rest) → Ascend (put key d rest)
    → Ascend (match_ordering o (member key d (member other e rest)) (member other d rest)
    (member other e (put key d rest)))
put_ascends_at Less key other d e rest is ascend later =
    ((is, below_too key other rest is ascend.0), ascend)
put_ascends_at Equal key other d e rest is ascend later = ascend
put_ascends_at Greater key other d e rest is ascend later =
    (below_put other key d rest (above key other is) ascend.0, later)

pub put_ascends : (key : List ℕ) (d : Data) (ms : Members) → Ascend ms → Ascend (put key d ms)
put_ascends key d no_members ascend = (tt, tt)
put_ascends key d (member other e rest) ascend =
    put_ascends_at (slice_cmp nat_cmp key other) key other d e rest refl ascend
    (put_ascends key d rest ascend.1)

put_first : (key : List ℕ) (d : Data) (ms : Members) → IsBelowAll key ms
    → put key d ms ≡ member key d ms
put_first key d no_members below = refl
put_first key d (member other e rest) below = rw below.0 refl

-- ---- Only the members with some names.

module _ (names : List (List ℕ)) where
  -- the first member stays exactly if its key is one of the names
  first_stays : (key : List ℕ) (d : Data) (rest : Members) → is_one_of key names ≡ true
      → only_members names (member key d rest) ≡ member key d (only_members names rest)
  first_stays key d rest named = rw named refl

  first_goes : (key : List ℕ) (d : Data) (rest : Members) → is_one_of key names ≡ false
      → only_members names (member key d rest) ≡ only_members names rest
  first_goes key d rest unnamed = rw unnamed refl

  below_one : (b : Bool) (low key : List ℕ) (d : Data) (rest : Members) → IsBelow low key
      → IsBelowAll low rest → IsBelowAll low (if b then member key d rest else rest)
  below_one true low key d rest lt below = (lt, below)
  below_one false low key d rest lt below = below

  below_only : (low : List ℕ) (ms : Members) → IsBelowAll low ms
      → IsBelowAll low (only_members names ms)
  below_only low no_members below = tt
  below_only low (member key d rest) below =
      below_one (is_one_of key names) low key d (only_members names rest) below.0
      (below_only low rest below.1)

  past_one : (b : Bool) (key other : List ℕ) (d e : Data) (rest : Members)
      → slice_cmp nat_cmp key other ≡ Greater
      → (if b then member other e (put key d rest) else put key d rest)
      ≡ put key d (if b then member other e rest else rest)
  past_one true key other d e rest is = rw is refl
  past_one false key other d e rest is = refl

  named_at : (o : Ordering) (key other : List ℕ) (d e : Data) (rest : Members)
      → slice_cmp nat_cmp key other ≡ o → Ascend (member other e rest)
      → is_one_of key names ≡ true
      → only_members names (put key d rest) ≡ put key d (only_members names rest)
      → only_members names (match_ordering o (member key d (member other e rest))
      (member other d rest) (member other e (put key d rest)))
      ≡ put key d (only_members names (member other e rest))
  named_at Less key other d e rest is ascend named later =
      first_stays key d (member other e rest) named
      ∙ sym (put_first key d (only_members names (member other e rest))
      (below_only key (member other e rest) (is, below_too key other rest is ascend.0)))
  named_at Equal key other d e rest is ascend named later =
      let too : is_one_of other names ≡ true = rw (← same_key key other is) named in
      rw (too, is) refl
  named_at Greater key other d e rest is ascend named later =
      rw later (past_one (is_one_of other names) key other d e (only_members names rest) is)

  -- a member whose key is one of the names
  pub put_named : (key : List ℕ) (d : Data) (ms : Members) → Ascend ms
      → is_one_of key names ≡ true
      → only_members names (put key d ms) ≡ put key d (only_members names ms)
  put_named key d no_members ascend named = first_stays key d no_members named
  put_named key d (member other e rest) ascend named =
      named_at (slice_cmp nat_cmp key other) key other d e rest refl ascend named
      (put_named key d rest ascend.1 named)

  unnamed_at : (o : Ordering) (key other : List ℕ) (d e : Data) (rest : Members)
      → slice_cmp nat_cmp key other ≡ o → is_one_of key names ≡ false
      → only_members names (put key d rest) ≡ only_members names rest
      → only_members names (match_ordering o (member key d (member other e rest))
      (member other d rest) (member other e (put key d rest)))
      ≡ only_members names (member other e rest)
  unnamed_at Less key other d e rest is unnamed later =
      first_goes key d (member other e rest) unnamed
  unnamed_at Equal key other d e rest is unnamed later =
      let too : is_one_of other names ≡ false = rw (← same_key key other is) unnamed in
      first_goes other d rest too ∙ sym (first_goes other e rest too)
  unnamed_at Greater key other d e rest is unnamed later = rw later refl

  -- any other member
  pub put_unnamed : (key : List ℕ) (d : Data) (ms : Members) → is_one_of key names ≡ false
      → only_members names (put key d ms) ≡ only_members names ms
  put_unnamed key d no_members unnamed = first_goes key d no_members unnamed
  put_unnamed key d (member other e rest) unnamed =
      unnamed_at (slice_cmp nat_cmp key other) key other d e rest refl unnamed
      (put_unnamed key d rest unnamed)
