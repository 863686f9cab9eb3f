-- Kinds of characters, split by sets, and bytes that are enough.
use Rattle.std.proofs.Common.{◌≡◌, ◌⊎◌, inl, inr, ℕ, zero, suc, ◌+◌, ◌<◌, ◌≤◌, true, false, not, ◌&&◌, ◌||◌, eqb, List, [], ◌∷◌, map, take, length, Result, Ok, IfOk, Some, get_or, slice_get, refl, sym, ap, ap₂, subst, ◌∙◌, arith, eq-eqb, eqb-true, ne_eqb, lt-ltb, le-ltb, le-leb}
use Rattle.std.specs.Char.{IsScalar, len_utf8}
use Rattle.std.specs.Cmp.Lexicographic.{pointwise}
use Rattle.std.specs.List.{AllByRecursion, list_all}
use Rattle.std.proofs.lemmas.Bool.{and_from, and_parts, cases_Bool, cases_lt, false≢true, not-true, not_from_false, or_cases, or_left, or_right}
use Rattle.std.proofs.lemmas.List.Sums.{list_all-from_AllPass}
use Rattle.std.proofs.lemmas.Option.{same_Some}
use Rattle.std.proofs.lemmas.Str.{encode_ascii}
use lib.Utf8.{encode, low_scalar, scalar_cases}
use Rattle.regex_class.specs.Ranges.{HasExactly, Range, in_range, in_ranges}
use Rattle.regex_class.specs.declared.Class.{Class}
use Rattle.regex_class.proofs.RangesLemmas.{in_range_tells, in_ranges-cons, in_ranges-nil}
use Rattle.am_scan.specs.declared.byte_set.ByteSet.{ByteSet}
use Rattle.am_scan.specs.declared.character_sets.CharacterSets.{CharacterSets}
use Rattle.am_scan.specs.Automaton.{Grows}
use Rattle.am_scan.specs.Characters.{AreOfOneKind, AreParts, AreSplit, HasFirst, HasMember, HaveRepresentatives, Widens}
use Rattle.am_scan.specs.Closure.{contains}
use Rattle.am_scan.specs.Sight.{is_scanned, IsScanned}
use Rattle.am_scan.proofs.AlikeTexts.{char_below}
use Rattle.am_scan.proofs.Places.{all_at_place, get_kept, get_last, get_pushed, take_front}

-- bytes that were in a set still are
pub wider : (old new : ByteSet) → Widens old new → (xs : List ℕ) → list_all (is_scanned old) xs ≡ true → list_all (is_scanned new) xs ≡ true
wider old new widens [] h = refl
wider old new widens (x ∷ xs) h =
    let both = and_parts (is_scanned old x) _ h in
    and_from _ _ (widens x both.0) (wider old new widens xs both.1)

-- lists of pairs are the same if their pairs are
pub pairs_same : (xs ys : List (ℕ × ℕ)) → pointwise (λ a b. eqb a.0 b.0 && eqb a.1 b.1) xs ys ≡ true → xs ≡ ys
pairs_same [] [] h = refl
pairs_same [] (y ∷ ys) h = absurd cc
pairs_same (x ∷ xs) [] h = absurd cc
pairs_same (x ∷ xs) (y ∷ ys) h =
    let both = and_parts (eqb x.0 y.0 && eqb x.1 y.1) _ h in
    let parts = and_parts (eqb x.0 y.0) _ both.0 in
    ap₂ ◌∷◌ (ap₂ (λ a b. (a, b)) (eqb-true x.0 y.0 parts.0) (eqb-true x.1 y.1 parts.1)) (pairs_same xs ys both.1)

-- ---- The class of some characters.

own_range : (y c : ℕ) → in_range (y, y) c ≡ eqb y c
own_range y c = elim (in_range_tells (y, y) c) [
  | inl inside ↦ inside.0 ∙ sym (eq-eqb y c (omega (arith, inside.1, inside.2)))
  | inr outside ↦ outside.0 ∙ sym (ne_eqb y c (λ e. elim outside.1 [ inl less ↦ omega (arith, less, e) | inr more ↦ omega (arith, more, e) ]))
]

pub in_singles : (ys : List ℕ) (c : ℕ) → in_ranges (map (λ y. (y, y)) ys) c ≡ contains ys c
in_singles [] c = in_ranges-nil c
in_singles (y ∷ ys) c = in_ranges-cons (y, y) (map (λ x. (x, x)) ys) c ∙ ap₂ ◌||◌ (own_range y c) (in_singles ys c)

pub exact_class : {E : Type 0} (r : Result Class E) (ranges : List Range) (ys : List ℕ) → ranges ≡ map (λ y. (y, y)) ys →
    IfOk r (λ class. HasExactly class.ranges.items (in_ranges ranges)) → IfOk r (λ class. HasExactly class.ranges.items (contains ys))
exact_class (Ok class) ranges ys is h = λ c below. h c below ∙ ap (λ rs. in_ranges rs c) is ∙ in_singles ys c
exact_class r ranges ys is h = tt

-- ---- Parts.

-- the characters above the surrogates, and how far characters go
high_scalar : (c : ℕ) → 0xE000 ≤ c → c ≤ 0x10_FFFF → IsScalar c
high_scalar c from to = rw (le-ltb c 55296 (omega (arith, from)), le-leb 57344 c (omega (arith, from)), lt-ltb c 1114112 (omega (arith, to))) refl

scalar_below : (c : ℕ) → IsScalar c → c ≤ 0x10_FFFF
scalar_below c scalar = elim (scalar_cases c scalar) [ inl low ↦ omega (arith, low) | inr high ↦ omega (arith, high.1) ]

-- the members of one range
in_one : (lo hi c : ℕ) → lo ≤ c → c ≤ hi → (rs : List Range) → in_ranges ((lo, hi) ∷ rs) c ≡ true
in_one lo hi c from to rs =
    in_ranges-cons (lo, hi) rs c ∙ or_left _ _ (elim (in_range_tells (lo, hi) c) [
      | inl inside ↦ inside.0
      | inr outside ↦ absurd (elim outside.1 [ inl less ↦ omega (arith, less, from) | inr more ↦ omega (arith, more, to) ])
    ])

of_cons : (lo hi c : ℕ) (rs : List Range) → in_ranges ((lo, hi) ∷ rs) c ≡ true → ((lo ≤ c) × (c ≤ hi)) ⊎ (in_ranges rs c ≡ true)
of_cons lo hi c rs has_it = elim (or_cases _ _ (sym (in_ranges-cons (lo, hi) rs c) ∙ has_it)) [
  | inl here ↦ elim (in_range_tells (lo, hi) c) [ inl inside ↦ inl (inside.1, inside.2) | inr outside ↦ absurd (false≢true (sym outside.0 ∙ here)) ]
  | inr later ↦ inr later
]

of_nil : (c : ℕ) → in_ranges [] c ≡ true → ⊥
of_nil c has_it = let no = in_ranges-nil c in absurd cc

-- Characters of so many bytes, without those that stand by themselves.
record IsBand (singles : List ℕ) (n : ℕ) (part : Class) : Type 0 where
  scalar : (c : ℕ) → c ≤ 0x10_FFFF → in_ranges part.ranges.items c ≡ true → IsScalar c
  wide : (c : ℕ) → c ≤ 0x10_FFFF → in_ranges part.ranges.items c ≡ true → 128 ≤ c
  len : (c : ℕ) → c ≤ 0x10_FFFF → in_ranges part.ranges.items c ≡ true → len_utf8 c ≡ n
  free : (c : ℕ) → c ≤ 0x10_FFFF → in_ranges part.ranges.items c ≡ true → contains singles c ≡ false

module _ (singles : List ℕ) (s : Class) (exact : HasExactly s.ranges.items (contains singles)) where
  -- what is left of a class has the class's members but the singles
  left : (whole part : Class) → HasExactly part.ranges.items (λ c. in_ranges whole.ranges.items c && not (in_ranges s.ranges.items c)) →
      (c : ℕ) → c ≤ 0x10_FFFF → in_ranges part.ranges.items c ≡ true → (in_ranges whole.ranges.items c ≡ true) × (contains singles c ≡ false)
  left whole part is c below has_it =
      let both = and_parts (in_ranges whole.ranges.items c) _ (sym (is c below) ∙ has_it) in
      (both.0, sym (exact c below) ∙ not-true (in_ranges s.ranges.items c) both.1)

  kept : (whole part : Class) → HasExactly part.ranges.items (λ c. in_ranges whole.ranges.items c && not (in_ranges s.ranges.items c)) →
      (c : ℕ) → c ≤ 0x10_FFFF → in_ranges whole.ranges.items c ≡ true → contains singles c ≡ false → in_ranges part.ranges.items c ≡ true
  kept whole part is c below has_it free = is c below ∙ and_from _ _ has_it (not_from_false _ (exact c below ∙ free))

  band : (n : ℕ) (whole part : Class) → HasExactly part.ranges.items (λ c. in_ranges whole.ranges.items c && not (in_ranges s.ranges.items c)) →
      ((c : ℕ) → c ≤ 0x10_FFFF → in_ranges whole.ranges.items c ≡ true → IsScalar c × (128 ≤ c) × (len_utf8 c ≡ n)) → IsBand singles n part
  band n whole part is each = record {
    scalar = λ c below has_it. (each c below (left whole part is c below has_it).0).0;
    wide = λ c below has_it. (each c below (left whole part is c below has_it).0).1;
    len = λ c below has_it. (each c below (left whole part is c below has_it).0).2;
    free = λ c below has_it. (left whole part is c below has_it).1;
  }

-- two members of one band are of one kind
of_band : (singles : List ℕ) (n : ℕ) (part : Class) → IsBand singles n part → (c d : ℕ) → c ≤ 0x10_FFFF → d ≤ 0x10_FFFF →
    in_ranges part.ranges.items c ≡ true → in_ranges part.ranges.items d ≡ true → AreOfOneKind [] singles c d
of_band singles n part h c d below under has_it also = record {
  wide = (h.wide c below has_it, h.wide d under also);
  len = h.len c below has_it ∙ sym (h.len d under also);
  same = λ k set at. absurd cc;
  free = (h.free c below has_it, h.free d under also);
}

-- what is so of each of three parts
of_three : (P : Class → Type 0) (a b d : Class) → P a → P b → P d → (k : ℕ) (part : Class) → slice_get (a ∷ b ∷ d ∷ []) k ≡ Some part → P part
of_three P a b d x y z zero part at = subst P (same_Some a part at) x
of_three P a b d x y z (suc zero) part at = subst P (same_Some b part at) y
of_three P a b d x y z (suc (suc zero)) part at = subst P (same_Some d part at) z
of_three P a b d x y z (suc (suc (suc k))) part at = absurd cc

module _ (singles : List ℕ) (s two three four a b d : Class) (exact : HasExactly s.ranges.items (contains singles))
    (is_two : HasExactly two.ranges.items (in_ranges ((0x80, 0x7FF) ∷ [])))
    (is_three : HasExactly three.ranges.items (in_ranges ((0x800, 0xD7FF) ∷ (0xE000, 0xFFFF) ∷ [])))
    (is_four : HasExactly four.ranges.items (in_ranges ((0x1_0000, 0x10_FFFF) ∷ [])))
    (is_a : HasExactly a.ranges.items (λ c. in_ranges two.ranges.items c && not (in_ranges s.ranges.items c)))
    (is_b : HasExactly b.ranges.items (λ c. in_ranges three.ranges.items c && not (in_ranges s.ranges.items c)))
    (is_d : HasExactly d.ranges.items (λ c. in_ranges four.ranges.items c && not (in_ranges s.ranges.items c))) where
  band_two : IsBand singles 2 a
  band_two = band singles s exact 2 two a is_a (λ c below has_it. elim (of_cons 0x80 0x7FF c [] (sym (is_two c below) ∙ has_it)) [
    | inl in_it ↦ (low_scalar c (omega (arith, in_it.1)), in_it.0, rw (le-ltb c 0x80 in_it.0, lt-ltb c 0x800 (omega (arith, in_it.1))) refl)
    | inr none ↦ absurd (of_nil c none)
  ])

  band_three : IsBand singles 3 b
  band_three = band singles s exact 3 three b is_b (λ c below has_it. elim (of_cons 0x800 0xD7FF c _ (sym (is_three c below) ∙ has_it)) [
    | inl in_it ↦ (
      low_scalar c (omega (arith, in_it.1)),
      omega (arith, in_it.0),
      rw (le-ltb c 0x80 (omega (arith, in_it.0)), le-ltb c 0x800 in_it.0, lt-ltb c 0x1_0000 (omega (arith, in_it.1))) refl,
    )
    | inr more ↦ elim (of_cons 0xE000 0xFFFF c [] more) [
      | inl in_it ↦ (
        high_scalar c in_it.0 (omega (arith, in_it.1)),
        omega (arith, in_it.0),
        rw (le-ltb c 0x80 (omega (arith, in_it.0)), le-ltb c 0x800 (omega (arith, in_it.0)), lt-ltb c 0x1_0000 (omega (arith, in_it.1))) refl,
      )
      | inr none ↦ absurd (of_nil c none)
    ]
  ])

  band_four : IsBand singles 4 d
  band_four = band singles s exact 4 four d is_d (λ c below has_it. elim (of_cons 0x1_0000 0x10_FFFF c [] (sym (is_four c below) ∙ has_it)) [
    | inl in_it ↦ (
      high_scalar c (omega (arith, in_it.0)) (omega (arith, in_it.1)),
      omega (arith, in_it.0),
      rw (le-ltb c 0x80 (omega (arith, in_it.0)), le-ltb c 0x800 (omega (arith, in_it.0)), le-ltb c 0x1_0000 in_it.0) refl,
    )
    | inr none ↦ absurd (of_nil c none)
  ])

  pub AreParts-first : AreParts [] singles (a ∷ b ∷ d ∷ [])
  AreParts-first = record {
    all = λ c scalar wide free. elim (scalar_cases c scalar) [
      | inl low ↦ elim (cases_lt c 0x800) [
        | inl short ↦ (0, a, refl, kept singles s exact two a is_a c (omega (arith, low)) (is_two c (omega (arith, low)) ∙ in_one 0x80 0x7FF c wide (omega (arith, short)) []) free)
        | inr long ↦ (1, b, refl, kept singles s exact three b is_b c (omega (arith, low)) (is_three c (omega (arith, low)) ∙ in_one 0x800 0xD7FF c long (omega (arith, low)) _) free)
      ]
      | inr high ↦ elim (cases_lt c 0x1_0000) [
        | inl short ↦ (
          1,
          b,
          refl,
          kept singles s exact three b is_b c (omega (arith, short))
              (is_three c (omega (arith, short)) ∙ in_ranges-cons (0x800, 0xD7FF) _ c ∙ or_right _ _ (in_one 0xE000 0xFFFF c high.0 (omega (arith, short)) [])) free,
        )
        | inr long ↦ (2, d, refl, kept singles s exact four d is_d c (omega (arith, high.1)) (is_four c (omega (arith, high.1)) ∙ in_one 0x1_0000 0x10_FFFF c long (omega (arith, high.1)) []) free)
      ]
    ];
    own = λ k c part at below has_it. of_three (λ x. in_ranges x.ranges.items c ≡ true → IsScalar c) a b d (band_two.scalar c below) (band_three.scalar c below) (band_four.scalar c below) k part at has_it;
    alike = λ k c e part at below under has_it also.
        of_three (λ x. in_ranges x.ranges.items c ≡ true → in_ranges x.ranges.items e ≡ true → AreOfOneKind [] singles c e) a b d
        (of_band singles 2 a band_two c e below under) (of_band singles 3 b band_three c e below under) (of_band singles 4 d band_four c e below under) k part at has_it also;
  }

-- a member stays one when sets are added
member_kept : (old new : List Class) (c : ℕ) → Grows old new → HasMember old c → HasMember new c
member_kept old new c grows has = (has.0, has.1, grows has.0 has.1 has.2, has.3)

-- one more part is split
pub AreSplit-more : (parts : List Class) (i : ℕ) (part : Class) (set : List Range) (old mid new : List Class) (inner outer : Class) →
    i < length parts → part ≡ get_or parts i part → AreSplit (take i parts) set old →
    HasExactly inner.ranges.items (λ c. in_ranges part.ranges.items c && in_ranges set c) →
    HasExactly outer.ranges.items (λ c. in_ranges part.ranges.items c && not (in_ranges set c)) →
    Grows old mid → ((k : ℕ) (one : Class) → slice_get mid k ≡ Some one → (slice_get old k ≡ Some one) ⊎ (one ≡ inner)) →
    ((c : ℕ) → in_ranges inner.ranges.items c ≡ true → HasMember mid c) →
    Grows mid new → ((k : ℕ) (one : Class) → slice_get new k ≡ Some one → (slice_get mid k ≡ Some one) ⊎ (one ≡ outer)) →
    ((c : ℕ) → in_ranges outer.ranges.items c ≡ true → HasMember new c) → AreSplit (take (i + 1) parts) set new
AreSplit-more parts i part set old mid new inner outer within is h is_inner is_outer grows from has grow_on from_then has_then =
    let longer = take_front parts i part within is in
    let last : slice_get (take (i + 1) parts) (length (take i parts)) ≡ Some part = rw longer (get_last (take i parts) part) in
    rw longer (record {
      all = λ c below member.
          elim (get_pushed (take i parts) part member.1 member.0 member.2) [
            | inl before ↦ member_kept mid new c grow_on (member_kept old mid c grows (h.all c below (member.0, member.1, before, member.3)))
            | inr here ↦ (
                let has_it : in_ranges part.ranges.items c ≡ true = subst (λ x. in_ranges x.ranges.items c ≡ true) (sym here.1) member.3 in
                elim (cases_Bool (in_ranges set c)) [
                  | inl inside ↦ member_kept mid new c grow_on (has c (is_inner c below ∙ and_from _ _ has_it inside))
                  | inr outside ↦ has_then c (is_outer c below ∙ and_from _ _ has_it (not_from_false _ outside))
                ])
          ];
      within = λ k piece at.
          elim (from_then k piece at) [
            | inl there ↦ elim (from k piece there) [
              | inl before ↦ (let w = h.within k piece before in (w.0, w.1, get_kept (take i parts) (part ∷ []) w.1 w.0 w.2, w.3, w.4))
              | inr same ↦ (
                length (take i parts),
                part,
                get_last (take i parts) part,
                (λ c below has_it. (and_parts _ _ (sym (is_inner c below) ∙ subst (λ x. in_ranges x.ranges.items c ≡ true) same has_it)).0),
                (λ c d below under has_it also.
                    (and_parts (in_ranges part.ranges.items c) _ (sym (is_inner c below) ∙ subst (λ x. in_ranges x.ranges.items c ≡ true) same has_it)).1
                    ∙ sym (and_parts (in_ranges part.ranges.items d) _ (sym (is_inner d under) ∙ subst (λ x. in_ranges x.ranges.items d ≡ true) same also)).1),
              )
            ]
            | inr same ↦ (
              length (take i parts),
              part,
              get_last (take i parts) part,
              (λ c below has_it. (and_parts _ _ (sym (is_outer c below) ∙ subst (λ x. in_ranges x.ranges.items c ≡ true) same has_it)).0),
              (λ c d below under has_it also.
                  not-true _ (and_parts (in_ranges part.ranges.items c) _ (sym (is_outer c below) ∙ subst (λ x. in_ranges x.ranges.items c ≡ true) same has_it)).1
                  ∙ sym (not-true _ (and_parts (in_ranges part.ranges.items d) _ (sym (is_outer d under) ∙ subst (λ x. in_ranges x.ranges.items d ≡ true) same also)).1)),
            )
          ];
    })

-- parts that are split by one more set
pub AreParts-split : (sets : List Class) (i : ℕ) (set : Class) (singles : List ℕ) (parts pieces : List Class) →
    i < length sets → set ≡ get_or sets i set → AreParts (take i sets) singles parts → AreSplit parts set.ranges.items pieces →
    AreParts (take (i + 1) sets) singles pieces
AreParts-split sets i set singles parts pieces within is h split =
    rw (take_front sets i set within is) (record {
      all = λ c scalar wide free. split.all c (scalar_below c scalar) (h.all c scalar wide free);
      own = λ k c piece at below has_it. let w = split.within k piece at in h.own w.0 c w.1 w.2 below (w.3 c below has_it);
      alike = λ k c d piece at below under has_it also.
          let w = split.within k piece at in
          let kind = h.alike w.0 c d w.1 w.2 below under (w.3 c below has_it) (w.3 d under also) in record {
            wide = kind.wide;
            len = kind.len;
            same = λ j one there.
                elim (get_pushed (take i sets) set one j there) [
                  | inl before ↦ kind.same j one before
                  | inr here ↦ subst (λ x. in_ranges x.ranges.items c ≡ in_ranges x.ranges.items d) here.1 (w.4 c d below under has_it also)
                ];
            free = kind.free;
          };
    })

-- ---- Bytes that are enough.

-- the bytes of one more character, or of the first of one more part, are there
pub first_wider : (old new : ByteSet) → Widens old new → (part : Class) → HasFirst part.ranges.items old → HasFirst part.ranges.items new
first_wider old new widens part has c has_it =
    let d = has c has_it in (d.0, d.1, d.2, λ scalar. wider old new widens (encode d.0) (d.3 scalar))

-- what is so of all elements is so of one that is contained
all_contained : (P : ℕ → Type 0) (xs : List ℕ) (c : ℕ) → AllByRecursion P xs → contains xs c ≡ true → P c
all_contained P [] c all has_it = absurd cc
all_contained P (x ∷ xs) c all has_it = elim (or_cases (eqb x c) _ has_it) [
  | inl here ↦ subst P (eqb-true x c here) all.0
  | inr later ↦ all_contained P xs c all.1 later
]

-- in the end, each character is alike to one that has only these bytes
pub representatives : (s : CharacterSets) (bytes : ByteSet) (parts : List Class) → ((b : ℕ) → b < 128 → is_scanned bytes b ≡ true) →
    AllByRecursion (λ c. IsScanned bytes (encode c)) s.singles.items → AreParts s.sets.items s.singles.items parts →
    AllByRecursion (λ part. HasFirst part.ranges.items bytes) parts → HaveRepresentatives s bytes
representatives s bytes parts ascii singles are firsts c scalar =
    elim (cases_lt c 128) [
      | inl small ↦ (c, scalar, inl refl, rw (encode_ascii c small) (and_from _ _ (ascii c small) refl))
      | inr wide ↦ elim (cases_Bool (contains s.singles.items c)) [
        | inl alone ↦ (c, scalar, inl refl, all_contained (λ x. IsScanned bytes (encode x)) s.singles.items c singles alone)
        | inr free ↦ (
            let in_part = are.all c scalar wide free in
            let first = all_at_place (λ part. HasFirst part.ranges.items bytes) parts in_part.0 in_part.1 firsts in_part.2 c in_part.3 in
            let own = are.own in_part.0 first.0 in_part.1 in_part.2 first.1 first.2 in
            (first.0, own, inr (are.alike in_part.0 c first.0 in_part.1 in_part.2 (scalar_below c scalar) first.1 in_part.3 first.2), first.3 own))
      ]
    ]

-- so it is with all bytes
pub all_bytes : (s : CharacterSets) (bytes : ByteSet) → ((b : ℕ) → b < 256 → is_scanned bytes b ≡ true) → HaveRepresentatives s bytes
all_bytes s bytes full c scalar =
    (c, scalar, inl refl, list_all-from_AllPass (is_scanned bytes) (encode c) (λ k d within. full _ (char_below c scalar k d within)))
