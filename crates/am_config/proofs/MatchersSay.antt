-- The matchers of three fields: a value says them exactly if reading them finds no fault.
use Rattle.std.proofs.Common.{◌≡◌, ◌⊎◌, ◌+◌, ◌≤◌, ℕ, List, [], ◌∷◌, ◌++◌, length, Bool, true, false}
use Rattle.std.proofs.Common.{Option, Some, None, Result, inl, inr, refl, sym, ap, subst, ◌∙◌}
use Rattle.std.proofs.Common.{append_assoc, append-nil, length-append, arith}
use Rattle.std.specs.Prelude.{IsTrue}
use Rattle.std.specs.List.{AllZip, flat_map, enumerate_from}
use Rattle.std.proofs.lemmas.Bool.{and_parts, and_from}
use Rattle.std.proofs.lemmas.List.Folds.{list_all-append}
use Rattle.std.proofs.lemmas.Option.{option_and_then_some}
use Rattle.serde_json.specs.Data.{Data, object, Members}
use Rattle.am_labels.specs.declared.op.Op.{Op}
use Rattle.am_labels.specs.declared.op.Op.TheVariants.{Equal, Matches}
use Rattle.am_labels.specs.declared.limits.TheConstants.{MAX_MATCHERS}
use Rattle.am_labels.specs.Matcher.{Matcher}
use Rattle.am_labels.specs.MatcherRefusals.{has_valid_pattern, have_valid_patterns}
use Rattle.am_json.specs.Json.{field, items_of, member_list}
use Rattle.am_json.specs.OptionalItems.{HasItems}
use Rattle.am_json.specs.Pointer.{Refusal, to_field, to_item}
use Rattle.am_json.specs.Reading.{read_each, result_then}
use Rattle.am_config.specs.ConfigFile.{MatcherFields, SaysMatcherPair, SaysPairs, SaysMatchers}
use Rattle.am_config.specs.ConfigForm.{append_matchers, given_fault}
use Rattle.am_config.specs.ConfigForm.{matcher_pair_form, matchers_form, next_pair_form}
use Rattle.am_config.specs.ConfigForm.{next_text_form, optional_pairs, optional_texts, pairs_form}
use Rattle.am_config.specs.ConfigForm.{refuse_root_matchers, texts_form}
use Rattle.am_json.proofs.Deciding.{accept_decides, as_items_decides, as_object_decides}
use Rattle.am_json.proofs.Deciding.{as_text_decides, cause_decides, count_decides}
use Rattle.am_json.proofs.Deciding.{optional_decides, said_as, then_decides, then_decides_where}
use Rattle.am_json.proofs.Deciding.{within_decides}
use Rattle.am_json.proofs.Readings.{Decides}
use Rattle.am_list_files.proofs.Matching.{checked_matcher_decides, same_matcher}
use Rattle.am_list_files.proofs.MatcherTexts.{spelled_decides}
use Rattle.am_list_files.proofs.NamedTextLemmas.{named_text_decides}
use Rattle.am_list_files.specs.MatcherTexts.{SaysMatcherText}

-- ---- Matchers behind others.

-- matchers that are said, behind others: in all there are not too many, and if only the top-level
-- route has them, none
pub record Adds (is_root : Bool) (Says : List Matcher → Type 0) (before all : List Matcher)
    : Type 0 where
  pub matchers : List Matcher
  pub says : Says matchers
  pub are : before ++ matchers ≡ all
  pub valid_patterns : IsTrue (have_valid_patterns matchers)
  pub few : length all ≤ MAX_MATCHERS
  pub root : is_root ≡ true → all ≡ []

abbrev Parted : (List Matcher → Type 0) → (List Matcher → Type 0) → List Matcher → Type 0
Parted P Q ms =
    (front : List Matcher) × (rest : List Matcher) × P front × Q rest × (front ++ rest ≡ ms)

none_front : (xs ys : List Matcher) → xs ++ ys ≡ [] → xs ≡ []
none_front [] ys h = refl
none_front (x ∷ xs) ys h = absurd cc

module _ {is_root : Bool} {before : List Matcher} where
  -- the same matchers, of which this is said
  adds_to : {P Q : List Matcher → Type 0} {all : List Matcher} {root : Bool}
      → (adds : Adds root P before all) → Q adds.matchers → (is_root ≡ true → all ≡ [])
      → Adds is_root Q before all
  adds_to adds said root = record {
    matchers = adds.matchers;
    says = said;
    are = adds.are;
    valid_patterns = adds.valid_patterns;
    few = adds.few;
    root = root;
  }

  adds_that : {P Q : List Matcher → Type 0} {all : List Matcher}
      → ((ms : List Matcher) → length ms ≤ MAX_MATCHERS → P ms → Q ms)
      → Adds is_root P before all → Adds is_root Q before all
  adds_that f adds =
      adds_to adds (f adds.matchers
      (omega (arith, adds.few, ap length adds.are, length-append before adds.matchers)) adds.says)
      adds.root

  adds_as : {P Q : List Matcher → Type 0} {r : Result (List Matcher) Refusal}
      → Decides (Adds is_root P before) r
      → ((ms : List Matcher) → length ms ≤ MAX_MATCHERS → P ms → Q ms)
      → ((ms : List Matcher) → length ms ≤ MAX_MATCHERS → Q ms → P ms)
      → Decides (Adds is_root Q before) r
  adds_as decides to from =
      said_as decides (λ all adds. adds_that to adds) (λ all adds. adds_that from adds)

  -- none are added
  none_added : {P : List Matcher → Type 0} {all : List Matcher} → length before ≤ MAX_MATCHERS
      → (is_root ≡ true → before ≡ []) → P [] → before ≡ all → Adds is_root P before all
  none_added few root said is = record {
    matchers = [];
    says = said;
    are = append-nil before ∙ is;
    valid_patterns = refl;
    few = omega (arith, few, ap length is);
    root = λ e. sym is ∙ root e;
  }

  -- some are added, and then others
  both_decide : {P Q : List Matcher → Type 0} {r : Result (List Matcher) Refusal}
      {f : List Matcher → Result (List Matcher) Refusal} → Decides (Adds is_root P before) r
      → ((next : List Matcher) → length next ≤ MAX_MATCHERS → (is_root ≡ true → next ≡ [])
      → Decides (Adds is_root Q next) (f next))
      → Decides (Adds is_root (Parted P Q) before) (result_then r f)
  both_decide {P} {Q} first rest =
      said_as (then_decides_where first (λ next adds. rest next adds.few adds.root))
      (λ all (next, a, b). record {
        matchers = a.matchers ++ b.matchers;
        says = (a.matchers, b.matchers, a.says, b.says, refl);
        are = sym (append_assoc before a.matchers b.matchers)
            ∙ ap (λ (ms : List Matcher). ms ++ b.matchers) a.are ∙ b.are;
        valid_patterns = list_all-append has_valid_pattern a.matchers b.matchers
            ∙ and_from _ _ a.valid_patterns b.valid_patterns;
        few = b.few;
        root = b.root;
      })
      (λ all adds. parted all adds adds.says)
    where
      parted : (all : List Matcher) (adds : Adds is_root (Parted P Q) before all)
          → Parted P Q adds.matchers
          → (next : List Matcher) × Adds is_root P before next × Adds is_root Q next all
      parted all adds (front, rest, p, q, is) =
          let whole : (before ++ front) ++ rest ≡ all =
          append_assoc before front rest ∙ ap (λ (ms : List Matcher). before ++ ms) is ∙ adds.are
          in
          let valid = and_parts _ _
          (sym (list_all-append has_valid_pattern front rest)
          ∙ ap have_valid_patterns is ∙ adds.valid_patterns) in (
            before ++ front,
            record {
              matchers = front;
              says = p;
              are = refl;
              valid_patterns = valid.0;
              few = omega (
                arith,
                adds.few,
                ap length whole,
                length-append (before ++ front) rest,
              );
              root = λ e. none_front (before ++ front) rest (whole ∙ adds.root e);
            },
            record {
              matchers = rest;
              says = q;
              are = whole;
              valid_patterns = valid.1;
              few = adds.few;
              root = adds.root;
            },
          )

-- together there may not be too many
append_decides : (before ms : List Matcher)
    → Decides (λ all. (before ++ ms ≡ all) × (length all ≤ MAX_MATCHERS))
    ((append_matchers before ms).result)
append_decides before ms =
    said_as
    (then_decides (count_decides MAX_MATCHERS (length before + length ms))
    (λ _. accept_decides (before ++ ms)))
    (λ all (_, few, is). (is, omega (arith, few, ap length is, length-append before ms)))
    (λ all (is, few). (tt, omega (arith, few, ap length is, length-append before ms), is))

-- the top-level route may have none
none_given : (is_root : Bool) (ms : List Matcher) → given_fault is_root ms ≡ None
    → is_root ≡ true → ms ≡ []
none_given true [] h e = refl
none_given true (m ∷ ms) h e = absurd cc
none_given false ms h e = absurd cc

given_none : (is_root : Bool) (ms : List Matcher) → (is_root ≡ true → ms ≡ [])
    → given_fault is_root ms ≡ None
given_none true [] none = refl
given_none true (m ∷ ms) none = let e : m ∷ ms ≡ [] = none refl in absurd cc
given_none false ms none = refl

unless_root_decides : {P : List Matcher → Type 0} {r : Result (List Matcher) Refusal}
    {before : List Matcher} (is_root : Bool) → Decides (Adds false P before) r
    → Decides (Adds is_root P before)
    (result_then r (λ ms. (refuse_root_matchers is_root ms).result))
unless_root_decides {P} {r} {before} is_root read =
    said_as
    (then_decides read
    (λ ms. then_decides (cause_decides (given_fault is_root ms)) (λ _. accept_decides ms)))
    (λ all (ms, adds, (_, none, is)).
    subst (λ (ns : List Matcher). Adds is_root P before ns) is
    (adds_to adds adds.says (none_given is_root ms none)))
    (λ all adds. (
      all,
      adds_to adds adds.says (λ e. absurd cc),
      (tt, given_none is_root all adds.root, refl),
    ))

-- the matchers of a field that may be absent
module _ (is_root : Bool) (key : List ℕ) (d : Data) (before : List Matcher)
    (few : length before ≤ MAX_MATCHERS) (root : is_root ≡ true → before ≡ []) where
  -- the field is absent and there are none, or it has this value, which says them
  abbrev InField : (Data → List Matcher → Type 0) → List Matcher → Type 0
  InField Says ms =
      ((field key d ≡ None) × (ms ≡ []))
      ⊎ ((v : Data) × (field key d ≡ Some v) × Says v ms)

  in_field_decides : {Says : Data → List Matcher → Type 0}
      (read : Option Data → Result (List Matcher) Refusal)
      → Decides (λ all. before ≡ all) (read None)
      → ((v : Data) → Decides (Adds is_root (Says v) before) (read (Some v)))
      → Decides (Adds is_root (InField Says) before) (read (field key d))
  in_field_decides {Says} read none some =
      said_as (optional_decides read none some (field key d))
      (λ all. elim [
        | inl absent ↦ none_added few root (inl (absent.0, refl)) absent.1
        | inr there ↦ adds_that (λ ms _ said. inr (there.0, there.1, said)) there.2
      ])
      (λ all adds. elim adds.says [
        | inl absent ↦
            inl (
              absent.0,
              sym (append-nil before)
                  ∙ ap (λ (ms : List Matcher). before ++ ms) (sym absent.1) ∙ adds.are,
            )
        | inr there ↦ inr (there.0, there.1, adds_to adds there.2 adds.root)
      ])

-- ---- Texts.

next_text_decides : (before : List Matcher) (i : ℕ) (d : Data)
    → Decides (Adds false (SaysMatcherText d) before) ((next_text_form before (i, d)).result)
unfolding next_text_form
next_text_decides before i d =
    said_as
    (then_decides (within_decides (to_item i) (as_text_decides d))
    (λ text. then_decides (spelled_decides (to_item i) [] text) (append_decides before)))
    (λ all (text, is, (ms, (spells, _, valid), (are, few))). record {
      matchers = ms;
      says = (text, is, spells);
      are = are;
      valid_patterns = valid;
      few = few;
      root = λ e. absurd cc;
    })
    (λ all adds.
    let short : length adds.matchers ≤ MAX_MATCHERS =
    omega (arith, adds.few, ap length adds.are, length-append before adds.matchers) in (
      adds.says.0,
      adds.says.1,
      (adds.matchers, (adds.says.2, short, adds.valid_patterns), (adds.are, adds.few)),
    ))

-- the matchers of texts, in order
pub record SaysTexts (ds : List Data) (ms : List Matcher) : Type 0 where
  pub lists : List (List Matcher)
  pub texts : AllZip SaysMatcherText ds lists
  pub joined : ms ≡ flat_map (λ ns. ns) lists

no_texts : (ms : List Matcher) (lists : List (List Matcher))
    → AllZip SaysMatcherText [] lists → ms ≡ flat_map (λ ns. ns) lists → ms ≡ []
no_texts ms [] said is = is
no_texts ms (ns ∷ lists) said is = absurd said

first_text : (d : Data) (ds : List Data) (ms : List Matcher) (lists : List (List Matcher))
    → AllZip SaysMatcherText (d ∷ ds) lists → ms ≡ flat_map (λ ns. ns) lists
    → Parted (SaysMatcherText d) (SaysTexts ds) ms
first_text d ds ms [] said is = absurd said
first_text d ds ms (ns ∷ lists) said is = (
  ns,
  flat_map (λ ns. ns) lists,
  said.0,
  record { lists = lists; texts = said.1; joined = refl },
  sym is,
)

texts_decide : (ds : List Data) (i : ℕ) (before : List Matcher) → length before ≤ MAX_MATCHERS
    → Decides (Adds false (SaysTexts ds) before)
    ((read_each next_text_form before (enumerate_from i ds)).result)
unfolding read_each
texts_decide [] i before few =
    said_as (accept_decides before)
    (λ all is. none_added few (λ e. absurd cc) (record { lists = []; texts = tt; joined = refl }) is)
    (λ all adds.
    sym (append-nil before)
    ∙ ap (λ (ms : List Matcher). before ++ ms)
    (sym (no_texts adds.matchers adds.says.lists adds.says.texts adds.says.joined)) ∙ adds.are)
texts_decide (d ∷ ds) i before few =
    adds_as
    (both_decide (next_text_decides before i d)
    (λ next few _. texts_decide ds (i + 1) next few))
    (λ ms _ (front, rest, said, others, is). record {
      lists = front ∷ others.lists;
      texts = (said, others.texts);
      joined = sym is ∙ ap (λ (ns : List Matcher). front ++ ns) others.joined;
    })
    (λ ms _ said. first_text d ds ms said.lists said.texts said.joined)

-- ---- Pairs.

pair_decides : (op : Op) (name : List ℕ) (d : Data)
    → Decides (λ m. SaysMatcherPair op (name, d) m × IsTrue (has_valid_pattern m))
    ((matcher_pair_form op name d).result)
unfolding matcher_pair_form
pair_decides op name d =
    said_as
    (then_decides (named_text_decides name d)
    (λ value. checked_matcher_decides (record { name = name; op = op; value = value })))
    (λ m (value, said, (is, valid)).
    subst (λ (x : Matcher). SaysMatcherPair op (name, d) x × IsTrue (has_valid_pattern x)) is
    ((said, refl), valid))
    (λ m (said, valid).
    let same = same_matcher m name op said.0.0 said.1 in (
      m.value,
      (refl, said.0.1, said.0.2),
      (same, subst (λ (x : Matcher). IsTrue (has_valid_pattern x)) (sym same) valid),
    ))

-- one matcher, as a list
abbrev SaysOne : Op → List ℕ × Data → List Matcher → Type 0
SaysOne op pair ms = (m : Matcher) × SaysMatcherPair op pair m × (m ∷ [] ≡ ms)

next_pair_decides : (op : Op) (before : List Matcher) (pair : List ℕ × Data)
    → Decides (Adds false (SaysOne op pair) before) ((next_pair_form op before pair).result)
unfolding next_pair_form
next_pair_decides op before pair =
    said_as
    (then_decides (within_decides (to_field pair.0) (pair_decides op pair.0 pair.1))
    (λ m. append_decides before (m ∷ [])))
    (λ all (m, (said, valid), (are, few)). record {
      matchers = m ∷ [];
      says = (m, said, refl);
      are = are;
      valid_patterns = rw valid refl;
      few = few;
      root = λ e. absurd cc;
    })
    (λ all adds.
    let (m, said, one) = adds.says in
    let valid = and_parts (has_valid_pattern m) true
    (ap have_valid_patterns one ∙ adds.valid_patterns) in (
      m,
      (said, valid.0),
      (ap (λ (ms : List Matcher). before ++ ms) one ∙ adds.are, adds.few),
    ))

no_pairs : (op : Op) (ms : List Matcher) → AllZip (SaysMatcherPair op) [] ms → ms ≡ []
no_pairs op [] said = refl
no_pairs op (m ∷ ms) said = absurd said

first_pair : (op : Op) (pair : List ℕ × Data) (pairs : List (List ℕ × Data))
    (ms : List Matcher) → AllZip (SaysMatcherPair op) (pair ∷ pairs) ms
    → Parted (SaysOne op pair) (AllZip (SaysMatcherPair op) pairs) ms
first_pair op pair pairs [] said = absurd said
first_pair op pair pairs (m ∷ ms) said = (m ∷ [], ms, (m, said.0, refl), said.1, refl)

pairs_decide : (op : Op) (pairs : List (List ℕ × Data)) (before : List Matcher)
    → length before ≤ MAX_MATCHERS
    → Decides (Adds false (AllZip (SaysMatcherPair op) pairs) before)
    ((read_each (next_pair_form op) before pairs).result)
unfolding read_each
pairs_decide op [] before few =
    said_as (accept_decides before) (λ all is. none_added few (λ e. absurd cc) tt is)
    (λ all adds.
    sym (append-nil before)
    ∙ ap (λ (ms : List Matcher). before ++ ms) (sym (no_pairs op adds.matchers adds.says))
    ∙ adds.are)
pairs_decide op (pair ∷ pairs) before few =
    adds_as
    (both_decide (next_pair_decides op before pair)
    (λ next few _. pairs_decide op pairs next few))
    (λ ms _ (front, rest, (m, said, one), others, is).
    subst (λ (ns : List Matcher). AllZip (SaysMatcherPair op) (pair ∷ pairs) ns)
    (ap (λ (ns : List Matcher). ns ++ rest) one ∙ is) (said, others))
    (λ ms _ said. first_pair op pair pairs ms said)

-- ---- The three fields.

optional_texts_decide : (is_root : Bool) (key : List ℕ) (d : Data)
    → Decides (Adds is_root (λ ms. (items : List Data) × HasItems key d items × SaysTexts items ms) [])
    ((optional_texts is_root key (field key d)).result)
unfolding texts_form
optional_texts_decide is_root key d =
    adds_as
    (in_field_decides is_root key d [] (omega arith) (λ e. refl)
    {Says = λ v ms. (items : List Data) × (items_of v ≡ Some items) × SaysTexts items ms}
    (λ found. (optional_texts is_root key found).result) (accept_decides [])
    (λ v. within_decides (to_field key)
    (said_as
    (then_decides (as_items_decides v)
    (λ items. unless_root_decides is_root (texts_decide items 0 [] (omega arith))))
    (λ all (items, are, adds). adds_that (λ ms _ said. (items, are, said)) adds)
    (λ all adds. (adds.says.0, adds.says.1, adds_to adds adds.says.2 adds.root)))))
    (λ ms _. elim [
      | inl (absent, none) ↦
          ([], inl (absent, refl), record { lists = []; texts = tt; joined = none })
      | inr (v, there, (items, are, said)) ↦ (items, inr (rw there are), said)
    ])
    (λ ms _ (items, has, said). elim has [
      | inl (absent, none) ↦ inl (
        absent,
        no_texts ms said.lists
            (subst (λ (ds : List Data). AllZip SaysMatcherText ds said.lists) none said.texts)
            said.joined,
      )
      | inr are ↦ inr (option_and_then_some items_of (field key d) items are
          (λ v there is. (v, there, (items, is, said))))
    ])

module _ (is_root : Bool) (d : Data) (before : List Matcher)
    (few : length before ≤ MAX_MATCHERS) (root : is_root ≡ true → before ≡ []) where
  optional_pairs_decide : (op : Op) (key : List ℕ)
      → Decides (Adds is_root (SaysPairs op key d) before)
      ((optional_pairs is_root op key before (field key d)).result)
  unfolding pairs_form
  optional_pairs_decide op key =
      adds_as
      (in_field_decides is_root key d before few root
      {Says = λ v ms. (members : Members) × (v ≡ object members)
      × AllZip (SaysMatcherPair op) (member_list members) ms}
      (λ found. (optional_pairs is_root op key before found).result) (accept_decides before)
      (λ v. within_decides (to_field key)
      (said_as
      (then_decides (as_object_decides v)
      (λ members. unless_root_decides is_root (pairs_decide op (member_list members) before few)))
      (λ all (members, is, adds). adds_that (λ ms _ said. (members, is, said)) adds)
      (λ all adds. (adds.says.0, adds.says.1, adds_to adds adds.says.2 adds.root)))))
      (λ ms _. elim [
        | inl absent ↦ inl absent
        | inr (v, there, (members, is, each)) ↦
            inr (members, there ∙ ap (λ (x : Data). Some x) is, each)
      ])
      (λ ms _. elim [
        | inl absent ↦ inl absent
        | inr (members, there, each) ↦ inr (object members, there, (members, refl, each))
      ])

pub matchers_decide : (fields : MatcherFields) (is_root : Bool) (d : Data)
    → Decides (λ all. SaysMatchers fields d all × (is_root ≡ true → all ≡ []))
    ((matchers_form fields is_root d).result)
unfolding matchers_form
matchers_decide fields is_root d =
    said_as
    (both_decide (optional_texts_decide is_root fields.texts d)
    (λ texts few root. both_decide
    (optional_pairs_decide is_root d texts few root Equal fields.equalities)
    (λ equal few root. optional_pairs_decide is_root d equal few root Matches fields.patterns)))
    (λ all adds.
    let (front, _, (items, has, texts), (equal, patterns, equals, matches, two), is) = adds.says in (
      record {
        items = items;
        is_array = has;
        lists = texts.lists;
        texts = texts.texts;
        from_match = equal;
        match = equals;
        from_match_re = patterns;
        match_re = matches;
        all = sym adds.are ∙ sym is ∙ sym (ap (λ (ms : List Matcher). front ++ ms) two)
            ∙ ap (λ (ms : List Matcher). ms ++ (equal ++ patterns)) texts.joined;
        few = adds.few;
        valid_patterns = subst (λ (ms : List Matcher). IsTrue (have_valid_patterns ms)) adds.are
            adds.valid_patterns;
      },
      adds.root,
    ))
    (λ all (said, root). record {
      matchers = all;
      says = (
        flat_map (λ ms. ms) said.lists,
        said.from_match ++ said.from_match_re,
        (
          said.items,
          said.is_array,
          record { lists = said.lists; texts = said.texts; joined = refl },
        ),
        (said.from_match, said.from_match_re, said.match, said.match_re, refl),
        sym said.all,
      );
      are = refl;
      valid_patterns = said.valid_patterns;
      few = said.few;
      root = root;
    })
