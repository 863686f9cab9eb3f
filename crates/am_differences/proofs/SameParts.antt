-- Two configurations have no line of parts that differ exactly if their parts say the same.
use Rattle.std.proofs.Common.{◌≡◌, ◌⊎◌, ◌+◌, ℕ, Bool, true, false, not, cond, List, [], ◌∷◌, ◌++◌}
use Rattle.std.proofs.Common.{map, fold}
use Rattle.std.proofs.Common.{length, Option, Some, refl, sym, ap, ◌∙◌, inl, inr}
use Rattle.std.proofs.Common.{subst, arith, Ordering, Less, Equal, Greater, nat_cmp}
use Rattle.std.specs.Prelude.{◌↔◌, option_and_then, codes}
use Rattle.std.specs.List.{AllByRecursion, filter, list_any}
use Rattle.std.specs.Cmp.Lexicographic.{slice_cmp, bytes_decides}
use Rattle.std.specs.FinMap.{nat_cmp-IsAntisymmetric, slice_cmp-IsAntisymmetric}
use Rattle.std.specs.Ordering.{match_ordering}
use Rattle.std.proofs.lemmas.Bool.{cases_Bool}
use Rattle.std.proofs.lemmas.List.{map-append, length-append, length-map}
use Rattle.std.proofs.lemmas.Slice.Zip.{AllZip-long}
use Rattle.serde_json.specs.Data.{Data, null, boolean, number, string, array, object}
use Rattle.serde_json.specs.Data.{Members, no_members, member}
use Rattle.serde_json.specs.Find.{get_member}
use Rattle.am_universe.specs.Text.{same_text}
use Rattle.am_universe.proofs.ListLemmas.{IsIn, IsIn-left, IsIn-right, AllByRecursion-each}
use Rattle.am_universe.proofs.ListLemmas.{AllByRecursion-at}
use Rattle.am_labels.proofs.Passing.{any_in}
use Rattle.am_json.specs.Json.{field, non_null, items_in_field}
use Rattle.am_json.specs.OptionalItems.{HasItems}
use Rattle.am_config.specs.ConfigFile.{SaysRule}
use Rattle.am_config.specs.WholeConfig.{WholeConfiguration, SaysWholeConfig, rest_of, without}
use Rattle.am_report_texts.specs.EachOnce.{each_once, with_text}
use Rattle.am_differences.specs.Parts.{Part, rule_values, receiver_parts, interval_parts}
use Rattle.am_differences.specs.Parts.{field_parts}
use Rattle.am_differences.specs.Differences.{HaveSameParts, differ, differences, presence_of}
use Rattle.am_differences.specs.Differences.{same_values, values_of}
use Rattle.am_differences.specs.RuleParts.{NamedRule, has_rule, named_rules}
use Rattle.am_differences.specs.RuleParts.{rules_only_in, with_rule}
use Rattle.am_differences.specs.PartLines.{SayTheSame, part_lines, named_line, field_line, rule_line}
use Rattle.am_differences.specs.declared.differences.Presence.TheVariants as presence_is
use Rattle.am_differences.proofs.ListTests.{none_there, map_none, not_false, none_pass, keeps_none}

-- ---- Names, each once.

there_still : (texts : List (List ℕ)) (text other : List ℕ) → IsIn texts other ⊎ (text ≡ other)
    → IsIn (with_text texts text) other
there_still texts text other i = elim (cases_Bool (list_any (same_text text) texts)) [
  | inl some ↦
      elim i [
        | inl old ↦ rw some old
        | inr same ↦
            let r = any_in (same_text text) texts some in
            rw some (subst (IsIn texts) (sym ((bytes_decides text r.0).0 r.2) ∙ same) r.1)
      ]
  | inr none ↦
      elim i [
        | inl old ↦ rw none (IsIn-left texts (text ∷ []) other old)
        | inr same ↦ rw none (IsIn-right texts (text ∷ []) other (inl same))
      ]
]

in_once : (before texts : List (List ℕ)) (text : List ℕ) → IsIn before text ⊎ IsIn texts text
    → IsIn (fold with_text before texts) text
in_once before [] text (inl i) = i
in_once before [] text (inr i) = absurd i
in_once before (t ∷ texts) text (inl old) =
    in_once (with_text before t) texts text (inl (there_still before t text (inl old)))
in_once before (t ∷ texts) text (inr (inl same)) =
    in_once (with_text before t) texts text (inl (there_still before t text (inr same)))
in_once before (t ∷ texts) text (inr (inr later)) =
    in_once (with_text before t) texts text (inr later)

in_or_not : (texts : List (List ℕ)) (text : List ℕ) → IsIn texts text ⊎ (IsIn texts text → ⊥)
in_or_not [] text = inr (λ i. i)
in_or_not (t ∷ texts) text = elim (cases_Bool (same_text t text)) [
  | inl same ↦ inl (inl ((bytes_decides t text).0 same))
  | inr other ↦ elim (in_or_not texts text) [
    | inl later ↦ inl (inr later)
    | inr out ↦ inr (λ i. elim i [
      | inl is ↦ let same = (bytes_decides t text).1 is in absurd (cc)
      | inr later ↦ out later
    ])
  ]
]

-- ---- Parts.

none_named : (name : List ℕ) (ps : List Part) → (IsIn (map (λ p. p.0) ps) name → ⊥)
    → values_of name ps ≡ []
none_named name [] out = refl
none_named name (p ∷ ps) out = elim (cases_Bool (same_text p.0 name)) [
  | inl e ↦ absurd (out (inl ((bytes_decides p.0 name).0 e)))
  | inr e ↦ rw e (none_named name ps (λ i. out (inr i)))
]

-- Two files have no difference exactly if they have the same parts.
pub none_differ : (old new : List Part) → (differences old new ≡ []) ↔ HaveSameParts old new
none_differ old new = (λ none name. alike none name, λ same. none_if same)
  where
    alike : differences old new ≡ [] → HaveSameParts old new
    alike none name = elim (in_or_not (map (λ p. p.0) (old ++ new)) name) [
      | inl there ↦
          not_false (same_values (values_of name old) (values_of name new))
          (none_pass (differ old new) (each_once (map (λ p. p.0) (old ++ new)))
          (map_none (λ name. (name, presence_of old new name))
          (filter (differ old new) (each_once (map (λ p. p.0) (old ++ new)))) none) name
          (in_once [] (map (λ p. p.0) (old ++ new)) name (inr there)))
      | inr out ↦
          rw (
            none_named name old (λ i. out (rw (map-append (λ (p : Part). p.0) old new)
                (IsIn-left (map (λ p. p.0) old) (map (λ p. p.0) new) name i))),
            none_named name new (λ i. out (rw (map-append (λ (p : Part). p.0) old new)
                (IsIn-right (map (λ p. p.0) old) (map (λ p. p.0) new) name i))),
          ) refl
    ]

    none_if : HaveSameParts old new → differences old new ≡ []
    none_if same =
        ap (map (λ name. (name, presence_of old new name)))
        (keeps_none (differ old new) (each_once (map (λ p. p.0) (old ++ new)))
        (λ name i. ap not (same name)))

-- ---- Rules.

rule_stays : (b : Bool) (rules : List NamedRule) (rule : NamedRule)
    → cond b rules (rules ++ rule ∷ []) ≡ [] → rules ≡ []
rule_stays true rules rule e = e
rule_stays false [] rule e = refl
rule_stays false (r ∷ rules) rule e = absurd (cc)

rules_stay : (rules more : List NamedRule) → fold with_rule rules more ≡ [] → rules ≡ []
rules_stay rules [] e = e
rules_stay rules (r ∷ more) e =
    rule_stays (has_rule rules r) rules r (rules_stay (with_rule rules r) more e)

none_once : (rules : List NamedRule) → fold with_rule [] rules ≡ [] → rules ≡ []
none_once [] e = refl
none_once (r ∷ rules) e =
    let first : r ∷ [] ≡ [] = rules_stay (r ∷ []) rules e in absurd (cc)

-- No rule is only in one of two files exactly if each is among the others.
only_in_none : (rules others : List NamedRule)
    → (rules_only_in rules others ≡ [])
    ↔ AllByRecursion (λ r. has_rule others r ≡ true) rules
only_in_none rules others = (
  λ none. AllByRecursion-each (λ r. has_rule others r ≡ true) rules (λ r i.
      not_false (has_rule others r)
      (none_pass (λ r. not (has_rule others r)) rules (none_once _ none) r i)),
  λ all. ap (fold with_rule []) (keeps_none (λ r. not (has_rule others r)) rules (λ r i.
      ap not (AllByRecursion-at (λ r. has_rule others r ≡ true) rules r all i))),
)

-- ---- Lines.

module _ {L P R : Type 0} (f : P → L) (g h : R → L) (k l : P → L) where
  abbrev joined : List P → List R → List R → List P → List P → List L
  joined a b c d e = map f a ++ ((map g b ++ map h c) ++ (map k d ++ map l e))

  abbrev AreNone : List P → List R → List R → List P → List P → Type 0
  AreNone a b c d e = (a ≡ []) × (b ≡ []) × (c ≡ []) × (d ≡ []) × (e ≡ [])

  all_none : (a : List P) (b c : List R) (d e : List P) → length (joined a b c d e) ≡ 0
      → AreNone a b c d e
  all_none a b c d e none =
      let long : length (joined a b c d e)
      ≡ length a + ((length b + length c) + (length d + length e)) =
      simp (length-append, length-map) in (
        none_there a (omega (arith, long, none)),
        none_there b (omega (arith, long, none)),
        none_there c (omega (arith, long, none)),
        none_there d (omega (arith, long, none)),
        none_there e (omega (arith, long, none)),
      )

  no_lines : (a : List P) (b c : List R) (d e : List P) → AreNone a b c d e
      → length (joined a b c d e) ≡ 0
  no_lines a b c d e none = rw (none.0, none.1, none.2, none.3, none.4) refl

module _ (old new : WholeConfiguration) where
  abbrev NoneIsListed : Type 0
  NoneIsListed =
      (differences (receiver_parts old.rest) (receiver_parts new.rest) ≡ [])
      × (rules_only_in (named_rules old) (named_rules new) ≡ [])
      × (rules_only_in (named_rules new) (named_rules old) ≡ [])
      × (differences (interval_parts old.rest) (interval_parts new.rest) ≡ [])
      × (differences (field_parts old.rest) (field_parts new.rest) ≡ [])

  none_listed : length (part_lines old new) ≡ 0 → NoneIsListed
  none_listed none =
      all_none (named_line (codes "receiver")) (rule_line presence_is.OnlyInOld)
      (rule_line presence_is.OnlyInNew) (named_line (codes "time interval")) field_line _ _ _ _ _
      none

  nothing_said : NoneIsListed → length (part_lines old new) ≡ 0
  nothing_said none =
      no_lines (named_line (codes "receiver")) (rule_line presence_is.OnlyInOld)
      (rule_line presence_is.OnlyInNew) (named_line (codes "time interval")) field_line _ _ _ _ _
      none

  pub no_part_lines : (length (part_lines old new) ≡ 0) ↔ SayTheSame old new
  no_part_lines =
      let receivers = none_differ (receiver_parts old.rest) (receiver_parts new.rest) in
      let olds = only_in_none (named_rules old) (named_rules new) in
      let news = only_in_none (named_rules new) (named_rules old) in
      let intervals = none_differ (interval_parts old.rest) (interval_parts new.rest) in
      let fields = none_differ (field_parts old.rest) (field_parts new.rest) in (
        λ none.
            let all = none_listed none in record {
              receivers = receivers.0 all.0;
              rules = record { olds_in_new = olds.0 all.1; news_in_old = news.0 all.2 };
              intervals = intervals.0 all.3;
              fields = fields.0 all.4;
            },
        λ same.
            nothing_said (
              receivers.1 same.receivers,
              olds.1 same.rules.olds_in_new,
              news.1 same.rules.news_in_old,
              intervals.1 same.intervals,
              fields.1 same.fields,
            ),
      )

-- ---- The rules of a file.

module _ (key other : List ℕ) (apart : key ≡ other → ⊥) where
  skips : (o : Ordering) (k : List ℕ) (d : Data) (rest : Option Data) → slice_cmp nat_cmp key k ≡ o
      → other ≡ k → match_ordering o rest (Some d) rest ≡ rest
  skips Less k d rest is same = refl
  skips Equal k d rest is same =
      absurd (apart (slice_cmp-IsAntisymmetric nat_cmp-IsAntisymmetric key k is ∙ sym same))
  skips Greater k d rest is same = refl

  found_without : (ms : Members) → get_member key (without other ms) ≡ get_member key ms
  found_without no_members = refl
  found_without (member k d ms) = elim (cases_Bool (same_text other k)) [
    | inl same ↦
        rw same (sym (skips (slice_cmp nat_cmp key k) k d (get_member key ms) refl
        ((bytes_decides other k).0 same)))
    | inr differs ↦
        rw differs (ap (λ r. match_ordering (slice_cmp nat_cmp key k) r (Some d) r)
        (found_without ms))
  ]

field_of_rest : (key : List ℕ) (d : Data) → (key ≡ codes "route" → ⊥)
    → field key (object (rest_of d)) ≡ field key d
field_of_rest key (object ms) apart =
    ap (option_and_then non_null) (found_without key (codes "route") apart ms)
field_of_rest key null apart = refl
field_of_rest key (boolean b) apart = refl
field_of_rest key (number n) apart = refl
field_of_rest key (string s) apart = refl
field_of_rest key (array ds) apart = refl

items_found : (key : List ℕ) (d : Data) (items : List Data) → HasItems key d items
    → items_in_field (field key d) ≡ items
items_found key d items (inl absent) = rw (absent.0, absent.1) refl
items_found key d items (inr there) = rw there refl

-- A configuration that is read from a file has as many rules as the file has values for them.
pub rules_long : (d : Data) (w : WholeConfiguration) → SaysWholeConfig d w
    → length w.config.rules ≡ length (rule_values w.rest)
rules_long d w says =
    let rules = says.0.rules in
    let key = codes "inhibit_rules" in
    AllZip-long SaysRule rules.items w.config.rules rules.each
    ∙ ap length (sym (items_found key d rules.items rules.has_items)
    ∙ ap items_in_field (sym (field_of_rest key d (λ e. cc)))
    ∙ ap rule_values (sym says.1))
