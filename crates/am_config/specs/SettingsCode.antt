-- The codes of JSON values and of the settings of a route: trees of numbers, by which proofs tell
-- values apart.
use Rattle.std.proofs.Common.{◌≡◌, ℕ, List, Bool, true, ◌==◌, refl, sym, ap, subst, true≢false}
use Rattle.std.specs.Coded.{Coded, code_by, coded×, coded_ℕ, coded_ℤ, coded_bool, coded_list}
use base.Stored.{Gv, gnil, gnum, gcons, num, coded_float}
use Rattle.serde_json.specs.Data.{Num, unsigned, negative, float, Data, null, boolean, number}
use Rattle.serde_json.specs.Data.{string, array, object, Items, no_items, item, Members, no_members}
use Rattle.serde_json.specs.Data.{member}
use Rattle.am_labels.specs.Matcher.{Matcher}
use Rattle.am_labels.specs.contracts.matchers.Matchers as matchers
use Rattle.am_config.specs.ConfigFile.{RouteSettings}

-- The two parts of a code, whether it has them, and the number in front.
abbrev pub head : Gv → Gv
head gnil = gnil
head (gnum n) = gnil
head (gcons a b) = a

abbrev pub tail : Gv → Gv
tail gnil = gnil
tail (gnum n) = gnil
tail (gcons a b) = b

abbrev pub IsPair : Gv → Type 0
IsPair gnil = ⊥
IsPair (gnum n) = ⊥
IsPair (gcons a b) = Unit {0}

abbrev kind : Gv → ℕ
kind g = num (head g)

abbrev coded_text : Coded (List ℕ)
coded_text = coded_list coded_ℕ

-- The codes of numbers, values, items and members. A number before the code of a number or a value
-- says of which kind it is.
abbrev num_code : Num → Gv
num_code (unsigned n) = gcons (gnum 0) (gnum n)
num_code (negative z) = gcons (gnum 1) (coded_ℤ.code z)
num_code (float x) = gcons (gnum 2) (coded_float.code x)

abbrev mutual
  data_code : Data → Gv
  data_code null = gcons (gnum 0) gnil
  data_code (boolean b) = gcons (gnum 1) (coded_bool.code b)
  data_code (number n) = gcons (gnum 2) (num_code n)
  data_code (string s) = gcons (gnum 3) (coded_text.code s)
  data_code (array ds) = gcons (gnum 4) (items_code ds)
  data_code (object ms) = gcons (gnum 5) (members_code ms)

  items_code : Items → Gv
  items_code no_items = gnil
  items_code (item d ds) = gcons (data_code d) (items_code ds)

  members_code : Members → Gv
  members_code no_members = gnil
  members_code (member k d ms) = gcons (coded_text.code k) (gcons (data_code d) (members_code ms))

-- If the codes are the same, the values are the same.
num_told : (a b : Num) → num_code a ≡ num_code b → a ≡ b
num_told (unsigned a) (unsigned b) e = ap (λ g. unsigned (num (tail g))) e
num_told (negative a) (negative b) e = ap negative (coded_ℤ.inj a b (ap tail e))
num_told (float a) (float b) e = ap float (coded_float.inj a b (ap tail e))
num_told a b e =
    absurd (true≢false (sym (subst (λ g. (kind (num_code a) == kind g) ≡ true) e refl)))

mutual
  pub data_told : (a b : Data) → data_code a ≡ data_code b → a ≡ b
  data_told null null e = refl
  data_told (boolean a) (boolean b) e = ap boolean (coded_bool.inj a b (ap tail e))
  data_told (number a) (number b) e = ap number (num_told a b (ap tail e))
  data_told (string a) (string b) e = ap string (coded_text.inj a b (ap tail e))
  data_told (array a) (array b) e = ap array (items_told a b (ap tail e))
  data_told (object a) (object b) e = ap object (members_told a b (ap tail e))
  data_told a b e =
      absurd (true≢false (sym (subst (λ g. (kind (data_code a) == kind g) ≡ true) e refl)))

  pub items_told : (a b : Items) → items_code a ≡ items_code b → a ≡ b
  items_told no_items no_items e = refl
  items_told no_items (item d ds) e = absurd (subst IsPair (sym e) tt)
  items_told (item d ds) no_items e = absurd (subst IsPair e tt)
  items_told (item c cs) (item d ds) e =
      λ i. item (data_told c d (ap head e) i) (items_told cs ds (ap tail e) i)

  pub members_told : (a b : Members) → members_code a ≡ members_code b → a ≡ b
  members_told no_members no_members e = refl
  members_told no_members (member k d ms) e = absurd (subst IsPair (sym e) tt)
  members_told (member k d ms) no_members e = absurd (subst IsPair e tt)
  members_told (member k c ls) (member l d ms) e = λ i. member (coded_text.inj k l (ap head e) i)
      (data_told c d (ap (λ g. head (tail g)) e) i)
      (members_told ls ms (ap (λ g. tail (tail g)) e) i)

abbrev coded_data : Coded Data
coded_data = record { code = data_code; inj = data_told }

-- The code of settings is made of the codes of their parts.
abbrev pub coded_settings : Coded RouteSettings
coded_settings =
    code_by
    ((ℕ × (List Matcher × Bool)) × ((Data × (Data × Data)) × (Data × (Data × Data))))
    (coded× (coded× coded_ℕ (coded× matchers.the_row.coded coded_bool))
    (coded× (coded× coded_data (coded× coded_data coded_data))
    (coded× coded_data (coded× coded_data coded_data))))
    (λ s. (
      (s.receiver, (s.matchers, s.continues)),
      (
        (s.options.group_by, (s.options.group_wait, s.options.group_interval)),
        (
          s.options.repeat_interval,
          (s.options.mute_time_intervals, s.options.active_time_intervals),
        ),
      ),
    ))
    (λ p. record {
      receiver = p.0.0;
      matchers = p.0.1.0;
      continues = p.0.1.1;
      options = record {
        group_by = p.1.0.0;
        group_wait = p.1.0.1.0;
        group_interval = p.1.0.1.1;
        repeat_interval = p.1.1.0;
        mute_time_intervals = p.1.1.1.0;
        active_time_intervals = p.1.1.1.1;
      };
    })
    (λ _. refl)
