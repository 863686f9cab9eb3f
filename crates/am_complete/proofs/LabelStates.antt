-- What a space lacks at the labels that are asked about.
use Rattle.std.proofs.Common.{◌≡◌, ◌≢◌, ◌<◌, ◌+◌, ◌==◌, ℕ, Bool, true, false, not, List, [], ◌∷◌}
use Rattle.std.proofs.Common.{◌++◌, length, map, take, get_or, Option, Some, None, Contains, refl}
use Rattle.std.proofs.Common.{sym, ap, ◌∙◌, subst, inl, inr, arith, String, string_bytes}
use Rattle.std.specs.Prelude.{IsTrue, slice_get, unwrap_or, is_some, IfSome, IfNone}
use Rattle.std.specs.List.{AllByRecursion, find, list_any, list_all}
use Rattle.std.specs.Cmp.Lexicographic.{bytes_decides}
use Rattle.std.specs.declared.alloc.Global.{Global}
use Rattle.std.proofs.lemmas.Bool.{cases_Bool, false_from_ne_true, or_from}
use Rattle.std.proofs.lemmas.Bool.Decides.{nat_tests}
use Rattle.std.proofs.lemmas.List.{map-append, take_more}
use Rattle.std.proofs.lemmas.List.Folds.{find_at, list_any_more}
use Rattle.std.proofs.lemmas.List.Quantifiers.{position-Some}
use Rattle.std.proofs.lemmas.Option.{slice_get-get_or, get_or_from_slice_get, slice_get_within}
use Rattle.std.proofs.lemmas.Option.{slice_get_read, cond_some}
use Rattle.std.proofs.lemmas.Grind.{common_steps}
use Rattle.am_universe.specs.LabelSet.{LabelMap}
use Rattle.am_universe.specs.Universe.{Label, Values, IsUniverse, names, label_position, values_at}
use Rattle.am_universe.proofs.ListLemmas.{IsIn, IsIn-left, IsIn-right, IsIn-map, IsIn-unmap}
use Rattle.am_universe.proofs.ListLemmas.{Contains-from_IsIn, AllByRecursion-at}
use Rattle.am_universe.proofs.UniverseLemmas.{no_label}
use Rattle.am_labels.specs.Matcher.{Matcher}
use Rattle.am_labels.specs.Space.{Space}
use Rattle.am_labels.proofs.Passing.{any_in, in_any, kept_from_passes}
use Rattle.am_universe.proofs.Members.{in_at}
use Rattle.am_classes.specs.declared.alphabet.Alphabet.{Alphabet}
use Rattle.am_classes.specs.Alike.{HasAlikeIn}
use Rattle.am_complete.specs.declared.label_state.Completeness.{Completeness}
use Rattle.am_complete.specs.declared.label_state.Completeness.TheVariants as state_is
use Rattle.am_complete.specs.declared.label_state.LabelState.{LabelState}
use Rattle.am_complete.specs.Complete.{about, label_texts, texts_of_label, IsSpaceComplete}
use Rattle.am_complete.specs.Complete.{IsSpaceCompleteAt, AreAmong}
use Rattle.am_complete.specs.AskedLabel.{AskedLabel, asked_names, IsAskedOf}
use Rattle.am_complete.specs.Covering.{CoverPossible, standing_texts}
use Rattle.am_complete.specs.LabelState.{IsSoAt, is_settled, is_declared, reported_names}
use Rattle.am_complete.specs.FoundState.{IsFoundAt, IsSoOfName, begins}
use Rattle.am_classes.proofs.AlikeLemmas.{alike_joined}
use Rattle.am_complete.proofs.CompleteUniverses.{space_complete_without_matchers}
use Rattle.am_complete.proofs.CompleteUniverses.{space_complete_where_asked}
use Rattle.am_complete.proofs.LabelTexts.{has_name}
use Rattle.am_complete.proofs.AskedLabels.{on_name}
use Rattle.am_complete.proofs.AmongMatchers.{among_none}
use Rattle.am_complete.proofs.SameMatchers.{has_alike_among, cover_among, limits_same}
use Rattle.am_complete.proofs.SameMatchers.{same_classes}
use Rattle.am_complete.proofs.PossibleTexts.{all_pass}

-- ---- The texts of a label, by its position.

found_at : (u : List Label) (name : List ℕ) (i : ℕ) → label_position u name ≡ Some i
    → find (has_name name) u ≡ Some (get_or u i no_label)
found_at u name i e =
    grind (arith, common_steps, has_name, cond_some, find_at, slice_get-get_or, position-Some)

values_of_found : (u : List Label) (name : List ℕ) (i : ℕ) → label_position u name ≡ Some i
    → map (λ v. unwrap_or v []) (values_at u i) ≡ texts_of_label (Some (get_or u i no_label))
values_of_found u name i e = grind (arith, common_steps, slice_get-get_or, position-Some, has_name)

pub standing_at : (s : Space) (name : List ℕ) (i : ℕ) → label_position s.labels name ≡ Some i
    → map (λ v. unwrap_or v []) (values_at s.labels i) ≡ standing_texts s name
standing_at s name i e = grind (arith, common_steps, values_of_found, found_at)

-- texts in memory, with the text of one more value
pub texts_more : (values : Values) (j : ℕ) (texts : List (String Global)) (text : String Global)
    → map string_bytes texts ≡ map (λ v. unwrap_or v []) (take j values)
    → string_bytes text ≡ unwrap_or (get_or values j None) [] → j < length values
    → map string_bytes (texts ++ text ∷ []) ≡ map (λ v. unwrap_or v []) (take (j + 1) values)
texts_more values j texts text before here lt = grind (arith, common_steps, map-append, take_more)

-- ---- At one label.

-- if texts cover all, and each is alike to one of others, the others cover all too
pub covered : (alphabet : Alphabet) (impossible : List (List Matcher)) (name : List ℕ) (ms : List Matcher)
    (have texts : List (List ℕ)) → CoverPossible alphabet impossible name ms texts
    → AllByRecursion (HasAlikeIn ms have) texts → CoverPossible alphabet impossible name ms have
covered alphabet impossible name ms have texts covers each text valid possible =
    grind (arith, common_steps, alike_joined)

pub found_is_so : (alphabet : Alphabet) (s : Space) (asked : List AskedLabel) (ms : List Matcher) (l : AskedLabel)
    (c : Completeness) → IsAskedOf asked ms → IsIn asked l → l.name ≢ [] → l.matchers ≢ []
    → IsFoundAt alphabet s l c → IsSoAt alphabet s ms asked l.name c
found_is_so alphabet s asked ms l (state_is.Complete n) asks i some on h =
    let same = on_name asked ms l asks i some in (
      cover_among alphabet s.impossible l.name (about l.name ms) l.matchers
          (label_texts s.labels l.name) same.back h.0,
      same_classes alphabet s.impossible l.name l.matchers (about l.name ms) n same h.1,
      λ none. on (among_none l.matchers (subst (AreAmong l.matchers) none same.there)),
    )
found_is_so alphabet s asked ms l (state_is.Lacks text) asks i some on h =
    let same = on_name asked ms l asks i some in (
      h.0,
      h.1,
      h.2,
      λ alike.
          h.3 (has_alike_among l.matchers (about l.name ms) (label_texts s.labels l.name)
          (string_bytes text) same.there alike),
    )
found_is_so alphabet s asked ms l state_is.Unasked asks i some on h = absurd h
found_is_so alphabet s asked ms l state_is.Undeclarable asks i some on h =
    let same = on_name asked ms l asks i some in (
      h.0,
      λ complete.
          h.1 (cover_among alphabet s.impossible l.name l.matchers (about l.name ms)
          (label_texts s.labels l.name) same.there complete),
    )
found_is_so alphabet s asked ms l (state_is.Unproved origin) asks i some on h = (
  (l, Contains-from_IsIn asked l i, refl, h.0),
  limits_same alphabet l.matchers (about l.name ms) (on_name asked ms l asks i some) h.1,
)

-- a name is declared exactly if a label has it
pub declared_where : (u : List Label) (name : List ℕ) → IsIn (names u) name
    → is_declared u name ≡ true
declared_where u name i =
    let found = IsIn-unmap (λ l. l.name) u name i in
    in_any (has_name name) u found.0 found.1 ((bytes_decides found.0.name name).1 found.2)

pub declared_in : (u : List Label) (name : List ℕ) → is_declared u name ≡ true → IsIn (names u) name
declared_in u name some =
    let found = any_in (has_name name) u some in
    subst (IsIn (names u)) ((bytes_decides found.0.name name).0 found.2)
    (IsIn-map (λ k. k.name) u found.0 found.1)

pub undeclared_by : (u : List Label) (name : List ℕ) → (Contains (names u) name → ⊥)
    → is_declared u name ≡ false
undeclared_by u name none =
    false_from_ne_true (is_declared u name) (λ some.
    none (Contains-from_IsIn (names u) name (declared_in u name some)))

pub declared_if : (u : List Label) (name : List ℕ) (found : Option ℕ) (some : Bool)
    → IfSome found (λ i. slice_get (names u) i ≡ Some name)
    → IfNone found (Contains (names u) name → ⊥) → some ≡ is_some found
    → some ≡ is_declared u name
declared_if u name None some at absent is = is ∙ sym (undeclared_by u name absent)
declared_if u name (Some i) some at absent is =
    is ∙ sym (declared_where u name (in_at (names u) i name at))

-- ---- Label after label.

-- what is at a position
pub stands_at : {X : Type 0} (xs : List X) (i : ℕ) (x : X) → i < length xs → x ≡ get_or xs i x
    → slice_get xs i ≡ Some x
stands_at xs i x lt is = slice_get_read xs (length xs) i x refl lt is

pub none_more : {X : Type 0} (test : X → Bool) (xs : List X) (i : ℕ) (x : X)
    → slice_get xs i ≡ Some x → list_any test (take i xs) ≡ false → test x ≡ false
    → list_any test (take (i + 1) xs) ≡ false
none_more test xs i x at before fails =
    list_any_more test xs i x (slice_get_within xs i x at)
    ∙ or_from (list_any test (take i xs)) (test (get_or xs i x)) before
    (ap test (get_or_from_slice_get xs i x x at) ∙ fails)

-- a text is empty exactly if it does not begin
pub empty_begins : (text : List ℕ) → not (length text == 0) ≡ begins text
empty_begins [] = refl
empty_begins (c ∷ cs) = grind (arith, nat_tests)

-- items in memory are none if they are counted as none, and only then
pub none_counted : {X Y : Type 0} (f : X → Y) (xs : List X) → (length xs == 0) ≡ true
    → map f xs ≡ []
none_counted f [] e = refl
none_counted f (x ∷ xs) e = grind (arith, nat_tests)

pub some_counted : {X Y : Type 0} (f : X → Y) (xs : List X) → (length xs == 0) ≡ false
    → map f xs ≢ []
some_counted f [] e = absurd (cc)
some_counted f (x ∷ xs) e = λ h. cc

-- ---- All labels.

settled_complete : (alphabet : Alphabet) (s : Space) (ms : List Matcher) (asked : List AskedLabel)
    (name : List ℕ) (c : Completeness) → IsUniverse s.labels → IsSoAt alphabet s ms asked name c
    → is_settled c ≡ true → IsSpaceCompleteAt alphabet s ms name
settled_complete alphabet s ms asked name (state_is.Complete n) universe so settled = so.0
settled_complete alphabet s ms asked name (state_is.Lacks text) universe so settled = absurd (cc)
settled_complete alphabet s ms asked name state_is.Unasked universe so settled =
    space_complete_without_matchers alphabet s ms name universe so
settled_complete alphabet s ms asked name state_is.Undeclarable universe so settled = absurd (cc)
settled_complete alphabet s ms asked name (state_is.Unproved origin) universe so settled = absurd (cc)

-- each name that is asked about is reported
reported : (u : List Label) (asked : List AskedLabel) (l : AskedLabel) → IsIn asked l
    → IsIn (reported_names u asked) l.name
reported u asked l i = elim (cases_Bool (is_declared u l.name)) [
  | inl some ↦
      IsIn-left (names u) _ l.name (declared_in u l.name some)
  | inr none ↦
      IsIn-right (names u) _ l.name
      (kept_from_passes (λ name. not (is_declared u name)) (asked_names asked) l.name
      (IsIn-map (λ x. x.name) asked l i) (ap not none))
]

-- if each state is settled, the space is complete
pub complete_where_settled : (alphabet : Alphabet) (s : Space) (asked : List AskedLabel)
    (alerts : Option (List LabelMap)) (states : List LabelState) → IsUniverse s.labels
    → map (λ state. string_bytes state.name) states ≡ reported_names s.labels asked
    → AllByRecursion (IsSoOfName alphabet s asked alerts) states
    → (ms : List Matcher) → IsAskedOf asked ms
    → IsTrue (list_all (λ state. is_settled state.completeness) states) → IsSpaceComplete alphabet s ms
complete_where_settled alphabet s asked alerts states universe are each ms asks settled =
    space_complete_where_asked alphabet s asked ms universe asks (λ l i some.
    let there = subst (λ (xs : List (List ℕ)). IsIn xs l.name) (sym are)
    (reported s.labels asked l i) in
    let state = IsIn-unmap (λ state. string_bytes state.name) states l.name there in
    let is = AllByRecursion-at (IsSoOfName alphabet s asked alerts) states state.0 each state.1 in
    let at = all_pass (λ state. is_settled state.completeness) states state.0 settled state.1 in
    subst (IsSpaceCompleteAt alphabet s ms) state.2
    (settled_complete alphabet s ms asked (string_bytes state.0.name) state.0.completeness universe
    (is.so ms asks (λ empty. some (sym state.2 ∙ empty))) at))
