-- Texts that are tested by matchers.
use Rattle.std.specs.Prelude.{◌≡◌, ℕ, List, ◌++◌, map, Bool, not, ◌&&◌, Contains, string_bytes}
use Rattle.std.specs.Prelude.{if◌then◌else◌, nat_eq}
use Rattle.std.specs.List.{AllByRecursion}
use Rattle.std.specs.Cmp.Lexicographic.{pointwise}
use Rattle.std.specs.Global.{Vec}
use Rattle.am_labels.specs.Matcher.{Matcher, holds, negates}
use Rattle.am_classes.specs.Alike.{AreApart, HasAlikeIn}
use Rattle.am_classes.specs.Named.{names_texts}
use Rattle.am_classes.specs.Places.{places_where}
use Rattle.am_classes.specs.declared.tested.Tested.{Tested}

-- The comparison of a matcher is true of a text, whether or not its operator negates it.
-- Source: own choice.
-- Example: that of `team!="db"` is true of `db` alone.
abbrev pub compares : List ℕ → Matcher → Bool
compares text m =
    if negates m.op then not (holds m.op m.value text) else holds m.op m.value text

-- The places of the matchers that name a text, and of the others that find it.
abbrev pub naming : List Matcher → List ℕ → List ℕ
naming ms text = places_where (λ m. names_texts m && compares text m) ms

abbrev pub finding : List Matcher → List ℕ → List ℕ
finding ms text = places_where (λ m. not (names_texts m) && compares text m) ms

-- The hits of a text: the places of the matchers whose comparison is true of it. Those that name
-- texts come first.
-- Source: own choice.
-- Example: of `team=~"d.*"`, `team!="db"` and `team="web"`, those of `db` are 1 and 0.
abbrev pub hits : List Matcher → List ℕ → List ℕ
hits ms text = naming ms text ++ finding ms text

-- Whether two texts are alike: their hits are equal.
abbrev pub alike : List Matcher → List ℕ → List ℕ → Bool
alike ms x y = pointwise nat_eq (hits ms x) (hits ms y)

-- Texts that were tested: each has the hits that a function gives for its text, or those of some
-- matchers; two rows of hits are the same; and two texts have the same.
abbrev pub texts_of : List Tested → List (List ℕ)
texts_of tested = map (λ t. string_bytes t.text) tested

abbrev pub AreHits : (List ℕ → List ℕ) → List Tested → Type 0
AreHits hits tested = AllByRecursion (λ t. t.hits.items ≡ hits (string_bytes t.text)) tested

abbrev pub AreTested : List Matcher → List Tested → Type 0
AreTested ms tested = AreHits (hits ms) tested

abbrev pub are_same : Vec ℕ → Vec ℕ → Bool
are_same xs ys = pointwise nat_eq xs.items ys.items

abbrev pub has_same_hits : Tested → Tested → Bool
has_same_hits t other = pointwise nat_eq other.hits.items t.hits.items

-- Some texts are new: they are among the wanted ones, no two are alike, and none is alike to one
-- that is there. To each wanted text, one of them or of those that are there is alike.
pub record AreNewIn (ms : List Matcher) (there wanted texts : List (List ℕ)) : Type 0 where
  pub from : AllByRecursion (Contains wanted) texts
  pub apart : AreApart ms texts
  pub new : AllByRecursion (λ text. HasAlikeIn ms there text → ⊥) texts
  pub cover : AllByRecursion (HasAlikeIn ms (there ++ texts)) wanted
