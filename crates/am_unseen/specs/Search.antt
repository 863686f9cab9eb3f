-- What is kept while the matchers of a world are looked at.
use Rattle.std.specs.Prelude.{◌≡◌, ℕ, List, [], ◌∷◌, ◌++◌, map, Option, Some, if◌then◌else◌}
use Rattle.std.specs.List.{list_any}
use Rattle.std.specs.BTreeMap.{BTreeMap, get_by}
use Rattle.std.specs.Ordering.{nat_cmp}
use Rattle.std.specs.Cmp.Lexicographic.{slice_cmp}
use Rattle.indexmap.specs.IndexSet.{IndexSet}
use Rattle.am_universe.specs.LabelSet.{LabelMap}
use Rattle.am_universe.specs.Text.{same_text}
use Rattle.am_labels.specs.Matcher.{Matcher}
use Rattle.am_complete.specs.declared.origin.Origin.{Origin}
use Rattle.am_labels.specs.declared.op.Op.{Op}
use Rattle.std.specs.declared.vec.Vec.{Vec}
use Rattle.std.specs.declared.alloc.Global.{Global}
use Rattle.am_unseen.specs.Unseen.{UnseenMatcher, seen_values, unseen_beside, unseen_by}
use Rattle.am_unseen.specs.UnseenNames.{Mention, mention_of}
use denote.Ref.{Bor}

-- The known label sets, and what was found so far that matchers ask for and none of them has.
pub record Search : Type 0 where
  pub known : List LabelMap
  pub found : List UnseenMatcher

-- The search after it has looked at one more matcher, which comes with its origin.
abbrev pub after_matcher : Search → Origin × Matcher → Search
after_matcher s placed = record s { found = s.found ++ unseen_by s.known placed }

-- The names that were mentioned so far, and the first mention of each.
pub record Mentions : Type 0 where
  pub names : List (List ℕ)
  pub firsts : List Mention

-- These after one more mention; and after one more matcher, which mentions its name.
abbrev pub mentioned : Mentions → Mention → Mentions
mentioned s mention =
    if list_any (same_text mention.1) s.names
    then s
    else record {
      names = s.names ++ mention.1 ∷ [];
      firsts = s.firsts ++ mention ∷ [];
    }

abbrev pub after_mention : Mentions → Origin × Matcher → Mentions
after_mention s placed = mentioned s (mention_of placed)

-- The texts of a set, in their order.
abbrev pub texts_of : {S : Type 0} → IndexSet (Bor (List ℕ)) S → List (List ℕ)
texts_of texts = map (λ t. t.now) texts.keys

-- What a map has for a text. What it has for a label name are the known values of the label, each
-- once.
abbrev pub kept_at : {S : Type 0} → BTreeMap (Bor (List ℕ)) S → List ℕ → Option S
kept_at kept text = get_by (λ k. slice_cmp nat_cmp text k.now) kept

abbrev pub AreSeen : List LabelMap → BTreeMap (Bor (List ℕ)) (List (List ℕ)) → Type 0
AreSeen alerts sets =
    (name : List ℕ) (values : List (List ℕ)) → kept_at sets name ≡ Some values
    → values ≡ seen_values alerts name

-- An unseen matcher as it is at another origin, on the label of this name.
abbrev pub placed_at : Origin → List ℕ → UnseenMatcher → UnseenMatcher
placed_at origin name unseen = record {
  origin = origin;
  matcher = record { name = name; op = unseen.matcher.op; value = unseen.matcher.value };
  similar = unseen.similar;
}

-- What a map has for a text is what a matcher with an operator and this text asks for that is none
-- of some values, but for its origin and its name.
abbrev pub AreKept : Op → List (List ℕ) → BTreeMap (Bor (List ℕ)) (Vec UnseenMatcher Global)
    → Type 0
AreKept op values kept =
    (text : List ℕ) (found : Vec UnseenMatcher Global) → kept_at kept text ≡ Some found
    → (origin : Origin) (name : List ℕ) → map (placed_at origin name) found.items
    ≡ unseen_beside values (origin, record { name = name; op = op; value = text })
