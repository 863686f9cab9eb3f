-- The data of reports has no float and nests at most six deep.
use Rattle.std.proofs.Common.{◌≡◌, ◌≤◌, ℕ, suc, List, [], ◌∷◌, ◌++◌, map, false, refl, arith, codes}
use Rattle.std.proofs.Common.{Ordering, Less, Equal, Greater}
use Rattle.std.specs.Prelude.{⊤}
use Rattle.std.specs.Ordering.{match_ordering}
use Rattle.std.specs.List.{flat_map, AllByRecursion}
use Rattle.serde_json.specs.Data.{Data, Members, no_members, member, depth, object, put, string}
use Rattle.serde_json.specs.Written.{has_float}
use Rattle.am_report_texts.specs.declared.lines.Level.{Level}
use Rattle.am_report_texts.specs.declared.lines.Level.TheVariants as level_is
use Rattle.am_report_texts.specs.Line.{Line, Piece, Report, Shown, ShownRoute, Word, Words, Value}
use Rattle.am_report_texts.specs.LineData.{array_of, field_name, kind_members}
use Rattle.am_report_texts.specs.LineData.{level_members, line_data, matchers_data, number_data}
use Rattle.am_report_texts.specs.LineData.{object_of, path_members, piece_members, report_data}
use Rattle.am_report_texts.specs.LineData.{route_data, shown_members, with_members}
use Rattle.am_report_texts.proofs.PieceSteps.{Named}

pub record IsPlain (n : ℕ) (d : Data) : Type 0 where
  pub shallow : depth d ≤ n
  pub no_float : has_float d ≡ false

abbrev ArePlain : ℕ → Members → Type 0
ArePlain n no_members = ⊤
ArePlain n (member k d ms) = IsPlain n d × ArePlain n ms

abbrev EachPlain : ℕ → Named → Type 0
EachPlain n members = AllByRecursion (λ m. IsPlain n m.1) members

-- ---- Objects and arrays.

plain_either : (n : ℕ) (o : Ordering) (a b c : Members) → ArePlain n a → ArePlain n b
    → ArePlain n c → ArePlain n (match_ordering o a b c)
plain_either n Less a b c p q r = p
plain_either n Equal a b c p q r = q
plain_either n Greater a b c p q r = r

plain_put : (n : ℕ) (k : List ℕ) (d : Data) (ms : Members) → IsPlain n d → ArePlain n ms
    → ArePlain n (put k d ms)
plain_put n k d no_members h hs = (h, tt)
plain_put n k d (member l e ms) h hs =
    plain_either n _ (member k d (member l e ms)) (member l d ms) (member l e (put k d ms))
    (h, hs) (h, hs.1) (hs.0, plain_put n k d ms h hs.1)

plain_with : (n : ℕ) (ms : Members) (members : Named) → ArePlain n ms → EachPlain n members
    → ArePlain n (with_members ms members)
plain_with n ms [] hs each = hs
plain_with n ms (m ∷ rest) hs each =
    plain_with n (put m.0 m.1 ms) rest (plain_put n m.0 m.1 ms each.0 hs) each.1

plain_members : (n : ℕ) (ms : Members) → ArePlain n ms → IsPlain (suc n) (object ms)
plain_members n no_members hs = record { shallow = omega arith; no_float = refl }
plain_members n (member k d ms) hs =
    let first = hs.0 in
    let rest = plain_members n ms hs.1 in
    record {
      shallow = omega (arith, first.shallow, rest.shallow);
      no_float = rw (first.no_float, rest.no_float) refl;
    }

plain_object : (n : ℕ) (members : Named) → EachPlain n members
    → IsPlain (suc n) (object_of members)
plain_object n members each =
    plain_members n (with_members no_members members) (plain_with n no_members members tt each)

plain_array : {X : Type 0} (n : ℕ) (f : X → Data) → ((x : X) → IsPlain n (f x)) → (xs : List X)
    → IsPlain (suc n) (array_of f xs)
plain_array n f each [] = record { shallow = omega arith; no_float = refl }
plain_array n f each (x ∷ xs) =
    let first = each x in
    let rest = plain_array n f each xs in
    record {
      shallow = omega (arith, first.shallow, rest.shallow);
      no_float = rw (first.no_float, rest.no_float) refl;
    }

-- ---- Lists of members.

each_of_both : (n : ℕ) (a b : Named) → EachPlain n a → EachPlain n b → EachPlain n (a ++ b)
each_of_both n [] b h k = k
each_of_both n (m ∷ a) b h k = (h.0, each_of_both n a b h.1 k)

each_of_all : {X : Type 0} (n : ℕ) (f : X → Named) → ((x : X) → EachPlain n (f x))
    → (xs : List X) → EachPlain n (flat_map f xs)
each_of_all n f each [] = tt
each_of_all n f each (x ∷ xs) =
    each_of_both n (f x) (flat_map f xs) (each x) (each_of_all n f each xs)

-- ---- What reports show.

plain_text : (n : ℕ) (text : List ℕ) → IsPlain n (string text)
plain_text n text = record { shallow = omega arith; no_float = refl }

plain_number : (n k : ℕ) → IsPlain n (number_data k)
plain_number n k = record { shallow = omega arith; no_float = refl }

plain_kind : (n : ℕ) (kind : List ℕ) → EachPlain n (kind_members kind)
plain_kind n [] = tt
plain_kind n (c ∷ cs) = (plain_text n (c ∷ cs), tt)

each_label : (n : ℕ) (labels : List (List ℕ × List ℕ))
    → EachPlain n (map (λ label. (label.0, string label.1)) labels)
each_label n [] = tt
each_label n (label ∷ labels) = (plain_text n label.1, each_label n labels)

ruleset parts = (plain_text, plain_number, plain_kind, plain_array, plain_object, each_label)

plain_route : (n : ℕ) (r : ShownRoute) → IsPlain (suc (suc n)) (route_data r)
plain_route n r =
    plain_object (suc n) (path_members (codes "path") r.path
    ++ (codes "matchers", matchers_data r.matchers) ∷ kind_members r.kind) (search parts)

ruleset shown_parts = (parts, plain_route)

plain_shown : (n : ℕ) (name : List ℕ) (shown : Shown)
    → EachPlain (suc (suc (suc n))) (shown_members name shown)
plain_shown n name (Word w) = search parts
plain_shown n name _ = search shown_parts depth 9

plain_piece : (n : ℕ) (p : Piece) → EachPlain (suc (suc (suc n))) (piece_members p)
plain_piece n (Words w) = tt
plain_piece n (Value field shown) = plain_shown n (field_name field) shown

plain_level : (n : ℕ) (level : Level) → EachPlain n (level_members level)
plain_level n level_is.Plain = tt
plain_level n _ = (plain_text n _, tt)

plain_line : (l : Line) → IsPlain 4 (line_data l)
plain_line l =
    plain_object 3 _ (each_of_both 3 (level_members l.level) _ (plain_level 3 l.level)
    (each_of_all 3 piece_members (plain_piece 0) l.pieces))

pub plain_report : (r : Report) → IsPlain 6 (report_data r)
plain_report r =
    plain_object 5 ((codes "lines", array_of line_data r.lines) ∷ flat_map piece_members r.last)
    (plain_array 4 line_data plain_line r.lines, each_of_all 5 piece_members (plain_piece 2) r.last)
