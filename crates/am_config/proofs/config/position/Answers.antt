use Rattle.std.proofs.Common.{◌≡◌, ℕ, ◌+◌, List, [], ◌∷◌, map, Bool, cond, not, refl, ap}
use Rattle.std.proofs.Common.{string_bytes, rules, tests}
use Rattle.std.specs.List.{position, position_or_len}
use Rattle.std.proofs.lemmas.Iterator.{YieldsList-from_slice}
use Rattle.std.proofs.lemmas.Iterator.Search.{position_from_yields_List}
use Rattle.std.proofs.lemmas.List.{length-map}
use Rattle.am_universe.specs.Text.{same_text}
use Rattle.am_config.proofs.config.position.Goals as goal

position_or_len-map : {X Y : Type 0} (p : Y → Bool) (f : X → Y) (xs : List X)
    → position_or_len p (map f xs) ≡ position_or_len (λ x. p (f x)) xs
position_or_len-map p f [] = refl
position_or_len-map p f (x ∷ xs) =
    ap (λ (n : ℕ). cond (not (p (f x))) (1 + n) 0) (position_or_len-map p f xs)

position-map : {X Y : Type 0} (p : Y → Bool) (f : X → Y) (xs : List X)
    → position p (map f xs) ≡ position (λ x. p (f x)) xs
position-map p f xs = rw (position_or_len-map p f xs, length-map xs f) refl

pub returns : goal.returns
returns c =
    rw (position-map (λ other. same_text other c.args.name.now) string_bytes c.args.names.now)
    (position_from_yields_List (λ other. same_text (string_bytes other) c.args.name.now) _ _ _
    c.position.ensures.ran (YieldsList-from_slice c.args.names.now cc)
    (λ x b q k. search (rules, tests)))
