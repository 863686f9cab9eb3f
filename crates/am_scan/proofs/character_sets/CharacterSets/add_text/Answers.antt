-- One more character.
use Rattle.std.proofs.Common.{◌∙◌, sym, ap, subst, refl, chars, ltb-true}
use Rattle.std.specs.List.{AllByRecursion}
use Rattle.std.proofs.lemmas.List.{nil_from_length}
use Rattle.std.proofs.lemmas.Str.{chars-nil, chars_past_char, IsUtf8-past_char}
use Rattle.am_scan.specs.declared.character_sets.CharacterSets.{CharacterSets}
use Rattle.am_scan.specs.Characters.{IsAlone}
use Rattle.am_scan.proofs.CharacterLemmas.{alone_ascii, alone_narrowed, alone_pushed, narrows_single}
use Rattle.am_scan.proofs.character_sets.CharacterSets.add_text.Goals as goal

pub loop-character-preserved-in-Continue-1 : goal.loop-character-preserved-in-Continue-1
loop-character-preserved-in-Continue-1 c =
    let h = c.loop-character.invariant in
    let old = c.loop-character.self in
    let new : CharacterSets = record { sets = old.sets; singles = c.push.new.self } in
    let character = c.in-Some.character in
    let rest = c.loop-character.character-iterator.rest.now in
    let step = c.in-Some.ensures.steps.0 in
    let narrows = narrows_single old new character refl c.in_ok-push.ensures.items in
    record {
      narrows = λ x y alike. h.narrows x y (narrows x y alike);
      left = IsUtf8-past_char rest c.next.new.self.rest.now character h.left step;
      alone = λ t more all.
          h.alone t (λ x y alike. narrows x y (more x y alike))
          (subst (AllByRecursion (IsAlone t)) (sym (chars_past_char rest c.next.new.self.rest.now character h.left step))
          (alone_narrowed new t more character (alone_pushed old new character c.in_ok-push.ensures.items), all));
    }

pub loop-character-preserved : goal.loop-character-preserved
loop-character-preserved c =
    let h = c.loop-character.invariant in
    let character = c.in-Some.character in
    let rest = c.loop-character.character-iterator.rest.now in
    let step = c.in-Some.ensures.steps.0 in
    record {
      narrows = h.narrows;
      left = IsUtf8-past_char rest c.next.new.self.rest.now character h.left step;
      alone = λ t more all.
          h.alone t more
          (subst (AllByRecursion (IsAlone t)) (sym (chars_past_char rest c.next.new.self.rest.now character h.left step))
          (alone_ascii t character (ltb-true character 128 (sym c.is_ascii.ensures ∙ c.if-not-is_ascii.false)), all));
    }

pub returns-clause-alone : goal.returns-clause-alone
returns-clause-alone c =
    let rest = c.loop-character.character-iterator.rest.now in
    c.loop-character.invariant.alone c.loop-character.self (λ x y alike. alike)
    (subst (AllByRecursion (IsAlone c.loop-character.self)) (sym (ap chars (nil_from_length rest c.in-None.ensures.steps.0.0) ∙ chars-nil)) tt)
