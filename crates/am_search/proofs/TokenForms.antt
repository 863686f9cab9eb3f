-- The form of a token: the text between its letter and its positions, and what it determines.
use Rattle.std.proofs.Common.{◌≡◌, ◌≢◌, ℕ, ◌<◌, true, List, ◌∷◌, ◌++◌, length, take, drop, get_or, Option, Some, None, IfSome, ◌⊎◌, inl, inr, refl, sym, ap, subst, ◌∙◌, arith, rules}
use Rattle.std.specs.Prelude.{codes}
use Rattle.std.specs.List.{AllPass}
use Rattle.std.specs.Result.{result_ok}
use Rattle.std.proofs.lemmas.List.{append_cancel_left}
use Rattle.std.proofs.lemmas.Option.{same_Some}
use Rattle.std.proofs.Math.Seq.{take-append_seam}
use Rattle.std.proofs.lemmas.Grind.{common_steps}
use Rattle.hex.specs.Hex.{decode_of, decode_sized, encode_lower, is_hex_digit, lower_digits}
use Rattle.hex.proofs.HexLemmas.{length-encode_with, decode_of-encode_lower, decode_of-ok, decode_of-same, decode_sized-encode_lower, decode_sized-ok, decode_sized-twice}
use Rattle.am_universe.specs.declared.kind.Kind.{Kind}
use Rattle.am_universe.specs.declared.kind.Kind.TheVariants.{BadToken, OtherInputs}
use Rattle.am_universe.specs.Choice.{admits, IsWhole}
use Rattle.am_search.specs.Judge.{AreSizes}
use Rattle.am_search.specs.declared.start.Start.{Start}
use Rattle.am_search.specs.declared.start.Start.TheVariants.{At, After}
use Rattle.am_search.specs.Start.{IsStart}
use Rattle.am_search.specs.Token.{positions_text, token_text, old_token_text, IsFingerprint, ReadsToken, IsNoToken, IsTokenOfOthers, RefusesToken}
use Rattle.am_search.specs.TokenParts.{form_text, spelled_text}
use Rattle.am_search.proofs.Positions.{joined-injective}
use Rattle.am_search.proofs.TokenTexts.{small_positions}

-- ---- Digits.

-- no digit is a colon
pub no_colon : (h : List ℕ) → IsFingerprint h → (i : ℕ) → i < length (encode_lower h) → get_or (encode_lower h) i 0 ≢ 58
no_colon h is i within e =
    let digits : AllPass is_hex_digit (encode_lower h) = (decode_of-ok (encode_lower h) h (decode_of-encode_lower h is.1)).1 in
    let digit : is_hex_digit (get_or (encode_lower h) i 0) ≡ true = digits i 0 within in
    let not : is_hex_digit 58 ≡ true = sym (ap is_hex_digit e) ∙ digit in
    cc not

pub digits_length : (h : List ℕ) → IsFingerprint h → length (encode_lower h) ≡ 32
digits_length h is = omega (arith, length-encode_with lower_digits h, is.0)

-- the digits determine the bytes
pub digits-injective : (h k : List ℕ) → IsFingerprint h → IsFingerprint k → encode_lower h ≡ encode_lower k → h ≡ k
digits-injective h k is it e =
    decode_of-same (encode_lower h) h k (decode_of-encode_lower h is.1) (ap decode_of e ∙ decode_of-encode_lower k it.1)

-- a text that does not decode has the digits of no fingerprint
pub no_digits : (text h : List ℕ) → result_ok (decode_sized text 16) ≡ None → IsFingerprint h → encode_lower h ≡ text → ⊥
no_digits text h none is e = grind (arith, common_steps, decode_sized-encode_lower)

-- a text that decodes has the digits of no other bytes
pub other_digits : (text x h : List ℕ) → result_ok (decode_sized text 16) ≡ Some x → IsFingerprint h → encode_lower h ≡ text → encode_lower x ≡ text
other_digits text x h some is e = grind (arith, common_steps, decode_sized-encode_lower, same_Some)

-- the 32 digits of 16 bytes are those of a fingerprint
pub is_fingerprint : (text h : List ℕ) → result_ok (decode_sized text 16) ≡ Some h → IsFingerprint h
is_fingerprint text h some = grind (arith, common_steps, decode_sized-ok, decode_of-ok, decode_sized-twice, same_Some)

-- ---- Forms.

-- if two joined lists are the same, and their first parts have the same length, these parts are the
-- same
fronts : (a b r s : List ℕ) → length a ≡ length b → a ++ r ≡ b ++ s → a ≡ b
fronts a b r s same e =
    sym (take-append_seam a r) ∙ ap (take (length a)) e ∙ ap (λ n. take n (b ++ s)) same ∙ take-append_seam b s

abbrev pub IsForm : Option (List ℕ) → Type 0
IsForm form = IfSome form IsFingerprint

-- the text of a form and what follows it determines both
pub same_form : (f g : Option (List ℕ)) (a b : List ℕ) → IsForm f → IsForm g → form_text f a ≡ form_text g b → (f ≡ g) × (a ≡ b)
same_form f g a b h k e = grind (arith, common_steps, digits_length, fronts, append_cancel_left, digits-injective)

-- ---- A token is a letter, a form and positions.

abbrev pub letter : Start → ℕ
letter (At prefix) = 115
letter (After c) = 116

abbrev pub positions : Start → List ℕ
positions (At prefix) = prefix
positions (After c) = c

pub spelled_parts : (form : Option (List ℕ)) (start : Start) → spelled_text form start ≡ letter start ∷ form_text form (positions_text (positions start))
spelled_parts None (At prefix) = refl
spelled_parts (Some h) (At prefix) = refl
spelled_parts form start = refl

-- starts with the same letter and the same positions are the same
same_parts : (s t : Start) → letter s ≡ letter t → positions s ≡ positions t → s ≡ t
same_parts (At c) (At d) l e = ap At e
same_parts (After c) (After d) l e = ap After e
same_parts s t l e = absurd (omega (arith, l))

-- the text determines the start and the form, whatever the sizes are
pub same_spelled : (ns ms : List ℕ) (f g : Option (List ℕ)) (s t : Start) → AreSizes ns → AreSizes ms → IsStart ns s → IsStart ms t → IsForm f → IsForm g
    → spelled_text f s ≡ spelled_text g t → (s ≡ t) × (f ≡ g)
same_spelled ns ms f g s t sizes also a b h k e =
    search (rules, spelled_parts, same_form, joined-injective, small_positions, same_parts)

-- ---- What is read and what is refused.

-- a text that is read has a form
pub record IsSpelled (h text : List ℕ) (start : Start) : Type 0 where
  pub form : Option (List ℕ)
  pub is : spelled_text form start ≡ text
  pub of : IfSome form (λ k. k ≡ h)

pub spelled_read : (ns h text : List ℕ) (start : Start) → ReadsToken ns h text start → IsSpelled h text start
spelled_read ns h text start (is, inl old) = record { form = None; is = old; of = tt }
spelled_read ns h text start (is, inr written) = record { form = Some h; is = written; of = refl }

form_of : (h : List ℕ) (form : Option (List ℕ)) → IsFingerprint h → IfSome form (λ k. k ≡ h) → IsForm form
form_of h None is same = tt
form_of h (Some k) is same = subst IsFingerprint (sym same) is

-- a text that no start spells in any form is no token
pub no_token : (ns text : List ℕ) → ((form : Option (List ℕ)) (start : Start) → IsForm form → IsStart ns start → spelled_text form start ≡ text → ⊥)
    → IsNoToken ns text
no_token ns text none h start is reads =
    let s = spelled_read ns h text start reads in
    none s.form start (form_of h s.form is s.of) reads.0 s.is

pub same_start : (ns ms h k text : List ℕ) (s t : Start) → AreSizes ns → AreSizes ms → IsFingerprint h → IsFingerprint k
    → ReadsToken ns h text s → ReadsToken ms k text t → s ≡ t
same_start ns ms h k text s t sizes others is it reads also =
    let a = spelled_read ns h text s reads in
    let b = spelled_read ms k text t also in
    (same_spelled ns ms a.form b.form s t sizes others reads.0 also.0 (form_of h a.form is a.of) (form_of k b.form it b.of) (a.is ∙ sym b.is)).0

pub same_old : (ns ms : List ℕ) (s t : Start) → AreSizes ns → AreSizes ms → IsStart ns s → IsStart ms t → old_token_text s ≡ old_token_text t → s ≡ t
same_old ns ms s t sizes others a b e = (same_spelled ns ms None None s t sizes others a b tt tt e).0

pub same_written : (ns ms h k : List ℕ) (s t : Start) → AreSizes ns → AreSizes ms → IsStart ns s → IsStart ms t → IsFingerprint h → IsFingerprint k
    → token_text h s ≡ token_text k t → (s ≡ t) × (h ≡ k)
same_written ns ms h k s t sizes others a b is it e =
    let same = same_spelled ns ms (Some h) (Some k) s t sizes others a b is it e in
    (same.0, same_Some h k same.1)

pub different : (h : List ℕ) (s t : Start) → token_text h s ≢ old_token_text t
different h s t e = grind (arith, common_steps, spelled_parts)

pub not_refused : (ns h text : List ℕ) (start : Start) (kind : Kind) → AreSizes ns → IsFingerprint h → ReadsToken ns h text start → RefusesToken ns h text kind → ⊥
not_refused ns h text start kind sizes is reads (inl none) = none.1 h start is reads
not_refused ns h text start kind sizes is (at, inl old) (inr others) = different others.1.other others.1.start start (others.1.is_written ∙ sym old)
not_refused ns h text start kind sizes is (at, inr written) (inr others) = grind (arith, common_steps, same_written)

no_token_of_others : (ns h text : List ℕ) → IsNoToken ns text → IsTokenOfOthers ns h text → ⊥
no_token_of_others ns h text none o = none o.other o.start o.is_fingerprint (o.is_start, inr o.is_written)

pub one_cause : (ns h text : List ℕ) (a b : Kind) → RefusesToken ns h text a → RefusesToken ns h text b → a ≡ b
one_cause ns h text a b first second = grind (arith, common_steps, no_token_of_others)

-- ---- Two universes.

-- a token of the old form differs from each written one, so a written token has one fingerprint
pub same_fingerprint : (ns ms h k text : List ℕ) (s t : Start) → AreSizes ns → AreSizes ms → IsFingerprint h → IsFingerprint k
    → ReadsToken ns h text s → ReadsToken ms k text t → (text ≡ old_token_text s) ⊎ (h ≡ k)
same_fingerprint ns ms h k text s t sizes others is it (a, inl old) also = inl (sym old)
same_fingerprint ns ms h k text s t sizes others is it (a, inr written) (b, inl old) = absurd (different h s t (written ∙ sym old))
same_fingerprint ns ms h k text s t sizes others is it (a, inr written) (b, inr too) = search (rules, same_written)

-- a text that is read as a start over some sizes is no token over sizes that lack that start
pub no_start_there : (ns ms h k text : List ℕ) (start : Start) → AreSizes ns → AreSizes ms → IsFingerprint h → ReadsToken ns h text start → (IsStart ms start → ⊥)
    → RefusesToken ms k text BadToken
no_start_there ns ms h k text start sizes others is reads none =
    inl (refl, λ other t it also. none (subst (IsStart ms) (sym (same_start ns ms h other text start t sizes others is it reads also)) also.0))

pub of_other_inputs : (ms h k : List ℕ) (start : Start) → IsStart ms start → IsFingerprint h → h ≢ k → RefusesToken ms k (token_text h start) OtherInputs
of_other_inputs ms h k start at is differs = grind (arith, common_steps, is_fingerprint)

-- ---- For the readers.

-- after `2:` come the digits of a fingerprint, a colon and positions
pub written_form : (text rest : List ℕ) → ((rest : List ℕ) → text ≡ codes "1:" ++ rest → ⊥) → text ≡ codes "2:" ++ rest
    → ((h a : List ℕ) → IsFingerprint h → rest ≡ encode_lower h ++ (58 ∷ a) → ⊥)
    → (form : Option (List ℕ)) (a : List ℕ) → IsForm form → form_text form a ≡ text → ⊥
written_form text rest old cut none None a is e = old a (sym e)
written_form text rest old cut none (Some h) a is e = none h a is (ap (drop 2) (sym cut ∙ sym e))

-- a start is spelled by its letter, its form and its positions
pub not_spelled : (ns text : List ℕ) → ((form : Option (List ℕ)) (start : Start) → IsForm form → IsStart ns start
    → letter start ∷ form_text form (positions_text (positions start)) ≡ text → ⊥) → IsNoToken ns text
not_spelled ns text none = no_token ns text (λ form start is at e. none form start is at (sym (spelled_parts form start) ∙ e))

module _ (ns text rest : List ℕ) where
  -- what follows the letter is not a form
  pub no_form : (l : ℕ) → text ≡ l ∷ rest → ((form : Option (List ℕ)) (a : List ℕ) → IsForm form → form_text form a ≢ rest) → IsNoToken ns text
  no_form l cut none = not_spelled ns text (λ form start is at e. none form (positions_text (positions start)) is (ap (drop 1) (e ∙ cut)))

  -- what follows `s` and a form is not the positions of a prefix
  pub no_prefix : (form : Option (List ℕ)) (a : List ℕ) → text ≡ 115 ∷ rest → IsForm form → form_text form a ≡ rest
      → ((c : List ℕ) → admits ns c ≡ true → positions_text c ≢ a) → IsNoToken ns text
  no_prefix form a cut is same none = not_spelled ns text by
    where
      by : (g : Option (List ℕ)) (start : Start) → IsForm g → IsStart ns start → letter start ∷ form_text g (positions_text (positions start)) ≡ text → ⊥
      by g (At prefix) it at e = none prefix at (same_form g form (positions_text prefix) a it is (ap (drop 1) (e ∙ cut) ∙ sym same)).1
      by g (After c) it at e = absurd (omega (arith, ap (λ t. get_or t 0 0) (e ∙ cut)))

  -- what follows `t` and a form is not the positions of a whole choice
  pub no_whole : (form : Option (List ℕ)) (a : List ℕ) → text ≡ 116 ∷ rest → IsForm form → form_text form a ≡ rest
      → ((c : List ℕ) → IsWhole ns c → positions_text c ≢ a) → IsNoToken ns text
  no_whole form a cut is same none = not_spelled ns text by
    where
      by : (g : Option (List ℕ)) (start : Start) → IsForm g → IsStart ns start → letter start ∷ form_text g (positions_text (positions start)) ≡ text → ⊥
      by g (After c) it at e = none c at (same_form g form (positions_text c) a it is (ap (drop 1) (e ∙ cut) ∙ sym same)).1
      by g (At prefix) it at e = absurd (omega (arith, ap (λ t. get_or t 0 0) (e ∙ cut)))

-- a text that begins with neither letter is no token
pub no_letter : (ns text : List ℕ) → ((rest : List ℕ) → text ≢ 115 ∷ rest) → ((rest : List ℕ) → text ≢ 116 ∷ rest) → IsNoToken ns text
no_letter ns text s t = grind (arith, common_steps, not_spelled)
