-- The fields of a line: what the library's search for a space finds, and what is left of a line while its number is read.
use mathlib.Core.Path.{◌≡◌, refl, ap, sym, ◌∙◌}
use mathlib.Core.Bool.{Bool, true, false, cond, ◌&&◌}
use mathlib.Core.List.{[], ◌∷◌}
use mathlib.Core.Logic.{◌≢◌}
use Prim.Native.Nat.{ℕ, suc, ◌+◌, ◌-◌, ◌≤◌, ◌<◌}
use native.Mathlib.Numerals.{add-one, one-add}
use native.Mathlib.Omega.{arith}
use borrow.Author.Tests.{eq-eqb, ne_eqb, ltb-false}
use lib.Dec.{eqb, ltb}
use lib.Pointwise.{pointwise}
use lib.ListN.{length, drop, take, get_or, drop_of_length-le, length-drop}
use lib.Seq.{take-length, take_all}
use Rattle.std.specs.Prelude.{Option, Some, None}
use Rattle.std.specs.Option.{unwrap_or}
use Rattle.std.specs.List.{position_or_len}
use Rattle.sector.specs.Contents.{Bytes}
use Rattle.lists.proofs.CaseLaws.{by_equal}
use Rattle.lists.proofs.TestLaws.{drop_next}
use Rattle.script.specs.Fields.{is_space, is_digit, before_space, behind_space, from_field, too_large, digits_from, front, has_word}

-- The first space of a line, as the library finds it.
pub before_first_space : (l : Bytes) → take (position_or_len is_space l) l ≡ before_space l
before_first_space [] = refl
before_first_space (c ∷ l) = by_equal c 0x20 (λ e. rw (eq-eqb _ _ e)) (λ e. rw (ne_eqb _ _ e, one-add, before_first_space l))

pub behind_first_space : (l : Bytes) → drop (position_or_len is_space l + 1) l ≡ behind_space l
behind_first_space [] = refl
behind_first_space (c ∷ l) =
    let p = position_or_len is_space l in
    let q : 1 + p + 1 ≡ suc (p + 1) = omega arith in
    by_equal c 0x20 (λ e. rw (eq-eqb _ _ e)) (λ e. rw (ne_eqb _ _ e, q, behind_first_space l))

-- Where the first space is, and what the search for it answers, by whether there is one.
abbrev pub first_space : Bytes → ℕ
first_space l = position_or_len is_space l

abbrev pub found : Bytes → Bool → Option ℕ
found l b = cond b (Some (first_space l)) None

module _ (l : Bytes) where
  found_here : (b : Bool) (i : ℕ) → found l b ≡ Some i → first_space l ≡ i
  found_here true i e = ap (λ (o : Option ℕ). unwrap_or o 0) e
  found_here false i e = ap (λ (o : Option ℕ). unwrap_or o (first_space l)) e

  found_nowhere : (b : Bool) → found l b ≡ None → b ≡ false
  found_nowhere true e =
      let k : first_space l ≡ first_space l + 1 = ap (λ (o : Option ℕ). unwrap_or o (first_space l + 1)) e in
      absurd (omega arith)
  found_nowhere false e = refl

  module _ {r : Option ℕ} (q : r ≡ found l (ltb (first_space l) (length l))) where
    pub cut_at : (i : ℕ) → r ≡ Some i → (take i l ≡ before_space l) × (take (length l - (i + 1)) (drop (i + 1) l) ≡ behind_space l)
    cut_at i e =
        let k : first_space l ≡ i = found_here (ltb (first_space l) (length l)) i (sym q ∙ e) in
        rw (← k) (before_first_space l, rw (← length-drop (first_space l + 1) l, take-length (drop (first_space l + 1) l)) (behind_first_space l))

    pub cut_nowhere : r ≡ None → (l ≡ before_space l) × ([] ≡ behind_space l)
    cut_nowhere e =
        let h : length l ≤ first_space l = ltb-false _ _ (found_nowhere (ltb (first_space l) (length l)) (sym q ∙ e)) in (
          sym (take_all (first_space l) l h) ∙ before_first_space l,
          sym (drop_of_length-le l {i = first_space l + 1} (omega arith)) ∙ behind_first_space l,
        )

-- A line has the word where it begins with the word's bytes, with a space behind them: no more of a line is read than a word.
pub begins_with_word : (w l : Bytes)
    → (pointwise eqb (before_space w) (take (length (before_space w)) l) && is_space (front (drop (length (before_space w)) l))) ≡ has_word w l
begins_with_word [] l = refl
begins_with_word (x ∷ w) [] = by_equal x 0x20 (λ e. rw e) (λ e. rw (ne_eqb _ _ e, ne_eqb 0x20 x (λ q. e (sym q))))
begins_with_word (x ∷ w) (c ∷ l) =
    by_equal x 0x20
    (λ e. rw e (by_equal c 0x20 (λ f. rw f) (λ f. rw (ne_eqb _ _ f))))
    (λ e. by_equal c x
    (λ f. rw (f, ne_eqb _ _ e, eq-eqb x x refl, begins_with_word w l))
    (λ f. rw (ne_eqb _ _ e, ne_eqb _ _ f, ne_eqb x c (λ q. f (sym q)))))

-- What each of the two tests says, where b is the word.
module _ (w l : Bytes) {b : Bytes} (q : b ≡ before_space w) where
  word_is : has_word w l ≡ (pointwise eqb b (take (length b) l) && is_space (front (drop (length b) l)))
  word_is = rw q (sym (begins_with_word w l))

  pub word_begins : pointwise eqb b (take (length b) l) ≡ true → is_space (front (drop (length b) l)) ≡ has_word w l
  word_begins e = sym (word_is ∙ rw e)

  pub word_missing : pointwise eqb b (take (length b) l) ≡ false → false ≡ has_word w l
  word_missing e = sym (word_is ∙ rw e)

-- A byte that is neither a space nor a digit.
pub digits_no : (l : Bytes) (i : ℕ) (n : ℕ) → i < length l → get_or l i 0 ≢ 0x20 → is_digit (get_or l i 0) ≡ false
    → digits_from n (drop i l) ≡ too_large
digits_no l i n h e f = rw (drop_next l i 0 h, ne_eqb _ _ e, f)

-- The line from the next field on.
pub field_next : (l : Bytes) (n : ℕ) {rest : Bytes} → rest ≡ from_field n l → behind_space rest ≡ from_field (n + 1) l
unfolding from_field
field_next l n e = rw (e, add-one n)
