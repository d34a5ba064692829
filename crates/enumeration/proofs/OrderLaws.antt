-- In a list that rises each comes before every later one; and nothing comes before itself.
use mathlib.Core.Path.{◌≡◌, refl, ◌∙◌}
use mathlib.Core.Bool.{Bool, true, ◌&&◌, false≢true}
use mathlib.Core.List.{List, [], ◌∷◌}
use Prim.Native.Nat.{ℕ, zero, suc, ◌<◌}
use native.Mathlib.Nat.{not-suc-le-zero, le_of_suc-le-suc}
use native.Mathlib.Omega.{arith}
use borrow.Author.Tests.{ltb-true, eqb-true, lt-ltb, le-ltb, eq-eqb}
use lib.Dec.{eqb, ltb}
use lib.ListN.{length, get_or}
use Rattle.lists.proofs.ListLaws.{and_left, and_right}
use Rattle.lists.proofs.CaseLaws.{by_test}
use Rattle.sector.specs.Contents.{Bytes}
use Rattle.enumeration.specs.Statements.{precedes}

-- ------------------------------------------------------------------ bytes
precedes_case : {X : Type 0} (a b : ℕ) (x y : Bytes) → precedes (a ∷ x) (b ∷ y) ≡ true → (a < b → X) → (a ≡ b → precedes x y ≡ true → X) → X
precedes_case {X} a b x y e k l = by_test (ltb a b) (λ p. k (ltb-true a b p)) (λ p. go (rw p at e))
  where
    go : (eqb a b && precedes x y) ≡ true → X
    go q = l (eqb-true a b (and_left (eqb a b) _ q)) (and_right (eqb a b) _ q)

precedes_less : (a b : ℕ) (x y : Bytes) → a < b → precedes (a ∷ x) (b ∷ y) ≡ true
precedes_less a b x y l = rw (lt-ltb a b l)

precedes_same : (a b : ℕ) (x y : Bytes) → a ≡ b → precedes x y ≡ true → precedes (a ∷ x) (b ∷ y) ≡ true
precedes_same a b x y e h = rw (le-ltb a b (omega arith), eq-eqb a b e) h

precedes_through : (x y z : Bytes) → precedes x y ≡ true → precedes y z ≡ true → precedes x z ≡ true
precedes_through x [] z p q = none x p
  where
    none : (x : Bytes) → precedes x [] ≡ true → precedes x z ≡ true
    none [] p = absurd (false≢true p)
    none (a ∷ x) p = absurd (false≢true p)
precedes_through x (b ∷ y) [] p q = absurd (false≢true q)
precedes_through [] (b ∷ y) (c ∷ z) p q = refl
precedes_through (a ∷ x) (b ∷ y) (c ∷ z) p q =
    precedes_case a b x y p
    (λ l. precedes_case b c y z q (λ m. precedes_less a c x z (omega arith)) (λ e r. precedes_less a c x z (omega arith)))
    (λ e r. precedes_case b c y z q (λ m. precedes_less a c x z (omega arith)) (λ f s. precedes_same a c x z (e ∙ f) (precedes_through x y z r s)))

pub not_itself : (x : Bytes) → precedes x x ≡ true → ⊥
not_itself [] e = false≢true e
not_itself (a ∷ x) e = precedes_case a a x x e (λ l. omega arith) (λ q r. not_itself x r)

-- ------------------------------------------------------------------ a list
-- Each comes before the next one.
abbrev pub rising : List Bytes → Bool
rising [] = true
rising (x ∷ []) = true
rising (x ∷ y ∷ l) = precedes x y && rising (y ∷ l)

pub rising_all : (d : Bytes) (l : List Bytes) → rising l ≡ true → (i j : ℕ) → i < j → j < length l → precedes (get_or l i d) (get_or l j d) ≡ true
rising_all d [] e i j p q = absurd (not-suc-le-zero q)
rising_all d (x ∷ []) e i zero p q = absurd (not-suc-le-zero p)
rising_all d (x ∷ []) e i (suc j) p q = absurd (not-suc-le-zero (le_of_suc-le-suc q))
rising_all d (x ∷ y ∷ l) e i zero p q = absurd (not-suc-le-zero p)
rising_all d (x ∷ y ∷ l) e zero (suc zero) p q = and_left (precedes x y) _ e
rising_all d (x ∷ y ∷ l) e zero (suc (suc j)) p q =
    precedes_through x y (get_or (y ∷ l) (suc j) d) (and_left (precedes x y) _ e)
    (rising_all d (y ∷ l) (and_right (precedes x y) _ e) zero (suc j) (omega arith) (le_of_suc-le-suc q))
rising_all d (x ∷ y ∷ l) e (suc i) (suc j) p q =
    rising_all d (y ∷ l) (and_right (precedes x y) _ e) i j (le_of_suc-le-suc p) (le_of_suc-le-suc q)
