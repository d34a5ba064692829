-- Choices and cases: a claim about what is chosen, from the claim about each choice where it is made.
use mathlib.Core.Path.{◌≡◌, refl, sym, ◌∙◌}
use mathlib.Core.Bool.{Bool, true, false, ◌||◌}
use mathlib.Core.Logic.{◌≢◌}
use Prim.Native.Nat.{ℕ}
use borrow.Author.Tests.{eqb-true, eqb-false, eq-eqb, ne_eqb}
use lib.Dec.{eqb}
use Rattle.lists.specs.Lists.{when◌then◌else◌}

-- Either the test holds, or it doesn't.
pub by_test : {X : Type 0} (b : Bool) → (b ≡ true → X) → (b ≡ false → X) → X
by_test true p q = p refl
by_test false p q = q refl

-- Either the two numbers are equal, or they aren't.
pub by_equal : {X : Type 0} (i j : ℕ) → (i ≡ j → X) → (i ≢ j → X) → X
by_equal i j p q = by_test (eqb i j) (λ e. p (eqb-true i j e)) (λ e. q (eqb-false i j e))

-- The claim about what a test chooses.
pub if_test : {A : Type 0} (P : A → Type 0) (b : Bool) (x y : A) → (b ≡ true → P x) → (b ≡ false → P y) → P (when b then x else y)
if_test P true x y p q = p refl
if_test P false x y p q = q refl

-- The same where the test is whether two numbers are equal.
pub if_equal : {A : Type 0} (P : A → Type 0) (i j : ℕ) (x y : A) → (i ≡ j → P x) → (i ≢ j → P y) → P (when eqb i j then x else y)
if_equal P i j x y p q = if_test P (eqb i j) x y (λ e. p (eqb-true i j e)) (λ e. q (eqb-false i j e))

-- The choice where the test holds may be another one, if the two are equal then.
pub in_if : {A : Type 0} (b : Bool) (x y z : A) → (b ≡ true → x ≡ y) → (when b then x else z) ≡ (when b then y else z)
in_if true x y z h = h refl
in_if false x y z h = refl

pub eqb_sym : (i j : ℕ) → eqb i j ≡ eqb j i
eqb_sym i j = by_equal i j (λ e. eq-eqb i j e ∙ sym (eq-eqb j i (sym e))) (λ n. ne_eqb i j n ∙ sym (ne_eqb j i (λ e. n (sym e))))

-- Of three tests one of which holds, the second may come first.
pub or_turn : (a b c : Bool) → ((a || b) || c) ≡ (b || (a || c))
or_turn true true c = refl
or_turn true false c = refl
or_turn false b c = refl
