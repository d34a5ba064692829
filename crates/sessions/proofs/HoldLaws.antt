-- A word of reading holds with one of them taken out.
use mathlib.Core.Path.{◌≡◌, ◌∙◌}
use Prim.Native.Nat.{ℕ, ◌+◌, ◌-◌, ◌*◌, ◌^◌, ◌<◌}
use native.Mathlib.Omega.{arith}
use borrow.Author.Tests.{ne_eqb, eq-eqb}
use lib.Bits.{bit_and}
use lib.Pow.{pow-lt, pow_pos}
use Rattle.std.specs.Int.{bit_at}
use Rattle.std.proofs.lemmas.Nat.{and-not, and_comm}
use Rattle.std.proofs.lemmas.Nat.Bits.{and_pow, bit_at-lt}
use Rattle.lists.proofs.CaseLaws.{by_equal}
use Rattle.byteset.specs.Bits.{without_bit}

-- All bits but k are kept.
pub all_but : (w k : ℕ) → w < 65536 → k < 16 → bit_and w (65535 - 2 ^ k) ≡ without_bit w k
unfolding without_bit
all_but w k h lo =
    let p : 2 ^ k < 2 ^ 16 = pow-lt lo in
    let parts : bit_and (65535 - 2 ^ k) w + bit_and (2 ^ k) w ≡ w = and-not 16 (2 ^ k) w p h in
    let kept : bit_and w (65535 - 2 ^ k) ≡ bit_and (65535 - 2 ^ k) w = and_comm w (65535 - 2 ^ k) in
    let bit : bit_and (2 ^ k) w ≡ bit_and w (2 ^ k) = and_comm (2 ^ k) w in
    let at : bit_and w (2 ^ k) ≡ bit_at w k * 2 ^ k = and_pow w k in
    let few : bit_at w k < 2 = bit_at-lt w k in
    by_equal (bit_at w k) 0
    (λ z.
    let none : bit_and w (2 ^ k) ≡ 0 = at ∙ rw z (omega arith) in
    rw (eq-eqb _ _ none) (omega arith))
    (λ n.
    let one : bit_at w k ≡ 1 = omega arith in
    let all : bit_and w (2 ^ k) ≡ 2 ^ k = at ∙ rw one (omega arith) in
    let some : 0 < 2 ^ k = pow_pos k in
    rw (ne_eqb _ 0 (λ (e : bit_and w (2 ^ k) ≡ 0). omega arith)) (omega arith))
