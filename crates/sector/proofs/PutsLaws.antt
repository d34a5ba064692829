-- Bytes put where there were zeros: one byte, a sector that is stored, zeros (nothing has to be done), and bytes behind others.
-- Each by splitting the zeros into those that are replaced and those that are left.
use mathlib.Core.Path.{◌≡◌, sym, ◌∙◌}
use mathlib.Core.List.{[], ◌∷◌, ◌++◌, append_assoc}
use Prim.Native.Nat.{ℕ, suc, ◌+◌, ◌*◌}
use native.Mathlib.Omega.{arith}
use lib.ListN.{length, drop, set, replicate, length-append, length-replicate, replicate-append-replicate}
use lib.Seq.{set_at, take_at, drop_at, drop-append-add}
use Rattle.sector.specs.Contents.{Bytes}
use Rattle.sector.specs.Sectors.{store_at}
use Rattle.sector.specs.Puts.{Puts}

pub puts_zeros : (at m : ℕ) (b : Bytes) → Puts at (replicate m 0) b b
unfolding Puts
puts_zeros at m b p n l q = rw (length-replicate {A = ℕ} m 0, ← replicate-append-replicate {A = ℕ} m n 0) at q

-- Then e is put behind d.
pub puts_more : (at next : ℕ) (d e b c f : Bytes) → next ≡ at + length d → Puts at d b c → Puts next e c f → Puts at (d ++ e) b f
unfolding Puts
puts_more at next d e b c f s x y p n l q =
    let m : length (d ++ e) + n ≡ length d + (length e + n) = omega (arith, length-append d e) in
    let k : length (p ++ d) ≡ next = omega (arith, length-append p d) in
    let first : c ≡ p ++ (d ++ replicate (length e + n) 0) = x p (length e + n) l (rw m at q) in
    let both : f ≡ (p ++ d) ++ (e ++ replicate n 0) = y (p ++ d) n k (first ∙ sym (append_assoc p d (replicate (length e + n) 0))) in
    both ∙ rw (append_assoc p d (e ++ replicate n 0), append_assoc d e (replicate n 0))

pub puts_byte : (at x : ℕ) (b : Bytes) → Puts at (x ∷ []) b (set b at x)
unfolding Puts
puts_byte at x b p n l q =
    let m : 1 + n ≡ suc n = omega arith in
    rw (q, m) (set_at p 0 (replicate n 0) x at l)

pub puts_store : (s : ℕ) (d b : Bytes) → length d ≡ 256 → Puts (256 * s) d b (store_at b s d)
unfolding Puts store_at
puts_store s d b full p n l q =
    let z : Bytes = replicate (256 + n) 0 in
    let split : z ≡ replicate 256 0 ++ replicate n 0 = sym (replicate-append-replicate 256 n 0) in
    let left : drop (256 * s + 256) (p ++ z) ≡ replicate n 0 =
    rw (← l, split) (drop-append-add p _ 256 ∙ drop_at (replicate 256 0) (replicate n 0) 256 (length-replicate {A = ℕ} 256 0)) in
    rw (q, full, take_at p z (256 * s) l, left)
