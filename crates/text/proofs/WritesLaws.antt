-- Bytes written one after the other: a text over a part that was lent, and behind others, where both are written as one. And how many
-- digits a number has.
use mathlib.Core.Path.{◌≡◌, refl, sym, ap, ◌∙◌}
use mathlib.Core.Bool.{Bool, true, false}
use mathlib.Core.List.{[], ◌∷◌, ◌++◌, append_assoc}
use Prim.Native.Nat.{ℕ, ◌+◌, ◌-◌, ◌/◌, ◌%◌, ◌≤◌, ◌<◌}
use native.Mathlib.Nat.{zero-add}
use native.Mathlib.Omega.{arith}
use borrow.Author.Tests.{lt-ltb}
use lib.Dec.{ltb}
use lib.ListN.{length, take, length-append}
use borrow.Rule.Slice.Mut.{set_vals}
use borrow.Rule.Slice.PartMut.{put_mid}
use lib.Seq.{sets, sets-eq, length-sets, drop-drop}
use Rattle.lists.specs.Lists.{when◌then◌else◌}
use Rattle.lists.proofs.ListLaws.{sets_append}
use Rattle.sector.specs.Contents.{Bytes}
use Rattle.volume.specs.Listing.{digit, decimal}
use Rattle.text.specs.declared.Writer.{Writer}
use Rattle.text.specs.Writes.{HasRoom, Wrote, at_front}

-- e is written behind d.
pub wrote_more : {d e : Bytes} {w x y : Writer} → Wrote d w x → Wrote e x y → Wrote (d ++ e) w y
wrote_more {d} {e} {w} a b = record {
  same = b.same ∙ a.same;
  size = b.size ∙ a.size;
  bytes = b.bytes ∙ rw (a.bytes, a.next) (sym (sets_append d e w.out.now w.at));
  next = omega (arith, b.next, a.next, length-append d e);
}

-- At the front.
pub wrote_front : {t : Bytes} {w x : Writer} → w.at ≡ 0 → Wrote t w x → length t ≤ length w.out.now
    → (x.out.now ≡ at_front t w.out.now) × (x.at ≡ length t)
wrote_front {t} {w} e a h =
    let fits : 0 + length t ≤ length w.out.now = omega arith in
    (a.bytes ∙ rw e (sets-eq t w.out.now 0 fits ∙ rw (zero-add (length t))), a.next ∙ rw e (zero-add (length t)))

-- A part that is as long as the text was lent, and came back as the text.
pub wrote_part : {t x : Bytes} (w : Writer) → x ≡ t → HasRoom w (length t)
    → Wrote t w (record { out = set_vals (put_mid w.at (w.at + length t - w.at) w.out.now x) w.out; at = w.at + length t })
wrote_part {t} {x} w e fits =
    let n : w.at + length t - w.at ≡ length t = omega arith in
    let b : put_mid w.at (w.at + length t - w.at) w.out.now x ≡ sets w.out.now w.at t =
    rw (n, e, drop-drop) (sym (sets-eq t w.out.now w.at fits ∙ append_assoc (take w.at w.out.now) t _)) in
    record { same = refl; size = ap length b ∙ length-sets w.out.now w.at t; bytes = b; next = refl }

-- ------------------------------------------------------------------ a number
module _ (n : ℕ) where
  pub one_digit : n < 10 → length (decimal n) ≡ 1
  unfolding decimal
  one_digit h = rw (lt-ltb n 10 h)

  pub below_100 : n < 100 → length (decimal n) ≤ 2
  unfolding decimal
  below_100 h = rw (lt-ltb n 100 h) (go (ltb n 10))
    where
      go : (b : Bool) → length (when b then digit n ∷ [] else digit (n / 10) ∷ digit (n % 10) ∷ []) ≤ 2
      go true = omega arith
      go false = omega arith

  pub any_number : length (decimal n) ≤ 3
  unfolding decimal
  any_number = go (ltb n 10) (ltb n 100)
    where
      go : (a b : Bool) → length (when a then digit n ∷ [] else when b then digit (n / 10) ∷ digit (n % 10) ∷ []
          else digit (n / 100) ∷ digit (n / 10 % 10) ∷ digit (n % 10) ∷ []) ≤ 3
      go true b = omega arith
      go false true = omega arith
      go false false = omega arith
