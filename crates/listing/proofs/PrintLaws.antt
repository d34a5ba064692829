-- What is printed, from the text written at the front, by the tests of the definition.
use mathlib.Core.Path.{◌≡◌, refl}
use mathlib.Core.Bool.{Bool, true, false}
use Prim.Native.Nat.{◌≤◌}
use native.Mathlib.Omega.{arith}
use borrow.Author.Tests.{le-ltb}
use lib.Dec.{ltb}
use lib.ListN.{length, take, length-take}
use Rattle.lists.specs.Lists.{when◌then◌else◌}
use Rattle.sector.specs.Contents.{Bytes}
use Rattle.volume.specs.Volumes.{Volume, view}
use Rattle.volume.specs.Sound.{sound}
use Rattle.volume.specs.Listing.{listing, printed, too_long_text, not_sound_text}
use Rattle.text.specs.declared.Writer.{Writer}
use Rattle.text.specs.Writes.{Wrote, ToPrint}
use Rattle.text.proofs.WritesLaws.{wrote_front}
use Rattle.listing.specs.Listed.{to_print}
use Rattle.listing.proofs.ListingLaws.{listing_fits}

-- It fits wherever a listing does.
pub printed_fits : (v : Volume) → length (printed v) ≤ 664
unfolding printed
printed_fits v = go (ltb 65536 (length v)) (sound v) refl
  where
    go : (a b : Bool) → sound v ≡ b
        → length (when a then too_long_text else when b then listing (view v) else not_sound_text) ≤ 664
    go true b e = omega arith
    go false true e = listing_fits v e
    go false false e = omega arith

-- At the front it is what is to be printed, and it fits; o is what the buffer ends as. The last part follows from the one before,
-- and is there for the code that lends this front.
pub print_ends : (v : Volume) {o : Bytes} {w x : Writer} → o ≡ x.out.now → w.at ≡ 0 → 664 ≤ length w.out.now → Wrote (printed v) w x
    → ◌≡◌ {A = ToPrint} (record { count = x.at; out = o }) (to_print v w.out.now) × ((x.at ≤ length o) × (x.at ≡ length (take x.at o)))
unfolding to_print
print_ends v {o} {w} {x} is e room a =
    let t = wrote_front e a (omega (arith, printed_fits v)) in
    let fit : x.at ≤ length o = rw is (omega (arith, a.next, a.size, printed_fits v)) in
    (rw (is, le-ltb (length w.out.now) 664 room, t.0, t.1), (fit, omega (arith, length-take x.at o)))
