-- `lowest_missing` meets its contract. The invariant: every byte below the words that are left is passed over, and of the next
-- word `before` has the bits below the start. So the lowest clear bit of the next word that has one is the byte sought, or it is
-- past n.
use mathlib.Core.Path.{◌≡◌, sym}
use Prim.Native.Nat.{◌+◌, ◌*◌, ◌/◌, ◌<◌, ◌≤◌}
use native.Mathlib.Omega.{arith}
use borrow.Author.Tests.{lt-ltb, le-ltb}
use Rattle.lists.proofs.SearchLaws.{or_true}
use Rattle.byteset.specs.Set.{has_byte}
use Rattle.byteset.proofs.LowestLaws.{start_bits, word_taken, word_free}
use Rattle.byteset.proofs.BitSet+4.lowest_missing.Goals as goal

pub loop-i-init : goal.loop-i-init
loop-i-init c =
    (λ y h. or_true (has_byte c.args.self.now.words y) _ (lt-ltb y c.args.start (omega (arith, h))), λ j h. rw c.mask-before.ensures (start_bits c.args.start j))

pub returns-then-r-from-clause-lowest : goal.returns-then-r-from-clause-lowest
returns-then-r-from-clause-lowest c =
    let taken = word_taken c.args.start c.args.self.now.words c.loop-i.i c.loop-i.before _ c.loop-i.invariant.0 c.loop-i.invariant.1 c.low_ones-ones.ensures in
    let free = word_free c.args.start c.args.self.now.words c.loop-i.i c.loop-i.before _ c.loop-i.invariant.0 c.loop-i.invariant.1 c.low_ones-ones.ensures in
    (omega (arith, c.if-r-from.true, c.from.ensures), taken, λ _. free c.if-ones-lt64.true)

pub returns-else-r-from-clause-lowest : goal.returns-else-r-from-clause-lowest
returns-else-r-from-clause-lowest c =
    let taken = word_taken c.args.start c.args.self.now.words c.loop-i.i c.loop-i.before _ c.loop-i.invariant.0 c.loop-i.invariant.1 c.low_ones-ones.ensures in
    (omega arith, λ y (h : y < c.args.n). taken y (omega (arith, h, c.if-r-from.false, c.from.ensures)), λ (h : c.args.n < c.args.n). absurd (omega arith))

pub loop-i-preserved : goal.loop-i-preserved
loop-i-preserved c =
    let taken = word_taken c.args.start c.args.self.now.words c.loop-i.i c.loop-i.before _ c.loop-i.invariant.0 c.loop-i.invariant.1 c.low_ones-ones.ensures in
    let all : c.low_ones-ones.result ≡ 64 = omega (arith, c.low_ones-ones.ensures.0, c.if-ones-lt64.false) in
    let from : c.args.start / 64 ≤ c.loop-i.i = c.loop-i.auto.i in (
      λ y (h : y < 64 * (c.loop-i.i + 1)). taken y (omega (arith, all, h)),
      λ j h. sym (le-ltb (64 * (c.loop-i.i + 1) + j) c.args.start (omega (arith, from))),
    )
