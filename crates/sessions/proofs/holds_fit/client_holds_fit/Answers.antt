-- `client_holds_fit` meets its contract: each file up to the last one held is looked at, and above it no bit is set.
use mathlib.Core.Path.{◌≡◌, refl, sym, ◌∙◌}
use mathlib.Core.Bool.{false, not, ◌||◌}
use Prim.Native.Nat.{ℕ, ◌-◌, ◌^◌, ◌≤◌, ◌<◌}
use native.Mathlib.Omega.{arith}
use borrow.Author.Tests.{tests}
use lib.Count.{count_leading_zeros, leading_le, leading_length}
use Rattle.std.proofs.Common.{rules}
use Rattle.std.proofs.lemmas.Iterator.Search.{all_from_yields_List}
use Rattle.volume.specs.Volumes.{view}
use Rattle.byteset.proofs.BitLaws.{none_above}
use Rattle.byteset.specs.Bits.{has_bit}
use Rattle.lists.proofs.RangeLaws.{yields_below}
use Rattle.lists.proofs.TestLaws.{every_front}
use Rattle.rules.specs.Sessions.{files_read, is_reading, hold_fits, client_holds_fit}
use Rattle.sessions.proofs.holds_fit.client_holds_fit.Goals as goal

-- A word has no bit from its length on.
none_longer : (w j : ℕ) → w < 2 ^ 16 → 16 - count_leading_zeros 16 w ≤ j → has_bit w j ≡ false
none_longer w j h lo =
    let t = leading_length 16 w h in
    none_above w t.0 j t.2 (omega (arith, t.1))

pub returns : goal.returns
unfolding client_holds_fit is_reading
returns c =
    let w = files_read c.args.s c.args.k.number in
    let word : w < 2 ^ 16 = search arith in
    let last = 16 - count_leading_zeros 16 w in
    all_from_yields_List (λ f. not (is_reading c.args.s c.args.k.number f) || hold_fits (view c.args.v.bytes.now) c.args.s c.args.k.number f)
    _ _ _ c.all.ensures.ran (yields_below 1 last _ refl (rw c.index.ensures.0 (omega (arith, leading_le 16 w)))) (λ x b q k. search (rules, tests))
    ∙ sym (every_front _ 16 last 1 (omega arith) (λ i lo hi. rw (none_longer w (i - 1) word (omega (arith, lo)))))
