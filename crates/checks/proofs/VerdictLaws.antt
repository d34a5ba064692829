-- A call's tests, one part after the other: the first part that refuses decides, and the next one where none of it does. Every
-- refusal has a number, so a part that gives 0 refuses nothing.
use mathlib.Core.Path.{◌≡◌, refl, sym, ap, ◌∙◌}
use mathlib.Core.Bool.{true}
use mathlib.Core.List.{List, [], ◌∷◌, ◌++◌}
use Prim.Native.Nat.{ℕ, ◌≤◌}
use native.Mathlib.Omega.{arith}
use borrow.Author.Tests.{ltb-true, not-false}
use lib.Dec.{leb}
use Rattle.std.specs.Prelude.{Result, Ok, Err}
use Rattle.std.specs.Result.{IsErrAnd}
use Rattle.std.proofs.lemmas.Result.{err_from_is_err_and}
use Rattle.interface.specs.declared.Refusal.{Refusal}
use Rattle.interface.specs.declared.Refusal.TheVariants.{NotSound, BadSession, NoClient, AlreadyActive, NotActive, NoFile, FileInUse, NotHeld, NoPage, BadPageLength, NoFreeSlot, RecordFull, BadVolumeLength, BadShape, TooFewSectors, ReadOnly}
use Rattle.interface.specs.Answers.{refusal_number}
use Rattle.lists.specs.Lists.{first, every}
use Rattle.lists.proofs.SearchLaws.{first_none, first_refuses, first_accepts}
use Rattle.volume.specs.Places.{IsFile, IsPage}
use Rattle.volume.specs.Volumes.{Volume, view}
use Rattle.volume.specs.Sound.{sound}
use Rattle.volume.proofs.LawfulLaws.{lawful_facts, holder_four}
use Rattle.volume.proofs.SoundLaws.{sound_lawful}
use Rattle.rules.specs.Refusals.{Test, page_missing}
use Rattle.checks.specs.Verdicts.{number_of}

pub numbered : (r : Refusal) → 1 ≤ refusal_number r
numbered NotSound = omega arith
numbered BadSession = omega arith
numbered NoClient = omega arith
numbered AlreadyActive = omega arith
numbered NotActive = omega arith
numbered NoFile = omega arith
numbered FileInUse = omega arith
numbered NotHeld = omega arith
numbered NoPage = omega arith
numbered BadPageLength = omega arith
numbered NoFreeSlot = omega arith
numbered RecordFull = omega arith
numbered BadVolumeLength = omega arith
numbered BadShape = omega arith
numbered TooFewSectors = omega arith
numbered ReadOnly = omega arith

-- ------------------------------------------------------------------ one part after the other
-- A part that answers v.
module _ {A : Type 0} {v : Result A Refusal} (xs : List Test) where
  -- If it refuses it decides.
  pub refuses : {r : Refusal} (ys : List Test) → v ≡ Err r → number_of v ≡ first xs → refusal_number r ≡ first (xs ++ ys)
  refuses {r} ys a e = first_refuses (refusal_number r) xs ys (numbered r) (ap number_of (sym a) ∙ e)

  -- So it does where `?` hands its refusal on.
  pub refused : {B : Type 0} {r : Refusal} (w : Result B Refusal) (ys : List Test) → v ≡ Err r → number_of v ≡ first xs → IsErrAnd w (λ q. q ≡ r)
      → number_of w ≡ first (xs ++ ys)
  refused {r} w ys a e h = let p = err_from_is_err_and w h in rw (p.1, p.2) (refuses ys a e)

  -- Else the next one does.
  pub accepts : {u : A} {n : ℕ} (ys : List Test) → v ≡ Ok u → number_of v ≡ first xs → every (λ x. leb 1 x.0) xs ≡ true
      → n ≡ first ys → n ≡ first (xs ++ ys)
  accepts {u} {n} ys a e pos q = first_accepts n xs ys pos (ap number_of (sym a) ∙ e) q

-- ------------------------------------------------------------------ what the later tests rely on
-- A file that exists has a page that test 9 finds below its pages.
pub page_listed : (v w : Volume) (f g p : ℕ) → IsFile (view w).table g → 0 ≡ first (page_missing (view w) g p ∷ []) → g ≡ f → w ≡ v
    → IsPage (view v).table f p
unfolding first
page_listed v w f g p file e same_file same_volume =
    rw (← same_file, ← same_volume) (record { file = file; below = ltb-true _ _ (not-false _ (first_none (page_missing (view w) g p ∷ []) 0 refl (sym e))) })

-- A file of a sound volume has a holder up to 4.
pub holder_low : (v : Volume) (f : ℕ) → sound v ≡ true → IsFile (view v).table f → ((view v).headers f).holder ≤ 4
holder_low v f ok i = holder_four (lawful_facts _ (sound_lawful v ok)) f i
