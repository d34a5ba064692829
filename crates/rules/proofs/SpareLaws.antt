-- The question how many slots are left reads two sectors, and on a sound volume answers the count taken from the map. A sound
-- volume's header is an encoding, so its mark is there and byte 3 is R less the map's length; the map's slots are below R and differ,
-- so as many slots are in the map as it is long (`CountLaws`), and the others are the rest.
use mathlib.Core.Path.{◌≡◌, refl, ap, ◌∙◌}
use mathlib.Core.Bool.{true, false}
use Prim.Native.Nat.{ℕ, zero, suc}
use lib.ListN.{length}
use Rattle.interface.specs.Answers.{counted}
use Rattle.lists.specs.Lists.{first, member, from}
use Rattle.lists.proofs.CaseLaws.{by_test}
use Rattle.lists.proofs.SearchLaws.{from_length}
use Rattle.lists.proofs.CountLaws.{count_both, count_members, count_others}
use Rattle.sector.specs.Contents.{Bytes}
use Rattle.sector.specs.Sectors.{sector}
use Rattle.sector.specs.Encoding.{encode_header}
use Rattle.sector.specs.Decoding.{decode_table, spare_in}
use Rattle.sector.proofs.CodecLaws.{header_mark_lem, header_spare}
use Rattle.volume.specs.Places.{IsFile, is_file, file_at}
use Rattle.volume.specs.Volumes.{Volume, table_of, view}
use Rattle.volume.specs.Sound.{sound, table_sound_in}
use Rattle.volume.proofs.PlaceLaws.{is_file_lem, file_of}
use Rattle.volume.proofs.LawfulLaws.{MapFacts}
use Rattle.volume.proofs.SoundLaws.{fine, sound_table}
use Rattle.rules.specs.Spare.{header_of, spare_tests, spare_by, spare, SpareReads, SpareIsCount, SlotsTogether, SlotOfEachPage}

-- ------------------------------------------------------------------ what it reads
same_table : (v w : Volume) → sector v 0 ≡ sector w 0 → (view v).table ≡ (view w).table
unfolding view table_of
same_table v w e = ap decode_table e

same_test : (v w : Volume) → length v ≡ length w → sector v 0 ≡ sector w 0 → table_sound_in v ≡ table_sound_in w
unfolding table_sound_in table_of
same_test v w n e = rw (n, e)

module _ (v w : Volume) (f : ℕ) (n : length v ≡ length w) (e : sector v 0 ≡ sector w 0) where
  -- The file's header is alike.
  same_header : header_of v f ≡ header_of w f → spare v f ≡ spare w f
  unfolding spare
  same_header h =
      let t : first (spare_tests v f) ≡ first (spare_tests w f) = rw (h, same_test v w n e, same_table v w e) in
      rw t (go (first (spare_tests w f)))
    where
      go : (x : ℕ) → spare_by x v f ≡ spare_by x w f
      go zero = ap (λ (d : Bytes). counted (spare_in d)) h
      go (suc x) = refl

  -- There is no such file: 1 or 6, by sector 0 and the length.
  no_header_lem : is_file (view v).table f ≡ false → spare v f ≡ spare w f
  unfolding spare first
  no_header_lem x =
      let y : is_file (view w).table f ≡ false = rw (same_table v w e) at x in
      by_test (table_sound_in w) (λ b. rw (same_test v w n e, b, x, y)) (λ b. rw (same_test v w n e, b))

pub spare_reads : SpareReads
spare_reads v w f n e h =
    by_test (is_file (view v).table f) (λ y. same_header v w f n e (h (file_of (view v).table f y))) (no_header_lem v w f n e)

-- ------------------------------------------------------------------ what its tests leave
pub spare_answered : (v : Volume) (f : ℕ) → first (spare_tests v f) ≡ 0 → spare v f ≡ counted (spare_in (header_of v f))
unfolding spare
spare_answered v f e = rw e

-- ------------------------------------------------------------------ the count
module _ (v : Volume) (f : ℕ) (ok : sound v ≡ true) (i : IsFile (view v).table f) where
  map_facts : MapFacts (view v).table f ((view v).headers f).map
  map_facts = ((fine v ok).laws.headers f i).map

  header_is : header_of v f ≡ encode_header (file_at (view v).table f) ((view v).headers f)
  header_is = (fine v ok).formed.header_bytes f i.low i.high

  -- None of the question's tests refuses it.
  passes : first (spare_tests v f) ≡ 0
  unfolding first
  passes = rw (sound_table v ok, is_file_lem (view v).table f i, header_is, header_mark_lem (file_at (view v).table f) ((view v).headers f))

pub spare_count : SpareIsCount
unfolding spare
spare_count v f ok i =
    let m : MapFacts (view v).table f ((view v).headers f).map = map_facts v f ok i in
    rw (passes v f ok i)
    (ap counted (ap spare_in (header_is v f ok i) ∙ header_spare (file_at (view v).table f) ((view v).headers f) ∙ count_others (file_at (view v).table f).slots ((view v).headers f).map m.below m.unlike))

pub slots_together : SlotsTogether
slots_together a f = count_both (λ r. member r (a.headers f).map) (from 0 (file_at a.table f).slots) ∙ from_length _ 0

pub slot_of_each_page : SlotOfEachPage
slot_of_each_page v f ok i =
    let m : MapFacts (view v).table f ((view v).headers f).map = map_facts v f ok i in
    count_members (file_at (view v).table f).slots ((view v).headers f).map m.below m.unlike ∙ m.size
