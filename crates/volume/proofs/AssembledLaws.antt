-- A volume put together from its places has in each what was put there, and a volume is its own places put together.
-- Sector i of joined bytes is its owner's; a place owns its sector, and every sector before the later ones has an owner.
use mathlib.Core.Path.{◌≡◌, refl, ap, ◌∙◌}
use mathlib.Core.List.{List, [], ◌∷◌}
use Prim.Native.Nat.{ℕ, zero, suc, ◌+◌, ◌*◌, ◌<◌}
use native.Mathlib.Omega.{arith}
use lib.ListN.{length, get_or, drop, length-append, take-append-drop}
use lib.Seq.{take_at, drop-append-add, drop-drop}
use Rattle.sector.specs.Contents.{Bytes, Table}
use Rattle.sector.specs.Sectors.{sector}
use Rattle.volume.specs.Places.{end_sector, Place, table_place, sector_of}
use Rattle.volume.specs.Volumes.{Volume, bytes_at}
use Rattle.volume.specs.Assembled.{owners, joined, assembled}
use Rattle.volume.proofs.PlaceLaws.{Exists, place_ends, owner_at, Covers, owners_cover}

module _ (t : Table) (at : Place → Bytes) (full : (p : Place) → Exists t p → length (at p) ≡ 256) (rest : Bytes) where
  joined_sector : (ps : List Place) (s e i : ℕ) → Covers t s ps e → s + i < e → sector (joined at ps rest) i ≡ at (get_or ps i table_place)
  unfolding joined sector
  joined_sector [] s e i c lt = absurd (omega arith)
  joined_sector (p ∷ ps) s e zero c lt = take_at (at p) (joined at ps rest) 256 (full p c.0)
  joined_sector (p ∷ ps) s e (suc i) c lt =
      let z : 256 * suc i ≡ length (at p) + 256 * i = omega (arith, full p c.0) in
      rw (z, drop-append-add (at p) (joined at ps rest) (256 * i)) (joined_sector ps (suc s) e i c.2 (omega arith))

  joined_length : (ps : List Place) (s e : ℕ) → Covers t s ps e → 256 * s + length (joined at ps rest) ≡ 256 * e + length rest
  unfolding joined
  joined_length [] s e c = rw c
  joined_length (p ∷ ps) s e c = omega (arith, length-append (at p) (joined at ps rest), full p c.0, joined_length ps (suc s) e c.2)

  -- Its places hold what was put there.
  pub assembled_bytes : (p : Place) → Exists t p → bytes_at t (assembled t at rest) p ≡ at p
  assembled_bytes p e =
      let lt : 0 + sector_of t p < end_sector t = omega (arith, place_ends t p e) in
      joined_sector (owners t) 0 (end_sector t) (sector_of t p) (owners_cover t) lt ∙ ap at (owner_at t p e)

  pub assembled_length : length (assembled t at rest) ≡ 256 * end_sector t + length rest
  assembled_length = omega (arith, joined_length (owners t) 0 (end_sector t) (owners_cover t))

-- It doesn't matter what stands in a place that there isn't.
module _ (t : Table) (a b : Place → Bytes) (same : (p : Place) → Exists t p → a p ≡ b p) (rest : Bytes) where
  joined_same : (ps : List Place) (s e : ℕ) → Covers t s ps e → joined a ps rest ≡ joined b ps rest
  unfolding joined
  joined_same [] s e c = refl
  joined_same (p ∷ ps) s e c = rw (same p c.0, joined_same ps (suc s) e c.2)

  pub assembled_same : assembled t a rest ≡ assembled t b rest
  assembled_same = joined_same (owners t) 0 (end_sector t) (owners_cover t)

module _ (t : Table) (v : Volume) where
  joined_back : (ps : List Place) (s e : ℕ) → Covers t s ps e → joined (bytes_at t v) ps (drop (256 * e) v) ≡ drop (256 * s) v
  unfolding joined sector
  joined_back [] s e c = rw c
  joined_back (p ∷ ps) s e c =
      let z : 256 * suc s ≡ 256 * s + 256 = omega arith in
      rw (joined_back ps (suc s) e c.2, c.1, z, ← (drop-drop 256 (256 * s) v)) (take-append-drop 256 (drop (256 * s) v))

  -- A volume is the assembly of its own places.
  pub assembled_back : assembled t (bytes_at t v) (drop (256 * end_sector t) v) ≡ v
  assembled_back = joined_back (owners t) 0 (end_sector t) (owners_cover t)
