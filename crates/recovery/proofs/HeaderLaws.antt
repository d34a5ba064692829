-- A header as it is read from a well-formed volume, and the entries by which it is redone: the bytes encode what the view has, and
-- every entry's page is one of its file, so that its place is in the map.
use mathlib.Core.Path.{◌≡◌, ◌∙◌}
use mathlib.Core.Bool.{true, not, ◌||◌}
use Prim.Native.Nat.{ℕ, ◌≤◌, ◌<◌}
use native.Mathlib.Omega.{arith}
use borrow.Author.Tests.{leb-true, ltb-true, lt-ltb, ne_eqb}
use lib.Dec.{ltb}
use lib.ListN.{length}
use Rattle.sector.specs.Contents.{Bytes, Entry}
use Rattle.sector.specs.Encoding.{encode_header}
use Rattle.sector.specs.Entries.{for_file, pages_below, file_pages_below}
use Rattle.lists.proofs.ListLaws.{all_at}
use Rattle.lists.proofs.CaseLaws.{by_equal}
use Rattle.lists.proofs.SearchLaws.{or_true, every_implies}
use Rattle.volume.specs.Places.{IsClient, IsFile, file_at, header_place}
use Rattle.volume.specs.Lawful.{entry_fits}
use Rattle.volume.specs.Volumes.{Volume, bytes_at, view}
use Rattle.volume.specs.WellFormed.{WellFormed}
use Rattle.volume.proofs.ReadLaws.{few_pages}

module _ (v : Volume) (formed : WellFormed v) where
  pub header_read : (f : ℕ) → IsFile (view v).table f → (d : Bytes) → d ≡ bytes_at (view v).table v (header_place f)
      → d ≡ encode_header (file_at (view v).table f) ((view v).headers f)
  header_read f i d e = e ∙ formed.header_bytes f i.low i.high

  module _ (k : ℕ) (client : IsClient (view v).table k) where
    -- What holds of each entry that fits.
    page_fits : (e : Entry) → entry_fits (view v).table e ≡ true
        → (e.page < (file_at (view v).table e.file).pages) × ((file_at (view v).table e.file).pages ≤ 120)
    page_fits e fits = (
      ltb-true _ _ (all_at _ 2 fits),
      few_pages v formed.tabled e.file (record { low = leb-true _ _ (all_at _ 0 fits); high = leb-true _ _ (all_at _ 1 fits) }),
    )

    -- So a header's map may be redone by the client's entries.
    pub redo_allowed : pages_below 248 ((view v).records k).entries ≡ true
    redo_allowed = every_implies (entry_fits (view v).table) (λ (e : Entry). ltb e.page 248)
        (λ e fits. lt-ltb e.page 248 (omega (arith, page_fits e fits))) ((view v).records k).entries
        (all_at _ 2 (formed.record_fits k client.low client.high))

    pub pages_inside : (f : ℕ) → IsFile (view v).table f → file_pages_below f (length ((view v).headers f).map) ((view v).records k).entries ≡ true
    pages_inside f i = every_implies (entry_fits (view v).table) (λ (e : Entry). not (for_file f e) || ltb e.page (length ((view v).headers f).map))
        (λ e fits. by_equal e.file f
        (λ q. or_true (not (for_file f e)) _ (rw (formed.map_size f i.low i.high, ← q) (lt-ltb _ _ (page_fits e fits).0)))
        (λ n. rw (ne_eqb e.file f n))) ((view v).records k).entries
        (all_at _ 2 (formed.record_fits k client.low client.high))
