-- What is read from a control sector as a list, element by element as a loop takes it off: the files of the table, the
-- entries of a record, the slots of a map. From the list's length and what it has at each index.
use mathlib.Core.Path.{◌≡◌}
use mathlib.Core.List.{[], ◌∷◌}
use Prim.Native.Nat.{ℕ, ◌+◌, ◌-◌, ◌≤◌, ◌<◌}
use native.Mathlib.Omega.{arith}
use lib.ListN.{drop}
use Rattle.sector.specs.Contents.{Bytes}
use Rattle.sector.specs.Decoding.{file_count_in, file_in, count_in, decode_table, decode_record}
use Rattle.sector.proofs.CodecLaws.{decoded_files, decoded_file, decoded_count}
use Rattle.lists.proofs.TestLaws.{next_of, none_of}
use Rattle.volume.specs.Places.{no_file, file_at}

module _ (d : Bytes) where
  pub next_file : (i : ℕ) → i < file_count_in d → drop i (decode_table d).files ≡ file_in d i ∷ drop (i + 1) (decode_table d).files
  next_file i h = next_of (decode_table d).files (file_count_in d) i no_file (file_in d i) (decoded_files d) h (decoded_file d i no_file h)

  pub no_file_lem : (i : ℕ) → file_count_in d ≤ i → drop i (decode_table d).files ≡ []
  no_file_lem i h = none_of (decode_table d).files (file_count_in d) i (decoded_files d) h

  pub file_is : (f : ℕ) → 1 ≤ f → f ≤ file_count_in d → file_at (decode_table d) f ≡ file_in d (f - 1)
  file_is f lo hi = decoded_file d (f - 1) no_file (omega arith)

  pub no_entry_lem : (i : ℕ) → count_in d ≤ i → drop i (decode_record d).entries ≡ []
  no_entry_lem i h = none_of (decode_record d).entries (count_in d) i (decoded_count d) h
