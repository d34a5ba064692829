-- Whether a sector is the encoding of what is read from it; then the tests by which a program finds that out.
use Rattle.std.specs.Prelude.{Bool, true, ◌&&◌, [], ◌∷◌, ℕ, zero, suc, ◌+◌, ◌-◌, ◌/◌, ◌%◌, eqb, take, drop}
use Rattle.lists.specs.Lists.{all, every, same}
use Rattle.sector.specs.Layout.{mark_byte, table_mark, header_mark, items_offset, item_length, item_offset, files_offset, slots_offset, zero_offset}
use Rattle.sector.specs.Contents.{Bytes, File}
use Rattle.sector.specs.Sectors.{byte}
use Rattle.sector.specs.Encoding.{encode_table, encode_record, encode_header}
use Rattle.sector.specs.Decoding.{file_count_in, decode_table, decode_record, decode_header}

-- The sector is a table's encoding.
abbrev pub is_table_encoding : Bytes → Bool
is_table_encoding d = same d (encode_table (decode_table d))

-- The sector is an intentions record's encoding.
abbrev pub is_record_encoding : Bytes → Bool
is_record_encoding d = same d (encode_record (decode_record d))

-- The sector is the encoding of a header of this file.
abbrev pub is_header_encoding : File → Bytes → Bool
is_header_encoding x d = same d (encode_header x (decode_header x d))

-- Every byte is zero.
unfoldable pub all_zero : Bytes → Bool
all_zero l = every (λ x. eqb x 0) l

-- The sector has the mark with this second byte.
unfoldable pub has_mark : (second : ℕ) → Bytes → Bool
has_mark second d = eqb (byte d 0) mark_byte && eqb (byte d 1) second

-- A header's mark.
abbrev pub has_header_mark : Bytes → Bool
has_header_mark d = has_mark header_mark d

-- The sector has that mark, and zeros from `gap` to the items and from `tail` on.
unfoldable pub framed : (second gap tail : ℕ) → Bytes → Bool
framed second gap tail d = all
    (has_mark second d
    ∷ all_zero (take (items_offset - gap) (drop gap d))
    ∷ all_zero (drop tail d)
    ∷ [])

-- Each of n files' entries names the header that follows from the files before; the first one's is sector h.
unfoldable pub headers_follow : ℕ → ℕ → Bytes → Bool
headers_follow zero h l = true
headers_follow (suc n) h l =
    (eqb (byte l 0) (h % 256) && eqb (byte l 1) (h / 256)) && headers_follow n (h + 1 + byte l slots_offset) (drop item_length l)

-- A table's bytes but for its files: the frame, as far as F says.
abbrev pub table_framed : Bytes → Bool
table_framed d = framed table_mark (files_offset + 1) (item_offset (file_count_in d)) d

-- Each of its files names the header that follows from the files before; the first one's is sector h.
abbrev pub headers_in : (h : ℕ) → Bytes → Bool
headers_in h d = headers_follow (file_count_in d) h (drop items_offset d)

-- Each of n entries ends with 00.
unfoldable pub entries_closed : ℕ → Bytes → Bool
entries_closed zero l = true
entries_closed (suc n) l = eqb (byte l zero_offset) 0 && entries_closed n (drop item_length l)
