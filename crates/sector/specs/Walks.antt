-- What a walk has left to give.
use Rattle.std.specs.Prelude.{List, ◌/◌, length}
use Rattle.sector.specs.Layout.{item_length}
use Rattle.sector.specs.Contents.{File, Entry}
use Rattle.sector.specs.Decoding.{decode_entries}
use Rattle.sector.specs.Shapes.{files_of}
use Rattle.sector.specs.declared.layout.Entries.{Entries}
use Rattle.sector.specs.declared.layout.Files.{Files}

-- A record's entries: as many as the bytes that are left hold.
abbrev pub entries_left : Entries → List Entry
entries_left s = decode_entries (length s.items.now / item_length) s.items.now

-- The files of a list of pairs.
abbrev pub files_left : Files → List File
files_left s = files_of s.pairs.now
