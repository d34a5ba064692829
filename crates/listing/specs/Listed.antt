-- What a listing answers, and the bytes it is given afterwards.
use Rattle.std.specs.Prelude.{ℕ, ltb, length, Result, Ok, Err}
use Rattle.lists.specs.Lists.{when◌then◌else◌}
use Rattle.sector.specs.Contents.{Bytes}
use Rattle.volume.specs.Volumes.{Volume, view}
use Rattle.volume.specs.Sound.{sound}
use Rattle.volume.specs.Listing.{listing, printed}
use Rattle.listing.specs.declared.ListError.{ListError}
use Rattle.text.specs.Writes.{at_front, ToPrint, text_first, nothing_first}

-- The length of the listing or why there is none, and the bytes.
pub record Listed : Type 0 where
  pub outcome : Result ℕ ListError
  pub out : Bytes

-- The text is written at the front.
abbrev pub with_text : Bytes → Bytes → Listed
with_text text out = record { outcome = Ok (length text); out = at_front text out }

-- The text of a sound volume is written; without room for the longest one, or if the volume isn't sound, nothing is.
unfoldable pub listed : Volume → Bytes → Listed
listed v out =
    when ltb (length out) 664 then record { outcome = Err ListError.NoRoom; out = out }
    else when sound v then with_text (listing (view v)) out
    else record { outcome = Err ListError.NotSound; out = out }

-- The text of the listing program stands at the front; without room for the longest one, nothing is written.
unfoldable pub to_print : Volume → Bytes → ToPrint
to_print v out = when ltb (length out) 664 then nothing_first out else text_first (printed v) out
