-- `has_word` meets its contract: the word's own bytes are looked for at the front of the line, and a space behind them.
use mathlib.Core.Path.{sym, ◌∙◌}
use lib.ListN.{length, drop, length-drop}
use lib.Seq.{take-length}
use Rattle.script.proofs.FieldLaws.{word_begins, word_missing}
use Rattle.script.proofs.fields.has_word.Goals as goal

pub returns-then-starts_with : goal.returns-then-starts_with
returns-then-starts_with c =
    let n = length c.cut.result.0.now in
    rw (c.front.ensures, ← length-drop n c.args.line.now, take-length (drop n c.args.line.now))
    (word_begins c.args.word.now c.args.line.now c.cut.ensures.0 (sym c.starts_with.ensures.value ∙ c.if-starts_with.true))

pub returns-else-starts_with : goal.returns-else-starts_with
returns-else-starts_with c =
    c.if-starts_with.false ∙ word_missing c.args.word.now c.args.line.now c.cut.ensures.0 (sym c.starts_with.ensures.value ∙ c.if-starts_with.false)
