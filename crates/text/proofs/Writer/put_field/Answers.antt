-- `put_field` meets its contract: the number is written behind the text.
use Rattle.text.proofs.WritesLaws.{wrote_more}
use Rattle.text.proofs.Writer.put_field.Goals as goal

pub returns : goal.returns
returns c = wrote_more c.put.ensures c.put_number.ensures
