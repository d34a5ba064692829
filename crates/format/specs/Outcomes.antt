-- What a format's result and the array afterwards say together.
use Rattle.std.specs.Prelude.{Result, ⊤}
use Rattle.interface.specs.declared.Refusal.{Refusal}
use Rattle.interface.specs.Answers.{format_answer_of}
use Rattle.volume.specs.Volumes.{Volume}
use Rattle.volume.specs.Format.{Formatted}

-- The answer, and the array.
abbrev pub formatted : Result ⊤ Refusal → Volume → Formatted
formatted r w = record { answer = format_answer_of r; volume = w }
