-- What a call's tests found, as the number of the refusal or 0.
use Rattle.std.specs.Prelude.{ℕ, Result, Ok, Err}
use Rattle.interface.specs.declared.Refusal.{Refusal}
use Rattle.interface.specs.Answers.{refusal_number}

-- The number of the refusal, or 0.
abbrev pub number_of : {A : Type 0} → Result A Refusal → ℕ
number_of (Ok _) = 0
number_of (Err r) = refusal_number r
