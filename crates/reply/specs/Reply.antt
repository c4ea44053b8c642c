-- What an operation answers: `Ok`, with what it has to give, or `Err` with the refusal.
use Rattle.std.specs.Prelude.{Result, ℤ}
use Rattle.reply.specs.declared.Refusal.{Refusal}

-- of an operation that leaves its results in lent lists
abbrev pub Reply : Type 0
Reply = Result (Unit {0}) Refusal

-- of an operation whose result is one number
abbrev pub Figure : Type 0
Figure = Result ℤ Refusal
