-- What a caller is told of a reply: this paper's number and place, two numbers.
use Rattle.std.specs.Prelude.{◌≡◌, List, ◌++◌, ℕ, codes, decimal, Ok, Err}
use Rattle.reply.specs.declared.Refusal.{Refusal}
use Rattle.reply.specs.Reply.{Reply}
use Rattle.reply.specs.declared.Verdict.{Verdict}
use Rattle.reply.specs.Numbers.{number_of, place_of}

abbrev pub accepted : Verdict
accepted = record { number = 0; place = 0 }

-- "A refusal returns number and place only"
abbrev pub refused : Refusal → Verdict
refused why = record { number = number_of why; place = place_of why }

abbrev pub verdict_of : Reply → Verdict
verdict_of (Ok _) = accepted
verdict_of (Err why) = refused why

-- how a refusal is printed where a program tells of it: the word, its number and its place
abbrev pub told : Refusal → List ℕ
told why = codes "refused " ++ (decimal (number_of why) ++ (codes " " ++ decimal (place_of why)))

-- what an operation promises whose one answer is its reply: that of the rule, and in this paper's numbers its number and place
pub record Replies (rule reply : Reply) : Type 0 where
  pub answer : reply ≡ rule
  pub verdict : verdict_of reply ≡ verdict_of rule
