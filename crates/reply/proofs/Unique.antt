-- The promises leave nothing open: two answers that keep one are equal. Assumes nothing.
--   one_number, one_place              of `number` and `place`
--   one_refused, one_told              of the verdict on a refusal, and on a reply
--   replies, one_reply                 the rule's reply keeps the promise of an operation that only replies, and no other does
--   no_refusal_is_0                    no refusal has the number 0
--   only_accepted_is_0                 a verdict's number is 0 where the input is accepted, and nowhere else
use mathlib.Core.Path.{◌≡◌, refl, ap}
use Prim.Native.Nat.{ℕ}
use native.Mathlib.Omega.{arith}
use Rattle.exact.proofs.Unique.{only}
use Rattle.reply.specs.declared.Refusal.{Refusal}
use Rattle.reply.specs.declared.Refusal.TheVariants.{Malformed, Count, OutOfRange, Coefficient, Misclosure, WeakRow, Correlate, Remainder, Correction, Sightings, Field, Faces, Initial, FacesApart, Spread, Nets, Sheet, NothingLeft}
use Rattle.reply.specs.Reply.{Reply}
use Rattle.reply.specs.declared.Verdict.{Verdict}
use Rattle.reply.specs.Numbers.{number_of, place_of}
use Rattle.reply.specs.Verdicts.{refused, verdict_of, Replies}
use Rattle.std.specs.Prelude.{Ok, Err}

pub one_number : (why : Refusal) (n n' : ℕ) → n ≡ number_of why → n' ≡ number_of why → n ≡ n'
one_number why n n' x y = only x y

pub one_place : (why : Refusal) (n n' : ℕ) → n ≡ place_of why → n' ≡ place_of why → n ≡ n'
one_place why n n' x y = only x y

pub one_refused : (why : Refusal) (v v' : Verdict) → v ≡ refused why → v' ≡ refused why → v ≡ v'
one_refused why v v' x y = only x y

pub one_told : (r : Reply) (v v' : Verdict) → v ≡ verdict_of r → v' ≡ verdict_of r → v ≡ v'
one_told r v v' x y = only x y

pub replies : {rule reply : Reply} → reply ≡ rule → Replies rule reply
replies e = record { answer = e; verdict = ap verdict_of e }

pub one_reply : {rule : Reply} (a b : Reply) → Replies rule a → Replies rule b → a ≡ b
one_reply a b x y = only x.answer y.answer

pub no_refusal_is_0 : (why : Refusal) → number_of why ≡ 0 → ⊥
no_refusal_is_0 (Malformed line) e = omega (arith, e)
no_refusal_is_0 (Count line) e = omega (arith, e)
no_refusal_is_0 (OutOfRange line) e = omega (arith, e)
no_refusal_is_0 (Coefficient condition) e = omega (arith, e)
no_refusal_is_0 (Misclosure condition) e = omega (arith, e)
no_refusal_is_0 (WeakRow row) e = omega (arith, e)
no_refusal_is_0 (Correlate row) e = omega (arith, e)
no_refusal_is_0 (Remainder condition) e = omega (arith, e)
no_refusal_is_0 (Correction direction) e = omega (arith, e)
no_refusal_is_0 Sightings e = omega (arith, e)
no_refusal_is_0 (Field ordinal) e = omega (arith, e)
no_refusal_is_0 (Faces position object) e = omega (arith, e)
no_refusal_is_0 (Initial position) e = omega (arith, e)
no_refusal_is_0 (FacesApart position object) e = omega (arith, e)
no_refusal_is_0 (Spread position object) e = omega (arith, e)
no_refusal_is_0 (Nets net) e = omega (arith, e)
no_refusal_is_0 (Sheet line) e = omega (arith, e)
no_refusal_is_0 NothingLeft e = omega (arith, e)

pub only_accepted_is_0 : (r : Reply) → (verdict_of r).number ≡ 0 → r ≡ Ok tt
only_accepted_is_0 (Ok _) e = refl
only_accepted_is_0 (Err why) e = absurd (no_refusal_is_0 why e)
