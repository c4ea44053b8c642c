-- Bytes written one part after another. Assumes nothing.
--   then                                    what was written, and what was written after it, are written together
--   wrote_length, rewrote, one_wrote        the buffer keeps its length; the same bytes; the same bytes at the same place leave one buffer
--   word_more                               a word: one byte more of it
--   wrote_start                             what was written from the start of a buffer stands there
--   digits_most, count_most, written_most   a number takes at most 20 digits, and a minus
--   puts, puts_then, puts_most, puts_as     what a writer puts; and more after it; at most so many bytes; the same bytes
--   puts_none, put_whole                    nothing; all from the start of a lent buffer
--   put_small, put_large                    the digits of a number: one, or those before it and one more; put_below, put_above: with a minus, or without
--   lines_more, lines_on_lem                one more line
--   puts_start, puts_line                   a writer's lines: none so far, and one more
--   lines_within, lines_most                lines of at most so many bytes: those below n, and all
--   room_within, lines_room                 room for one more
use mathlib.Core.Path.{◌≡◌, refl, sym, ◌∙◌, ap, subst}
use mathlib.Core.Bool.{Bool, true, false, cond}
use mathlib.Core.List.{List, [], ◌∷◌, ◌++◌}
use Prim.Native.Nat.{ℕ, zero, suc, ◌+◌, ◌*◌, ◌/◌, ◌%◌, ◌≤◌, ◌<◌, ◌^◌}
use native.Mathlib.Nat.{suc-mul, mul-le-mul_right}
use native.Mathlib.Numerals.{add-one}
use native.Mathlib.Omega.{arith}
use lib.Dec.{ltb}
use lib.ListN.{length, get_or, take, drop, length-append}
use lib.Seq.{sets, length-sets, sets-eq, take-suc, take-append-le, take_all}
use lib.IntN.{ℤ, pos, negsuc, nat_abs}
use lib.Signed.{◌≤ℤ◌, ◌<ℤ◌}
use Rattle.text.proofs.Writing.{digits_small, digits_large, length_small, length_large, written_below, written_above}
use Rattle.exact.proofs.Filling.{sets_append}
use Rattle.text.specs.Decimal.{digits, digits_of, written}
use Rattle.text.specs.Written.{in_order, Wrote, Puts}
use Rattle.text.specs.declared.writer.Writer.{Writer}

pub then : {a b c : List ℕ} {at p q : ℕ} {xs ys : List ℕ} → Wrote a at xs b p → Wrote b p ys c q → Wrote a at (xs ++ ys) c q
then {a} {b} {c} {at} {p} {q} {xs} {ys} f g = record {
  buffer = g.buffer ∙ ap (λ (l : List ℕ). sets l p ys) f.buffer ∙ ap (λ (n : ℕ). sets (sets a at xs) n ys) f.place ∙ sets_append xs ys a at;
  place = omega (arith, f.place, g.place, length-append xs ys);
}

pub wrote_length : {a b : List ℕ} {at p : ℕ} {xs : List ℕ} → Wrote a at xs b p → length b ≡ length a
wrote_length {a} {b} {at} {p} {xs} w = ap length w.buffer ∙ length-sets a at xs

-- the same bytes
pub rewrote : {a b : List ℕ} {at p : ℕ} {xs ys : List ℕ} → xs ≡ ys → Wrote a at xs b p → Wrote a at ys b p
rewrote {a} {b} {at} {p} h w = subst (λ (zs : List ℕ). Wrote a at zs b p) h w

pub one_wrote : {a b b' : List ℕ} {at p p' : ℕ} {xs : List ℕ} → Wrote a at xs b p → Wrote a at xs b' p' → (p ≡ p') × (b ≡ b')
one_wrote w w' = (w.place ∙ sym w'.place, w.buffer ∙ sym w'.buffer)

-- ---- a word: one byte more of it
pub word_more : {a b c : List ℕ} {at p q : ℕ} (word : List ℕ) (i : ℕ) → i < length word → Wrote a at (take i word) b p → Wrote b p (get_or word i 0 ∷ []) c q
    → Wrote a at (take (i + 1) word) c q
word_more word i l f g = rewrote (sym (ap (λ (n : ℕ). take n word) (add-one i) ∙ take-suc word i 0 l)) (then f g)

pub wrote_start : {a b : List ℕ} {p : ℕ} (xs : List ℕ) → length xs ≤ length a → Wrote a 0 xs b p → take p b ≡ xs
wrote_start {a} {b} {p} xs l w =
    ap (take p) (w.buffer ∙ sets-eq xs a 0 (omega (arith, l)))
    ∙ take-append-le p xs (drop (0 + length xs) a) (omega (arith, w.place))
    ∙ take_all p xs (omega (arith, w.place))

-- ---- lengths
pub digits_most : (most n : ℕ) → length (digits most n) ≤ most
unfolding digits
digits_most zero n = omega arith
digits_most (suc most) n = by_size (ltb n 10) (digits_most most (n / 10))
  where
    by_size : (b : Bool) → length (digits most (n / 10)) ≤ most → length (cond b ((48 + n % 10) ∷ []) (digits most (n / 10) ++ ((48 + n % 10) ∷ []))) ≤ suc most
    by_size true h = omega arith
    by_size false h = omega (arith, length-append (digits most (n / 10)) ((48 + n % 10) ∷ []))

pub count_most : (n : ℕ) → length (digits_of n) ≤ 20
unfolding digits_of
count_most n = digits_most 20 n

pub written_most : (z : ℤ) → length (written z) ≤ 21
unfolding written
written_most (pos n) = omega (arith, count_most n)
written_most (negsuc n) = omega (arith, count_most (suc n))

-- ---- a writer
pub puts : {a b : Writer} {xs : List ℕ} {most : ℕ} → Wrote a.out.now a.at xs b.out.now b.at → length xs ≤ most
    → b.out.ghost_name ≡ a.out.ghost_name → Puts a xs most b
puts w l e = record { wrote = w; few = omega (arith, w.place, l); room = wrote_length w; same = e }

-- what was put, and what was put after it
pub puts_then : {a b c : Writer} {xs ys : List ℕ} {m n : ℕ} → Puts a xs m b → Puts b ys n c → Puts a (xs ++ ys) (m + n) c
puts_then f g = record { wrote = then f.wrote g.wrote; few = omega (arith, f.few, g.few); room = g.room ∙ f.room; same = g.same ∙ f.same }

pub puts_most : {a b : Writer} {xs : List ℕ} {m most : ℕ} → m ≤ most → Puts a xs m b → Puts a xs most b
puts_most l f = record { wrote = f.wrote; few = omega (arith, f.few, l); room = f.room; same = f.same }

-- the same bytes
pub puts_as : {a b : Writer} {xs ys : List ℕ} {most : ℕ} → xs ≡ ys → Puts a xs most b → Puts a ys most b
puts_as {a} {b} {most = most} h f = subst (λ (zs : List ℕ). Puts a zs most b) h f

-- nothing
pub puts_none : {a : Writer} → Puts a [] 0 a
puts_none = record { wrote = record { buffer = refl; place = omega arith }; few = omega arith; room = refl; same = refl }

-- from the start of a lent buffer
pub put_whole : {a b : Writer} {xs : List ℕ} {most : ℕ} → a.at ≡ 0 → Puts a xs most b → Wrote a.out.now 0 xs b.out.now b.at
put_whole {b = b} {xs = xs} e p = rw e at p.wrote

-- ---- the digits of a number, and its minus
pub put_small : {a b : Writer} {n : ℕ} → n < 10 → Puts a ((48 + n % 10) ∷ []) 1 b → Puts a (digits_of n) 20 b
put_small {n = n} l f = puts_most (omega arith) (puts_as (sym (digits_small n l)) f)

pub put_large : {a b c : Writer} {n : ℕ} → 10 ≤ n → n < 10 ^ 20 → Puts a (digits_of (n / 10)) 20 b → Puts b ((48 + n % 10) ∷ []) 1 c → Puts a (digits_of n) 20 c
put_large {n = n} l h f g =
    let p = puts_then f g in
    puts (rewrote (sym (digits_large n l h)) p.wrote) (count_most n) p.same

pub put_below : {a b c : Writer} {z : ℤ} → z <ℤ pos 0 → Puts a (45 ∷ []) 1 b → Puts b (digits_of (nat_abs z)) 20 c → Puts a (written z) 21 c
put_below {z = z} l f g = puts_as (sym (written_below z l)) (puts_then f g)

pub put_above : {a b : Writer} {z : ℤ} → pos 0 ≤ℤ z → Puts a (digits_of (nat_abs z)) 20 b → Puts a (written z) 21 b
put_above {z = z} l f = puts_most (omega arith) (puts_as (sym (written_above z l)) f)

-- ---- lines
pub lines_more : (n : ℕ) (line : ℕ → List ℕ) → in_order (n + 1) line ≡ in_order n line ++ line n
unfolding in_order
lines_more n line = rw (add-one n)

-- the lines so far, and one more
pub lines_on_lem :
    {a b c : List ℕ} {at p q : ℕ} (n : ℕ) (line : ℕ → List ℕ) → Wrote a at (in_order n line) b p → Wrote b p (line n) c q →
    Wrote a at (in_order (n + 1) line) c q
lines_on_lem n line f g = rw (lines_more n line) (then f g)

-- a writer's lines: none so far, and one more of at most so many bytes
pub puts_start : {a : Writer} (line : ℕ → List ℕ) → Puts a (in_order 0 line) 0 a
unfolding in_order
puts_start line = puts_none

pub puts_line : {a b c : Writer} (n most : ℕ) (line : ℕ → List ℕ) → Puts a (in_order n line) (n * most) b → Puts b (line n) most c
    → Puts a (in_order (n + 1) line) ((n + 1) * most) c
puts_line n most line f g =
    let p = puts_then f g in
    record { wrote = lines_on_lem n line f.wrote g.wrote; few = rw (add-one n) (omega (arith, p.few, suc-mul n most)); room = p.room; same = p.same }

-- how many bytes lines take at most
pub lines_within : (n most : ℕ) (line : ℕ → List ℕ) → ((i : ℕ) → i < n → length (line i) ≤ most) → length (in_order n line) ≤ n * most
unfolding in_order
lines_within zero most line h = omega arith
lines_within (suc n) most line h =
    omega (arith, length-append (in_order n line) (line n), lines_within n most line (λ i l. h i (omega arith)), h n (omega arith), suc-mul n most)

pub lines_most : (n most : ℕ) (line : ℕ → List ℕ) → ((i : ℕ) → length (line i) ≤ most) → length (in_order n line) ≤ n * most
lines_most n most line h = lines_within n most line (λ i l. h i)

-- room for one more line
pub room_within :
    {a b : List ℕ} {at p : ℕ} (n i most : ℕ) (line : ℕ → List ℕ) → ((j : ℕ) → j < n → length (line j) ≤ most) → at + n * most ≤ length a → i < n →
    Wrote a at (in_order i line) b p → p + most ≤ length b
room_within n i most line small room h w =
    omega (arith, room, w.place, wrote_length w, lines_within i most line (λ j l. small j (omega arith)), mul-le-mul_right most h, suc-mul i most)

pub lines_room :
    {a b : List ℕ} {at p : ℕ} (n i most : ℕ) (line : ℕ → List ℕ) → ((j : ℕ) → length (line j) ≤ most) → at + n * most ≤ length a → i < n →
    Wrote a at (in_order i line) b p → p + most ≤ length b
lines_room n i most line small = room_within n i most line (λ j l. small j)

-- what a writer's numbers and fields cite
pub ruleset digit_steps = (length_small, length_large, put_small, put_large)

pub ruleset signs = (written_below, written_above, put_below, put_above)

pub ruleset fields = (count_most, written_most, puts_then, puts_most)
