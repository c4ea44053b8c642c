-- `precision::root::root`: the next bit, e with it, and e when no bit is left.
use Rattle.std.proofs.Common.{◌≡◌, ◌∙◌, ap, ℕ, zero, suc, ◌+◌, ◌-◌, ◌*◌, ◌≤◌, ◌<◌, ◌^◌, ◌%◌, arith}
use native.Mathlib.Nat.{one-mul}
use lib.Pow.{shl_exact}
use Rattle.exact.proofs.Bound.{mul_le}
use Rattle.precision.proofs.Rooting.{root_only}
use Rattle.precision.proofs.root.root.Goals as goal
use Rattle.precision.proofs.root.root.Goals.{Else-bit-eq0}

-- a bit is twice the one below it
halves : (bit : ℕ) → 0 < bit → 2 ^ bit ≡ 2 ^ (bit - 1) + 2 ^ (bit - 1)
halves zero h = absurd (omega arith)
halves (suc bit) h = let e : suc bit - 1 ≡ bit = omega arith in rw e (omega arith)

-- ---- in a turn
module _ (c : Else-bit-eq0) where
  abbrev low : ℕ
  low = 2 ^ (c.loop-bit.bit - 1)

  abbrev next : ℕ
  next = c.loop-bit.e + (1 * low) % 18446744073709551616

  next_is : next ≡ c.loop-bit.e + low
  next_is =
      ap (λ (b : ℕ). c.loop-bit.e + b) (shl_exact {a = 1} 1 (c.loop-bit.bit - 1) 64 (omega arith) (omega (arith, c.loop-bit.invariant.0)) ∙ one-mul low)

  whole : next + low ≡ c.loop-bit.e + 2 ^ c.loop-bit.bit
  whole = omega (arith, next_is, halves c.loop-bit.bit (omega arith))

  product_most : next * next * c.args.c ≤ 16624615811973120
  product_most =
      let most : next ≤ 524288 = omega (arith, whole, c.loop-bit.invariant.3) in
      let square_most : next * next ≤ 274877906944 = mul_le most most in mul_le square_most c.requires.0

pub overflow_mul-next-in-loop-bit : goal.overflow_mul-next-in-loop-bit
overflow_mul-next-in-loop-bit c = omega (arith, product_most c)

pub loop-bit-preserved-then-next-c : goal.loop-bit-preserved-then-next-c
loop-bit-preserved-then-next-c c =
    let b = c.before in let i = c.loop-bit.invariant in
    (omega arith, c.if-next-c.true, rw (whole b) i.2, omega (arith, whole b, i.3))

pub loop-bit-preserved : goal.loop-bit-preserved
loop-bit-preserved c =
    let b = c.before in let i = c.loop-bit.invariant in
    (omega arith, i.1, rw (← next_is b) c.if-next-c.false, omega (arith, whole b, next_is b, i.3))

pub returns-clause-value : goal.returns-clause-value
returns-clause-value c =
    let i = c.loop-bit.invariant in
    root_only c.args.c (omega (arith, c.requires.1)) c.args.s c.loop-bit.e i.1 (rw c.if-bit-eq0.true at i.2)
