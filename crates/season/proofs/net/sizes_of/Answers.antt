-- `season::net::sizes_of` meets its contract: the sum and the largest of the sizes before j. Assumes nothing.
use Rattle.std.proofs.Common.{◌≡◌, sym, ◌∙◌, ap₂, ℕ, ◌+◌, arith}
use Rattle.std.specs.Prelude.{max}
use Rattle.season.specs.Share.{sum_to, size_at}
use Rattle.season.proofs.Sharing.{sum_none, sum_more, sum_most, most_none, most_more, size_most}
use Rattle.season.proofs.net.sizes_of.Goals as goal

-- the sum so far, with this condition's size
more : (j : ℕ) (size : ℕ → ℕ) {sum one : ℕ} → sum ≡ sum_to j size → one ≡ size j → sum + one ≡ sum_to (j + 1) size
more j size s o = ap₂ (λ (x y : ℕ). x + y) s o ∙ sym (sum_more j size)

pub loop-j-init : goal.loop-j-init
loop-j-init c = (sym (sum_none _), sym (most_none _))

pub overflow_add-sum : goal.overflow_add-sum
overflow_add-sum c =
    let net = c.args.net in let j = c.loop-j.j in let size : ℕ → ℕ = size_at c.args.kind net.kinds.now net.w.now in
    let now = more j size c.loop-j.invariant.0 c.size_at-size.ensures in
    let most = sum_most (j + 1) size (λ i h. size_most c.args.kind net.kinds.now net.w.now i (c.requires i (omega arith))) in
    record { fits = omega (arith, net.few.1, now, most) }

pub loop-j-preserved : goal.loop-j-preserved
loop-j-preserved c =
    let net = c.args.net in let j = c.loop-j.j in let size : ℕ → ℕ = size_at c.args.kind net.kinds.now net.w.now in (
      more j size c.loop-j.invariant.0 c.size_at-size.ensures,
      c.max-most.ensures ∙ ap₂ max c.loop-j.invariant.1 c.size_at-size.ensures ∙ sym (most_more j size),
    )
