-- `text::number::digits_from` meets its contract: i digits have a value below 10 ^ i. Assumes nothing.
use Rattle.std.proofs.Common.{arith, ◌≡◌, ◌+◌, ◌-◌, ◌<◌, ◌≤◌, ◌^◌, get_or, sym, ◌∙◌}
use Rattle.text.proofs.Numerals.{small_18, small_next}
use Rattle.text.proofs.Spanning.{not_digit, spans, span_none, span_more}
use Rattle.text.proofs.number.digits_from.Goals.{Then-not-is_ascii_digit, After-from}
use Rattle.text.proofs.number.digits_from.Goals as goal

pub loop-end-init : goal.loop-end-init
loop-end-init c = let none : c.args.start - c.args.start ≡ 0 = omega arith in (rw none (omega arith), span_none c.args.text.now c.args.start)

pub returns-then-not-is_ascii_digit : goal.returns-then-not-is_ascii_digit
returns-then-not-is_ascii_digit c =
    spans _ _ _ _ _ (omega arith) (omega arith) (omega arith) (omega arith) c.loop-end.invariant.0 c.loop-end.invariant.1
    (λ a b. not_digit (get_or c.args.text.now c.loop-end.end 0) (sym c.is_ascii_digit.ensures.value ∙ c.if-not-is_ascii_digit.true))

pub overflow_mul-value : goal.overflow_mul-value
overflow_mul-value c = let s : c.loop-end.value < 10 ^ 18 = small_18 c.loop-end.value _ c.loop-end.invariant.0 (omega arith) in omega arith

pub overflow_add-value : goal.overflow_add-value
overflow_add-value c =
    let s : c.loop-end.value < 10 ^ 18 = small_18 c.loop-end.value _ c.loop-end.invariant.0 (omega arith) in omega (arith, c.if-not-is_ascii_digit.ensures)

pub loop-end-preserved : goal.loop-end-preserved
loop-end-preserved c =
    let further : c.loop-end.end + 1 - c.args.start ≡ (c.loop-end.end - c.args.start) + 1 = omega arith in
    let b = get_or c.args.text.now c.loop-end.end 0 in let low : 48 ≤ b = omega (arith, c.if-not-is_ascii_digit.ensures) in
    let high : b ≤ 57 = omega (arith, c.if-not-is_ascii_digit.ensures) in (
      rw further (small_next c.loop-end.value _ (c.loop-end.end - c.args.start) c.loop-end.invariant.0 (omega (arith, low, high))),
      rw c.from.ensures
          (span_more c.args.text.now c.args.start c.loop-end.end c.loop-end.value (omega arith) (omega arith) c.loop-end.invariant.1 low high),
    )

pub returns : goal.returns
returns c =
    let e : c.min-last.result ≡ c.loop-end.end = omega arith in
    rw e (spans _ _ _ _ _ (omega arith) (omega arith) (omega arith) (omega arith) c.loop-end.invariant.0 c.loop-end.invariant.1 (λ a b. absurd (omega arith)))
