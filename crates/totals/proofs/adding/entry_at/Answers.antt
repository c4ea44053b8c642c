-- `totals::adding::entry_at` meets its contract. Assumes nothing.
use Rattle.std.proofs.Common.{◌≡◌, refl, sym, ◌∙◌, ap, ap₂, true, ◌+◌, ◌≤◌, ℕ, List, [], ◌∷◌, ◌++◌, Bool, length, take, length-append, arith}
use Rattle.std.specs.Prelude.{cond}
use lib.Seq.{length-take-le}
use Rattle.text.specs.Parts.{begins}
use Rattle.text.specs.Fields.{TAB}
use Rattle.text.specs.Rows.{row_within}
use Rattle.text.specs.Written.{Wrote}
use Rattle.text.proofs.Parting.{begins_length}
use Rattle.text.proofs.Putting.{wrote_length, wrote_start}
use Rattle.totals.specs.Text.{head_of}
use Rattle.totals.specs.Adding.{entry_of}
use Rattle.totals.proofs.Entering.{other_head, due_head}
use Rattle.totals.proofs.adding.entry_at.Goals as goal

-- the head that is due, and its tab
abbrev word_of : (due : ℕ) → List ℕ
word_of due = head_of due ++ (TAB ∷ [])

-- once they are written, in a buffer that had room
record Headed (due : ℕ) (head : List ℕ) (start : ℕ) : Type 0 where
  far : start ≡ length (head_of due) + 1
  room : start ≤ length head
  written : take start head ≡ word_of due

headed : (due : ℕ) {a b : List ℕ} {start : ℕ} → length a ≡ 32 → start ≤ 32 → Wrote a 0 (word_of due) b start → Headed due b start
headed due {start = start} long small w =
    let far : start ≡ length (head_of due) + 1 = omega (arith, w.place, length-append (head_of due) (TAB ∷ [])) in
    record {
      far = far;
      room = omega (arith, small, wrote_length w, long);
      written = wrote_start (word_of due) (omega (arith, w.place, small, long)) w;
    }

pub slice_bounds-head-end : goal.slice_bounds-head-end
slice_bounds-head-end c = (headed c.args.due refl c.put_due-start.ensures.within c.put_due-start.ensures.text).room

pub slice_bounds-begins-end : goal.slice_bounds-begins-end
slice_bounds-begins-end c = sym (length-take-le _ _ (headed c.args.due refl c.put_due-start.ensures.within c.put_due-start.ensures.text).room)

pub numbers_from-requires : goal.numbers_from-requires
numbers_from-requires c =
    let a = c.args in let h = headed a.due refl c.put_due-start.ensures.within c.put_due-start.ensures.text in
    let begun : begins (word_of a.due) a.text.now ≡ true = sym (c.begins.ensures ∙ ap (λ (w : List ℕ). begins w a.text.now) h.written) ∙ c.if-begins.true in
    omega (arith, h.far, begins_length (word_of a.due) a.text.now begun, length-append (head_of a.due) (TAB ∷ []))

pub returns-then-begins : goal.returns-then-begins
returns-then-begins c =
    let a = c.args in let text = a.text.now in let h = headed a.due refl c.put_due-start.ensures.within c.put_due-start.ensures.text in
    let begun : begins (word_of a.due) text ≡ true = sym (c.begins.ensures ∙ ap (λ (w : List ℕ). begins w text) h.written) ∙ c.if-begins.true in
    c.numbers_from.ensures
    ∙ ap₂ (λ (n : ℕ) (pair : Bool). entry_of (row_within 18 text n (cond pair 2 1))) h.far c.pair_on.ensures
    ∙ due_head a.due text begun

pub returns-else-begins : goal.returns-else-begins
returns-else-begins c =
    let a = c.args in let text = a.text.now in let h = headed a.due refl c.put_due-start.ensures.within c.put_due-start.ensures.text in
    other_head a.due text (sym (c.begins.ensures ∙ ap (λ (w : List ℕ). begins w text) h.written) ∙ c.if-begins.false)
