-- Laws of the stream of reports. Assumes nothing.
--   Held, held_more, held_full      the line being read, in its lent buffer, with one byte more
--   byte_ended, byte_held           the stream after a byte, by whether it ends the line
--   bytes_more, bytes_done          the stream after some bytes
--   no_room, at_fault, ends_early, too_many, summed   the answer, by what is known
use mathlib.Core.Path.{◌≡◌, ◌∙◌, ap}
use mathlib.Core.Bool.{true, false}
use mathlib.Core.List.{List, []}
use Prim.Native.Nat.{ℕ, ◌+◌, ◌≤◌, ◌<◌}
use native.Mathlib.Numerals.{add-one}
use native.Mathlib.Omega.{arith}
use borrow.Author.Tests.{eq-eqb, ne_eqb, lt-ltb, le-ltb}
use lib.ListN.{length, get_or, set, take, drop, length-set, drop_of_length-le}
use lib.Seq.{length-take-le, take-suc-set, drop-cons}
use Rattle.std.specs.Prelude.{Some, None}
use Rattle.text.specs.Lines.{LF}
use Rattle.page.specs.Lines.{refused_line}
use Rattle.totals.specs.Promise.{most_nets}
use Rattle.totals.specs.Text.{report_text}
use Rattle.totals.specs.Adding.{Stream, lengthened, after_line, after_byte, after_bytes, line_after, unfinished, answer_of, answer_in}
use Rattle.totals.specs.declared.adding.Tally.{Tally}

-- ---- the line being read
pub record Held (l : ℕ) (before : List ℕ) (b n : ℕ) (after : List ℕ) : Type 0 where
  pub long : length after ≡ 64
  pub few : n ≤ 64
  pub text : take n after ≡ lengthened (take l before) b

module _ (l : ℕ) (before : List ℕ) (b n : ℕ) (after : List ℕ) (full : length before ≡ 64) where
  pub held_more : l < 64 → n ≡ l + 1 → after ≡ set before l b → Held l before b n after
  unfolding lengthened
  held_more k e f = record {
    long = ap length f ∙ length-set before l b ∙ full;
    few = omega (arith, e, k);
    text =
        rw (f, e, add-one l, take-suc-set before l b (omega (arith, full, k)), length-take-le l before (omega (arith, full, k)), lt-ltb l 64 k);
  }

  pub held_full : 64 ≤ l → l ≤ 64 → n ≡ l → after ≡ before → Held l before b n after
  unfolding lengthened
  held_full k m e f = record {
    long = ap length f ∙ full;
    few = omega (arith, e, m);
    text = rw (f, e, length-take-le l before (omega (arith, full, m)), le-ltb l 64 k);
  }

-- ---- the stream
module _ (s : Stream) (b : ℕ) {text : List ℕ} (e : text ≡ lengthened s.begun b) where
  pub byte_ended : {t : Tally} → b ≡ LF → t ≡ after_line s.tally text → record { tally = t; begun = [] } ≡ after_byte s b
  unfolding after_byte
  byte_ended l f = rw (eq-eqb b LF l, ← e, f)

  pub byte_held : (b ≡ LF → ⊥) → record { tally = s.tally; begun = text } ≡ after_byte s b
  unfolding after_byte
  byte_held l = rw (ne_eqb b LF l, ← e)

module _ (s : Stream) (bytes : List ℕ) (i : ℕ) where
  pub bytes_more : {r : Stream} → i < length bytes → r ≡ after_byte s (get_or bytes i 0) → after_bytes r (drop (i + 1) bytes) ≡ after_bytes s (drop i bytes)
  unfolding after_bytes
  bytes_more l e = rw (drop-cons bytes i 0 l, add-one i, e)

  pub bytes_done : length bytes ≤ i → after_bytes s (drop i bytes) ≡ s
  unfolding after_bytes
  bytes_done l = rw (drop_of_length-le bytes l)

-- ---- the answer
module _ (room : ℕ) (t : Tally) (begun : ℕ) where
  pub no_room : room < 1060 → [] ≡ answer_in room t begun
  unfolding answer_in
  no_room l = rw (lt-ltb room 1060 l)

  module _ (l : 1060 ≤ room) where
    pub at_fault : (line : ℕ) → t.fault ≡ Some line → refused_line 1 line ≡ answer_in room t begun
    unfolding answer_in answer_of
    at_fault line f = rw (le-ltb room 1060 l, f)

    module _ (f : t.fault ≡ None) where
      pub ends_early : unfinished t.line t.due begun ≡ true → refused_line 1 (line_after t.line) ≡ answer_in room t begun
      unfolding answer_in answer_of
      ends_early u = rw (le-ltb room 1060 l, f, u)

      module _ (u : unfinished t.line t.due begun ≡ false) where
        pub too_many : t.past ≡ true → refused_line 30 (most_nets + 1) ≡ answer_in room t begun
        unfolding answer_in answer_of
        too_many p = rw (le-ltb room 1060 l, f, u, p)

        pub summed : t.past ≡ false → report_text t.sum false ≡ answer_in room t begun
        unfolding answer_in answer_of
        summed p = rw (le-ltb room 1060 l, f, u, p)
