-- The stream of reports answers what the rule says of the whole text, whatever parts it comes in. Assumes nothing.
--   cut_more               a line's first 64 bytes, with one more
--   onto_more, some_part   bytes in front of a text's first line; every text has a line, if only an empty one behind its last LF
--   lines_in, lines_on_lem      a text's lines; a line is read, and then those after it
--   by_lines, whole_text   byte by byte and line by line are the same
--   bytes_joined, parts_joined               bytes and more bytes, and any parts, are all of them joined
--   Taken, taken_none, taken_more            what a state and its buffer hold once a text has been read
--   taken_answer           and its answer is the rule's
--   sum_in_parts           the theorem: begin, next for each part, and end
use mathlib.Core.Path.{◌≡◌, refl, sym, ◌∙◌, ap}
use mathlib.Core.Bool.{Bool, true, false, cond}
use mathlib.Core.List.{List, [], ◌∷◌, ◌++◌, append-nil, flatten}
use Prim.Native.Nat.{ℕ, ◌≤◌}
use native.Mathlib.Omega.{arith}
use borrow.Author.Tests.{ltb-true, ltb-false, eqb-true}
use lib.Dec.{eqb, ltb}
use lib.ListN.{length, length-append}
use lib.Seq.{length-take-le, take-append-le, take_all, append_snoc}
use Rattle.text.specs.Parts.{on_first, onto, parted}
use Rattle.text.specs.Lines.{LF}
use Rattle.text.specs.Written.{line_end}
use Rattle.text.proofs.Parting.{onto_none}
use Rattle.totals.specs.Adding.{Stream, cut, lengthened, after_line, after_lines, after_byte, after_bytes, after_parts, none_read, answer_of, sum_text, stream_of}
use Rattle.totals.specs.declared.adding.Tally.{Tally}
use Rattle.totals.specs.declared.adding.Adding.{Adding}

-- ---- one byte more
pub cut_more : (line : List ℕ) (b : ℕ) → lengthened (cut line) b ≡ cut (line ++ (b ∷ []))
unfolding lengthened
cut_more line b = by_length (ltb (length line) 64) refl
  where
    by_length : (x : Bool) → ltb (length line) 64 ≡ x → cond (ltb (length (cut line)) 64) (cut line ++ (b ∷ [])) (cut line) ≡ cut (line ++ (b ∷ []))
    by_length true t =
        let l = ltb-true (length line) 64 t in
        let long = take_all 64 (line ++ (b ∷ [])) (omega (arith, l, length-append line (b ∷ []))) in
        rw (take_all 64 line (omega (arith, l)), t) (sym long)
    by_length false t =
        let l = ltb-false (length line) 64 t in
        rw (length-take-le 64 line l) (sym (take-append-le 64 line (b ∷ []) l))

-- ---- a text's lines
onto_more : (begun : List ℕ) (b : ℕ) (lines : List (List ℕ)) → onto (begun ++ (b ∷ [])) lines ≡ onto begun (on_first b lines)
unfolding onto on_first
onto_more begun b [] = refl
onto_more begun b (line ∷ lines) = ap (λ (l : List ℕ). l ∷ lines) (append_snoc begun b line)

abbrev pub lines_in : List ℕ → List (List ℕ)
lines_in text = parted LF ([] ∷ []) text

-- there is one
some_step : {P : Type 0} (b : ℕ) (rest : List (List ℕ)) (x : Bool)
    → (((line : List ℕ) (lines : List (List ℕ)) → rest ≡ line ∷ lines → P) → P)
    → ((line : List ℕ) (lines : List (List ℕ)) → cond x ([] ∷ rest) (on_first b rest) ≡ line ∷ lines → P) → P
unfolding on_first
some_step b rest true rec k = k [] rest refl
some_step b rest false rec k = rec (λ line lines e. k (b ∷ line) lines (rw e))

some_part : {P : Type 0} (text : List ℕ) → ((line : List ℕ) (lines : List (List ℕ)) → lines_in text ≡ line ∷ lines → P) → P
unfolding parted
some_part [] k = k [] [] refl
some_part (b ∷ text) k = some_step b (lines_in text) (eqb b LF) (some_part text) k

-- a line and those after it
pub lines_on_lem : (t : Tally) (line text : List ℕ) → after_lines t (line ∷ lines_in text) ≡ after_lines (after_line t (cut (line ++ line_end))) (lines_in text)
unfolding after_lines
lines_on_lem t line text = some_part text (λ next lines e. rw e)

-- ---- byte by byte, and line by line
lines_step : (t : Tally) (begun : List ℕ) (b : ℕ) (text : List ℕ) (x : Bool) → eqb b LF ≡ x
    → ((t : Tally) (begun : List ℕ) → after_bytes (record { tally = t; begun = cut begun }) text ≡ after_lines t (onto begun (lines_in text)))
    → after_bytes (cond x (record { tally = after_line t (lengthened (cut begun) b); begun = [] }) (record { tally = t; begun = lengthened (cut begun) b })) text
    ≡ after_lines t (onto begun (cond x ([] ∷ lines_in text) (on_first b (lines_in text))))
unfolding onto
lines_step t begun b text true e rec =
    let ended : after_line t (lengthened (cut begun) b) ≡ after_line t (cut (begun ++ line_end)) =
    ap (after_line t) (cut_more begun b ∙ ap (λ (c : ℕ). cut (begun ++ (c ∷ []))) (eqb-true b LF e)) in
    ap (λ (u : Tally). after_bytes (record { tally = u; begun = [] }) text) ended
    ∙ rec (after_line t (cut (begun ++ line_end))) []
    ∙ ap (after_lines (after_line t (cut (begun ++ line_end)))) (onto_none (lines_in text))
    ∙ sym (lines_on_lem t begun text)
    ∙ ap (λ (l : List ℕ). after_lines t (l ∷ lines_in text)) (sym (append-nil begun))
lines_step t begun b text false e rec =
    ap (λ (l : List ℕ). after_bytes (record { tally = t; begun = l }) text) (cut_more begun b)
    ∙ rec t (begun ++ (b ∷ []))
    ∙ ap (after_lines t) (onto_more begun b (lines_in text))

by_lines : (text : List ℕ) (t : Tally) (begun : List ℕ) → after_bytes (record { tally = t; begun = cut begun }) text ≡ after_lines t (onto begun (lines_in text))
unfolding after_bytes after_byte after_lines parted onto
by_lines [] t begun = ap (λ (l : List ℕ). record { tally = t; begun = cut l }) (sym (append-nil begun))
by_lines (b ∷ text) t begun = lines_step t begun b text (eqb b LF) refl (by_lines text)

abbrev none : Stream
none = record { tally = none_read; begun = [] }

pub whole_text : (text : List ℕ) → after_bytes none text ≡ after_lines none_read (lines_in text)
whole_text text = by_lines text none_read [] ∙ ap (after_lines none_read) (onto_none (lines_in text))

-- ---- parts
pub bytes_joined : (s : Stream) (first second : List ℕ) → after_bytes (after_bytes s first) second ≡ after_bytes s (first ++ second)
unfolding after_bytes
bytes_joined s [] second = refl
bytes_joined s (b ∷ first) second = bytes_joined (after_byte s b) first second

pub parts_joined : (s : Stream) (parts : List (List ℕ)) → after_parts s parts ≡ after_bytes s (flatten parts)
unfolding after_parts flatten after_bytes
parts_joined s [] = refl
parts_joined s (part ∷ parts) = parts_joined (after_bytes s part) parts ∙ bytes_joined s part (flatten parts)

-- ---- what a state and its buffer hold once a text has been read
abbrev pub Taken : (text held : List ℕ) → Adding → Type 0
Taken text held a = stream_of a held ≡ after_lines none_read (lines_in text)

pub taken_none : (held : List ℕ) → Taken [] held (record { length = 0; tally = none_read })
unfolding after_bytes
taken_none held = whole_text []

pub taken_more : (text held bytes held' : List ℕ) (a a' : Adding) → Taken text held a → stream_of a' held' ≡ after_bytes (stream_of a held) bytes → Taken (text ++ bytes) held' a'
taken_more text held bytes held' a a' t e =
    e ∙ ap (λ (s : Stream). after_bytes s bytes) (t ∙ sym (whole_text text)) ∙ bytes_joined none text bytes ∙ whole_text (text ++ bytes)

-- the answer to a stream
abbrev answered : Stream → List ℕ
answered s = answer_of s.tally (length s.begun)

pub taken_answer : (text held : List ℕ) (a : Adding) → a.length ≤ length held → Taken text held a → answer_of a.tally a.length ≡ sum_text text
unfolding sum_text
taken_answer text held a l t = ap (answer_of a.tally) (sym (length-take-le a.length held l)) ∙ ap answered t

-- ---- the theorem: a text that comes in any parts is answered as the rule says of all of it
pub sum_in_parts : (parts : List (List ℕ)) → answered (after_parts none parts) ≡ sum_text (flatten parts)
unfolding sum_text
sum_in_parts parts = ap answered (parts_joined none parts ∙ whole_text (flatten parts))
