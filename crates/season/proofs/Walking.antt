-- Laws of a walk through an archive from line to line, to the next full stop line. Assumes nothing.
--   stop_length, stop_byte, no_stop      a full stop line has one byte, the full stop
--   found_at                             where the search for a byte ends within the text, there it stands
--   Walked, walked_none, walked_more     the lines passed so far belong to the first part
--   walked_stop, walked_end              the walk ends at a full stop line, or with the archive
use mathlib.Core.Path.{◌≡◌, refl, sym, ◌∙◌, ap, ap₂}
use mathlib.Core.Bool.{Bool, true, false, cond}
use mathlib.Core.List.{List, [], ◌∷◌, ◌++◌, append-nil}
use Prim.Native.Nat.{ℕ, suc, ◌+◌, ◌-◌, ◌≤◌, ◌<◌}
use native.Mathlib.Omega.{arith}
use borrow.Author.Tests.{eq-eqb, ne_eqb, eqb-true}
use lib.Dec.{eqb}
use lib.ListN.{length, get_or, take, drop, length-drop, take-append-drop}
use lib.Seq.{take-add, take-suc, drop-drop, length-take-le}
use Rattle.exact.proofs.Searching.{not_both}
use Rattle.text.specs.Fields.{letter_of}
use Rattle.text.specs.Lines.{LF}
use Rattle.text.specs.Parts.{bytes_before, place_from, onto}
use Rattle.text.proofs.Parting.{onto_none}
use Rattle.season.specs.Archive.{STOP, stops, parts_of}
use Rattle.season.specs.Inner.{NextStop}
use Rattle.season.proofs.Parting.{onto_onto, parts_left, stop_line, other_line}

-- ---- a full stop line
pub stop_byte : (line : List ℕ) → length line ≡ 1 → stops line ≡ eqb (get_or line 0 0) STOP
unfolding stops letter_of
stop_byte line e = rw (eq-eqb (length line) 1 e)

pub no_stop : (line : List ℕ) → (length line ≡ 1 → ⊥) → stops line ≡ false
unfolding stops letter_of
no_stop line e = rw (ne_eqb (length line) 1 e)

pub stop_length : (line : List ℕ) → stops line ≡ true → length line ≡ 1
unfolding stops letter_of
stop_length line e = eqb-true (length line) 1 (by_length (eqb (length line) 1) e)
  where
    by_length : (b : Bool) → eqb (cond b (get_or line 0 0) 0) STOP ≡ true → b ≡ true
    by_length true f = refl
    by_length false f = not_both (sym f)

-- ---- where a search ends
at_step : (byte x : ℕ) (s : List ℕ) (b : Bool) → eqb x byte ≡ b → (bytes_before byte s < length s → get_or s (bytes_before byte s) 0 ≡ byte)
    → cond b 0 (suc (bytes_before byte s)) < suc (length s) → get_or (x ∷ s) (cond b 0 (suc (bytes_before byte s))) 0 ≡ byte
at_step byte x s true e rec l = eqb-true x byte e
at_step byte x s false e rec l = rec (omega arith)

pub found_at : (byte : ℕ) (s : List ℕ) → bytes_before byte s < length s → get_or s (bytes_before byte s) 0 ≡ byte
unfolding bytes_before
found_at byte [] l = absurd (omega arith)
found_at byte (x ∷ s) l = at_step byte x s (eqb x byte) refl (found_at byte s) l

-- ---- the walk
module _ (archive : List ℕ) (start : ℕ) where
  pub record Walked (at : ℕ) : Type 0 where
    pub on : start ≤ at
    pub within : at ≤ length archive
    pub parts : parts_of (drop start archive) ≡ onto (take (at - start) (drop start archive)) (parts_of (drop at archive))

  pub walked_none : start ≤ length archive → Walked start
  walked_none l = record {
    on = omega arith;
    within = l;
    parts = let e : start - start ≡ 0 = omega arith in rw e (sym (onto_none (parts_of (drop start archive))));
  }

  module _ (at end : ℕ) (w : Walked at) (q : end ≡ place_from LF archive at) where
    abbrev rest : List ℕ
    rest = drop at archive

    far : bytes_before LF rest ≡ end - at
    unfolding place_from
    far = omega arith

    after : at ≤ end
    unfolding place_from
    after = omega arith

    module _ (l : end < length archive) where
      inside : bytes_before LF rest < length rest
      inside = omega (arith, far, after, length-drop at archive)

      line_is : take (bytes_before LF rest) rest ≡ take (end - at) rest
      line_is = rw far

      behind_is : drop (bytes_before LF rest + 1) rest ≡ drop (end + 1) archive
      behind_is = let e : at + (end - at + 1) ≡ end + 1 = omega (arith, after) in rw (far, drop-drop, e)

      -- the line with its LF
      with_LF : take (end - at) rest ++ (LF ∷ []) ≡ take (end + 1 - at) rest
      with_LF =
          let e : end + 1 - at ≡ suc (end - at) = omega (arith, after) in
          let f = found_at LF rest inside in
          rw e (ap (λ (b : ℕ). take (end - at) rest ++ (b ∷ [])) (sym (rw far at f)) ∙ sym (take-suc rest (end - at) 0 (omega (arith, inside, far))))

      -- the lines before it, and it
      passed : take (at - start) (drop start archive) ++ take (end + 1 - at) rest ≡ take (end + 1 - start) (drop start archive)
      passed =
          let e : end + 1 - start ≡ (at - start) + (end + 1 - at) = omega (arith, after, w.on) in
          let f : start + (at - start) ≡ at = omega (arith, w.on) in
          rw (e, take-add, drop-drop, f)

      pub walked_more : stops (take (end - at) rest) ≡ false → Walked (end + 1)
      walked_more e = record {
        on = omega (arith, after, w.on);
        within = omega arith;
        parts =
            w.parts
            ∙ ap (onto (take (at - start) (drop start archive))) (other_line rest inside (ap stops line_is ∙ e))
            ∙ onto_onto (take (at - start) (drop start archive)) _ _
            ∙ ap₂ (λ (x y : List ℕ). onto (take (at - start) (drop start archive) ++ (x ++ (LF ∷ []))) (parts_of y)) line_is behind_is
            ∙ ap (λ (x : List ℕ). onto (take (at - start) (drop start archive) ++ x) (parts_of (drop (end + 1) archive))) with_LF
            ∙ ap (λ (x : List ℕ). onto x (parts_of (drop (end + 1) archive))) passed;
      }

      pub walked_stop : stops (take (end - at) rest) ≡ true → NextStop archive start at
      unfolding onto
      walked_stop e =
          let one = stop_length (take (end - at) rest) e in let two = length-take-le (end - at) rest (omega (arith, inside, far)) in
          let next : end + 1 ≡ at + 2 = omega (arith, one, two, after) in
          record {
            on = w.on;
            within = w.within;
            closed = λ h. (
              omega (arith, next),
              w.parts
                  ∙ ap (onto (take (at - start) (drop start archive))) (stop_line rest inside (ap stops line_is ∙ e))
                  ∙ ap₂ (λ (x y : List ℕ). x ∷ parts_of y) (append-nil (take (at - start) (drop start archive))) (behind_is ∙ ap (λ (n : ℕ). drop n archive) next),
            );
            left = λ h. absurd (omega arith);
          }

    pub walked_end : length archive ≤ end → NextStop archive start (length archive)
    unfolding onto
    walked_end l =
        let e : start + (at - start) ≡ at = omega (arith, w.on) in
        record {
          on = omega (arith, w.on, w.within);
          within = omega arith;
          closed = λ h. absurd (omega arith);
          left = λ h.
              w.parts
              ∙ ap (onto (take (at - start) (drop start archive))) (parts_left rest (omega (arith, far, after, length-drop at archive)))
              ∙ ap (λ (x : List ℕ). x ∷ []) (ap (λ (n : ℕ). take (at - start) (drop start archive) ++ drop n archive) (sym e) ∙ ap (λ (x : List ℕ). take (at - start) (drop start archive) ++ x) (sym (drop-drop (at - start) start archive)) ∙ take-append-drop (at - start) (drop start archive));
        }
