-- The first bytes of a listing: from 7,298 on they are all that its form rests on. Assumes nothing.
--   line_most, start_most        a line that is the one due has at most 82 bytes with its LF; where the line behind so many lines starts
--   heading_cut, row_cut, form_cut      the ADJ line, the lines behind it, and the reply
--   formed_short                 a listing that is well formed has at most 7,260 bytes
use mathlib.Core.Path.{◌≡◌, refl, sym, ◌∙◌, ap}
use mathlib.Core.Bool.{Bool, true, false, cond}
use mathlib.Core.List.{List, [], ◌∷◌}
use Rattle.std.specs.Prelude.{Option, None, Some, Ok, Err}
use Prim.Native.Nat.{ℕ, zero, suc, ◌+◌, ◌*◌, ◌<◌, ◌≤◌}
use native.Mathlib.Decide.{dec_lt}
use native.Mathlib.Omega.{arith}
use borrow.Author.Tests.{lt-ltb, le-ltb}
use lib.Dec.{ltb}
use lib.IntN.{ℤ, pos, nat_abs}
use lib.ListN.{length, get_or, take, length-take}
use Rattle.exact.proofs.Searching.{Failed, first_until}
use Rattle.reply.specs.declared.Refusal.TheVariants.{Sheet}
use Rattle.reply.specs.Reply.{Reply}
use Rattle.reply.specs.Checks.{refuse_if, refuse_first, ◌and_then◌}
use Rattle.reply.proofs.Checking.{none_refused}
use Rattle.text.specs.Parts.{place_from, begins}
use Rattle.text.specs.Lines.{LF, lines_of, lines_in, line_no, bytes_of}
use Rattle.text.specs.Rows.{row_within, row_values, missing}
use Rattle.text.proofs.Parting.{begins_length, begins_cut}
use Rattle.text.proofs.Splitting.{line_next}
use Rattle.text.proofs.Stepping.{bytes_next, reached_at}
use Rattle.text.proofs.Lining.{row_within_lem, row_line}
use Rattle.text.proofs.Cutting.{cut_here, cut_line, cut_past, cut_reached, cut_kept, cut_lost}
use Rattle.sheet.specs.Form.{adj_head, heading_of, heading_amiss, count_no, directions_in, conditions_in, due_at, row_no, malformed, goes_on, form_reply}
use Rattle.sheet.proofs.Forming.{heading_told, heading_within, heading_reached, fields_most, none_due}
use Rattle.sheet.proofs.Wording.{counts_row, lettered, row_there, counted, formed_as, row_found}

-- ---- a place within the cut is behind the end of both or of none
within_cut : (listing : List ℕ) (size p : ℕ) → p < size → ltb p (length (take size listing)) ≡ ltb p (length listing)
within_cut listing size p l = by_end (dec_lt p (length listing))
  where
    by_end : Dec (p < length listing) → ltb p (length (take size listing)) ≡ ltb p (length listing)
    by_end (yes g) = rw (lt-ltb p (length (take size listing)) (omega (arith, length-take size listing)), lt-ltb p (length listing) g)
    by_end (no g) = rw (le-ltb p (length (take size listing)) (omega (arith, length-take size listing)), le-ltb p (length listing) (omega arith))

-- ---- how long the lines are
module _ (listing : List ℕ) where
  pub line_most : (i : ℕ) (zs : List ℤ) → row_no listing i ≡ Some zs → bytes_of (take (i + 1 + 1) (lines_of listing)) ≤ bytes_of (take (i + 1) (lines_of listing)) + 82
  unfolding line_no
  line_most i zs e =
      omega (
        arith,
        bytes_next (lines_of listing) (i + 1) (row_there listing i zs e),
        (lettered listing i zs e).short,
        fields_most (directions_in listing) i,
      )

  module _ (zs : List ℤ) (e : heading_of listing ≡ Some zs) where
    pub start_most : (i : ℕ) → Failed (malformed listing) i → (i + 1 ≤ lines_in listing) × (bytes_of (take (i + 1) (lines_of listing)) ≤ 44 + 82 * i)
    start_most zero f =
        let b = heading_reached listing (heading_told listing zs e).0 (heading_within listing zs e) in
        (b.inside, omega (arith, b.bytes, line_next listing 4 (heading_within listing zs e), (counts_row listing zs e).short))
    start_most (suc i) f =
        let before = start_most i (λ h l. f h (omega arith)) in let found = row_found listing i (f i (omega arith)) in
        let row = row_values (row_no listing i) [] in let next : suc i + 1 ≡ i + 1 + 1 = omega arith in (
          omega (arith, row_there listing i row found),
          omega (arith, before.1, line_most i row found, ap (λ (n : ℕ). bytes_of (take n (lines_of listing))) next),
        )

-- ---- the first bytes
module _ (listing : List ℕ) (size : ℕ) (far : 7298 ≤ size) where
  abbrev part : List ℕ
  part = take size listing

  counts_cut : 4 ≤ length listing → row_within 18 part 4 2 ≡ row_within 18 listing 4 2
  unfolding row_within
  counts_cut l = by_place (dec_lt (place_from LF listing 4) size)
    where
      too_long : size ≤ place_from LF listing 4 → (o : Option (List ℤ)) → row_within 18 listing 4 2 ≡ o → None ≡ o
      too_long h None e = refl
      too_long h (Some zs) e =
          absurd (omega (arith, h, (row_line 18 (omega arith) listing 4 2 zs e).short, line_next listing 4 (row_within_lem 18 (omega arith) listing 4 2 zs e)))

      by_place : Dec (place_from LF listing 4 < size) → row_within 18 part 4 2 ≡ row_within 18 listing 4 2
      by_place (yes h) =
          rw (cut_here listing size 4 l (omega arith) h, cut_line listing size 4 l (omega arith) h, within_cut listing size (place_from LF listing 4) h)
      by_place (no h) =
          rw (le-ltb (place_from LF part 4) (length part) (cut_past listing size 4 l (omega arith) LF (omega arith))) (too_long (omega arith) (row_within 18 listing 4 2) refl)

  pub heading_cut : heading_of part ≡ heading_of listing
  unfolding heading_of
  heading_cut = rw (begins_cut adj_head listing size (omega arith)) (by_word (begins adj_head listing) refl)
    where
      by_word : (b : Bool) → begins adj_head listing ≡ b → cond b (row_within 18 part 4 2) None ≡ cond b (row_within 18 listing 4 2) None
      by_word true t = counts_cut (begins_length adj_head listing t)
      by_word false t = refl

  count_cut : (k : ℕ) → count_no k part ≡ count_no k listing
  unfolding count_no
  count_cut k = ap (λ (o : Option (List ℤ)). nat_abs (get_or (row_values o []) k (pos 0))) heading_cut

  module _ (zs : List ℤ) (e : heading_of listing ≡ Some zs) where
    pub row_cut : (i : ℕ) → i < 88 → Failed (malformed listing) i → row_no part i ≡ row_no listing i
    unfolding row_no
    row_cut i l f = ap (λ (d : ℕ). due_at d i (line_no part (i + 1))) (count_cut 0) ∙ by_end (dec_lt size (bytes_of (take (i + 1 + 1) (lines_of listing))))
      where
        too_long : size < bytes_of (take (i + 1 + 1) (lines_of listing)) → (o : Option (List ℤ)) → row_no listing i ≡ o → None ≡ o
        too_long g None h = refl
        too_long g (Some zs) h = absurd (omega (arith, g, (start_most listing _ e i f).1, line_most listing i zs h))

        by_end : Dec (size < bytes_of (take (i + 1 + 1) (lines_of listing))) → due_at (directions_in listing) i (line_no part (i + 1)) ≡ due_at (directions_in listing) i (line_no listing (i + 1))
        by_end (yes g) = ap (due_at (directions_in listing) i) (cut_lost listing size (i + 1) g) ∙ none_due (directions_in listing) i ∙ too_long g (row_no listing i) refl
        by_end (no g) = ap (due_at (directions_in listing) i) (cut_kept listing size (i + 1) (omega arith))

    goes_cut : (lines : ℕ) → lines ≤ 88 → Failed (malformed listing) lines → goes_on part (lines + 1) ≡ goes_on listing (lines + 1)
    unfolding goes_on
    goes_cut lines l f =
        let s = start_most listing zs e lines f in let end = bytes_of (take (lines + 1) (lines_of listing)) in
        let b = cut_reached listing size (reached_at listing (lines + 1) s.0) (omega (arith, s.1)) in
        rw (← b.bytes) (within_cut listing size end (omega (arith, s.1)))

  pub form_cut : form_reply part ≡ form_reply listing
  unfolding form_reply malformed
  form_cut = by_heading (heading_amiss (heading_of listing)) refl
    where
      then_same : (r s s' : Reply) → (r ≡ Ok tt → s ≡ s') → (r and_then s) ≡ (r and_then s')
      then_same (Ok _) s s' h = h refl
      then_same (Err why) s s' h = refl

      rows : (zs : List ℤ) → heading_of listing ≡ Some zs → (lines : ℕ) → lines ≤ 88
          → (refuse_first lines (malformed part) (λ i. Sheet (i + 2)) and_then refuse_if (goes_on part (lines + 1)) (Sheet (lines + 2)))
          ≡ (refuse_first lines (malformed listing) (λ i. Sheet (i + 2)) and_then refuse_if (goes_on listing (lines + 1)) (Sheet (lines + 2)))
      rows zs e lines l =
          let same = first_until lines (malformed listing) (malformed part) (λ i h f. ap missing (sym (row_cut zs e i (omega arith) f))) in
          rw (← same)
          (then_same (refuse_first lines (malformed listing) (λ i. Sheet (i + 2))) _ _
          (λ a. ap (λ (b : Bool). refuse_if b (Sheet (lines + 2))) (goes_cut zs e lines l (none_refused lines (malformed listing) (λ i. Sheet (i + 2)) a))))

      by_heading : (b : Bool) → heading_amiss (heading_of listing) ≡ b → form_reply part ≡ form_reply listing
      by_heading true t = rw (heading_cut, t)
      by_heading false t =
          let c = counted listing t in
          rw (heading_cut, t, count_cut 0, count_cut 1)
          (rows (pos (directions_in listing) ∷ pos (conditions_in listing) ∷ []) c.heading (directions_in listing + conditions_in listing) (omega (arith, c.m_most, c.n_most)))

pub formed_short : (listing : List ℕ) → form_reply listing ≡ Ok tt → length listing ≤ 7260
formed_short listing e =
    let f = formed_as listing e in let c = f.counts in let lines = directions_in listing + conditions_in listing in
    omega (arith, f.whole, (start_most listing (pos (directions_in listing) ∷ pos (conditions_in listing) ∷ []) c.heading lines f.sound).1, c.m_most, c.n_most)
