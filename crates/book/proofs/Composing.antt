-- The lines of a station's listing: their count and their bytes. Assumes nothing.
--   seen_counted                         how many objects are seen, as std counts them
--   line_seen, line_unseen               the line of an object, and none
--   object_most, means_most              an O line takes at most 68 bytes, the listing 1,136
use mathlib.Core.Path.{◌≡◌, refl, sym, ◌∙◌, ap}
use mathlib.Core.Bool.{Bool, true, false, cond}
use mathlib.Core.List.{List, [], ◌∷◌}
use Prim.Native.Nat.{ℕ, zero, suc, ◌+◌, ◌≤◌}
use native.Mathlib.Numerals.{add-one}
use native.Mathlib.Omega.{arith}
use lib.IntN.{ℤ, pos}
use lib.ListN.{length, get_or, take, length-append}
use Rattle.std.proofs.Math.Seq.{take-length}
use lib.Signed.{lt_z}
use Rattle.std.specs.List.{filter, count_by}
use Rattle.std.proofs.lemmas.List.Sums.{length-filter, count_by_more_yes, count_by_more_no}
use Rattle.text.specs.Written.{in_order}
use Rattle.text.proofs.Putting.{lines_most}
use Rattle.page.proofs.Composing.{heading_most, numbered_most}
use Rattle.book.specs.Listing.{sta_line, o_line, seen, objects_seen, object_line, means_lines}

-- the count of pairs of an object that is seen
abbrev pub has_pair : ℤ → Bool
has_pair p = lt_z (pos 0) p

module _ (pairs : List ℤ) where
  seen_first : (n : ℕ) → n ≤ length pairs → count_by has_pair (take n pairs) ≡ objects_seen pairs n
  unfolding objects_seen
  seen_first zero l = refl
  seen_first (suc n) l = by_test (seen pairs n) refl (seen_first n (omega arith))
    where
      by_test : (b : Bool) → seen pairs n ≡ b → count_by has_pair (take n pairs) ≡ objects_seen pairs n → count_by has_pair (take (suc n) pairs) ≡ objects_seen pairs n + cond (seen pairs n) 1 0
      by_test true e r = ap (λ (k : ℕ). count_by has_pair (take k pairs)) (sym (add-one n)) ∙ count_by_more_yes has_pair pairs n (pos 0) (omega arith) e ∙ rw (r, e) refl
      by_test false e r = ap (λ (k : ℕ). count_by has_pair (take k pairs)) (sym (add-one n)) ∙ count_by_more_no has_pair pairs n (pos 0) (omega arith) e ∙ rw (r, e) (omega arith)

  pub seen_counted : length (filter has_pair pairs) ≡ objects_seen pairs (length pairs)
  seen_counted = length-filter has_pair pairs ∙ ap (count_by has_pair) (sym (take-length pairs)) ∙ seen_first (length pairs) (omega arith)

module _ (directions pairs : List ℤ) (j : ℕ) where
  pub line_seen : seen pairs j ≡ true → o_line (j + 1) (get_or directions j (pos 0)) (get_or pairs j (pos 0)) ≡ object_line directions pairs j
  unfolding object_line
  line_seen e = rw e

  pub line_unseen : seen pairs j ≡ false → [] ≡ object_line directions pairs j
  unfolding object_line
  line_unseen e = rw e

  most_by : (b : Bool) → length (cond b (o_line (j + 1) (get_or directions j (pos 0)) (get_or pairs j (pos 0))) []) ≤ 68
  most_by true = numbered_most 79 (j + 1) (get_or directions j (pos 0)) (get_or pairs j (pos 0))
  most_by false = omega arith

  pub object_most : length (object_line directions pairs j) ≤ 68
  unfolding object_line
  object_most = most_by (seen pairs j)

pub means_most : (sightings : ℕ) (directions pairs : List ℤ) → length (means_lines sightings directions pairs) ≤ 1136
means_most sightings directions pairs =
    omega (
      arith,
      heading_most (83 ∷ 84 ∷ 65 ∷ []) sightings (objects_seen pairs 16) refl,
      lines_most 16 68 (object_line directions pairs) (object_most directions pairs),
      length-append (sta_line sightings (objects_seen pairs 16)) (in_order 16 (object_line directions pairs)),
    )
