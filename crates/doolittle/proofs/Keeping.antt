-- The rows in their one table, as one row after another is written. Assumes nothing.
--   row_put                         the rows, one of them replaced
--   zero_rows, shape_put            24 rows of 25 places: before anything is written, and with one row replaced
--   stays_none, stays_put, stays_then   what a function leaves as it was: nothing written, one row replaced, one step after another
--   kept_none, kept_put, kept_then  the same of 24 rows of 25 places; kept_stays, stays_kept: `Kept` is `Stays` and this shape
--   column_more                     a column of the rows, written downwards, one number more
--   rows_stay, rows_kept            the first rows of a table stay its first rows
use mathlib.Core.Path.{◌≡◌, refl, sym, ◌∙◌, ap, subst}
use mathlib.Core.List.{List, []}
use Prim.Native.Nat.{ℕ, suc, ◌+◌, ◌≤◌, ◌<◌}
use native.Mathlib.Decide.{ℕ_discrete}
use native.Mathlib.Omega.{arith}
use borrow.Author.Count.{below_more}
use lib.ListN.{length, set, replicate, length-set, length-replicate, get_or-replicate}
use lib.Seq.{get_or-set_same, get_or-set_other}
use lib.IntN.{ℤ, pos}
use Rattle.doolittle.specs.Table.{Table, at}
use Rattle.doolittle.specs.Inner.{From, Before, Shaped, Stays, Kept, Rows, row_at, cell}

module _ {j : ℕ} {rows next : List (List ℤ)} where
  pub kept_stays : Kept j rows next → Stays j rows next
  kept_stays k = record { long = k.long; above = k.above; left = k.left }

  pub stays_kept : Shaped next → Stays j rows next → Kept j rows next
  stays_kept shape s = record { shape = shape; long = s.long; above = s.above; left = s.left }

module _ (rows : List (List ℤ)) where
  module _ (g : ℕ) (row : List ℤ) (l : g < length rows) where
    pub row_put : row_at (set rows g row) g ≡ row
    row_put = get_or-set_same rows g row [] l

    -- what holds of a row as it was, and of the new row at its place, holds of it now
    row_cases : (P : ℕ → List ℤ → Type 0) → P g row → (h : ℕ) → P h (row_at rows h) → P h (row_at (set rows g row) h)
    row_cases P new h old = pick (ℕ_discrete h g)
      where
        pick : Dec (h ≡ g) → P h (row_at (set rows g row) h)
        pick (yes e) = subst (λ (i : ℕ). P i (row_at (set rows g row) i)) (sym e) (rw row_put new)
        pick (no n) = rw (get_or-set_other rows g h row [] n) old

    pub stays_put : (j : ℕ) → j ≤ g → Before j (row_at rows g) row → Stays j rows (set rows g row)
    stays_put j b e = record {
      long = length-set rows g row;
      above = λ h k. get_or-set_other rows g h row [] (λ f. omega arith);
      left = λ h k m. row_cases (λ h r. at r k ≡ cell rows h k) (e k m) h refl;
    }

  pub shape_put : Shaped rows → (g : ℕ) (row : List ℤ) → g < 24 → length row ≡ 25 → Shaped (set rows g row)
  shape_put shape g row l w = record {
    long = length-set rows g row ∙ shape.long;
    wide = λ h k. row_cases g row (omega (arith, shape.long)) (λ h r. length r ≡ 25) w h (shape.wide h k);
  }

  pub kept_put : (g : ℕ) (row : List ℤ) → g < length rows → Shaped rows → (j : ℕ) → j ≤ g → length row ≡ 25 → Before j (row_at rows g) row → Kept j rows (set rows g row)
  kept_put g row l shape j b w e = stays_kept (shape_put shape g row (omega (arith, l, shape.long)) w) (stays_put g row l j b e)

  -- place j of the rows from j + 1 on
  module _ (j k : ℕ) (f : ℕ → ℤ) (x : ℤ) (w : j < length (row_at rows k)) (l : k < length rows) where
    abbrev next : List (List ℤ)
    next = set rows k (set (row_at rows k) j x)

    pub column_more : From (suc j) k (λ h. cell rows h j ≡ f h) → x ≡ f k → From (suc j) (k + 1) (λ h. cell next h j ≡ f h)
    column_more c e h b a =
        below_more (λ h. suc j ≤ h → cell next h j ≡ f h) k
        (λ h m b. rw (get_or-set_other rows k h (set (row_at rows k) j x) [] (λ e. omega arith)) (c h b m))
        (λ b. rw (row_put k (set (row_at rows k) j x) l) (get_or-set_same (row_at rows k) j x (pos 0) w ∙ e))
        h a b

  pub stays_none : (j : ℕ) → Stays j rows rows
  stays_none j = record { long = refl; above = λ h l. refl; left = λ h k l. refl }

  pub kept_none : Shaped rows → (j : ℕ) → Kept j rows rows
  kept_none shape j = stays_kept shape (stays_none j)

-- the rows before anything is written
pub zero_rows : Shaped (replicate 24 (replicate 25 (pos 0)))
zero_rows = record {
  long = length-replicate 24 (replicate 25 (pos 0));
  wide = λ h l. ap length (get_or-replicate 24 h (replicate 25 (pos 0)) [] l) ∙ length-replicate 25 (pos 0);
}

pub stays_then : {j : ℕ} {rows next last : List (List ℤ)} → Stays j rows next → Stays j next last → Stays j rows last
stays_then a b = record {
  long = b.long ∙ a.long;
  above = λ h l. b.above h l ∙ a.above h l;
  left = λ h k l. b.left h k l ∙ a.left h k l;
}

pub kept_then : {j : ℕ} {rows next last : List (List ℤ)} → Kept j rows next → Kept j next last → Kept j rows last
kept_then a b = stays_kept b.shape (stays_then (kept_stays a) (kept_stays b))

pub rows_stay : (t : Table) {j : ℕ} {rows next : List (List ℤ)} → Stays j rows next → Rows t j rows → Rows t j next
rows_stay t e r = record {
  reduced = λ h l. rw (e.above h l) (r.reduced h l);
  multiplied = λ h l k a b. e.left k h l ∙ r.multiplied h l k a b;
}

pub rows_kept : (t : Table) {j : ℕ} {rows next : List (List ℤ)} → Kept j rows next → Rows t j rows → Rows t j next
rows_kept t e r = rows_stay t (kept_stays e) r
