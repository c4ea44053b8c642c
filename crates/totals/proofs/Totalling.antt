-- Laws of the sixteen totals: how they come of the shares, in whatever order and parts. Assumes nothing.
--   joined_sum                                       two numbers of one place that hold a sum
--   joined_none, joined_comm, joined_assoc           none is 0, and the order of three numbers does not matter
--   joined_most                                      no more than their sum
--   sum_length, sum_at_lem                               the sum of two reports, place by place
--   sum_none, sum_comm, sum_assoc                    the report of no nets adds nothing, and the order of reports does not matter
--   report_length, report_at, report_first           a total of the report; the report of a net before others
--   sum_more                                         a share added to the totals so far, and then the others
--   report_joined                                    the report of nets and others after them is the sum of the two reports
use mathlib.Core.Path.{◌≡◌, sym, ◌∙◌, ap, ap₂}
use mathlib.Core.Bool.{Bool, true, false, cond}
use mathlib.Core.List.{List, [], ◌∷◌, ◌++◌}
use Prim.Native.Nat.{ℕ, zero, suc, ◌+◌, ◌≤◌, ◌<◌, max}
use native.Mathlib.Nat.{add_comm, add_assoc, add-zero, max_comm, max-zero, zero-max, suc-max-suc, max-le}
use native.Mathlib.Omega.{arith}
use lib.ListN.{length, get_or}
use Rattle.exact.proofs.Filling.{tabulate_length, tabulate_at, tabulate_ext, tabulate_is}
use Rattle.totals.specs.Totals.{largest_at, joined, sum_of, total, report_of}

-- ---- two numbers of one place
max_assoc : (x y z : ℕ) → max (max x y) z ≡ max x (max y z)
max_assoc zero y z = rw (zero-max, zero-max)
max_assoc (suc x) zero z = rw (max-zero, zero-max)
max_assoc (suc x) (suc y) zero = rw (max-zero, max-zero)
max_assoc (suc x) (suc y) (suc z) = simp suc-max-suc (ap suc (max_assoc x y z))

module _ (i : ℕ) where
  pub joined_sum : (x y : ℕ) → largest_at i ≡ false → joined i x y ≡ x + y
  unfolding joined
  joined_sum x y e = rw e

  pub joined_none : (x : ℕ) → joined i x 0 ≡ x
  unfolding joined
  joined_none x = by_place (largest_at i)
    where
      by_place : (b : Bool) → cond b (max x 0) (x + 0) ≡ x
      by_place true = max-zero x
      by_place false = add-zero x

  pub joined_comm : (x y : ℕ) → joined i x y ≡ joined i y x
  unfolding joined
  joined_comm x y = ap₂ (cond (largest_at i)) (max_comm x y) (add_comm x y)

  pub joined_assoc : (x y z : ℕ) → joined i (joined i x y) z ≡ joined i x (joined i y z)
  unfolding joined
  joined_assoc x y z = by_place (largest_at i)
    where
      by_place : (b : Bool) → cond b (max (cond b (max x y) (x + y)) z) (cond b (max x y) (x + y) + z) ≡ cond b (max x (cond b (max y z) (y + z))) (x + cond b (max y z) (y + z))
      by_place true = max_assoc x y z
      by_place false = add_assoc x y z

  pub joined_most : (x y : ℕ) → joined i x y ≤ x + y
  unfolding joined
  joined_most x y = by_place (largest_at i)
    where
      left : x ≤ x + y
      left = omega arith

      right : y ≤ x + y
      right = omega arith

      by_place : (b : Bool) → cond b (max x y) (x + y) ≤ x + y
      by_place true = max-le left right
      by_place false = omega arith

-- ---- the sum of two reports
pub sum_length : (x y : List ℕ) → length (sum_of x y) ≡ 16
unfolding sum_of
sum_length x y = tabulate_length 16 (λ i. joined i (get_or x i 0) (get_or y i 0))

pub sum_at_lem : (x y : List ℕ) (i : ℕ) → i < 16 → get_or (sum_of x y) i 0 ≡ joined i (get_or x i 0) (get_or y i 0)
unfolding sum_of
sum_at_lem x y i l = tabulate_at 16 (λ i. joined i (get_or x i 0) (get_or y i 0)) i 0 l

pub report_at : (shares : List (List ℕ)) (i : ℕ) → i < 16 → get_or (report_of shares) i 0 ≡ total i shares
unfolding report_of
report_at shares i l = tabulate_at 16 (λ i. total i shares) i 0 l

pub sum_none : (x : List ℕ) → length x ≡ 16 → sum_of x (report_of []) ≡ x
unfolding sum_of total
sum_none x e =
    sym (tabulate_is 0 16 (λ i. joined i (get_or x i 0) (get_or (report_of []) i 0)) x e
    (λ i l. sym (ap (joined i (get_or x i 0)) (report_at [] i l) ∙ joined_none i (get_or x i 0))))

pub sum_comm : (x y : List ℕ) → sum_of x y ≡ sum_of y x
unfolding sum_of
sum_comm x y = tabulate_ext 16 _ _ (λ i l. joined_comm i (get_or x i 0) (get_or y i 0))

pub sum_assoc : (x y z : List ℕ) → sum_of (sum_of x y) z ≡ sum_of x (sum_of y z)
unfolding sum_of
sum_assoc x y z =
    tabulate_ext 16 _ _
    (λ i l. ap (λ (n : ℕ). joined i n (get_or z i 0)) (sum_at_lem x y i l)
    ∙ joined_assoc i (get_or x i 0) (get_or y i 0) (get_or z i 0)
    ∙ ap (joined i (get_or x i 0)) (sym (sum_at_lem y z i l)))

-- ---- the report of shares
pub report_first : (share : List ℕ) (shares : List (List ℕ)) → report_of (share ∷ shares) ≡ sum_of share (report_of shares)
unfolding report_of sum_of total
report_first share shares = tabulate_ext 16 _ _ (λ i l. ap (joined i (get_or share i 0)) (sym (report_at shares i l)))

pub sum_more : (totals share : List ℕ) (shares : List (List ℕ)) → sum_of (sum_of totals share) (report_of shares) ≡ sum_of totals (report_of (share ∷ shares))
sum_more totals share shares = sum_assoc totals share (report_of shares) ∙ ap (sum_of totals) (sym (report_first share shares))

pub report_length : (shares : List (List ℕ)) → length (report_of shares) ≡ 16
unfolding report_of
report_length shares = tabulate_length 16 (λ i. total i shares)

pub report_joined : (before after : List (List ℕ)) → report_of (before ++ after) ≡ sum_of (report_of before) (report_of after)
report_joined [] after = sym (sum_comm (report_of []) (report_of after) ∙ sum_none (report_of after) (report_length after))
report_joined (share ∷ before) after =
    report_first share (before ++ after) ∙ ap (sum_of share) (report_joined before after)
    ∙ sym (ap (λ (x : List ℕ). sum_of x (report_of after)) (report_first share before) ∙ sum_assoc share (report_of before) (report_of after))
