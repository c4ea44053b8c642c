-- "Normals and their solution": N, D, L, M and K of a condition table, each product rounded by itself.
use Rattle.std.specs.Prelude.{Bool, ◌||◌, ◌&&◌, List, [], ◌∷◌, ℕ, zero, suc, ◌+◌, ◌-◌, ltb, leb, get_or, ℤ, pos, neg_ℤ, nat_abs, ◌+ℤ◌, ◌*ℤ◌}
use Rattle.std.specs.Int.Signed.{lt_z}
use Rattle.exact.specs.Sum.{sum}
use Rattle.exact.specs.Nearest.{nearest}
use Rattle.exact.specs.First.{some_below}
use Rattle.doolittle.specs.Table.{Table, inverse_weight}

-- N(j,k) = sum over directions of q*a(j)*a(k)
unfoldable pub N : Table → ℕ → ℕ → ℤ
N t j k = sum t.m (λ i. inverse_weight t i *ℤ t.a j i *ℤ t.a k i)

-- nearest(-10^6*x / D): the multiplier that a row with the pivot D has for its coefficient x
abbrev pub multiplier : ℤ → ℤ → ℤ
multiplier x pivot = nearest (neg_ℤ (pos 1000000 *ℤ x)) pivot

-- nearest(M*x / 10^6): what a row above adds
abbrev pub carried : ℤ → ℤ → ℤ
carried M x = nearest (M *ℤ x) (pos 1000000)

-- The column x, reduced by the first i rows, at row j: x(j) + sum over h<i of nearest(M(h,j)*X(h) / 10^6), where X(h) is x(h) reduced by the rows above h.
-- The coefficients and the constants of the rows are reduced in the same way.
unfoldable pub reduced : Table → ℕ → (ℕ → ℤ) → ℕ → ℤ
reduced t zero x j = x j
reduced t (suc i) x j =
    reduced t i x j
    +ℤ carried (multiplier (reduced t i (λ h. N t h j) i) (reduced t i (λ h. N t h i) i)) (reduced t i x i)

-- D(j,k) = N(j,k) + sum over i<j of nearest(M(i,j)*D(i,k) / 10^6)
unfoldable pub D : Table → ℕ → ℕ → ℤ
D t j k = reduced t j (λ h. N t h k) j

-- L(j) = 1,000*w(j) + sum over i<j of nearest(M(i,j)*L(i) / 10^6)
unfoldable pub L : Table → ℕ → ℤ
L t j = reduced t j (λ h. pos 1000 *ℤ t.w h) j

-- M(j,k) = nearest(-10^6*D(j,k) / D(j,j)), k>j
unfoldable pub M : Table → ℕ → ℕ → ℤ
M t j k = multiplier (D t j k) (D t j j)

-- "Row j is weak if D(j,j) is below 1, or 1,000*D(j,j) is below N(j,j)": a pivot, and its entry before any row above is taken (W-203).
abbrev pub low_pivot : (pivot entry : ℤ) → Bool
low_pivot pivot entry = lt_z pivot (pos 1) || lt_z (pos 1000 *ℤ pivot) entry

-- A row is weak if some |D| exceeds 2,560,000,000, |L| exceeds 4,000,000,000, its pivot is low, or some |M| exceeds 10^9.
unfoldable pub weak_row : (n j : ℕ) (entry : ℤ) (d : ℕ → ℤ) (l : ℤ) → Bool
weak_row n j entry d l =
    some_below n (λ k. leb j k && ltb 2560000000 (nat_abs (d k)))
    || (ltb 4000000000 (nat_abs l)
    || (low_pivot (d j) entry
    || some_below n (λ k. ltb j k && ltb 1000000000 (nat_abs (multiplier (d k) (d j))))))

unfoldable pub weak : Table → ℕ → Bool
weak t j = weak_row t.n j (N t j j) (D t j) (L t j)

-- Then from n down to 1: K(j) = nearest(-10^4*L(j) / D(j,j)) + sum over k>j of nearest(M(j,k)*K(k) / 10^6).
-- The correlates of the last b rows for the reduced constants l, those of the rows below being found first.
unfoldable pub back : Table → (ℕ → ℤ) → ℕ → List ℤ
back t l zero = []
back t l (suc b) =
    let j = t.n - suc b in let below = back t l b in
    (nearest (neg_ℤ (pos 10000 *ℤ l j)) (D t j j) +ℤ sum b (λ e. carried (M t j (suc j + e)) (get_or below e (pos 0)))) ∷ below

unfoldable pub K : Table → ℕ → ℤ
K t j = get_or (back t (L t) t.n) j (pos 0)
