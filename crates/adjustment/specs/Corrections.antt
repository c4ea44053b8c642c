-- What follows from a table and its correlates K, whoever found them: V, R, u, the adjusted directions and Q.
use Rattle.std.specs.Prelude.{ℕ, ℤ, pos, ◌+ℤ◌, ◌*ℤ◌}
use Rattle.exact.specs.Sum.{sum}
use Rattle.exact.specs.Nearest.{nearest}
use Rattle.exact.specs.Circle.{C, modulo}
use Rattle.doolittle.specs.Table.{Table, inverse_weight}
use Rattle.doolittle.specs.Solution.{N}

module _ (t : Table) (k : ℕ → ℤ) where
  -- V(i) = q(i) * sum of a(j,i)*K(j)
  unfoldable pub V_of : ℕ → ℤ
  V_of i = inverse_weight t i *ℤ sum t.n (λ j. t.a j i *ℤ k j)

  -- R(j) = sum of N(j,k)*K(k) + 10^7*w(j)
  unfoldable pub R_of : ℕ → ℤ
  R_of j = sum t.n (λ h. N t j h *ℤ k h) +ℤ pos 10000000 *ℤ t.w j

  -- u = nearest(V / 10^5)
  unfoldable pub u_of : ℕ → ℤ
  u_of i = nearest (V_of i) (pos 100000)

  -- Adjusted direction = (direction + u) modulo C
  unfoldable pub adjusted_of : (ℕ → ℤ) → ℕ → ℤ
  adjusted_of direction i = modulo (direction i +ℤ u_of i) C

  -- Q(j) = 10^5 * sum of a*u + 10^7*w(j)
  unfoldable pub Q_of : ℕ → ℤ
  Q_of j = pos 100000 *ℤ sum t.m (λ i. t.a j i *ℤ u_of i) +ℤ pos 10000000 *ℤ t.w j
