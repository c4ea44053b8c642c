-- The ring laws of ℤ that lib.IntN lacks. Assumes nothing.
--   *ℤ_dist_r, *ℤ_dist_l        a product distributes over a sum
--   *ℤ_assoc, *ℤ_left_comm      products regrouped; +ℤ_left_comm the same for sums
--   neg_*ℤ, *ℤ_neg              a sign moves out of a product
--   one_*ℤ, *ℤ_by_one           the unit
--   ring                        a set for `simp`: multiplied out, brackets to the right, terms and factors in one order
use mathlib.Core.Path.{◌≡◌, sym, ◌∙◌, ap}
use Prim.Native.Nat.{zero, suc}
use lib.IntN.{ℤ, pos, negsuc, suc_ℤ, pred_ℤ, neg_ℤ, ◌+ℤ◌, ◌-ℤ◌, ◌*ℤ◌, +ℤ_assoc, +ℤ_comm, +ℤ_idl, +ℤ_idr, +ℤ_invl, +ℤ_invr, zero-*ℤ, *ℤ_comm, suc_ℤ-+ℤ, pred_ℤ-+ℤ, suc_ℤ-*ℤ, pred_ℤ-*ℤ, neg_ℤ-+ℤ, neg_ℤ-neg_ℤ}

pub +ℤ_left_comm : (a b c : ℤ) → a +ℤ (b +ℤ c) ≡ b +ℤ (a +ℤ c)
+ℤ_left_comm a b c = sym (+ℤ_assoc a b c) ∙ ap (λ (x : ℤ). x +ℤ c) (+ℤ_comm a b) ∙ +ℤ_assoc b a c

-- (a + b) * c = a * c + b * c
suc_step : (a b c : ℤ) → (a +ℤ b) *ℤ c ≡ a *ℤ c +ℤ b *ℤ c → (suc_ℤ a +ℤ b) *ℤ c ≡ suc_ℤ a *ℤ c +ℤ b *ℤ c
suc_step a b c ih = ap (λ (x : ℤ). x *ℤ c) (suc_ℤ-+ℤ a b) ∙ suc_ℤ-*ℤ (a +ℤ b) c ∙ ap (λ (x : ℤ). x +ℤ c) ih ∙ +ℤ_assoc (a *ℤ c) (b *ℤ c) c
    ∙ ap (λ (x : ℤ). a *ℤ c +ℤ x) (+ℤ_comm (b *ℤ c) c) ∙ sym (+ℤ_assoc (a *ℤ c) c (b *ℤ c)) ∙ ap (λ (x : ℤ). x +ℤ b *ℤ c) (sym (suc_ℤ-*ℤ a c))

pred_step : (a b c : ℤ) → (a +ℤ b) *ℤ c ≡ a *ℤ c +ℤ b *ℤ c → (pred_ℤ a +ℤ b) *ℤ c ≡ pred_ℤ a *ℤ c +ℤ b *ℤ c
pred_step a b c ih = ap (λ (x : ℤ). x *ℤ c) (pred_ℤ-+ℤ a b) ∙ pred_ℤ-*ℤ (a +ℤ b) c ∙ ap (λ (x : ℤ). x -ℤ c) ih ∙ +ℤ_assoc (a *ℤ c) (b *ℤ c) (neg_ℤ c)
    ∙ ap (λ (x : ℤ). a *ℤ c +ℤ x) (+ℤ_comm (b *ℤ c) (neg_ℤ c)) ∙ sym (+ℤ_assoc (a *ℤ c) (neg_ℤ c) (b *ℤ c)) ∙ ap (λ (x : ℤ). x +ℤ b *ℤ c) (sym (pred_ℤ-*ℤ a c))

pub *ℤ_dist_r : (a b c : ℤ) → (a +ℤ b) *ℤ c ≡ a *ℤ c +ℤ b *ℤ c
*ℤ_dist_r (pos zero) b c = ap (λ (x : ℤ). x *ℤ c) (+ℤ_idl b) ∙ sym (ap (λ (x : ℤ). x +ℤ b *ℤ c) (zero-*ℤ c) ∙ +ℤ_idl (b *ℤ c))
*ℤ_dist_r (pos (suc n)) b c = suc_step (pos n) b c (*ℤ_dist_r (pos n) b c)
*ℤ_dist_r (negsuc zero) b c =
    pred_step (pos zero) b c (ap (λ (x : ℤ). x *ℤ c) (+ℤ_idl b) ∙ sym (ap (λ (x : ℤ). x +ℤ b *ℤ c) (zero-*ℤ c) ∙ +ℤ_idl (b *ℤ c)))
*ℤ_dist_r (negsuc (suc n)) b c = pred_step (negsuc n) b c (*ℤ_dist_r (negsuc n) b c)

pub *ℤ_dist_l : (a b c : ℤ) → a *ℤ (b +ℤ c) ≡ a *ℤ b +ℤ a *ℤ c
*ℤ_dist_l a b c = *ℤ_comm a (b +ℤ c) ∙ *ℤ_dist_r b c a ∙ (λ i. *ℤ_comm b a i +ℤ *ℤ_comm c a i)

-- (a * b) * c = a * (b * c)
suc_assoc : (a b c : ℤ) → (a *ℤ b) *ℤ c ≡ a *ℤ (b *ℤ c) → (suc_ℤ a *ℤ b) *ℤ c ≡ suc_ℤ a *ℤ (b *ℤ c)
suc_assoc a b c ih = ap (λ (x : ℤ). x *ℤ c) (suc_ℤ-*ℤ a b) ∙ *ℤ_dist_r (a *ℤ b) b c ∙ ap (λ (x : ℤ). x +ℤ b *ℤ c) ih ∙ sym (suc_ℤ-*ℤ a (b *ℤ c))

neg_of_sum : (a b : ℤ) → a +ℤ b ≡ pos zero → neg_ℤ a ≡ b
neg_of_sum a b e = sym (+ℤ_idr (neg_ℤ a)) ∙ ap (λ (x : ℤ). neg_ℤ a +ℤ x) (sym e) ∙ sym (+ℤ_assoc (neg_ℤ a) a b) ∙ ap (λ (x : ℤ). x +ℤ b) (+ℤ_invl a) ∙ +ℤ_idl b

pub neg_*ℤ : (a b : ℤ) → neg_ℤ a *ℤ b ≡ neg_ℤ (a *ℤ b)
neg_*ℤ a b = sym (neg_of_sum (a *ℤ b) (neg_ℤ a *ℤ b) (sym (*ℤ_dist_r a (neg_ℤ a) b) ∙ ap (λ (x : ℤ). x *ℤ b) (+ℤ_invr a) ∙ zero-*ℤ b))

pub *ℤ_neg : (a b : ℤ) → a *ℤ neg_ℤ b ≡ neg_ℤ (a *ℤ b)
*ℤ_neg a b = *ℤ_comm a (neg_ℤ b) ∙ neg_*ℤ b a ∙ ap neg_ℤ (*ℤ_comm b a)

pred_assoc : (a b c : ℤ) → (a *ℤ b) *ℤ c ≡ a *ℤ (b *ℤ c) → (pred_ℤ a *ℤ b) *ℤ c ≡ pred_ℤ a *ℤ (b *ℤ c)
pred_assoc a b c ih = ap (λ (x : ℤ). x *ℤ c) (pred_ℤ-*ℤ a b) ∙ *ℤ_dist_r (a *ℤ b) (neg_ℤ b) c ∙ ap (λ (x : ℤ). (a *ℤ b) *ℤ c +ℤ x) (neg_*ℤ b c) ∙ ap (λ (x : ℤ). x -ℤ b *ℤ c) ih ∙ sym (pred_ℤ-*ℤ a (b *ℤ c))

pub *ℤ_assoc : (a b c : ℤ) → (a *ℤ b) *ℤ c ≡ a *ℤ (b *ℤ c)
*ℤ_assoc (pos zero) b c = ap (λ (x : ℤ). x *ℤ c) (zero-*ℤ b) ∙ zero-*ℤ c ∙ sym (zero-*ℤ (b *ℤ c))
*ℤ_assoc (pos (suc n)) b c = suc_assoc (pos n) b c (*ℤ_assoc (pos n) b c)
*ℤ_assoc (negsuc zero) b c = pred_assoc (pos zero) b c (ap (λ (x : ℤ). x *ℤ c) (zero-*ℤ b) ∙ zero-*ℤ c ∙ sym (zero-*ℤ (b *ℤ c)))
*ℤ_assoc (negsuc (suc n)) b c = pred_assoc (negsuc n) b c (*ℤ_assoc (negsuc n) b c)

pub *ℤ_left_comm : (a b c : ℤ) → a *ℤ (b *ℤ c) ≡ b *ℤ (a *ℤ c)
*ℤ_left_comm a b c = sym (*ℤ_assoc a b c) ∙ ap (λ (x : ℤ). x *ℤ c) (*ℤ_comm a b) ∙ *ℤ_assoc b a c

pub one_*ℤ : (a : ℤ) → pos 1 *ℤ a ≡ a
one_*ℤ a = suc_ℤ-*ℤ (pos zero) a ∙ ap (λ (x : ℤ). x +ℤ a) (zero-*ℤ a) ∙ +ℤ_idl a

pub *ℤ_by_one : (a : ℤ) → a *ℤ pos 1 ≡ a
*ℤ_by_one a = *ℤ_comm a (pos 1) ∙ one_*ℤ a

pub ruleset ring = (*ℤ_dist_r, *ℤ_dist_l, neg_*ℤ, *ℤ_neg, neg_ℤ-+ℤ, neg_ℤ-neg_ℤ, +ℤ_assoc, +ℤ_comm, +ℤ_left_comm, *ℤ_assoc, *ℤ_comm, *ℤ_left_comm)
