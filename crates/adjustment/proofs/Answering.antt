-- The answer lists of a solved table, from what the code writes. Assumes nothing.
--   Missed            what Q is, in those words
--   taken             the heads of lists that hold a solution hold it
--   u_size            the printed corrections are within 60,000
--   answered          the six lists are the rules' answers, where the adjusted directions and Q are worked out from the printed corrections
use Rattle.std.proofs.Common.{◌≡◌, ◌∙◌, ap, ℕ, ℤ, pos, List, length, take, get_or}
use Rattle.std.specs.Prelude.{◌+ℤ◌, ◌*ℤ◌}
use Rattle.std.proofs.lemmas.List.{get_or-take}
use Rattle.exact.specs.Circle.{C, modulo}
use Rattle.exact.specs.Tabulate.{tabulate}
use Rattle.exact.proofs.Filling.{tabulate_ext, tabulate_is}
use Rattle.doolittle.specs.Table.{Table, at}
use Rattle.doolittle.specs.Solution.{K}
use Rattle.doolittle.specs.Inner.{Small}
use Rattle.adjustment.specs.Corrections.{V_of, R_of, u_of, adjusted_of, Q_of}
use Rattle.adjustment.specs.Demand.{seen}
use Rattle.adjustment.specs.Promise.{lists, answers_of}
use Rattle.adjustment.specs.Inner.{Solved}
use Rattle.adjustment.proofs.Solving.{turned_is, missed_is}

-- the printed remainders, worked out from the printed corrections
abbrev pub Missed : Table → (us misses : List ℤ) → Type 0
Missed t us misses = misses ≡ tabulate t.n (λ j. pos 100000 *ℤ seen t j (at us) +ℤ pos 10000000 *ℤ t.w j)

module _ {t : Table} {ks vs us rs : List ℤ} (s : Solved t ks vs us rs) where
  pub taken : {ks' vs' us' rs' : List ℤ} → ks' ≡ take t.n ks → vs' ≡ take t.m vs → us' ≡ take t.m us → rs' ≡ take t.n rs → Solved t ks' vs' us' rs'
  taken a b c d = record {
    k = λ j l. ap (λ (xs : List ℤ). at xs j) a ∙ get_or-take t.n ks j (pos 0) l ∙ s.k j l;
    v = λ i l. ap (λ (xs : List ℤ). at xs i) b ∙ get_or-take t.m vs i (pos 0) l ∙ s.v i l;
    u = λ i l. ap (λ (xs : List ℤ). at xs i) c ∙ get_or-take t.m us i (pos 0) l ∙ s.u i l;
    r = λ j l. ap (λ (xs : List ℤ). at xs j) d ∙ get_or-take t.n rs j (pos 0) l ∙ s.r j l;
    u_most = s.u_most;
  }

  pub u_size : Small 60000 us t.m
  u_size i l = rw (s.u i l) (s.u_most i l)

  turned_list : (ds : List ℤ) → tabulate t.m (λ i. modulo (get_or ds i (pos 0) +ℤ get_or us i (pos 0)) C) ≡ tabulate t.m (adjusted_of t (K t) (at ds))
  turned_list ds =
      tabulate_ext t.m (λ i. modulo (get_or ds i (pos 0) +ℤ get_or us i (pos 0)) C) (adjusted_of t (K t) (at ds)) (λ i l. turned_is t (K t) (at ds) us i (s.u i l))

  missed_list : tabulate t.n (λ j. pos 100000 *ℤ seen t j (at us) +ℤ pos 10000000 *ℤ t.w j) ≡ tabulate t.n (Q_of t (K t))
  missed_list =
      tabulate_ext t.n (λ j. pos 100000 *ℤ seen t j (at us) +ℤ pos 10000000 *ℤ t.w j) (Q_of t (K t)) (λ j l. missed_is t (K t) us s.u j)

  pub answered : (ds : List ℤ) {adjusted misses : List ℤ} {m : ℕ} → length vs ≡ t.m → length us ≡ t.m → length ks ≡ t.n → length rs ≡ t.n → m ≡ t.m
      → adjusted ≡ tabulate m (λ i. modulo (get_or ds i (pos 0) +ℤ get_or us i (pos 0)) C)
      → Missed t us misses
      → lists vs us adjusted ks rs misses ≡ answers_of t (K t) (at ds)
  answered ds lv lu lk lr e f g = λ i. lists
      (tabulate_is (pos 0) t.m (V_of t (K t)) vs lv s.v i)
      (tabulate_is (pos 0) t.m (u_of t (K t)) us lu s.u i)
      ((f ∙ ap (λ (m : ℕ). tabulate m (λ i. modulo (get_or ds i (pos 0) +ℤ get_or us i (pos 0)) C)) e ∙ turned_list ds) i)
      (tabulate_is (pos 0) t.n (K t) ks lk s.k i)
      (tabulate_is (pos 0) t.n (R_of t (K t)) rs lr s.r i)
      ((g ∙ missed_list) i)
