-- The share of one net: what `net` needs to make it, and what is known of it. Assumes nothing.
--   under_is                         one net under its number
--   sum_ext                          equal terms, equal sums
--   sum_none, sum_more, sum_most     the sum of the sizes, for a loop; at most 1,000,000 for each
--   most_none, most_more, most_most  the largest size, for a loop; at most what each is
--   size_most                        the size of one condition's misclosure
--   refused_share, accepted_share    the share, by the reply
--   figures_put                      the figures put into a share
--   untabled, table_refused, table_accepted      a file that gives no table; its table, by the reply to it
--   share_refused, share_accepted    the share of a file that is refused, and of one that is not; share_passed: what is known of the table of such a one
--   long_net                         the share of a net over 65,535 bytes
--   share_is, left_is, long_is       each share is of one net, under one number, and has no figure above 24,000,000
use mathlib.Core.Path.{◌≡◌, refl, sym, ◌∙◌, ap, ap₂, subst}
use mathlib.Core.Bool.{Bool, true, false, cond, ◌&&◌}
use mathlib.Core.List.{List, [], ◌∷◌, ◌++◌}
use Prim.Native.Nat.{ℕ, zero, suc, ◌+◌, ◌*◌, ◌≤◌, ◌<◌, max}
use native.Mathlib.Decide.{dec_lt, ℕ_discrete}
use native.Mathlib.Nat.{max-le}
use native.Mathlib.Numerals.{add-one}
use native.Mathlib.Omega.{arith}
use borrow.Author.Tests.{eq-eqb, ne_eqb, lt-ltb}
use lib.Dec.{ltb, eqb}
use lib.IntN.{ℤ, pos, nat_abs}
use lib.ListN.{length, get_or, set, replicate, length-append, length-set, length-replicate, get_or-replicate, get_or-append}
use lib.Seq.{set-append_left, get_or-set_same, get_or-set_other}
use Rattle.exact.specs.Tabulate.{tabulate}
use Rattle.exact.proofs.Filling.{tabulate_length, tabulate_at, tabulate_is}
use Rattle.reply.specs.declared.Refusal.{Refusal}
use Rattle.reply.specs.Reply.{Reply}
use Rattle.reply.specs.Numbers.{number_of}
use Rattle.reply.proofs.Checking.{both_accepted}
use Rattle.doolittle.specs.Inner.{Small}
use Rattle.adjustment.specs.Promise.{adjust_reply}
use Rattle.adjustment.proofs.Promising.{Passed, accepted_passed}
use Rattle.touched.specs.Shared.{one_if, shares_three}
use Rattle.text.specs.Lines.{lines_of}
use Rattle.condition.specs.declared.Kind.{Kind}
use Rattle.condition.specs.declared.Kind.TheVariants.{Angle, Side}
use Rattle.network.specs.Scan.{scan_reply}
use Rattle.network.specs.Net.{Net, net_of, formed_reply, rows_of, misclosures_of, kinds_of, table_reply, Tabled, Tables}
use Rattle.network.specs.declared.lists.NetTable.{NetTable}
use Rattle.listing.specs.File.{room, net_reply, file_reply}
use Rattle.listing.proofs.Tabling.{file_refused, file_reply_lem}
use Rattle.listing.proofs.Filing.{solved}
use Rattle.season.specs.Share.{counted_under, sum_to, most_to, alike, size_at, figures, no_figures, net_figures, share_with, share_of, left_share, long_share}
use Rattle.season.specs.Inner.{IsShare}
use Rattle.season.proofs.Numbering.{Few, few_file}
use Rattle.std.specs.Prelude.{Ok, Err}

-- ---- one net under its number
ones : (n k : ℕ) → k < n → set (replicate n 0) k 1 ≡ tabulate n (λ i. one_if (eqb i k))
ones n k l = tabulate_is 0 n (λ i. one_if (eqb i k)) (set (replicate n 0) k 1) (length-set (replicate n 0) k 1 ∙ length-replicate {A = ℕ} n 0) (λ i h. by_place i h (ℕ_discrete i k))
  where
    by_place : (i : ℕ) → i < n → Dec (i ≡ k) → get_or (set (replicate n 0) k 1) i 0 ≡ one_if (eqb i k)
    by_place i h (yes e) = rw (eq-eqb i k e) (rw e (get_or-set_same (replicate n 0) k 1 0 (omega (arith, length-replicate {A = ℕ} n 0))))
    by_place i h (no e) = rw (ne_eqb i k e) (get_or-set_other (replicate n 0) k i 1 0 e ∙ get_or-replicate n i 0 0 h)

pub under_is : (number : ℕ) → number ≤ 9 → set (set (replicate 16 0) 0 1) (number + 1) 1 ≡ counted_under number ++ no_figures
unfolding counted_under
under_is number l =
    rw add-one
    (set-append_left (1 ∷ replicate 10 0) no_figures (suc number) 1 (omega arith)
    ∙ ap (λ (xs : List ℕ). (1 ∷ xs) ++ no_figures) (ones 10 number (omega arith)))

-- ---- the sum and the largest, by a loop
pub sum_none : (f : ℕ → ℕ) → sum_to 0 f ≡ 0
unfolding sum_to
sum_none f = refl

pub sum_more : (n : ℕ) (f : ℕ → ℕ) → sum_to (n + 1) f ≡ sum_to n f + f n
unfolding sum_to
sum_more n f = rw add-one

pub sum_most : (n : ℕ) (f : ℕ → ℕ) → ((i : ℕ) → i < n → f i ≤ 1000000) → sum_to n f ≤ 1000000 * n
unfolding sum_to
sum_most zero f h = omega arith
sum_most (suc n) f h = omega (arith, sum_most n f (λ i l. h i (omega arith)), h n (omega arith))

pub most_none : (f : ℕ → ℕ) → most_to 0 f ≡ 0
unfolding most_to
most_none f = refl

pub most_more : (n : ℕ) (f : ℕ → ℕ) → most_to (n + 1) f ≡ max (most_to n f) (f n)
unfolding most_to
most_more n f = rw add-one

most_most : (n b : ℕ) (f : ℕ → ℕ) → ((i : ℕ) → i < n → f i ≤ b) → most_to n f ≤ b
unfolding most_to
most_most zero b f h = omega arith
most_most (suc n) b f h = max-le (most_most n b f (λ i l. h i (omega arith))) (h n (omega arith))

-- ---- the size of one condition's misclosure
module _ (kind : Kind) (kinds : List Kind) (w : List ℤ) (j : ℕ) where
  pub size_most : nat_abs (get_or w j (pos 0)) ≤ 1000000 → size_at kind kinds w j ≤ 1000000
  unfolding size_at
  size_most l = by_test (ltb j (length kinds) && alike (get_or kinds j Angle) kind)
    where
      by_test : (b : Bool) → cond b (nat_abs (get_or w j (pos 0))) 0 ≤ 1000000
      by_test true = l
      by_test false = omega arith

-- ---- the share, by the reply
module _ {reply : Reply} (five : List ℕ) {one : List ℕ} where
  pub refused_share : {why : Refusal} {number : ℕ} → reply ≡ Err why → number ≡ number_of why → one ≡ counted_under number ++ no_figures → one ≡ share_with reply five
  unfolding share_with
  refused_share e n o = o ∙ ap (λ (x : ℕ). counted_under x ++ no_figures) n ∙ sym (ap (λ (r : Reply). share_with r five) e)

  pub accepted_share : reply ≡ Ok tt → one ≡ counted_under 0 ++ five → one ≡ share_with reply five
  unfolding share_with
  accepted_share e o = o ∙ sym (ap (λ (r : Reply). share_with r five) e)

-- the figures of an accepted net, put into the share of one without
module _ (kinds : List Kind) (w a : List ℤ) (m : ℕ) {one : List ℕ} (bare : one ≡ counted_under 0 ++ no_figures) {s b s' b' : ℕ}
    (angles : s ≡ sum_to (length w) (size_at Angle kinds w)) (angle : b ≡ most_to (length w) (size_at Angle kinds w))
    (sides : s' ≡ sum_to (length w) (size_at Side kinds w)) (side : b' ≡ most_to (length w) (size_at Side kinds w)) where
  pub figures_put : {shared : ℕ} → shared ≡ one_if (shares_three a m (length w))
      → set (set (set (set (set one 11 s) 12 b) 13 s') 14 b') 15 shared ≡ counted_under 0 ++ figures kinds w a m
  unfolding counted_under tabulate figures
  figures_put e = rw (bare, angles, angle, sides, side, e)

module _ (file : List ℕ) where
  abbrev net : Net
  net = net_of (lines_of file)

  pub share_refused : (why : Refusal) {one : List ℕ} {number : ℕ} → file_reply file ≡ Err why → number ≡ number_of why → one ≡ counted_under number ++ no_figures → one ≡ share_of file
  unfolding share_of
  share_refused why e n o = refused_share (net_figures net) e n o

  pub untabled : (why : Refusal) → table_reply file ≡ Err why → Tables (file_reply file) net (Err why)
  untabled why e = record { reply = sym (file_refused file why e); table = λ other f. cc }

  -- its table
  module _ {t : NetTable} (of : Tabled net t) where
    abbrev own_reply : Reply
    own_reply = adjust_reply t.directions.now t.q.now t.a.now t.w.now (room (length t.directions.now) (length t.w.now))

    -- refused for what it holds, or accepted
    pub table_refused : (why : Refusal) → table_reply file ≡ Ok tt → own_reply ≡ Err why → Tables (file_reply file) net (Err why)
    table_refused why e f = record { reply = sym f ∙ file_reply_lem file of e; table = λ other g. cc }

    pub table_accepted : table_reply file ≡ Ok tt → own_reply ≡ Ok tt → Tables (file_reply file) net (Ok t)
    table_accepted e f = record { reply = sym f ∙ file_reply_lem file of e; table = λ other g. subst (Tabled net) (cc) of }

    module _ (e : file_reply file ≡ Ok tt) where
      tabled : table_reply file ≡ Ok tt
      unfolding file_reply net_reply table_reply
      tabled =
          let formed = formed_reply net.directions net.q 1 net.conditions in
          let scanned = both_accepted (scan_reply file) (net_reply net) e in
          rw scanned.0 ((both_accepted formed _ scanned.1).0)

      pub share_passed : Passed t.directions.now t.q.now t.a.now t.w.now (room (length t.directions.now) (length t.w.now))
      share_passed = accepted_passed t.directions.now t.q.now t.a.now t.w.now _ (file_reply_lem file of tabled ∙ e)

      pub share_accepted : {one : List ℕ} → one ≡ counted_under 0 ++ figures t.kinds.now t.w.now t.a.now (length t.directions.now) → one ≡ share_of file
      unfolding share_of net_figures
      share_accepted o = accepted_share (net_figures net) e (o ∙ rw (of.kinds_are, of.misclosures_are, of.rows_are, of.directions_are))

  pub long_net : 65535 < length file → share_of file ≡ long_share
  unfolding share_of file_reply scan_reply share_with long_share
  long_net l = rw (lt-ltb 65535 (length file) l)

-- ---- no figure above 24,000,000
record Modest (xs : List ℕ) : Type 0 where
  pub at : (i : ℕ) → get_or xs i 0 ≤ 24000000

modest_none : Modest []
modest_none = record { at = λ i. omega arith }

modest_first : {x : ℕ} {xs : List ℕ} → x ≤ 24000000 → Modest xs → Modest (x ∷ xs)
modest_first {x} {xs} l m = record { at = by_place }
  where
    by_place : (i : ℕ) → get_or (x ∷ xs) i 0 ≤ 24000000
    by_place zero = l
    by_place (suc i) = m.at i

modest_joined : (xs ys : List ℕ) → Modest xs → Modest ys → Modest (xs ++ ys)
modest_joined [] ys m n = n
modest_joined (x ∷ xs) ys m n = modest_first (m.at 0) (modest_joined xs ys (record { at = λ i. m.at (suc i) }) n)

modest_one : (b : Bool) → one_if b ≤ 24000000
modest_one true = omega arith
modest_one false = omega arith

modest_ones : (n : ℕ) (p : ℕ → Bool) → Modest (tabulate n (λ i. one_if (p i)))
unfolding tabulate
modest_ones zero p = modest_none
modest_ones (suc n) p = modest_first (modest_one (p 0)) (modest_ones n (λ i. p (suc i)))

modest_zeros : Modest no_figures
modest_zeros = modest_first z (modest_first z (modest_first z (modest_first z (modest_first z modest_none))))
  where
    z : 0 ≤ 24000000
    z = omega arith

modest_figures : (kinds : List Kind) (w a : List ℤ) (m : ℕ) → length w ≤ 24 → Small 1000000 w (length w) → Modest (figures kinds w a m)
unfolding figures
modest_figures kinds w a m n s =
    modest_first (sum Angle) (modest_first (most Angle) (modest_first (sum Side) (modest_first (most Side) (modest_first (modest_one (shares_three a m (length w))) modest_none))))
  where
    size : (kind : Kind) (i : ℕ) → i < length w → size_at kind kinds w i ≤ 1000000
    size kind i l = size_most kind kinds w i (s i l)

    sum : (kind : Kind) → sum_to (length w) (size_at kind kinds w) ≤ 24000000
    sum kind = omega (arith, sum_most (length w) (size_at kind kinds w) (size kind))

    most : (kind : Kind) → most_to (length w) (size_at kind kinds w) ≤ 24000000
    most kind = omega (arith, most_most (length w) 1000000 (size_at kind kinds w) (size kind))

-- ---- one net under one number
pub sum_ext : (n : ℕ) (f g : ℕ → ℕ) → ((i : ℕ) → i < n → f i ≡ g i) → sum_to n f ≡ sum_to n g
unfolding sum_to
sum_ext zero f g e = refl
sum_ext (suc n) f g e = ap₂ (λ (x y : ℕ). x + y) (sum_ext n f g (λ i l. e i (omega arith))) (e n (omega arith))

sum_past : (n k : ℕ) → n ≤ k → sum_to n (λ i. one_if (eqb i k)) ≡ 0
unfolding sum_to
sum_past zero k l = refl
sum_past (suc n) k l = rw (sum_past n k (omega arith), ne_eqb n k (λ e. omega arith))

sum_once : (n k : ℕ) → k < n → sum_to n (λ i. one_if (eqb i k)) ≡ 1
unfolding sum_to
sum_once zero k l = absurd (omega arith)
sum_once (suc n) k l = by_place (dec_lt k n) (sum_once n k)
  where
    by_place : Dec (k < n) → (k < n → sum_to n (λ i. one_if (eqb i k)) ≡ 1) → sum_to n (λ i. one_if (eqb i k)) + one_if (eqb n k) ≡ 1
    by_place (yes h) rec = rw (rec h, ne_eqb n k (λ e. omega arith))
    by_place (no h) rec = rw (sum_past n k (omega arith), eq-eqb n k (omega arith))

counted_is : (number : ℕ) (five : List ℕ) → number ≤ 9 → length five ≡ 5 → Modest five → IsShare (counted_under number ++ five)
unfolding counted_under
counted_is number five l e m =
    let test : ℕ → ℕ = λ k. one_if (eqb k number) in let counts = tabulate 10 test in let ten = tabulate_length 10 test in
    record {
      long = omega (arith, length-append (1 ∷ counts) five);
      net = refl;
      once =
          sum_ext 10 (λ k. get_or (counts ++ five) k 0) test (λ k h. get_or-append counts five 0 k (omega arith) ∙ tabulate_at 10 test k 0 h)
          ∙ sum_once 10 number (omega arith);
      small = (modest_joined (1 ∷ counts) five (modest_first (omega arith) (modest_ones 10 (λ k. eqb k number))) m).at;
    }

with_is : (reply : Reply) (five : List ℕ) → Few reply → length five ≡ 5 → (reply ≡ Ok tt → Modest five) → IsShare (share_with reply five)
unfolding share_with
with_is (Ok _) five f e m = counted_is 0 five f.number e (m refl)
with_is (Err why) five f e m = counted_is (number_of why) no_figures f.number refl modest_zeros

pub share_is : (file : List ℕ) → IsShare (share_of file)
unfolding share_of net_figures figures
share_is file =
    with_is (file_reply file) (net_figures (net file)) (few_file file) refl
    (λ e. let n = net file in let s = (accepted_passed _ _ _ _ _ (solved file e)).sound in
    modest_figures (kinds_of n.conditions) (misclosures_of n.directions n.q n.conditions) (rows_of n.directions n.q n.conditions) (length n.directions) s.n_most s.w_most)

pub left_is : IsShare left_share
unfolding left_share
left_is = counted_is 1 no_figures (omega arith) refl modest_zeros

pub long_is : IsShare long_share
unfolding long_share
long_is = counted_is 2 no_figures (omega arith) refl modest_zeros
