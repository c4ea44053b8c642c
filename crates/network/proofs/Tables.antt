-- The condition table of a file, from its directions and conditions. Assumes nothing.
--   directions_long              as many directions as were read
--   misclosures_long             a misclosure for each condition
--   table_refused                the scan has refused the file
--   n_most, each_long, rows_most there is room for its conditions and for their rows; each has a misclosure and a kind
--   table_formed, table_failed   its directions have been read and its conditions formed, or refused
--   one_table                    two answers that keep the promise are equal
use mathlib.Core.Path.{◌≡◌, refl, sym, ◌∙◌, ap, subst}
use mathlib.Core.List.{List, [], ◌∷◌}
use Prim.Native.Nat.{ℕ, suc, ◌*◌, ◌≤◌}
use native.Mathlib.Nat.{mul-le-mul}
use native.Mathlib.Omega.{arith}
use lib.IntN.{ℤ}
use lib.ListN.{length, take}
use lib.Seq.{length-take-le}
use Rattle.exact.proofs.Unique.{only}
use Rattle.reply.specs.declared.Refusal.{Refusal}
use Rattle.reply.specs.Reply.{Reply}
use Rattle.reply.specs.Checks.{figure_reply}
use Rattle.reply.proofs.Checking.{figure_replied, figure_given}
use Rattle.text.specs.Lines.{lines_of}
use Rattle.network.specs.Scan.{scan_reply}
use Rattle.condition.specs.declared.Kind.{Kind}
use Rattle.network.specs.Net.{Condition, Net, net_of, net_from, formed_reply, rows_of, misclosures_of, kinds_of, table_reply, Tabled, Tables}
use Rattle.network.specs.Gathered.{Directed, Forms}
use Rattle.network.specs.declared.lists.NetTable.{NetTable}
use Rattle.network.proofs.Bounding.{scan_bounds}
use Rattle.std.specs.Prelude.{Result, Ok, Err, IsOk}

pub directions_long : {file : List ℕ} {directions q : List ℤ} {m next : ℕ} → Directed file directions q m next → length (take m directions) ≡ m
directions_long {directions = directions} {m = m} d = length-take-le m directions (omega (arith, d.long, d.most))

pub misclosures_long : (directions q : List ℤ) (cs : List Condition) → length (misclosures_of directions q cs) ≡ length cs
unfolding misclosures_of
misclosures_long directions q [] = refl
misclosures_long directions q (c ∷ cs) = ap suc (misclosures_long directions q cs)

kinds_long : (cs : List Condition) → length (kinds_of cs) ≡ length cs
unfolding kinds_of
kinds_long [] = refl
kinds_long (c ∷ cs) = ap suc (kinds_long cs)

module _ (file : List ℕ) where
  pub table_refused : (why : Refusal) → scan_reply file ≡ Err why → Tables (table_reply file) (net_of (lines_of file)) (Err why)
  unfolding table_reply
  table_refused why e = record { reply = rw e; table = λ table k. cc }

  module _ (accepted : scan_reply file ≡ Ok tt) {directions q a w : List ℤ} {kinds : List Kind} {m next : ℕ} (d : Directed file directions q m next) {answer : Result ℕ Refusal}
      (f : Forms (take m directions) (take m q) (net_from file next).conditions answer a w kinds) where
    abbrev net : Net
    net = net_from file 0

    -- what the lists give is what the net gives
    to_net : {A : Type 0} (of : List ℤ → List ℤ → List Condition → A) → of (take m directions) (take m q) (net_from file next).conditions ≡ of net.directions net.q net.conditions
    to_net of =
        ap (λ (xs : List ℤ). of xs (take m q) (net_from file next).conditions) d.directions_are
        ∙ ap (λ (xs : List ℤ). of net.directions xs (net_from file next).conditions) d.q_are
        ∙ ap (of net.directions net.q) d.conditions

    replied : figure_reply answer ≡ table_reply file
    unfolding table_reply net_from
    replied =
        ap figure_reply f.count
        ∙ figure_replied (formed_reply (take m directions) (take m q) 1 (net_from file next).conditions) (length (net_from file next).conditions)
        ∙ to_net (λ ds gs cs. formed_reply ds gs 1 cs)
        ∙ rw accepted

    module _ {n : ℕ} (formed : answer ≡ Ok n) where
      counted : n ≡ length (net_from file next).conditions
      counted = (figure_given (formed_reply (take m directions) (take m q) 1 (net_from file next).conditions) (length (net_from file next).conditions) (sym f.count ∙ formed)).1

      pub n_most : n ≤ 24
      unfolding net_from
      n_most = omega (arith, counted, ap length d.conditions, (scan_bounds file accepted).n)

      -- a misclosure and a kind for each condition
      pub each_long : (length (take n w) ≡ n) × (length (take n kinds) ≡ n)
      each_long =
          let ok : IsOk answer = rw formed refl in let cs = (net_from file next).conditions in (
            ap (λ (k : ℕ). length (take k w)) counted ∙ ap length (f.misclosures ok) ∙ misclosures_long (take m directions) (take m q) cs ∙ sym counted,
            ap (λ (k : ℕ). length (take k kinds)) counted ∙ ap length (f.kinds_are ok) ∙ kinds_long cs ∙ sym counted,
          )

      pub rows_most : n * m ≤ 1536
      rows_most = mul-le-mul {n₁ = n} {m₁ = m} {n₂ = 24} {m₂ = 64} n_most d.most

      module _ (table : NetTable) (directions_here : table.directions.now ≡ take m directions) (q_here : table.q.now ≡ take m q) (a_here : table.a.now ≡ take (n * m) a)
          (w_here : table.w.now ≡ take n w) (kinds_here : table.kinds.now ≡ take n kinds) where
        tabled : Tabled (net_of (lines_of file)) table
        unfolding net_from
        tabled =
            let ok : IsOk answer = rw formed refl in record {
              directions_are = directions_here ∙ d.directions_are;
              q_are = q_here ∙ d.q_are;
              rows_are = a_here ∙ ap (λ (k : ℕ). take (k * m) a) counted
                  ∙ ap (λ (k : ℕ). take (length (net_from file next).conditions * k) a) (sym (directions_long d)) ∙ f.rows ok ∙ to_net rows_of;
              misclosures_are = w_here ∙ ap (λ (k : ℕ). take k w) counted ∙ f.misclosures ok ∙ to_net misclosures_of;
              kinds_are = kinds_here ∙ ap (λ (k : ℕ). take k kinds) counted ∙ f.kinds_are ok ∙ ap kinds_of d.conditions;
            }

        pub table_formed : Tables (table_reply file) (net_of (lines_of file)) (Ok table)
        table_formed = record { reply = ap figure_reply (sym formed) ∙ replied; table = λ other e. subst (Tabled (net_of (lines_of file))) (cc) tabled }

    pub table_failed : {why : Refusal} → answer ≡ Err why → Tables (table_reply file) (net_of (lines_of file)) (Err why)
    table_failed e = record { reply = ap figure_reply (sym e) ∙ replied; table = λ table k. cc }

-- ---- two answers that keep the promise are equal: the replies, and the tables of an accepted file
pub one_table : {rule : Reply} {net : Net} {t s : Result NetTable Refusal} → Tables rule net t → Tables rule net s
    → (figure_reply t ≡ figure_reply s) × ((x y : NetTable) → t ≡ Ok x → s ≡ Ok y
    → (x.directions.now ≡ y.directions.now) × (x.q.now ≡ y.q.now) × (x.a.now ≡ y.a.now) × (x.w.now ≡ y.w.now) × (x.kinds.now ≡ y.kinds.now))
one_table x y = (
  only x.reply y.reply,
  λ i j e f. let k = x.table i e in let l = y.table j f in (
    only k.directions_are l.directions_are,
    only k.q_are l.q_are,
    only k.rows_are l.rows_are,
    only k.misclosures_are l.misclosures_are,
    only k.kinds_are l.kinds_are,
  ),
)
