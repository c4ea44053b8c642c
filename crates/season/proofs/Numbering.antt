-- A net is refused under a number from 1 to 9, so that each refusal has its place among the totals. Assumes nothing.
--   Few                                  an acceptance, or a refusal with a number of at most 9
--   few_accepted, few_if, few_first, few_then      of one check, of a check of n things, and of one check after another
--   few_refused                          the number of such a refusal
--   few_line, few_scanned                refusals 1 to 3, by line
--   few_formed                           refusals 4 and 5, by condition
--   few_adjust                           2 to 9: a condition table
--   few_file, few_numbers                a whole file
use mathlib.Core.Path.{◌≡◌, subst}
use mathlib.Core.Bool.{Bool, true, false, cond, not, ◌||◌}
use mathlib.Core.List.{List, [], ◌∷◌}
use Prim.Native.Nat.{ℕ, suc, ◌+◌, ◌-◌, ◌≤◌}
use native.Mathlib.Omega.{arith}
use lib.Dec.{ltb, leb}
use lib.IntN.{ℤ, pos, nat_abs}
use lib.ListN.{length}
use Rattle.exact.specs.First.{first, some_below}
use Rattle.reply.specs.declared.Refusal.{Refusal}
use Rattle.reply.specs.declared.Refusal.TheVariants.{Malformed, Count, OutOfRange, Coefficient, Misclosure, WeakRow, Correlate, Remainder, Correction}
use Rattle.reply.specs.Reply.{Reply}
use Rattle.reply.specs.Numbers.{number_of}
use Rattle.reply.specs.Checks.{refuse_if, refuse_first, ◌and_then◌, figure_reply}
use Rattle.reply.specs.Verdicts.{verdict_of}
use Rattle.reply.proofs.Unique.{no_refusal_is_0}
use Rattle.direction.specs.Ranges.{out_of_range, fault_at, directions_reply}
use Rattle.condition.specs.Terms.{term_fault}
use Rattle.condition.specs.Rules.{target_fault, coefficients_reply, misclosure_figure}
use Rattle.doolittle.specs.Table.{Table, table_of}
use Rattle.doolittle.specs.Solution.{weak, K}
use Rattle.adjustment.specs.Corrections.{R_of, u_of}
use Rattle.adjustment.specs.Refusals.{counts_amiss, lengths_amiss, coefficient_fault, misclosure_fault, conditions_reply, rows_reply, correlates_reply, remainders_reply, past_minute, corrections_reply, solution_reply, input_reply}
use Rattle.adjustment.specs.Promise.{Answers, adjust_reply}
use Rattle.text.specs.Parts.{parted}
use Rattle.text.specs.Lines.{LF, lines_of}
use Rattle.network.specs.Records.{record_of}
use Rattle.network.specs.Scan.{none, belongs, out_of_turn, one_too_many, direction_reply, angles_reply, sides_reply, term_reply, line_reply, counted, end_fault, end_reply, if_last, scanned, scan_reply}
use Rattle.network.specs.Net.{Condition, Net, net_of, refused_as, lent_of, condition_reply, formed_reply}
use Rattle.network.specs.declared.record.Record.{Record}
use Rattle.network.specs.declared.record.Record.TheVariants.{Direction, Angles, Sides, Term}
use Rattle.network.specs.declared.scan.Counts.{Counts}
use Rattle.listing.specs.File.{net_reply, file_reply}
use Rattle.std.specs.Prelude.{Ok, Err, Option, None, Some}

pub record Few (r : Reply) : Type 0 where
  pub number : (verdict_of r).number ≤ 9

-- ---- the checks and their order
pub few_accepted : Few (Ok tt)
few_accepted = record { number = omega arith }

pub few_if : (fault : Bool) (why : Refusal) → number_of why ≤ 9 → Few (refuse_if fault why)
few_if true why l = record { number = l }
few_if false why l = few_accepted

pub few_first : (n : ℕ) (fault : ℕ → Bool) (why : ℕ → Refusal) → ((i : ℕ) → number_of (why i) ≤ 9) → Few (refuse_first n fault why)
few_first n fault why l = few_if (some_below n fault) (why (first n fault)) (l (first n fault))

pub few_then : {r s : Reply} → Few r → Few s → Few (r and_then s)
few_then {r = Ok tt} a b = b
few_then {r = Err why} a b = a

pub few_refused : {r : Reply} {why : Refusal} → Few r → r ≡ Err why → number_of why ≤ 9
few_refused f e = subst (λ (x : Reply). (verdict_of x).number ≤ 9) e f.number

-- ---- 1 to 3, by line
malformed : (fault : Bool) (place : ℕ) → Few (refuse_if fault (Malformed place))
malformed fault place = few_if fault (Malformed place) (omega arith)

miscounted : (fault : Bool) (place : ℕ) → Few (refuse_if fault (Count place))
miscounted fault place = few_if fault (Count place) (omega arith)

ranging : (fault : Bool) (place : ℕ) → Few (refuse_if fault (OutOfRange place))
ranging fault place = few_if fault (OutOfRange place) (omega arith)

few_line : (place : ℕ) (c : Counts) (said : Option Record) → Few (line_reply place c said)
unfolding line_reply direction_reply angles_reply sides_reply term_reply
few_line place c (Some (Direction number direction q)) =
    few_then (malformed (ltb 0 c.n) place) (few_then (miscounted (out_of_turn c.m number) place) (ranging (out_of_range direction q) place))
few_line place c (Some (Angles target)) = few_then (miscounted (one_too_many c.n c.terms) place) (ranging (target_fault target) place)
few_line place c (Some Sides) = miscounted (one_too_many c.n c.terms) place
few_line place c (Some (Term letter value d i k)) =
    few_then (malformed (not (belongs c.heading letter)) place)
    (few_then (miscounted (leb 12 c.terms) place) (ranging (term_fault (pos c.m) letter value d i k) place))
few_line place c None = record { number = omega arith }

few_last : (parts : List (List ℕ)) {end more : Reply} → Few end → Few more → Few (if_last parts end more)
few_last [] e m = e
few_last (part ∷ parts) e m = m

few_scanned : (place : ℕ) (c : Counts) (parts : List (List ℕ)) → Few (scanned place c parts)
unfolding scanned end_reply
few_scanned place c [] = few_accepted
few_scanned place c (part ∷ parts) =
    few_last parts (few_then (malformed (ltb 0 (length part)) place) (miscounted (end_fault c) 0))
    (few_then (few_line place c (record_of part)) (few_scanned (suc place) (counted c (record_of part)) parts))

few_scan : (file : List ℕ) → Few (scan_reply file)
unfolding scan_reply
few_scan file = few_then (miscounted (ltb 65535 (length file)) 0) (few_scanned 1 none (parted LF ([] ∷ []) file))

-- ---- 4 and 5, by condition
few_as : (why : Refusal) (r : Reply) → number_of why ≤ 9 → Few (refused_as why r)
unfolding refused_as
few_as why (Ok _) l = few_accepted
few_as why (Err other) l = record { number = l }

few_formed : (directions q : List ℤ) (j : ℕ) (cs : List Condition) → Few (formed_reply directions q j cs)
unfolding formed_reply condition_reply
few_formed directions q j [] = few_accepted
few_formed directions q j (c ∷ cs) =
    let l = lent_of directions q c in
    few_then
    (few_then (few_as (Coefficient j) (coefficients_reply l (length directions)) (omega arith)) (few_as (Misclosure j) (figure_reply (misclosure_figure l)) (omega arith)))
    (few_formed directions q (suc j) cs)

-- ---- 2 to 9: a condition table
few_of : (b : Bool) (x y : Refusal) → number_of x ≤ 9 → number_of y ≤ 9 → number_of (cond b x y) ≤ 9
few_of true x y l m = l
few_of false x y l m = m

few_solution : (t : Table) → Few (solution_reply t)
unfolding solution_reply rows_reply correlates_reply remainders_reply corrections_reply
few_solution t =
    few_then (few_first t.n (weak t) (λ j. WeakRow (j + 1)) (λ j. omega arith))
    (few_then (few_first t.n (λ b. ltb 100000000 (nat_abs (K t (t.n - suc b)))) (λ b. Correlate (t.n - b)) (λ j. omega arith))
    (few_then (few_first t.n (λ j. ltb 50000000 (nat_abs (R_of t (K t) j))) (λ j. Remainder (j + 1)) (λ j. omega arith))
    (few_first t.m (λ i. past_minute (u_of t (K t) i)) (λ i. Correction (i + 1)) (λ j. omega arith))))

module _ (ds qs cs ws : List ℤ) where
  abbrev t : Table
  t = table_of qs cs ws

  few_input : (v u adjusted k r Q : ℕ) → Few (input_reply ds qs cs ws v u adjusted k r Q)
  unfolding input_reply directions_reply conditions_reply
  few_input v u adjusted k r Q =
      few_then (miscounted (counts_amiss (length ds) (length ws)) 0)
      (few_then (miscounted (lengths_amiss (length ds) (length ws) (length qs) (length cs) v u adjusted k r Q) 0)
      (few_then (few_first (length ds) (fault_at ds qs) (λ i. OutOfRange (i + 1)) (λ i. omega arith))
      (few_first t.n (λ j. coefficient_fault t j || misclosure_fault t j) (λ j. cond (coefficient_fault t j) (Coefficient (j + 1)) (Misclosure (j + 1)))
      (λ j. few_of (coefficient_fault t j) (Coefficient (j + 1)) (Misclosure (j + 1)) (omega arith) (omega arith)))))

  pub few_adjust : (lent : Answers) → Few (adjust_reply ds qs cs ws lent)
  unfolding adjust_reply
  few_adjust lent = few_then (few_input _ _ _ _ _ _) (few_solution t)

-- ---- a whole file
few_net : (net : Net) → Few (net_reply net)
unfolding net_reply
few_net net = few_then (few_formed net.directions net.q 1 net.conditions) (few_adjust net.directions net.q _ _ _)

pub few_file : (file : List ℕ) → Few (file_reply file)
unfolding file_reply
few_file file = few_then (few_scan file) (few_net (net_of (lines_of file)))

pub few_numbers : (file : List ℕ) (why : Refusal) → file_reply file ≡ Err why → (1 ≤ number_of why) × (number_of why ≤ 9)
few_numbers file why e = (omega (arith, no_refusal_is_0 why), few_refused (few_file file) e)
