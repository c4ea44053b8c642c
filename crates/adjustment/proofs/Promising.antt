-- The promise of `adjust`, from what its checks have said, and what `adjust_own` needs of it. Assumes nothing.
--   input                    the reply of the input checks
--   refused_input            what the input checks refuse is refused
--   refused_adjusts          a refusal that is the rule's reply, with the lists as they were lent, keeps the promise
--   accepted_adjusts         so does an accepted table whose lists are the rules' answers: what the promise says of accepted tables holds of them
--   passed_sound, passed_solved      of every table that passes the input checks: its numbers are in range, and the solution replies
--   Passed, passed_table     and all that the code needs to know of it: also the lengths of its lists
--   accepted_passed          every table that the rules accept has passed them
--   accepted_counts, accepted_weights      of every table that the rules accept: its counts and its q are in range
--   accepted_pivots          of every table that the rules accept: each pivot is above 0, and 1,000 times it is not below its entry N(j,j)
--   accepted_demand3, accepted_within_minute      of every table that the rules accept: demand 3, and no printed correction is past one minute
--   refusal_leaves_lists     a refusal that keeps the promise leaves the six lent lists as they were
--   only_reply               two replies that keep the promise are equal, and leave equal lists
--   only_own                 so are those of a caller with lists of its own, whose lists are equal where the table is accepted
use mathlib.Core.Path.{◌≡◌, refl, sym, ◌∙◌, ap, subst}
use mathlib.Core.Bool.{false}
use mathlib.Core.List.{List}
use Prim.Native.Nat.{ℕ, ◌+◌, ◌<◌}
use lib.ListN.{length}
use lib.IntN.{ℤ, pos, ◌-ℤ◌, ◌*ℤ◌}
use lib.Signed.{◌≤ℤ◌, ◌<ℤ◌}
use Rattle.exact.specs.Circle.{C}
use Rattle.exact.specs.Outside.{outside}
use Rattle.exact.proofs.Filling.{tabulate_at}
use Rattle.std.proofs.lemmas.Bool.{or_parts}
use Rattle.reply.specs.declared.Refusal.{Refusal}
use Rattle.reply.specs.declared.Refusal.TheVariants.{OutOfRange, WeakRow}
use Rattle.reply.specs.Reply.{Reply}
use Rattle.reply.specs.Checks.{◌and_then◌, leaves}
use Rattle.reply.specs.Verdicts.{verdict_of}
use Rattle.reply.proofs.Checking.{never, both_accepted, none_refused}
use Rattle.direction.specs.Ranges.{weight_out_of_range, fault_at, directions_reply}
use Rattle.doolittle.specs.Table.{Table, at, table_of}
use Rattle.doolittle.specs.Solution.{N, D, weak, K}
use Rattle.adjustment.specs.Corrections.{V_of, R_of, u_of, Q_of}
use Rattle.adjustment.specs.Refusals.{counts_amiss, rows_reply, correlates_reply, remainders_reply, corrections_reply, solution_reply, input_reply}
use Rattle.adjustment.specs.Demand.{Demand3}
use Rattle.adjustment.specs.Promise.{Answers, adjust_reply, answers_of, WithinMinute, Adjusts}
use Rattle.adjustment.specs.Inner.{AdjustsOwn, Checked}
use Rattle.doolittle.specs.Inner.{Small, Sound}
use Rattle.doolittle.proofs.Reducing.{sound_at}
use Rattle.adjustment.proofs.Admitting.{counts_right, lengths_right, in_ranges, checked}
use Rattle.adjustment.proofs.Demands.{demand_3, demand_ext}
use Rattle.adjustment.proofs.Solving.{remainders_close, corrections_small}
use Rattle.std.specs.Prelude.{Ok, Err}

-- what is known of a table that has passed its input checks, and of the six answer lists
pub record Passed (ds qs cs ws : List ℤ) (lent : Answers) : Type 0 where
  pub sound : Sound qs cs ws
  pub reply : adjust_reply ds qs cs ws lent ≡ solution_reply (table_of qs cs ws)
  pub directions : length ds ≡ length qs
  pub in_circle : Small 1296000000 ds (length qs)
  pub by_direction : (length lent.corrections ≡ length qs) × (length lent.printed ≡ length qs) × (length lent.adjusted ≡ length qs)
  pub by_condition : (length lent.correlates ≡ length ws) × (length lent.remainders ≡ length ws) × (length lent.misses ≡ length ws)

module _ (ds qs cs ws : List ℤ) (lent : Answers) where
  abbrev t : Table
  t = table_of qs cs ws

  -- the reply of the input checks
  abbrev pub input : Reply
  input = input_reply ds qs cs ws (length lent.corrections) (length lent.printed) (length lent.adjusted) (length lent.correlates) (length lent.remainders) (length lent.misses)

  pub refused_input : {why : Refusal} → input ≡ Err why → adjust_reply ds qs cs ws lent ≡ Err why
  unfolding adjust_reply
  refused_input e = rw e

  -- ---- the promise
  pub refused_adjusts : (why : Refusal) → adjust_reply ds qs cs ws lent ≡ Err why → Adjusts ds qs cs ws lent (Err why) lent
  refused_adjusts why e = record { answer = sym e; verdict = ap verdict_of (sym e); lists = refl; demand3 = never why; within_minute = never why }

  module _ (e : solution_reply t ≡ Ok tt) where
    -- 8 and 9 have found nothing
    last : (remainders_reply t (K t) ≡ Ok tt) × (corrections_reply t (K t) ≡ Ok tt)
    unfolding solution_reply
    last =
        let after-8 = remainders_reply t (K t) and_then corrections_reply t (K t) in
        let rows = both_accepted (rows_reply t) (correlates_reply t and_then after-8) e in
        let correlates = both_accepted (correlates_reply t) after-8 rows.1 in
        both_accepted (remainders_reply t (K t)) (corrections_reply t (K t)) correlates.1

    pub accepted_adjusts : Sound qs cs ws → adjust_reply ds qs cs ws lent ≡ solution_reply t → (left : Answers) → left ≡ answers_of t (K t) (at ds) → Adjusts ds qs cs ws lent (Ok tt) left
    accepted_adjusts s f left g = record { answer = sym (f ∙ e); verdict = ap verdict_of (sym (f ∙ e)); lists = g; demand3 = λ h. demand; within_minute = λ h i l. rw (u_left i l) (corrections_small t (K t) last.1 i l) }
      where
        u_left : (i : ℕ) → i < t.m → at left.printed i ≡ u_of t (K t) i
        u_left i l = ap (λ (x : Answers). at x.printed i) g ∙ tabulate_at t.m (u_of t (K t)) i (pos 0) l

        demand : Demand3 t (at left.corrections) (at left.printed) (at left.remainders) (at left.misses)
        demand =
            demand_ext t (V_of t (K t)) (at left.corrections) (u_of t (K t)) (at left.printed) (R_of t (K t)) (at left.remainders) (Q_of t (K t)) (at left.misses)
            (λ i l. sym (ap (λ (x : Answers). at x.corrections i) g ∙ tabulate_at t.m (V_of t (K t)) i (pos 0) l))
            (λ i l. sym (u_left i l))
            (λ j l. sym (ap (λ (x : Answers). at x.remainders j) g ∙ tabulate_at t.n (R_of t (K t)) j (pos 0) l))
            (λ j l. sym (ap (λ (x : Answers). at x.misses j) g ∙ tabulate_at t.n (Q_of t (K t)) j (pos 0) l))
            (demand_3 t (K t) s.q_least s.q_most (remainders_close t (K t) last.0))

  -- ---- of every table that passes the input checks, one after another
  module _ (passed : input ≡ Ok tt) where
    found : Checked ds qs cs ws (length lent.corrections) (length lent.printed) (length lent.adjusted) (length lent.correlates) (length lent.remainders) (length lent.misses)
    found = checked ds qs cs ws _ _ _ _ _ _ passed

    pub passed_sound : Sound qs cs ws
    passed_sound = found.sound

    pub passed_solved : adjust_reply ds qs cs ws lent ≡ solution_reply t
    unfolding adjust_reply
    passed_solved = rw passed

    pub passed_table : Passed ds qs cs ws lent
    passed_table = record {
      sound = found.sound;
      reply = passed_solved;
      directions = found.directions;
      in_circle = found.in_circle;
      by_direction = found.by_direction;
      by_condition = found.by_condition;
    }

  -- ---- of every table that the rules accept
  module _ (e : adjust_reply ds qs cs ws lent ≡ Ok tt) where
    both : (input ≡ Ok tt) × (solution_reply t ≡ Ok tt)
    unfolding adjust_reply
    both = both_accepted input (solution_reply t) e

    pub accepted_passed : Passed ds qs cs ws lent
    accepted_passed = passed_table both.0

    pub accepted_counts : counts_amiss t.m t.n ≡ false
    accepted_counts = subst (λ (m : ℕ). counts_amiss m (length ws) ≡ false) (sym (lengths_right ds qs cs ws _ _ _ _ _ _ both.0).of_q) (counts_right ds qs cs ws _ _ _ _ _ _ both.0)

    pub accepted_weights : (i : ℕ) → i < t.m → weight_out_of_range (t.q i) ≡ false
    unfolding directions_reply
    accepted_weights i l =
        (or_parts (outside (pos 0) (C -ℤ pos 1) (at ds i)) (weight_out_of_range (t.q i))
        (none_refused (length ds) (fault_at ds qs) (λ i. OutOfRange (i + 1)) (in_ranges ds qs cs ws _ _ _ _ _ _ both.0).0 i (subst (λ (m : ℕ). i < m) (lengths_right ds qs cs ws _ _ _ _ _ _ both.0).of_q l))).1

    pub accepted_demand3 : Demand3 t (V_of t (K t)) (u_of t (K t)) (R_of t (K t)) (Q_of t (K t))
    accepted_demand3 = let s = passed_sound both.0 in demand_3 t (K t) s.q_least s.q_most (remainders_close t (K t) (last both.1).0)

    -- no accepted sheet rests on a pivot below 1, or on one below a thousandth of its entry
    pub accepted_pivots : (j : ℕ) → j < t.n → (pos 0 <ℤ D t j j) × (N t j j ≤ℤ (pos 1000 *ℤ D t j j))
    unfolding solution_reply rows_reply
    accepted_pivots j l =
        (sound_at t j
        (none_refused t.n (weak t) (λ j. WeakRow (j + 1)) (both_accepted (rows_reply t) (correlates_reply t and_then (remainders_reply t (K t) and_then corrections_reply t (K t))) both.1).0 j l)).pivot

    pub accepted_within_minute : WithinMinute t (u_of t (K t))
    accepted_within_minute = corrections_small t (K t) (last both.1).1

  -- ---- a refusal leaves the lists alone
  pub refusal_leaves_lists : (why : Refusal) (left : Answers) → Adjusts ds qs cs ws lent (Err why) left → left ≡ lent
  refusal_leaves_lists why left a = a.lists

  -- ---- and there is only one
  pub only_reply : (r r' : Reply) (left left' : Answers) → Adjusts ds qs cs ws lent r left → Adjusts ds qs cs ws lent r' left' → (r ≡ r') × (left ≡ left')
  only_reply r r' left left' a b =
      let e : r ≡ r' = a.answer ∙ sym b.answer in
      (e, a.lists ∙ ap (λ (x : Reply). leaves x (answers_of t (K t) (at ds)) lent) e ∙ sym b.lists)

  pub only_own : (r r' : Reply) (left left' : Answers) → AdjustsOwn ds qs cs ws lent r left → AdjustsOwn ds qs cs ws lent r' left' → (r ≡ r') × (r ≡ Ok tt → left ≡ left')
  only_own r r' left left' a b = let e : r ≡ r' = a.answer ∙ sym b.answer in (e, λ f. a.lists f ∙ sym (b.lists (sym e ∙ f)))
