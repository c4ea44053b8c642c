-- Laws of the conditions in their order: 4 and 5 of one of them, its row, its misclosure and its kind, and those of all. Assumes nothing.
--   row_refused, closed                              what the two operations on its terms say of condition j
--   row_is, row_length                               the row of a condition that is accepted, whatever stood there before
--   part_length                                      the part of a list that a row takes
--   heading_here                                     the condition that a C line begins
--   closes, closing_stops, row_asked                 one condition, from its gathered terms
--   one_more, all_taken                              a list with one entry for each condition, as misclosures and kinds are: after one more, and after the last
--   FormedTo                                         what has been formed and what the conditions left give are all there is
--   same_left                                        the same conditions left
--   formed_none, terms_fit, form_turn, form_room     before the first; what one more needs
--   form_refused, form_more, row_put, form_end       after one that is refused, or accepted, and after the last
--   Formed; ended, terms_stand, one_more_fits, room, stopped, onto   the same along the walk over the file's lines
use mathlib.Core.Path.{◌≡◌, refl, sym, ◌∙◌, ap, subst}
use mathlib.Core.List.{List, [], ◌∷◌, ◌++◌, append_assoc}
use Prim.Native.Nat.{ℕ, suc, ◌+◌, ◌-◌, ◌*◌, ◌<◌, ◌≤◌}
use native.Mathlib.Nat.{mul-le-mul, suc-mul, zero-mul}
use native.Mathlib.Numerals.{add-one}
use native.Mathlib.Omega.{arith}
use borrow.Author.Rules.{rules}
use borrow.Rule.Slice.PartMut.{put_mid, post_of}
use lib.IntN.{ℤ}
use lib.ListN.{length, take, drop, set, length-set, length-append, length-drop}
use lib.Seq.{take_at, length-take-le}
use Rattle.exact.proofs.Filling.{tabulate_length}
use Rattle.reply.specs.declared.Refusal.{Refusal}
use Rattle.reply.specs.declared.Refusal.TheVariants.{Coefficient, Misclosure}
use Rattle.reply.specs.Reply.{Reply, Figure}
use Rattle.reply.specs.Checks.{figure_of, figure_reply, figure_value, leaves, ◌and_then◌}
use Rattle.reply.proofs.Checking.{never, both_accepted, figure_given, figure_refused}
use Rattle.condition.specs.declared.Kind.{Kind}
use Rattle.condition.specs.Rules.{coefficients_reply, coefficients_list, misclosure_figure}
use Rattle.network.specs.Net.{Condition, Net, headed, line_before, net_from}
use Rattle.network.specs.Net.{refused_as, zeros, lent_of, condition_reply, formed_reply, row_of, misclosure_of, rows_of, misclosures_of, kinds_of}
use Rattle.network.specs.Turns.{turn_at}
use Rattle.network.specs.Gathered.{Body, Opened, begins, heading_in, condition_at, terms_in, Gathers, Closes, Fit, Forms}
use Rattle.network.specs.declared.conditions.Heading.{Heading}
use Rattle.network.specs.declared.record.Record.{Record}
use Rattle.network.specs.declared.record.Turn.{Turn}
use Rattle.network.specs.declared.terms.Terms.{Terms}
use Rattle.network.specs.declared.record.Record.TheVariants.{Direction, Angles, Sides, Term}
use Rattle.network.proofs.Walking.{Walked, headed_line, opened_rest, no_heading, taken_more, taken_all}
use Rattle.text.specs.Lines.{lines_of}
use Rattle.std.specs.Prelude.{Ok, Err, Option, Some, None}
use Rattle.std.specs.Result.{result_or}

-- a refusal, replaced by another
other_refusal : (why : Refusal) (r : Reply) → result_or r (Err why) ≡ refused_as why r
unfolding refused_as
other_refusal why (Ok _) = refl
other_refusal why (Err other) = refl

other_figure : (why : Refusal) (f : Figure) → result_or f (Err why) ≡ figure_of (refused_as why (figure_reply f)) (figure_value f)
unfolding refused_as figure_value
other_figure why (Ok w) = refl
other_figure why (Err other) = refl

module _ (directions q : List ℤ) (j : ℕ) (c : Condition) {row : Reply} (e : row ≡ coefficients_reply (lent_of directions q c) (length directions)) where
  abbrev four : Reply
  four = refused_as (Coefficient j) (coefficients_reply (lent_of directions q c) (length directions))

  row_replied : result_or row (Err (Coefficient j)) ≡ four
  row_replied = rw e (other_refusal (Coefficient j) (coefficients_reply (lent_of directions q c) (length directions)))

  pub row_refused : {why : Refusal} → result_or row (Err (Coefficient j)) ≡ Err why → Err why ≡ figure_of (condition_reply directions q j c) (misclosure_of directions q c)
  unfolding condition_reply
  row_refused {why} z = let r : four ≡ Err why = sym row_replied ∙ z in rw r

  pub closed : result_or row (Err (Coefficient j)) ≡ Ok tt → {figure : Figure} → figure ≡ misclosure_figure (lent_of directions q c)
      → result_or figure (Err (Misclosure j)) ≡ figure_of (condition_reply directions q j c) (misclosure_of directions q c)
  unfolding condition_reply misclosure_of
  closed z f = let r : four ≡ Ok tt = sym row_replied ∙ z in rw (r, f) (other_figure (Misclosure j) (misclosure_figure (lent_of directions q c)))

module _ (directions q : List ℤ) (c : Condition) where
  kept_accepted : (why : Refusal) (r : Reply) → refused_as why r ≡ Ok tt → r ≡ Ok tt
  unfolding refused_as
  kept_accepted why (Ok _) e = refl
  kept_accepted why (Err other) e = never why e

  module _ (j : ℕ) (e : condition_reply directions q j c ≡ Ok tt) where
    row_accepted : coefficients_reply (lent_of directions q c) (length directions) ≡ Ok tt
    unfolding condition_reply
    row_accepted = kept_accepted (Coefficient j) (coefficients_reply (lent_of directions q c) (length directions)) (both_accepted _ _ e).0

    pub row_is : (old : List ℤ) → length old ≡ length directions → coefficients_list (lent_of directions q c) old ≡ row_of directions q c
    unfolding row_of coefficients_list zeros
    row_is old l = rw (l, tabulate_length (length directions), row_accepted)

  -- as long as what stood there before, whatever the reply
  left_length : (r : Reply) (row old : List ℤ) → length row ≡ length old → length (leaves r row old) ≡ length old
  left_length (Ok _) row old e = e
  left_length (Err why) row old e = refl

  pub row_length : (old : List ℤ) → length old ≡ length directions → length (coefficients_list (lent_of directions q c) old) ≡ length old
  unfolding coefficients_list lent_of
  row_length old l = left_length (coefficients_reply (lent_of directions q c) (length old)) _ old (tabulate_length (length directions) _ ∙ sym l)

-- the part of a list that a row takes has the row's length
pub part_length : (at m : ℕ) (a : List ℤ) → at + m ≤ 1536 → length a ≡ 1536 → length (take (at + m - at) (drop at a)) ≡ m
part_length at m a l e = length-take-le (at + m - at) (drop at a) (omega (arith, l, e, length-drop at a)) ∙ omega arith

-- ---- a C line
begun : (net : Net) {here heading : Heading} → Some here ≡ Some heading
    → headed here.kind here.target net.pending ∷ net.conditions ≡ headed heading.kind heading.target net.pending ∷ net.conditions
begun net {here} {heading} e =
    let same : here ≡ heading = cc in ap (λ (h : Heading). headed h.kind h.target net.pending ∷ net.conditions) same

pub heading_here : (said : Record) (net : Net) (heading : Heading) → begins said heading.next ≡ Some heading
    → (line_before (Some said) net).conditions ≡ headed heading.kind heading.target net.pending ∷ net.conditions
unfolding line_before begins
heading_here (Direction number direction q) net heading e = cc
heading_here (Angles x) net heading e = begun net e
heading_here Sides net heading e = begun net e
heading_here (Term letter value d i k) net heading e = cc

-- ---- a list with one entry for each condition, in their order: the first n of xs, and those of the conditions left, are all
module _ {A : Type 0} (of : List Condition → List A) (xs : List A) (n : ℕ) {all : List A} {left : List Condition} (so_far : take n xs ++ of left ≡ all) where
  one_more : {c : Condition} {rest : List Condition} → left ≡ c ∷ rest → (x : A) → of (c ∷ rest) ≡ x ∷ of rest → n < length xs → take (n + 1) (set xs n x) ++ of rest ≡ all
  one_more {rest = rest} here x entry l =
      taken_more xs (of rest) all n x l (ap (λ (ys : List A). take n xs ++ ys) (sym (ap of here ∙ entry)) ∙ so_far)

  all_taken : left ≡ [] → of [] ≡ [] → take n xs ≡ all
  all_taken none empty = taken_all xs all n (ap (λ (ys : List A). take n xs ++ ys) (sym (ap of none ∙ empty)) ∙ so_far)

-- ---- the conditions in their order: those in the first n rows and those left are all
pub record FormedTo (all left : List Condition) (directions q a w : List ℤ) (kinds : List Kind) (at n : ℕ) : Type 0 where
  pub place : at ≡ n * length directions
  pub count : n + length left ≡ length all
  pub a_long : length a ≡ 1536
  pub w_long : length w ≡ 24
  pub kinds_long : length kinds ≡ 24
  pub fit : Fit left
  pub reply : formed_reply directions q (n + 1) left ≡ formed_reply directions q 1 all
  pub rows : take at a ++ rows_of directions q left ≡ rows_of directions q all
  pub closings : take n w ++ misclosures_of directions q left ≡ misclosures_of directions q all
  pub kinds_are : take n kinds ++ kinds_of left ≡ kinds_of all

pub formed_none : (all : List Condition) (directions q a w : List ℤ) (kinds : List Kind) → length a ≡ 1536 → length w ≡ 24 → length kinds ≡ 24 → Fit all
    → FormedTo all all directions q a w kinds 0 0
formed_none all directions q a w kinds l k g f = record {
  place = omega (arith, zero-mul (length directions));
  count = omega arith;
  a_long = l;
  w_long = k;
  kinds_long = g;
  fit = f;
  reply = refl;
  rows = refl;
  closings = refl;
  kinds_are = refl;
}

pub same_left : {all left others : List Condition} {directions q a w : List ℤ} {kinds : List Kind} {at n : ℕ} → others ≡ left → FormedTo all left directions q a w kinds at n
    → FormedTo all others directions q a w kinds at n
same_left {all} {directions = directions} {q} {a} {w} {kinds} {at} {n} e f = subst (λ (cs : List Condition). FormedTo all cs directions q a w kinds at n) (sym e) f

module _ {all left : List Condition} {directions q a w : List ℤ} {kinds : List Kind} {at n : ℕ} (f : FormedTo all left directions q a w kinds at n) where
  abbrev m : ℕ
  m = length directions

  -- one more, c, and others after it
  module _ {c : Condition} {rest : List Condition} (here : left ≡ c ∷ rest) where
    fits : (length c.kinds ≤ 12) × Fit rest
    unfolding Fit
    fits = subst Fit here f.fit

    pub terms_fit : length c.kinds ≤ 12
    terms_fit = fits.0

    module _ (few : length all ≤ 24) (narrow : length directions ≤ 64) where
      pub form_turn : n < 24
      form_turn = omega (arith, few, f.count, ap length here)

      pub form_room : at + m ≤ 1536
      form_room = omega (arith, f.place, suc-mul n m, mul-le-mul {n₁ = suc n} {m₁ = m} {n₂ = 24} {m₂ = 64} (omega (arith, form_turn)) narrow)

    onward : condition_reply directions q (n + 1) c and_then formed_reply directions q (n + 1 + 1) rest ≡ formed_reply directions q 1 all
    unfolding formed_reply
    onward = rw (add-one (n + 1)) (ap (formed_reply directions q (n + 1)) (sym here) ∙ f.reply)

    -- it is refused: the lists are not promised
    pub form_refused : {why : Refusal} → condition_reply directions q (n + 1) c ≡ Err why → {a' w' : List ℤ} {kinds' : List Kind}
        → Forms directions q all (Err why) a' w' kinds'
    form_refused {why} z =
        let refused : formed_reply directions q 1 all ≡ Err why = sym onward ∙ ap (λ (r : Reply). r and_then formed_reply directions q (n + 1 + 1) rest) z in
        record { count = rw refused; rows = λ k. absurd (search rules); misclosures = λ k. absurd (search rules); kinds_are = λ k. absurd (search rules) }

    -- what stands in the row after it, and after the row is put back into its place
    module _ (few : length all ≤ 24) (narrow : length directions ≤ 64)
        (row old : List ℤ) (k : ℕ) (h : row ≡ coefficients_list (lent_of directions q c) old) (l : length old ≡ length directions) (wide : k ≡ length directions) where
      row_long : length row ≡ length directions
      row_long = ap length h ∙ row_length directions q c old l ∙ l

      at_most : at ≤ length a
      at_most = omega (arith, f.a_long, form_room few narrow)

      pub row_put : length (put_mid at k a row) ≡ length a
      row_put =
          omega (
            arith,
            f.a_long,
            form_room few narrow,
            row_long,
            wide,
            length-append (take at a) (row ++ post_of at k a),
            length-append row (post_of at k a),
            length-take-le at a at_most,
            length-drop k (drop at a),
            length-drop at a,
          )

      module _ (accepted : condition_reply directions q (n + 1) c ≡ Ok tt) where
        row_here : row ≡ row_of directions q c
        row_here = h ∙ row_is directions q c (n + 1) accepted old l

        head_long : length (take at a ++ row) ≡ at + m
        head_long = omega (arith, length-append (take at a) row, length-take-le at a at_most, row_long)

        rows_here : take (at + m) (put_mid at k a row) ++ rows_of directions q rest ≡ rows_of directions q all
        unfolding rows_of
        rows_here =
            ap (λ (xs : List ℤ). take (at + m) xs ++ rows_of directions q rest) (sym (append_assoc (take at a) row (post_of at k a)))
            ∙ ap (λ (xs : List ℤ). xs ++ rows_of directions q rest) (take_at (take at a ++ row) (post_of at k a) (at + m) head_long)
            ∙ append_assoc (take at a) row (rows_of directions q rest)
            ∙ ap (λ (r : List ℤ). take at a ++ (r ++ rows_of directions q rest)) row_here
            ∙ ap (λ (cs : List Condition). take at a ++ rows_of directions q cs) (sym here)
            ∙ f.rows

        pub form_more : (y : ℤ) (kind : Kind) → y ≡ misclosure_of directions q c → kind ≡ c.kind → FormedTo all rest directions q (put_mid at k a row) (set w n y) (set kinds n kind) (at + m) (n + 1)
        unfolding misclosures_of kinds_of
        form_more y kind same of_kind = record {
          place = omega (arith, f.place, add-one n, suc-mul n m, ap (λ (j : ℕ). j * m) (add-one n));
          count = omega (arith, f.count, ap length here);
          a_long = row_put ∙ f.a_long;
          w_long = length-set w n y ∙ f.w_long;
          kinds_long = length-set kinds n kind ∙ f.kinds_long;
          fit = fits.1;
          reply = ap (λ (r : Reply). r and_then formed_reply directions q (n + 1 + 1) rest) (sym accepted) ∙ onward;
          rows = rows_here;
          closings = one_more (misclosures_of directions q) w n f.closings here y
              (ap (λ (v : ℤ). v ∷ misclosures_of directions q rest) (sym same)) (omega (arith, form_turn few narrow, f.w_long));
          kinds_are = one_more kinds_of kinds n f.kinds_are here kind
              (ap (λ (v : Kind). v ∷ kinds_of rest) (sym of_kind)) (omega (arith, form_turn few narrow, f.kinds_long));
        }

  -- none is left
  module _ (none : left ≡ []) where
    all_counted : n ≡ length all
    all_counted = omega (arith, f.count, ap length none)

    end_rows : take (n * length directions) a ≡ rows_of directions q all
    unfolding rows_of
    end_rows =
        ap (λ (k : ℕ). take k a) (sym f.place)
        ∙ taken_all a (rows_of directions q all) at (ap (λ (cs : List Condition). take at a ++ rows_of directions q cs) (sym none) ∙ f.rows)

    pub form_end : Forms directions q all (Ok n) a w kinds
    unfolding formed_reply misclosures_of kinds_of
    form_end = record {
      count = ap Ok all_counted ∙ ap (λ (r : Reply). figure_of r (length all)) (ap (formed_reply directions q (n + 1)) (sym none) ∙ f.reply);
      rows = λ e. ap (λ (k : ℕ). take (k * length directions) a) (sym all_counted) ∙ end_rows;
      misclosures = λ e. ap (λ (k : ℕ). take k w) (sym all_counted) ∙ all_taken (misclosures_of directions q) w n f.closings none refl;
      kinds_are = λ e. ap (λ (k : ℕ). take k kinds) (sym all_counted) ∙ all_taken kinds_of kinds n f.kinds_are none refl;
    }

-- ---- one condition, from its gathered terms; z is the target as the machine reads it
module _ {file : List ℕ} (heading : Heading) {count next : ℕ} {t : Terms} (g : Gathers file heading.next t count next) (directions q : List ℤ) (j : ℕ)
    {z : ℤ} (same : z ≡ heading.target) where
  abbrev given : Condition
  given = headed heading.kind z (terms_in t count)

  asked : given ≡ condition_at file heading
  asked = ap (λ (x : ℤ). headed heading.kind x (terms_in t count)) same ∙ g.terms heading.kind heading.target

  pub closes : {figure : Figure} {w : ℤ} → figure ≡ figure_of (condition_reply directions q j given) (misclosure_of directions q given) → figure ≡ Ok w
      → Closes file heading.next directions q j (condition_at file heading) w next
  closes e f =
      let passed = figure_given (condition_reply directions q j given) (misclosure_of directions q given) (sym e ∙ f) in
      record {
        passed = ap (condition_reply directions q j) (sym asked) ∙ passed.0;
        misclosure = passed.1 ∙ ap (misclosure_of directions q) asked;
        conditions = g.conditions;
        opened = g.opened;
        on = g.on;
        within = g.within;
      }

  pub closing_stops : {figure : Figure} {why : Refusal} → figure ≡ figure_of (condition_reply directions q j given) (misclosure_of directions q given) → figure ≡ Err why
      → condition_reply directions q j (condition_at file heading) ≡ Err why
  closing_stops e f = ap (condition_reply directions q j) (sym asked) ∙ figure_refused (condition_reply directions q j given) (misclosure_of directions q given) (sym e ∙ f)

  pub row_asked : (old : List ℤ) → coefficients_list (lent_of directions q given) old ≡ coefficients_list (lent_of directions q (condition_at file heading)) old
  row_asked old = ap (λ (c : Condition). coefficients_list (lent_of directions q c) old) asked

-- ---- the walk: what has been formed, and the line that comes next, which has been read
pub record Formed (file : List ℕ) (first : ℕ) (directions q a w : List ℤ) (kinds : List Kind) (start : ℕ) (turn : Option Turn) (at n : ℕ) : Type 0 where
  pub so_far : FormedTo (net_from file first).conditions (net_from file start).conditions directions q a w kinds at n
  pub within : start ≤ length file
  pub opened : Opened (lines_of (drop start file))
  pub stands : turn ≡ turn_at file start

module _ {file : List ℕ} {first : ℕ} {directions q a w : List ℤ} {kinds : List Kind} {start : ℕ} {turn : Option Turn} {at n : ℕ}
    (f : Formed file first directions q a w kinds start turn at n) where
  pub ended : heading_in turn ≡ None → Forms directions q (net_from file first).conditions (Ok n) a w kinds
  ended e = form_end f.so_far (no_heading file start (ap heading_in (sym f.stands) ∙ e) f.opened)

  -- a C line
  module _ {heading : Heading} (told : heading_in turn ≡ Some heading) where
    abbrev next : ℕ
    next = heading.next

    abbrev pub said : Record
    said = (headed_line heading turn f.stands told).0

    begun_here : begins said next ≡ Some heading
    begun_here = (headed_line heading turn f.stands told).1

    pub line : Walked file start said next
    line = (headed_line heading turn f.stands told).2

    abbrev condition : Condition
    condition = condition_at file heading

    here : (net_from file start).conditions ≡ condition ∷ (net_from file next).conditions
    here = ap (λ (net : Net). net.conditions) line.net ∙ heading_here said (net_from file next) heading begun_here

    pub terms_stand : (next ≤ length file) × (length (net_from file next).pending.kinds ≤ 12) × Body (lines_of (drop next file))
    terms_stand = (line.within, terms_fit f.so_far here, opened_rest heading line begun_here f.opened)

    module _ (few : length (net_from file first).conditions ≤ 24) (narrow : length directions ≤ 64) where
      pub one_more_fits : n < 24
      one_more_fits = form_turn f.so_far here few narrow

      pub room : at + length directions ≤ 1536
      room = form_room f.so_far here few narrow

      pub stopped : {why : Refusal} → condition_reply directions q (n + 1) condition ≡ Err why → {a' w' : List ℤ} {kinds' : List Kind}
          → Forms directions q (net_from file first).conditions (Err why) a' w' kinds'
      stopped e = form_refused f.so_far here e

      pub onto : {row : List ℤ} {at' : ℕ} {turn' : Option Turn} {y x : ℤ} {kind : Kind}
          → row ≡ coefficients_list (lent_of directions q condition) (take (at + length directions - at) (drop at a)) → Closes file next directions q (n + 1) condition x at'
          → turn' ≡ turn_at file at' → y ≡ x → kind ≡ heading.kind
          → Formed file first directions q (put_mid at (at + length directions - at) a row) (set w n y) (set kinds n kind) at' turn' (at + length directions) (n + 1)
      onto {row} {y = y} {kind = kind} listed closes stands read same = record {
        so_far = same_left closes.conditions
            (form_more f.so_far here few narrow row (take (at + length directions - at) (drop at a)) (at + length directions - at) listed
            (part_length at (length directions) a room f.so_far.a_long) (omega arith) closes.passed y kind (read ∙ closes.misclosure) same);
        within = closes.within;
        opened = closes.opened;
        stands = stands;
      }
