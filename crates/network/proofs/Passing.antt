-- What a scan has accepted passes all checks that `condition` makes before 4 and 5. Assumes nothing.
--   Good, good_none, good_more            the terms of a condition under a heading, in a net of m directions
--   Directions, directions_more           directions with their q, all in range
--   AllGood                               every condition with its terms
--   Passed, scan_passed                   what is still to come, wherever the scan stands
--   scan_checks                           the checks on every condition of the file accept
--   four_and_five                         so 4 is a coefficient beyond 2,000 and 5 a misclosure beyond its range, and nothing else
use mathlib.Core.Path.{◌≡◌, refl, sym, ap, ap₂, subst}
use mathlib.Core.Bool.{Bool, true, false, not, ◌||◌, ◌&&◌}
use mathlib.Core.Logic.{◌⊎◌, inl, inr, ⊎_elim}
use mathlib.Core.List.{List, [], ◌∷◌}
use Prim.Native.Nat.{ℕ, zero, suc, ◌+◌, ◌<◌, ◌≤◌}
use native.Mathlib.Omega.{arith}
use borrow.Author.Tests.{ltb-false, lt-ltb, le-ltb, eq-eqb, eqb-true, eqb-false, not-false}
use lib.Dec.{eqb, ltb, leb}
use lib.IntN.{ℤ, pos, nat_abs}
use lib.ListN.{length, get_or}
use Rattle.std.proofs.lemmas.Bool.{or_parts}
use Rattle.exact.specs.Same.{same}
use Rattle.reply.specs.declared.Refusal.TheVariants.{Malformed, Count, OutOfRange, Coefficient, Misclosure}
use Rattle.reply.specs.Checks.{refuse_if, ◌and_then◌, figure_of, figure_reply}
use Rattle.reply.proofs.Checking.{never, both_accepted, if_accepted, refuse_none, turn_all}
use Rattle.direction.specs.Ranges.{out_of_range, fault_at, directions_reply}
use Rattle.condition.specs.declared.Kind.{Kind}
use Rattle.condition.specs.declared.Kind.TheVariants.{Angle, Side}
use Rattle.condition.specs.declared.term.Term.{Term}
use Rattle.condition.specs.Terms.{letter_of, suits, fault, term_fault}
use Rattle.condition.specs.Rules.{term_at, directions_miscounted, terms_miscounted, counts_fault, target_fault, target_check, term_check, terms_check, checks, beyond, coefficients_reply, misclosure, misclosure_figure, Lent}
use Rattle.text.specs.Lines.{LF, lines_of}
use Rattle.text.specs.Parts.{parted}
use Rattle.network.specs.Records.{letter_P, letter_F, letter_L, letter_R, record_of}
use Rattle.network.specs.Scan.{none, belongs, out_of_turn, one_too_many, direction_reply, angles_reply, sides_reply, term_reply, line_reply, counted, end_fault, end_reply, scanned, scan_reply}
use Rattle.network.specs.Net.{Condition, Net, no_terms, headed, with_term, line_before, net_of, net_from, lent_of, refused_as, condition_reply}
use Rattle.network.specs.declared.record.Record.{Record}
use Rattle.network.specs.declared.record.Record.TheVariants.{Direction, Angles, Sides, Term as TermLine}
use Rattle.network.specs.declared.scan.Counts.{Counts}
use Rattle.network.proofs.Bounding.{unless_none, whole, some_part, whole_lines, scan_bounds}
use Rattle.network.specs.Gathered.{Fit}
use Rattle.std.specs.Prelude.{Ok, Option, Some, None}

-- ---- the terms of one condition
abbrev term_of : Condition → ℕ → Term
term_of c = term_at c.kinds c.values c.d c.i c.k

pub record Good (m : ℕ) (kind : Kind) (c : Condition) : Type 0 where
  pub values : length c.values ≡ length c.kinds
  pub d : length c.d ≡ length c.kinds
  pub i : length c.i ≡ length c.kinds
  pub k : length c.k ≡ length c.kinds
  pub kinds : (j : ℕ) → j < length c.kinds → suits kind (term_of c j).letter ≡ true
  pub ranges : (j : ℕ) → j < length c.kinds → fault (pos m) (term_of c j) ≡ false

good_none : (m : ℕ) (kind : Kind) → Good m kind no_terms
good_none m kind = record { values = refl; d = refl; i = refl; k = refl; kinds = λ j l. absurd (omega arith); ranges = λ j l. absurd (omega arith) }

good_more : (m : ℕ) (kind : Kind) (c : Condition) (letter : ℕ) (value d i k : ℤ) → suits kind (letter_of (pos letter)) ≡ true → term_fault (pos m) letter value d i k ≡ false
    → Good m kind c → Good m kind (with_term letter value d i k c)
unfolding term_fault
good_more m kind c letter value d i k s f g =
    record { values = ap suc g.values; d = ap suc g.d; i = ap suc g.i; k = ap suc g.k; kinds = fitting; ranges = ranging }
  where
    fitting : (j : ℕ) → j < suc (length c.kinds) → suits kind (term_of (with_term letter value d i k c) j).letter ≡ true
    fitting zero l = s
    fitting (suc j) l = g.kinds j (omega arith)

    ranging : (j : ℕ) → j < suc (length c.kinds) → fault (pos m) (term_of (with_term letter value d i k c) j) ≡ false
    ranging zero l = f
    ranging (suc j) l = g.ranges j (omega arith)

-- a heading as a kind of condition
abbrev kind_at : Option Kind → Kind
kind_at (Some kind) = kind
kind_at None = Side

either : (a b : Bool) → (a || b) ≡ true → (a ≡ true) ⊎ (b ≡ true)
either true b e = inl refl
either false b e = inr e

-- the letter is one of two, and both suit
letters : (kind : Kind) (letter x y : ℕ) → suits kind (letter_of (pos x)) ≡ true → suits kind (letter_of (pos y)) ≡ true → (eqb letter x || eqb letter y) ≡ true
    → suits kind (letter_of (pos letter)) ≡ true
letters kind letter x y a b e =
    ⊎_elim (λ h. subst (λ (z : ℕ). suits kind (letter_of (pos z)) ≡ true) (sym (eqb-true letter x h)) a)
    (λ h. subst (λ (z : ℕ). suits kind (letter_of (pos z)) ≡ true) (sym (eqb-true letter y h)) b) (either (eqb letter x) (eqb letter y) e)

fits_kind : (heading : Option Kind) (letter : ℕ) → belongs heading letter ≡ true → suits (kind_at heading) (letter_of (pos letter)) ≡ true
unfolding belongs letter_of same
fits_kind (Some Angle) letter e = letters Angle letter letter_P letter_F refl refl e
fits_kind (Some Side) letter e = letters Side letter letter_L letter_R refl refl e
fits_kind None letter e = cc

-- under no heading nothing belongs
no_heading : (letter : ℕ) → belongs None letter ≡ true → ⊥
unfolding belongs
no_heading letter e = cc

-- ---- the directions
pub record Directions (ds q : List ℤ) : Type 0 where
  pub even : length q ≡ length ds
  pub ranges : (i : ℕ) → i < length ds → out_of_range (get_or ds i (pos 0)) (get_or q i (pos 0)) ≡ false

directions_none : Directions [] []
directions_none = record { even = refl; ranges = λ i l. absurd (omega arith) }

directions_more : (ds q : List ℤ) (x g : ℤ) → out_of_range x g ≡ false → Directions ds q → Directions (x ∷ ds) (g ∷ q)
directions_more ds q x g f r = record { even = ap suc r.even; ranges = ranging }
  where
    ranging : (i : ℕ) → i < suc (length ds) → out_of_range (get_or (x ∷ ds) i (pos 0)) (get_or (g ∷ q) i (pos 0)) ≡ false
    ranging zero l = f
    ranging (suc i) l = r.ranges i (omega arith)

-- ---- the conditions
pub record GoodCondition (m : ℕ) (c : Condition) : Type 0 where
  pub some : 1 ≤ length c.kinds
  pub target : target_check c.kind c.target ≡ Ok tt
  pub terms : Good m c.kind c

unfoldable pub AllGood : ℕ → List Condition → Type 0
AllGood m [] = Unit {0}
AllGood m (c ∷ cs) = GoodCondition m c × AllGood m cs

-- ---- what is still to come
pub record Passed (c : Counts) (net : Net) : Type 0 where
  pub directions : Directions net.directions net.q
  -- no D line comes after a C line
  pub done : 0 < c.n → length net.directions ≡ 0
  pub pending : Good (c.m + length net.directions) (kind_at c.heading) net.pending
  pub some : 0 < c.n → 1 ≤ c.terms + length net.pending.kinds
  pub conditions : AllGood (c.m + length net.directions) net.conditions
  -- the counts at the end
  pub total : (1 ≤ c.m + length net.directions) × (1 ≤ c.n + length net.conditions) × (c.n + length net.conditions ≤ c.m + length net.directions)

-- before any C line there is no heading
abbrev Coherent : Counts → Type 0
Coherent c = c.n ≡ 0 → c.heading ≡ None

at_least : (x y : ℕ) → (x ≡ 0 → ⊥) → 1 ≤ x + y
at_least zero y h = absurd (h refl)
at_least (suc x) y h = omega arith

other : (a b : Bool) → a ≡ true → (a && b) ≡ false → b ≡ false
other true b h e = e
other false b h e = cc

end_passed : (c : Counts) → end_reply c ≡ Ok tt → Passed c (net_of [])
unfolding end_reply end_fault net_of AllGood
end_passed c e =
    let f = if_accepted (eqb c.m 0 || (eqb c.n 0 || (ltb c.m c.n || eqb c.terms 0))) (Count 0) e in
    let m = or_parts (eqb c.m 0) (eqb c.n 0 || (ltb c.m c.n || eqb c.terms 0)) f in
    let n = or_parts (eqb c.n 0) (ltb c.m c.n || eqb c.terms 0) m.1 in
    let t = or_parts (ltb c.m c.n) (eqb c.terms 0) n.1 in
    record {
      directions = directions_none;
      done = λ h. refl;
      pending = good_none _ _;
      some = λ h. at_least c.terms 0 (eqb-false c.terms 0 t.1);
      conditions = tt;
      total = (at_least c.m 0 (eqb-false c.m 0 m.0), at_least c.n 0 (eqb-false c.n 0 n.0), omega (arith, ltb-false c.m c.n t.0));
    }

-- ---- one line
more_terms : (m n : ℕ) (cs : List Condition) → m ≡ n → AllGood m cs → AllGood n cs
more_terms m n cs e = subst (λ (x : ℕ). AllGood x cs) e

zero_or_more : (n : ℕ) → (n ≡ 0) ⊎ (0 < n)
zero_or_more zero = inl refl
zero_or_more (suc n) = inr (omega arith)

module _ (place : ℕ) (c : Counts) (net : Net) (coherent : Coherent c) where
  -- a C line: the condition before it, if any, has terms; the one that it begins has those that follow
  heading_passed : (kind : Kind) (target : ℤ) (heading : Option Kind) → kind_at heading ≡ kind → one_too_many c.n c.terms ≡ false → target_check kind target ≡ Ok tt
      → Passed (record { m = c.m; n = c.n + 1; terms = 0; heading = heading }) net
      → Passed c (record { directions = net.directions; q = net.q; pending = no_terms; conditions = headed kind target net.pending ∷ net.conditions })
  unfolding one_too_many AllGood
  heading_passed kind target heading e f t after = record {
    directions = after.directions;
    done = λ h. after.done (omega arith);
    pending = good_none _ _;
    some = λ h. at_least c.terms 0 (eqb-false c.terms 0 (other (ltb 0 c.n) (eqb c.terms 0) (lt-ltb 0 c.n h) (or_parts (leb 24 c.n) (ltb 0 c.n && eqb c.terms 0) f).1));
    conditions = (
      record {
        some = omega (arith, after.some (omega arith));
        target = t;
        terms = let g = subst (λ (k : Kind). Good (c.m + length net.directions) k net.pending) e after.pending in
            record { values = g.values; d = g.d; i = g.i; k = g.k; kinds = g.kinds; ranges = g.ranges };
      },
      after.conditions,
    );
    total = (after.total.0, omega (arith, after.total.1), omega (arith, after.total.2));
  }

  line_passed : (said : Option Record) → line_reply place c said ≡ Ok tt → (Coherent (counted c said) → Passed (counted c said) net) → Passed c (line_before said net)
  unfolding line_reply direction_reply angles_reply sides_reply term_reply counted line_before AllGood
  line_passed (Some (Direction number direction q)) e after =
      let first = both_accepted (refuse_if (ltb 0 c.n) (Malformed place)) (refuse_if (out_of_turn c.m number) (Count place) and_then refuse_if (out_of_range direction q) (OutOfRange place)) e in
      let none : c.n ≤ 0 = ltb-false 0 c.n (if_accepted (ltb 0 c.n) (Malformed place) first.0) in
      let range = if_accepted (out_of_range direction q) (OutOfRange place) (both_accepted (refuse_if (out_of_turn c.m number) (Count place)) (refuse_if (out_of_range direction q) (OutOfRange place)) first.1).1 in
      let r = after coherent in let count : c.m + 1 + length net.directions ≡ c.m + suc (length net.directions) = omega arith in
      record {
        directions = directions_more net.directions net.q direction q range r.directions;
        done = λ h. absurd (omega (arith, none, h));
        pending = good_none _ _;
        some = λ h. absurd (omega (arith, none, h));
        conditions = more_terms _ _ net.conditions count r.conditions;
        total = (omega arith, r.total.1, omega (arith, r.total.2));
      }
  line_passed (Some (Angles target)) e after =
      let checks = both_accepted (refuse_if (one_too_many c.n c.terms) (Count place)) (refuse_if (target_fault target) (OutOfRange place)) e in
      heading_passed Angle target (Some Angle) refl (if_accepted (one_too_many c.n c.terms) (Count place) checks.0)
      (ap (λ (b : Bool). refuse_if b (OutOfRange 0)) (if_accepted (target_fault target) (OutOfRange place) checks.1)) (after (λ h. absurd (omega arith)))
  line_passed (Some Sides) e after = heading_passed Side (pos 0) (Some Side) refl (if_accepted (one_too_many c.n c.terms) (Count place) e) refl (after (λ h. absurd (omega arith)))
  line_passed (Some (TermLine letter value d i k)) e after =
      let first = both_accepted (refuse_if (not (belongs c.heading letter)) (Malformed place)) (refuse_if (leb 12 c.terms) (Count place) and_then refuse_if (term_fault (pos c.m) letter value d i k) (OutOfRange place)) e in
      let fit = not-false (belongs c.heading letter) (if_accepted (not (belongs c.heading letter)) (Malformed place) first.0) in
      let range = if_accepted (term_fault (pos c.m) letter value d i k) (OutOfRange place) (both_accepted (refuse_if (leb 12 c.terms) (Count place)) (refuse_if (term_fault (pos c.m) letter value d i k) (OutOfRange place)) first.1).1 in
      let r = after coherent in
      let begun : 0 < c.n = ⊎_elim (λ h. absurd (no_heading letter (subst (λ (x : Option Kind). belongs x letter ≡ true) (coherent h) fit))) (λ h. h) (zero_or_more c.n) in
      let all : c.m ≡ c.m + length net.directions = omega (arith, r.done begun) in
      record {
        directions = r.directions;
        done = r.done;
        pending = good_more _ _ net.pending letter value d i k (fits_kind c.heading letter fit) (subst (λ (x : ℕ). term_fault (pos x) letter value d i k ≡ false) all range) r.pending;
        some = λ h. omega arith;
        conditions = r.conditions;
        total = r.total;
      }
  line_passed None e after = never _ e

-- ---- wherever the scan stands
scan_passed : (place : ℕ) (c : Counts) (part : List ℕ) (parts : List (List ℕ)) → Coherent c → scanned place c (part ∷ parts) ≡ Ok tt → Passed c (net_of (whole (part ∷ parts)))
unfolding scanned whole net_of
scan_passed place c part [] h e = end_passed c (both_accepted (refuse_if (ltb 0 (length part)) (Malformed place)) (end_reply c) e).1
scan_passed place c part (p ∷ parts) h e =
    let said = record_of part in let b = both_accepted (line_reply place c said) (scanned (suc place) (counted c said) (p ∷ parts)) e in
    line_passed place c (net_of (whole (p ∷ parts))) h said b.0 (λ l. scan_passed (suc place) (counted c said) p parts l b.1)

-- a file has one part at least
all_passed : (parts : List (List ℕ)) → unless_none parts ([] ∷ []) ≡ [] ∷ [] → scanned 1 none parts ≡ Ok tt → Passed none (net_of (whole parts))
all_passed [] h e = absurd (omega (arith, ap length h))
all_passed (part ∷ parts) h e = scan_passed 1 none part parts (λ z. refl) e

pub file_passed : (file : List ℕ) → scan_reply file ≡ Ok tt → Passed none (net_from file 0)
unfolding scan_reply net_from lines_of
file_passed file e =
    subst (λ (lines : List (List ℕ)). Passed none (net_of lines)) (whole_lines file)
    (all_passed (parted LF ([] ∷ []) file) (some_part file ([] ∷ [])) (both_accepted (refuse_if (ltb 65535 (length file)) (Count 0)) (scanned 1 none (parted LF ([] ∷ []) file)) e).1)

-- ---- the checks of `condition`
pub directions_pass : (ds q : List ℤ) → Directions ds q → directions_reply ds q ≡ Ok tt
unfolding directions_reply
directions_pass ds q lines = refuse_none (length ds) (fault_at ds q) (λ i. OutOfRange (i + 1)) lines.ranges

module _ (ds q : List ℤ) (c : Condition) (lines : Directions ds q) (some : 1 ≤ length ds) (few : length ds ≤ 64) (g : GoodCondition (length ds) c) (short : length c.kinds ≤ 12) where
  no_fault : counts_fault (lent_of ds q c) ≡ false
  unfolding lent_of directions_miscounted terms_miscounted
  no_fault =
      rw (
        lines.even,
        g.terms.values,
        g.terms.d,
        g.terms.i,
        g.terms.k,
        le-ltb (length ds) 1 some,
        le-ltb 64 (length ds) few,
        eq-eqb (length ds) (length ds) refl,
        le-ltb (length c.kinds) 1 g.some,
        le-ltb 12 (length c.kinds) short,
        eq-eqb (length c.kinds) (length c.kinds) refl,
      )

  terms_pass : terms_check c.kind (pos (length ds)) (length c.kinds) (term_of c) ≡ Ok tt
  unfolding terms_check
  terms_pass =
      turn_all (λ j. term_check c.kind (pos (length ds)) (j + 1) (term_of c j)) (length c.kinds)
      (λ j l. rw (g.terms.kinds j l, g.terms.ranges j l))

  checks_pass : checks (lent_of ds q c) ≡ Ok tt
  unfolding checks lent_of
  checks_pass = rw (no_fault, directions_pass ds q lines, g.target) terms_pass

-- ---- every condition of a file whose scan is accepted
unfoldable pub Checked : (ds q : List ℤ) → List Condition → Type 0
Checked ds q [] = Unit {0}
Checked ds q (c ∷ cs) = (checks (lent_of ds q c) ≡ Ok tt) × Checked ds q cs

all_checked : (ds q : List ℤ) (cs : List Condition) → Directions ds q → 1 ≤ length ds → length ds ≤ 64 → AllGood (length ds) cs → Fit cs → Checked ds q cs
unfolding AllGood Fit Checked
all_checked ds q [] d some few g f = tt
all_checked ds q (c ∷ cs) d some few g f = (checks_pass ds q c d some few g.0 f.0, all_checked ds q cs d some few g.1 f.1)

pub scan_checks : (file : List ℕ) → scan_reply file ≡ Ok tt → let net = net_from file 0 in Checked net.directions net.q net.conditions
scan_checks file e =
    let p = file_passed file e in let r = scan_bounds file e in let net = net_from file 0 in let all : 0 + length net.directions ≡ length net.directions = omega arith in
    all_checked net.directions net.q net.conditions p.directions (omega (arith, p.total.0)) (omega (arith, r.m)) (more_terms _ _ net.conditions all p.conditions) r.fit

-- ---- so 4 and 5 are what they say
module _ (ds q : List ℤ) (j : ℕ) (c : Condition) (e : checks (lent_of ds q c) ≡ Ok tt) where
  abbrev l : Lent
  l = lent_of ds q c

  four : (b : Bool) → refused_as (Coefficient j) (refuse_if b (Coefficient 1)) ≡ refuse_if b (Coefficient j)
  unfolding refused_as
  four true = refl
  four false = refl

  five : (b : Bool) (w : ℤ) → refused_as (Misclosure j) (figure_reply (figure_of (refuse_if b (Misclosure 1)) w)) ≡ refuse_if b (Misclosure j)
  unfolding refused_as
  five true w = refl
  five false w = refl

  pub four_and_five : condition_reply ds q j c ≡ refuse_if (beyond l) (Coefficient j) and_then refuse_if (ltb 1000000 (nat_abs (misclosure l))) (Misclosure j)
  unfolding condition_reply coefficients_reply misclosure_figure lent_of
  four_and_five =
      rw (e, eq-eqb (length ds) (length ds) refl)
      (ap₂ ◌and_then◌ (four (beyond l)) (five (ltb 1000000 (nat_abs (misclosure l))) (misclosure l)))
