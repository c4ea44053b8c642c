-- Laws of the two loops that fill lists from a file's lines: what has been filled and what the lines left have are all there is. Assumes nothing.
--   ReadTo; read_none, read_room, read_more, read_all                   the directions with their q
--   Gathering; Twelve, gather_none, gather_room, gather_more, gathered   the terms of one condition
use mathlib.Core.Path.{◌≡◌, refl, sym, ◌∙◌, ap, subst}
use mathlib.Core.List.{List, ◌∷◌, ◌++◌}
use Prim.Native.Nat.{ℕ, ◌+◌, ◌<◌, ◌≤◌}
use native.Mathlib.Omega.{arith}
use lib.IntN.{ℤ, pos}
use lib.ListN.{length, take, drop, set, length-set}
use Rattle.text.specs.Lines.{lines_of}
use Rattle.condition.specs.declared.Kind.{Kind}
use Rattle.network.specs.Net.{Condition, Net, no_terms, headed, with_term, line_before, net_from}
use Rattle.network.specs.Gathered.{ByKind, Body, Opened, Led, Directed, terms_in, Gathers}
use Rattle.network.specs.declared.record.Record.{Record}
use Rattle.network.specs.declared.record.Record.TheVariants.{Direction, Term}
use Rattle.network.specs.declared.terms.Terms.{Terms}
use Rattle.std.specs.Prelude.{Option}
use Rattle.network.proofs.Walking.{Walked, body_net, opened_body, opened_pending, taken_more, taken_all, taken_long}

-- ---- the directions
pub record ReadTo (file : List ℕ) (direction q : List ℤ) (m start : ℕ) : Type 0 where
  pub within : start ≤ length file
  pub most : m ≤ 64
  pub long : length direction ≡ 64
  pub q_long : length q ≡ 64
  pub directions : take m direction ++ (net_from file start).directions ≡ (net_from file 0).directions
  pub weights : take m q ++ (net_from file start).q ≡ (net_from file 0).q
  pub conditions : (net_from file start).conditions ≡ (net_from file 0).conditions
  pub led : Led (lines_of (drop start file))

pub read_none : (file : List ℕ) (direction q : List ℤ) → length direction ≡ 64 → length q ≡ 64 → Led (lines_of file) → ReadTo file direction q 0 0
read_none file direction q l k led =
    record { within = omega arith; most = omega arith; long = l; q_long = k; directions = refl; weights = refl; conditions = refl; led = led }

module _ {file : List ℕ} {direction q : List ℤ} {m start : ℕ} (r : ReadTo file direction q m start) where
  -- a D line
  module _ {next : ℕ} {number x g : ℤ} (w : Walked file start (Direction number x g) next) where
    direction_here : (net_from file start).directions ≡ x ∷ (net_from file next).directions
    unfolding line_before
    direction_here = ap (λ (net : Net). net.directions) w.net

    q_here : (net_from file start).q ≡ g ∷ (net_from file next).q
    unfolding line_before
    q_here = ap (λ (net : Net). net.q) w.net

    same_conditions : (net_from file start).conditions ≡ (net_from file next).conditions
    unfolding line_before
    same_conditions = ap (λ (net : Net). net.conditions) w.net

    led_on : Led (lines_of (drop next file))
    unfolding Led
    led_on =
        let rest = lines_of (drop next file) in
        subst (λ (s : Option Record). ByKind s (Led rest) (Body rest) ⊥) w.says (subst Led w.lines r.led)

    pub read_room : length (net_from file 0).directions ≤ 64 → m < 64
    read_room h =
        omega (arith, h, ap length direction_here, taken_long direction (net_from file start).directions (net_from file 0).directions m (omega (arith, r.most, r.long)) r.directions)

    pub read_more : (y p : ℤ) → y ≡ x → p ≡ g → m < 64 → ReadTo file (set direction m y) (set q m p) (m + 1) next
    read_more y p a b h = record {
      within = w.within;
      most = omega (arith, h);
      long = length-set direction m y ∙ r.long;
      q_long = length-set q m p ∙ r.q_long;
      directions = taken_more direction (net_from file next).directions (net_from file 0).directions m y (omega (arith, h, r.long))
          (rw a (ap (λ (rest : List ℤ). take m direction ++ rest) (sym direction_here) ∙ r.directions));
      weights = taken_more q (net_from file next).q (net_from file 0).q m p (omega (arith, h, r.q_long))
          (rw b (ap (λ (rest : List ℤ). take m q ++ rest) (sym q_here) ∙ r.weights));
      conditions = sym same_conditions ∙ r.conditions;
      led = led_on;
    }

  -- no D line is left
  pub read_all : Opened (lines_of (drop start file)) → Directed file direction q m start
  unfolding net_from
  read_all o = let none = body_net (lines_of (drop start file)) (opened_body (lines_of (drop start file)) o) in record {
    most = r.most;
    long = r.long;
    q_long = r.q_long;
    directions_are = taken_all direction (net_from file 0).directions m (ap (λ (rest : List ℤ). take m direction ++ rest) (sym none.0) ∙ r.directions);
    q_are = taken_all q (net_from file 0).q m (ap (λ (rest : List ℤ). take m q ++ rest) (sym none.1) ∙ r.weights);
    conditions = r.conditions;
    opened = o;
    within = r.within;
  }

-- ---- the terms of one condition
abbrev pub Twelve : Terms → Type 0
Twelve t = (length t.kinds ≡ 12) × (length t.values ≡ 12) × (length t.d ≡ 12) × (length t.i ≡ 12) × (length t.k ≡ 12)

pub record Gathering (file : List ℕ) (start : ℕ) (t : Terms) (count at : ℕ) : Type 0 where
  pub most : count ≤ 12
  pub long : Twelve t
  pub all_kinds : take count t.kinds ++ (net_from file at).pending.kinds ≡ (net_from file start).pending.kinds
  pub all_values : take count t.values ++ (net_from file at).pending.values ≡ (net_from file start).pending.values
  pub all_d : take count t.d ++ (net_from file at).pending.d ≡ (net_from file start).pending.d
  pub all_i : take count t.i ++ (net_from file at).pending.i ≡ (net_from file start).pending.i
  pub all_k : take count t.k ++ (net_from file at).pending.k ≡ (net_from file start).pending.k
  pub same_conditions : (net_from file at).conditions ≡ (net_from file start).conditions
  pub body : Body (lines_of (drop at file))
  pub on : start ≤ at
  pub within : at ≤ length file

pub gather_none : (file : List ℕ) (start : ℕ) (t : Terms) → Twelve t → Body (lines_of (drop start file)) → start ≤ length file → Gathering file start t 0 start
gather_none file start t l b h = record {
  most = omega arith;
  long = l;
  all_kinds = refl;
  all_values = refl;
  all_d = refl;
  all_i = refl;
  all_k = refl;
  same_conditions = refl;
  body = b;
  on = omega arith;
  within = h;
}

module _ {file : List ℕ} {start : ℕ} {t : Terms} {count at : ℕ} (g : Gathering file start t count at) where
  -- one list of the terms, a term further
  more : (xs rest all here : List ℤ) (x y : ℤ) → length xs ≡ 12 → count < 12 → here ≡ x ∷ rest → y ≡ x → take count xs ++ here ≡ all
      → take (count + 1) (set xs count y) ++ rest ≡ all
  more xs rest all here x y l h a b e = taken_more xs rest all count y (omega (arith, h, l)) (rw b (ap (λ (r : List ℤ). take count xs ++ r) (sym a) ∙ e))

  module _ {next letter : ℕ} {z e f h : ℤ} (w : Walked file at (Term letter z e f h) next) where
    term_here : (net_from file at).pending ≡ with_term letter z e f h (net_from file next).pending
    unfolding line_before
    term_here = ap (λ (net : Net). net.pending) w.net

    conditions_here : (net_from file at).conditions ≡ (net_from file next).conditions
    unfolding line_before
    conditions_here = ap (λ (net : Net). net.conditions) w.net

    body_on : Body (lines_of (drop next file))
    unfolding Body
    body_on =
        let rest = lines_of (drop next file) in subst (λ (s : Option Record). ByKind s ⊥ (Body rest) (Body rest)) w.says (subst Body w.lines g.body)

    pub gather_room : length (net_from file start).pending.kinds ≤ 12 → count < 12
    gather_room b =
        omega (
          arith,
          b,
          ap (λ (c : Condition). length c.kinds) term_here,
          taken_long t.kinds (net_from file at).pending.kinds (net_from file start).pending.kinds count (omega (arith, g.most, g.long.0)) g.all_kinds,
        )

    pub gather_more : (letter' z' e' f' h' : ℤ) → (letter' ≡ pos letter) × (z' ≡ z) × (e' ≡ e) × (f' ≡ f) × (h' ≡ h) → count < 12
        → Gathering file start
        (record { kinds = set t.kinds count letter'; values = set t.values count z'; d = set t.d count e'; i = set t.i count f'; k = set t.k count h' })
        (count + 1) next
    gather_more letter' z' e' f' h' same b = record {
      most = omega (arith, b);
      long = (
        length-set t.kinds count letter' ∙ g.long.0,
        length-set t.values count z' ∙ g.long.1,
        length-set t.d count e' ∙ g.long.2,
        length-set t.i count f' ∙ g.long.3,
        length-set t.k count h' ∙ g.long.4,
      );
      all_kinds = more t.kinds _ _ _ (pos letter) letter' g.long.0 b (ap (λ (c : Condition). c.kinds) term_here) same.0 g.all_kinds;
      all_values = more t.values _ _ _ z z' g.long.1 b (ap (λ (c : Condition). c.values) term_here) same.1 g.all_values;
      all_d = more t.d _ _ _ e e' g.long.2 b (ap (λ (c : Condition). c.d) term_here) same.2 g.all_d;
      all_i = more t.i _ _ _ f f' g.long.3 b (ap (λ (c : Condition). c.i) term_here) same.3 g.all_i;
      all_k = more t.k _ _ _ h h' g.long.4 b (ap (λ (c : Condition). c.k) term_here) same.4 g.all_k;
      same_conditions = sym conditions_here ∙ g.same_conditions;
      body = body_on;
      on = omega (arith, g.on, w.on);
      within = w.within;
    }

  -- no term is left
  terms_are : (net_from file at).pending ≡ no_terms → (kind : Kind) (target : ℤ) → headed kind target (terms_in t count) ≡ headed kind target (net_from file start).pending
  terms_are e kind target = λ x. record {
    kind = kind;
    target = target;
    kinds = taken_all t.kinds _ count (ap (λ (c : Condition). take count t.kinds ++ c.kinds) (sym e) ∙ g.all_kinds) x;
    values = taken_all t.values _ count (ap (λ (c : Condition). take count t.values ++ c.values) (sym e) ∙ g.all_values) x;
    d = taken_all t.d _ count (ap (λ (c : Condition). take count t.d ++ c.d) (sym e) ∙ g.all_d) x;
    i = taken_all t.i _ count (ap (λ (c : Condition). take count t.i ++ c.i) (sym e) ∙ g.all_i) x;
    k = taken_all t.k _ count (ap (λ (c : Condition). take count t.k ++ c.k) (sym e) ∙ g.all_k) x;
  }

  pub gathered : Opened (lines_of (drop at file)) → Gathers file start t count at
  unfolding net_from
  gathered o = record {
    most = g.most;
    terms = terms_are (opened_pending (lines_of (drop at file)) o);
    conditions = g.same_conditions;
    opened = o;
    on = g.on;
    within = g.within;
  }
