-- Another office's sheet held against a net: what its K give, and the line of the first test that fails. "Otherwise the counts are compared first, then the
-- sizes of the K, then all lines in order."
use Rattle.std.specs.Prelude.{Bool, ◌||◌, not, cond, List, ℕ, zero, suc, ◌+◌, ltb, eqb, ℤ, nat_abs, Result}
use Rattle.exact.specs.First.{first, some_below}
use Rattle.exact.specs.Same.{same}
use Rattle.reply.specs.Reply.{Reply}
use Rattle.reply.specs.Checks.{◌and_then◌, figure_of}
use Rattle.doolittle.specs.Table.{Table, at}
use Rattle.adjustment.specs.Corrections.{R_of, u_of, adjusted_of, Q_of}
use Rattle.adjustment.specs.Refusals.{past_minute}
use Rattle.text.specs.Lines.{lines_of}
use Rattle.network.specs.Net.{net_of, table_reply}
use Rattle.listing.specs.File.{table_in}
use Rattle.reply.specs.declared.Refusal.{Refusal}
use Rattle.sheet.specs.declared.Opinion.{Opinion}
use Rattle.sheet.specs.declared.Opinion.TheVariants.{Yes, No}
use Rattle.sheet.specs.Form.{directions_in, conditions_in, form_reply, own_u, own_adjusted, own_k, own_r, own_q}

-- two numbers that ought to be the same, and are not
abbrev pub unlike : ℤ → ℤ → Bool
unlike a b = not (same a b)

-- the line of the first of n things that fails a test, where the first of them stands at line `from`; else what is found after them
abbrev pub first_line : (n : ℕ) (fails : ℕ → Bool) (from after : ℕ) → ℕ
first_line n fails from after = cond (some_below n fails) (from + first n fails) after

-- "its counts agree with the net"
unfoldable pub counts_differ : Table → (listing : List ℕ) → Bool
counts_differ t listing = not (eqb (directions_in listing) t.m) || not (eqb (conditions_in listing) t.n)

-- "every K is within 10^8"
unfoldable pub correlate_too_large : (listing : List ℕ) → ℕ → Bool
correlate_too_large listing j = ltb 100000000 (nat_abs (own_k listing j))

-- "every u and adjusted direction follows from the K, and no u passes 60,000"
unfoldable pub direction_differs : Table → (direction : ℕ → ℤ) (listing : List ℕ) → ℕ → Bool
direction_differs t direction listing i =
    let k = own_k listing in
    (unlike (own_u listing i) (u_of t k i) || unlike (own_adjusted listing i) (adjusted_of t k direction i)) || past_minute (u_of t k i)

-- "every R and Q printed is what those K give, every R is within 50,000,000"
unfoldable pub condition_differs : Table → (listing : List ℕ) → ℕ → Bool
condition_differs t listing j =
    let k = own_k listing in
    (unlike (own_r listing j) (R_of t k j) || unlike (own_q listing j) (Q_of t k j)) || ltb 50000000 (nat_abs (R_of t k j))

-- the line of the first test that fails; 0, which is no line, where none does
unfoldable pub disagreement : Table → (direction : ℕ → ℤ) (listing : List ℕ) → ℕ
disagreement t direction listing =
    cond (counts_differ t listing) 1
    (first_line t.n (correlate_too_large listing) (t.m + 2)
    (first_line t.m (direction_differs t direction listing) 2
    (first_line t.n (condition_differs t listing) (t.m + 2) 0)))

-- "a disagreement is a no with the line of the first test that fails"
abbrev pub opinion_at : (line : ℕ) → Opinion
opinion_at zero = Yes
opinion_at (suc line) = No (suc line)

-- "Refusals: the net's 1 to 5 first, then 31"; the net's 6 to 9 are not asked
unfoldable pub check_reply : (net listing : List ℕ) → Reply
check_reply net listing = table_reply net and_then form_reply listing

unfoldable pub opinion_of : (net listing : List ℕ) → Result Opinion Refusal
opinion_of net listing =
    let given = net_of (lines_of net) in figure_of (check_reply net listing) (opinion_at (disagreement (table_in given) (at given.directions) listing))
