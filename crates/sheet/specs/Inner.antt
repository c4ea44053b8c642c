-- What the inner functions hand each other: the numbers of a listing's lines, four places to a line. No part of the promise.
use Rattle.std.specs.Prelude.{◌≡◌, Bool, true, false, ◌||◌, List, ℕ, ◌+◌, ◌*◌, ◌≤◌, ◌<◌, ℤ, pos, nat_abs, length, get_or, Ok, Err, Result, Option}
use Rattle.doolittle.specs.Table.{Table}
use Rattle.adjustment.specs.Corrections.{V_of, u_of}
use Rattle.text.specs.Parts.{place_from, begins}
use Rattle.text.specs.Lines.{LF}
use Rattle.text.specs.Rows.{lettered_within}
use Rattle.sheet.specs.Check.{unlike}
use Rattle.sheet.specs.Form.{adj_head, heading_of, heading_amiss, directions_in, conditions_in, letter_due, fields_due, number_due, numbered, form_reply, field_no}
use Rattle.reply.specs.declared.Refusal.{Refusal}
use Rattle.network.specs.declared.Size.{Size}

-- the numbers of the line at a start, where it is the one due at place i
unfoldable pub due_from : (listing : List ℕ) (start m i : ℕ) → Option (List ℤ)
due_from listing start m i = numbered (number_due m i) (lettered_within 18 listing start (letter_due m i) (fields_due m i))

-- what is known of a listing whose ADJ line is well formed and ends before `start`
pub record Headed (listing : List ℕ) (start m n : ℕ) : Type 0 where
  pub sound : heading_amiss (heading_of listing) ≡ false
  pub m_is : m ≡ directions_in listing
  pub n_is : n ≡ conditions_in listing
  pub m_most : m ≤ 64
  pub n_most : n ≤ 24
  pub start_is : start ≡ place_from LF listing 4 + 1
  pub within : place_from LF listing 4 < length listing
  pub begun : begins adj_head listing ≡ true

-- number k of the line at place i
abbrev pub number_at : (x : List ℤ) (i k : ℕ) → ℤ
number_at x i k = get_or x (4 * i + k) (pos 0)

-- the numbers of the first lines stand in their places
abbrev pub Entered : (listing : List ℕ) (m lines : ℕ) (x : List ℤ) → Type 0
Entered listing m lines x = (i : ℕ) → i < lines → (k : ℕ) → k < fields_due m i → number_at x i k ≡ field_no k listing i

pub record WellFormed (listing : List ℕ) (m n : ℕ) (x : List ℤ) : Type 0 where
  pub passed : form_reply listing ≡ Ok tt
  pub m_is : m ≡ directions_in listing
  pub n_is : n ≡ conditions_in listing
  pub m_most : m ≤ 64
  pub n_most : n ≤ 24
  pub entered : Entered listing m (m + n) x

abbrev pub FormedAs : (listing : List ℕ) → Result Size Refusal → (x : List ℤ) → Type 0
FormedAs listing (Ok size) x = WellFormed listing size.m size.n x
FormedAs listing (Err why) x = form_reply listing ≡ Err why

-- two numbers side by side in every line, from place `from` on, against those of two lists
abbrev pub pair_unlike : (x : List ℤ) (from : ℕ) (a b : List ℤ) (i : ℕ) → Bool
pair_unlike x from a b i = unlike (get_or x (from + 4 * i) (pos 0)) (get_or a i (pos 0)) || unlike (get_or x (from + 4 * i + 1) (pos 0)) (get_or b i (pos 0))

-- the corrections and printed corrections of the correlates k, none of these past one minute
pub record Corrected (t : Table) (k : ℕ → ℤ) (v u : List ℤ) : Type 0 where
  pub v_is : (i : ℕ) → i < t.m → get_or v i (pos 0) ≡ V_of t k i
  pub u_is : (i : ℕ) → i < t.m → get_or u i (pos 0) ≡ u_of t k i
  pub u_most : (i : ℕ) → i < t.m → nat_abs (u_of t k i) ≤ 60000
