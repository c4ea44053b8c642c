-- The promises leave nothing open: two answers that meet one promise are equal. Assumes nothing.
--   one_line, one_status      of `line` and of `line_status`, for every file and every start
--   one_number, one_place     of `read_to`, for every text and start: the number, and the place after it; one_read the whole answer
--   one_row, one_behind       of `row::read` and of `row::read_behind`, for every file and start
use mathlib.Core.Path.{◌≡◌, refl}
use mathlib.Core.List.{List}
use Prim.Native.Nat.{ℕ, ◌+◌}
use Rattle.exact.proofs.Unique.{only}
use Rattle.text.specs.Parts.{place_from}
use Rattle.text.specs.Lines.{line_at, status_at}
use Rattle.text.specs.Numbers.{number_to, Reads}
use Rattle.text.specs.declared.number.Read.{Read}
use Rattle.text.specs.Rows.{row_end, behind_end}
use Rattle.text.specs.declared.line.LineStatus.{LineStatus}
use Rattle.std.specs.Prelude.{ℤ, Option, Some, None, MatchOption}

pub one_line : (file : List ℕ) (start : ℕ) (a b : List ℕ) → a ≡ line_at file start → b ≡ line_at file start → a ≡ b
one_line file start a b x y = only x y

pub one_status : (file : List ℕ) (start : ℕ) (a b : LineStatus) → a ≡ status_at file start → b ≡ status_at file start → a ≡ b
one_status file start a b x y = only x y

pub one_number : (most ending : ℕ) (text : List ℕ) (start : ℕ) (a b : Option ℤ) → a ≡ number_to most ending text start
    → b ≡ number_to most ending text start → a ≡ b
one_number most ending text start a b = only

-- and of the place after it, where there is a number
pub one_place : (ending : ℕ) (text : List ℕ) (start n k : ℕ) → n ≡ place_from ending text start + 1 → k ≡ place_from ending text start + 1 → n ≡ k
one_place ending text start n k = only

pub one_read : (most ending : ℕ) (text : List ℕ) (start : ℕ) (a b : Option Read)
    → MatchOption a (number_to most ending text start ≡ None) (Reads most ending text start)
    → MatchOption b (number_to most ending text start ≡ None) (Reads most ending text start) → a ≡ b
one_read most ending text start None None x y = refl
one_read most ending text start None (Some r) x y = let f = y.number in cc
one_read most ending text start (Some r) None x y = let f = x.number in cc
one_read most ending text start (Some r) (Some r') x y =
    let f = x.number in let g = y.number in let v : r.value ≡ r'.value = cc in let n : r.next ≡ r'.next = only x.next y.next in
    λ i. Some (record { value = v i; next = n i })

pub one_row : (most : ℕ) (file : List ℕ) (start count : ℕ) (a b : Option ℕ) → a ≡ row_end most file start count → b ≡ row_end most file start count → a ≡ b
one_row most file start count a b = only

pub one_behind : (most : ℕ) (file : List ℕ) (start letter count : ℕ) (a b : Option ℕ) → a ≡ behind_end most file start letter count
    → b ≡ behind_end most file start letter count → a ≡ b
one_behind most file start letter count a b = only
