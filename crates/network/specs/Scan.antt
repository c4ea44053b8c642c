-- Refusals 1 to 3 of a network file: "File length comes first. Then lines in order; in a line 1, then 2, then 3."
use Rattle.std.specs.Prelude.{Bool, false, not, ◌||◌, ◌&&◌, List, [], ◌∷◌, ℕ, suc, ◌+◌, ◌≤◌, eqb, ltb, leb, ℤ, pos, length, Ok, Err, Some, None, Option}
use Rattle.reply.specs.declared.Refusal.TheVariants.{Malformed, Count, OutOfRange}
use Rattle.reply.specs.Reply.{Reply}
use Rattle.reply.specs.Checks.{refuse_if, ◌and_then◌}
use Rattle.text.specs.Parts.{parted}
use Rattle.text.specs.Lines.{LF}
use Rattle.network.specs.Records.{letter_P, letter_F, letter_L, letter_R, record_of}
use Rattle.condition.specs.declared.Kind.{Kind}
use Rattle.condition.specs.declared.Kind.TheVariants.{Angle, Side}
use Rattle.condition.specs.Terms.{term_fault}
use Rattle.condition.specs.Rules.{target_fault}
use Rattle.direction.specs.Ranges.{out_of_range}
use Rattle.exact.specs.Outside.{outside}
use Rattle.network.specs.declared.record.Record.{Record}
use Rattle.network.specs.declared.record.Record.TheVariants.{Direction, Angles, Sides, Term}
use Rattle.network.specs.declared.scan.Counts.{Counts}

abbrev pub none : Counts
none = record { m = 0; n = 0; terms = 0; heading = None }

-- ---- 1: "line malformed, unknown, or under the wrong heading"
-- "Under A: P [..] and F [..]. Under S: L or R"
unfoldable pub belongs : Option Kind → ℕ → Bool
belongs (Some Angle) letter = eqb letter letter_P || eqb letter letter_F
belongs (Some Side) letter = eqb letter letter_L || eqb letter letter_R
belongs None letter = false

-- ---- 2: "counts of directions, conditions or terms; D out of turn"
-- "number (1, 2, 3 and on)", "m: 1 to 64"
unfoldable pub out_of_turn : ℕ → ℤ → Bool
out_of_turn m number = leb 64 m || outside (pos (m + 1)) (pos (m + 1)) number

-- "Conditions n: 1 to 24"; "A condition found without terms [..] is 2 at the line that shows it (the next C [..])"
unfoldable pub one_too_many : ℕ → ℕ → Bool
one_too_many n terms = leb 24 n || (ltb 0 n && eqb terms 0)

-- ---- one line: what it says, at its place, after what has been counted
unfoldable pub direction_reply : ℕ → Counts → ℤ → ℤ → ℤ → Reply
direction_reply place c number direction q =
    -- "so is a D line after a C"
    refuse_if (ltb 0 c.n) (Malformed place)
    and_then (refuse_if (out_of_turn c.m number) (Count place)
    and_then refuse_if (out_of_range direction q) (OutOfRange place))

unfoldable pub angles_reply : ℕ → Counts → ℤ → Reply
angles_reply place c target = refuse_if (one_too_many c.n c.terms) (Count place) and_then refuse_if (target_fault target) (OutOfRange place)

unfoldable pub sides_reply : ℕ → Counts → Reply
sides_reply place c = refuse_if (one_too_many c.n c.terms) (Count place)

unfoldable pub term_reply : ℕ → Counts → ℕ → ℤ → ℤ → ℤ → ℤ → Reply
term_reply place c letter value d i k =
    refuse_if (not (belongs c.heading letter)) (Malformed place)
    -- "A condition has 1 to 12 terms."
    and_then (refuse_if (leb 12 c.terms) (Count place)
    and_then refuse_if (term_fault (pos c.m) letter value d i k) (OutOfRange place))

unfoldable pub line_reply : ℕ → Counts → Option Record → Reply
line_reply place c (Some (Direction number direction q)) = direction_reply place c number direction q
line_reply place c (Some (Angles target)) = angles_reply place c target
line_reply place c (Some Sides) = sides_reply place c
line_reply place c (Some (Term letter value d i k)) = term_reply place c letter value d i k
line_reply place c None = Err (Malformed place)

-- what has been counted after it
unfoldable pub counted : Counts → Option Record → Counts
counted c (Some (Direction number direction q)) = record { m = c.m + 1; n = c.n; terms = c.terms; heading = c.heading }
counted c (Some (Angles target)) = record { m = c.m; n = c.n + 1; terms = 0; heading = Some Angle }
counted c (Some Sides) = record { m = c.m; n = c.n + 1; terms = 0; heading = Some Side }
counted c (Some (Term letter value d i k)) = record { m = c.m; n = c.n; terms = c.terms + 1; heading = c.heading }
counted c None = c

-- ---- the end of the file
-- "at end of file, place 0, where m = 0, n = 0 and n above m are tested too"
unfoldable pub end_fault : Counts → Bool
end_fault c = eqb c.m 0 || (eqb c.n 0 || (ltb c.m c.n || eqb c.terms 0))

unfoldable pub end_reply : Counts → Reply
end_reply c = refuse_if (end_fault c) (Count 0)

-- ---- the file
abbrev pub if_last : List (List ℕ) → Reply → Reply → Reply
if_last [] end more = end
if_last (part ∷ parts) end more = more

-- the file's parts in order: each but the last is a line with its LF; the last is what stands after the last LF
unfoldable pub scanned : ℕ → Counts → List (List ℕ) → Reply
scanned place c [] = Ok tt
scanned place c (part ∷ parts) =
    if_last parts
    -- "A last line without LF is 1"
    (refuse_if (ltb 0 (length part)) (Malformed place) and_then end_reply c)
    (line_reply place c (record_of part) and_then scanned (suc place) (counted c (record_of part)) parts)

unfoldable pub scan_reply : List ℕ → Reply
scan_reply file = refuse_if (ltb 65535 (length file)) (Count 0) and_then scanned 1 none (parted LF ([] ∷ []) file)

-- ---- counters that no file can pass, for the steps on them
pub record Low (c : Counts) : Type 0 where
  pub m : c.m ≤ 65536
  pub n : c.n ≤ 65536
  pub terms : c.terms ≤ 65536
