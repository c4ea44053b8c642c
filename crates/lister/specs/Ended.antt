-- What is printed where a stream ends: the report of all that came, with the line of refusal 30 where its end is refused so.
use Rattle.std.specs.Prelude.{List, ℕ, eqb}
use Rattle.reply.specs.Checks.{leaves}
use Rattle.reply.specs.Verdicts.{verdict_of}
use Rattle.totals.specs.Text.{report_in}
use Rattle.season.specs.Stream.{place_of, ended_totals, state_reply}
use Rattle.season.specs.Promise.{end_reply}

abbrev pub ended_in : (room : ℕ) (held totals place : List ℕ) → List ℕ
ended_in room held totals place =
    report_in room (leaves (state_reply held totals place) (ended_totals totals (place_of place)) totals) (eqb (verdict_of (end_reply held totals place)).number 30)
