-- A season's archive in parts and whole, as C is told of them: the same verdict, and the same totals. Assumes nothing.
--   SeasonRuns           the functions of a stream, by what they promise: begun, and then fed with parts of an archive, whatever they are
--   library_runs         the library's own operations then run so
--   bytes_accepted       no part is refused
--   whole                the report of an archive, with room for it
--   season_in_parts      at the end verdict and totals are those of `molsadriu_report` for all parts joined
use mathlib.Core.Path.{◌≡◌, sym, ◌∙◌, ap, subst}
use mathlib.Core.List.{List, [], ◌++◌}
use Prim.Native.Nat.{ℕ}
use borrow.Author.Tests.{eq-eqb}
use lib.ListN.{length}
use Rattle.exact.proofs.Unique.{only}
use Rattle.reply.specs.Reply.{Reply}
use Rattle.reply.specs.declared.Verdict.{Verdict}
use Rattle.reply.specs.Verdicts.{accepted, verdict_of}
use Rattle.reply.proofs.Unique.{only_accepted_is_0}
use Rattle.season.specs.Season.{shares_of, season_reply, season_report}
use Rattle.season.specs.Promise.{report_reply, begin_reply, Begins}
use Rattle.season.proofs.Joining.{Runs, opening, onward, never_refused, stream_report}
use Rattle.office.specs.Promises.{SeasonReport, SeasonBegun, SeasonNext, SeasonEnded}

pub data SeasonRuns : (held totals place archive : List ℕ) → Type 0 where
  opened : {held totals place totals' place' : List ℕ} → SeasonBegun held totals place accepted totals' place' → SeasonRuns held totals' place' []
  fed : {held totals place archive bytes held' totals' place' : List ℕ} {v : Verdict} → SeasonRuns held totals place archive
      → SeasonNext bytes held totals place v held' totals' place' → SeasonRuns held' totals' place' (archive ++ bytes)

pub library_runs : {held totals place archive : List ℕ} → SeasonRuns held totals place archive → Runs held totals place archive
library_runs (opened {held} {totals} {place} {totals'} {place'} b) =
    opening (subst (λ (r : Reply). Begins held totals place r totals' place') (only_accepted_is_0 (begin_reply held totals place) (sym (ap (λ (v : Verdict). v.number) b.verdict))) b.lists)
library_runs (fed r n) = onward (library_runs r) n.lists

pub bytes_accepted : {held totals place archive bytes held' totals' place' : List ℕ} {v : Verdict} → SeasonRuns held totals place archive
    → SeasonNext bytes held totals place v held' totals' place' → v ≡ accepted
bytes_accepted r n = n.verdict ∙ ap verdict_of (never_refused (library_runs r) n.lists)

whole : {archive lent left : List ℕ} {v : Verdict} → length lent ≡ 16 → SeasonReport archive lent v left → (v ≡ verdict_of (season_reply (shares_of archive))) × (left ≡ season_report (shares_of archive))
unfolding report_reply
whole {archive} {lent} long s = let e = eq-eqb (length lent) 16 long in (rw e at s.verdict, rw e at s.list.totals)

pub season_in_parts : {held totals place archive totals' place' lent left : List ℕ} {v w : Verdict} → SeasonRuns held totals place archive
    → SeasonEnded held totals place v totals' place' → length lent ≡ 16 → SeasonReport archive lent w left → (v ≡ w) × (totals' ≡ left)
season_in_parts r f long s =
    let a = stream_report (library_runs r) f.lists in let b = whole long s in
    (only (f.verdict ∙ ap verdict_of a.0) b.0, only a.1 b.1)
