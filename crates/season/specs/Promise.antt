-- What the operations promise for every input: their reply, and what the lent lists then hold. 30 is the one refusal that comes with an answer:
-- "the report ending with totals of those before it".
use Rattle.std.specs.Prelude.{◌≡◌, cond, not, List, [], ℕ, ◌+◌, eqb, length}
use Rattle.reply.specs.declared.Refusal.TheVariants.{Count, Nets}
use Rattle.reply.specs.Reply.{Reply}
use Rattle.reply.specs.Checks.{refuse_if, ◌and_then◌, leaves}
use Rattle.reply.specs.Verdicts.{verdict_of}
use Rattle.totals.specs.Totals.{report_of}
use Rattle.totals.specs.Promise.{most_nets}
use Rattle.season.specs.Season.{shares_of, season_reply, season_report}
use Rattle.season.specs.Stream.{place_at, place_of, place_list, stream_of, fed, ended_totals, ended_place, lengths_amiss, state_reply}
use Rattle.season.specs.declared.stream.Place.{Place}

-- ---- an archive in memory: 2 at 0 for a list of totals that has not sixteen places, then 30
unfoldable pub report_reply : (archive : List ℕ) (room : ℕ) → Reply
report_reply archive room = refuse_if (not (eqb room 16)) (Count 0) and_then season_reply (shares_of archive)

pub record Reports (archive lent : List ℕ) (reply : Reply) (left : List ℕ) : Type 0 where
  pub answer : reply ≡ report_reply archive (length lent)
  -- in the rules' numbers: number and place
  pub verdict : verdict_of reply ≡ verdict_of (report_reply archive (length lent))
  pub totals : left ≡ cond (eqb (length lent) 16) (season_report (shares_of archive)) lent

-- ---- the stream's three
unfoldable pub begin_reply : (held totals place : List ℕ) → Reply
begin_reply held totals place = refuse_if (lengths_amiss (length held) (length totals) (length place)) (Count 0)

-- no nets, and a stream at its start
pub record Begins (held totals place : List ℕ) (reply : Reply) (totals' place' : List ℕ) : Type 0 where
  pub answer : reply ≡ begin_reply held totals place
  pub verdict : verdict_of reply ≡ verdict_of (begin_reply held totals place)
  pub totals_are : totals' ≡ leaves reply (report_of []) totals
  pub place_is : place' ≡ leaves reply (place_list (place_at 0 0 0)) place

pub record Feeds (bytes held totals place : List ℕ) (reply : Reply) (held' totals' place' : List ℕ) : Type 0 where
  pub answer : reply ≡ state_reply held totals place
  pub verdict : verdict_of reply ≡ verdict_of (state_reply held totals place)
  pub held_is : held' ≡ leaves reply (fed bytes (stream_of held totals place)).held held
  pub totals_are : totals' ≡ leaves reply (fed bytes (stream_of held totals place)).totals totals
  pub place_is : place' ≡ leaves reply (place_list (fed bytes (stream_of held totals place)).place) place

-- "30 for a net past 100,000", once one has come
unfoldable pub past_reply : Place → Reply
past_reply p = refuse_if (eqb p.past 1) (Nets (most_nets + 1))

unfoldable pub end_reply : (held totals place : List ℕ) → Reply
end_reply held totals place = state_reply held totals place and_then past_reply (ended_place totals (place_of place))

pub record Ends (held totals place : List ℕ) (reply : Reply) (totals' place' : List ℕ) : Type 0 where
  pub answer : reply ≡ end_reply held totals place
  pub verdict : verdict_of reply ≡ verdict_of (end_reply held totals place)
  pub totals_are : totals' ≡ leaves (state_reply held totals place) (ended_totals totals (place_of place)) totals
  pub place_is : place' ≡ leaves (state_reply held totals place) (place_list (ended_place totals (place_of place))) place
