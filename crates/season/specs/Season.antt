-- The report of an archive: sums and largest over the list of its nets, up to 100,000 of them.
use Rattle.std.specs.Prelude.{cond, List, [], ◌∷◌, ℕ, ◌+◌, eqb, ltb, length, take}
use Rattle.reply.specs.declared.Refusal.TheVariants.{Nets}
use Rattle.reply.specs.Reply.{Reply}
use Rattle.reply.specs.Checks.{refuse_if}
use Rattle.totals.specs.Totals.{report_of}
use Rattle.totals.specs.Promise.{most_nets}
use Rattle.season.specs.Archive.{if_last, parts_of}
use Rattle.season.specs.Share.{share_of, left_share}

-- "Bytes left after the last full stop line are a net counted under 1, however many."
unfoldable pub left_shares : (left : List ℕ) → List (List ℕ)
left_shares left = cond (eqb (length left) 0) [] (left_share ∷ [])

-- the shares of the nets, in their order: each that is closed, and the bytes left, if there are any
unfoldable pub shares_in : (parts : List (List ℕ)) → List (List ℕ)
shares_in [] = []
shares_in (part ∷ parts) = if_last parts (left_shares part) (share_of part ∷ shares_in parts)

unfoldable pub shares_of : (archive : List ℕ) → List (List ℕ)
shares_of archive = shares_in (parts_of archive)

-- "30 for a net past 100,000, the report ending with totals of those before it"
unfoldable pub season_reply : (shares : List (List ℕ)) → Reply
season_reply shares = refuse_if (ltb most_nets (length shares)) (Nets (most_nets + 1))

unfoldable pub season_report : (shares : List (List ℕ)) → List ℕ
season_report shares = report_of (take most_nets shares)
