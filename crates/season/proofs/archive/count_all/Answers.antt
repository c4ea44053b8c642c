-- `season::archive::count_all` meets its contract: the totals so far and the nets still to come give the report of all. Assumes nothing.
use mathlib.Core.Path.{◌≡◌, sym, ◌∙◌, ap, subst}
use mathlib.Core.List.{List, [], ◌∷◌}
use mathlib.Core.Bool.{Bool, cond}
use Prim.Native.Nat.{ℕ, ◌+◌, ◌-◌, ◌≤◌, ◌<◌}
use native.Mathlib.Omega.{arith}
use borrow.Author.Tests.{eq-eqb, ne_eqb}
use Rattle.std.proofs.lemmas.Result.{err_from_is_err_and}
use lib.ListN.{length-drop, length, take, drop}
use Rattle.totals.proofs.Totalling.{report_length}
use Rattle.totals.specs.Totals.{report_of}
use Rattle.totals.specs.Promise.{most_total}
use Rattle.season.specs.Share.{share_of, left_share}
use Rattle.season.specs.Stream.{counted_in}
use Rattle.season.specs.Archive.{parts_of}
use Rattle.season.specs.Season.{left_shares, shares_of, shares_in}
use Rattle.season.specs.Inner.{IsShare, Roomy, NextStop}
use Rattle.season.proofs.Sharing.{share_is, left_is}
use Rattle.season.proofs.Leading.{shares_closed, shares_left, Leads, leads_none, leads_end, turn_fits, turn_past, none_within, counted_within}
use Rattle.season.proofs.archive.count_all.Goals as goal

-- the totals are sixteen all the time
sixteen : {totals lent : List ℕ} → Roomy totals → lent ≡ report_of [] → length totals ≡ length lent
sixteen r none = r.long ∙ sym (ap length none ∙ report_length [])

opening : (archive : List ℕ) → Leads (shares_of archive) (report_of []) (shares_in (parts_of archive))
unfolding shares_of
opening archive = leads_none (shares_in (parts_of archive))

pub loop-stop-init : goal.loop-stop-init
loop-stop-init c =
    let none = c.requires in
    (subst Roomy (sym none) (none_within most_total), subst (λ (x : List ℕ). Leads (shares_of c.args.archive.now) x (shares_in (parts_of c.args.archive.now))) (sym none) (opening c.args.archive.now), omega arith, c.next_stop-stop.ensures)

pub count-requires : goal.count-requires
count-requires c =
    (subst IsShare (sym c.share.ensures) (share_is _), c.loop-stop.invariant.0)

-- a share has been counted, which is this one
counted : (totals : List ℕ) {share one left : List ℕ} → left ≡ counted_in share totals → share ≡ one → left ≡ counted_in one totals
counted totals e f = e ∙ ap (λ (x : List ℕ). counted_in x totals) f

-- totals in which a share has been counted are sixteen
sixteen_counted : {share totals left lent : List ℕ} → left ≡ counted_in share totals → IsShare share → Roomy totals → lent ≡ report_of [] → length left ≡ length lent
sixteen_counted {share} {totals} e s r none = sixteen (subst Roomy (sym e) (counted_within most_total share totals s r)) none

-- ---- a net that is closed has been counted, or not
module _ {archive totals : List ℕ} {start stop : ℕ} (so_far : Leads (shares_of archive) totals (shares_in (parts_of (drop start archive))))
    (next : NextStop archive start stop) (on : stop < length archive) where
  abbrev net : List ℕ
  net = take (stop - start) (drop start archive)

  here : Leads (shares_of archive) totals (share_of net ∷ shares_in (parts_of (drop (stop + 2) archive)))
  here =
      subst (λ (x : List (List ℕ)). Leads (shares_of archive) totals x)
      (ap shares_in (next.closed on).1 ∙ shares_closed net (drop (stop + 2) archive)) so_far

pub returns-in_err-count : goal.returns-in_err-count
returns-in_err-count c =
    let i = c.loop-stop.invariant in let why = err_from_is_err_and c.from_residual.result c.from_residual.ensures.1 in
    let p = turn_past (here i.1 i.3 c.loop-stop-test.true) (counted c.loop-stop.totals c.count.ensures.list c.share.ensures) (sym c.count.ensures.reply ∙ c.in_err-count.was) in
    rw (why.1, why.2) (record {
      reply = sym p.0;
      list = p.1;
    })

pub next_stop-stop-requires-in-loop-stop : goal.next_stop-stop-requires-in-loop-stop
next_stop-stop-requires-in-loop-stop c = (c.loop-stop.invariant.3.closed c.loop-stop-test.true).0

pub loop-stop-smaller : goal.loop-stop-smaller
loop-stop-smaller c = let next = c.loop-stop.invariant.3 in omega (arith, (next.closed c.loop-stop-test.true).0, next.on)

pub loop-stop-preserved : goal.loop-stop-preserved
loop-stop-preserved c =
    let i = c.loop-stop.invariant in let more = counted c.loop-stop.totals c.count.ensures.list c.share.ensures in (
      subst Roomy (sym more) (counted_within most_total _ c.loop-stop.totals (share_is _) i.0),
      turn_fits (here i.1 i.3 c.loop-stop-test.true) more (share_is _) (sym c.count.ensures.reply ∙ c.in_ok-count.was),
      (i.3.closed c.loop-stop-test.true).0,
      c.next_stop-stop-in-loop-stop.ensures,
    )

pub count-requires-then-start-archive : goal.count-requires-then-start-archive
count-requires-then-start-archive c = (subst IsShare (sym c.left.ensures) left_is, c.loop-stop.invariant.0)

-- ---- no full stop line is left
module _ {all totals : List ℕ} {start stop : ℕ} (so_far : Leads (shares_of all) totals (shares_in (parts_of (drop start all))))
    (next : NextStop all start stop) (ended : length all ≤ stop) where
  last : Leads (shares_of all) totals (left_shares (drop start all))
  last = subst (λ (x : List (List ℕ)). Leads (shares_of all) totals x) (ap shares_in (next.left ended) ∙ shares_left (drop start all)) so_far

  some_left : start < length all → Leads (shares_of all) totals (left_share ∷ [])
  unfolding left_shares
  some_left h =
      let d = length-drop start all in
      subst (λ (b : Bool). Leads (shares_of all) totals (cond b [] (left_share ∷ []))) (ne_eqb (length (drop start all)) 0 (λ e. omega (arith, d))) last

  none_left : length all ≤ start → Leads (shares_of all) totals []
  unfolding left_shares
  none_left h =
      let d = length-drop start all in
      subst (λ (b : Bool). Leads (shares_of all) totals (cond b [] (left_share ∷ []))) (eq-eqb (length (drop start all)) 0 (omega (arith, d))) last

pub returns-in_err-count-2 : goal.returns-in_err-count-2
returns-in_err-count-2 c =
    let i = c.loop-stop.invariant in let n = c.count-then-start-archive.ensures in
    let why = err_from_is_err_and c.from_residual-in_err-count-2.result c.from_residual-in_err-count-2.ensures.1 in
    let p = turn_past (some_left i.1 i.3 (omega arith) (omega arith)) (counted c.loop-stop.totals n.list c.left.ensures) (sym n.reply ∙ c.in_err-count-2.was) in
    rw (why.1, why.2) (record {
      reply = sym p.0;
      list = p.1;
    })

pub returns-in_ok-count-2 : goal.returns-in_ok-count-2
returns-in_ok-count-2 c =
    let i = c.loop-stop.invariant in let n = c.count-then-start-archive.ensures in
    let p = leads_end (turn_fits (some_left i.1 i.3 (omega arith) c.if-start-archive.true) (counted c.loop-stop.totals n.list c.left.ensures) left_is (sym n.reply ∙ c.in_ok-count-2.was)) in
    record {
      reply = sym p.1;
      list = p.0;
    }

pub returns-else-start-archive : goal.returns-else-start-archive
returns-else-start-archive c =
    let i = c.loop-stop.invariant in let p = leads_end (none_left i.1 i.3 (omega arith) c.if-start-archive.false) in record {
      reply = sym p.1;
      list = p.0;
    }
