-- The promise of `check`, from what its steps have said, and that of `print`. Assumes nothing.
--   net_refused, form_refused          a net that is refused, and a listing that is malformed, are not compared
--   table_sound, directions_sound      the table of a net that passes 1 to 5 is sound
--   compared                           the opinion of a sheet that could be checked
--   no_answer, answered                the line of `print`: with a buffer that is too short, and by `check`
use mathlib.Core.Path.{◌≡◌, refl, sym, ◌∙◌, ap}
use mathlib.Core.List.{List}
use Prim.Native.Nat.{ℕ, ◌≤◌, ◌<◌}
use borrow.Author.Tests.{lt-ltb, le-ltb}
use lib.ListN.{length}
use Rattle.reply.specs.declared.Refusal.{Refusal}
use Rattle.reply.specs.Verdicts.{verdict_of}
use Rattle.doolittle.specs.Table.{at, table_of}
use Rattle.doolittle.specs.Inner.{Small, Sound}
use Rattle.text.specs.Lines.{lines_of}
use Rattle.text.specs.Written.{Wrote}
use Rattle.text.proofs.Putting.{rewrote}
use Rattle.network.specs.declared.lists.NetTable.{NetTable}
use Rattle.network.specs.Net.{Net, net_of, table_reply, Tabled, Tables}
use Rattle.listing.specs.File.{table_in}
use Rattle.std.specs.Prelude.{Result, Ok, Err}
use Rattle.sheet.specs.declared.Opinion.{Opinion}
use Rattle.sheet.specs.Form.{form_reply}
use Rattle.sheet.specs.Check.{disagreement, opinion_at, check_reply, opinion_of}
use Rattle.sheet.specs.Promise.{Checks}
use Rattle.reply.specs.Checks.{figure_reply}
use Rattle.sheet.specs.Answer.{answer_line, answer_in}
use Rattle.sheet.proofs.Judging.{net_passed, yes_demand3, yes_within_minute}

module _ (net listing : List ℕ) where
  kept : (opinion : Result Opinion Refusal) → opinion ≡ opinion_of net listing → Checks net listing opinion
  kept opinion e = record {
    answer = e;
    verdict = ap (λ (o : Result Opinion Refusal). verdict_of (figure_reply o)) e;
    demand3 = λ yes. yes_demand3 net listing (sym e ∙ yes);
    within_minute = λ yes. yes_within_minute net listing (sym e ∙ yes);
  }

  pub net_refused : (why : Refusal) → table_reply net ≡ Err why → Checks net listing (Err why)
  unfolding opinion_of check_reply
  net_refused why e = kept (Err why) (rw e)

  abbrev given : Net
  given = net_of (lines_of net)

  -- its table
  module _ {answer : Result NetTable Refusal} (is : Tables (table_reply net) given answer) {t : NetTable} (e : answer ≡ Ok t) where
    passed : table_reply net ≡ Ok tt
    passed = sym is.reply ∙ ap figure_reply e

    tabled : Tabled given t
    tabled = is.table t e

    pub form_refused : (why : Refusal) → form_reply listing ≡ Err why → Checks net listing (Err why)
    unfolding opinion_of check_reply
    form_refused why f = kept (Err why) (rw (passed, f))

    pub table_sound : Sound t.q.now t.a.now t.w.now
    table_sound = rw (tabled.q_are, tabled.rows_are, tabled.misclosures_are) (net_passed net passed).sound

    pub directions_sound : (length t.directions.now ≡ length t.q.now) × Small 1296000000 t.directions.now (length t.q.now)
    directions_sound = rw (tabled.directions_are, tabled.q_are) ((net_passed net passed).directions, (net_passed net passed).in_circle)

    pub compared : {opinion : Opinion} → opinion ≡ opinion_at (disagreement (table_of t.q.now t.a.now t.w.now) (at t.directions.now) listing)
        → form_reply listing ≡ Ok tt → Checks net listing (Ok opinion)
    unfolding opinion_of check_reply table_in
    compared {opinion} o f = kept (Ok opinion) (rw (passed, f, o, tabled.directions_are, tabled.q_are, tabled.rows_are, tabled.misclosures_are))

-- ---- the line of an answer
module _ (net listing before : List ℕ) where
  pub no_answer : length before < 52 → Wrote before 0 (answer_in net listing (length before)) before 0
  unfolding answer_in
  no_answer l = rw (lt-ltb (length before) 52 l) (record { buffer = refl; place = refl })

  pub answered : {opinion : Result Opinion Refusal} {after : List ℕ} {n : ℕ} → 52 ≤ length before → Checks net listing opinion
      → Wrote before 0 (answer_line opinion) after n
      → Wrote before 0 (answer_in net listing (length before)) after n
  unfolding answer_in
  answered {opinion} l c w = rw (le-ltb (length before) 52 l) (rewrote (ap answer_line c.answer) w)
