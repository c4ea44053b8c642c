-- `writer::Writer::word` meets its contract: the bytes before i have been written from the writer's place on, which stays. Assumes nothing.
use Rattle.std.proofs.Common.{refl, ap, arith, ℕ, ◌+◌, set}
use lib.ListN.{get_or}
use lib.Seq.{take_all}
use Rattle.text.proofs.Putting.{word_more, rewrote, wrote_length}
use Rattle.text.proofs.writer.Writer.word.Goals as goal

pub loop-i-init : goal.loop-i-init
loop-i-init c = (refl, refl, record { buffer = refl; place = refl })

pub overflow_add-self : goal.overflow_add-self
overflow_add-self c = omega (arith, c.requires, c.loop-i.invariant.0)

pub bounds-self-self : goal.bounds-self-self
bounds-self-self c = omega (arith, c.requires, c.loop-i.invariant.0, wrote_length c.loop-i.invariant.2)

pub loop-i-preserved : goal.loop-i-preserved
loop-i-preserved c =
    let l = c.loop-i in let v = l.invariant in let word = c.args.word.now in (
      v.0,
      v.1,
      word_more word l.i c.loop-i-test.true v.2
          (record { buffer = ap (λ (at : ℕ). set l.self.out.now (at + l.i) (get_or word l.i 0)) v.0; place = omega arith }),
    )

pub returns : goal.returns
returns c =
    let v = c.loop-i.invariant in let word = c.args.word.now in let end = rewrote (take_all c.loop-i.i word c.loop-i-test.false) v.2 in
    record { wrote = record { buffer = end.buffer; place = refl }; few = omega arith; room = wrote_length end; same = v.1 }
