-- A line of at most 8 bytes: three digits, and one.
use Rattle.std.proofs.Common.{arith}
use Rattle.text.proofs.Putting.{puts, puts_then}
use Rattle.text.proofs.ReadingBack.{few_digits}
use Rattle.book.proofs.Parting.{x_most}
use Rattle.book.proofs.parts.put_line.Goals as goal

pub count-requires : goal.count-requires
count-requires c = let h = c.byte.ensures in omega (arith, c.requires.0, h.few, h.room, few_digits 2 c.args.ordinal c.requires.1)

pub count-requires-2 : goal.count-requires-2
count-requires-2 c =
    let h = c.byte.ensures in let n = c.count.ensures in
    omega (arith, c.requires.0, h.few, h.room, n.wrote.place, n.room, few_digits 2 c.args.ordinal c.requires.1, few_digits 0 c.args.reason c.requires.2)

pub byte-requires-2 : goal.byte-requires-2
byte-requires-2 c =
    let h = c.byte.ensures in let n = c.count.ensures in let r = c.count-2.ensures in
    omega (
      arith,
      c.requires.0,
      h.few,
      h.room,
      n.wrote.place,
      n.room,
      r.wrote.place,
      r.room,
      few_digits 2 c.args.ordinal c.requires.1,
      few_digits 0 c.args.reason c.requires.2,
    )

pub returns : goal.returns
returns c =
    let p = puts_then c.byte.ensures (puts_then c.count.ensures (puts_then c.count-2.ensures c.byte-2.ensures)) in
    puts p.wrote (x_most c.args.ordinal c.args.reason c.requires.1 c.requires.2) p.same
