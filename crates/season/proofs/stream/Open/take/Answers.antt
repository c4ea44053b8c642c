-- `stream::Open::take` meets its contract. Assumes nothing.
use Rattle.std.proofs.Common.{sym, ◌∙◌}
use Rattle.totals.specs.Promise.{most_total}
use Rattle.season.specs.Open.{state}
use Rattle.season.proofs.Streaming.{closes_by, kept_sound}
use Rattle.season.proofs.stream.Open.take.Goals as goal

pub close-requires : goal.close-requires
close-requires c = let s = c.args.self.now in s.sound.stands.stop (closes_by c.args.byte s.place.line (sym c.closes.ensures ∙ c.if-closes.true)).1

pub invariant_of-self : goal.invariant_of-self
invariant_of-self c =
    let s = c.args.self.now in record { sound = kept_sound most_total c.args.byte (state s) s.sound c.keep.ensures c.kept_bytes.ensures c.line_after.ensures }
