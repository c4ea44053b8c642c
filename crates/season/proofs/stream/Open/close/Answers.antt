-- `stream::Open::close` meets its contract. Assumes nothing.
use Rattle.std.proofs.Common.{refl, sym, ◌∙◌, ap, subst}
use mir.Val.{bool_byte}
use Rattle.totals.specs.Promise.{most_total}
use Rattle.season.specs.Inner.{IsShare, Sound}
use Rattle.season.specs.Open.{state}
use Rattle.season.proofs.Streaming.{open_is, closed_is, closed_sound}
use Rattle.season.proofs.stream.Open.close.Goals as goal

pub count-counted-requires : goal.count-counted-requires
count-counted-requires c =
    let s = c.args.self.now in (subst IsShare (sym c.share.ensures) (open_is s.held.now s.place.bytes), s.sound.within)

pub returns : goal.returns
returns c =
    let goes = closed_is (state c.args.self.now) c.share.ensures c.count-counted.ensures.reply c.count-counted.ensures.list (c.from.ensures ∙ ap bool_byte c.is_err.ensures.value) in
    record { goes = goes; held = refl; totals = refl }

pub invariant_of-self : goal.invariant_of-self
invariant_of-self c =
    let s = c.args.self.now in
    let goes = closed_is (state s) c.share.ensures c.count-counted.ensures.reply c.count-counted.ensures.list (c.from.ensures ∙ ap bool_byte c.is_err.ensures.value) in
    record { sound = subst (Sound most_total) (sym goes) (closed_sound most_total 0 (state s) s.sound) }
