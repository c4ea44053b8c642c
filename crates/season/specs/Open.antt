-- An open stream: the state that its lists and its place hold, and the state that it goes to.
use Rattle.std.specs.Prelude.{◌≡◌}
use Rattle.season.specs.Stream.{Stream, stream}
use Rattle.season.specs.declared.stream.Open.{Open}

abbrev pub state : Open → Stream
state s = stream s.held.now s.totals.now s.place

-- it goes to this state, in the same lists
pub record GoesTo (before : Open) (then : Stream) (after : Open) : Type 0 where
  pub goes : state after ≡ then
  pub held : after.held.ghost_name ≡ before.held.ghost_name
  pub totals : after.totals.ghost_name ≡ before.totals.ghost_name
