-- `molsadriu_line` meets its promise: the length of the line that the library hands back. Assumes nothing.
use mathlib.Core.Path.{◌≡◌, ◌∙◌, ap}
use mathlib.Core.List.{List}
use Prim.Native.Nat.{ℕ}
use lib.ListN.{length, take, drop}
use Rattle.text.specs.Lines.{line_at}
use Rattle.office.proofs.OwnBytes.{own_bytes}
use Rattle.office.proofs.molsadriu_line.Goals as goal

pub returns-clause-bytes : goal.returns-clause-bytes
returns-clause-bytes c =
    let a = c.args in
    let same : c.line-line.result.now ≡ line_at a.file.now a.start = c.line-line.ensures in
    ap (λ (line : List ℕ). take (length line) (drop a.start a.file.now)) same ∙ own_bytes a.file.now a.start
