-- The same lines in another order.
use Rattle.std.specs.Prelude.{◌≡◌, false, List, ℕ, ◌<◌}
use Rattle.text.specs.Lines.{lines_in, line_no, unended}

-- line h of file' is line `from h` of the file, and `to` leads back: each line of the file stands in file' once
pub record Reordered (file file' : List ℕ) : Type 0 where
  pub from : ℕ → ℕ
  pub to : ℕ → ℕ
  pub from_in : (h : ℕ) → h < lines_in file → from h < lines_in file
  pub to_in : (h : ℕ) → h < lines_in file → to h < lines_in file
  pub back : (h : ℕ) → h < lines_in file → to (from h) ≡ h
  pub forth : (h : ℕ) → h < lines_in file → from (to h) ≡ h
  pub line_is : (h : ℕ) → h < lines_in file → line_no file' h ≡ line_no file (from h)
  pub long : lines_in file' ≡ lines_in file
  -- and no byte stands behind them
  pub ended : unended file' ≡ false
