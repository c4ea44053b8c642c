-- What the reader of a book's lines hands on.
use Rattle.std.specs.Prelude.{◌≡◌, List, ℕ, ◌≤◌, ℤ, pos, get_or, set, take, length, Result, Ok, Err}
use Rattle.reply.specs.declared.Refusal.{Refusal}
use Rattle.text.specs.Lines.{lines_in}
use Rattle.book.specs.Lines.{column, lines_reply, book_reply}
use Rattle.book.specs.declared.entries.Fields.{Fields}
use Rattle.book.specs.Rescue.{spoiled_reply}

-- a sighting x into place n, which may be past the end
abbrev pub put_at : Fields → (n : ℕ) (x : List ℤ) → Fields
put_at fields n x = record {
  position = set fields.position n (get_or x 0 (pos 0));
  object = set fields.object n (get_or x 1 (pos 0));
  face = set fields.face n (get_or x 2 (pos 0));
  reading = set fields.reading n (get_or x 3 (pos 0));
}

-- a book that is not too long, whose lines are sightings and not too many: their fields stand in the first places of the lists
pub record Entered (file : List ℕ) (n : ℕ) (fields : Fields) : Type 0 where
  pub short : length file ≤ 65535
  pub passed : lines_reply file ≡ Ok tt
  pub count : n ≡ lines_in file
  pub few : n ≤ 512
  pub positions : take n fields.position ≡ column 0 file
  pub objects : take n fields.object ≡ column 1 file
  pub faces : take n fields.face ≡ column 2 file
  pub readings : take n fields.reading ≡ column 3 file

-- any other is refused as its means and its rescue are
abbrev pub EnteredAs : (file : List ℕ) → Result ℕ Refusal → Fields → Type 0
EnteredAs file (Ok n) fields = Entered file n fields
EnteredAs file (Err why) fields = (book_reply file ≡ Err why) × (spoiled_reply file ≡ Err why)
