-- The exit status of a program: it says one thing alone, that the reader of the listing wanted no more.
use Rattle.std.specs.Prelude.{◌≡◌, ◌⊎◌, ℕ, Result, Ok, Err}
use Rattle.lister.specs.declared.Trouble.{Trouble}
use Rattle.lister.specs.declared.Trouble.TheVariants.{Unread, Unwritten, Unwanted}

-- 141 is what a shell tells where the signal SIGPIPE ended a program: 128 and that signal's number
abbrev pub status_of : Result (Unit {0}) Trouble → ℕ
status_of (Err Unwanted) = 141
status_of (Err Unread) = 0
status_of (Err Unwritten) = 0
status_of (Ok _) = 0

abbrev pub Ends : (status : ℕ) → Type 0
Ends status = (status ≡ 0) ⊎ (status ≡ 141)
