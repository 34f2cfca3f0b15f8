-- What was read of the script and is not used yet.
use Rattle.std.specs.Prelude.{◌≡◌, ℕ, ◌-◌, List, ◌++◌, take, drop}
use Rattle.door_log.specs.declared.unread.Unread.{Unread}

-- The bytes of the chunk that are not used.
abbrev pub unread : Unread → List ℕ
unread u = take (u.to - u.from) (drop u.from u.chunk)

-- All that was unread is, and more behind it.
abbrev pub Grows : Unread → Unread → List ℕ → Type 0
Grows before after more = unread after ≡ unread before ++ more
