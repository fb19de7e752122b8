-- A page has room for 2,048 bytes of text.
use Rattle.std.specs.Prelude.{List, ℕ, take}

-- what it keeps of a text: all of it, or as much as fits
unfoldable pub kept : List ℕ → List ℕ
kept text = take 2048 text
