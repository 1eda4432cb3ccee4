-- The words of a call of the program.
use Rattle.std.specs.Prelude.{ℕ, List, [], map, drop, string_bytes, Result, Ok, Err, String}
use Rattle.std.specs.Vec.Iter.{into_iter_items}
use Rattle.std.specs.declared.vec.IntoIter.{IntoIter}

-- the words behind the first, which is the program's name; none where the system's words are no text
abbrev pub words_behind : {A E : Type 0} → Result (IntoIter (String A) A) E → List (List ℕ)
words_behind (Ok args) = map string_bytes (drop 1 (into_iter_items args))
words_behind (Err error) = []
