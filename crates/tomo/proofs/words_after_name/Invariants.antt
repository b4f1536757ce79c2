use Rattle.std.proofs.Common.{◌≡◌, ◌++◌, drop, map, string_bytes}
use Rattle.std.specs.Vec.Iter.{into_iter_items}
use Rattle.tomo.proofs.words_after_name.Given as goal

-- the words so far, and those to come
abbrev pub invariant-loop-word : goal.invariant-loop-word
invariant-loop-word l = l.words ++ map string_bytes (into_iter_items l.word-iterator) ≡ map string_bytes (drop 1 (into_iter_items l.fn.args))
