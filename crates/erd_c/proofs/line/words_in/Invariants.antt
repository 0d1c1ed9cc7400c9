use Rattle.std.proofs.Common.{◌≡◌, ◌++◌, map, drop}
use Rattle.erd_c.specs.Lines.{words_in}
use Rattle.erd_c.proofs.Words.{joined}
use Rattle.erd_c.proofs.line.words_in.Given as goal

abbrev pub invariant-loop-byte : goal.invariant-loop-byte
invariant-loop-byte l = map (λ word. word.items) l.words.items ++ joined l.word.items (words_in (drop l.byte-index l.bytes)) ≡ words_in l.bytes
