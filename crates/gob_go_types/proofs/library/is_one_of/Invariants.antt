-- What the rest says is said of all.
use Rattle.std.proofs.Common.{◌≡◌, drop}
use Rattle.std.specs.Prelude.{bytes_eq}
use Rattle.std.specs.List.{list_any}
use Rattle.gob_go_types.proofs.library.is_one_of.Given as goal

abbrev pub invariant-loop-word : goal.invariant-loop-word
invariant-loop-word l =
    list_any (λ word. bytes_eq word.now l.name) (drop l.word-index l.words)
    ≡ list_any (λ word. bytes_eq word.now l.name) l.words
