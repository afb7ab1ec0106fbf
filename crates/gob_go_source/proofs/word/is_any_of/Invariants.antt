-- What the rest says is said of all.
use Rattle.std.proofs.Common.{◌≡◌, drop}
use Rattle.std.specs.Prelude.{bytes_eq}
use Rattle.std.specs.List.{list_any}
use Rattle.gob_go_source.proofs.word.is_any_of.Given as goal

abbrev pub invariant-loop-word : goal.invariant-loop-word
invariant-loop-word l =
    list_any (λ word. bytes_eq word.now l.text) (drop l.word-index l.words)
    ≡ list_any (λ word. bytes_eq word.now l.text) l.words
