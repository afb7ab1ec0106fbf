-- What is said of values received, and of the matches that are kept, stays the same when the table of the stream grows.
use Rattle.std.proofs.Common.{◌≡◌, ◌∙◌, Some, ap, sym}
use Rattle.std.proofs.lemmas.Option.{IfSome_then}
use Rattle.gob_types.specs.declared.id.TypeId.{TypeId}
use Rattle.gob_types.specs.declared.kind.Shape.{Shape}
use Rattle.gob_types.specs.Table.{Table}
use Rattle.gob_types.proofs.PublicLaws.{Keeps, some_injective}
use Rattle.gob_value.proofs.PublicLaws.{top_on}
use Rattle.gob_match.specs.declared.kept.KeptMatch.{KeptMatch}
use Rattle.gob_match.specs.declared.pair.TypePair.{TypePair}
use Rattle.gob_match.specs.declared.step.TypeStep.{TypeStep}
use Rattle.gob_match.specs.Matching.{HasShapes, Match, NamesByStep}
use Rattle.gob_match.proofs.PublicLaws.{receives_on}
use Rattle.gob_filled.specs.Filled.{Filled}
use Rattle.gob_filled_match.specs.Calls.{IsKnown, KeepsKnown}
use Rattle.gob_filled_match.specs.Numbered.{numbered}
use Rattle.gob_filled_match.specs.Received.{ReceivesFilled, holds_nothing, in_numbers}
use Rattle.gob_filled_match.specs.declared.matching.LastMatch.{LastMatch}
use Rattle.gob_filled_match.proofs.NumberedLaws.{numbered_keeps}

pub filled_received_on : {T V U : Table} {t u : TypeId} {v w : Filled} → Keeps T V → ReceivesFilled T U t u v w
    → ReceivesFilled V U t u v w
filled_received_on keeps (holds_nothing r) = holds_nothing (receives_on keeps r)
filled_received_on keeps (in_numbers s i n r m j o) =
    let grown = numbered_keeps keeps in in_numbers (top_on keeps s) i (top_on grown n) (receives_on grown r) m j o

-- ---- matches
shapes_on : {T V U : Table} {p : TypePair} {s r : Shape} → Keeps T V → HasShapes T U p s r → HasShapes V U p s r
shapes_on keeps h = record { stream = keeps.shape _ _ h.stream; wanted = h.wanted }

-- a pair of types that the smaller table has names in the larger one what it names there
named_back : {T V U : Table} {p q : TypePair} {s : TypeStep} {r w : Shape} → Keeps T V → HasShapes T U p r w
    → NamesByStep V U p s q → NamesByStep T U p s q
named_back {T = T} {V = V} {p = p} {r = r} keeps h n =
    let same : r ≡ n.stream = some_injective (sym (keeps.shape _ _ h.stream) ∙ n.shapes.stream) in
    record {
      stream = n.stream;
      wanted = n.wanted;
      shapes = record { stream = h.stream ∙ ap (λ (x : Shape). Some x) same; wanted = n.shapes.wanted };
      named = n.named;
    }

pub match_grows : {T V U : Table} {t u : TypeId} → Keeps T V → Match T U t u → Match V U t u
match_grows keeps m = record {
  pairs = m.pairs;
  closed = record {
    match = λ p h.
        let was = m.closed.match p h in
        record {
          stream = was.stream;
          wanted = was.wanted;
          shapes = shapes_on keeps was.shapes;
          match = was.match;
        };
    named = λ p q s h n. m.closed.named p q s h (named_back keeps (m.closed.match p h).shapes n);
  };
  holds = m.holds;
}

kept_on : {T V U : Table} {u : TypeId} → Keeps T V → (kept : KeptMatch) → IsKnown T U u kept → IsKnown V U u kept
kept_on keeps kept k =
    let is = k.is.1 in
    record {
      match = match_grows keeps k.match;
      is = (
        k.is.0,
        record {
          begins = is.begins;
          conversion = λ n p at.
              let was = is.conversion n p at in (
                was.0,
                was.1,
                record {
                  stream = was.2.stream;
                  wanted = was.2.wanted;
                  shapes = shapes_on keeps was.2.shapes;
                  converts = was.2.converts;
                },
              );
          named = λ n p q s at by. is.named n p q s at (named_back keeps (is.conversion n p at).2.shapes by);
        },
      );
    }

pub known_on : {T V : Table} (U : Table) (u : TypeId) (last : LastMatch) → Keeps T V → KeepsKnown T U u last
    → KeepsKnown V U u last
known_on {T = T} {V = V} U u last keeps k = (
  IfSome_then last.plain {P = IsKnown T U u} {Q = IsKnown V U u} k.0 (kept_on keeps),
  IfSome_then last.numbered {P = IsKnown (numbered T) (numbered U) u} {Q = IsKnown (numbered V) (numbered U) u} k.1
      (kept_on (numbered_keeps keeps)),
)
