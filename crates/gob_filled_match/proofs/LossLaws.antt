-- What values leave out, and what is known of it when the table of the stream grows.
use Rattle.std.proofs.Common.{[], List, refl, subst}
use Rattle.std.proofs.lemmas.Option.{IfSome_then}
use Rattle.gob_types.specs.declared.id.TypeId.{TypeId}
use Rattle.gob_types.specs.Table.{Table}
use Rattle.gob_types.proofs.PublicLaws.{Keeps, ready_on}
use Rattle.gob_value.specs.Tree.{Tree}
use Rattle.gob_value.specs.Top.{SpellsTop}
use Rattle.gob_value.proofs.PublicLaws.{same_top}
use Rattle.gob_match.specs.declared.pair.TypePair.{TypePair}
use Rattle.gob_left_out.specs.LeftOut.{AreLeftOut, Row}
use Rattle.gob_left_out.proofs.PublicLaws.{left_back}
use Rattle.gob_filled.specs.Filled.{filled, Fillings}
use Rattle.gob_go.specs.Meaning.{IsFilled, is_filled}
use Rattle.gob_go.specs.declared.filled.Filled.{Filled, out-Filled}
use Rattle.gob_filled_match.specs.Loss.{IsKnownLoss, KnowsLoss}
use Rattle.gob_filled_match.specs.declared.left.LastLoss.{LastLoss}
use Rattle.gob_filled_match.proofs.StayLaws.{match_grows}

-- the tree of the bytes is that of the value
pub left_of_tree : {T U : Table} {t : TypeId} {p : TypePair} {kept : Filled} {value v : Tree} {fs : Fillings}
    {rows : List Row} → SpellsTop T t value (out-Filled kept).skeleton.items → AreLeftOut T U p value rows
    → IsFilled T t kept (filled v fs) → AreLeftOut T U p v rows
left_of_tree {T = T} {U = U} {p = p} {rows = rows} spelled left (is_filled top fl) =
    subst (λ x. AreLeftOut T U p x rows) (same_top [] [] spelled top refl).value left

-- what is known of a type stays so when the table of the stream grows
pub loss_on : {T V : Table} (U : Table) (u : TypeId) (last : LastLoss) → Keeps T V → KnowsLoss T U u last
    → KnowsLoss V U u last
loss_on {T = T} {V = V} U u last keeps k =
    IfSome_then last.known {P = IsKnownLoss T U u} {Q = IsKnownLoss V U u} k (λ known l. record {
      ready = ready_on keeps l.ready;
      wanted_ready = l.wanted_ready;
      match = match_grows keeps l.match;
      nothing = λ none v path x left.
          l.nothing none v path x (left_back keeps (record { stream = l.ready; wanted = l.wanted_ready }) left);
    })
