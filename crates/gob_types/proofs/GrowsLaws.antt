-- Lists of ids that grow at their end.
use Rattle.std.proofs.Common.{◌≡◌, List, [], ◌++◌, sym, ap, ◌∙◌, append_assoc, append-nil}
use Rattle.gob_types.specs.declared.id.TypeId.{TypeId}
use Rattle.gob_types.specs.Machine.Walk.{AddsAll, Grows}

pub grows_by : {old new : List TypeId} {P : TypeId → Type 0} → AddsAll old new P → Grows old new
grows_by a = record { more = a.more; grown = a.grown }

pub grows_as : {a b c : List TypeId} → Grows a b → c ≡ b → Grows a c
grows_as g e = record { more = g.more; grown = e ∙ g.grown }

pub grows_not : {ids : List TypeId} → Grows ids ids
grows_not {ids = ids} = record { more = []; grown = sym (append-nil ids) }

pub grows_then : {a b c : List TypeId} → Grows a b → Grows b c → Grows a c
grows_then {a = a} g h = record {
  more = g.more ++ h.more;
  grown = h.grown ∙ ap (λ l. l ++ h.more) g.grown
      ∙ append_assoc a g.more h.more;
}
