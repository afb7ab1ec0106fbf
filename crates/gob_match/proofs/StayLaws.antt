-- What is said of a match, of a clash and of what is received stays the same when the table of the stream grows.
use Rattle.std.proofs.Common.{inl, inr, List, subst}
use Rattle.gob_types.specs.declared.id.TypeId.{TypeId}
use Rattle.gob_types.specs.declared.kind.Field.{Field}
use Rattle.gob_types.specs.declared.kind.Kind.{Kind}
use Rattle.gob_types.specs.declared.kind.Shape.{Shape}
use Rattle.gob_types.specs.Ready.{IsReady}
use Rattle.gob_types.specs.Table.{Table}
use Rattle.gob_types.proofs.PublicLaws.{Keeps, shape_back, ready_on}
use Rattle.gob_value.specs.Fits.{Fits}
use Rattle.gob_value.specs.Tree.{Tree, Trees, Pairs, Fields}
use Rattle.gob_value.proofs.PublicLaws.{spells_on}
use Rattle.gob_match.specs.declared.pair.TypePair.{TypePair}
use Rattle.gob_match.specs.declared.reason.ClashReason.{ClashReason}
use Rattle.gob_match.specs.declared.step.TypeStep.{TypeStep}
use Rattle.gob_match.specs.Matching.{HasShapes, HasMatchingShapes, NamesByStep, Match}
use Rattle.gob_match.specs.Clashing.{LeadsBySteps, here, onward, ClashAt, IsLeastClash}
use Rattle.gob_match.specs.Received.{Receives, of_types as of_shapes, ReceivesAs, of_basics, of_opaques, of_arrays}
use Rattle.gob_match.specs.Received.{of_slices, of_maps, of_structs, ReceivesEach, no_element, element, ReceivesPairs}
use Rattle.gob_match.specs.Received.{no_entry, entry, ReceivesFields, no_more, absent, received}
use Rattle.gob_match.proofs.ClashLaws.{types_match_or_clash}
use Rattle.gob_match.proofs.SearchLaws.{IsReadyPair, named_ready}
use Rattle.gob_match.proofs.ChoiceLaws.{ready_match_or_clash}
use Rattle.gob_match.proofs.UniqueLaws.{one}
use Rattle.gob_match.proofs.HaveLaws.{have}

-- the steps lead there, to a pair of ready types
record LeadsReady (T U : Table) (path : List TypeStep) (p q : TypePair) : Type 0 where
  leads : LeadsBySteps T U path p q
  ready : IsReadyPair T U q

module _ {T V U : Table} (keeps : Keeps T V) where
  -- ---- from the smaller table to the larger
  shapes_on : {p : TypePair} {s r : Shape} → HasShapes T U p s r → HasShapes V U p s r
  shapes_on h = record { stream = keeps.shape _ _ h.stream; wanted = h.wanted }

  matching_on : {p : TypePair} → HasMatchingShapes T U p → HasMatchingShapes V U p
  matching_on h = record { stream = h.stream; wanted = h.wanted; shapes = shapes_on h.shapes; match = h.match }

  names_on : {p q : TypePair} {s : TypeStep} → NamesByStep T U p s q → NamesByStep V U p s q
  names_on h = record { stream = h.stream; wanted = h.wanted; shapes = shapes_on h.shapes; named = h.named }

  leads_on : {path : List TypeStep} {p q : TypePair} → LeadsBySteps T U path p q → LeadsBySteps V U path p q
  leads_on here = here
  leads_on (onward m n l) = onward (matching_on m) (names_on n) (leads_on l)

  pub clash_on : {t u : TypeId} {path : List TypeStep} {reason : ClashReason} → ClashAt T U t u path reason
      → ClashAt V U t u path reason
  clash_on c = record {
    last = c.last;
    leads = leads_on c.leads;
    clash = record {
      stream = c.clash.stream;
      wanted = c.clash.wanted;
      shapes = shapes_on c.clash.shapes;
      clash =
          c.clash.clash;
    };
  }

  mutual
    pub receives_on : {t u : TypeId} {v w : Tree} → Receives T U t u v w → Receives V U t u v w
    receives_on (of_shapes e f r) = of_shapes (keeps.shape _ _ e) f (as_on r)

    as_on : {k l : Kind} {v w : Tree} → ReceivesAs T U k l v w → ReceivesAs V U k l v w
    as_on of_basics = of_basics
    as_on of_opaques = of_opaques
    as_on (of_arrays r) = of_arrays (each_on r)
    as_on (of_slices r) = of_slices (each_on r)
    as_on (of_maps r) = of_maps (pairs_on r)
    as_on (of_structs r) = of_structs (fields_on r)

    each_on : {e f : TypeId} {vs ws : Trees} → ReceivesEach T U e f vs ws → ReceivesEach V U e f vs ws
    each_on no_element = no_element
    each_on (element r rs) = element (receives_on r) (each_on rs)

    pairs_on : {k l e f : TypeId} {ps qs : Pairs} → ReceivesPairs T U k l e f ps qs → ReceivesPairs V U k l e f ps qs
    pairs_on no_entry = no_entry
    pairs_on (entry x r rs) = entry (receives_on x) (receives_on r) (pairs_on rs)

    fields_on : {types : List Field} {fs : Fields} {n : _} {wanted : List Field} {gs : Fields}
        → ReceivesFields T U types fs n wanted gs → ReceivesFields V U types fs n wanted gs
    fields_on no_more = no_more
    fields_on (absent a rs) = absent a (fields_on rs)
    fields_on (received h r rs) = received h (receives_on r) (fields_on rs)

  -- ---- and back, for types that were ready
  shapes_back : {p : TypePair} {s r : Shape} → IsReadyPair T U p → HasShapes V U p s r → HasShapes T U p s r
  shapes_back ready h = record { stream = shape_back keeps ready.stream h.stream; wanted = h.wanted }

  matching_back : {p : TypePair} → IsReadyPair T U p → HasMatchingShapes V U p → HasMatchingShapes T U p
  matching_back ready h = record {
    stream = h.stream;
    wanted = h.wanted;
    shapes = shapes_back ready h.shapes;
    match =
        h.match;
  }

  names_back : {p q : TypePair} {s : TypeStep} → IsReadyPair T U p → NamesByStep V U p s q → NamesByStep T U p s q
  names_back ready h = record {
    stream = h.stream;
    wanted = h.wanted;
    shapes = shapes_back ready h.shapes;
    named =
        h.named;
  }

  leads_back : {path : List TypeStep} {p q : TypePair} → IsReadyPair T U p → LeadsBySteps V U path p q
      → LeadsReady T U path p q
  leads_back ready here = record { leads = here; ready = ready }
  leads_back ready (onward m n l) =
      let named = names_back ready n in
      let rest = leads_back (named_ready ready named) l in
      record { leads = onward (matching_back ready m) named rest.leads; ready = rest.ready }

  pub clash_back : {t u : TypeId} {path : List TypeStep} {reason : ClashReason} → IsReady T t → IsReady U u
      → ClashAt V U t u path reason → ClashAt T U t u path reason
  clash_back r s c =
      let l = leads_back (record { stream = r; wanted = s }) c.leads in
      record {
        last = c.last;
        leads = l.leads;
        clash = record {
          stream = c.clash.stream;
          wanted = c.clash.wanted;
          shapes = shapes_back l.ready c.clash.shapes;
          clash = c.clash.clash;
        };
      }

  pub least_back : {t u : TypeId} {path : List TypeStep} {reason : ClashReason} → IsReady T t → IsReady U u
      → IsLeastClash V U t u path reason → IsLeastClash T U t u path reason
  least_back r s c = record { clash = clash_back r s c.clash; least = λ other why h. c.least other why (clash_on h) }

  -- two types match by the one table where they do by the other, since where they don't they clash
  pub match_back : {t u : TypeId} → IsReady T t → IsReady U u → Match V U t u → Match T U t u
  match_back {t = t} {u = u} r s m = elim (ready_match_or_clash T U t u r s) as (λ _. Match T U t u) [
    | inl h ↦ h
    | inr c ↦ absurd (types_match_or_clash m (clash_on c.2))
  ]

  pub match_on : {t u : TypeId} → IsReady T t → IsReady U u → Match T U t u → Match V U t u
  match_on {t = t} {u = u} r s m = elim (ready_match_or_clash V U t u (ready_on keeps r) s) as (λ _. Match V U t u) [
    | inl h ↦ h
    | inr c ↦ absurd (types_match_or_clash m (clash_back r s c.2))
  ]

  -- and the value that is received is the same
  pub receives_back : {t u : TypeId} {v w : Tree} → IsReady T t → IsReady U u → Match T U t u → Fits T t v
      → Receives V U t u v w → Receives T U t u v w
  receives_back {t = t} {u = u} {v = v} r s m f h =
      let there = match_on r s m in
      let made = have m.closed f.spelled m.holds in
      let same = one there.closed (spells_on keeps f.spelled) there.holds (receives_on made.receives) h in
      subst (λ (x : Tree). Receives T U t u v x) same made.receives
